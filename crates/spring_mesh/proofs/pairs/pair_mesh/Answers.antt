use Rattle.std.proofs.Common.{◌≡◌, arith, ap, ◌∙◌}
use Rattle.spring_mesh.specs.Pairs.{generated_input}
use Rattle.spring_mesh.proofs.PairMeshes.{pair_added, pairs-sound}
use Rattle.spring_mesh.proofs.pairs.pair_mesh.Goals as goal

pub loop-pair-preserved : goal.loop-pair-preserved
loop-pair-preserved c = pair_added c.loop-pair.pair c.loop-pair.file c.push_pair.new.file c.loop-pair.invariant c.in_ok-push_pair.ensures

pub returns-clause-sound : goal.returns-clause-sound
returns-clause-sound c =
    let all : c.loop-pair.pair ≡ c.args.n = omega arith in
    pairs-sound c.args.n c.loop-pair.file c.requires.few (c.loop-pair.invariant ∙ ap generated_input all)
