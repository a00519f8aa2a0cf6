use Rattle.std.proofs.Common.{◌<◌, ◌∙◌, ℕ, Some, arith, ap, get_or, sym}
use Rattle.kdg_graph.proofs.Common.{Access, Read, is_same}
use Rattle.kdg_graph.proofs.Filing.{not_there, step_ascends, step_passes}
use Rattle.kdg_graph.proofs.exchange.SetWalk.has.Goals as goal

pub returns-then-loc-pair-clause-found : goal.returns-then-loc-pair-clause-found
returns-then-loc-pair-clause-found c =
    sym (ap (is_same (Some c.args.access)) (sym (c.loop-self.invariant.beyond c.args.loc (omega arith))) ∙ not_there c.loop-self.self.left.now c.args.loc c.args.access (0, Read) c.loop-self.invariant.ascending c.in-len1-up.len_at_least c.if-loc-pair.true)

pub returns-then-pair-loc-clause-ascending : goal.returns-then-pair-loc-clause-ascending
returns-then-pair-loc-clause-ascending c = step_ascends c.loop-self.self.left.now c.loop-self.invariant.ascending c.in-len1-up.len_at_least

pub loop-self-preserved : goal.loop-self-preserved
loop-self-preserved c =
    let first : ℕ × Access = get_or c.loop-self.self.left.now 0 (0, Read) in
    let before : first.0 < c.args.loc = omega (arith, c.if-loc-pair.false, c.if-pair-loc.false) in
    record {
      ascending = step_ascends c.loop-self.self.left.now c.loop-self.invariant.ascending c.in-len1-up.len_at_least;
      beyond = step_passes c.loop-self.self.left.now c.args.self.now.left.now c.args.loc (0, Read) c.in-len1-up.len_at_least before c.loop-self.invariant.beyond;
    }
