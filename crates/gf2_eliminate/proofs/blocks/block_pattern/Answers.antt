use Rattle.std.proofs.Common.{◌≡◌, ◌∙◌, ◌*◌, List, ℕ, arith, ap, sym, subst}
use Rattle.mtx_reader.specs.Ascending.{numbers_from}
use Rattle.mtx_reader.specs.Places.{Place}
use Rattle.gf2_eliminate.specs.Blocks.{blocks_places}
use Rattle.gf2_eliminate.proofs.Diagonal.{EndAbove, block_added, blocks_above, blocks-sound}
use Rattle.gf2_eliminate.proofs.blocks.block_pattern.Goals as goal

pub push_block-requires-clause-behind : goal.push_block-requires-clause-behind
push_block-requires-clause-behind c =
    subst (λ (places : List Place). EndAbove places (3 * c.loop-block.block)) (sym c.loop-block.invariant) (blocks_above c.loop-block.block)

pub loop-block-preserved : goal.loop-block-preserved
loop-block-preserved c = block_added c.loop-block.block c.loop-block.places c.push_block.new.places c.loop-block.invariant c.in_ok-push_block.ensures

pub returns-clause-sound : goal.returns-clause-sound
returns-clause-sound c =
    let all : c.loop-block.block ≡ c.args.n = omega arith in
    blocks-sound c.args.n c.loop-block.places c.requires.few (c.loop-block.invariant ∙ ap (λ (n : ℕ). blocks_places (numbers_from 0 n)) all)
