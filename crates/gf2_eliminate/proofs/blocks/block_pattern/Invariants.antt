use Rattle.std.proofs.Common.{◌≡◌}
use Rattle.mtx_reader.specs.Ascending.{numbers_from}
use Rattle.gf2_eliminate.specs.Blocks.{blocks_places}
use Rattle.gf2_eliminate.proofs.blocks.block_pattern.Given as goal

-- the blocks so far have their places
abbrev pub invariant-loop-block : goal.invariant-loop-block
invariant-loop-block l = l.places ≡ blocks_places (numbers_from 0 l.block)
