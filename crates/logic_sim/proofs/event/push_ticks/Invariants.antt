use Rattle.std.proofs.Common.{◌≡◌, ◌++◌, map, take}
use Rattle.logic_sim.specs.Event.{tick_at}
use Rattle.logic_sim.proofs.event.push_ticks.Given as goal

-- the flip-flops so far are to tick
abbrev pub invariant-loop-flip_flop : goal.invariant-loop-flip_flop
invariant-loop-flip_flop l = l.made ≡ l.fn.made ++ map (tick_at l.time) (take l.flip_flop-index l.flip_flops)
