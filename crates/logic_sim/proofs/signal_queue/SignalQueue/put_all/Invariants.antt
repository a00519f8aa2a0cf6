use Rattle.std.proofs.Common.{◌≡◌, ℕ, ◌<◌, true, false, length}
use Rattle.std.specs.Prelude.{slice_index_or}
use Rattle.logic_sim.proofs.signal_queue.SignalQueue.put_all.Given as goal

-- the signals so far wait
abbrev pub invariant-loop-signal : goal.invariant-loop-signal
invariant-loop-signal l = record {
  same_count : length l.self ≡ length l.fn.self;
  is_count : l.count ≡ length l.fn.self;
  all_wait : (k : ℕ) → k < l.signal → slice_index_or l.self k false ≡ true;
}
