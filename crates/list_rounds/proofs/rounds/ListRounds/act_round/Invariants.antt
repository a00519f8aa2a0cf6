use Rattle.std.proofs.Common.{◌≡◌, ℕ, ◌+◌, length}
use Rattle.commuting.specs.Rounds.{after_round}
use Rattle.list_rounds.specs.Course.{IsActing, state_in}
use Rattle.list_rounds.specs.Rounds.{PassesLimit}
use Rattle.list_rounds.proofs.rounds.ListRounds.act_round.Given as goal

abbrev pub invariant-loop-task : goal.invariant-loop-task
invariant-loop-task g l = record {
  acting : IsActing (g.A.App.meaning l.app) l.fn.self.start l.limit (after_round (g.A.App.meaning l.app) l.fn.self.state) l.parts l.clear.items;
  told : g.A.App.tells l.app l.horizon l.parts.pending;
  ended : l.parts.ended + length l.clear.items ≡ l.fn.self.ended + length l.fn.clear.items;
  passes : (created : ℕ) → PassesLimit (g.A.App.meaning l.app) (state_in l.parts) l.parts.ended l.limit l.clear.items created
      → PassesLimit (g.A.App.meaning l.fn.self.app) l.fn.self.state l.fn.self.ended l.fn.self.limit l.fn.clear.items created;
}

abbrev pub decreases-loop-task : goal.decreases-loop-task
decreases-loop-task g l = length l.clear.items
