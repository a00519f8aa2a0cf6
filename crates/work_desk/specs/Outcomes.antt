-- What a look at a desk comes to.
use Rattle.std.specs.Prelude.{◌≡◌}
use Rattle.work_desk.specs.declared.outcomes.Collected.{Collected}
use Rattle.work_desk.specs.declared.outcomes.Collected.TheVariants as collected
use Rattle.work_desk.specs.declared.outcomes.Taken.{Taken}
use Rattle.work_desk.specs.declared.outcomes.Taken.TheVariants as taken
use Rattle.work_desk.specs.Seats.{BusyState, SeatState}

module _ {T K : Type 0} where
  abbrev pub seat_of : BusyState T K → SeatState K
  seat_of busy = record { desk = busy.desk; key = busy.key }

  -- what came of the work, the work itself, or the ticket as it was
  abbrev pub IsCollected : (K → T → T → Type 0) → BusyState T K → Collected T K → Type 0
  IsCollected done ticket (collected.Done giver y) = (giver ≡ seat_of ticket) × done ticket.key ticket.given y
  IsCollected done ticket (collected.Back giver x) = (giver ≡ seat_of ticket) × (x ≡ ticket.given)
  IsCollected done ticket (collected.Away back) = back ≡ ticket

  -- work that may be given, or the worker as it was
  abbrev pub IsTaken : (K → T → Type 0) → SeatState K → Taken T K → Type 0
  IsTaken may worker (taken.Work task x) = (task ≡ record { desk = worker.desk; key = worker.key; given = x }) × may worker.key x
  IsTaken may worker (taken.Nothing back) = back ≡ worker
  IsTaken may worker taken.Closed = Unit {0}
