use Rattle.std.proofs.Common.{◌≡◌, ◌<◌, length}
use Rattle.std.specs.List.{All}
use Rattle.engine_trials.proofs.crowds.many_contacts.Given as goal

abbrev pub invariant-loop-person : goal.invariant-loop-person
invariant-loop-person l = record {
  one_each : length l.contacts.items ≡ l.person;
  known : All (λ contact. contact < 16400) l.contacts.items;
}
