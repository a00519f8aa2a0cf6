use Rattle.std.proofs.Common.{◌≡◌, length}
use Rattle.app_laws.specs.Applications.{AreFitStarts}
use Rattle.example_app.specs.Introduction.{introductions}
use Rattle.engine_trials.proofs.crowds.many_meetings.Given as goal

abbrev pub invariant-loop-group : goal.invariant-loop-group
invariant-loop-group l = record {
  fit : AreFitStarts (introductions 16400) l.first;
  few : length l.first ≡ l.group;
}
