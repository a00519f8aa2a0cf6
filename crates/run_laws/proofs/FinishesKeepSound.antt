-- Where a task ends, a sound execution stays sound.
use Rattle.app_laws.specs.Applications.{Application}
use Rattle.run_laws.specs.FinishBasis.{FinishBasis}
use Rattle.run_laws.specs.Finishes.{IsEnd}
use Rattle.run_laws.specs.Laws.{FinishesKeepSound}
use Rattle.run_laws.proofs.Ended.{ready_after}
use Rattle.run_laws.proofs.EndedCells.{whole_is}
use Rattle.run_laws.proofs.EndedCounts.{counts_after}
use Rattle.run_laws.proofs.EndedJobs.{jobs_match_after}
use Rattle.run_laws.proofs.EndedOrder.{all_unblocked}
use Rattle.run_laws.proofs.EndedSets.{covers_after}

pub finishes_keep_sound : {V : Type 0} {app : Application V} → FinishBasis app → FinishesKeepSound app
finishes_keep_sound {V} {app} basis old now done job jobs others values sound performed within finished =
    let end : IsEnd app old jobs values done job others now = record { sound = sound; performed = performed; within = within; finished = finished } in
    record {
      keys_and_counts = counts_after basis end;
      outs_match = jobs_match_after basis end;
      whole = whole_is basis end;
      ready = ready_after basis end;
      recorded_covers = covers_after basis end;
      running_unblocked = all_unblocked basis end;
    }
