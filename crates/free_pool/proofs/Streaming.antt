-- What a run answers once its workers have stopped, by what was told to the sink.
use Rattle.std.proofs.Common.{◌≡◌, ℕ, Bool, true, List, [], ◌++◌, Option, sym, subst}
use Rattle.outer_edge.specs.Transfers.{transfer_of}
use Rattle.output_log.specs.Entries.{joined_texts}
use Rattle.output_log.specs.Laws.{JoinsAddLengths, TextsFollow}
use Rattle.app_laws.specs.Applications.{Application}
use Rattle.app_laws.specs.declared.serial_run.Finals.{Finals}
use Rattle.run_laws.specs.CourseLaws.{DrainsKeepCourse, NoNodesAreTheEnd}
use Rattle.run_laws.specs.Events.{drainable, drained}
use Rattle.run_laws.specs.Progress.{Progress}
use Rattle.source_pool.specs.KeptLaws.{DrainedEntriesAreFirst}
use Rattle.source_pool.specs.Streams.{TakesFront}
use Rattle.source_pool.specs.TellingLaws.{AllIsWritten, FrontsAreWritten}
use Rattle.text_outlet.specs.declared.outlet.Outlet.{Outlet}
use Rattle.text_outlet.specs.Sending.{HasTold, IsSent, TellsMore}
use Rattle.worker_gate.specs.Fits.{Sum, drained_count}
use Rattle.free_pool.specs.Streams.{IsStreamEnd, IsStreaming, IsToldTo}
use Rattle.free_pool.proofs.Flows.{lost_end, stream_end, stream_front}
use Rattle.free_pool.proofs.Told.{drain_told, drained_end, end_told, front_told}

-- what the laws below say
pub record EndingLaws {V : Type 0} (app : Application V) : Type 0 where
  pub lengths : JoinsAddLengths
  pub texts : TextsFollow
  pub first : DrainedEntriesAreFirst app
  pub drains : DrainsKeepCourse app
  pub ends : NoNodesAreTheEnd app
  pub writes : AllIsWritten
  pub fronts : FrontsAreWritten

module _ {V K : Type 0} {app : Application V} (laws : EndingLaws app) (known : K → Option (List ℕ)) (faults : K → ℕ) (origin : Progress V) (sum : Sum V) (begin : K) (now : Progress V)
    (outlet : Outlet) (sink : K) (streaming : IsStreaming app known faults origin sum begin now outlet sink) where
  -- ---- where nothing more is told

  pub front_so_far : TakesFront app origin (transfer_of known faults begin sink)
  front_so_far =
      stream_front app origin (transfer_of known faults begin sink) laws.fronts outlet.told outlet.held outlet.has_failed
      (front_told origin laws.texts (drained_count now) outlet.told streaming.told) streaming.sent

  pub untold_end : outlet.has_failed ≡ true → now.nodes ≡ [] → (finals : Finals V) → finals.store ≡ now.cells → finals.text ≡ joined_texts now.log → finals.count ≡ now.ended
      → IsStreamEnd app origin (transfer_of known faults begin sink) finals 0 true
  untold_end failed none finals store text count =
      let transfer = transfer_of known faults begin sink in
      lost_end app origin transfer outlet.told outlet.held finals
      (end_told origin laws.lengths laws.texts laws.first streaming.tellable.sound streaming.tellable.logged now sum outlet.told streaming.continues streaming.told laws.ends none finals store text count)
      (subst (λ (b : Bool). IsSent transfer b outlet.held outlet.told) failed streaming.sent)

  -- ---- where what was drained is told

  module _ (more : List ℕ) (more_is : more ≡ joined_texts (drainable app now.nodes now.log)) (next : Outlet) (next_sink : K) (tells : TellsMore known faults outlet sink next next_sink more) where
    told_more : HasTold known faults begin next next_sink (outlet.told ++ more)
    told_more = tells begin outlet.told streaming.sent

    pub front_with_more : TakesFront app origin (transfer_of known faults begin next_sink)
    front_with_more =
        let then = drain_told origin laws.lengths laws.texts laws.first streaming.tellable.sound streaming.tellable.logged now sum outlet.told streaming.continues streaming.told laws.drains in
        let told = subst (λ (one : List ℕ). IsToldTo app origin (drained_count (drained app now)) (outlet.told ++ one)) (sym more_is) then in
        stream_front app origin (transfer_of known faults begin next_sink) laws.fronts (outlet.told ++ more) next.held next.has_failed
        (front_told origin laws.texts (drained_count (drained app now)) (outlet.told ++ more) told) told_more

    -- all that is held goes out
    pub told_end : (failed : Bool) (last_sink : K) → IsSent (transfer_of known faults begin last_sink) failed [] (outlet.told ++ more) → now.nodes ≡ [] → (finals : Finals V)
        → finals.store ≡ now.cells → finals.text ≡ joined_texts (drained app now).log → finals.count ≡ now.ended → IsStreamEnd app origin (transfer_of known faults begin last_sink) finals 0 failed
    told_end failed last_sink sent none finals store text count =
        let end = drained_end origin laws.lengths laws.texts laws.first streaming.tellable.sound streaming.tellable.logged now sum outlet.told streaming.continues streaming.told laws.drains
        laws.ends none more more_is finals store text count in
        stream_end app origin (transfer_of known faults begin last_sink) laws.writes (outlet.told ++ more) failed finals end.0 sent (λ no_fault. end.1)
