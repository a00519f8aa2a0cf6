-- Whatever happens, and whatever other jobs are in hand, an execution has come from its start.
use Rattle.std.proofs.Common.{◌≡◌, ℕ, List, [], ◌∷◌, ◌++◌, append-nil, append_assoc, refl, sym, ap, subst, ◌∙◌}
use Rattle.std.specs.List.Sorted.{IsPermutation}
use Rattle.std.proofs.lemmas.List.Sorted.{IsPermutation-append_right, IsPermutation-map, IsPermutation-middle, IsPermutation-refl, IsPermutation-sym, IsPermutation-to_front, IsPermutation-trans}
use Rattle.task_order.specs.declared.key.Key.{Key}
use Rattle.task_order.specs.declared.task.Task.{Task}
use Rattle.output_log.specs.Entries.{Entry, with_entry}
use Rattle.app_laws.specs.Applications.{Application}
use Rattle.crew.specs.Jobs.{IsPerformed}
use Rattle.run_laws.specs.Course.{HasCome}
use Rattle.run_laws.specs.CourseBasis.{CourseBasis}
use Rattle.run_laws.specs.CourseLaws.{EventsKeepCourse, ended_by, keys_of}
use Rattle.run_laws.specs.Events.{drainable}
use Rattle.run_laws.specs.Jobs.{Done, Job}
use Rattle.run_laws.specs.Laws.{Event, Moment}
use Rattle.run_laws.specs.Progress.{Progress}
use Rattle.run_laws.proofs.Course.{claims_keep_course, giving_up_keeps_course}
use Rattle.run_laws.proofs.CourseDrains.{drains_keep_course}
use Rattle.run_laws.proofs.CourseEnds.{ends_keep_course, passed_limits_keep_course}

-- the job that was performed is one of more
beside : {V : Type 0} {app : Application V} (jobs : List (Job V)) (done : Done V) (job : Job V) (rest others : List (Job V)) → IsPerformed app jobs done job rest → IsPerformed app (jobs ++ others) done job (rest ++ others)
beside jobs done job rest others performed = record {
  before = performed.before;
  after = performed.after ++ others;
  there = ap (λ held. held ++ others) performed.there ∙ append_assoc performed.before (job ∷ performed.after) others;
  others_are = ap (λ held. held ++ others) performed.others_are ∙ append_assoc performed.before performed.after others;
  node = performed.node;
  task = performed.task;
  effect = performed.effect;
}

module _ {V : Type 0} {app : Application V} (basis : CourseBasis app) where
  -- one more entry, and then those of more tasks
  with_key : (ended : List Key) (key : Key) (text : List ℕ) (entries : List Entry) (keys : List Key) → IsPermutation (ended ++ keys_of (with_entry key text entries)) keys → IsPermutation (key ∷ ended ++ keys_of entries) keys
  with_key ended key text entries keys same =
      let entry : Entry = (key, text) in
      let put = IsPermutation-trans (entry ∷ entries) (entries ++ entry ∷ []) (with_entry key text entries)
      (IsPermutation-sym (entries ++ entry ∷ []) (entry ∷ entries) (IsPermutation-to_front entries entry)) (basis.joins_have_all entries (entry ∷ [])) in
      let own : IsPermutation (key ∷ keys_of entries) (keys_of (with_entry key text entries)) = IsPermutation-map (λ (one : Entry). one.0) (entry ∷ entries) (with_entry key text entries) put in
      IsPermutation-trans (key ∷ ended ++ keys_of entries) (ended ++ key ∷ keys_of entries) keys
      (IsPermutation-sym (ended ++ key ∷ keys_of entries) (key ∷ ended ++ keys_of entries) (IsPermutation-middle ended key (keys_of entries)))
      (IsPermutation-trans (ended ++ key ∷ keys_of entries) (ended ++ keys_of (with_entry key text entries)) keys
      (IsPermutation-append_right ended (key ∷ keys_of entries) (keys_of (with_entry key text entries)) own) same)

  module _ (start : Progress V) (cells : List V) where
    -- the same moment by its parts
    by_parts : (before entries : List Entry) (now : Moment V) (progress : Progress V) (jobs others : List (Job V)) (values : List V) → now.progress ≡ progress → now.jobs ≡ jobs
        → HasCome app start cells before entries progress (jobs ++ others) values → HasCome app start cells before entries now.progress (now.jobs ++ others) values
    by_parts before entries now progress jobs others values progress_is jobs_are come =
        subst (λ held. HasCome app start cells before entries now.progress (held ++ others) values) (sym jobs_are)
        (subst (λ (there : Progress V). HasCome app start cells before entries there (jobs ++ others) values) (sym progress_is) come)

  pub events_keep_course : EventsKeepCourse app
  events_keep_course start cells before entries [] old now others values come same = record {
    more = [];
    entries_now = entries;
    values = values;
    come = subst (λ (moment : Moment V). HasCome app start cells (before ++ []) entries moment.progress (moment.jobs ++ others) values) (sym same)
        (subst (λ drained. HasCome app start cells drained entries old.progress (old.jobs ++ others) values) (sym (append-nil before)) come);
    keys = IsPermutation-refl (keys_of entries);
  }
  events_keep_course start cells before entries (Event.claims pick job ∷ events) old now others values come (next, (may, claimed, jobs_are), reaches) =
      let here = by_parts start cells before entries next next.progress (job ∷ old.jobs) others values refl jobs_are
      (claims_keep_course basis start cells before entries old.progress next.progress pick job (old.jobs ++ others) values come claimed) in
      let rest = events_keep_course start cells before entries events next now others values here reaches in
      record { more = rest.more; entries_now = rest.entries_now; values = rest.values; come = rest.come; keys = rest.keys }
  events_keep_course start cells before entries (Event.finishes done ∷ events) old now others values come (next, ((job, performed), within, finished), reaches) =
      let text = (app.act job.task values).text in
      let here = ends_keep_course basis start cells before entries old.progress next.progress done job (old.jobs ++ others) (next.jobs ++ others) values come
      (beside old.jobs done job next.jobs others performed) within finished in
      let rest = events_keep_course start cells before (with_entry job.task.key text entries) events next now others (app.act job.task values).cells here reaches in
      record {
        more = rest.more;
        entries_now = rest.entries_now;
        values = rest.values;
        come = rest.come;
        keys = subst (λ (task : Task). IsPermutation (task.key ∷ ended_by events ++ keys_of entries) (keys_of rest.entries_now)) performed.task
            (with_key (ended_by events) job.task.key text entries (keys_of rest.entries_now) rest.keys);
      }
  events_keep_course start cells before entries (Event.exceeds done ∷ events) old now others values come (next, ((job, (left, performed)), over, progress_is, jobs_are), reaches) =
      let here = by_parts start cells before entries next _ old.jobs others values progress_is jobs_are
      (passed_limits_keep_course basis start cells before entries old.progress done job (old.jobs ++ others) (left ++ others) values come (beside old.jobs done job left others performed) over) in
      let rest = events_keep_course start cells before entries events next now others values here reaches in
      record { more = rest.more; entries_now = rest.entries_now; values = rest.values; come = rest.come; keys = rest.keys }
  events_keep_course start cells before entries (Event.drains ∷ events) old now others values come (next, (progress_is, jobs_are), reaches) =
      let more = drainable app old.progress.nodes old.progress.log in
      let here = by_parts start cells (before ++ more) entries next _ old.jobs others values progress_is jobs_are
      (drains_keep_course basis start cells before entries old.progress (old.jobs ++ others) values come) in
      let rest = events_keep_course start cells (before ++ more) entries events next now others values here reaches in
      record {
        more = more ++ rest.more;
        entries_now = rest.entries_now;
        values = rest.values;
        come = subst (λ drained. HasCome app start cells drained rest.entries_now now.progress (now.jobs ++ others) rest.values) (append_assoc before more rest.more) rest.come;
        keys = rest.keys;
      }
  events_keep_course start cells before entries (Event.gives_up ∷ events) old now others values come (next, (progress_is, jobs_are), reaches) =
      let here = by_parts start cells before entries next _ old.jobs others values progress_is jobs_are
      (giving_up_keeps_course basis start cells before entries old.progress (old.jobs ++ others) values come) in
      let rest = events_keep_course start cells before entries events next now others values here reaches in
      record { more = rest.more; entries_now = rest.entries_now; values = rest.values; come = rest.come; keys = rest.keys }
