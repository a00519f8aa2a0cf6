-- An execution goes on from an origin after a move, and whatever the order is in which the jobs of all seats are told.
use Rattle.std.proofs.Common.{◌≡◌, List, [], ◌++◌, Option, Some, None, refl, sym, ap, subst, ◌∙◌, append_assoc}
use Rattle.std.specs.Prelude.{IsPermutation}
use Rattle.std.specs.Option.{option_or}
use Rattle.std.proofs.lemmas.List.Sorted.{IsPermutation-append_comm, IsPermutation-append_left, IsPermutation-append_right, IsPermutation-refl, IsPermutation-sym, IsPermutation-trans}
use Rattle.plain_laws.specs.Options.{option_or-none}
use Rattle.task_order.specs.declared.key.Key.{Key}
use Rattle.cell_store.specs.Values.{values_of}
use Rattle.app_laws.specs.Applications.{Application}
use Rattle.crew.specs.declared.answers.OverCause.{OverCause}
use Rattle.run_laws.specs.CourseLaws.{AnyOrderKeepsCourse, EventsKeepCourse, StartsHaveCome, keys_of}
use Rattle.run_laws.specs.Moves.{MarksStay}
use Rattle.worker_gate.specs.Laws.{MovesContinue, OriginsContinue, SameSumsContinue, new_mark}
use Rattle.worker_gate.proofs.Sums.{no_first, no_second}

-- the mark of all, once a move has set one or found that one stands
mark_after : (over others old now : Option OverCause) → old ≡ option_or over others → ((cause : OverCause) → old ≡ Some cause → now ≡ Some cause)
    → now ≡ option_or (option_or over (new_mark old now)) others
mark_after over others None now was stays =
    let own : over ≡ None = no_first over others (sym was) in
    let other : others ≡ None = no_second over others (sym was) in
    sym (ap (λ (mark : Option OverCause). option_or (option_or mark now) others) own ∙ ap (λ (mark : Option OverCause). option_or now mark) other ∙ option_or-none now)
mark_after over others (Some cause) now was stays =
    stays cause refl ∙ was ∙ ap (λ (mark : Option OverCause). option_or mark others) (sym (option_or-none over))

-- the keys that ended come in between
keys_between : (ended own others : List Key) → IsPermutation (ended ++ (own ++ others)) ((own ++ ended) ++ others)
keys_between ended own others =
    subst (λ (keys : List Key). IsPermutation keys ((own ++ ended) ++ others)) (append_assoc ended own others)
    (IsPermutation-append_left others (ended ++ own) (own ++ ended) (IsPermutation-append_comm ended own))

module _ {V : Type 0} {app : Application V} where
  pub origins_continue : StartsHaveCome app → OriginsContinue app
  origins_continue starts origin sound unmarked = record {
    drained = [];
    entries = [];
    values = values_of origin.cells;
    come = starts origin (values_of origin.cells) sound unmarked;
    finished = IsPermutation-refl [];
    over = unmarked;
    count = refl;
  }

  pub same_sums_continue : AnyOrderKeepsCourse app → SameSumsContinue app
  same_sums_continue any_order origin now sum other same continues = record {
    drained = continues.drained;
    entries = continues.entries;
    values = continues.values;
    come = any_order origin (values_of origin.cells) continues.drained continues.entries now sum.jobs other.jobs continues.values continues.come same.jobs;
    finished = IsPermutation-trans (keys_of continues.entries) sum.finished other.finished continues.finished same.finished;
    over = continues.over ∙ same.over;
    count = continues.count ∙ same.drained;
  }

  pub moves_continue : EventsKeepCourse app → MarksStay app → MovesContinue app
  moves_continue events_keep marks origin old now had have finished ended over others continues moved =
      let gone = events_keep origin (values_of origin.cells) continues.drained continues.entries moved.events (record { progress = old; jobs = had }) (record { progress = now; jobs = have }) others.jobs
      continues.values continues.come moved.reaches in
      let keys : IsPermutation (ended ++ keys_of continues.entries) (keys_of gone.entries_now) =
      subst (λ (keys : List Key). IsPermutation (keys ++ keys_of continues.entries) (keys_of gone.entries_now)) moved.ended_are gone.keys in
      record {
        drained = continues.drained ++ gone.more;
        entries = gone.entries_now;
        values = gone.values;
        come = gone.come;
        finished = IsPermutation-trans (keys_of gone.entries_now) (ended ++ keys_of continues.entries) ((finished ++ ended) ++ others.finished)
            (IsPermutation-sym (ended ++ keys_of continues.entries) (keys_of gone.entries_now) keys)
            (IsPermutation-trans (ended ++ keys_of continues.entries) (ended ++ (finished ++ others.finished)) ((finished ++ ended) ++ others.finished)
            (IsPermutation-append_right ended (keys_of continues.entries) (finished ++ others.finished) continues.finished)
            (keys_between ended finished others.finished));
        over = mark_after over others.over old.over now.over continues.over (λ cause stands. marks old now had have ended cause moved stands);
        count = refl;
      }
