-- What was told of a run while it goes on comes first in the sequential run's text.
use Rattle.std.proofs.Common.{◌≡◌, ◌≤◌, ◌-◌, ◌+◌, ℕ, List, [], ◌∷◌, ◌++◌, length, Option, Some, None, refl, sym, ap, subst, ◌∙◌, arith}
use Rattle.std.specs.Prelude.{IfOk, IsSomeAnd, Result, Ok, Err}
use Rattle.task_order.specs.declared.key.Key.{Key}
use Rattle.std.proofs.lemmas.List.{length-append}
use Rattle.cell_store.specs.Values.{values_of}
use Rattle.output_log.specs.Entries.{Entry, joined_texts}
use Rattle.output_log.specs.Laws.{JoinsAddLengths, TextsFollow}
use Rattle.app_laws.specs.Applications.{Application}
use Rattle.app_laws.specs.declared.serial_run.Finals.{Finals}
use Rattle.app_laws.specs.Execution.{Execution}
use Rattle.run_laws.specs.Course.{HasCome}
use Rattle.run_laws.specs.CourseLaws.{DrainsKeepCourse, IsSequentialEnd, NoNodesAreTheEnd}
use Rattle.kdg_graph.specs.Node.{Node}
use Rattle.run_laws.specs.Events.{drainable, drained, undrainable}
use Rattle.run_laws.specs.Jobs.{Job}
use Rattle.run_laws.specs.Moves.{Moved}
use Rattle.run_laws.specs.Progress.{Progress}
use Rattle.run_laws.specs.Sound.{IsSound}
use Rattle.source_pool.specs.Kept.{sequential_entries}
use Rattle.source_pool.specs.KeptLaws.{DrainedEntriesAreFirst}
use Rattle.source_pool.specs.Runs.{rest_of_run}
use Rattle.worker_gate.specs.Fits.{Continues, Sum, drained_count}
use Rattle.free_pool.specs.Streams.{HasDrainedAt, IsDrain, IsFrontTold, IsToldEnd, IsToldTo}
use Rattle.free_pool.proofs.Numbers.{head_same, tail_same}

-- fronts of one list that are of one length
fronts_same : {X : Type 0} (one other rest others : List X) → one ++ rest ≡ other ++ others → length one ≡ length other → one ≡ other
fronts_same [] [] rest others same long = refl
fronts_same [] (y ∷ other) rest others same long = absurd (omega (arith, long))
fronts_same (x ∷ one) [] rest others same long = absurd (omega (arith, long))
fronts_same {X} (x ∷ one) (y ∷ other) rest others same long =
    ap (λ (first : X). first ∷ one) (head_same same) ∙ ap (λ (xs : List X). y ∷ xs) (fronts_same one other rest others (tail_same same) (omega (arith, long)))

module _ {V : Type 0} {app : Application V} (start : Progress V) where
  -- as many entries were drained since the start as the counts say
  counted : JoinsAddLengths → length start.log ≤ start.ended → (now : Progress V) (before entries : List Entry) (jobs : List (Job V)) (values : List V)
      → HasCome app start (values_of start.cells) before entries now jobs values → length before + drained_count start ≡ drained_count now
  counted add logged now before entries jobs values come =
      let all = ap length come.logged in
      let joined = add start.log entries in
      let apart = length-append before now.log in
      let ended = come.ended in
      let kept = come.sound.keys_and_counts.logged in
      omega (arith, all, joined, apart, ended, kept, logged)

  -- at first nothing is told
  pub nothing_told : IsToldTo app start (drained_count start) []
  nothing_told = record { front = []; rest = sequential_entries app start; entries = refl; text = refl; count = omega arith }

  pub front_told : TextsFollow → (number : ℕ) (told : List ℕ) → IsToldTo app start number told → IsFrontTold app start told
  front_told follow number told is = (
    joined_texts is.rest,
    ap joined_texts is.entries ∙ follow is.front is.rest ∙ ap (λ (front : List ℕ). front ++ joined_texts is.rest) (sym is.text),
  )

  module _ (add : JoinsAddLengths) (follow : TextsFollow) (first : DrainedEntriesAreFirst app) (sound : IsSound app start [] (values_of start.cells)) (logged : length start.log ≤ start.ended)
      (now : Progress V) (sum : Sum V) (told : List ℕ) (continues : Continues app start now sum) (is : IsToldTo app start (drained_count now) told) where
    abbrev before : List Entry
    before = continues.drained

    -- what was told are the texts of what was drained
    told_is : told ≡ joined_texts before
    told_is =
        let come = continues.come in
        let at = first start now before continues.entries sum.jobs continues.values sound come in
        let many = counted add logged now before continues.entries sum.jobs continues.values come in
        let long : length is.front ≡ length before = omega (arith, is.count, many) in
        is.text ∙ ap joined_texts (fronts_same is.front before is.rest at.0 (sym is.entries ∙ at.1) long)

    -- what a drain takes out comes next
    pub drain_told : DrainsKeepCourse app → IsToldTo app start (drained_count (drained app now)) (told ++ joined_texts (drainable app now.nodes now.log))
    drain_told drains =
        let more = drainable app now.nodes now.log in
        let come = drains start (values_of start.cells) before continues.entries now sum.jobs continues.values continues.come in
        let at = first start (drained app now) (before ++ more) continues.entries sum.jobs continues.values sound come in
        record {
          front = before ++ more;
          rest = at.0;
          entries = at.1;
          text = ap (λ (text : List ℕ). text ++ joined_texts more) told_is ∙ sym (follow before more);
          count = counted add logged (drained app now) (before ++ more) continues.entries sum.jobs continues.values come;
        }

    -- the finals of an engine without nodes have the rest
    by_run : (run : Option (Execution V)) → rest_of_run app start ≡ run → IsSomeAnd run (IsSequentialEnd app start (values_of start.cells) before now)
        → (finals : Finals V) → finals.store ≡ now.cells → finals.text ≡ joined_texts now.log → finals.count ≡ now.ended → IsToldEnd app start told finals
    by_run None is_none over finals store text count = absurd over
    by_run (Some last) is_last over finals store text count = record {
      whole = record finals { text = told ++ finals.text };
      end = record {
        last = last;
        is_end = is_last;
        store = store ∙ over.home;
        text = ap (λ (front : List ℕ). front ++ finals.text) told_is ∙ ap (λ (rest : List ℕ). joined_texts before ++ rest) text ∙ sym (follow before now.log) ∙ ap joined_texts over.log;
        count = count ∙ over.ended;
      };
      behind = record { store = refl; text_is = refl; count = refl };
    }

    pub end_told : NoNodesAreTheEnd app → now.nodes ≡ [] → (finals : Finals V) → finals.store ≡ now.cells → finals.text ≡ joined_texts now.log → finals.count ≡ now.ended → IsToldEnd app start told finals
    end_told ends none finals store text count =
        let over = ends start (values_of start.cells) before continues.entries now sum.jobs continues.values continues.come none in
        by_run (rest_of_run app start) refl (over.runs (start.limit - start.ended) over.within) finals store text count

-- what was drained at the end goes on from the start, and after it the finals have nothing left
module _ {V : Type 0} {app : Application V} (start : Progress V) (add : JoinsAddLengths) (follow : TextsFollow) (first : DrainedEntriesAreFirst app)
    (sound : IsSound app start [] (values_of start.cells)) (logged : length start.log ≤ start.ended) (now : Progress V) (sum : Sum V) (told : List ℕ)
    (continues : Continues app start now sum) (is : IsToldTo app start (drained_count now) told) (drains : DrainsKeepCourse app) where
  still_continues : Continues app start (drained app now) (record sum { drained = drained_count (drained app now) })
  still_continues = record {
    drained = continues.drained ++ drainable app now.nodes now.log;
    entries = continues.entries;
    values = continues.values;
    come = drains start (values_of start.cells) continues.drained continues.entries now sum.jobs continues.values continues.come;
    finished = continues.finished;
    over = continues.over;
    count = refl;
  }

  pub drained_end : NoNodesAreTheEnd app → now.nodes ≡ [] → (more : List ℕ) → more ≡ joined_texts (drainable app now.nodes now.log) → (finals : Finals V) → finals.store ≡ now.cells
      → finals.text ≡ joined_texts (drained app now).log → finals.count ≡ now.ended → IsToldEnd app start (told ++ more) finals × (finals.text ≡ [])
  drained_end ends none more text_is finals store text count =
      let then = drain_told start add follow first sound logged now sum told continues is drains in
      let end = end_told start add follow first sound logged (drained app now) _ (told ++ joined_texts (drainable app now.nodes now.log)) still_continues then ends none finals store text count in (
        subst (λ (one : List ℕ). IsToldEnd app start (told ++ one) finals) (sym text_is) end,
        text ∙ ap (λ (nodes : List Node). joined_texts (undrainable app nodes now.log)) none,
      )

-- after a drain, or none
pub drained_at : {V E : Type 0} (app : Application V) (old middle now : Progress V) (had have : List (Job V)) (ended : List Key) → Moved app old had middle have ended → drained_count middle ≡ drained_count old
    → (more : Result (Option (List ℕ)) E) → IfOk more (IsDrain app middle now) → IfOk more (HasDrainedAt app old had now have ended)
drained_at app old middle now had have ended moved count (Ok more) drain = record { before = middle; moved = moved; count = count; drain = drain }
drained_at app old middle now had have ended moved count (Err fault) drain = tt
