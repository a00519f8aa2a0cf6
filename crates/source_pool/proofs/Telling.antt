-- What is told of a leg, round by round, where it is cut short, and at the end.
use Rattle.std.proofs.Common.{◌≡◌, ◌≢◌, ℕ, ◌+◌, Bool, true, false, not, cond, List, [], ◌∷◌, ◌++◌, add-one, append-nil, append_assoc, length, refl, sym, ap, subst, ◌∙◌, arith}
use Rattle.std.specs.List.{filter}
use Rattle.std.proofs.lemmas.Bool.{true≢false}
use Rattle.std.proofs.lemmas.List.{length-map}
use Rattle.task_order.specs.Key.{at_key}
use Rattle.cell_store.specs.Values.{values_of}
use Rattle.kdg_graph.specs.Node.{Node}
use Rattle.output_log.specs.Entries.{Entry, entries_before, is_entry_before, joined_by_key, joined_texts}
use Rattle.app_laws.specs.Applications.{Application}
use Rattle.app_laws.specs.declared.serial_run.Finals.{Finals}
use Rattle.commuting.specs.Rounds.{after_round, clear_tasks}
use Rattle.commuting.specs.States.{State}
use Rattle.crew.specs.declared.answers.OverCause.{OverCause}
use Rattle.crew.specs.declared.answers.OverCause.TheVariants as cause
use Rattle.run_laws.specs.Events.{drainable, drained, undrainable}
use Rattle.run_laws.specs.Progress.{Progress}
use Rattle.source_pool.specs.Course.{IsAtRest, LeadsByRounds}
use Rattle.source_pool.specs.Kept.{IsLastAfter, KeepsAfter, PassesWith, acted_in, first_pending}
use Rattle.source_pool.specs.KeptLaws.{DrainedTextsAreKept}
use Rattle.source_pool.specs.Laws.{DrainsKeepRest, RestWithoutNodesIsTheEnd, RoundsAdd, RoundsAreTaken, WholeIsHome}
use Rattle.source_pool.specs.Legs.{BeginsAtRest, GoesOnFrom}
use Rattle.source_pool.specs.Runs.{state_at_rest}
use Rattle.source_pool.specs.Streams.{IsCutShort, IsKept, IsOnLeg, IsPassed, IsToldEnd, told_by}
use Rattle.source_pool.proofs.EngineAtRest.{rest_at, some_pending, state_is}
use Rattle.source_pool.proofs.Kept.{acted_next}
use Rattle.source_pool.proofs.LegRounds.{leads_on, legs_end}

none_step : {X : Type 0} (p : X → Bool) (x : X) (others : List X) (test : Bool) → p x ≡ test → filter p others ≡ [] → filter p (cond (not test) (x ∷ others) others) ≡ []
none_step p x others true is rest = rest
none_step p x others false is rest = ap (λ b. cond b (x ∷ filter p others) (filter p others)) is ∙ rest

-- none of those that fail a test passes it
none_of_others : {X : Type 0} (p : X → Bool) (xs : List X) → filter p (filter (λ x. not (p x)) xs) ≡ []
none_of_others p [] = refl
none_of_others p (x ∷ xs) = none_step p x (filter (λ x. not (p x)) xs) (p x) refl (none_of_others p xs)

module _ {V : Type 0} (app : Application V) where
  -- after a drain nothing more is to be drained
  none_left : (nodes : List Node) (log : List Entry) → drainable app nodes (undrainable app nodes log) ≡ []
  none_left [] log = refl
  none_left (least ∷ nodes) log = none_of_others (is_entry_before (at_key least.task.key)) log

  pub drained_once : (now : Progress V) → drainable app now.nodes (undrainable app now.nodes now.log) ≡ []
  drained_once now = none_left now.nodes now.log

  -- a drain, or none
  pub ended_same : (old now : Progress V) (had : Bool) → (had ≡ false → now ≡ drained app old) → (had ≡ true → now ≡ old) → now.ended ≡ old.ended
  ended_same old now true drain same = ap (λ (p : Progress V). p.ended) (same refl)
  ended_same old now false drain same = ap (λ (p : Progress V). p.ended) (drain refl)

  pub none_after : (old now : Progress V) (had : Bool) → (had ≡ false → now ≡ drained app old) → had ≡ false → drainable app now.nodes now.log ≡ []
  none_after old now had drain none = subst (λ (p : Progress V). drainable app p.nodes p.log ≡ []) (sym (drain none)) (drained_once old)

  -- nothing more is told after a failed write
  pub same_told : (old : Progress V) (before told : List ℕ) (had : Bool) → told ≡ before ++ told_by app had old → had ≡ true → told ≡ before
  same_told old before told had is failed = is ∙ ap (λ b. before ++ told_by app b old) failed ∙ append-nil before

module _ {V : Type 0} {app : Application V} where
  -- ---- at the start of a leg

  -- before any round those entries of the log are kept that no task comes before
  pub kept_first : (start : Progress V) → BeginsAtRest app start
      → KeepsAfter app start 0 (state_at_rest start) (joined_texts (entries_before (first_pending (state_at_rest start).pending) (joined_by_key start.log [])))
  kept_first start begins =
      let counts = begins.course.come.sound.keys_and_counts in
      record { leads = refl; within = omega (arith, counts.created, counts.within, length-map start.nodes (λ (node : Node). node.task)); text_is = refl }

  -- where nothing is logged, nothing is kept
  pub nothing_kept : (start : Progress V) → BeginsAtRest app start → start.log ≡ [] → IsKept app start []
  nothing_kept start begins none =
      let kept = ap (λ (log : List Entry). joined_texts (entries_before (first_pending (state_at_rest start).pending) log)) none in
      record { rounds = 0; state = state_at_rest start; keeps = subst (KeepsAfter app start 0 (state_at_rest start)) kept (kept_first start begins) }

  -- for want of memory nothing is told
  pub cut_at_start : (start : Progress V) (told : List ℕ) (failed : Bool) → BeginsAtRest app start → told ≡ [] → IsCutShort app start failed told cause.NoRoom
  cut_at_start start told failed begins none =
      let text = joined_texts (entries_before (first_pending (state_at_rest start).pending) (joined_by_key start.log [])) in
      record {
        rounds = 0;
        state = state_at_rest start;
        text = text;
        keeps = kept_first start begins;
        rest = text;
        text_is = ap (λ front. front ++ text) (sym none);
        all = λ passed. absurd passed;
        last = λ passed. absurd passed;
      }

  -- what is kept at some time may be all that is told
  pub cut_for_room : (start : Progress V) (told : List ℕ) (failed : Bool) → IsKept app start told → IsCutShort app start failed told cause.NoRoom
  cut_for_room start told failed kept = record {
    rounds = kept.rounds;
    state = kept.state;
    text = told;
    keeps = kept.keeps;
    rest = [];
    text_is = sym (append-nil told);
    all = λ passed. absurd passed;
    last = λ passed. absurd passed;
  }

  -- ---- after a round

  -- what may be drained was told
  pub rest_told : DrainsKeepRest app → (start old now : Progress V) (cells : List V) (state : State V) (text : List ℕ) (had : Bool) → IsAtRest app start cells state text old
      → (had ≡ false → now ≡ drained app old) → (had ≡ true → now ≡ old) → IsAtRest app start cells state (text ++ told_by app had old) now
  rest_told drains start old now cells state text true rest drain same =
      subst (IsAtRest app start cells state (text ++ [])) (sym (same refl)) (subst (λ told. IsAtRest app start cells state told old) (sym (append-nil text)) rest)
  rest_told drains start old now cells state text false rest drain same =
      subst (IsAtRest app start cells state (text ++ told_by app false old)) (sym (drain refl)) (drains start old cells state text rest)

  module _ (law : DrainedTextsAreKept app) (start : Progress V) (begins : BeginsAtRest app start) where
    -- what is told then: where no write had failed before, all that may be drained was
    on_leg : (now : Progress V) (rounds : ℕ) (told before : List ℕ) (had failed : Bool) → IsAtRest app start (values_of start.cells) (state_at_rest now) told now
        → LeadsByRounds app rounds (state_at_rest start) (state_at_rest now) → now.ended ≡ start.ended + acted_in app rounds (state_at_rest start)
        → (had ≡ false → drainable app now.nodes now.log ≡ []) → (had ≡ true → told ≡ before) → (had ≡ true → failed ≡ true) → (had ≡ true → IsKept app start before)
        → IsOnLeg app start failed rounds now told
    on_leg now rounds told before had failed rest leads counted drained same stays kept =
        record { rest = rest; leads = leads; counted = counted; kept = kept_by had refl; drained = λ none. drained (had_none had refl none) }
      where
        kept_by : (b : Bool) → had ≡ b → IsKept app start told
        kept_by true is = subst (IsKept app start) (sym (same is)) (kept is)
        kept_by false is = record { rounds = rounds; state = state_at_rest now; keeps = law start now (state_at_rest now) told rounds begins rest leads counted (drained is) }

        had_none : (b : Bool) → had ≡ b → failed ≡ false → had ≡ false
        had_none true is none = absurd (true≢false (sym (stays is) ∙ none))
        had_none false is none = is

    -- before the first round
    pub told_first : WholeIsHome app → DrainsKeepRest app → (now : Progress V) (had failed : Bool) → (had ≡ false → now ≡ drained app start) → (had ≡ true → now ≡ start) → (had ≡ true → failed ≡ true)
        → (had ≡ true → start.log ≡ []) → IsOnLeg app start failed 0 now (told_by app had start)
    told_first home drains now had failed drain same stays none_left =
        let cells = values_of start.cells in
        let told = told_by app had start in
        let rest = rest_told drains start start now cells (state_at_rest start) [] had begins drain same in
        let counted : now.ended ≡ start.ended + 0 = omega (arith, ended_same app start now had drain same) in
        on_leg now 0 told [] had failed (rest_at home start now cells (state_at_rest start) told rest) (sym (state_is home start now cells (state_at_rest start) told rest)) counted
        (none_after app start now had drain) (λ is. ap (λ b. told_by app b start) is) stays (λ is. nothing_kept start begins (none_left is))

    -- a round later
    pub round_told : WholeIsHome app → RoundsAdd app → (old now : Progress V) (rounds : ℕ) (told text : List ℕ) (had failed : Bool) → IsOnLeg app start had rounds old told → old.nodes ≢ []
        → IsAtRest app start (values_of start.cells) (after_round app (state_at_rest old)) text now → now.ended ≡ old.ended + length (clear_tasks app (state_at_rest old))
        → (had ≡ false → drainable app now.nodes now.log ≡ []) → (had ≡ true → text ≡ told) → (had ≡ true → failed ≡ true) → IsOnLeg app start failed (rounds + 1) now text
    round_told home add old now rounds told text had failed leg left rest ended drained same stays =
        let next = after_round app (state_at_rest old) in
        let cells = values_of start.cells in
        let acted = acted_next app rounds (state_at_rest start) (state_at_rest old) leg.leads in
        let one = ap (λ (n : ℕ). acted_in app n (state_at_rest start)) (add-one rounds) in
        let counted : now.ended ≡ start.ended + acted_in app (rounds + 1) (state_at_rest start) = omega (arith, ended, leg.counted, acted, one) in
        on_leg now (rounds + 1) text told had failed (rest_at home start now cells next text rest)
        (leads_on home add start old now cells told text rounds leg.rest left rest leg.leads) counted drained same stays (λ is. leg.kept)

    -- where a round passes the limit, it would have been one too many
    last_round : (old : Progress V) (rounds : ℕ) (told : List ℕ) (had : Bool) (why : OverCause) → IsOnLeg app start had rounds old told → old.nodes ≢ []
        → PassesWith start.limit (old.ended + length (clear_tasks app (state_at_rest old))) (after_round app (state_at_rest old)) why → IsPassed why → IsLastAfter app start rounds (state_at_rest old)
    last_round old rounds told had (cause.Budget created limit) leg left passes passed = record {
      some = some_pending app start old (values_of start.cells) (state_at_rest old) told leg.rest left;
      above = omega (arith, passes, leg.counted);
    }
    last_round old rounds told had cause.NoRoom leg left passes passed = absurd passed

    pub cut_by_round : (old : Progress V) (rounds : ℕ) (told now_told : List ℕ) (had failed : Bool) (why : OverCause) → IsOnLeg app start had rounds old told → old.nodes ≢ []
        → now_told ≡ told → (had ≡ true → failed ≡ true)
        → PassesWith start.limit (old.ended + length (clear_tasks app (state_at_rest old))) (after_round app (state_at_rest old)) why → IsCutShort app start failed now_told why
    cut_by_round old rounds told now_told had failed why leg left same stays passes = by_case had refl
      where
        by_case : (b : Bool) → had ≡ b → IsCutShort app start failed now_told why
        by_case true is = record {
          rounds = leg.kept.rounds;
          state = leg.kept.state;
          text = told;
          keeps = leg.kept.keeps;
          rest = [];
          text_is = sym same ∙ sym (append-nil now_told);
          all = λ passed. refl;
          last = λ passed none. absurd (true≢false (sym (stays is) ∙ none));
        }
        by_case false is = record {
          rounds = rounds;
          state = state_at_rest old;
          text = told;
          keeps = law start old (state_at_rest old) told rounds begins leg.rest leg.leads leg.counted (leg.drained is);
          rest = [];
          text_is = sym same ∙ sym (append-nil now_told);
          all = λ passed. refl;
          last = λ passed none. last_round old rounds told had why leg left passes passed;
        }

  -- ---- over legs

  pub cut_behind : (start middle : Progress V) (before told : List ℕ) (rounds : ℕ) (failed : Bool) (why : OverCause) → GoesOnFrom app start before rounds middle
      → IsCutShort app middle failed told why → IsCutShort app start failed (before ++ told) why
  cut_behind start middle before told rounds failed why goes_on cut =
      let behind = goes_on.keeps cut.rounds cut.state cut.text cut.keeps in
      record {
        rounds = rounds + cut.rounds;
        state = behind.there;
        text = before ++ cut.text;
        keeps = behind.keeps;
        rest = cut.rest;
        text_is = ap (λ text. before ++ text) cut.text_is ∙ sym (append_assoc before told cut.rest);
        all = cut.all;
        last = λ passed none. behind.last (cut.last passed none);
      }

  pub told_ends : RestWithoutNodesIsTheEnd app → RoundsAreTaken app → (start middle now : Progress V) (before told : List ℕ) (rounds others : ℕ) (failed : Bool) → GoesOnFrom app start before rounds middle
      → IsOnLeg app middle failed others now told → now.nodes ≡ [] → (finals : Finals V) → finals.store ≡ now.cells → finals.text ≡ joined_texts now.log → finals.count ≡ now.ended
      → IsToldEnd app start failed (before ++ told) finals (rounds + others)
  told_ends ends taken start middle now before told rounds others failed goes_on leg empty finals store text count =
      let whole : Finals V = record { store = finals.store; text = (before ++ told) ++ finals.text; count = finals.count } in
      record {
        whole = whole;
        end = legs_end ends taken start middle now before told rounds others goes_on leg.rest leg.leads empty whole store (ap (λ rest. (before ++ told) ++ rest) text) count;
        behind = record { store = refl; text_is = refl; count = refl };
        all = λ none. text ∙ ap joined_texts (sym (ap (λ nodes. drainable app nodes now.log) empty) ∙ leg.drained none);
      }
