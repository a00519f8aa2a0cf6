-- The laws of the introductions.
use Rattle.std.specs.Prelude.{◌≡◌, ◌≢◌, ◌==◌, ◌||◌, ◌<◌, ◌≤◌, ◌^◌, ℕ, true, List, [], ◌∷◌, ◌++◌, length, slice_get, slice_index, slice_set, Some, IsSome, IsFalse, IsTrue, refl}
use Rattle.std.specs.List.{AllByRecursion}
use Rattle.std.specs.Option.{is_some}
use Rattle.std.specs.Fmt.{decimal}
use Rattle.std.proofs.Common.{arith, inl, inr, ◌⊎◌, length-set, lit<, sym, ap, ◌∙◌, subst}
use Rattle.std.proofs.lemmas.Bool.{cases_Bool, cases_eq, cases_lt, or_cases, or_left, or_right, or_parts, eq-eqb, ne_eqb, eqb-true, eqb-false, cond_both, false_from_ne_true}
use Rattle.std.proofs.lemmas.List.{get_or-set_same, get_or-set_other, get_or_past, get_or-map}
use Rattle.std.proofs.lemmas.List.Elements.{All-set, All-get_or}
use Rattle.std.proofs.lemmas.Option.{slice_get-get_or, slice_get_past, same_Some}
use Rattle.plain_laws.specs.Lists.{All-filter, All-middle, All-weaker}
use Rattle.task_order.specs.declared.key.Key.{Key}
use Rattle.task_order.specs.declared.start.Start.{Start}
use Rattle.task_order.specs.declared.task.Body.{Body}
use Rattle.task_order.specs.declared.task.Task.{Task}
use Rattle.rw_sets.specs.Accesses.{Accesses, IsAscending, access_at, writes, allows_write, joined, put_access, merged, Conflicts, IsWithin}
use Rattle.rw_sets.specs.declared.access.Access.TheVariants.{Read, Write}
use Rattle.rw_sets.specs.IndependenceLaws.{within_by_members}
use Rattle.rw_sets.specs.LookupLaws.{merges_hold_both}
use Rattle.rw_sets.specs.MergeLaws.{ascending_put}
use Rattle.rw_sets.specs.PairLaws.{merges_write_what_one_does}
use Rattle.rw_sets.specs.AccessLaws.{some_from_writes, clash_where_written}
use Rattle.cell_store.specs.declared.cell.Cell.{Cell}
use Rattle.cell_store.specs.declared.cell.Cell.TheVariants.{Home, Out}
use Rattle.cell_store.specs.Home.{IsHome}
use Rattle.cell_store.specs.Cells.{cell_at}
use Rattle.cell_store.specs.Values.{AgreesWith}
use Rattle.app_laws.specs.Applications.{AgreeOn, IsFitTask, set_in, CellsAreCounted, SetsAreInRange, ActsAreFit, SetsAreLocal, IsSameOutcome, ActsAreLocal, ChildrenComeNoEarlier, SetsStayWithin, IsTrueAnswer, WalksAreTrue, IsSafeAlone, SafeTasksStaySafe, IsLawful}
use Rattle.app_laws.specs.Execution.{children_from}
use Rattle.app_laws.specs.LineLaws.{ends_with_line_feed}
use Rattle.example_app.specs.Introduction.{AreContacts, IsMeeting, meeting_set, set_asked, introduced, contact_after, meetings_after, meeting_of, introductions}
use Rattle.example_app.specs.Sets.{ascending_one, access_put, access_of, access_among, is_some_among, writes_among, clash_grows}

-- the set of a meeting, by locations
pub meeting_set-ascending : (first second guest other : ℕ) → IsAscending (meeting_set first second guest other)
meeting_set-ascending first second guest other =
    ascending_put _ (other, Write) (ascending_put _ (guest, Write) (ascending_put ((first, Read) ∷ []) (second, Read) (ascending_one (first, Read))))

access-one : (first loc : ℕ) → access_at ((first, Read) ∷ []) loc ≡ access_of (first == loc) Read
access-one first loc = elim (cases_Bool (first == loc)) [
  | inl here ↦ rw here refl
  | inr elsewhere ↦ rw elsewhere refl
]

access-meeting_set : (first second guest other loc : ℕ) → access_at (meeting_set first second guest other) loc ≡ access_among (first == loc) (second == loc) (guest == loc) (other == loc)
access-meeting_set first second guest other loc =
    let hosts = put_access ((first, Read) ∷ []) (second, Read) in
    let up = ascending_put ((first, Read) ∷ []) (second, Read) (ascending_one (first, Read)) in
    access_put (put_access hosts (guest, Write)) (other, Write) loc (ascending_put hosts (guest, Write) up)
    ∙ ap (λ x. joined x (access_of (other == loc) Write)) (access_put hosts (guest, Write) loc up)
    ∙ ap (λ x. joined (joined x (access_of (guest == loc) Write)) (access_of (other == loc) Write))
    (access_put ((first, Read) ∷ []) (second, Read) loc (ascending_one (first, Read)) ∙ ap (λ x. joined x (access_of (second == loc) Read)) (access-one first loc))

pub named_is : (first second guest other loc : ℕ) → is_some (access_at (meeting_set first second guest other) loc) ≡ (first == loc || second == loc || guest == loc || other == loc)
named_is first second guest other loc = ap is_some (access-meeting_set first second guest other loc) ∙ is_some_among (first == loc) (second == loc) (guest == loc) (other == loc)

pub writes_is : (first second guest other loc : ℕ) → writes (meeting_set first second guest other) loc ≡ (guest == loc || other == loc)
writes_is first second guest other loc = ap allows_write (access-meeting_set first second guest other loc) ∙ writes_among (first == loc) (second == loc) (guest == loc) (other == loc)

-- one of four
abbrev pub IsAmong : ℕ → ℕ → ℕ → ℕ → ℕ → Type 0
IsAmong first second guest other loc = (first ≡ loc) ⊎ ((second ≡ loc) ⊎ ((guest ≡ loc) ⊎ (other ≡ loc)))

pub among_from_named : (first second guest other loc : ℕ) → IsSome (access_at (meeting_set first second guest other) loc) → IsAmong first second guest other loc
among_from_named first second guest other loc named = elim (or_cases _ _ (sym (named_is first second guest other loc) ∙ named)) [
  | inr at ↦ inr (inr (inr (eqb-true other loc at)))
  | inl before ↦ elim (or_cases _ _ before) [
    | inr at ↦ inr (inr (inl (eqb-true guest loc at)))
    | inl host ↦ elim (or_cases _ _ host) [
      | inr at ↦ inr (inl (eqb-true second loc at))
      | inl at ↦ inl (eqb-true first loc at)
    ]
  ]
]

pub named_from_among : (first second guest other loc : ℕ) → IsAmong first second guest other loc → IsSome (access_at (meeting_set first second guest other) loc)
named_from_among first second guest other loc among = named_is first second guest other loc ∙ among_tells among
  where
    among_tells : IsAmong first second guest other loc → (first == loc || second == loc || guest == loc || other == loc) ≡ true
    among_tells (inl at) = or_left _ _ (or_left _ _ (or_left _ _ (eq-eqb first loc at)))
    among_tells (inr (inl at)) = or_left _ _ (or_left _ _ (or_right _ _ (eq-eqb second loc at)))
    among_tells (inr (inr (inl at))) = or_left _ _ (or_right _ _ (eq-eqb guest loc at))
    among_tells (inr (inr (inr at))) = or_right _ _ (eq-eqb other loc at)

pub guests_from_written : (first second guest other loc : ℕ) → IsTrue (writes (meeting_set first second guest other) loc) → (guest ≡ loc) ⊎ (other ≡ loc)
guests_from_written first second guest other loc written = elim (or_cases _ _ (sym (writes_is first second guest other loc) ∙ written)) [
  | inl at ↦ inl (eqb-true guest loc at)
  | inr at ↦ inr (eqb-true other loc at)
]

pub written_from_guests : (first second guest other loc : ℕ) → (guest ≡ loc) ⊎ (other ≡ loc) → IsTrue (writes (meeting_set first second guest other) loc)
written_from_guests first second guest other loc (inl at) = writes_is first second guest other loc ∙ or_left _ _ (eq-eqb guest loc at)
written_from_guests first second guest other loc (inr at) = writes_is first second guest other loc ∙ or_right _ _ (eq-eqb other loc at)

-- what two lists of cells have alike at a location
same_index : (cells others : List ℕ) (loc : ℕ) → length cells ≡ length others → slice_get cells loc ≡ slice_get others loc → slice_index cells loc ≡ slice_index others loc
same_index cells others loc long same = elim (cases_lt loc (length cells)) [
  | inl below ↦
      let below-others : loc < length others = omega arith in
      same_Some (slice_index cells loc) (slice_index others loc) (sym (slice_get-get_or cells loc 0 below) ∙ same ∙ slice_get-get_or others loc 0 below-others)
  | inr past ↦ get_or_past cells loc 0 past ∙ sym (get_or_past others loc 0 (omega arith))
]

same_get : (cells others : List ℕ) (loc : ℕ) → length cells ≡ length others → slice_index cells loc ≡ slice_index others loc → slice_get cells loc ≡ slice_get others loc
same_get cells others loc long same = elim (cases_lt loc (length cells)) [
  | inl below ↦
      let below-others : loc < length others = omega arith in
      slice_get-get_or cells loc 0 below ∙ ap Some same ∙ sym (slice_get-get_or others loc 0 below-others)
  | inr past ↦ slice_get_past cells loc past ∙ sym (slice_get_past others loc (omega arith))
]

module _ (people : ℕ) where
  pub contact_is_one : (contacts : List ℕ) (person : ℕ) → AreContacts people contacts → person < people → slice_index contacts person < people
  contact_is_one contacts person fit below = All-get_or (λ contact. contact < people) contacts person 0 (omega (arith, fit.one_each)) fit.known

  pub cells_are_counted : CellsAreCounted (introductions people)
  cells_are_counted contacts fit = fit.one_each

  among_people : (first second guest other loc : ℕ) → first < people → second < people → guest < people → other < people → IsAmong first second guest other loc → loc < people
  among_people first second guest other loc f s g o (inl at) = omega arith
  among_people first second guest other loc f s g o (inr (inl at)) = omega arith
  among_people first second guest other loc f s g o (inr (inr (inl at))) = omega arith
  among_people first second guest other loc f s g o (inr (inr (inr at))) = omega arith

  pub sets_are_in_range : SetsAreInRange (introductions people)
  sets_are_in_range task contacts fit meeting =
      let guest = slice_index contacts task.body.at in
      let other = slice_index contacts task.body.arg in
      record {
        ascending = meeting_set-ascending task.body.at task.body.arg guest other;
        below = λ loc named. among_people task.body.at task.body.arg guest other loc meeting.first meeting.second
            (contact_is_one contacts task.body.at fit meeting.first) (contact_is_one contacts task.body.arg fit meeting.second)
            (among_from_named task.body.at task.body.arg guest other loc named);
      }

  introduced_fit : (guest other : ℕ) (contacts : List ℕ) → guest < people → other < people → AreContacts people contacts → AreContacts people (introduced guest other contacts)
  introduced_fit guest other contacts guest-one other-one fit = record {
    one_each = length-set (slice_set contacts guest other) other guest ∙ length-set contacts guest other ∙ fit.one_each;
    known = All-set (λ contact. contact < people) (slice_set contacts guest other) other guest guest-one (All-set (λ contact. contact < people) contacts guest other other-one fit.known);
  }

  meetings_fit : (prio : ℕ) (body : Body) (guest other : ℕ) → IsMeeting people prio body → guest < people → other < people
      → AllByRecursion (λ start. IsMeeting people start.prio start.body) (meetings_after prio body guest other)
  meetings_fit prio body guest other meeting guest-one other-one =
      cond_both (body.kind == 0) [] _ (AllByRecursion (λ (start : Start). IsMeeting people start.prio start.body)) (λ none. tt) (λ some.
      let positive : body.kind ≢ 0 = eqb-false body.kind 0 some in (
        record { first = guest-one; second = meeting.second; in_time = omega (arith, meeting.in_time) },
        (record { first = meeting.first; second = other-one; in_time = omega (arith, meeting.in_time, positive) }, tt),
      ))

  pub acts_are_fit : ActsAreFit (introductions people)
  acts_are_fit task contacts fit meeting =
      let guest = slice_index contacts task.body.at in
      let other = slice_index contacts task.body.arg in
      let guest-one = contact_is_one contacts task.body.at fit meeting.first in
      let other-one = contact_is_one contacts task.body.arg fit meeting.second in
      record {
        cells = introduced_fit guest other contacts guest-one other-one fit;
        children = meetings_fit task.key.prio task.body guest other meeting guest-one other-one;
        few = cond_both (task.body.kind == 0) [] _ (λ (children : List Start). length children < 2 ^ 32) (λ none. lit< tt) (λ some. lit< tt);
        lines = ends_with_line_feed (decimal guest ++ 32 ∷ [] ++ decimal other);
      }

  -- who the guests are, where the hosts' cells agree
  guests_agree : (task : Task) (contacts others : List ℕ) → AreContacts people contacts → AreContacts people others
      → AgreeOn (set_in (introductions people) contacts task) contacts others
      → (slice_index contacts task.body.at ≡ slice_index others task.body.at) × (slice_index contacts task.body.arg ≡ slice_index others task.body.arg)
  guests_agree task contacts others fit others-fit agree =
      let guest = slice_index contacts task.body.at in
      let other = slice_index contacts task.body.arg in
      let long = fit.one_each ∙ sym others-fit.one_each in (
        same_index contacts others task.body.at long (agree task.body.at (named_from_among task.body.at task.body.arg guest other task.body.at (inl refl))),
        same_index contacts others task.body.arg long (agree task.body.arg (named_from_among task.body.at task.body.arg guest other task.body.arg (inr (inl refl)))),
      )

  pub sets_are_local : SetsAreLocal (introductions people)
  sets_are_local task contacts others fit others-fit meeting agree =
      let same = guests_agree task contacts others fit others-fit agree in
      ap (λ guest. meeting_set task.body.at task.body.arg guest (slice_index others task.body.arg)) (sym same.0)
      ∙ ap (λ other. meeting_set task.body.at task.body.arg (slice_index contacts task.body.at) other) (sym same.1)

  -- whom people know when two guests have met
  unmet : (guest other : ℕ) (contacts : List ℕ) (person : ℕ) → person ≢ guest → person ≢ other → slice_index (introduced guest other contacts) person ≡ slice_index contacts person
  unmet guest other contacts person not-guest not-other =
      get_or-set_other (slice_set contacts guest other) other person guest 0 not-other ∙ get_or-set_other contacts guest person other 0 not-guest

  met : (guest other : ℕ) (contacts : List ℕ) (person : ℕ) → guest < length contacts → other < length contacts
      → slice_index (introduced guest other contacts) person ≡ contact_after guest other person (slice_index contacts person)
  met guest other contacts person guest-one other-one = elim (cases_eq person other) [
    | inl is ↦
        rw (eq-eqb person other is)
        (subst (λ p. slice_index (introduced guest other contacts) p ≡ guest) (sym is)
        (get_or-set_same (slice_set contacts guest other) other guest 0 (omega (arith, length-set contacts guest other))))
    | inr not-other ↦ elim (cases_eq person guest) [
      | inl is ↦
          rw (ne_eqb person other not-other, eq-eqb person guest is)
          (get_or-set_other (slice_set contacts guest other) other person guest 0 not-other
          ∙ subst (λ p. slice_index (slice_set contacts guest other) p ≡ other) (sym is) (get_or-set_same contacts guest other 0 guest-one))
      | inr not-guest ↦ rw (ne_eqb person other not-other, ne_eqb person guest not-guest) (unmet guest other contacts person not-guest not-other)
    ]
  ]

  pub met_fit : (guest other : ℕ) (contacts : List ℕ) (person : ℕ) → AreContacts people contacts → guest < people → other < people
      → slice_index (introduced guest other contacts) person ≡ contact_after guest other person (slice_index contacts person)
  met_fit guest other contacts person fit guest-one other-one = met guest other contacts person (omega (arith, fit.one_each)) (omega (arith, fit.one_each))

  -- a first guest knows the other then, and the other knows the first
  pub contact_of_guest : (guest other before : ℕ) → contact_after guest other guest before ≡ other
  contact_of_guest guest other before = elim (cases_eq guest other) [
    | inl is ↦ rw (eq-eqb guest other is) is
    | inr differs ↦ rw (ne_eqb guest other differs, eq-eqb guest guest refl) refl
  ]

  pub contact_of_other : (guest other before : ℕ) → contact_after guest other other before ≡ guest
  contact_of_other guest other before = rw (eq-eqb other other refl) refl

  -- each person knows whom they knew, or one of the two
  contact_moves : (guest other person before : ℕ) → (before ≡ contact_after guest other person before) ⊎ ((guest ≡ contact_after guest other person before) ⊎ (other ≡ contact_after guest other person before))
  contact_moves guest other person before = elim (cases_Bool (person == other)) [
    | inl here ↦ inr (inl (rw here refl))
    | inr elsewhere ↦ elim (cases_Bool (person == guest)) [
      | inl here ↦ inr (inr (rw (elsewhere, here) refl))
      | inr nowhere ↦ inl (rw (elsewhere, nowhere) refl)
    ]
  ]

  unwritten_stays : (guest other : ℕ) (first second : ℕ) (contacts : List ℕ) (loc : ℕ) → IsFalse (writes (meeting_set first second guest other) loc)
      → slice_get (introduced guest other contacts) loc ≡ slice_get contacts loc
  unwritten_stays guest other first second contacts loc unwritten =
      let apart = or_parts (guest == loc) (other == loc) (sym (writes_is first second guest other loc) ∙ unwritten) in
      same_get (introduced guest other contacts) contacts loc (length-set (slice_set contacts guest other) other guest ∙ length-set contacts guest other)
      (unmet guest other contacts loc (λ at. eqb-false guest loc apart.0 (sym at)) (λ at. eqb-false other loc apart.1 (sym at)))

  met_alike : (guest other : ℕ) (contacts others : List ℕ) (loc : ℕ) → AreContacts people contacts → AreContacts people others → guest < people → other < people
      → slice_get contacts loc ≡ slice_get others loc → slice_get (introduced guest other contacts) loc ≡ slice_get (introduced guest other others) loc
  met_alike guest other contacts others loc fit others-fit guest-one other-one same =
      same_get (introduced guest other contacts) (introduced guest other others) loc
      ((introduced_fit guest other contacts guest-one other-one fit).one_each ∙ sym (introduced_fit guest other others guest-one other-one others-fit).one_each)
      (met_fit guest other contacts loc fit guest-one other-one
      ∙ ap (contact_after guest other loc) (same_index contacts others loc (fit.one_each ∙ sym others-fit.one_each) same)
      ∙ sym (met_fit guest other others loc others-fit guest-one other-one))

  pub acts_are_local : ActsAreLocal (introductions people)
  acts_are_local = record {
    unchanged = λ task contacts fit meeting loc unwritten.
        unwritten_stays (slice_index contacts task.body.at) (slice_index contacts task.body.arg) task.body.at task.body.arg contacts loc unwritten;
    determined = λ task contacts others fit others-fit meeting agree.
        let guest = slice_index contacts task.body.at in
        let other = slice_index contacts task.body.arg in
        let set = set_in (introductions people) contacts task in
        let same = guests_agree task contacts others fit others-fit agree in
        let guest-one = contact_is_one contacts task.body.at fit meeting.first in
        let other-one = contact_is_one contacts task.body.arg fit meeting.second in
        let alike : IsSameOutcome (introductions people) set (meeting_of task guest other contacts) (meeting_of task guest other others) = record {
          cells = λ loc named. met_alike guest other contacts others loc fit others-fit guest-one other-one (agree loc named);
          children = refl;
          text = refl;
        } in
        subst (λ o. IsSameOutcome (introductions people) set (meeting_of task guest other contacts) (meeting_of task (slice_index others task.body.at) o others)) same.1
        (subst (λ g. IsSameOutcome (introductions people) set (meeting_of task guest other contacts) (meeting_of task g other others)) same.0 alike);
  }

  pub children_come_no_earlier : ChildrenComeNoEarlier (introductions people)
  children_come_no_earlier task contacts fit meeting =
      cond_both (task.body.kind == 0) [] _ (AllByRecursion (λ (child : Start). task.key.prio ≤ child.prio)) (λ none. tt) (λ some. (omega arith, (omega arith, tt)))

  -- a set whose locations another has, and which writes what that one writes, lies within it
  within_from_parts : (a b : Accesses) → ((loc : ℕ) → IsSome (access_at a loc) → IsSome (access_at b loc)) → ((loc : ℕ) → IsTrue (writes a loc) → IsTrue (writes b loc)) → IsWithin a b
  within_from_parts a b there written = (within_by_members a b).1 (λ loc. (there loc, written loc))

  in_merge : (a b : Accesses) → IsAscending a → IsAscending b → (loc : ℕ) → IsSome (access_at a loc) ⊎ IsSome (access_at b loc) → IsSome (access_at (merged a b) loc)
  in_merge a b up-a up-b loc (inl left) = ((within_by_members a (merged a b)).0 (merges_hold_both a b up-a up-b).0 loc).0 left
  in_merge a b up-a up-b loc (inr right) = ((within_by_members b (merged a b)).0 (merges_hold_both a b up-a up-b).1 loc).0 right

  written_in_merge : (a b : Accesses) → IsAscending a → IsAscending b → (loc : ℕ) → IsTrue (writes a loc) ⊎ IsTrue (writes b loc) → IsTrue (writes (merged a b) loc)
  written_in_merge a b up-a up-b loc (inl left) = merges_write_what_one_does a b up-a up-b loc ∙ or_left _ _ left
  written_in_merge a b up-a up-b loc (inr right) = merges_write_what_one_does a b up-a up-b loc ∙ or_right _ _ right

  -- where two guests met, the set of any hosts lies within what it was and the set of that meeting
  set_moves_within : (first second guest other : ℕ) (host next : ℕ) (contacts : List ℕ) → AreContacts people contacts → guest < people → other < people
      → IsWithin (meeting_set host next (slice_index (introduced guest other contacts) host) (slice_index (introduced guest other contacts) next))
      (merged (meeting_set host next (slice_index contacts host) (slice_index contacts next)) (meeting_set first second guest other))
  set_moves_within first second guest other host next contacts fit guest-one other-one = within_from_parts moved (merged held acted) there written
    where
      known : ℕ → ℕ
      known person = slice_index contacts person

      known-then : ℕ → ℕ
      known-then person = slice_index (introduced guest other contacts) person

      moved : Accesses
      moved = meeting_set host next (known-then host) (known-then next)

      held : Accesses
      held = meeting_set host next (known host) (known next)

      acted : Accesses
      acted = meeting_set first second guest other

      -- whom a person knows then is one of three
      moves : (person : ℕ) → (known person ≡ known-then person) ⊎ ((guest ≡ known-then person) ⊎ (other ≡ known-then person))
      moves person =
          subst (λ now. (known person ≡ now) ⊎ ((guest ≡ now) ⊎ (other ≡ now))) (sym (met_fit guest other contacts person fit guest-one other-one))
          (contact_moves guest other person (known person))

      guest-of : (loc person : ℕ) → (known-then person ≡ loc) → (known person ≡ loc) ⊎ ((guest ≡ loc) ⊎ (other ≡ loc))
      guest-of loc person at = subst (λ l. (known person ≡ l) ⊎ ((guest ≡ l) ⊎ (other ≡ l))) at (moves person)

      by_first : (loc : ℕ) → (known host ≡ loc) ⊎ ((guest ≡ loc) ⊎ (other ≡ loc)) → IsTrue (writes held loc) ⊎ IsTrue (writes acted loc)
      by_first loc (inl at) = inl (written_from_guests host next (known host) (known next) loc (inl at))
      by_first loc (inr at) = inr (written_from_guests first second guest other loc at)

      by_second : (loc : ℕ) → (known next ≡ loc) ⊎ ((guest ≡ loc) ⊎ (other ≡ loc)) → IsTrue (writes held loc) ⊎ IsTrue (writes acted loc)
      by_second loc (inl at) = inl (written_from_guests host next (known host) (known next) loc (inr at))
      by_second loc (inr at) = inr (written_from_guests first second guest other loc at)

      up-held : IsAscending held
      up-held = meeting_set-ascending host next (known host) (known next)

      up-acted : IsAscending acted
      up-acted = meeting_set-ascending first second guest other

      written-by : (loc : ℕ) → (known-then host ≡ loc) ⊎ (known-then next ≡ loc) → IsTrue (writes held loc) ⊎ IsTrue (writes acted loc)
      written-by loc (inl at) = by_first loc (guest-of loc host at)
      written-by loc (inr at) = by_second loc (guest-of loc next at)

      written : (loc : ℕ) → IsTrue (writes moved loc) → IsTrue (writes (merged held acted) loc)
      written loc writes-it = written_in_merge held acted up-held up-acted loc (written-by loc (guests_from_written host next (known-then host) (known-then next) loc writes-it))

      there-by : (loc : ℕ) → IsAmong host next (known-then host) (known-then next) loc → IsSome (access_at (merged held acted) loc)
      there-by loc (inl at) = in_merge held acted up-held up-acted loc (inl (named_from_among host next (known host) (known next) loc (inl at)))
      there-by loc (inr (inl at)) = in_merge held acted up-held up-acted loc (inl (named_from_among host next (known host) (known next) loc (inr (inl at))))
      there-by loc (inr (inr guests)) = some_from_writes (access_at (merged held acted) loc) (written_in_merge held acted up-held up-acted loc (written-by loc guests))

      there : (loc : ℕ) → IsSome (access_at moved loc) → IsSome (access_at (merged held acted) loc)
      there loc named = there-by loc (among_from_named host next (known-then host) (known-then next) loc named)

  pub sets_stay_within : SetsStayWithin (introductions people)
  sets_stay_within task other contacts fit meeting other-meeting apart =
      set_moves_within task.body.at task.body.arg (slice_index contacts task.body.at) (slice_index contacts task.body.arg) other.body.at other.body.arg contacts fit
      (contact_is_one contacts task.body.at fit meeting.first) (contact_is_one contacts task.body.arg fit meeting.second)

  -- what a home cell that agrees with the contacts has
  pub home_is : (cells : List (Cell ℕ)) (contacts : List ℕ) (person guest : ℕ) → person < length contacts → AgreesWith cells contacts → cell_at cells person ≡ Home guest → guest ≡ slice_index contacts person
  home_is cells contacts person guest below agrees home =
      let here : IsHome (cell_at cells person) = subst (λ cell. IsHome cell) (sym home) tt in
      let same : Home guest ≡ Home (slice_index contacts person) = sym home ∙ agrees.each person here ∙ get_or-map Home contacts person 0 Out below in
      (cc)

  walk_is_true : (cells : List (Cell ℕ)) (contacts : List ℕ) (first second : ℕ) → first < length contacts → second < length contacts → AgreesWith cells contacts
      → (asked next : Cell ℕ) → cell_at cells first ≡ asked → cell_at cells second ≡ next
      → IsTrueAnswer (introductions people) (meeting_set first second (slice_index contacts first) (slice_index contacts second)) cells (set_asked first second asked next)
  walk_is_true cells contacts first second first-below second-below agrees Out next is next-is =
      (is, named_from_among first second (slice_index contacts first) (slice_index contacts second) first (inl refl))
  walk_is_true cells contacts first second first-below second-below agrees (Home guest) Out is next-is =
      (next-is, named_from_among first second (slice_index contacts first) (slice_index contacts second) second (inr (inl refl)))
  walk_is_true cells contacts first second first-below second-below agrees (Home guest) (Home other) is next-is =
      ap (λ g. meeting_set first second g other) (home_is cells contacts first guest first-below agrees is)
      ∙ ap (λ o. meeting_set first second (slice_index contacts first) o) (home_is cells contacts second other second-below agrees next-is)

  pub walks_are_true : WalksAreTrue (introductions people)
  walks_are_true task cells contacts fit meeting agrees =
      walk_is_true cells contacts task.body.at task.body.arg (omega (arith, fit.one_each, meeting.first)) (omega (arith, fit.one_each, meeting.second)) agrees
      (cell_at cells task.body.at) (cell_at cells task.body.arg) refl refl

  pub safe_alone : IsSafeAlone (introductions people)
  safe_alone task meeting = refl

  -- a set conflicts with no more than one that it lies within
  conflicts_grow : (a b c : Accesses) → IsWithin a b → Conflicts a c → Conflicts b c
  conflicts_grow a b c within (loc, clashes) = (loc, clash_grows (access_at a loc) (access_at b loc) (access_at c loc) (within loc) clashes)

  written_conflicts : (a b : Accesses) (loc : ℕ) → IsTrue (writes a loc) → IsSome (access_at b loc) → Conflicts a b
  written_conflicts a b loc writes-it named = (loc, clash_where_written (access_at a loc) (access_at b loc) writes-it named)

  -- a meeting of people of another one's set, with guests that this one writes
  meeting_within : (first second guest other : ℕ) (host next met-first met-second : ℕ)
      → IsAmong first second guest other host → IsAmong first second guest other next
      → (guest ≡ met-first) ⊎ (other ≡ met-first) → (guest ≡ met-second) ⊎ (other ≡ met-second)
      → IsWithin (meeting_set host next met-first met-second) (meeting_set first second guest other)
  meeting_within first second guest other host next met-first met-second host-among next-among first-is second-is =
      within_from_parts (meeting_set host next met-first met-second) (meeting_set first second guest other) there written
    where
      written-by : (loc : ℕ) → (met-first ≡ loc) ⊎ (met-second ≡ loc) → (guest ≡ loc) ⊎ (other ≡ loc)
      written-by loc (inl at) = subst (λ l. (guest ≡ l) ⊎ (other ≡ l)) at first-is
      written-by loc (inr at) = subst (λ l. (guest ≡ l) ⊎ (other ≡ l)) at second-is

      written : (loc : ℕ) → IsTrue (writes (meeting_set host next met-first met-second) loc) → IsTrue (writes (meeting_set first second guest other) loc)
      written loc writes-it = written_from_guests first second guest other loc (written-by loc (guests_from_written host next met-first met-second loc writes-it))

      there-by : (loc : ℕ) → IsAmong host next met-first met-second loc → IsAmong first second guest other loc
      there-by loc (inl at) = subst (λ l. IsAmong first second guest other l) at host-among
      there-by loc (inr (inl at)) = subst (λ l. IsAmong first second guest other l) at next-among
      there-by loc (inr (inr guests)) = inr (inr (written-by loc guests))

      there : (loc : ℕ) → IsSome (access_at (meeting_set host next met-first met-second) loc) → IsSome (access_at (meeting_set first second guest other) loc)
      there loc named = named_from_among first second guest other loc (there-by loc (among_from_named host next met-first met-second loc named))

  -- the meetings that follow one are of its own people
  following_within : (key : Key) (body : Body) (contacts : List ℕ) → AreContacts people contacts → IsMeeting people key.prio body →
      let guest = slice_index contacts body.at in
      let other = slice_index contacts body.arg in
      AllByRecursion (λ child. IsWithin (set_in (introductions people) (introduced guest other contacts) child) (meeting_set body.at body.arg guest other))
      (children_from key 0 (meetings_after key.prio body guest other))
  following_within key body contacts fit meeting =
      cond_both (body.kind == 0) [] _
      (λ (starts : List Start). AllByRecursion (λ child. IsWithin (set_in (introductions people) (introduced guest other contacts) child) (meeting_set body.at body.arg guest other)) (children_from key 0 starts))
      (λ none. tt)
      (λ some. (
        meeting_within body.at body.arg guest other guest body.arg (known guest) (known body.arg) (inr (inr (inl refl))) (inr (inl refl)) (inr knows-other) (hosts-know body.arg other refl (inr refl)),
        (meeting_within body.at body.arg guest other body.at other (known body.at) (known other) (inl refl) (inr (inr (inr refl))) (hosts-know body.at guest refl (inl refl)) (inl knows-guest), tt),
      ))
    where
      guest : ℕ
      guest = slice_index contacts body.at

      other : ℕ
      other = slice_index contacts body.arg

      guest-one : guest < people
      guest-one = contact_is_one contacts body.at fit meeting.first

      other-one : other < people
      other-one = contact_is_one contacts body.arg fit meeting.second

      known : ℕ → ℕ
      known person = slice_index (introduced guest other contacts) person

      known-is : (person : ℕ) → known person ≡ contact_after guest other person (slice_index contacts person)
      known-is person = met_fit guest other contacts person fit guest-one other-one

      knows-other : other ≡ known guest
      knows-other = sym (known-is guest ∙ contact_of_guest guest other (slice_index contacts guest))

      knows-guest : guest ≡ known other
      knows-guest = sym (known-is other ∙ contact_of_other guest other (slice_index contacts other))

      -- a host whose contact was one of the two still knows one of them
      hosts-know : (person before : ℕ) → slice_index contacts person ≡ before → (guest ≡ before) ⊎ (other ≡ before) → (guest ≡ known person) ⊎ (other ≡ known person)
      hosts-know person before was one =
          subst (λ now. (guest ≡ now) ⊎ (other ≡ now)) (ap (contact_after guest other person) (sym was) ∙ sym (known-is person)) (narrowed (contact_moves guest other person before))
        where
          narrowed : (before ≡ contact_after guest other person before) ⊎ ((guest ≡ contact_after guest other person before) ⊎ (other ≡ contact_after guest other person before))
              → (guest ≡ contact_after guest other person before) ⊎ (other ≡ contact_after guest other person before)
          narrowed (inl same) = subst (λ now. (guest ≡ now) ⊎ (other ≡ now)) same one
          narrowed (inr moved) = moved

  pub safe_tasks_stay_safe : SafeTasksStaySafe (introductions people)
  safe_tasks_stay_safe task acted before after contacts fit meeting fit-others ascending earlier safe apart = record {
    apart = All-filter _ _ _ (All-weaker _ _ children-apart _ (following_within acted.key acted.body contacts fit acted-meeting));
    safe = refl;
  }
    where
      acted-meeting : IsMeeting people acted.key.prio acted.body
      acted-meeting = All-middle (IsFitTask (introductions people)) before acted after fit-others

      now : List ℕ
      now = introduced (slice_index contacts acted.body.at) (slice_index contacts acted.body.arg) contacts

      acted-set : Accesses
      acted-set = set_in (introductions people) contacts acted

      unchanged : AgreeOn (set_in (introductions people) contacts task) contacts now
      unchanged loc named = sym (acts_are_local.unchanged acted contacts fit acted-meeting loc (false_from_ne_true _ (λ written. apart (written_conflicts acted-set (set_in (introductions people) contacts task) loc written named))))

      now-fit : AreContacts people now
      now-fit = (acts_are_fit acted contacts fit acted-meeting).cells

      same-set : set_in (introductions people) now task ≡ set_in (introductions people) contacts task
      same-set = sets_are_local task contacts now fit now-fit meeting unchanged

      children-apart : (child : Task) → IsWithin (set_in (introductions people) now child) acted-set
          → ¬ Conflicts (set_in (introductions people) now child) (set_in (introductions people) now task)
      children-apart child within conflict =
          apart (conflicts_grow (set_in (introductions people) now child) acted-set (set_in (introductions people) contacts task) within
          (subst (Conflicts (set_in (introductions people) now child)) same-set conflict))

  pub are_lawful : IsLawful (introductions people)
  are_lawful = record {
    cells_are_counted = cells_are_counted;
    sets_are_in_range = sets_are_in_range;
    acts_are_fit = acts_are_fit;
    sets_are_local = sets_are_local;
    acts_are_local = acts_are_local;
    children_come_no_earlier = children_come_no_earlier;
    sets_stay_within = sets_stay_within;
    walks_are_true = walks_are_true;
    safe_alone = safe_alone;
    safe_tasks_stay_safe = safe_tasks_stay_safe;
  }
