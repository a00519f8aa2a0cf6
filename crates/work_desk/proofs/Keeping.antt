-- Each kind of step keeps the rule of a desk.
use Rattle.std.proofs.Common.{◌≡◌, ℕ, List, [], ◌∷◌, ◌++◌, Option, Some, None, refl, sym, ap, subst, arith}
use Rattle.std.specs.Prelude.{◌==◌, slice_index, slice_set}
use mathlib.Core.Option.{none, some}
use lib.ListN.{get_elem?}
use prog.Atomic.{either}
use Rattle.atomic_table.proofs.Lists.{exchanged}
use Rattle.atomic_table.specs.Table.{Act, Allows, Splits, State, Valid, carried_after, opening, step, stepped}
use Rattle.work_desk.specs.declared.view.View.{View}
use Rattle.work_desk.specs.declared.view.Part.{Part}
use Rattle.work_desk.specs.declared.view.Part.TheVariants.{Shut, Open, Giver, Worker}
use Rattle.work_desk.specs.Desk.{Stand, unopened, opened, idle, laid, taken, finished, Fits, DeskRule, Seat, seen, state_of, givers, workers, giving, waiting, resting, working, Opens, Lays, Takes, Finishes, Collects, Revokes, Closes}
use Rattle.work_desk.proofs.Places.{first_held, is_there, part_of, place_of}

module _ {T K : Type 0} (may : K → T → Type 0) (done : K → T → T → Type 0) (key : K) where
  abbrev pub Rule : State (Option T) (View T K) → Type 0
  Rule s = DeskRule (may key) (done key) key s

  abbrev Fit : Stand T → Type 0
  Fit stand = Fits (may key) (done key) stand

  pub begins : Rule (opening (0 ∷ []) (None ∷ []) (seen key Shut))
  begins = record { stand = unopened; fits = tt; is = refl }

  -- what a step comes to that makes the word n
  abbrev Comes : State (Option T) (View T K) → ℕ → ℕ → List (ℕ × Option T) → (Seat T K → Type 0) → Type 0
  Comes s n id carried then =
      (w : View T K) × (a : Act (Option T)) × Valid s.homes carried a × Rule (stepped s 0 n id carried w a) × then (w, carried_after carried a)

  -- a step is allowed where it comes to that however the desk stands
  allowed : (slots : ℕ) (part : Part T) (carried : List (ℕ × Option T)) (f : ℕ → ℕ) (then : K → ℕ → Seat T K → Type 0)
      → ((stand : Stand T) → Fit stand → part ≡ part_of stand part → Comes (state_of key stand) (f (slice_index (state_of key stand).words 0)) (place_of part) carried (then key (slice_index (state_of key stand).words 0)))
      → (id : ℕ) (own : K) → Allows Rule slots id (seen own part, carried) 0 f (then own)
  allowed slots part carried f then comes id own s rule many at below =
      let there = is_there key rule.stand id own part (subst (λ (s : State (Option T) (View T K)). get_elem? s.views id ≡ some (seen own part)) rule.is at) in
      let stands = state_of key rule.stand in
      let word = slice_index stands.words 0 in
      subst (λ (s : State (Option T) (View T K)). Comes s (f (slice_index s.words 0)) id carried (then own (slice_index s.words 0))) (sym rule.is)
      (subst (λ n. Comes stands (f word) n carried (then own word)) (sym there.0)
      (subst (λ k. Comes stands (f word) (place_of part) carried (then k word)) there.1 (comes rule.stand rule.fits there.2)))

  -- ---- before there are two seats

  pub opens : (slots id : ℕ) (own : K) → Allows Rule slots id (seen own Shut, []) 0 (λ n. n) (Opens (step slots 0 0 0 none) (seen own Shut, []))
  opens slots = allowed slots Shut [] (λ n. n) (λ own. Opens (step slots 0 0 0 none) (seen own Shut, [])) comes
    where
      comes : (stand : Stand T) → Fit stand → Shut ≡ part_of stand Shut → Comes (state_of key stand) (slice_index (state_of key stand).words 0) 0 []
          (Opens (step slots 0 0 0 none) (seen key Shut, []) (slice_index (state_of key stand).words 0))
      comes unopened fits is = (seen key Open, Act.takes 0 None, refl, record { stand = opened; fits = tt; is = refl }, refl)
      comes opened fits is = absurd (cc)
      comes (idle word) fits is = absurd (cc)
      comes (laid x) fits is = absurd (cc)
      comes (taken x) fits is = absurd (cc)
      comes (finished x y) fits is = absurd (cc)

  pub splits : (id : ℕ) (own : K) → Splits Rule id (seen own Open) (givers (seen own Open)) (workers (seen own Open))
  splits id own s rule at =
      let there = is_there key rule.stand id own Open (subst (λ (s : State (Option T) (View T K)). get_elem? s.views id ≡ some (seen own Open)) rule.is at) in
      subst (λ (s : State (Option T) (View T K)). Rule record { words = s.words; homes = s.homes; views = slice_set s.views id (seen own (Giver None)) ++ seen own (Worker None) ∷ [] }) (sym rule.is)
      (subst (λ n. Rule record { words = (state_of key rule.stand).words; homes = (state_of key rule.stand).homes; views = slice_set (state_of key rule.stand).views n (seen own (Giver None)) ++ seen own (Worker None) ∷ [] }) (sym there.0)
      (subst (λ k. Rule record { words = (state_of key rule.stand).words; homes = (state_of key rule.stand).homes; views = slice_set (state_of key rule.stand).views 0 (seen k (Giver None)) ++ seen k (Worker None) ∷ [] }) there.1
      (comes rule.stand there.2)))
    where
      comes : (stand : Stand T) → Open ≡ part_of stand Open → Rule record { words = (state_of key stand).words; homes = (state_of key stand).homes; views = slice_set (state_of key stand).views 0 (seen key (Giver None)) ++ seen key (Worker None) ∷ [] }
      comes unopened is = absurd (cc)
      comes opened is = record { stand = idle 0; fits = ((λ same. omega (arith, same)), (λ same. omega (arith, same)), (λ same. omega (arith, same))); is = refl }
      comes (idle word) is = absurd (cc)
      comes (laid x) is = absurd (cc)
      comes (taken x) is = absurd (cc)
      comes (finished x y) is = absurd (cc)

  -- ---- the giver

  pub lays : (slots id : ℕ) (own : K) (x : T) → may own x → Allows Rule slots id (giving own (Some x)) 0 (λ _. 1) (λ _. Lays (step slots 0 1 0 none) (giving own (Some x)) 1)
  lays slots id own x ok s rule many at below =
      let there = is_there key rule.stand id own (Giver None) (subst (λ (s : State (Option T) (View T K)). get_elem? s.views id ≡ some (seen own (Giver None))) rule.is at) in
      allowed slots (Giver None) ((0, Some x) ∷ []) (λ _. 1) (λ own _. Lays (step slots 0 1 0 none) (giving own (Some x)) 1) (comes (subst (λ k. may k x) (sym there.1) ok)) id own s rule many at below
    where
      comes : may key x → (stand : Stand T) → Fit stand → Giver None ≡ part_of stand (Giver None) → Comes (state_of key stand) 1 0 ((0, Some x) ∷ []) (Lays (step slots 0 1 0 none) (giving key (Some x)) 1)
      comes may_be unopened fits is = absurd (cc)
      comes may_be opened fits is = absurd (cc)
      comes may_be (idle word) fits is =
          (seen key (Giver (Some x)), Act.gives, tt, record { stand = laid x; fits = may_be; is = refl }, (λ z same. let held : Some x ≡ Some z = ap (λ (l : List (ℕ × Option T)). first_held l) same in let one : x ≡ z = cc in ap (λ (z : T). waiting key z) one))
      comes may_be (laid z) fits is = absurd (cc)
      comes may_be (taken z) fits is = absurd (cc)
      comes may_be (finished z y) fits is = absurd (cc)

  pub collects : (slots id : ℕ) (own : K) (x : T) → Allows Rule slots id (waiting own x) 0 (λ n. either (n == 3) 0 n) (Collects done (step slots 0 3 0 none) (waiting own x))
  collects slots id own x = allowed slots (Giver (Some x)) [] (λ n. either (n == 3) 0 n) (λ own. Collects done (step slots 0 3 0 none) (waiting own x)) comes id own
    where
      comes : (stand : Stand T) → Fit stand → Giver (Some x) ≡ part_of stand (Giver (Some x))
          → Comes (state_of key stand) (either (slice_index (state_of key stand).words 0 == 3) 0 (slice_index (state_of key stand).words 0)) 0 [] (Collects done (step slots 0 3 0 none) (waiting key x) (slice_index (state_of key stand).words 0))
      comes unopened fits is = absurd (cc)
      comes opened fits is = absurd (cc)
      comes (idle word) fits is = absurd (cc)
      comes (laid z) fits is = (
        seen key (Giver (Some x)),
        Act.keeps,
        tt,
        record { stand = laid x; fits = (let one : z ≡ x = cc in subst (may key) one fits); is = (let one : z ≡ x = cc in λ i. record { words = 1 ∷ []; homes = some (Some (one i)) ∷ []; views = seen key (Giver (Some x)) ∷ seen key (Worker None) ∷ [] }) },
        record { has = λ same. absurd (omega (arith, same)); none = λ _. refl },
      )
      comes (taken z) fits is = (
        seen key (Giver (Some x)),
        Act.keeps,
        tt,
        record { stand = taken x; fits = tt; is = (let one : z ≡ x = cc in λ i. record { words = 2 ∷ []; homes = none ∷ []; views = seen key (Giver (Some x)) ∷ seen key (Worker (Some (one i))) ∷ [] }) },
        record { has = λ same. absurd (omega (arith, same)); none = λ _. refl },
      )
      comes (finished z y) fits is = (
        seen key (Giver None),
        Act.takes 0 (Some y),
        refl,
        record { stand = idle 0; fits = ((λ same. omega (arith, same)), (λ same. omega (arith, same)), (λ same. omega (arith, same))); is = refl },
        record { has = λ _. record { y = y; is = refl; fits = λ u same. let one : z ≡ u = cc in subst (λ (u : T). done key u y) one fits }; none = λ other. absurd (other refl) },
      )

  pub revokes : (slots id : ℕ) (own : K) (x : T) → Allows Rule slots id (waiting own x) 0 (λ n. either (n == 1) 0 n) (Revokes (step slots 0 1 0 none) (waiting own x))
  revokes slots id own x = allowed slots (Giver (Some x)) [] (λ n. either (n == 1) 0 n) (λ own. Revokes (step slots 0 1 0 none) (waiting own x)) comes id own
    where
      comes : (stand : Stand T) → Fit stand → Giver (Some x) ≡ part_of stand (Giver (Some x))
          → Comes (state_of key stand) (either (slice_index (state_of key stand).words 0 == 1) 0 (slice_index (state_of key stand).words 0)) 0 [] (Revokes (step slots 0 1 0 none) (waiting key x) (slice_index (state_of key stand).words 0))
      comes unopened fits is = absurd (cc)
      comes opened fits is = absurd (cc)
      comes (idle word) fits is = absurd (cc)
      comes (laid z) fits is = (
        seen key (Giver None),
        Act.takes 0 (Some z),
        refl,
        record { stand = idle 0; fits = ((λ same. omega (arith, same)), (λ same. omega (arith, same)), (λ same. omega (arith, same))); is = refl },
        record { has = λ _ u same. let one : z ≡ u = cc in ap (λ (u : T). giving key (Some u)) one; none = λ other. absurd (other refl) },
      )
      comes (taken z) fits is = (
        seen key (Giver (Some x)),
        Act.keeps,
        tt,
        record { stand = taken x; fits = tt; is = (let one : z ≡ x = cc in λ i. record { words = 2 ∷ []; homes = none ∷ []; views = seen key (Giver (Some x)) ∷ seen key (Worker (Some (one i))) ∷ [] }) },
        record { has = λ same. absurd (omega (arith, same)); none = λ _. refl },
      )
      comes (finished z y) fits is = (
        seen key (Giver (Some x)),
        Act.keeps,
        tt,
        record { stand = finished x y; fits = (let one : z ≡ x = cc in subst (λ (u : T). done key u y) one fits); is = refl },
        record { has = λ same. absurd (omega (arith, same)); none = λ _. refl },
      )

  pub closes : (slots id : ℕ) (own : K) → Allows Rule slots id (giving own None) 0 (λ _. 4) (λ _. Closes (step slots 0 4 0 none) (giving own None) 4)
  closes slots = allowed slots (Giver None) ((0, None) ∷ []) (λ _. 4) (λ own _. Closes (step slots 0 4 0 none) (giving own None) 4) comes
    where
      comes : (stand : Stand T) → Fit stand → Giver None ≡ part_of stand (Giver None) → Comes (state_of key stand) 4 0 ((0, None) ∷ []) (Closes (step slots 0 4 0 none) (giving key None) 4)
      comes unopened fits is = absurd (cc)
      comes opened fits is = absurd (cc)
      comes (idle word) fits is =
          (seen key (Giver None), Act.keeps, tt, record { stand = idle 4; fits = ((λ same. omega (arith, same)), (λ same. omega (arith, same)), (λ same. omega (arith, same))); is = refl }, refl)
      comes (laid z) fits is = absurd (cc)
      comes (taken z) fits is = absurd (cc)
      comes (finished z y) fits is = absurd (cc)

  -- ---- the worker

  pub takes : (slots id : ℕ) (own : K) → Allows Rule slots id (resting own) 0 (λ n. either (n == 1) 2 n) (Takes may (step slots 0 1 2 none) (resting own))
  takes slots = allowed slots (Worker None) [] (λ n. either (n == 1) 2 n) (λ own. Takes may (step slots 0 1 2 none) (resting own)) comes
    where
      comes : (stand : Stand T) → Fit stand → Worker None ≡ part_of stand (Worker None)
          → Comes (state_of key stand) (either (slice_index (state_of key stand).words 0 == 1) 2 (slice_index (state_of key stand).words 0)) 1 [] (Takes may (step slots 0 1 2 none) (resting key) (slice_index (state_of key stand).words 0))
      comes unopened fits is = absurd (cc)
      comes opened fits is = absurd (cc)
      comes (idle word) fits is =
          exchanged word 1 2 (λ n. Comes (state_of key (idle word)) n 1 [] (Takes may (step slots 0 1 2 none) (resting key) word))
          (λ hit. absurd (fits.0 hit))
          (λ miss. (seen key (Worker None), Act.keeps, tt, record { stand = idle word; fits = fits; is = refl }, record { has = λ hit. absurd (miss hit); none = λ _. refl }))
      comes (laid x) fits is = (
        seen key (Worker (Some x)),
        Act.takes 0 (Some x),
        refl,
        record { stand = taken x; fits = tt; is = refl },
        record { has = λ _. record { x = x; is = refl; fits = fits }; none = λ other. absurd (other refl) },
      )
      comes (taken x) fits is = absurd (cc)
      comes (finished x y) fits is = (
        seen key (Worker None),
        Act.keeps,
        tt,
        record { stand = finished x y; fits = fits; is = refl },
        record { has = λ same. absurd (omega (arith, same)); none = λ _. refl },
      )

  pub finishes : (slots id : ℕ) (own : K) (x y : T) → done own x y → Allows Rule slots id (working own x (Some y)) 0 (λ _. 3) (λ _. Finishes (step slots 0 3 0 none) (working own x (Some y)) 3)
  finishes slots id own x y ok s rule many at below =
      let there = is_there key rule.stand id own (Worker (Some x)) (subst (λ (s : State (Option T) (View T K)). get_elem? s.views id ≡ some (seen own (Worker (Some x)))) rule.is at) in
      allowed slots (Worker (Some x)) ((0, Some y) ∷ []) (λ _. 3) (λ own _. Finishes (step slots 0 3 0 none) (working own x (Some y)) 3) (comes (subst (λ k. done k x y) (sym there.1) ok)) id own s rule many at below
    where
      comes : done key x y → (stand : Stand T) → Fit stand → Worker (Some x) ≡ part_of stand (Worker (Some x)) → Comes (state_of key stand) 3 1 ((0, Some y) ∷ []) (Finishes (step slots 0 3 0 none) (working key x (Some y)) 3)
      comes is_done unopened fits is = absurd (cc)
      comes is_done opened fits is = absurd (cc)
      comes is_done (idle word) fits is = absurd (cc)
      comes is_done (laid z) fits is = absurd (cc)
      comes is_done (taken z) fits is =
          (seen key (Worker None), Act.gives, tt, record { stand = finished z y; fits = (let one : x ≡ z = cc in subst (λ (u : T). done key u y) one is_done); is = refl }, refl)
      comes is_done (finished z u) fits is = absurd (cc)
