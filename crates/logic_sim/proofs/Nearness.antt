-- Where all signals are settled, the time of each is exactly when something may first come to it.
use Rattle.std.proofs.Common.{◌≡◌, ◌∙◌, ℕ, zero, suc, ◌+◌, ◌-◌, ◌<◌, ◌≤◌, Bool, true, false, List, [], ◌∷◌, length, ap, sym, refl, subst, inl, inr, arith}
use Rattle.std.specs.Prelude.{◌==◌, ◌&&◌, ◌||◌, not, nat_lt, slice_index}
use Rattle.std.specs.List.{AllByRecursion, filter, list_all, list_any}
use Rattle.std.proofs.lemmas.Bool.{cases_Bool, eqb-true, false≢true, le-ltb, or_cases, or_left, or_right}
use Rattle.std.proofs.lemmas.Bool.Decides.{nat_tests}
use Rattle.plain_laws.specs.Lists.{none_from_all}
use Rattle.bench_reader.specs.Decks.{IsSoundlyWired}
use Rattle.bench_reader.specs.declared.deck.Form.{Form}
use Rattle.bench_reader.specs.declared.deck.Form.TheVariants.{Input, Gate, Dff}
use Rattle.task_order.specs.declared.task.Task.{Task}
use Rattle.logic_sim.specs.Distance.{drivers_of, leads, moment_of, reaches, reaches_any}
use Rattle.logic_sim.specs.DistanceLaws.{any_alike, driven_later, each_of, leads_by_driver, leads_to_none}
use Rattle.logic_sim.specs.Event.{Simulation, delay_of}
use Rattle.logic_sim.specs.Horizon.{AreSettled, any_near, comes_at, never}
use Rattle.logic_sim.specs.Lawful.{wired}
use Rattle.logic_sim.specs.Wiring.{fan_in_of, is_among, signal_at, watched_by}

pub any_or : {X : Type 0} (p q : X → Bool) (xs : List X) → list_any (λ x. p x || q x) xs ≡ (list_any p xs || list_any q xs)
any_or p q [] = refl
any_or p q (x ∷ xs) = ap (λ (b : Bool). p x || q x || b) (any_or p q xs) ∙ shuffled (p x) (q x) (list_any p xs) (list_any q xs)
  where
    shuffled : (a b c d : Bool) → (a || b || (c || d)) ≡ (a || c || (b || d))
    shuffled true b c d = refl
    shuffled false true true d = refl
    shuffled false true false d = refl
    shuffled false false c d = refl

any_none : {X : Type 0} (xs : List X) → list_any (λ x. false) xs ≡ false
any_none [] = refl
any_none (x ∷ xs) = any_none xs

pub any_swap : {X Y : Type 0} (r : X → Y → Bool) (xs : List X) (ys : List Y) → list_any (λ x. list_any (λ y. r x y) ys) xs ≡ list_any (λ y. list_any (λ x. r x y) xs) ys
any_swap r [] ys = sym (any_none ys)
any_swap r (x ∷ xs) ys = ap (λ (b : Bool). list_any (λ y. r x y) ys || b) (any_swap r xs ys) ∙ sym (any_or (λ y. r x y) (λ y. list_any (λ x. r x y) xs) ys)

-- where all that a filter drops fail
pub any_kept : {X : Type 0} (p keeps : X → Bool) (F : X → Type 0) (xs : List X) → ((x : X) → F x → keeps x ≡ false → p x ≡ false) → AllByRecursion F xs → list_any p xs ≡ list_any p (filter keeps xs)
any_kept p keeps F [] fail all = refl
any_kept p keeps F (x ∷ xs) fail all = elim (cases_Bool (keeps x)) [
  | inl holds ↦ rw holds (ap (λ (b : Bool). p x || b) (any_kept p keeps F xs fail all.1))
  | inr fails ↦ rw (fails, fail x all.0 fails) (any_kept p keeps F xs fail all.1)
]

pub none_of_all : {X : Type 0} (p : X → Bool) (xs : List X) → list_all (λ x. not (p x)) xs ≡ not (list_any p xs)
none_of_all p [] = refl
none_of_all p (x ∷ xs) = ap (λ (b : Bool). not (p x) && b) (none_of_all p xs) ∙ both_not (p x) (list_any p xs)
  where
    both_not : (a b : Bool) → (not a && not b) ≡ not (a || b)
    both_not true b = refl
    both_not false b = refl

pub each_among : (P : ℕ → Type 0) (numbers : List ℕ) → ((number : ℕ) → is_among numbers number ≡ true → P number) → AllByRecursion P numbers
each_among P [] each = tt
each_among P (number ∷ numbers) each =
    (each number (or_left (number == number) (is_among numbers number) (eq_itself number)), each_among P numbers (λ other among. each other (or_right (number == other) (is_among numbers other) among)))
  where
    eq_itself : (n : ℕ) → (n == n) ≡ true
    eq_itself n = grind (arith, nat_tests)

pub of_among : (P : ℕ → Type 0) (numbers : List ℕ) (number : ℕ) → AllByRecursion P numbers → is_among numbers number ≡ true → P number
of_among P [] number all among = absurd (false≢true among)
of_among P (first ∷ numbers) number all among = elim (or_cases (first == number) (is_among numbers number) among) [
  | inl here ↦ subst P (eqb-true first number here) all.0
  | inr later ↦ of_among P numbers number all.1 later
]

watched_are_read : (P : ℕ → Type 0) (form : Form) → AllByRecursion P (fan_in_of form) → AllByRecursion P (watched_by form)
watched_are_read P Input all = all
watched_are_read P (Gate kind fan_in) all = all
watched_are_read P (Dff source) all = tt

pub drivers_below : (c : Simulation) (signal : ℕ) → IsSoundlyWired c.deck → signal < length c.deck.signals → AllByRecursion (λ driver. driver < length c.deck.signals) (drivers_of c signal)
drivers_below c signal sound below = watched_are_read (λ driver. driver < length c.deck.signals) (signal_at c.deck.signals signal).form (wired c signal sound below)

-- whether one of the tasks comes to a signal before the limit
abbrev pub any_reaches : Simulation → List Task → ℕ → ℕ → Bool
any_reaches c tasks signal limit = list_any (λ task. reaches c task.key.prio task.body signal limit) tasks

module _ (c : Simulation) (near entries : List ℕ) (tasks : List Task) (sound : IsSoundlyWired c.deck) (settled : AreSettled c near entries tasks) where
  near_exact_within : (fuel limit signal : ℕ) → limit ≤ fuel → limit ≤ never → signal < length c.deck.signals → nat_lt (slice_index near signal) limit ≡ any_reaches c tasks signal limit
  near_exact_within zero limit signal long early below =
      let none : limit ≡ 0 = omega (arith, long) in
      le-ltb (slice_index near signal) limit (omega (arith, none))
      ∙ sym (none_from_all (λ task. reaches c task.key.prio task.body signal limit) tasks (each_of (λ (task : Task). reaches c task.key.prio task.body signal limit ≡ false) tasks
      (λ task. subst (λ (l : ℕ). reaches c task.key.prio task.body signal l ≡ false) (sym none) (leads_to_none c (moment_of c task.key.prio task.body) task.body.at signal))))
  near_exact_within (suc fuel) limit signal long early below =
      let sooner : ℕ = limit - delay_of c signal in
      let here = settled signal below in
      here.by_all limit early
      ∙ ap (λ (b : Bool). comes_at c tasks signal limit || b) (here.by_drivers sooner (omega (arith, early))
      ∙ any_alike (λ driver. nat_lt (slice_index near driver) sooner) (λ driver. any_reaches c tasks driver sooner) (drivers_of c signal)
      (each_among (λ driver. nat_lt (slice_index near driver) sooner ≡ any_reaches c tasks driver sooner) (drivers_of c signal)
      (λ driver among. let some : 1 ≤ delay_of c signal = driven_later c signal (λ other. other == driver) sound among in
      near_exact_within fuel sooner driver (omega (arith, some, long)) (omega (arith, early)) (of_among (λ other. other < length c.deck.signals) (drivers_of c signal) driver (drivers_below c signal sound below) among)))
      ∙ any_swap (λ (driver : ℕ) (task : Task). reaches c task.key.prio task.body driver sooner) (drivers_of c signal) tasks)
      ∙ sym (any_or (λ task. task.body.at == signal && nat_lt (moment_of c task.key.prio task.body) limit) (λ task. reaches_any c task.key.prio task.body (drivers_of c signal) sooner) tasks)
      ∙ sym (any_alike (λ task. reaches c task.key.prio task.body signal limit) (λ task. task.body.at == signal && nat_lt (moment_of c task.key.prio task.body) limit || reaches_any c task.key.prio task.body (drivers_of c signal) sooner) tasks
      (each_of (λ (task : Task). reaches c task.key.prio task.body signal limit ≡ (task.body.at == signal && nat_lt (moment_of c task.key.prio task.body) limit || reaches_any c task.key.prio task.body (drivers_of c signal) sooner)) tasks
      (λ task. leads_by_driver c (moment_of c task.key.prio task.body) task.body.at signal limit sound)))

  -- a signal's time is before the limit exactly where one of the tasks comes to it before
  pub near_exact : (limit signal : ℕ) → limit ≤ never → signal < length c.deck.signals → nat_lt (slice_index near signal) limit ≡ any_reaches c tasks signal limit
  near_exact limit signal early below = near_exact_within limit limit signal (omega arith) early below

  -- of signals in range
  pub any_near_exact : (signals : List ℕ) (limit : ℕ) → limit ≤ never → AllByRecursion (λ signal. signal < length c.deck.signals) signals
      → any_near near signals limit ≡ list_any (λ task. reaches_any c task.key.prio task.body signals limit) tasks
  any_near_exact signals limit early below =
      any_alike (λ signal. nat_lt (slice_index near signal) limit) (λ signal. any_reaches c tasks signal limit) signals
      (each_among (λ signal. nat_lt (slice_index near signal) limit ≡ any_reaches c tasks signal limit) signals (λ signal among. near_exact limit signal early (of_among (λ other. other < length c.deck.signals) signals signal below among)))
      ∙ any_swap (λ (signal : ℕ) (task : Task). reaches c task.key.prio task.body signal limit) signals tasks

  pub entry_exact : (signal limit : ℕ) → limit ≤ never → signal < length c.deck.signals
      → nat_lt (slice_index entries signal) limit ≡ list_any (λ task. reaches_any c task.key.prio task.body (drivers_of c signal) limit) tasks
  entry_exact signal limit early below = (settled signal below).by_drivers limit early ∙ any_near_exact (drivers_of c signal) limit early (drivers_below c signal sound below)
