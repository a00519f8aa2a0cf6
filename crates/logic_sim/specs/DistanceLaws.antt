-- Chains of drivers: what they lead to, and that no follower comes nearer to a signal than what it follows from.
use Rattle.std.specs.Prelude.{◌≡◌, ℕ, zero, suc, ◌+◌, ◌-◌, ◌<◌, ◌≤◌, ◌==◌, ◌&&◌, ◌||◌, nat_lt, if◌then◌else◌, Bool, true, false, List, [], ◌∷◌, length, refl}
use Rattle.std.specs.List.{AllByRecursion, list_any}
use Rattle.std.proofs.Common.{arith, ap, get_or, inl, inr, subst, sym, ◌∙◌}
use Rattle.std.proofs.lemmas.Bool.{and_from, and_parts, cases_lt, cases_Bool, eq-eqb, eqb-true, false≢true, le-ltb, lt-ltb, ltb-true, or_cases, or_left, or_right}
use Rattle.std.proofs.lemmas.List.{get_or_past}
use Rattle.plain_laws.specs.Bools.{same_tests}
use Rattle.bench_reader.specs.Decks.{IsSoundlyWired, is_input}
use Rattle.bench_reader.specs.declared.deck.Form.{Form}
use Rattle.bench_reader.specs.declared.deck.Form.TheVariants.{Input, Gate, Dff}
use Rattle.bench_reader.specs.declared.deck.Signal.{Signal}
use Rattle.logic_sim.specs.Distance.{IsChain, IsGap, chain_delay, drivers_of, leads}
use Rattle.logic_sim.specs.Event.{Simulation, delay_of}
use Rattle.logic_sim.specs.Laws.{delays_are_positive}
use Rattle.logic_sim.specs.Wiring.{is_among, no_signal, signal_at, watched_by}

-- what follows from each element that passes follows where one passes
pub any_gives : {X : Type 0} (p : X → Bool) (Q : Type 0) (xs : List X) → ((x : X) → p x ≡ true → Q) → list_any p xs ≡ true → Q
any_gives p Q [] each some = absurd (false≢true some)
any_gives p Q (x ∷ xs) each some = elim (or_cases (p x) (list_any p xs) some) [
  | inl here ↦ each x here
  | inr rest ↦ any_gives p Q xs each rest
]

pub any_weaker : {X : Type 0} (p q : X → Bool) (xs : List X) → ((x : X) → p x ≡ true → q x ≡ true) → list_any p xs ≡ true → list_any q xs ≡ true
any_weaker p q [] each some = some
any_weaker p q (x ∷ xs) each some = elim (or_cases (p x) (list_any p xs) some) [
  | inl here ↦ or_left (q x) (list_any q xs) (each x here)
  | inr rest ↦ or_right (q x) (list_any q xs) (any_weaker p q xs each rest)
]

-- one of the numbers passes
pub any_at : (p : ℕ → Bool) (numbers : List ℕ) (number : ℕ) → is_among numbers number ≡ true → p number ≡ true → list_any p numbers ≡ true
any_at p numbers number among passes =
    any_weaker (λ other. other == number) p numbers (λ other same. ap p (eqb-true other number same) ∙ passes) among

driven : (form : Form) (p : ℕ → Bool) → list_any p (watched_by form) ≡ true → is_input form ≡ false
driven Input p some = absurd (false≢true some)
driven (Gate kind fan_in) p some = refl
driven (Dff source) p some = refl

-- a signal with a driver takes its value later than this was planned
pub driven_later : (c : Simulation) (to : ℕ) (p : ℕ → Bool) → IsSoundlyWired c.deck → list_any p (drivers_of c to) ≡ true → 1 ≤ delay_of c to
driven_later c to p sound some = elim (cases_lt to (length c.deck.signals)) [
  | inl below ↦ delays_are_positive c to sound below (driven (signal_at c.deck.signals to).form p some)
  | inr past ↦ absurd (false≢true (subst (λ (signal : Signal). list_any p (watched_by signal.form) ≡ true) (get_or_past c.deck.signals to no_signal past) some))
]

-- a change leads to itself
pub leads_here : (fuel : ℕ) (c : Simulation) (moment signal limit : ℕ) → moment < limit → 1 ≤ fuel → leads fuel c moment signal signal limit ≡ true
unfolding leads
leads_here zero c moment signal limit early some = absurd (omega arith)
leads_here (suc fuel) c moment signal limit early some =
    or_left (signal == signal && nat_lt moment limit) (list_any (λ driver. leads fuel c moment signal driver (limit - delay_of c signal)) (drivers_of c signal))
    (and_from (signal == signal) (nat_lt moment limit) (eq-eqb signal signal refl) (lt-ltb moment limit early))

-- and to what a driver leads to
leads_on : (fuel : ℕ) (c : Simulation) (moment from driver to limit : ℕ) → is_among (drivers_of c to) driver ≡ true → leads fuel c moment from driver (limit - delay_of c to) ≡ true
    → leads (suc fuel) c moment from to limit ≡ true
unfolding leads
leads_on fuel c moment from driver to limit among led =
    or_right (from == to && nat_lt moment limit) (list_any (λ other. leads fuel c moment from other (limit - delay_of c to)) (drivers_of c to))
    (any_at (λ other. leads fuel c moment from other (limit - delay_of c to)) (drivers_of c to) driver among led)

-- nothing leads to a time before its own
pub leads_later : (fuel : ℕ) (c : Simulation) (moment from to limit : ℕ) → leads fuel c moment from to limit ≡ true → moment < limit
unfolding leads
leads_later zero c moment from to limit led = absurd (false≢true led)
leads_later (suc fuel) c moment from to limit led =
    elim (or_cases (from == to && nat_lt moment limit) (list_any (λ driver. leads fuel c moment from driver (limit - delay_of c to)) (drivers_of c to)) led) [
      | inl here ↦ ltb-true moment limit (and_parts (from == to) (nat_lt moment limit) here).1
      | inr on ↦
          any_gives (λ driver. leads fuel c moment from driver (limit - delay_of c to)) (moment < limit) (drivers_of c to)
          (λ driver more. let sooner = leads_later fuel c moment from driver (limit - delay_of c to) more in omega (arith, sooner)) on
    ]

-- what is sooner leads to no less
pub leads_sooner : (fuel : ℕ) (c : Simulation) (sooner moment from to limit : ℕ) → sooner ≤ moment → leads fuel c moment from to limit ≡ true → leads fuel c sooner from to limit ≡ true
unfolding leads
leads_sooner zero c sooner moment from to limit low led = led
leads_sooner (suc fuel) c sooner moment from to limit low led =
    elim (or_cases (from == to && nat_lt moment limit) (list_any (λ driver. leads fuel c moment from driver (limit - delay_of c to)) (drivers_of c to)) led) [
      | inl here ↦
          let parts = and_parts (from == to) (nat_lt moment limit) here in
          let early : sooner < limit = omega (arith, low, ltb-true moment limit parts.1) in
          or_left (from == to && nat_lt sooner limit) (list_any (λ driver. leads fuel c sooner from driver (limit - delay_of c to)) (drivers_of c to))
          (and_from (from == to) (nat_lt sooner limit) parts.0 (lt-ltb sooner limit early))
      | inr on ↦
          or_right (from == to && nat_lt sooner limit) (list_any (λ driver. leads fuel c sooner from driver (limit - delay_of c to)) (drivers_of c to))
          (any_weaker (λ driver. leads fuel c moment from driver (limit - delay_of c to)) (λ driver. leads fuel c sooner from driver (limit - delay_of c to)) (drivers_of c to)
          (λ driver more. leads_sooner fuel c sooner moment from driver (limit - delay_of c to) low more) on)
    ]

-- what a driven signal leads to, its driver leads to
pub leads_from_driver : (fuel : ℕ) (c : Simulation) (moment driver gate to limit : ℕ) → IsSoundlyWired c.deck → is_among (drivers_of c gate) driver ≡ true → limit ≤ fuel
    → leads fuel c (moment + delay_of c gate) gate to limit ≡ true → leads fuel c moment driver to limit ≡ true
unfolding leads
leads_from_driver zero c moment driver gate to limit sound among long led = led
leads_from_driver (suc fuel) c moment driver gate to limit sound among long led =
    elim (or_cases (gate == to && nat_lt (moment + delay_of c gate) limit) (list_any (λ other. leads fuel c (moment + delay_of c gate) gate other (limit - delay_of c to)) (drivers_of c to)) led) [
      | inl here ↦
          let parts = and_parts (gate == to) (nat_lt (moment + delay_of c gate) limit) here in
          let is : gate ≡ to = eqb-true gate to parts.0 in
          let early : moment + delay_of c gate < limit = ltb-true (moment + delay_of c gate) limit parts.1 in
          let some : 1 ≤ delay_of c gate = driven_later c gate (λ other. other == driver) sound among in
          subst (λ (signal : ℕ). leads (suc fuel) c moment driver signal limit ≡ true) is
          (leads_on fuel c moment driver driver gate limit among (leads_here fuel c moment driver (limit - delay_of c gate) (omega (arith, early)) (omega (arith, early, some, long))))
      | inr on ↦
          let some : 1 ≤ delay_of c to = driven_later c to (λ other. leads fuel c (moment + delay_of c gate) gate other (limit - delay_of c to)) sound on in
          or_right (driver == to && nat_lt moment limit) (list_any (λ other. leads fuel c moment driver other (limit - delay_of c to)) (drivers_of c to))
          (any_weaker (λ other. leads fuel c (moment + delay_of c gate) gate other (limit - delay_of c to)) (λ other. leads fuel c moment driver other (limit - delay_of c to)) (drivers_of c to)
          (λ other more. leads_from_driver fuel c moment driver gate other (limit - delay_of c to) sound among (omega (arith, some, long)) more) on)
    ]

-- what comes to a signal within a unit of time of the limit is there already
pub leads_no_further : (fuel : ℕ) (c : Simulation) (moment from to limit : ℕ) → IsSoundlyWired c.deck → limit ≤ moment + 1 → leads fuel c moment from to limit ≡ true → from ≡ to
unfolding leads
leads_no_further zero c moment from to limit sound late led = absurd (false≢true led)
leads_no_further (suc fuel) c moment from to limit sound late led =
    elim (or_cases (from == to && nat_lt moment limit) (list_any (λ driver. leads fuel c moment from driver (limit - delay_of c to)) (drivers_of c to)) led) [
      | inl here ↦ eqb-true from to (and_parts (from == to) (nat_lt moment limit) here).0
      | inr on ↦
          let some : 1 ≤ delay_of c to = driven_later c to (λ driver. leads fuel c moment from driver (limit - delay_of c to)) sound on in
          any_gives (λ driver. leads fuel c moment from driver (limit - delay_of c to)) (from ≡ to) (drivers_of c to)
          (λ driver more. let sooner = leads_later fuel c moment from driver (limit - delay_of c to) more in absurd (omega (arith, sooner, some, late))) on
    ]

-- a chain by which a change leads to another
pub record Leads (c : Simulation) (moment from to limit : ℕ) : Type 0 where
  pub chain : List ℕ
  pub leads : IsChain c from to chain
  pub early : moment + chain_delay c to chain < limit

longer : (c : Simulation) (moment from driver to limit : ℕ) → is_among (drivers_of c to) driver ≡ true → Leads c moment from driver (limit - delay_of c to) → Leads c moment from to limit
longer c moment from driver to limit among led = record {
  chain = driver ∷ led.chain;
  leads = (among, led.leads);
  early = omega (arith, led.early);
}

pub listed_gives : (p : ℕ → Bool) (Q : Type 0) (numbers : List ℕ) → ((number : ℕ) → is_among numbers number ≡ true → p number ≡ true → Q) → list_any p numbers ≡ true → Q
listed_gives p Q [] each some = absurd (false≢true some)
listed_gives p Q (number ∷ numbers) each some = elim (or_cases (p number) (list_any p numbers) some) [
  | inl here ↦ each number (or_left (number == number) (is_among numbers number) (eq-eqb number number refl)) here
  | inr rest ↦ listed_gives p Q numbers (λ other among passes. each other (or_right (number == other) (is_among numbers other) among) passes) rest
]

chain_found : (fuel : ℕ) (c : Simulation) (moment from to limit : ℕ) → leads fuel c moment from to limit ≡ true → Leads c moment from to limit
unfolding leads
chain_found zero c moment from to limit led = absurd (false≢true led)
chain_found (suc fuel) c moment from to limit led =
    elim (or_cases (from == to && nat_lt moment limit) (list_any (λ driver. leads fuel c moment from driver (limit - delay_of c to)) (drivers_of c to)) led) [
      | inl here ↦
          let parts = and_parts (from == to) (nat_lt moment limit) here in
          record { chain = []; leads = eqb-true from to parts.0; early = omega (arith, ltb-true moment limit parts.1) }
      | inr on ↦
          listed_gives (λ driver. leads fuel c moment from driver (limit - delay_of c to)) (Leads c moment from to limit) (drivers_of c to)
          (λ driver among more. longer c moment from driver to limit among (chain_found fuel c moment from driver (limit - delay_of c to) more)) on
    ]

chain_leads : (chain : List ℕ) (fuel : ℕ) (c : Simulation) (moment from to limit : ℕ) → IsSoundlyWired c.deck → limit ≤ fuel → IsChain c from to chain → moment + chain_delay c to chain < limit
    → leads fuel c moment from to limit ≡ true
chain_leads [] fuel c moment from to limit sound long is early =
    subst (λ (signal : ℕ). leads fuel c moment from signal limit ≡ true) is (leads_here fuel c moment from limit (omega (arith, early)) (omega (arith, early, long)))
chain_leads (driver ∷ chain) zero c moment from to limit sound long is early = absurd (omega (arith, early, long))
chain_leads (driver ∷ chain) (suc fuel) c moment from to limit sound long is early =
    let some : 1 ≤ delay_of c to = driven_later c to (λ other. other == driver) sound is.0 in
    leads_on fuel c moment from driver to limit is.0
    (chain_leads chain fuel c moment from driver (limit - delay_of c to) sound (omega (arith, some, long)) is.1 (omega (arith, early)))

-- chains of as many signals as there are units of time are long enough
leads_longer : (fuel other : ℕ) (c : Simulation) (moment from to limit : ℕ) → IsSoundlyWired c.deck → limit ≤ other → leads fuel c moment from to limit ≡ true → leads other c moment from to limit ≡ true
leads_longer fuel other c moment from to limit sound long led =
    let found = chain_found fuel c moment from to limit led in
    chain_leads found.chain other c moment from to limit sound long found.leads found.early

pub leads_enough : (fuel other : ℕ) (c : Simulation) (moment from to limit : ℕ) → IsSoundlyWired c.deck → limit ≤ fuel → limit ≤ other → leads fuel c moment from to limit ≡ leads other c moment from to limit
leads_enough fuel other c moment from to limit sound long other-long =
    same_tests (leads fuel c moment from to limit) (leads other c moment from to limit) (leads_longer fuel other c moment from to limit sound other-long) (leads_longer other fuel c moment from to limit sound long)

-- the same answer for each element
pub any_alike : {X : Type 0} (p q : X → Bool) (xs : List X) → AllByRecursion (λ x. p x ≡ q x) xs → list_any p xs ≡ list_any q xs
any_alike p q [] same = refl
any_alike p q (x ∷ xs) same = ap (λ (b : Bool). b || list_any p xs) same.0 ∙ ap (λ (b : Bool). q x || b) (any_alike p q xs same.1)

pub each_of : {X : Type 0} (P : X → Type 0) (xs : List X) → ((x : X) → P x) → AllByRecursion P xs
each_of P [] each = tt
each_of P (x ∷ xs) each = (each x, each_of P xs each)

one_step : (fuel : ℕ) (c : Simulation) (moment from to limit : ℕ)
    → leads (suc fuel) c moment from to limit ≡ (from == to && nat_lt moment limit || list_any (λ driver. leads fuel c moment from driver (limit - delay_of c to)) (drivers_of c to))
unfolding leads
one_step fuel c moment from to limit = refl

-- what comes to a signal is there, or comes from one of its drivers
pub leads_by_driver : (c : Simulation) (moment from to limit : ℕ) → IsSoundlyWired c.deck
    → leads limit c moment from to limit ≡ (from == to && nat_lt moment limit || list_any (λ driver. leads (limit - delay_of c to) c moment from driver (limit - delay_of c to)) (drivers_of c to))
leads_by_driver c moment from to limit sound =
    leads_enough limit (suc limit) c moment from to limit sound (omega arith) (omega arith) ∙ one_step limit c moment from to limit
    ∙ ap (λ (b : Bool). from == to && nat_lt moment limit || b)
    (any_alike (λ driver. leads limit c moment from driver (limit - delay_of c to)) (λ driver. leads (limit - delay_of c to) c moment from driver (limit - delay_of c to)) (drivers_of c to)
    (each_of (λ driver. leads limit c moment from driver (limit - delay_of c to) ≡ leads (limit - delay_of c to) c moment from driver (limit - delay_of c to)) (drivers_of c to)
    (λ driver. leads_enough limit (limit - delay_of c to) c moment from driver (limit - delay_of c to) sound (omega arith) (omega arith))))

-- nothing leads to the beginning of time
pub leads_to_none : (c : Simulation) (moment from to : ℕ) → leads 0 c moment from to 0 ≡ false
unfolding leads
leads_to_none c moment from to = refl

-- a change leads to another before the limit where the gap between them is short enough
pub gaps_tell : (c : Simulation) (moment from to gap limit : ℕ) → IsSoundlyWired c.deck → IsGap c from to gap → leads limit c moment from to limit ≡ nat_lt (moment + gap) limit
gaps_tell c moment from to gap limit sound is = elim (cases_lt (moment + gap) limit) [
  | inl early ↦
      chain_leads is.chain limit c moment from to limit sound (omega arith) is.leads (omega (arith, is.sum, early)) ∙ sym (lt-ltb (moment + gap) limit early)
  | inr late ↦ elim (cases_Bool (leads limit c moment from to limit)) [
    | inl led ↦
        let found = chain_found limit c moment from to limit led in
        absurd (omega (arith, found.early, late, is.least found.chain found.leads))
    | inr none ↦ none ∙ sym (le-ltb (moment + gap) limit late)
  ]
]
