-- Which events of a circuit conflict.
use Rattle.std.specs.Prelude.{◌≡◌, ◌≢◌, ℕ, zero, suc, ◌==◌, ◌⊎◌, IsSome, IsTrue, true, List, [], ◌∷◌, length, Contains, Option, None, Some, refl}
use Rattle.std.proofs.Common.{arith, ap, inl, inr, subst, sym}
use Rattle.std.proofs.lemmas.Bool.{eq-eqb, eqb-true, false≢true, or_cases, or_left, or_right}
use Rattle.bench_reader.specs.declared.deck.Deck.{Deck}
use Rattle.rw_sets.specs.declared.access.Access.{Access}
use Rattle.rw_sets.specs.declared.access.Access.TheVariants.{Read, Write}
use Rattle.rw_sets.specs.Accesses.{Accesses, Conflicts, access_at, allows_write, clash, writes}
use Rattle.rw_sets.specs.AccessLaws.{ascending_none}
use Rattle.rw_sets.specs.PairLaws.{contains_later, pairs_are_named, pairs_are_written}
use Rattle.logic_sim.specs.Event.{Simulation, plan_place, value_place}
use Rattle.logic_sim.specs.Lawful.{change_set-named, change_set-written, changed_is, eval_set-named}
use Rattle.logic_sim.specs.Meaning.{change_set, eval_accesses, eval_set}
use Rattle.logic_sim.specs.Wiring.{fan_in_of, is_among, signal_at}

-- one of two accesses that exclude each other writes
clash_cases : (x y : Option Access) → clash x y ≡ true → (IsSome x × (allows_write y ≡ true)) ⊎ ((allows_write x ≡ true) × IsSome y)
clash_cases None y h = absurd (false≢true h)
clash_cases (Some x) None h = absurd (false≢true h)
clash_cases (Some Read) (Some y) h = inl (refl, h)
clash_cases (Some Write) (Some y) h = inr (refl, refl)

clash_from : (x y : Option Access) → allows_write x ≡ true → IsSome y → clash x y ≡ true
clash_from None y written named = absurd (false≢true written)
clash_from (Some Read) y written named = absurd (false≢true written)
clash_from (Some Write) None written named = absurd (false≢true named)
clash_from (Some Write) (Some y) written named = refl

-- the location has the value of one of the fan-ins
pub record IsValueOf (fan_in : List ℕ) (loc : ℕ) : Type 0 where
  pub signal : ℕ
  pub among : is_among fan_in signal ≡ true
  pub is : value_place signal ≡ loc

value_later : (signal : ℕ) (fan_in : List ℕ) (loc : ℕ) → IsValueOf fan_in loc → IsValueOf (signal ∷ fan_in) loc
value_later signal fan_in loc value = record {
  signal = value.signal;
  among = or_right (signal == value.signal) (is_among fan_in value.signal) value.among;
  is = value.is;
}

listed_is : (fan_in : List ℕ) (gate loc : ℕ) (access : Access) → Contains (eval_accesses fan_in gate) (loc, access) → (IsValueOf fan_in loc × (Read ≡ access)) ⊎ (plan_place gate ≡ loc)
listed_is [] gate loc access (zero, lt, e) = inr (ap (λ (p : ℕ × Access). p.0) e)
listed_is [] gate loc access (suc k, lt, e) = absurd (omega arith)
listed_is (signal ∷ fan_in) gate loc access (zero, lt, e) = inl (
  record { signal = signal; among = or_left (signal == signal) (is_among fan_in signal) (eq-eqb signal signal refl); is = ap (λ (p : ℕ × Access). p.0) e },
  ap (λ (p : ℕ × Access). p.1) e,
)
listed_is (signal ∷ fan_in) gate loc access (suc k, lt, e) = elim (listed_is fan_in gate loc access (k, omega arith, e)) [
  | inl value ↦ inl (value_later signal fan_in loc value.0, value.1)
  | inr plan ↦ inr plan
]

value_listed : (fan_in : List ℕ) (gate signal : ℕ) → is_among fan_in signal ≡ true → Contains (eval_accesses fan_in gate) (value_place signal, Read)
value_listed [] gate signal among = absurd (false≢true among)
value_listed (first ∷ fan_in) gate signal among = elim (or_cases (first == signal) (is_among fan_in signal) among) [
  | inl here ↦ (0, omega arith, ap (λ (s : ℕ). (value_place s, Read)) (eqb-true first signal here))
  | inr later ↦ contains_later (value_place first, Read) (eval_accesses fan_in gate) (value_place signal, Read) (value_listed fan_in gate signal later)
]

abbrev fan_ins : Deck → ℕ → List ℕ
fan_ins deck gate = fan_in_of (signal_at deck.signals gate).form

eval_names : (deck : Deck) (gate loc : ℕ) → IsSome (access_at (eval_set deck gate) loc) → IsValueOf (fan_ins deck gate) loc ⊎ (plan_place gate ≡ loc)
eval_names deck gate loc named = elim ((pairs_are_named [] (eval_accesses (fan_ins deck gate) gate) loc ascending_none).0 named) [
  | inl none ↦ absurd (false≢true none)
  | inr (access, listed) ↦ elim (listed_is (fan_ins deck gate) gate loc access listed) [ inl value ↦ inl value.0 | inr plan ↦ inr plan ]
]

pub eval_writes : (deck : Deck) (gate loc : ℕ) → IsTrue (writes (eval_set deck gate) loc) → plan_place gate ≡ loc
eval_writes deck gate loc written = elim ((pairs_are_written [] (eval_accesses (fan_ins deck gate) gate) loc ascending_none).0 written) [
  | inl none ↦ absurd (false≢true none)
  | inr listed ↦ elim (listed_is (fan_ins deck gate) gate loc Write listed) [ inl value ↦ let differs : Read ≡ Write = value.1 in absurd cc | inr plan ↦ plan ]
]

pub change_writes : (signal loc : ℕ) → IsTrue (writes (change_set signal) loc) → value_place signal ≡ loc
change_writes signal loc written = changed_is signal loc (named_from (access_at (change_set signal) loc) written)
  where
    named_from : (access : Option Access) → allows_write access ≡ true → IsSome access
    named_from None written = written
    named_from (Some access) written = refl

-- two changes conflict where they are of one signal
pub changes_conflict : (signal other : ℕ) → Conflicts (change_set signal) (change_set other) → signal ≡ other
changes_conflict signal other (loc, clashes) = elim (clash_cases (access_at (change_set signal) loc) (access_at (change_set other) loc) clashes) [
  | inl (named, written) ↦ let one = changed_is signal loc named in let two = change_writes other loc written in omega (arith, one, two)
  | inr (written, named) ↦ let one = change_writes signal loc written in let two = changed_is other loc named in omega (arith, one, two)
]

-- two evaluations or ticks where they are of one gate or flip-flop
pub plans_conflict : (deck : Deck) (gate other : ℕ) → Conflicts (eval_set deck gate) (eval_set deck other) → gate ≡ other
plans_conflict deck gate other (loc, clashes) = elim (clash_cases (access_at (eval_set deck gate) loc) (access_at (eval_set deck other) loc) clashes) [
  | inl (named, written) ↦
      let two = eval_writes deck other loc written in
      elim (eval_names deck gate loc named) [ inl value ↦ absurd (omega (arith, value.is, two)) | inr one ↦ omega (arith, one, two) ]
  | inr (written, named) ↦
      let one = eval_writes deck gate loc written in
      elim (eval_names deck other loc named) [ inl value ↦ absurd (omega (arith, value.is, one)) | inr two ↦ omega (arith, one, two) ]
]

value_among : (fan_in : List ℕ) (signal loc : ℕ) → value_place signal ≡ loc → IsValueOf fan_in loc → is_among fan_in signal ≡ true
value_among fan_in signal loc is value =
    let same : value.signal ≡ signal = omega (arith, is, value.is) in
    subst (λ (s : ℕ). is_among fan_in s ≡ true) same value.among

-- a change and an evaluation or tick where the signal is one of the fan-ins
pub change_conflicts : (deck : Deck) (signal gate : ℕ) → Conflicts (change_set signal) (eval_set deck gate) → is_among (fan_in_of (signal_at deck.signals gate).form) signal ≡ true
change_conflicts deck signal gate (loc, clashes) = elim (clash_cases (access_at (change_set signal) loc) (access_at (eval_set deck gate) loc) clashes) [
  | inl (named, written) ↦ let one = changed_is signal loc named in let two = eval_writes deck gate loc written in absurd (omega (arith, one, two))
  | inr (written, named) ↦
      let one = change_writes signal loc written in
      elim (eval_names deck gate loc named) [ inl value ↦ value_among (fan_ins deck gate) signal loc one value | inr two ↦ absurd (omega (arith, one, two)) ]
]

pub plan_conflicts : (deck : Deck) (gate signal : ℕ) → Conflicts (eval_set deck gate) (change_set signal) → is_among (fan_in_of (signal_at deck.signals gate).form) signal ≡ true
plan_conflicts deck gate signal (loc, clashes) = elim (clash_cases (access_at (eval_set deck gate) loc) (access_at (change_set signal) loc) clashes) [
  | inl (named, written) ↦
      let one = change_writes signal loc written in
      elim (eval_names deck gate loc named) [ inl value ↦ value_among (fan_ins deck gate) signal loc one value | inr two ↦ absurd (omega (arith, one, two)) ]
  | inr (written, named) ↦ let one = changed_is signal loc named in let two = eval_writes deck gate loc written in absurd (omega (arith, one, two))
]

pub change_meets_change : (signal : ℕ) → Conflicts (change_set signal) (change_set signal)
change_meets_change signal =
    (value_place signal, clash_from (access_at (change_set signal) (value_place signal)) (access_at (change_set signal) (value_place signal)) (change_set-written signal) (change_set-named signal))

pub change_meets_plan : (c : Simulation) (signal gate : ℕ) → is_among (fan_in_of (signal_at c.deck.signals gate).form) signal ≡ true → Conflicts (change_set signal) (eval_set c.deck gate)
change_meets_plan c signal gate among = (
  value_place signal,
  clash_from (access_at (change_set signal) (value_place signal)) (access_at (eval_set c.deck gate) (value_place signal)) (change_set-written signal)
      (eval_set-named c gate (value_place signal) Read (value_listed (fan_ins c.deck gate) gate signal among)),
)
