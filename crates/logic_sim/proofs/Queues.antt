-- Signals that wait in a queue, one more and one less.
use Rattle.std.proofs.Common.{◌≡◌, ◌≢◌, ◌∙◌, ℕ, zero, suc, ◌+◌, ◌-◌, ◌<◌, ◌≤◌, Bool, true, false, List, [], ◌∷◌, ◌++◌, length, set, get_or, replicate, take, ap, sym, refl, subst, inl, inr, arith, length-set}
use Rattle.std.specs.Prelude.{◌==◌, ◌||◌, nat_eq}
use Rattle.std.specs.List.{All, AllByRecursion, IsDistinct, list_any}
use Rattle.std.proofs.lemmas.Bool.{cases_eq, cases_lt, eq-eqb, eqb-false, eqb-true, false≢true, false_from_ne_true, ne_eqb, or_left}
use Rattle.std.proofs.lemmas.Cmp.{nat_eq_equiv}
use Rattle.std.proofs.lemmas.List.{get_or_past, get_or-replicate, get_or-set_other, get_or-set_same, length-append, length-replicate, set-get_or, set_past}
use Rattle.std.proofs.lemmas.List.Elements.{All-from_get_or}
use Rattle.std.proofs.lemmas.List.Folds.{list_any-append, list_any_more}
use Rattle.std.proofs.lemmas.Map.Keys.{IsDistinct-head, IsDistinct-push, IsDistinct-tail}
use Rattle.std.proofs.lemmas.Map.Steps.{length-le_from_distinct_below}
use Rattle.plain_laws.specs.Bools.{or_true, or_false}
use Rattle.logic_sim.specs.Queue.{AreAdded, IsQueue}
use Rattle.logic_sim.specs.Wiring.{is_among}

-- a signal that waits, or is none, is put in to no effect
pub put_idle : (waits : List Bool) (signal : ℕ) → get_or waits signal true ≡ true → set waits signal true ≡ waits
put_idle waits signal is = ap (set waits signal) (sym is) ∙ set-get_or waits signal true

below_from_lacking : (waits : List Bool) (signal : ℕ) → get_or waits signal true ≡ false → signal < length waits
below_from_lacking waits signal lacks = elim (cases_lt signal (length waits)) [
  | inl below ↦ below
  | inr past ↦ absurd (false≢true (sym lacks ∙ get_or_past waits signal true past))
]

default_same : (waits : List Bool) (signal : ℕ) → signal < length waits → get_or waits signal false ≡ get_or waits signal true
default_same [] signal below = absurd (omega arith)
default_same (first ∷ waits) zero below = refl
default_same (first ∷ waits) (suc signal) below = default_same waits signal (omega arith)

below_from_waiting : (waits : List Bool) (signal : ℕ) → get_or waits signal false ≡ true → signal < length waits
below_from_waiting waits signal waiting = elim (cases_lt signal (length waits)) [
  | inl below ↦ below
  | inr past ↦ absurd (false≢true (sym (get_or_past waits signal false past) ∙ waiting))
]

lacking : (waits : List Bool) (order : List ℕ) (capacity signal : ℕ) → IsQueue waits order capacity → get_or waits signal true ≡ false → list_any (nat_eq signal) order ≡ false
lacking waits order capacity signal queue lacks = queue.listed signal ∙ default_same waits signal (below_from_lacking waits signal lacks) ∙ lacks

pushed_is_distinct : (waits : List Bool) (order : List ℕ) (capacity signal : ℕ) → IsQueue waits order capacity → get_or waits signal true ≡ false → IsDistinct nat_eq (order ++ signal ∷ [])
pushed_is_distinct waits order capacity signal queue lacks = IsDistinct-push nat_eq_equiv order signal queue.distinct (lacking waits order capacity signal queue lacks)

-- there is room for a signal that doesn't wait
pub has_room : (waits : List Bool) (order : List ℕ) (capacity signal : ℕ) → IsQueue waits order capacity → get_or waits signal true ≡ false → length order < capacity
has_room waits order capacity signal queue lacks =
    let below = below_from_lacking waits signal lacks in
    let few = length-le_from_distinct_below (order ++ signal ∷ []) (length waits) (pushed_is_distinct waits order capacity signal queue lacks) (λ other among. listed_below other among below) in
    omega (arith, few, length-append order (signal ∷ []), queue.room)
  where
    listed_below : (other : ℕ) → list_any (nat_eq other) (order ++ signal ∷ []) ≡ true → signal < length waits → other < length waits
    listed_below other among below = elim (cases_eq other signal) [
      | inl same ↦ omega (arith, same, below)
      | inr differs ↦
          let last : (nat_eq other signal || false) ≡ false = rw (ne_eqb other signal differs) refl in
          let waiting : get_or waits other false ≡ true = sym (queue.listed other) ∙ sym (or_false (list_any (nat_eq other) order)) ∙ sym (ap (λ (b : Bool). list_any (nat_eq other) order || b) last) ∙ sym (list_any-append (nat_eq other) order (signal ∷ [])) ∙ among in
          below_from_waiting waits other waiting
    ]

-- the signal stands last then
pub queue_put : (waits : List Bool) (order : List ℕ) (capacity signal : ℕ) → IsQueue waits order capacity → get_or waits signal true ≡ false → IsQueue (set waits signal true) (order ++ signal ∷ []) capacity
queue_put waits order capacity signal queue lacks = record {
  distinct = pushed_is_distinct waits order capacity signal queue lacks;
  listed = λ other. list_any-append (nat_eq other) order (signal ∷ []) ∙ ap (λ (b : Bool). b || (nat_eq other signal || false)) (queue.listed other) ∙ one_more other;
  room = omega (arith, length-set waits signal true, queue.room);
}
  where
    one_more : (other : ℕ) → (get_or waits other false || (nat_eq other signal || false)) ≡ get_or (set waits signal true) other false
    one_more other = elim (cases_eq other signal) [
      | inl same ↦
          let last : nat_eq other signal ≡ true = eq-eqb other signal same in
          let now : get_or (set waits signal true) other false ≡ true = ap (λ (s : ℕ). get_or (set waits signal true) s false) same ∙ get_or-set_same waits signal true false (below_from_lacking waits signal lacks) in
          ap (λ (b : Bool). get_or waits other false || (b || false)) last ∙ or_true (get_or waits other false) ∙ sym now
      | inr differs ↦
          let last : nat_eq other signal ≡ false = ne_eqb other signal differs in
          ap (λ (b : Bool). get_or waits other false || (b || false)) last ∙ or_false (get_or waits other false) ∙ sym (get_or-set_other waits signal other true false differs)
    ]

-- the first waits
pub first_waits : (waits : List Bool) (order rest : List ℕ) (capacity signal : ℕ) → IsQueue waits order capacity → order ≡ signal ∷ rest → get_or waits signal false ≡ true
first_waits waits order rest capacity signal queue is =
    sym (queue.listed signal) ∙ ap (list_any (nat_eq signal)) is ∙ or_left (nat_eq signal signal) (list_any (nat_eq signal) rest) (eq-eqb signal signal refl)

pub first_below : (waits : List Bool) (order rest : List ℕ) (capacity signal : ℕ) → IsQueue waits order capacity → order ≡ signal ∷ rest → signal < length waits
first_below waits order rest capacity signal queue is = below_from_waiting waits signal (first_waits waits order rest capacity signal queue is)

absent : (signal : ℕ) (rest : List ℕ) → AllByRecursion (λ other. nat_eq signal other ≡ false) rest → list_any (nat_eq signal) rest ≡ false
absent signal [] all = refl
absent signal (other ∷ rest) all = rw all.0 (absent signal rest all.1)

-- where the first is taken, it doesn't wait any more
pub queue_take : (waits : List Bool) (order rest : List ℕ) (capacity signal : ℕ) → IsQueue waits order capacity → order ≡ signal ∷ rest → IsQueue (set waits signal false) rest capacity
queue_take waits order rest capacity signal queue is = record {
  distinct = IsDistinct-tail nat_eq signal rest distinct;
  listed = λ other. one_less other;
  room = omega (arith, length-set waits signal false, queue.room);
}
  where
    distinct : IsDistinct nat_eq (signal ∷ rest)
    distinct = subst (λ (all : List ℕ). IsDistinct nat_eq all) is queue.distinct

    one_less : (other : ℕ) → list_any (nat_eq other) rest ≡ get_or (set waits signal false) other false
    one_less other = elim (cases_eq other signal) [
      | inl same ↦
          let gone : list_any (nat_eq other) rest ≡ false = ap (λ (s : ℕ). list_any (nat_eq s) rest) same ∙ absent signal rest (IsDistinct-head nat_eq signal rest distinct) in
          gone ∙ sym (ap (λ (s : ℕ). get_or (set waits signal false) s false) same ∙ get_or-set_same waits signal false false (first_below waits order rest capacity signal queue is))
      | inr differs ↦
          let not-first : nat_eq other signal ≡ false = ne_eqb other signal differs in
          let skipped : list_any (nat_eq other) (signal ∷ rest) ≡ list_any (nat_eq other) rest = ap (λ (b : Bool). b || list_any (nat_eq other) rest) not-first in
          sym skipped ∙ sym (ap (list_any (nat_eq other)) is) ∙ queue.listed other ∙ sym (get_or-set_other waits signal other false false differs)
    ]

-- where the queue is empty, none waits
pub none_wait : (waits : List Bool) (order : List ℕ) (capacity : ℕ) → IsQueue waits order capacity → order ≡ [] → All (λ waits. waits ≡ false) waits
none_wait waits order capacity queue is = All-from_get_or (λ waits. waits ≡ false) waits false (λ signal below. sym (queue.listed signal) ∙ ap (list_any (nat_eq signal)) is)

none_are_distinct : IsDistinct nat_eq []
unfolding IsDistinct
none_are_distinct = tt

-- a queue without signals
pub queue_none : (count capacity : ℕ) → count ≤ capacity → IsQueue (replicate count false) [] capacity
queue_none count capacity room = record {
  distinct = none_are_distinct;
  listed = λ signal. sym (none signal);
  room = omega (arith, room, length-replicate count false);
}
  where
    none : (signal : ℕ) → get_or (replicate count false) signal false ≡ false
    none signal = elim (cases_lt signal count) [
      | inl below ↦ get_or-replicate count signal false false below
      | inr past ↦ get_or_past (replicate count false) signal false (omega (arith, past, length-replicate count false))
    ]

-- one signal more
pub added_more : (old new : List Bool) (signals : List ℕ) (place : ℕ) → place < length signals → AreAdded old (take place signals) new → AreAdded old (take (place + 1) signals) (set new (get_or signals place 0) true)
added_more old new signals place inside added =
    let signal : ℕ = get_or signals place 0 in
    record {
      count = length-set new signal true ∙ added.count;
      each = λ other below. elim (cases_eq other signal) [
        | inl same ↦
            let now : get_or (set new signal true) other false ≡ true = ap (λ (s : ℕ). get_or (set new signal true) s false) same ∙ get_or-set_same new signal true false (omega (arith, below, same, added.count)) in
            let among : (is_among (take place signals) other || (signal == other)) ≡ true = ap (λ (b : Bool). is_among (take place signals) other || b) (eq-eqb signal other (sym same)) ∙ or_true (is_among (take place signals) other) in
            now ∙ sym (ap (λ (b : Bool). get_or old other false || b) (list_any_more (λ s. s == other) signals place 0 inside ∙ among) ∙ or_true (get_or old other false))
        | inr differs ↦
            let last : (signal == other) ≡ false = ne_eqb signal other (λ e. differs (sym e)) in
            get_or-set_other new signal other true false differs ∙ added.each other below
            ∙ ap (λ (b : Bool). get_or old other false || b) (sym (list_any_more (λ s. s == other) signals place 0 inside ∙ ap (λ (b : Bool). is_among (take place signals) other || b) last ∙ or_false (is_among (take place signals) other)))
      ];
    }

pub added_none : (old : List Bool) → AreAdded old [] old
added_none old = record { count = refl; each = λ signal below. sym (or_false (get_or old signal false)) }

-- where all wait
pub all_wait : (waits : List Bool) (count : ℕ) → length waits ≡ count → ((k : ℕ) → k < count → get_or waits k false ≡ true) → waits ≡ replicate count true
all_wait [] zero is each = refl
all_wait [] (suc count) is each = absurd (omega (arith, is))
all_wait (first ∷ waits) zero is each = absurd (omega (arith, is))
all_wait (first ∷ waits) (suc count) is each =
    ap (λ (b : Bool). b ∷ waits) (each 0 (omega arith)) ∙ ap (λ (rest : List Bool). true ∷ rest) (all_wait waits count (omega (arith, is)) (λ k below. each (suc k) (omega (arith, below))))

pub waits_more : (waits : List Bool) (count signal : ℕ) → signal < count → length waits ≡ count → ((k : ℕ) → k < signal → get_or waits k false ≡ true) → (k : ℕ) → k < signal + 1 → get_or (set waits signal true) k false ≡ true
waits_more waits count signal below is each k inside = elim (cases_eq k signal) [
  | inl same ↦ ap (λ (s : ℕ). get_or (set waits signal true) s false) same ∙ get_or-set_same waits signal true false (omega (arith, below, is))
  | inr differs ↦ get_or-set_other waits signal k true false differs ∙ each k (omega (arith, inside, differs))
]
