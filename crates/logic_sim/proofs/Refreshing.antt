-- One signal's times are found out anew.
use Rattle.std.proofs.Common.{◌≡◌, ◌≢◌, ◌∙◌, ℕ, ◌+◌, ◌-◌, ◌*◌, ◌<◌, ◌≤◌, Bool, true, false, List, [], ◌∷◌, length, min, set, get_or, replicate, ap, sym, refl, subst, inl, inr, arith, length-set}
use Rattle.std.specs.Prelude.{◌==◌, ◌||◌, nat_lt, count_by, sum, if◌then◌else◌}
use Rattle.std.specs.List.{All}
use Rattle.std.proofs.Math.Nat.{mul-le-mul_left}
use Rattle.std.proofs.lemmas.Bool.{cases_eq, cases_lt, eqb-false, false≢true, false_from_ne_true, lt-ltb, ltb-true, or_cases, or_left, or_parts, or_right}
use Rattle.std.proofs.lemmas.List.{get_or-replicate, get_or-set_other, get_or-set_same, length-replicate}
use Rattle.std.proofs.lemmas.List.Elements.{All-get_or}
use Rattle.std.proofs.lemmas.List.Sums.{count_by-le-length, sum_by-set}
use Rattle.task_order.specs.declared.task.Task.{Task}
use Rattle.logic_sim.specs.Distance.{drivers_of}
use Rattle.logic_sim.specs.DistanceLaws.{any_weaker}
use Rattle.logic_sim.specs.Event.{Simulation, delay_of}
use Rattle.logic_sim.specs.Horizon.{AreSettled, FallsBelow, IsFalling, IsKept, IsLeast, IsSettled, any_near, comes_at, never, work_left}
use Rattle.logic_sim.specs.Queue.{AreAdded}
use Rattle.logic_sim.specs.Safety.{reader_among}
use Rattle.logic_sim.specs.Wiring.{is_among, readers_of}
use Rattle.logic_sim.proofs.OwnMoments.{lt_delayed, lt_min}

near_elsewhere : (near : List ℕ) (signal value : ℕ) (signals : List ℕ) (limit : ℕ) → is_among signals signal ≡ false → any_near (set near signal value) signals limit ≡ any_near near signals limit
near_elsewhere near signal value [] limit absent = refl
near_elsewhere near signal value (first ∷ signals) limit absent =
    let parts = or_parts (first == signal) (is_among signals signal) absent in
    let same = get_or-set_other near signal first value 0 (eqb-false first signal parts.0) in
    ap (λ (n : ℕ). nat_lt n limit || any_near (set near signal value) signals limit) same
    ∙ ap (λ (b : Bool). nat_lt (get_or near first 0) limit || b) (near_elsewhere near signal value signals limit parts.1)

-- where none is stale, all are settled
pub all_settled : (c : Simulation) (near entries : List ℕ) (stale : List Bool) (tasks : List Task) → IsKept c near entries stale tasks → All (λ waits. waits ≡ false) stale → AreSettled c near entries tasks
all_settled c near entries stale tasks kept none = λ signal below.
    kept.settled signal below (All-get_or (λ waits. waits ≡ false) stale signal false (omega (arith, kept.stale_count, below)) none)

-- a horizon that knows nothing
pub nothing_known : (c : Simulation) (near entries : List ℕ) (tasks : List Task) → length near ≡ length c.deck.signals → length entries ≡ length c.deck.signals → IsKept c near entries (replicate (length c.deck.signals) true) tasks
nothing_known c near entries tasks near-count entry-count = record {
  near_count = near-count;
  entry_count = entry-count;
  stale_count = length-replicate (length c.deck.signals) true;
  settled = λ signal below fresh. absurd (false≢true (sym fresh ∙ get_or-replicate (length c.deck.signals) signal true false below));
}

pub falling_from_never : (c : Simulation) (tasks : List Task) → IsFalling c (replicate (length c.deck.signals) never) tasks
falling_from_never c tasks signal limit below early sooner =
    let is = get_or-replicate (length c.deck.signals) signal never 0 below in
    absurd (omega (arith, is, early, ltb-true (get_or (replicate (length c.deck.signals) never) signal 0) limit sooner))

-- a signal's time from what is pending there and from its drivers
pub time_told : (c : Simulation) (tasks : List Task) (signal entry own delay value : ℕ) → IsLeast own (comes_at c tasks signal) → delay ≡ delay_of c signal → value ≡ min own (min (entry + delay) never)
    → IsLeast value (λ limit. comes_at c tasks signal limit || nat_lt entry (limit - delay_of c signal))
time_told c tasks signal entry own delay value own-is delay-is value-is = λ limit early.
    ap (λ (n : ℕ). nat_lt n limit) value-is ∙ lt_min own (min (entry + delay) never) limit ∙ ap (λ (b : Bool). b || nat_lt (min (entry + delay) never) limit) (own-is limit early)
    ∙ ap (λ (b : Bool). comes_at c tasks signal limit || b) (lt_delayed entry delay limit early ∙ ap (λ (d : ℕ). nat_lt entry (limit - d)) delay-is)

module _ (c : Simulation) (near entries : List ℕ) (stale : List Bool) (tasks : List Task) (signal entry value : ℕ) (below : signal < length c.deck.signals) (kept : IsKept c near entries (set stale signal true) tasks)
    (entry-is : IsLeast entry (any_near near (drivers_of c signal))) (value-is : IsLeast value (λ limit. comes_at c tasks signal limit || nat_lt entry (limit - delay_of c signal))) where
  entry-here : get_or (set entries signal entry) signal 0 ≡ entry
  entry-here = get_or-set_same entries signal entry 0 (omega (arith, kept.entry_count, below))

  settled_here : (new : List ℕ) → get_or new signal 0 ≡ value → ((limit : ℕ) → any_near new (drivers_of c signal) limit ≡ any_near near (drivers_of c signal) limit) → IsSettled c new (set entries signal entry) tasks signal
  settled_here new is same = record {
    by_drivers = λ limit early. ap (λ (e : ℕ). nat_lt e limit) entry-here ∙ entry-is limit early ∙ sym (same limit);
    by_all = λ limit early. ap (λ (n : ℕ). nat_lt n limit) is ∙ value-is limit early ∙ ap (λ (e : ℕ). comes_at c tasks signal limit || nat_lt e (limit - delay_of c signal)) (sym entry-here);
  }

  settled_elsewhere : (new : List ℕ) (other : ℕ) → other ≢ signal → get_or new other 0 ≡ get_or near other 0 → ((limit : ℕ) → any_near new (drivers_of c other) limit ≡ any_near near (drivers_of c other) limit)
      → IsSettled c near entries tasks other → IsSettled c new (set entries signal entry) tasks other
  settled_elsewhere new other differs is same settled =
      let entry-there : get_or (set entries signal entry) other 0 ≡ get_or entries other 0 = get_or-set_other entries signal other entry 0 differs in
      record {
        by_drivers = λ limit early. ap (λ (e : ℕ). nat_lt e limit) entry-there ∙ settled.by_drivers limit early ∙ sym (same limit);
        by_all = λ limit early. ap (λ (n : ℕ). nat_lt n limit) is ∙ settled.by_all limit early ∙ ap (λ (e : ℕ). comes_at c tasks other limit || nat_lt e (limit - delay_of c other)) (sym entry-there);
      }

  -- where the time is what it was
  pub kept_as_is : value ≡ get_or near signal 0 → IsKept c near (set entries signal entry) stale tasks
  kept_as_is is = record {
    near_count = kept.near_count;
    entry_count = length-set entries signal entry ∙ kept.entry_count;
    stale_count = sym (length-set stale signal true) ∙ kept.stale_count;
    settled = λ other inside fresh. elim (cases_eq other signal) [
      | inl here ↦ subst (λ (s : ℕ). IsSettled c near (set entries signal entry) tasks s) (sym here) (settled_here near (sym is) (λ limit. refl))
      | inr differs ↦ settled_elsewhere near other differs refl (λ limit. refl) (kept.settled other inside (get_or-set_other stale signal other true false differs ∙ fresh))
    ];
  }

  -- where it is another, and what the signal drives is stale
  pub kept_with_readers : (new-stale : List Bool) → AreAdded stale (readers_of c.deck.signals signal) new-stale → IsKept c (set near signal value) (set entries signal entry) new-stale tasks
  kept_with_readers new-stale added =
      let stale-count : length stale ≡ length c.deck.signals = sym (length-set stale signal true) ∙ kept.stale_count in
      record {
        near_count = length-set near signal value ∙ kept.near_count;
        entry_count = length-set entries signal entry ∙ kept.entry_count;
        stale_count = added.count ∙ stale-count;
        settled = λ other inside fresh.
            let parts = or_parts (get_or stale other false) (is_among (readers_of c.deck.signals signal) other) (sym (added.each other (omega (arith, inside, stale-count))) ∙ fresh) in
            let undriven : is_among (drivers_of c other) signal ≡ false = false_from_ne_true (is_among (drivers_of c other) signal) (λ among. false≢true (sym parts.1 ∙ reader_among c signal other among)) in
            let same : (limit : ℕ) → any_near (set near signal value) (drivers_of c other) limit ≡ any_near near (drivers_of c other) limit = λ limit. near_elsewhere near signal value (drivers_of c other) limit undriven in
            other_settled new-stale other inside parts.0 same;
      }
    where
      other_settled : (new-stale : List Bool) (other : ℕ) → other < length c.deck.signals → get_or stale other false ≡ false → ((limit : ℕ) → any_near (set near signal value) (drivers_of c other) limit ≡ any_near near (drivers_of c other) limit)
          → IsSettled c (set near signal value) (set entries signal entry) tasks other
      other_settled new-stale other inside fresh same = elim (cases_eq other signal) [
        | inl here ↦
            subst (λ (s : ℕ). IsSettled c (set near signal value) (set entries signal entry) tasks s) (sym here)
            (settled_here (set near signal value) (get_or-set_same near signal value 0 (omega (arith, kept.near_count, below)))
            (subst (λ (s : ℕ). (limit : ℕ) → any_near (set near signal value) (drivers_of c s) limit ≡ any_near near (drivers_of c s) limit) here same))
        | inr differs ↦
            settled_elsewhere (set near signal value) other differs (get_or-set_other near signal other value 0 differs) same
            (kept.settled other inside (get_or-set_other stale signal other true false differs ∙ fresh))
      ]

  -- what the new time says
  value_said : (limit : ℕ) → limit ≤ never → nat_lt value limit ≡ (comes_at c tasks signal limit || any_near near (drivers_of c signal) (limit - delay_of c signal))
  value_said limit early = value-is limit early ∙ ap (λ (b : Bool). comes_at c tasks signal limit || b) (entry-is (limit - delay_of c signal) (omega (arith, early)))

  pub value_low : IsFalling c near tasks → value ≤ never → value ≤ get_or near signal 0
  value_low falling high = elim (cases_lt (get_or near signal 0) value) [
    | inl above ↦
        let limit : ℕ = get_or near signal 0 + 1 in
        let early : limit ≤ never = omega (arith, above, high) in
        let sooner = ltb-true value limit (value_said limit early ∙ falling signal limit below early (lt-ltb (get_or near signal 0) limit (omega arith))) in
        absurd (omega (arith, sooner, above))
    | inr low ↦ low
  ]

  pub falling_still : IsFalling c near tasks → value ≤ never → IsFalling c (set near signal value) tasks
  falling_still falling high = λ other limit inside early sooner. elim (cases_eq other signal) [
    | inl here ↦
        let now : get_or (set near signal value) other 0 ≡ value = ap (λ (s : ℕ). get_or (set near signal value) s 0) here ∙ get_or-set_same near signal value 0 (omega (arith, kept.near_count, below)) in
        lower other limit (subst (λ (s : ℕ). (comes_at c tasks s limit || any_near near (drivers_of c s) (limit - delay_of c s)) ≡ true) (sym here)
        (sym (value_said limit early) ∙ sym (ap (λ (n : ℕ). nat_lt n limit) now) ∙ sooner))
    | inr differs ↦
        lower other limit (falling other limit inside early (sym (ap (λ (n : ℕ). nat_lt n limit) (get_or-set_other near signal other value 0 differs)) ∙ sooner))
  ]
    where
      each_lower : (limit other : ℕ) → nat_lt (get_or near other 0) limit ≡ true → nat_lt (get_or (set near signal value) other 0) limit ≡ true
      each_lower limit other sooner = elim (cases_eq other signal) [
        | inl here ↦
            let now : get_or (set near signal value) other 0 ≡ value = ap (λ (s : ℕ). get_or (set near signal value) s 0) here ∙ get_or-set_same near signal value 0 (omega (arith, kept.near_count, below)) in
            let was : get_or near other 0 ≡ get_or near signal 0 = ap (λ (s : ℕ). get_or near s 0) here in
            let low = value_low falling high in
            lt-ltb (get_or (set near signal value) other 0) limit (omega (arith, now, was, low, ltb-true (get_or near other 0) limit sooner))
        | inr differs ↦ ap (λ (n : ℕ). nat_lt n limit) (get_or-set_other near signal other value 0 differs) ∙ sooner
      ]

      lower : (other limit : ℕ) → (comes_at c tasks other limit || any_near near (drivers_of c other) (limit - delay_of c other)) ≡ true
          → (comes_at c tasks other limit || any_near (set near signal value) (drivers_of c other) (limit - delay_of c other)) ≡ true
      lower other limit sooner = elim (or_cases (comes_at c tasks other limit) (any_near near (drivers_of c other) (limit - delay_of c other)) sooner) [
        | inl here ↦ or_left (comes_at c tasks other limit) (any_near (set near signal value) (drivers_of c other) (limit - delay_of c other)) here
        | inr there ↦
            or_right (comes_at c tasks other limit) (any_near (set near signal value) (drivers_of c other) (limit - delay_of c other))
            (any_weaker (λ driver. nat_lt (get_or near driver 0) (limit - delay_of c other)) (λ driver. nat_lt (get_or (set near signal value) driver 0) (limit - delay_of c other)) (drivers_of c other)
            (λ driver. each_lower (limit - delay_of c other) driver) there)
      ]

  pub falls_below : (new-stale : List Bool) → AreAdded stale (readers_of c.deck.signals signal) new-stale → IsFalling c near tasks → value ≤ never → value ≢ get_or near signal 0
      → FallsBelow near stale (set near signal value) new-stale
  falls_below new-stale added falling high differs =
      let low = value_low falling high in
      let falls = sum_by-set (λ (n : ℕ). n) near signal value 0 (omega (arith, kept.near_count, below)) in
      record { count = added.count; falls = inr (omega (arith, low, differs, falls)) }

abbrev weight : Bool → ℕ
weight b = if b then 1 else 0

-- one signal less is stale, and either no other is or a time falls
pub less_left : (near : List ℕ) (stale : List Bool) (signal : ℕ) (new : List ℕ) (new-stale : List Bool) → signal < length stale → get_or stale signal false ≡ true
    → FallsBelow near (set stale signal false) new new-stale → work_left new new-stale < work_left near stale
less_left near stale signal new new-stale below waits falls =
    let count : ℕ = count_by (λ (b : Bool). b) stale in
    let one-less = sum_by-set weight stale signal false false below in
    let one = ap weight waits in
    let lengths : length new-stale ≡ length stale = falls.count ∙ length-set stale signal false in
    elim falls.falls [
      | inl same ↦
          let counts : count_by (λ (b : Bool). b) new-stale ≡ count_by (λ (b : Bool). b) (set stale signal false) = ap (λ (s : List Bool). count_by (λ (b : Bool). b) s) same.1 in
          let product : (length new-stale + 1) * sum new ≡ (length stale + 1) * sum near = ap (λ (l : ℕ). (l + 1) * sum new) lengths ∙ ap (λ (t : ℕ). (length stale + 1) * t) same.0 in
          omega (arith, counts, product, one-less, one)
      | inr less ↦
          let few = count_by-le-length (λ (b : Bool). b) new-stale in
          let product : (length stale + 1) * (sum new + 1) ≤ (length stale + 1) * sum near = mul-le-mul_left {m = sum new + 1} {n = sum near} (length stale + 1) (omega (arith, less)) in
          let same : (length new-stale + 1) * sum new ≡ (length stale + 1) * sum new = ap (λ (l : ℕ). (l + 1) * sum new) lengths in
          let more : (length stale + 1) * (sum new + 1) ≡ (length stale + 1) * sum new + (length stale + 1) = distributed (length stale + 1) (sum new) in
          omega (arith, few, product, same, more, lengths)
    ]
  where
    distributed : (a b : ℕ) → a * (b + 1) ≡ a * b + a
    distributed a b = omega arith
