-- The sets of evaluations: the table of them, and what they name.
use Rattle.std.proofs.Common.{◌≡◌, ◌∙◌, ℕ, ◌+◌, ◌<◌, ◌≤◌, All, List, [], ◌∷◌, ◌++◌, length, get_or, ap, sym, refl, subst, zero-add, arith}
use Rattle.std.specs.Prelude.{Contains, IsSome}
use Rattle.std.specs.List.{AllByRecursion}
use Rattle.std.proofs.lemmas.List.Elements.{All-from_recursion, All-get_or}
use Rattle.std.proofs.lemmas.List.FromFn.{get_or-map-range_with_len, length-map-range_with_len, map-range_with_len_more}
use Rattle.rw_sets.specs.PairLaws.{contains_later}
use Rattle.bench_reader.specs.Decks.{IsSoundlyWired, IsWired}
use Rattle.bench_reader.specs.declared.deck.Form.{Form}
use Rattle.bench_reader.specs.declared.deck.Form.TheVariants.{Input, Gate, Dff}
use Rattle.bench_reader.specs.declared.deck.Signal.{Signal}
use Rattle.rw_sets.specs.declared.access.Access.{Access}
use Rattle.rw_sets.specs.declared.access.Access.TheVariants.{Read, Write}
use Rattle.rw_sets.specs.Accesses.{Accesses, access_at, merged}
use Rattle.logic_sim.specs.Bundles.{IsReadable}
use Rattle.logic_sim.specs.Event.{Simulation, plan_place, value_place}
use Rattle.logic_sim.specs.Laws.{filter_range, length-filter_range}
use Rattle.logic_sim.specs.Lawful.{eval_set-named, plan_listed, wired}
use Rattle.logic_sim.specs.Meaning.{eval_accesses, eval_set}
use Rattle.logic_sim.specs.Tables.{sets_among}
use Rattle.logic_sim.specs.Wiring.{fan_in_of, readers_of, reads, signal_at}
use Rattle.logic_sim.proofs.Ranges.{read_signal}

-- the set of a signal's evaluation
abbrev set_at : List Signal → ℕ → Accesses
set_at signals gate = merged [] (eval_accesses (fan_in_of (signal_at signals gate).form) gate)

-- a further signal has its set
pub sets_more : (signals : List Signal) (n : ℕ) (signal : Signal) (set : Accesses) (sets : List Accesses) → n < length signals → signal ≡ get_or signals n signal
    → set ≡ merged [] (eval_accesses (fan_in_of signal.form) n) → sets ≡ sets_among signals n → sets ++ set ∷ [] ≡ sets_among signals (n + 1)
sets_more signals n signal set sets below is set-is so_far =
    ap (λ (all : List Accesses). all ++ set ∷ []) so_far
    ∙ ap (λ (last : Accesses). sets_among signals n ++ last ∷ []) (set-is ∙ ap (λ (s : Signal). merged [] (eval_accesses (fan_in_of s.form) n)) (read_signal signals n signal below is))
    ∙ sym (map-range_with_len_more (set_at signals) 0 n n (zero-add n))

pub sets_counted : (signals : List Signal) (sets : List Accesses) → sets ≡ sets_among signals (length signals) → length sets ≡ length signals
sets_counted signals sets is = ap length is ∙ length-map-range_with_len (set_at signals) 0 (length signals)

-- what stands at a place of the table
pub set_listed : (signals : List Signal) (sets : List Accesses) (gate : ℕ) (set : Accesses) → gate < length signals → sets ≡ sets_among signals (length signals) → set ≡ get_or sets gate set
    → set ≡ set_at signals gate
set_listed signals sets gate set below is read =
    read ∙ ap (λ (all : List Accesses). get_or all gate set) is ∙ get_or-map-range_with_len (set_at signals) 0 (length signals) gate gate set below (zero-add gate)

-- the fan-ins of a signal are few enough for their locations
pub small_fan_in : (signals : List Signal) (n : ℕ) (signal : Signal) → length signals ≤ 4096 → All (λ s. IsWired (length signals) s.form) signals → n < length signals → signal ≡ get_or signals n signal
    → All (λ number. number < 4096) (fan_in_of signal.form)
small_fan_in signals n signal few wiring below is = known signal.form (subst (λ (s : Signal). IsWired (length signals) s.form) (sym is) (All-get_or (λ (s : Signal). IsWired (length signals) s.form) signals n signal below wiring))
  where
    known : (form : Form) → IsWired (length signals) form → All (λ number. number < 4096) (fan_in_of form)
    known Input wires = All-from_recursion (λ number. number < 4096) [] tt
    known (Gate kind fan_in) wires = λ k d inside. let low = wires.1 k d inside in omega (arith, low, few)
    known (Dff source) wires = All-from_recursion (λ number. number < 4096) (source ∷ []) (omega (arith, wires, few), tt)

-- the gates that read a signal
pub readers_below : (signals : List Signal) (number : ℕ) → All (λ gate. gate < length signals) (readers_of signals number)
readers_below signals number =
    All-from_recursion (λ gate. gate < length signals) (readers_of signals number) (filter_range (λ gate. gate < length signals) (reads signals number) 0 (length signals) (λ z below test. omega arith))

pub readers_few : (signals : List Signal) (number : ℕ) → length (readers_of signals number) ≤ length signals
readers_few signals number = length-filter_range (reads signals number) (length signals)

-- a fact of each access of an evaluation, of its reads
of_reads : (fan_in : List ℕ) (gate : ℕ) (P : ℕ → Type 0) → ((p : ℕ × Access) → Contains (eval_accesses fan_in gate) p → P p.0) → AllByRecursion (λ signal. P (value_place signal)) fan_in
of_reads [] gate P each = tt
of_reads (signal ∷ fan_in) gate P each =
    (each (value_place signal, Read) (0, omega arith, refl), of_reads fan_in gate P (λ p listed. each p (contains_later (value_place signal, Read) (eval_accesses fan_in gate) p listed)))

-- the set of an evaluation names the values of the fan-ins
pub fan_in_named : (c : Simulation) (gate : ℕ) → AllByRecursion (λ signal. IsSome (access_at (eval_set c.deck gate) (value_place signal))) (fan_in_of (signal_at c.deck.signals gate).form)
fan_in_named c gate =
    of_reads (fan_in_of (signal_at c.deck.signals gate).form) gate (λ loc. IsSome (access_at (eval_set c.deck gate) loc)) (λ p listed. eval_set-named c gate p.0 p.1 listed)

readable_each : (can_read : ℕ → Type 0) (n : ℕ) (fan_in : List ℕ) → n ≤ 4096 → AllByRecursion (λ signal. signal < n) fan_in → AllByRecursion (λ signal. can_read (value_place signal)) fan_in
    → AllByRecursion (IsReadable can_read) fan_in
readable_each can_read n [] few below each = tt
readable_each can_read n (signal ∷ fan_in) few below each = (record { small = omega (arith, below.0, few); readable = each.0 }, readable_each can_read n fan_in few below.1 each.1)

-- the values of a gate's fan-ins can be read where their locations can
pub fan_in_readable : (can_read : ℕ → Type 0) (c : Simulation) (gate : ℕ) (signal : Signal) → IsSoundlyWired c.deck → gate < length c.deck.signals → signal ≡ signal_at c.deck.signals gate
    → AllByRecursion (λ s. can_read (value_place s)) (fan_in_of (signal_at c.deck.signals gate).form) → All (IsReadable can_read) (fan_in_of signal.form)
fan_in_readable can_read c gate signal sound below is each =
    subst (λ (s : Signal). All (IsReadable can_read) (fan_in_of s.form)) (sym is)
    (All-from_recursion (IsReadable can_read) (fan_in_of (signal_at c.deck.signals gate).form)
    (readable_each can_read (length c.deck.signals) (fan_in_of (signal_at c.deck.signals gate).form) sound.signal_count (wired c gate sound below) each))

-- the signal that was looked up
pub signal_looked_up : (signals items : List Signal) (gate : ℕ) (signal : Signal) → gate < length signals → items ≡ signals → signal ≡ get_or items gate signal
    → get_or items gate signal ≡ signal_at signals gate
signal_looked_up signals items gate signal below listed is =
    sym is ∙ read_signal signals gate signal below (is ∙ ap (λ (all : List Signal). get_or all gate signal) listed)

-- and what is planned for the gate
pub plan_named : (c : Simulation) (gate : ℕ) → IsSome (access_at (eval_set c.deck gate) (plan_place gate))
plan_named c gate = eval_set-named c gate (plan_place gate) Write (plan_listed (fan_in_of (signal_at c.deck.signals gate).form) gate)
