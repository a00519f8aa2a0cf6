-- What a fit task does to fit cells is fit, and no child is earlier than its parent.
use Rattle.std.specs.Prelude.{◌≡◌, ◌==◌, slice_set, ℕ, zero, suc, ◌+◌, ◌*◌, ◌%◌, ◌^◌, ◌<◌, ◌≤◌, Bool, true, false, if◌then◌else◌, List, [], ◌∷◌, ◌++◌, length, filter, map, nat_le, refl, slice_index}
use Rattle.std.specs.List.{All, AllByRecursion, AllZip, range_with_len}
use Rattle.std.proofs.Common.{arith, ap, get_or, inl, inr, length-set, lit<, sym, subst}
use Rattle.std.proofs.lemmas.List.{length-append, length-map}
use Rattle.std.proofs.Math.Nat.{mul-le-mul_left, mul-le-mul_right}
use Rattle.std.proofs.lemmas.List.Elements.{All-set, recursion_from_All}
use Rattle.std.proofs.lemmas.Bool.{false≢true}
use Rattle.std.proofs.lemmas.List.FromFn.{length-range_with_len}
use Rattle.std.proofs.lemmas.List.Sums.{count_by-le-length, length-filter}
use Rattle.plain_laws.specs.Lists.{All-map}
use Rattle.bench_reader.specs.Decks.{IsSoundlyWired}
use Rattle.bench_reader.specs.declared.deck.Deck.{Deck}
use Rattle.bench_reader.specs.declared.deck.Form.{Form}
use Rattle.bench_reader.specs.declared.deck.Form.TheVariants.{Input, Gate, Dff}
use Rattle.task_order.specs.declared.start.Start.{Start}
use Rattle.task_order.specs.declared.task.Task.{Task}
use Rattle.app_laws.specs.Execution.{Outcome}
use Rattle.app_laws.specs.Laws.{AllFit, IsFitOutcome, NoneEarlier}
use Rattle.bench_reader.specs.declared.deck.Signal.{Signal}
use Rattle.bench_reader.specs.declared.deck.Stim.{Stim}
use Rattle.bench_reader.specs.Decks.{IsDelayOf, IsStimFor, inputs_of as deck_inputs, is_input}
use Rattle.logic_sim.specs.Circuit.{IsBit, IsFitCells, IsFitTask, changes_at, changes_for, changes_of, first_ticks, start_tasks}
use Rattle.logic_sim.specs.Event.{Simulation, act_of, change_at, change_of, computed_by, delay_of, eval_at, eval_of, event_of, next_ticks, nothing_done, plan_in, plan_of, plan_place, tick_at, tick_of, time_of, value_in, value_place}
use Rattle.logic_sim.specs.Gate.{bit_of}
use Rattle.logic_sim.specs.Wiring.{flip_flops_of, gates_of, inputs_of, is_among, is_flip_flop, is_gate, no_signal, readers_of, reads, signal_at, watched_by}

-- a fact that holds of both values of a choice
pub either : {X : Type 0} (P : X → Type 0) (b : Bool) (x y : X) → P x → P y → P (if b then x else y)
either P true x y p q = p
either P false x y p q = q

cons_if : (P : ℕ → Type 0) (b : Bool) (z : ℕ) (zs : List ℕ) → (b ≡ true → P z) → AllByRecursion P zs → AllByRecursion P (if b then z ∷ zs else zs)
cons_if P true z zs here rest = (here refl, rest)
cons_if P false z zs here rest = rest

-- what a filter keeps of a range
pub filter_range : (P : ℕ → Type 0) (p : ℕ → Bool) (a n : ℕ) → ((z : ℕ) → z < a + n → p z ≡ true → P z) → AllByRecursion P (filter p (range_with_len a n))
filter_range P p a zero each = tt
filter_range P p a (suc n) each =
    cons_if P (p a) a (filter p (range_with_len (a + 1) n)) (each a (omega arith)) (filter_range P p (a + 1) n (λ z h. each z (omega arith)))

pub each_one : {X : Type 0} (P : X → Type 0) (f : ℕ → X) (zs : List ℕ) → ((z : ℕ) → P (f z)) → AllByRecursion P (map f zs)
each_one P f [] each = tt
each_one P f (z ∷ zs) each = (each z, each_one P f zs each)

pub length-filter_range : (p : ℕ → Bool) (n : ℕ) → length (filter p (range_with_len 0 n)) ≤ n
length-filter_range p n =
    omega (arith, length-filter p (range_with_len 0 n), count_by-le-length p (range_with_len 0 n), length-range_with_len 0 n)

gate_from_reads : (form : Form) (number : ℕ) → is_among (watched_by form) number ≡ true → is_gate form ≡ true
gate_from_reads Input number e = e
gate_from_reads (Gate kind fan_in) number e = refl
gate_from_reads (Dff source) number e = e

pub no_input_from_gate : (form : Form) → is_gate form ≡ true → is_input form ≡ false
no_input_from_gate Input e = absurd (false≢true e)
no_input_from_gate (Gate kind fan_in) e = refl
no_input_from_gate (Dff source) e = refl

pub no_input_from_flip_flop : (form : Form) → is_flip_flop form ≡ true → is_input form ≡ false
no_input_from_flip_flop Input e = absurd (false≢true e)
no_input_from_flip_flop (Gate kind fan_in) e = refl
no_input_from_flip_flop (Dff source) e = refl

-- the delay of a signal of a list, beside that signal
delay_beside : (signals : List Signal) (delays : List ℕ) (number : ℕ) → AllZip (λ (signal : Signal) (delay : ℕ). IsDelayOf signal.form delay) signals delays → number < length signals
    → IsDelayOf (get_or signals number no_signal).form (get_or delays number 0)
delay_beside [] [] number all below = absurd (omega arith)
delay_beside [] (delay ∷ delays) number all below = absurd (omega arith)
delay_beside (signal ∷ signals) [] number all below = absurd all
delay_beside (signal ∷ signals) (delay ∷ delays) zero all below = all.0
delay_beside (signal ∷ signals) (delay ∷ delays) (suc number) all below = delay_beside signals delays number all.1 (omega arith)

some_delay : (form : Form) (delay : ℕ) → IsDelayOf form delay → is_input form ≡ false → 1 ≤ delay
some_delay Input delay is e = absurd (false≢true (sym e))
some_delay (Gate kind fan_in) delay is e = is.0
some_delay (Dff source) delay is e = is.0

short_delay : (form : Form) (delay : ℕ) → IsDelayOf form delay → delay ≤ 1000000
short_delay Input delay is = omega (arith, is)
short_delay (Gate kind fan_in) delay is = is.1
short_delay (Dff source) delay is = is.1

pub delay_listed : (c : Simulation) (number : ℕ) → delay_of c number ≡ slice_index c.deck.delays number
unfolding delay_of
delay_listed c number = refl

count_beside : (signals : List Signal) (delays : List ℕ) → AllZip (λ (signal : Signal) (delay : ℕ). IsDelayOf signal.form delay) signals delays → length delays ≡ length signals
count_beside [] [] all = refl
count_beside [] (delay ∷ delays) all = absurd all
count_beside (signal ∷ signals) [] all = absurd all
count_beside (signal ∷ signals) (delay ∷ delays) all = ap suc (count_beside signals delays all.1)

pub delays_are_counted : (c : Simulation) → IsSoundlyWired c.deck → length c.deck.delays ≡ length c.deck.signals
delays_are_counted c sound = count_beside c.deck.signals c.deck.delays sound.delays_fit

-- a signal that is no input takes its value later than this was planned
pub delays_are_positive : (c : Simulation) (number : ℕ) → IsSoundlyWired c.deck → number < length c.deck.signals → is_input (signal_at c.deck.signals number).form ≡ false → 1 ≤ delay_of c number
unfolding delay_of
delays_are_positive c number sound below driven =
    some_delay (signal_at c.deck.signals number).form _ (delay_beside c.deck.signals c.deck.delays number sound.delays_fit below) driven

pub delays_are_short : (c : Simulation) (number : ℕ) → IsSoundlyWired c.deck → number < length c.deck.signals → delay_of c number ≤ 1000000
unfolding delay_of
delays_are_short c number sound below = short_delay (signal_at c.deck.signals number).form _ (delay_beside c.deck.signals c.deck.delays number sound.delays_fit below)

-- each value of bits is one, wherever it is looked up
bit_anywhere : (cells : List ℕ) (loc : ℕ) → AllByRecursion IsBit cells → IsBit (get_or cells loc 0)
bit_anywhere [] loc bits = omega arith
bit_anywhere (cell ∷ cells) zero bits = bits.0
bit_anywhere (cell ∷ cells) (suc loc) bits = bit_anywhere cells loc bits.1

bit_of-bit : (b : Bool) → IsBit (bit_of b)
bit_of-bit true = omega arith
bit_of-bit false = omega arith

computed_by-bit : (form : Form) (cells : List ℕ) → All IsBit cells → IsBit (computed_by form cells)
computed_by-bit Input cells bits = omega arith
computed_by-bit (Gate kind fan_in) cells bits = bit_of-bit _
computed_by-bit (Dff source) cells bits = bit_anywhere cells (value_place source) (recursion_from_All IsBit cells bits)

-- the evaluation of a gate is a task of the circuit
eval_at-fit : (c : Simulation) (time z : ℕ) → z < length c.deck.signals → is_gate (signal_at c.deck.signals z).form ≡ true → IsFitTask c (eval_at time z).prio (eval_at time z).body
eval_at-fit c time z in_range gate = inr (inl (record { kind = refl; odd = omega arith; in_range = in_range; at_gate = gate; no_arg = refl }))

-- and the tick of a flip-flop
tick_at-fit : (c : Simulation) (time z : ℕ) → z < length c.deck.signals → is_flip_flop (signal_at c.deck.signals z).form ≡ true → IsFitTask c (tick_at time z).prio (tick_at time z).body
tick_at-fit c time z in_range flip_flop = inr (inr (record { kind = refl; odd = omega arith; in_range = in_range; at_flip_flop = flip_flop; no_arg = refl }))

readers_fit : (c : Simulation) (time number : ℕ) → AllFit (IsFitTask c) (map (eval_at time) (readers_of c.deck.signals number))
readers_fit c time number =
    All-map _ (eval_at time) _ (filter_range _ (reads c.deck.signals number) 0 (length c.deck.signals)
    (λ z below reads_it. eval_at-fit c time z (omega arith) (gate_from_reads (signal_at c.deck.signals z).form number reads_it)))

ticks_fit : (c : Simulation) → AllFit (IsFitTask c) (first_ticks c)
ticks_fit c =
    either (AllFit (IsFitTask c)) (nat_le c.clock c.until) (map (tick_at c.clock) (flip_flops_of c.deck.signals)) []
    (All-map _ (tick_at c.clock) _ (filter_range _ (λ number. is_flip_flop (signal_at c.deck.signals number).form) 0 (length c.deck.signals)
    (λ z below flip_flop. tick_at-fit c c.clock z (omega arith) flip_flop)))
    tt

ticks_few : (c : Simulation) → IsSoundlyWired c.deck → length (first_ticks c) ≤ 4096
ticks_few c read =
    either (λ (starts : List Start). length starts ≤ 4096) (nat_le c.clock c.until) (map (tick_at c.clock) (flip_flops_of c.deck.signals)) []
    (omega (arith, length-map (flip_flops_of c.deck.signals) (tick_at c.clock), length-filter_range (λ number. is_flip_flop (signal_at c.deck.signals number).form) (length c.deck.signals), read.signal_count))
    (omega arith)

gates_fit : (c : Simulation) → AllFit (IsFitTask c) (map (eval_at 0) (gates_of c.deck.signals))
gates_fit c =
    All-map _ (eval_at 0) _ (filter_range _ (λ number. is_gate (signal_at c.deck.signals number).form) 0 (length c.deck.signals)
    (λ z below gate. eval_at-fit c 0 z (omega arith) gate))

gates_few : (deck : Deck) → IsSoundlyWired deck → length (map (eval_at 0) (gates_of deck.signals)) ≤ 4096
gates_few deck read =
    omega (arith, length-map (gates_of deck.signals) (eval_at 0), length-filter_range (λ number. is_gate (signal_at deck.signals number).form) (length deck.signals), read.signal_count)

pub change_at-fit : (c : Simulation) (time number value : ℕ) → number < length c.deck.signals → IsBit value → IsFitTask c (change_at time number value).prio (change_at time number value).body
change_at-fit c time number value in_range bit = inl (record { kind = refl; even = omega arith; at_signal = in_range; to_bit = bit })

both_fit : (c : Simulation) (starts others : List Start) → AllFit (IsFitTask c) starts → AllFit (IsFitTask c) others → AllFit (IsFitTask c) (starts ++ others)
both_fit c [] others fit more = more
both_fit c (start ∷ starts) others fit more = (fit.0, both_fit c starts others fit.1 more)

changes_fit : (c : Simulation) (time : ℕ) (inputs values : List ℕ) → AllByRecursion (λ input. input < length c.deck.signals) inputs → AllByRecursion IsBit values →
    AllFit (IsFitTask c) (changes_at time inputs values)
changes_fit c time [] values known bits = tt
changes_fit c time (input ∷ inputs) [] known bits = tt
changes_fit c time (input ∷ inputs) (value ∷ values) known bits = (change_at-fit c time input value known.0 bits.0, changes_fit c time inputs values known.1 bits.1)

changes_few : (time : ℕ) (inputs values : List ℕ) → length (changes_at time inputs values) ≤ length inputs
changes_few time [] values = omega arith
changes_few time (input ∷ inputs) [] = omega arith
changes_few time (input ∷ inputs) (value ∷ values) = let few = changes_few time inputs values in omega (arith, few)

stimulus_fit : (c : Simulation) (inputs : List ℕ) (stimulus : Stim) → AllByRecursion (λ input. input < length c.deck.signals) inputs → AllByRecursion IsBit stimulus.bits →
    AllFit (IsFitTask c) (changes_for c.until inputs stimulus)
stimulus_fit c inputs stimulus known bits =
    either (AllFit (IsFitTask c)) (nat_le stimulus.time c.until) (changes_at stimulus.time inputs stimulus.bits) [] (changes_fit c stimulus.time inputs stimulus.bits known bits) tt

stimuli_fit : (c : Simulation) (inputs : List ℕ) (stimuli : List Stim) → AllByRecursion (λ input. input < length c.deck.signals) inputs → AllByRecursion (λ stimulus. AllByRecursion IsBit stimulus.bits) stimuli →
    AllFit (IsFitTask c) (changes_of c.until inputs stimuli)
stimuli_fit c inputs [] known bits = tt
stimuli_fit c inputs (stimulus ∷ stimuli) known bits =
    both_fit c (changes_for c.until inputs stimulus) (changes_of c.until inputs stimuli) (stimulus_fit c inputs stimulus known bits.0) (stimuli_fit c inputs stimuli known bits.1)

stimulus_few : (until : ℕ) (inputs : List ℕ) (stimulus : Stim) → length (changes_for until inputs stimulus) ≤ length inputs
stimulus_few until inputs stimulus =
    either (λ (starts : List Start). length starts ≤ length inputs) (nat_le stimulus.time until) (changes_at stimulus.time inputs stimulus.bits) [] (changes_few stimulus.time inputs stimulus.bits) (omega arith)

pub length-changes_of : (until : ℕ) (inputs : List ℕ) (stimuli : List Stim) → length (changes_of until inputs stimuli) ≤ length stimuli * length inputs
length-changes_of until inputs [] = omega arith
length-changes_of until inputs (stimulus ∷ stimuli) =
    let here = stimulus_few until inputs stimulus in
    let more = length-changes_of until inputs stimuli in
    let all = length-append (changes_for until inputs stimulus) (changes_of until inputs stimuli) in
    let product = suc-mul (length stimuli) (length inputs) in
    omega (arith, here, more, all, product)
  where
    suc-mul : (n m : ℕ) → suc n * m ≡ m + n * m
    suc-mul n m = omega arith

pub start_tasks-fit : (c : Simulation) → IsSoundlyWired c.deck → AllFit (IsFitTask c) (start_tasks c)
start_tasks-fit c read =
    let known : AllByRecursion (λ input. input < length c.deck.signals) (inputs_of c.deck.signals) =
    filter_range _ (λ number. is_input (signal_at c.deck.signals number).form) 0 (length c.deck.signals) (λ z below test. omega arith) in
    both_fit c (map (eval_at 0) (gates_of c.deck.signals) ++ first_ticks c) (changes_of c.until (inputs_of c.deck.signals) c.deck.stimuli)
    (both_fit c (map (eval_at 0) (gates_of c.deck.signals)) (first_ticks c) (gates_fit c) (ticks_fit c))
    (stimuli_fit c (inputs_of c.deck.signals) c.deck.stimuli known (bits_only c.deck.stimuli (recursion_from_All _ c.deck.stimuli read.stimuli_fit)))
  where
    bits_only : (stimuli : List Stim) → AllByRecursion (IsStimFor (length (deck_inputs c.deck.signals))) stimuli → AllByRecursion (λ stimulus. AllByRecursion IsBit stimulus.bits) stimuli
    bits_only [] all = tt
    bits_only (stimulus ∷ stimuli) all = (recursion_from_All _ stimulus.bits all.0.zeros_and_ones, bits_only stimuli all.1)

-- the most that stimuli can bring
pub start_tasks-few : (c : Simulation) → IsSoundlyWired c.deck → length (start_tasks c) ≤ 268443648
start_tasks-few c read =
    let inputs = inputs_of c.deck.signals in
    let few = length-filter_range (λ number. is_input (signal_at c.deck.signals number).form) (length c.deck.signals) in
    let changes = length-changes_of c.until inputs c.deck.stimuli in
    let product = mul-le (length c.deck.stimuli) 65536 (length inputs) 4096 read.stimulus_count (omega (arith, few, read.signal_count)) in
    omega (arith, gates_few c.deck read, ticks_few c read, length-append (map (eval_at 0) (gates_of c.deck.signals) ++ first_ticks c) (changes_of c.until inputs c.deck.stimuli), length-append (map (eval_at 0) (gates_of c.deck.signals)) (first_ticks c), changes, product)
  where
    mul-le : (a b m n : ℕ) → a ≤ b → m ≤ n → a * m ≤ b * n
    mul-le a b m n ab mn = let low = mul-le-mul_left {m = m} {n = n} a mn in let high = mul-le-mul_right {m = a} {n = b} n ab in omega (arith, low, high)

nothing_fit : (c : Simulation) (cells : List ℕ) → IsFitCells c cells → IsFitOutcome (IsFitCells c) (IsFitTask c) (nothing_done cells)
nothing_fit c cells fit = record { cells = fit; children = tt; few = lit< tt }

set_fit : (c : Simulation) (cells : List ℕ) (place value : ℕ) → IsFitCells c cells → IsBit value → IsFitCells c (slice_set cells place value)
set_fit c cells place value fit bit = record {
  deck = fit.deck;
  clock = fit.clock;
  count = omega (arith, length-set cells place value, fit.count);
  bits = All-set IsBit cells place value bit fit.bits;
}

change_fit : (c : Simulation) (time number value : ℕ) (cells : List ℕ) → IsFitCells c cells → IsBit value → IsFitOutcome (IsFitCells c) (IsFitTask c) (change_of c time number value cells)
change_fit c time number value cells fit bit =
    either (IsFitOutcome (IsFitCells c) (IsFitTask c)) (value_in cells number == value) _ _ (nothing_fit c cells fit) (record {
      cells = set_fit c cells (value_place number) value fit bit;
      children = readers_fit c time number;
      few = omega (arith, length-map (readers_of c.deck.signals number) (eval_at time), length-filter_range (reads c.deck.signals number) (length c.deck.signals), fit.deck.signal_count);
    })

plan_fit : (c : Simulation) (time gate value : ℕ) (cells : List ℕ) → IsFitCells c cells → gate < length c.deck.signals → IsBit value → IsFitOutcome (IsFitCells c) (IsFitTask c) (plan_of c time gate value cells)
plan_fit c time gate value cells fit in_range bit =
    either (IsFitOutcome (IsFitCells c) (IsFitTask c)) (plan_in cells gate == value) _ _ (nothing_fit c cells fit) (record {
      cells = set_fit c cells (plan_place gate) value fit bit;
      children = either (AllFit (IsFitTask c)) (nat_le (time + delay_of c gate) c.until) (change_at (time + delay_of c gate) gate value ∷ []) [] (change_at-fit c (time + delay_of c gate) gate value in_range bit, tt) tt;
      few = either (λ (children : List Start). length children < 2 ^ 32) (nat_le (time + delay_of c gate) c.until) (change_at (time + delay_of c gate) gate value ∷ []) [] (lit< tt) (lit< tt);
    })

-- what an evaluation or a tick plans makes one child at most
plan_few : (c : Simulation) (time gate value : ℕ) (cells : List ℕ) → length (plan_of c time gate value cells).children ≤ 1
plan_few c time gate value cells =
    either (λ (outcome : Outcome ℕ). length outcome.children ≤ 1) (plan_in cells gate == value) (nothing_done cells) _ (omega arith)
    (either (λ (children : List Start). length children ≤ 1) (nat_le (time + delay_of c gate) c.until) (change_at (time + delay_of c gate) gate value ∷ []) [] (omega arith) (omega arith))

next_few : (c : Simulation) (time flip_flop : ℕ) → length (next_ticks c time flip_flop) ≤ 1
next_few c time flip_flop =
    either (λ (children : List Start). length children ≤ 1) (nat_le (time + c.clock) c.until) (tick_at (time + c.clock) flip_flop ∷ []) [] (omega arith) (omega arith)

tick_fit : (c : Simulation) (time flip_flop : ℕ) (cells : List ℕ) → IsFitCells c cells → flip_flop < length c.deck.signals → is_flip_flop (signal_at c.deck.signals flip_flop).form ≡ true
    → IsFitOutcome (IsFitCells c) (IsFitTask c) (tick_of c time flip_flop cells)
tick_fit c time flip_flop cells fit in_range ticks =
    let value = computed_by (signal_at c.deck.signals flip_flop).form cells in
    let planned = plan_fit c time flip_flop value cells fit in_range (computed_by-bit (signal_at c.deck.signals flip_flop).form cells fit.bits) in
    record {
      cells = planned.cells;
      children = both_fit c (eval_of c time flip_flop cells).children (next_ticks c time flip_flop) planned.children
          (either (AllFit (IsFitTask c)) (nat_le (time + c.clock) c.until) (tick_at (time + c.clock) flip_flop ∷ []) [] (tick_at-fit c (time + c.clock) flip_flop in_range ticks, tt) tt);
      few = omega (arith, length-append (eval_of c time flip_flop cells).children (next_ticks c time flip_flop), plan_few c time flip_flop value cells, next_few c time flip_flop);
    }

pub act_of-fit : (c : Simulation) (task : Task) (cells : List ℕ) → IsFitCells c cells → IsFitTask c task.key.prio task.body → IsFitOutcome (IsFitCells c) (IsFitTask c) (act_of c task cells)
act_of-fit c task cells fit (inl change) =
    subst (λ (kind : ℕ). IsFitOutcome (IsFitCells c) (IsFitTask c) (event_of c kind (time_of task.key.prio) task.body.at task.body.arg cells)) (sym change.kind)
    (change_fit c (time_of task.key.prio) task.body.at task.body.arg cells fit change.to_bit)
act_of-fit c task cells fit (inr (inl eval)) =
    subst (λ (kind : ℕ). IsFitOutcome (IsFitCells c) (IsFitTask c) (event_of c kind (time_of task.key.prio) task.body.at task.body.arg cells)) (sym eval.kind)
    (plan_fit c (time_of task.key.prio) task.body.at _ cells fit eval.in_range (computed_by-bit (signal_at c.deck.signals task.body.at).form cells fit.bits))
act_of-fit c task cells fit (inr (inr tick)) =
    subst (λ (kind : ℕ). IsFitOutcome (IsFitCells c) (IsFitTask c) (event_of c kind (time_of task.key.prio) task.body.at task.body.arg cells)) (sym tick.kind)
    (tick_fit c (time_of task.key.prio) task.body.at cells fit tick.in_range tick.at_flip_flop)

-- each child is later than its parent's priority
abbrev pub AllLater : ℕ → List Start → Type 0
AllLater prio starts = AllByRecursion (λ child. prio < child.prio) starts

plan_later : (c : Simulation) (prio gate value : ℕ) (cells : List ℕ) → 1 ≤ delay_of c gate → prio % 2 ≡ 1 → AllLater prio (plan_of c (time_of prio) gate value cells).children
plan_later c prio gate value cells some odd =
    either (λ (outcome : Outcome ℕ). AllLater prio outcome.children) (plan_in cells gate == value) (nothing_done cells) _ tt
    (either (AllLater prio) (nat_le (time_of prio + delay_of c gate) c.until) (change_at (time_of prio + delay_of c gate) gate value ∷ []) [] (omega (arith, some), tt) tt)

both_later : (prio : ℕ) (starts others : List Start) → AllLater prio starts → AllLater prio others → AllLater prio (starts ++ others)
both_later prio [] others later more = more
both_later prio (start ∷ starts) others later more = (later.0, both_later prio starts others later.1 more)

tick_later : (c : Simulation) (prio flip_flop : ℕ) (cells : List ℕ) → 1 ≤ delay_of c flip_flop → 1 ≤ c.clock → prio % 2 ≡ 1 → AllLater prio (tick_of c (time_of prio) flip_flop cells).children
tick_later c prio flip_flop cells some runs odd =
    both_later prio (eval_of c (time_of prio) flip_flop cells).children (next_ticks c (time_of prio) flip_flop) (plan_later c prio flip_flop _ cells some odd)
    (either (AllLater prio) (nat_le (time_of prio + c.clock) c.until) (tick_at (time_of prio + c.clock) flip_flop ∷ []) [] (omega (arith, runs), tt) tt)

-- what follows from an event comes later
pub act_of-later : (c : Simulation) (task : Task) (cells : List ℕ) → IsFitCells c cells → IsFitTask c task.key.prio task.body → AllLater task.key.prio (act_of c task cells).children
act_of-later c task cells fit (inl change) =
    subst (λ (kind : ℕ). AllLater task.key.prio (event_of c kind (time_of task.key.prio) task.body.at task.body.arg cells).children) (sym change.kind)
    (either (λ (outcome : Outcome ℕ). AllLater task.key.prio outcome.children) (value_in cells task.body.at == task.body.arg) (nothing_done cells) _ tt
    (each_one _ (eval_at (time_of task.key.prio)) (readers_of c.deck.signals task.body.at) (λ z. omega (arith, change.even))))
act_of-later c task cells fit (inr (inl eval)) =
    let some = delays_are_positive c task.body.at fit.deck eval.in_range (no_input_from_gate (signal_at c.deck.signals task.body.at).form eval.at_gate) in
    subst (λ (kind : ℕ). AllLater task.key.prio (event_of c kind (time_of task.key.prio) task.body.at task.body.arg cells).children) (sym eval.kind)
    (plan_later c task.key.prio task.body.at _ cells some eval.odd)
act_of-later c task cells fit (inr (inr tick)) =
    let some = delays_are_positive c task.body.at fit.deck tick.in_range (no_input_from_flip_flop (signal_at c.deck.signals task.body.at).form tick.at_flip_flop) in
    subst (λ (kind : ℕ). AllLater task.key.prio (event_of c kind (time_of task.key.prio) task.body.at task.body.arg cells).children) (sym tick.kind)
    (tick_later c task.key.prio task.body.at cells some fit.clock tick.odd)

none_earlier : (prio : ℕ) (starts : List Start) → AllLater prio starts → NoneEarlier prio starts
none_earlier prio [] later = tt
none_earlier prio (start ∷ starts) later = (omega (arith, later.0), none_earlier prio starts later.1)

pub act_of-not_earlier : (c : Simulation) (task : Task) (cells : List ℕ) → IsFitCells c cells → IsFitTask c task.key.prio task.body → NoneEarlier task.key.prio (act_of c task cells).children
act_of-not_earlier c task cells fit fit-task = none_earlier task.key.prio (act_of c task cells).children (act_of-later c task cells fit fit-task)
