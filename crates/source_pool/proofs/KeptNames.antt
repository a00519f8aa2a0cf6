-- Rounds and their entries where tasks have other paths.
use Rattle.std.proofs.Common.{◌≡◌, ℕ, zero, suc, not, cond, Bool, true, false, List, [], ◌∷◌, ◌++◌, length, refl, sym, ap, subst, ◌∙◌, arith}
use Rattle.std.specs.Prelude.{map}
use Rattle.std.specs.List.{AllByRecursion, filter}
use Rattle.std.specs.Ordering.{is_lt, nat_cmp, ordering_then}
use Rattle.std.proofs.lemmas.List.{length-map, map-append}
use Rattle.plain_laws.specs.Members.{all_from}
use Rattle.plain_laws.specs.Lists.{All-filter, All-append}
use Rattle.task_order.specs.declared.key.Key.{Key}
use Rattle.task_order.specs.declared.task.Task.{Task}
use Rattle.task_order.specs.Key.{at_key, end, key_cmp}
use Rattle.output_log.specs.Entries.{Entry, entries_before, entries_from, is_entry_before, joined_by_key, joined_texts, with_entry}
use Rattle.app_laws.specs.Applications.{Application, AreFitTasks, IsFitTask, PathsAreIgnored}
use Rattle.app_laws.specs.Execution.{Outcome}
use Rattle.app_laws.specs.Names.{HaveNames, IsNaming, renamed}
use Rattle.app_laws.specs.Renaming.{renamed_entry}
use Rattle.commuting.specs.Clear.{IsReady}
use Rattle.commuting.specs.Commuting.{entries_of}
use Rattle.commuting.specs.Renaming.{renamed_state}
use Rattle.commuting.specs.Rounds.{after_round, clear_tasks, is_clear}
use Rattle.commuting.specs.States.{State}
use Rattle.source_pool.specs.Basis.{Basis}
use Rattle.source_pool.specs.Course.{LeadsByRounds}
use Rattle.source_pool.specs.Kept.{acted_in, entries_after, first_pending}

-- ---- entries

filter-mapped : {X : Type 0} (f : X → X) (test mapped_test : X → Bool) (xs : List X) → AllByRecursion (λ x. mapped_test (f x) ≡ test x) xs → filter mapped_test (map f xs) ≡ map f (filter test xs)
filter-mapped f test mapped_test [] same = refl
filter-mapped f test mapped_test (x ∷ xs) same =
    let rest = filter mapped_test (map f xs) in
    ap (λ b. cond b (f x ∷ rest) rest) same.0
    ∙ elim (test x) as (λ b. cond b (f x ∷ rest) rest ≡ map f (cond b (x ∷ filter test xs) (filter test xs))) [
      | true ↦ ap (λ ys. f x ∷ ys) (filter-mapped f test mapped_test xs same.1)
      | false ↦ filter-mapped f test mapped_test xs same.1
    ]

-- entries whose keys have names
abbrev pub HaveNamedKeys : (List ℕ → Bool) → List Entry → Type 0
HaveNamedKeys has_name entries = AllByRecursion (λ (entry : Entry). has_name entry.0.path ≡ true) entries

pub texts_renamed : (name : List ℕ → List ℕ) (entries : List Entry) → joined_texts (map (renamed_entry name) entries) ≡ joined_texts entries
texts_renamed name [] = refl
texts_renamed name (entry ∷ entries) = ap (λ texts. entry.1 ++ texts) (texts_renamed name entries)

module _ {name : List ℕ → List ℕ} {has_name : List ℕ → Bool} (naming : IsNaming name has_name) where
  -- the key with the name of its path
  abbrev key_named : Key → Key
  key_named key = record { prio = key.prio; path = name key.path }

  cmp-renamed : (key other : Key) → has_name key.path ≡ true → has_name other.path ≡ true → key_cmp (key_named key) (key_named other) ≡ key_cmp key other
  cmp-renamed key other named other_named = ap (ordering_then (nat_cmp key.prio other.prio)) (naming.in_order key.path other.path named other_named)

  -- tests of the order of entries say the same
  same_tests : (test : Bool → Bool) (key : Key) (entries : List Entry) → has_name key.path ≡ true → HaveNamedKeys has_name entries
      → AllByRecursion (λ (entry : Entry). test (is_lt (key_cmp (key_named entry.0) (key_named key))) ≡ test (is_lt (key_cmp entry.0 key))) entries
  same_tests test key [] named all = tt
  same_tests test key (entry ∷ entries) named all = (ap (λ order. test (is_lt order)) (cmp-renamed entry.0 key all.0 named), same_tests test key entries named all.1)

  before-renamed : (key : Key) (entries : List Entry) → has_name key.path ≡ true → HaveNamedKeys has_name entries
      → entries_before (at_key (key_named key)) (map (renamed_entry name) entries) ≡ map (renamed_entry name) (entries_before (at_key key) entries)
  before-renamed key entries named all =
      filter-mapped (renamed_entry name) (is_entry_before (at_key key)) (is_entry_before (at_key (key_named key))) entries (same_tests (λ b. b) key entries named all)

  from-renamed : (key : Key) (entries : List Entry) → has_name key.path ≡ true → HaveNamedKeys has_name entries
      → entries_from (at_key (key_named key)) (map (renamed_entry name) entries) ≡ map (renamed_entry name) (entries_from (at_key key) entries)
  from-renamed key entries named all =
      filter-mapped (renamed_entry name) (λ entry. not (is_entry_before (at_key key) entry)) (λ entry. not (is_entry_before (at_key (key_named key)) entry)) entries (same_tests not key entries named all)

  with_entry-renamed : (key : Key) (text : List ℕ) (entries : List Entry) → has_name key.path ≡ true → HaveNamedKeys has_name entries
      → with_entry (key_named key) text (map (renamed_entry name) entries) ≡ map (renamed_entry name) (with_entry key text entries)
  with_entry-renamed key text entries named all =
      ap (λ front. front ++ (key_named key, text) ∷ entries_from (at_key (key_named key)) (map (renamed_entry name) entries)) (before-renamed key entries named all)
      ∙ ap (λ back. map (renamed_entry name) (entries_before (at_key key) entries) ++ (key_named key, text) ∷ back) (from-renamed key entries named all)
      ∙ sym (map-append (renamed_entry name) (entries_before (at_key key) entries) ((key, text) ∷ entries_from (at_key key) entries))

  with_entry-named : (key : Key) (text : List ℕ) (entries : List Entry) → has_name key.path ≡ true → HaveNamedKeys has_name entries → HaveNamedKeys has_name (with_entry key text entries)
  with_entry-named key text entries named all =
      let Named = λ (entry : Entry). has_name entry.0.path ≡ true in
      All-append Named (entries_before (at_key key) entries) ((key, text) ∷ entries_from (at_key key) entries)
      (All-filter Named (is_entry_before (at_key key)) entries all)
      (named, All-filter Named (λ entry. not (is_entry_before (at_key key) entry)) entries all)

  joined-named : (entries others : List Entry) → HaveNamedKeys has_name entries → HaveNamedKeys has_name others → HaveNamedKeys has_name (joined_by_key entries others)
  joined-named entries [] all others_named = all
  joined-named entries (other ∷ others) all others_named =
      with_entry-named other.0 other.1 (joined_by_key entries others) others_named.0 (joined-named entries others all others_named.1)

  pub joined-renamed : (entries others : List Entry) → HaveNamedKeys has_name entries → HaveNamedKeys has_name others
      → joined_by_key (map (renamed_entry name) entries) (map (renamed_entry name) others) ≡ map (renamed_entry name) (joined_by_key entries others)
  joined-renamed entries [] all others_named = refl
  joined-renamed entries (other ∷ others) all others_named =
      ap (with_entry (key_named other.0) other.1) (joined-renamed entries others all others_named.1)
      ∙ with_entry-renamed other.0 other.1 (joined_by_key entries others) others_named.0 (joined-named entries others all others_named.1)

  -- the entries before the first of the pending tasks
  pub before_first-renamed : (pending : List Task) (entries : List Entry) → HaveNames has_name pending → HaveNamedKeys has_name entries
      → entries_before (first_pending (map (renamed name) pending)) (map (renamed_entry name) entries) ≡ map (renamed_entry name) (entries_before (first_pending pending) entries)
  before_first-renamed [] entries have all =
      filter-mapped (renamed_entry name) (is_entry_before end) (is_entry_before end) entries
      (all_from (λ (entry : Entry). is_entry_before end (renamed_entry name entry) ≡ is_entry_before end entry) entries (λ entry has. refl))
  before_first-renamed (task ∷ tasks) entries have all = before-renamed task.key entries have.0 all

module _ {V : Type 0} {app : Application V} (basis : Basis app) (ignored : PathsAreIgnored app) {name : List ℕ → List ℕ} {has_name : List ℕ → Bool} (naming : IsNaming name has_name) where
  -- ---- what tasks log

  entries_of-renamed : (cells : List V) (tasks : List Task) → app.is_fit_cells cells → AreFitTasks app tasks
      → entries_of app.act cells (map (renamed name) tasks) ≡ map (renamed_entry name) (entries_of app.act cells tasks)
  entries_of-renamed cells [] fit all = refl
  entries_of-renamed cells (task ∷ tasks) fit all =
      let key = (renamed name task).key in
      ap (λ (outcome : Outcome V). (key, outcome.text) ∷ entries_of app.act cells (map (renamed name) tasks)) (ignored.acts task (name task.key.path) cells fit all.0)
      ∙ ap (λ entries. (key, (app.act task cells).text) ∷ entries) (entries_of-renamed cells tasks fit all.1)

  entries_of-named : (cells : List V) (tasks : List Task) → HaveNames has_name tasks → HaveNamedKeys has_name (entries_of app.act cells tasks)
  entries_of-named cells [] have = tt
  entries_of-named cells (task ∷ tasks) have = (have.0, entries_of-named cells tasks have.1)

  -- ---- rounds

  -- Where rounds lead under names, they lead without them: to this state, whose tasks have names, with as many acts, and with entries
  -- whose keys have names.
  pub record IsSameAfter (rounds : ℕ) (state : State V) (entries : List Entry) (now : State V) : Type 0 where
    pub there : State V
    pub leads : LeadsByRounds app rounds state there
    pub now_is : now ≡ renamed_state name there
    pub ready : IsReady app there
    pub have : HaveNames has_name there.pending
    pub acted : acted_in app rounds (renamed_state name state) ≡ acted_in app rounds state
    pub entries_are : entries_after app rounds (map (renamed_entry name) entries) (renamed_state name state) ≡ map (renamed_entry name) (entries_after app rounds entries state)
    pub named : HaveNamedKeys has_name (entries_after app rounds entries state)

  pub same_after : (rounds : ℕ) (state : State V) (entries : List Entry) (now : State V) → IsReady app state → HaveNames has_name state.pending → HaveNamedKeys has_name entries
      → LeadsByRounds app rounds (renamed_state name state) now → IsSameAfter rounds state entries now
  same_after zero state entries now ready have named leads =
      record { there = state; leads = refl; now_is = leads; ready = ready; have = have; acted = refl; entries_are = refl; named = named }
  same_after (suc rounds) state entries now ready have named leads =
      let same = basis.same_round ignored name has_name naming state ready have in
      let next = after_round app state in
      let tasks = clear_tasks app state in
      let more = entries_of app.act state.cells tasks in
      let tasks_named : HaveNames has_name tasks = All-filter (λ (task : Task). has_name task.key.path ≡ true) (is_clear app state) state.pending have in
      let tasks_fit : AreFitTasks app tasks = All-filter (IsFitTask app) (is_clear app state) state.pending ready.tasks in
      let more_named = entries_of-named state.cells tasks tasks_named in
      let both = joined_by_key entries more in
      let here = renamed_state name state in
      let rest = same_after rounds next both now (basis.rounds_ready state ready) same.have_names (joined-named naming entries more named more_named)
      (subst (λ (s : State V). LeadsByRounds app rounds s now) same.after leads.1) in
      record {
        there = rest.there;
        leads = ((λ none. leads.0 (ap (map (renamed name)) none)), rest.leads);
        now_is = rest.now_is;
        ready = rest.ready;
        have = rest.have;
        acted =
            omega (
              arith,
              ap (λ (s : State V). acted_in app rounds s) same.after,
              rest.acted,
              ap length same.clear,
              length-map tasks (renamed name),
            );
        entries_are =
            ap (λ (acted : List Task). entries_after app rounds (joined_by_key (map (renamed_entry name) entries) (entries_of app.act state.cells acted)) (after_round app here)) same.clear
            ∙ ap (λ new. entries_after app rounds (joined_by_key (map (renamed_entry name) entries) new) (after_round app here)) (entries_of-renamed state.cells tasks ready.cells tasks_fit)
            ∙ ap (λ all. entries_after app rounds all (after_round app here)) (joined-renamed naming entries more named more_named)
            ∙ ap (λ (s : State V). entries_after app rounds (map (renamed_entry name) both) s) same.after
            ∙ rest.entries_are;
        named = rest.named;
      }
