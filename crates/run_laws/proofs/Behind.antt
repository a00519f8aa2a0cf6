-- Entries behind others that are earlier than a bound, and what holds of nodes by their tasks.
use Rattle.std.proofs.Common.{◌≡◌, ◌≢◌, ℕ, false, not, cond, List, [], ◌∷◌, ◌++◌, append_assoc, refl, sym, ap, subst, ◌∙◌}
use Rattle.std.specs.List.{AllByRecursion}
use Rattle.std.specs.Ordering.{is_lt}
use Rattle.std.specs.declared.cmp.Ordering.TheVariants.{Less}
use Rattle.std.proofs.lemmas.List.Elements.{filter-append}
use Rattle.std.proofs.lemmas.Bool.{true≢false}
use Rattle.task_order.specs.declared.key.Key.{Key}
use Rattle.task_order.specs.declared.task.Task.{Task}
use Rattle.task_order.specs.Key.{Bound, at_key, end, key_cmp}
use Rattle.output_log.specs.Entries.{Entry, entries_before, entries_from, is_entry_before, joined_by_key, with_entry}
use Rattle.output_log.specs.EntryLaws.{AreBefore, AllAreBefore}
use Rattle.kdg_graph.specs.Node.{Node}
use Rattle.kdg_graph.specs.Nodes.{tasks_of}
use Rattle.app_laws.specs.Order.{is_prefix}
use Rattle.app_laws.specs.ApartLaws.{is_prefix-same}
use Rattle.run_laws.specs.Basis.{LowerLaws}

-- ---- entries

pub all_before : (bound : Bound) (entries : List Entry) → AllAreBefore bound entries → entries_before bound entries ≡ entries
all_before bound [] all = refl
all_before bound (entry ∷ entries) all =
    ap (λ test. cond test (entry ∷ entries_before bound entries) (entries_before bound entries)) all.0
    ∙ ap (λ rest. entry ∷ rest) (all_before bound entries all.1)

pub none_from : (bound : Bound) (entries : List Entry) → AllAreBefore bound entries → entries_from bound entries ≡ []
none_from bound [] all = refl
none_from bound (entry ∷ entries) all =
    ap (λ test. cond (not test) (entry ∷ entries_from bound entries) (entries_from bound entries)) all.0 ∙ none_from bound entries all.1

pub all_before_end : (entries : List Entry) → AllAreBefore end entries
all_before_end [] = tt
all_before_end (entry ∷ entries) = (refl, all_before_end entries)

pub before_behind : (bound : Bound) (front back : List Entry) → AllAreBefore bound front → entries_before bound (front ++ back) ≡ front ++ entries_before bound back
before_behind bound front back all = filter-append (is_entry_before bound) front back ∙ ap (λ first. first ++ entries_before bound back) (all_before bound front all)

pub from_behind : (bound : Bound) (front back : List Entry) → AllAreBefore bound front → entries_from bound (front ++ back) ≡ entries_from bound back
from_behind bound front back all = filter-append (λ entry. not (is_entry_before bound entry)) front back ∙ ap (λ first. first ++ entries_from bound back) (none_from bound front all)

-- an entry that is later than those in front comes behind them
pub put_behind : (key : Key) (text : List ℕ) (front back : List Entry) → AllAreBefore (at_key key) front → with_entry key text (front ++ back) ≡ front ++ with_entry key text back
put_behind key text front back all =
    ap (λ first. first ++ (key, text) ∷ entries_from (at_key key) (front ++ back)) (before_behind (at_key key) front back all)
    ∙ ap (λ last. (front ++ entries_before (at_key key) back) ++ (key, text) ∷ last) (from_behind (at_key key) front back all)
    ∙ append_assoc front (entries_before (at_key key) back) ((key, text) ∷ entries_from (at_key key) back)

pub earlier_by_order : (key : Key) (entries : List Entry) → AreBefore key entries → AllAreBefore (at_key key) entries
earlier_by_order key [] all = tt
earlier_by_order key (entry ∷ entries) all = (ap is_lt all.0, earlier_by_order key entries all.1)

-- later entries are joined behind those in front
pub joined_behind : (front back others : List Entry) → AllByRecursion (λ (other : Entry). AreBefore other.0 front) others → joined_by_key (front ++ back) others ≡ front ++ joined_by_key back others
joined_behind front back [] later = refl
joined_behind front back (other ∷ others) later =
    ap (with_entry other.0 other.1) (joined_behind front back others later.1) ∙ put_behind other.0 other.1 front (joined_by_key back others) (earlier_by_order other.0 front later.0)

-- what is earlier than a key is earlier than each later one
pub earlier_than_later : LowerLaws → (entries : List Entry) (key later : Key) → key_cmp key later ≡ Less → AreBefore key entries → AreBefore later entries
earlier_than_later lower [] key later less all = tt
earlier_than_later lower (entry ∷ entries) key later less all = (lower.transitive entry.0 key later all.0 less, earlier_than_later lower entries key later less all.1)

-- a path that another isn't a prefix of is another one
pub differs_without_prefix : (path other : List ℕ) → is_prefix path other ≡ false → other ≢ path
differs_without_prefix path other none same =
    let itself = is_prefix-same path in
    let never : is_prefix path path ≡ false = subst (λ (held : List ℕ). is_prefix path held ≡ false) same none in
    true≢false (sym itself ∙ never)

-- ---- nodes

pub by_tasks : (P : Task → Type 0) (nodes : List Node) → AllByRecursion P (tasks_of nodes) → AllByRecursion (λ (node : Node). P node.task) nodes
by_tasks P [] all = tt
by_tasks P (node ∷ nodes) all = (all.0, by_tasks P nodes all.1)

pub of_tasks : (P : Task → Type 0) (nodes : List Node) → AllByRecursion (λ (node : Node). P node.task) nodes → AllByRecursion P (tasks_of nodes)
of_tasks P [] all = tt
of_tasks P (node ∷ nodes) all = (all.0, of_tasks P nodes all.1)
