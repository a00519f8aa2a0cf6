-- The entries of the tasks that wrote something.
use Rattle.std.proofs.Common.{◌≡◌, ℕ, true, not, List, [], ◌∷◌, ◌++◌, length, refl, sym, ◌∙◌, ap, arith}
use Rattle.std.proofs.lemmas.List.Elements.{filter-append}
use Rattle.std.proofs.lemmas.List.Kept.{IsStrictlySortedBy-filter}
use Rattle.task_order.specs.declared.key.Key.{Key}
use Rattle.task_order.specs.Key.{Bound, at_key, IsExactOrder}
use Rattle.output_log.specs.Entries.{Entry, IsInKeyOrder, ShareNoKey, entries_before, entries_from, entry_cmp, is_entry_before, is_written, joined_by_key, joined_texts, with_entry, with_texts}
use Rattle.output_log.proofs.Filters.{filter-cons, filter_swap}
use Rattle.output_log.proofs.Joins.{joins_keep_order, order_of_rest}
use Rattle.output_log.proofs.Parts.{earlier_come_first}

pub written_before : (bound : Bound) (entries : List Entry) → with_texts (entries_before bound entries) ≡ entries_before bound (with_texts entries)
written_before bound entries = filter_swap (is_entry_before bound) (λ entry. is_written entry.1) entries

pub written_from : (bound : Bound) (entries : List Entry) → with_texts (entries_from bound entries) ≡ entries_from bound (with_texts entries)
written_from bound entries = filter_swap (λ entry. not (is_entry_before bound entry)) (λ entry. is_written entry.1) entries

pub written_in_order : (entries : List Entry) → IsInKeyOrder entries → IsInKeyOrder (with_texts entries)
written_in_order entries ordered = IsStrictlySortedBy-filter entry_cmp _ entries ordered

pub written_where_some : (text : List ℕ) → (text ≡ [] → ⊥) → is_written text ≡ true
written_where_some [] some = absurd (some refl)
written_where_some (byte ∷ text) some = refl

-- who wrote something has an entry among them
pub written_put : (key : Key) (text : List ℕ) (entries : List Entry) → is_written text ≡ true → with_texts (with_entry key text entries) ≡ with_entry key text (with_texts entries)
written_put key text entries is =
    filter-append _ (entries_before (at_key key) entries) ((key, text) ∷ entries_from (at_key key) entries)
    ∙ ap (λ l. with_texts (entries_before (at_key key) entries) ++ l) (filter-cons _ (key, text) (entries_from (at_key key) entries) true is)
    ∙ (λ i. written_before (at_key key) entries i ++ (key, text) ∷ written_from (at_key key) entries i)

-- who wrote nothing changes nothing
pub silent_put : (key : Key) (entries : List Entry) → IsInKeyOrder entries → with_texts (with_entry key [] entries) ≡ with_texts entries
silent_put key entries ordered =
    filter-append _ (entries_before (at_key key) entries) ((key, []) ∷ entries_from (at_key key) entries)
    ∙ sym (filter-append _ (entries_before (at_key key) entries) (entries_from (at_key key) entries))
    ∙ ap with_texts (sym (earlier_come_first (at_key key) entries ordered))

-- they have all texts
pub all_texts_are_written : (entries : List Entry) → joined_texts (with_texts entries) ≡ joined_texts entries
all_texts_are_written [] = refl
all_texts_are_written ((key, []) ∷ entries) = all_texts_are_written entries
all_texts_are_written ((key, byte ∷ text) ∷ entries) = ap (λ l. (byte ∷ text) ++ l) (all_texts_are_written entries)

-- nor do they lack one where others without a text are joined
pub silent_joins_add_no_text : IsExactOrder → (entries silent : List Entry) → IsInKeyOrder entries → IsInKeyOrder silent → ShareNoKey entries silent →
    with_texts silent ≡ [] → joined_texts (joined_by_key entries silent) ≡ joined_texts entries
silent_joins_add_no_text exact entries [] ordered rest apart none = refl
silent_joins_add_no_text exact entries ((key, byte ∷ text) ∷ silent) ordered rest apart none = absurd (omega (arith, ap length none))
silent_joins_add_no_text exact entries ((key, []) ∷ silent) ordered rest apart none =
    let rest_ordered = order_of_rest (key, []) silent rest in
    let joined = joined_by_key entries silent in
    sym (all_texts_are_written (with_entry key [] joined))
    ∙ ap joined_texts (silent_put key joined (joins_keep_order exact entries silent ordered rest_ordered apart.1))
    ∙ all_texts_are_written joined
    ∙ silent_joins_add_no_text exact entries silent ordered rest_ordered apart.1 none
