-- What holds of entries, their parts and their joins.
use Rattle.std.specs.Prelude.{◌≡◌, ◌≢◌, ℕ, ◌+◌, true, false, List, [], ◌∷◌, ◌++◌, length}
use Rattle.std.specs.List.{AllByRecursion}
use Rattle.std.specs.List.Sorted.{IsPermutation}
use Rattle.std.specs.declared.cmp.Ordering.TheVariants.{Less}
use Rattle.task_order.specs.declared.key.Key.{Key}
use Rattle.task_order.specs.Key.{Bound, end, key_cmp, is_before}
use Rattle.output_log.specs.Entries.{Entry, IsInKeyOrder, IsNewEntry, ShareNoKey, entries_before, entries_from, with_entry, with_texts, joined_by_key, joined_texts}

-- ---- one more entry

abbrev pub PutsKeepOrder : Type 0
PutsKeepOrder = (key : Key) (text : List ℕ) (entries : List Entry) → IsNewEntry key entries → IsInKeyOrder entries → IsInKeyOrder (with_entry key text entries)

-- entries of different keys may come in either order
abbrev pub PutsCommute : Type 0
PutsCommute = (key other : Key) (text other_text : List ℕ) (entries : List Entry) → key ≢ other →
    with_entry key text (with_entry other other_text entries) ≡ with_entry other other_text (with_entry key text entries)

-- an entry that is later than all others comes last
abbrev pub LastPutsAppend : Type 0
LastPutsAppend = (key : Key) (text : List ℕ) (entries : List Entry) → AllByRecursion (λ entry. key_cmp entry.0 key ≡ Less) entries →
    with_entry key text entries ≡ entries ++ (key, text) ∷ []

-- an entry comes into the part on its side of a bound, and the other part stays
abbrev pub PutsMeetOnePart : Type 0
PutsMeetOnePart = (bound : Bound) (key : Key) (text : List ℕ) (entries : List Entry) →
    (is_before key bound ≡ true → (entries_before bound (with_entry key text entries) ≡ with_entry key text (entries_before bound entries))
    × (entries_from bound (with_entry key text entries) ≡ entries_from bound entries))
    × (is_before key bound ≡ false → (entries_before bound (with_entry key text entries) ≡ entries_before bound entries)
    × (entries_from bound (with_entry key text entries) ≡ with_entry key text (entries_from bound entries)))

-- a key is new among the entries with one more where it is another one and was new
abbrev pub PutsTakeOneKey : Type 0
PutsTakeOneKey = (key other : Key) (text : List ℕ) (entries : List Entry) → other ≢ key → IsNewEntry key entries → IsNewEntry key (with_entry other text entries)

-- ---- the parts of a log

-- the entries before a bound are the first ones
abbrev pub EarlierEntriesComeFirst : Type 0
EarlierEntriesComeFirst = (bound : Bound) (entries : List Entry) → IsInKeyOrder entries → entries ≡ entries_before bound entries ++ entries_from bound entries

abbrev pub PartsKeepOrder : Type 0
PartsKeepOrder = (bound : Bound) (entries : List Entry) → IsInKeyOrder entries → IsInKeyOrder (entries_before bound entries) × IsInKeyOrder (entries_from bound entries)

-- every entry is before the end
abbrev pub AllAreBeforeEnd : Type 0
AllAreBeforeEnd = (entries : List Entry) → entries_before end entries ≡ entries

-- the texts of a log are those of its first part, and then those of the rest
abbrev pub TextsFollow : Type 0
TextsFollow = (entries others : List Entry) → joined_texts (entries ++ others) ≡ joined_texts entries ++ joined_texts others

-- ---- the join of two logs

abbrev pub JoinsWithNone : Type 0
JoinsWithNone = (entries : List Entry) → IsInKeyOrder entries → (joined_by_key entries [] ≡ entries) × (joined_by_key [] entries ≡ entries)

abbrev pub JoinsWithOne : Type 0
JoinsWithOne = (key : Key) (text : List ℕ) (entries : List Entry) →
    (joined_by_key entries ((key, text) ∷ []) ≡ with_entry key text entries)
    × (IsNewEntry key entries → IsInKeyOrder entries → joined_by_key ((key, text) ∷ []) entries ≡ with_entry key text entries)

-- an entry may be put into either of the two, or into their join
abbrev pub JoinsTakePuts : Type 0
JoinsTakePuts = (key : Key) (text : List ℕ) (entries others : List Entry) →
    (IsNewEntry key others → joined_by_key (with_entry key text entries) others ≡ with_entry key text (joined_by_key entries others))
    × (IsInKeyOrder others → joined_by_key entries (with_entry key text others) ≡ with_entry key text (joined_by_key entries others))

abbrev pub JoinsCommute : Type 0
JoinsCommute = (entries others : List Entry) → IsInKeyOrder entries → IsInKeyOrder others → ShareNoKey entries others →
    joined_by_key entries others ≡ joined_by_key others entries

abbrev pub JoinsAssociate : Type 0
JoinsAssociate = (entries others last : List Entry) → IsInKeyOrder others → IsInKeyOrder last → ShareNoKey others last →
    joined_by_key (joined_by_key entries others) last ≡ joined_by_key entries (joined_by_key others last)

abbrev pub JoinsKeepOrder : Type 0
JoinsKeepOrder = (entries others : List Entry) → IsInKeyOrder entries → IsInKeyOrder others → ShareNoKey entries others → IsInKeyOrder (joined_by_key entries others)

-- no entry is lost or made
abbrev pub JoinsHaveAll : Type 0
JoinsHaveAll = (entries others : List Entry) → IsPermutation (entries ++ others) (joined_by_key entries others)

abbrev pub JoinsAddLengths : Type 0
JoinsAddLengths = (entries others : List Entry) → length (joined_by_key entries others) ≡ length entries + length others

-- a key is new in a join where it is new in both
abbrev pub JoinsHaveTheKeysOfBoth : Type 0
JoinsHaveTheKeysOfBoth = (key : Key) (entries others : List Entry) → IsNewEntry key entries → IsNewEntry key others → IsNewEntry key (joined_by_key entries others)

-- a part of a join is the join of the parts
abbrev pub PartsJoin : Type 0
PartsJoin = (bound : Bound) (entries others : List Entry) →
    (entries_before bound (joined_by_key entries others) ≡ joined_by_key (entries_before bound entries) (entries_before bound others))
    × (entries_from bound (joined_by_key entries others) ≡ joined_by_key (entries_from bound entries) (entries_from bound others))

-- where all of the second are later than all of the first, they follow them
abbrev pub LaterJoinsFollow : Type 0
LaterJoinsFollow = (entries others : List Entry) → IsInKeyOrder others →
    AllByRecursion (λ other. AllByRecursion (λ entry. key_cmp entry.0 other.0 ≡ Less) entries) others → joined_by_key entries others ≡ entries ++ others

-- entries without a text add none
abbrev pub SilentJoinsAddNoText : Type 0
SilentJoinsAddNoText = (entries silent : List Entry) → IsInKeyOrder entries → IsInKeyOrder silent → ShareNoKey entries silent →
    with_texts silent ≡ [] → joined_texts (joined_by_key entries silent) ≡ joined_texts entries
