-- The entries of a log that is cut into blocks.
use Rattle.std.proofs.Common.{◌≡◌, ℕ, zero, suc, ◌+◌, ◌*◌, ◌<◌, ◌≤◌, ◌↔◌, inl, inr, List, [], ◌∷◌, ◌++◌, length, take, drop, set, get_or, refl, sym, ◌∙◌, ap, subst, arith, append_assoc, length-append, add-one}
use Rattle.std.proofs.Math.Seq.{take-length, drop-length}
use Rattle.std.proofs.lemmas.Grind.{flat_map-append}
use Rattle.std.proofs.lemmas.List.{append-nil, get_or_default, take-append-drop}
use Rattle.std.specs.List.{AllByRecursion, insert}
use Rattle.plain_laws.specs.Lists.{All-take, All-drop, All-append, All-front, All-behind}
use Rattle.output_log.specs.Entries.{Entry, joined_texts}
use Rattle.output_log.specs.Blocks.{entries_in, block_at, entries_to, entries_behind, IsFilled, IsEmpty, IsInside}

pub entries_in-append : (blocks more : List (List Entry)) → entries_in (blocks ++ more) ≡ entries_in blocks ++ entries_in more
entries_in-append [] more = refl
entries_in-append (block ∷ blocks) more = ap (λ l. block ++ l) (entries_in-append blocks more) ∙ sym (append_assoc block (entries_in blocks) (entries_in more))

-- only where there is no block, there is no entry
pub no_entry : (blocks : List (List Entry)) → AllByRecursion IsFilled blocks → (blocks ≡ []) ↔ (entries_in blocks ≡ [])
no_entry [] filled = (λ none. refl, λ none. refl)
no_entry (block ∷ blocks) filled = (
  λ none. absurd (omega (arith, ap length none)),
  λ none. absurd (omega (arith, length-append block (entries_in blocks), ap length none, filled.0.0)),
)

-- one block more
pub entries_in-take : (blocks : List (List Entry)) (at : ℕ) → at < length blocks → entries_in (take (suc at) blocks) ≡ entries_in (take at blocks) ++ block_at blocks at
entries_in-take [] at inside = absurd (omega (arith, inside))
entries_in-take (block ∷ blocks) zero inside = append-nil block
entries_in-take (block ∷ blocks) (suc at) inside = ap (λ l. block ++ l) (entries_in-take blocks at (omega (arith, inside))) ∙ sym (append_assoc block (entries_in (take at blocks)) (block_at blocks at))

-- one block less
pub entries_in-drop : (blocks : List (List Entry)) (at : ℕ) → entries_in (drop at blocks) ≡ entries_behind blocks at 0
entries_in-drop [] zero = refl
entries_in-drop [] (suc at) = refl
entries_in-drop (block ∷ blocks) zero = refl
entries_in-drop (block ∷ blocks) (suc at) = entries_in-drop blocks at

-- a block read by its place
pub block_read : (blocks : List (List Entry)) (at : ℕ) (block : List Entry) → block ≡ get_or blocks at block → at < length blocks → block ≡ block_at blocks at
block_read blocks at block is inside = is ∙ get_or_default blocks at block [] inside

-- a block that has entries is one of them
block_inside : (blocks : List (List Entry)) (at place : ℕ) → place < length (block_at blocks at) → at < length blocks
block_inside [] at place some = absurd (omega (arith, some))
block_inside (block ∷ blocks) zero place some = omega arith
block_inside (block ∷ blocks) (suc at) place some = omega (arith, block_inside blocks at place some)

pub up_to_end : (blocks : List (List Entry)) (at place : ℕ) → IsInside blocks at place → at ≤ length blocks
up_to_end blocks at place (inl some) = omega (arith, block_inside blocks at place some)
up_to_end blocks at place (inr end) = omega (arith, end.0)

pub in_a_block : (blocks : List (List Entry)) (at place : ℕ) → IsInside blocks at place → 0 < place → at < length blocks
in_a_block blocks at place (inl some) first = block_inside blocks at place some
in_a_block blocks at place (inr end) first = absurd (omega (arith, end.1, first))

-- ---- the entries before a place, and the others

ahead : (a b c d : List Entry) → a ++ ((b ++ c) ++ d) ≡ ((a ++ b) ++ c) ++ d
ahead a b c d = sym (append_assoc a (b ++ c) d) ∙ ap (λ l. l ++ d) (sym (append_assoc a b c))

pub entries_in-parts : (blocks : List (List Entry)) (at place : ℕ) → entries_in blocks ≡ entries_to blocks at place ++ entries_behind blocks at place
entries_in-parts [] zero zero = refl
entries_in-parts [] zero (suc place) = refl
entries_in-parts [] (suc at) zero = refl
entries_in-parts [] (suc at) (suc place) = refl
entries_in-parts (block ∷ blocks) zero place = ap (λ l. l ++ entries_in blocks) (sym (take-append-drop place block)) ∙ append_assoc (take place block) (drop place block) (entries_in blocks)
entries_in-parts (block ∷ blocks) (suc at) place =
    ap (λ l. block ++ l) (entries_in-parts blocks at place)
    ∙ ahead block (entries_in (take at blocks)) (take place (block_at blocks at)) (entries_behind blocks at place)

-- behind all blocks there is no entry
pub behind_all : (blocks : List (List Entry)) (at place : ℕ) → at ≡ length blocks → entries_behind blocks at place ≡ []
behind_all [] zero zero is = refl
behind_all [] zero (suc place) is = refl
behind_all [] (suc at) place is = absurd (omega (arith, is))
behind_all (block ∷ blocks) zero place is = absurd (omega (arith, is))
behind_all (block ∷ blocks) (suc at) place is = behind_all blocks at place (omega (arith, is))

-- before the end are all
pub up_to_all : (blocks : List (List Entry)) → entries_to blocks (length blocks) 0 ≡ entries_in blocks
up_to_all blocks = sym (entries_in-parts blocks (length blocks) 0 ∙ ap (λ l. entries_to blocks (length blocks) 0 ++ l) (behind_all blocks (length blocks) 0 refl) ∙ append-nil _)

-- blocks without the entries before a place
pub without_first : (blocks : List (List Entry)) (at place : ℕ) → at < length blocks → entries_in (set (drop at blocks) 0 (drop place (block_at (drop at blocks) 0))) ≡ entries_behind blocks at place
without_first [] at place inside = absurd (omega (arith, inside))
without_first (block ∷ blocks) zero place inside = refl
without_first (block ∷ blocks) (suc at) place inside = without_first blocks at place (omega (arith, inside))

-- ---- an entry put in

-- the entries with one more at a place
abbrev pub with_entry_at : Entry → List (List Entry) → ℕ → ℕ → List Entry
with_entry_at entry blocks at place = entries_to blocks at place ++ entry ∷ entries_behind blocks at place

with_entry_ahead : (entry : Entry) (block : List Entry) (blocks : List (List Entry)) (at place : ℕ) → block ++ with_entry_at entry blocks at place ≡ with_entry_at entry (block ∷ blocks) (suc at) place
with_entry_ahead entry block blocks at place = ahead block (entries_in (take at blocks)) (take place (block_at blocks at)) (entry ∷ entries_behind blocks at place)

-- into its block
pub put_into_block : (entry : Entry) (blocks : List (List Entry)) (at place : ℕ) → at < length blocks → entries_in (set blocks at (insert (block_at blocks at) place entry)) ≡ with_entry_at entry blocks at place
put_into_block entry [] at place inside = absurd (omega (arith, inside))
put_into_block entry (block ∷ blocks) zero place inside = append_assoc (take place block) (entry ∷ drop place block) (entries_in blocks)
put_into_block entry (block ∷ blocks) (suc at) place inside = ap (λ l. block ++ l) (put_into_block entry blocks at place (omega (arith, inside))) ∙ with_entry_ahead entry block blocks at place

-- into a new block behind its own
put_behind : (entry : Entry) (blocks : List (List Entry)) (at place : ℕ) → at < length blocks → place ≡ length (block_at blocks at) → entries_in (insert blocks (suc at) (entry ∷ [])) ≡ with_entry_at entry blocks at place
put_behind entry [] at place inside end = absurd (omega (arith, inside))
put_behind entry (block ∷ blocks) zero place inside end =
    sym (λ i. ((λ j. take (end j) block) ∙ take-length block) i ++ entry ∷ (((λ j. drop (end j) block) ∙ drop-length block) i ++ entries_in blocks))
put_behind entry (block ∷ blocks) (suc at) place inside end = ap (λ l. block ++ l) (put_behind entry blocks at place (omega (arith, inside)) end) ∙ with_entry_ahead entry block blocks at place

pub put_behind_block : (entry : Entry) (blocks : List (List Entry)) (at place : ℕ) → at < length blocks → place ≡ length (block_at blocks at) → entries_in (insert blocks (at + 1) (entry ∷ [])) ≡ with_entry_at entry blocks at place
put_behind_block entry blocks at place inside end =
    rw add-one (put_behind entry blocks at place inside end)

cut_block : (entry : Entry) (block rest : List Entry) (place cut : ℕ) → place ≤ cut → insert (take cut block) place entry ++ (drop cut block ++ rest) ≡ take place block ++ entry ∷ (drop place block ++ rest)
cut_block entry block rest zero cut up_to = ap (λ l. entry ∷ l) (sym (append_assoc (take cut block) (drop cut block) rest) ∙ ap (λ l. l ++ rest) (take-append-drop cut block))
cut_block entry block rest (suc place) zero up_to = absurd (omega (arith, up_to))
cut_block entry [] rest (suc place) (suc cut) up_to = refl
cut_block entry (first ∷ block) rest (suc place) (suc cut) up_to = ap (λ l. first ∷ l) (cut_block entry block rest place cut (omega (arith, up_to)))

-- into the lower part of its block, which is cut in two
put_into_lower : (entry : Entry) (blocks : List (List Entry)) (at place cut : ℕ) → at < length blocks → place ≤ cut
    → entries_in (insert (set blocks at (insert (take cut (block_at blocks at)) place entry)) (suc at) (drop cut (block_at blocks at))) ≡ with_entry_at entry blocks at place
put_into_lower entry [] at place cut inside up_to = absurd (omega (arith, inside))
put_into_lower entry (block ∷ blocks) zero place cut inside up_to = cut_block entry block (entries_in blocks) place cut up_to
put_into_lower entry (block ∷ blocks) (suc at) place cut inside up_to = ap (λ l. block ++ l) (put_into_lower entry blocks at place cut (omega (arith, inside)) up_to) ∙ with_entry_ahead entry block blocks at place

pub put_into_cut : (entry : Entry) (blocks : List (List Entry)) (at place cut : ℕ) → at < length blocks → place ≤ cut
    → entries_in (insert (set blocks at (insert (take cut (block_at blocks at)) place entry)) (at + 1) (drop cut (block_at blocks at))) ≡ with_entry_at entry blocks at place
put_into_cut entry blocks at place cut inside up_to =
    rw add-one (put_into_lower entry blocks at place cut inside up_to)

-- the start of a block is the end of the one before it
pub put_at_end : (entry : Entry) (blocks : List (List Entry)) (at place before end : ℕ) → at ≡ suc before → place ≡ 0 → before < length blocks → end ≡ length (block_at blocks before)
    → with_entry_at entry blocks before end ≡ with_entry_at entry blocks at place
put_at_end entry blocks at place before end next first inside whole =
    let block = block_at blocks before in
    let to : entries_to blocks before end ≡ entries_to blocks (suc before) 0 =
    ap (λ l. entries_in (take before blocks) ++ l) (ap (λ n. take n block) whole ∙ take-length block) ∙ sym (entries_in-take blocks before inside) ∙ sym (append-nil _) in
    let behind : entries_behind blocks before end ≡ entries_behind blocks (suc before) 0 =
    ap (λ l. l ++ entries_in (drop (suc before) blocks)) (ap (λ n. drop n block) whole ∙ drop-length block) ∙ entries_in-drop blocks (suc before) in
    (λ i. to i ++ entry ∷ behind i) ∙ (λ i. with_entry_at entry blocks (sym next i) (sym first i))

-- ---- what each block has

pub AllByRecursion-insert : {X : Type 0} (P : X → Type 0) (xs : List X) (n : ℕ) (y : X) → P y → AllByRecursion P xs → AllByRecursion P (insert xs n y)
AllByRecursion-insert P xs n y one all = All-append P (take n xs) (y ∷ drop n xs) (All-take P n xs all) (one, All-drop P n xs all)

pub filled_at : (blocks : List (List Entry)) (at : ℕ) → AllByRecursion IsFilled blocks → at < length blocks → IsFilled (block_at blocks at)
filled_at [] at all inside = absurd (omega (arith, inside))
filled_at (block ∷ blocks) zero all inside = all.0
filled_at (block ∷ blocks) (suc at) all inside = filled_at blocks at all.1 (omega (arith, inside))

-- a spare block that is taken has no entry
pub last_empty : (spare left : List (List Entry)) (block : List Entry) → spare ≡ left ++ block ∷ [] → AllByRecursion IsEmpty spare → AllByRecursion IsEmpty left × (block ≡ [])
last_empty spare left block is all =
    let parts = subst (AllByRecursion IsEmpty) is all in
    (All-front IsEmpty left (block ∷ []) parts, (All-behind IsEmpty left (block ∷ []) parts).0)

-- where there is no entry, there is no block
pub no_block : (blocks : List (List Entry)) → AllByRecursion IsFilled blocks → (length blocks ≡ 0 → entries_in blocks ≡ []) × (entries_in blocks ≡ [] → length blocks ≡ 0)
no_block [] all = ((λ none. refl), (λ none. refl))
no_block (block ∷ blocks) all = ((λ none. absurd (omega (arith, none))), (λ none. absurd (omega (arith, all.0.0, ap length none, length-append block (entries_in blocks)))))

-- ---- how many entries there are

pub length-entries_in : (blocks : List (List Entry)) → AllByRecursion IsFilled blocks → length (entries_in blocks) ≤ 64 * length blocks
length-entries_in [] all = omega arith
length-entries_in (block ∷ blocks) all = omega (arith, length-append block (entries_in blocks), length-entries_in blocks all.1, all.0.1)

pub length-some_blocks : (blocks : List (List Entry)) (at : ℕ) → length (entries_in (take at blocks)) ≤ length (entries_in blocks)
length-some_blocks blocks at =
    omega (arith, ap length (ap entries_in (sym (take-append-drop at blocks)) ∙ entries_in-append (take at blocks) (drop at blocks)), length-append (entries_in (take at blocks)) (entries_in (drop at blocks)))

pub length-one_more : (blocks : List (List Entry)) (at : ℕ) → at < length blocks → length (entries_in (take (at + 1) blocks)) ≡ length (entries_in (take at blocks)) + length (block_at blocks at)
length-one_more blocks at inside = rw add-one (ap length (entries_in-take blocks at inside) ∙ length-append (entries_in (take at blocks)) (block_at blocks at))

-- ---- the texts

pub joined_texts-block : (blocks : List (List Entry)) (at : ℕ) → at < length blocks → joined_texts (entries_in (take (at + 1) blocks)) ≡ joined_texts (entries_in (take at blocks)) ++ joined_texts (block_at blocks at)
joined_texts-block blocks at inside =
    rw add-one (ap joined_texts (entries_in-take blocks at inside) ∙ flat_map-append (λ (entry : Entry). entry.1) (entries_in (take at blocks)) (block_at blocks at))
