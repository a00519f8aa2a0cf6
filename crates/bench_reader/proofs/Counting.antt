-- The names between a gate's marks.
use Rattle.std.proofs.Common.{arith, refl, sym, ap, ◌∙◌, ◌≡◌, ◌+◌, ◌||◌, true, false, [], ◌∷◌, ◌++◌, ℕ, List, Bool, length, append_assoc, length-append, nat_lt, cond}
use Rattle.std.specs.List.{list_any}
use Rattle.std.specs.Str.{bytes_eq}
use Rattle.std.proofs.lemmas.Bool.Decides.{nat_tests}
use Rattle.std.proofs.lemmas.List.Folds.{list_any-append}
use Rattle.std.proofs.lemmas.Slice.Eq.{bytes_eq-Decides}
use Rattle.bench_reader.specs.Decks.{is_long}
use Rattle.bench_reader.specs.LineForms.{is_name, are_names, names_among}
use Rattle.bench_reader.specs.Statements.{capped}

-- The names that were gone over were counted, and those to come decide the rest.
pub record HasCounted (whole tokens : List (List ℕ)) (count : ℕ) (has_long : Bool) : Type 0 where
  pub seen : List (List ℕ)
  pub cut : names_among whole ≡ seen ++ names_among tokens
  pub left : are_names whole ≡ are_names tokens
  pub counted : count ≡ capped (length seen)
  pub longest : has_long ≡ list_any is_long seen

pub HasCounted-none : (tokens : List (List ℕ)) → HasCounted tokens tokens 0 false
HasCounted-none tokens = record { seen = []; cut = refl; left = refl; counted = refl; longest = refl }

capped-more : (n : ℕ) → cond (nat_lt 255 (capped n)) (capped n) (capped n + 1) ≡ capped (n + 1)
capped-more n = grind (arith, nat_tests)

-- a name and a comma in front of what names follow
are_names-comma : (name : List ℕ) (tokens : List (List ℕ)) → is_name name ≡ true → are_names (name ∷ (44 ∷ []) ∷ tokens) ≡ are_names tokens
are_names-comma name [] named = rw named refl
are_names-comma name (next ∷ more) named = rw named refl

longest-more : (seen : List (List ℕ)) (name : List ℕ) → (list_any is_long seen || is_long name) ≡ list_any is_long (seen ++ name ∷ [])
longest-more seen name = sym (list_any-append is_long seen (name ∷ []) ∙ by_test (is_long name))
  where
    by_test : (b : Bool) → (list_any is_long seen || (b || false)) ≡ (list_any is_long seen || b)
    by_test true = refl
    by_test false = refl

pub HasCounted-more : (whole tokens : List (List ℕ)) (count : ℕ) (has_long : Bool) (name mark : List ℕ) (rest : List (List ℕ)) (next_count : ℕ) (next_long : Bool)
    → HasCounted whole tokens count has_long → tokens ≡ name ∷ mark ∷ rest → is_name name ≡ true → bytes_eq mark (44 ∷ []) ≡ true
    → next_count ≡ cond (nat_lt 255 count) count (count + 1) → next_long ≡ (has_long || is_long name) → HasCounted whole rest next_count next_long
HasCounted-more whole tokens count has_long name mark rest next_count next_long so_far cut named comma counted longer =
    let is_comma : mark ≡ 44 ∷ [] = (bytes_eq-Decides mark (44 ∷ [])).0 comma in
    let whole_cut : tokens ≡ name ∷ (44 ∷ []) ∷ rest = cut ∙ ap (λ m. name ∷ m ∷ rest) is_comma in
    record {
      seen = so_far.seen ++ name ∷ [];
      cut = so_far.cut ∙ rw whole_cut (sym (append_assoc so_far.seen (name ∷ []) (names_among rest)));
      left = so_far.left ∙ rw whole_cut (are_names-comma name rest named);
      counted = counted ∙ rw (so_far.counted, capped-more (length so_far.seen), length-append so_far.seen (name ∷ [])) refl;
      longest = longer ∙ rw so_far.longest (longest-more so_far.seen name);
    }
