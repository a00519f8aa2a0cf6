-- How often each vertex stands in the beginning of a list.
use Rattle.std.specs.Prelude.{◌≡◌, ◌≢◌, ℕ, suc, ◌+◌, ◌-◌, ◌<◌, ◌≤◌, ◌==◌, List, length, take, slice_set, refl}
use Rattle.std.specs.List.{AllByRecursion}
use Rattle.std.proofs.Common.{arith, ap, max, sym, ◌∙◌, inl, inr, get_or, length-set, get_or-set_other, get_or-set_same}
use Rattle.std.proofs.lemmas.Grind.{get_or_default_zero}
use Rattle.std.proofs.lemmas.List.{length-take}
use Rattle.std.proofs.lemmas.Bool.{cases_eq, cases_lt, eq-eqb, ne_eqb}
use Rattle.std.proofs.lemmas.List.Sums.{count_by-le-length, count_by_more_no, count_by_more_yes}
use Rattle.plain_laws.specs.Lists.{All-get_or}
use Rattle.level_search.specs.Counts.{IsMost, times}
use Rattle.level_search.specs.Turns.{IsVertexOf}

-- the count at each place is how often the vertex of the place stands in the list
pub record AreCounts (count : ℕ) (counts numbers : List ℕ) : Type 0 where
  pub long : length counts ≡ count
  pub each : (loc : ℕ) → loc < count → get_or counts loc 0 ≡ times (suc loc) numbers

module _ (numbers : List ℕ) (i : ℕ) (within : i < length numbers) where
  times_more : (number : ℕ) → get_or numbers i 0 ≡ number → times number (take (i + 1) numbers) ≡ times number (take i numbers) + 1
  times_more number is = count_by_more_yes (λ (other : ℕ). other == number) numbers i 0 within (eq-eqb (get_or numbers i 0) number is)

  times_same : (number : ℕ) → get_or numbers i 0 ≢ number → times number (take (i + 1) numbers) ≡ times number (take i numbers)
  times_same number differs = count_by_more_no (λ (other : ℕ). other == number) numbers i 0 within (ne_eqb (get_or numbers i 0) number differs)

  -- the next number is a vertex, whose place had this count before
  module _ (count : ℕ) (counts : List ℕ) (all : AllByRecursion (IsVertexOf count) numbers) (are : AreCounts count counts (take i numbers))
      (old : ℕ) (old_is : old ≡ get_or counts (get_or numbers i 0 - 1) old) where
    vertex : IsVertexOf count (get_or numbers i 0)
    vertex = All-get_or (IsVertexOf count) numbers i 0 within all

    next_is : get_or numbers i 0 ≡ suc (get_or numbers i 0 - 1)
    next_is = omega (arith, vertex.some)

    place_within : get_or numbers i 0 - 1 < count
    place_within = omega (arith, vertex.some, vertex.within)

    old_count : old ≡ times (get_or numbers i 0) (take i numbers)
    old_count = old_is ∙ get_or_default_zero counts (get_or numbers i 0 - 1) old (omega (arith, place_within, are.long))
        ∙ are.each (get_or numbers i 0 - 1) place_within ∙ ap (λ (n : ℕ). times n (take i numbers)) (sym next_is)

    -- that is at most as great as numbers were counted
    pub count_few : old ≤ i
    count_few = omega (arith, old_count, count_by-le-length (λ (other : ℕ). other == get_or numbers i 0) (take i numbers), length-take i numbers)

    -- with one more it is that of the numbers up to this one
    more_count : old + 1 ≡ times (get_or numbers i 0) (take (i + 1) numbers)
    more_count = ap (λ (n : ℕ). n + 1) old_count ∙ sym (times_more (get_or numbers i 0) refl)

    pub new_count : (new : ℕ) → new ≡ get_or (slice_set counts (get_or numbers i 0 - 1) (old + 1)) (get_or numbers i 0 - 1) new
        → new ≡ times (get_or numbers i 0) (take (i + 1) numbers)
    new_count new is = is ∙ get_or-set_same counts (get_or numbers i 0 - 1) (old + 1) new (omega (arith, place_within, are.long)) ∙ more_count

    pub counted_more : AreCounts count (slice_set counts (get_or numbers i 0 - 1) (old + 1)) (take (i + 1) numbers)
    counted_more = record {
      long = length-set counts (get_or numbers i 0 - 1) (old + 1) ∙ are.long;
      each = λ loc below. elim (cases_eq loc (get_or numbers i 0 - 1)) [
        | inl same ↦
            ap (λ (l : ℕ). get_or (slice_set counts (get_or numbers i 0 - 1) (old + 1)) l 0) same
            ∙ get_or-set_same counts (get_or numbers i 0 - 1) (old + 1) 0 (omega (arith, place_within, are.long))
            ∙ more_count ∙ ap (λ (n : ℕ). times n (take (i + 1) numbers)) (next_is ∙ ap suc (sym same))
        | inr differs ↦
            get_or-set_other counts (get_or numbers i 0 - 1) loc (old + 1) 0 differs
            ∙ are.each loc below ∙ sym (times_same (suc loc) (λ e. differs (omega (arith, e))))
      ];
    }

  -- the most are so many as before, or as the next number
  pub most_more : (most : ℕ) → IsMost (take i numbers) most → IsMost (take (i + 1) numbers) (max most (times (get_or numbers i 0) (take (i + 1) numbers)))
  most_more most is = elim (cases_lt most so_often) [
    | inl less ↦ record { upper = upper; number = get_or numbers i 0; as_often = omega (arith, less) }
    | inr not ↦ record { upper = upper; number = is.number; as_often = still not }
  ]
    where
      so_often : ℕ
      so_often = times (get_or numbers i 0) (take (i + 1) numbers)

      upper : (number : ℕ) → times number (take (i + 1) numbers) ≤ max most so_often
      upper number = elim (cases_eq (get_or numbers i 0) number) [
        | inl same ↦ let e = ap (λ (n : ℕ). times n (take (i + 1) numbers)) same in omega (arith, e)
        | inr differs ↦ omega (arith, times_same number differs, is.upper number)
      ]

      still : so_often ≤ most → times is.number (take (i + 1) numbers) ≡ max most so_often
      still not = elim (cases_eq (get_or numbers i 0) is.number) [
        | inl same ↦ let e = ap (λ (n : ℕ). times n (take (i + 1) numbers)) same in absurd (omega (arith, e, not, is.as_often, times_more is.number same))
        | inr differs ↦ omega (arith, not, is.as_often, times_same is.number differs)
      ]
