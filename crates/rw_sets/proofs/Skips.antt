-- What a conflict or a merge of two lists becomes where the lower of the two first locations is passed over.
use Rattle.std.proofs.Common.{◌≡◌, ℕ, ◌<◌, ◌-◌, [], ◌∷◌, Option, Some, None, true, false, refl, sym, ap, ◌∙◌, inl, inr, ◌↔◌, ◌⊎◌, arith, get_or, take, drop, length, ◌++◌, append-nil, append_assoc}
use Rattle.std.proofs.lemmas.List.{take_all}
use Rattle.std.proofs.lemmas.Bool.{cases_eq}
use Rattle.rw_sets.specs.declared.access.Access.{Access}
use Rattle.rw_sets.specs.declared.access.Access.TheVariants.{Read}
use Rattle.rw_sets.specs.Accesses.{Accesses, AllBeyond, IsAscending, access_at, stronger, excludes, clash, Conflicts, merged}
use Rattle.rw_sets.specs.MergeLaws.{merged_left, merged_right, merged_both, merged_none}
use Rattle.rw_sets.specs.AccessLaws.{ascending_first, ascending_rest, beyond_lower, absent_beyond, access_first, access_other}

clash_none : (x : Option Access) → clash x None ≡ false
clash_none None = refl
clash_none (Some x) = refl

-- no conflict is lost with a first location that the other list lacks
pub skip_left : (p : ℕ × Access) (a b : Accesses) → AllBeyond p.0 b → AllBeyond p.0 a → Conflicts (p ∷ a) b ↔ Conflicts a b
skip_left p a b beyond-b beyond-a = (λ (loc, h). (loc, sym (same loc) ∙ h), λ (loc, h). (loc, same loc ∙ h))
  where
    same : (loc : ℕ) → clash (access_at (p ∷ a) loc) (access_at b loc) ≡ clash (access_at a loc) (access_at b loc)
    same loc = elim (cases_eq p.0 loc) [
      | inl e ↦
          let absent : access_at b loc ≡ None = absent_beyond loc p.0 b (omega arith) beyond-b in
          rw (absent, clash_none (access_at (p ∷ a) loc), clash_none (access_at a loc)) refl
      | inr differs ↦ rw (access_other p a loc differs) refl
    ]

pub skip_right : (q : ℕ × Access) (a b : Accesses) → AllBeyond q.0 a → AllBeyond q.0 b → Conflicts a (q ∷ b) ↔ Conflicts a b
skip_right q a b beyond-a beyond-b = (λ (loc, h). (loc, sym (same loc) ∙ h), λ (loc, h). (loc, same loc ∙ h))
  where
    same : (loc : ℕ) → clash (access_at a loc) (access_at (q ∷ b) loc) ≡ clash (access_at a loc) (access_at b loc)
    same loc = elim (cases_eq q.0 loc) [
      | inl e ↦
          let absent : access_at a loc ≡ None = absent_beyond loc q.0 a (omega arith) beyond-a in
          rw absent refl
      | inr differs ↦ rw (access_other q b loc differs) refl
    ]

-- accesses to one location that don't exclude each other
pub skip_both : (p q : ℕ × Access) (a b : Accesses) → p.0 ≡ q.0 → excludes p.1 q.1 ≡ false → AllBeyond p.0 a → AllBeyond q.0 b → Conflicts (p ∷ a) (q ∷ b) ↔ Conflicts a b
skip_both p q a b e apart beyond-a beyond-b = (λ (loc, h). (loc, sym (same loc) ∙ h), λ (loc, h). (loc, same loc ∙ h))
  where
    same : (loc : ℕ) → clash (access_at (p ∷ a) loc) (access_at (q ∷ b) loc) ≡ clash (access_at a loc) (access_at b loc)
    same loc = elim (cases_eq p.0 loc) [
      | inl f ↦
          let absent : access_at a loc ≡ None = absent_beyond loc p.0 a (omega arith) beyond-a in
          rw (access_first p a loc f, access_first q b loc (sym e ∙ f), absent) apart
      | inr differs ↦ rw (access_other p a loc differs, access_other q b loc (λ f. differs (e ∙ f))) refl
    ]

-- accesses to one location that exclude each other
pub found_conflict : (p q : ℕ × Access) (a b : Accesses) → p.0 ≡ q.0 → excludes p.1 q.1 ≡ true → Conflicts (p ∷ a) (q ∷ b)
found_conflict p q a b e clashes = (p.0, rw (access_first p a p.0 refl, access_first q b p.0 (sym e)) clashes)

-- the first pair of a list that has one, and the pairs after it, as a slice pattern gives them
abbrev pub first_of : Accesses → ℕ × Access
first_of l = get_or l 0 (0, Read)

abbrev pub rest_of : Accesses → Accesses
rest_of l = take (length l - 1) (drop 1 l)

pub rest_is : (p : ℕ × Access) (ps : Accesses) → rest_of (p ∷ ps) ≡ ps
rest_is p ps = let e : length (p ∷ ps) - 1 ≡ length ps = omega arith in rw e (take_all (length ps) ps (omega arith))

-- a walk over two sets goes on behind the lower of the first locations, or behind both
pub record Passes (l r l' r' : Accesses) : Type 0 where
  pub left_ascends : IsAscending l'
  pub right_ascends : IsAscending r'
  pub same_answer : Conflicts l r ↔ Conflicts l' r'

pub pass_left : (l r : Accesses) → IsAscending l → IsAscending r → 0 < length l → 0 < length r → (first_of l).0 < (first_of r).0 → Passes l r (rest_of l) r
pass_left [] r up-l up-r some-l some-r lt = absurd (omega arith)
pass_left (p ∷ ps) [] up-l up-r some-l some-r lt = absurd (omega arith)
pass_left (p ∷ ps) (q ∷ qs) up-l up-r some-l some-r lt = rw (rest_is p ps) (record {
  left_ascends = (ascending_rest _ _ up-l);
  right_ascends = up-r;
  same_answer = skip_left p ps (q ∷ qs) (lt, beyond_lower p.0 q.0 qs (omega arith) (ascending_first _ _ up-r)) (ascending_first _ _ up-l);
})

pub pass_right : (l r : Accesses) → IsAscending l → IsAscending r → 0 < length l → 0 < length r → (first_of r).0 < (first_of l).0 → Passes l r l (rest_of r)
pass_right [] r up-l up-r some-l some-r lt = absurd (omega arith)
pass_right (p ∷ ps) [] up-l up-r some-l some-r lt = absurd (omega arith)
pass_right (p ∷ ps) (q ∷ qs) up-l up-r some-l some-r lt = rw (rest_is q qs) (record {
  left_ascends = up-l;
  right_ascends = (ascending_rest _ _ up-r);
  same_answer = skip_right q (p ∷ ps) qs (lt, beyond_lower q.0 p.0 ps (omega arith) (ascending_first _ _ up-l)) (ascending_first _ _ up-r);
})

pub pass_both : (l r : Accesses) → IsAscending l → IsAscending r → 0 < length l → 0 < length r → (first_of l).0 ≡ (first_of r).0 → excludes (first_of l).1 (first_of r).1 ≡ false → Passes l r (rest_of l) (rest_of r)
pass_both [] r up-l up-r some-l some-r e apart = absurd (omega arith)
pass_both (p ∷ ps) [] up-l up-r some-l some-r e apart = absurd (omega arith)
pass_both (p ∷ ps) (q ∷ qs) up-l up-r some-l some-r e apart = rw (rest_is p ps, rest_is q qs) (record {
  left_ascends = (ascending_rest _ _ up-l);
  right_ascends = (ascending_rest _ _ up-r);
  same_answer = skip_both p q ps qs e apart (ascending_first _ _ up-l) (ascending_first _ _ up-r);
})

pub first_conflict : (l r : Accesses) → 0 < length l → 0 < length r → (first_of l).0 ≡ (first_of r).0 → excludes (first_of l).1 (first_of r).1 ≡ true → Conflicts l r
first_conflict [] r some-l some-r e clashes = absurd (omega arith)
first_conflict (p ∷ ps) [] some-l some-r e clashes = absurd (omega arith)
first_conflict (p ∷ ps) (q ∷ qs) some-l some-r e clashes = found_conflict p q ps qs e clashes

-- a walk whose step keeps the answer has the answer of the two sets
pub passes_more : (a b l r l' r' : Accesses) → Conflicts l r ↔ Conflicts a b → Passes l r l' r' → record { left_ascends : IsAscending l'; right_ascends : IsAscending r'; same_answer : Conflicts l' r' ↔ Conflicts a b }
passes_more a b l r l' r' so-far step = record {
  left_ascends = step.left_ascends;
  right_ascends = step.right_ascends;
  same_answer = (λ h. so-far.0 (step.same_answer.1 h), λ h. step.same_answer.0 (so-far.1 h));
}

-- the merge of what is left, after one more pair
pub record Merges (l r : Accesses) (p : ℕ × Access) (l' r' : Accesses) : Type 0 where
  pub left_ascends : IsAscending l'
  pub right_ascends : IsAscending r'
  pub same_merge : merged l r ≡ p ∷ merged l' r'

pub merge_left : (l r : Accesses) → IsAscending l → IsAscending r → 0 < length l → 0 < length r → (first_of l).0 < (first_of r).0 → Merges l r (first_of l) (rest_of l) r
merge_left [] r up-l up-r some-l some-r lt = absurd (omega arith)
merge_left (p ∷ ps) [] up-l up-r some-l some-r lt = absurd (omega arith)
merge_left (p ∷ ps) (q ∷ qs) up-l up-r some-l some-r lt = rw (rest_is p ps) (record {
  left_ascends = (ascending_rest _ _ up-l);
  right_ascends = up-r;
  same_merge = merged_left p ps (q ∷ qs) (lt, beyond_lower p.0 q.0 qs (omega arith) (ascending_first _ _ up-r));
})

pub merge_right : (l r : Accesses) → IsAscending l → IsAscending r → 0 < length l → 0 < length r → (first_of r).0 < (first_of l).0 → Merges l r (first_of r) l (rest_of r)
merge_right [] r up-l up-r some-l some-r lt = absurd (omega arith)
merge_right (p ∷ ps) [] up-l up-r some-l some-r lt = absurd (omega arith)
merge_right (p ∷ ps) (q ∷ qs) up-l up-r some-l some-r lt = rw (rest_is q qs) (record {
  left_ascends = up-l;
  right_ascends = (ascending_rest _ _ up-r);
  same_merge = merged_right q (p ∷ ps) qs (lt, beyond_lower q.0 p.0 ps (omega arith) (ascending_first _ _ up-l)) (ascending_first _ _ up-r);
})

pub merge_both : (l r : Accesses) → IsAscending l → IsAscending r → 0 < length l → 0 < length r → (first_of l).0 ≡ (first_of r).0 → Merges l r ((first_of l).0, stronger (first_of l).1 (first_of r).1) (rest_of l) (rest_of r)
merge_both [] r up-l up-r some-l some-r e = absurd (omega arith)
merge_both (p ∷ ps) [] up-l up-r some-l some-r e = absurd (omega arith)
merge_both (p ∷ ps) (q ∷ qs) up-l up-r some-l some-r e = rw (rest_is p ps, rest_is q qs) (record {
  left_ascends = (ascending_rest _ _ up-l);
  right_ascends = (ascending_rest _ _ up-r);
  same_merge = merged_both p q ps qs e (ascending_first _ _ up-r);
})

-- where one of the lists is used up, the rest of the merge is what is left of the other
pub merge_rest : (l r : Accesses) → IsAscending r → (length l ≡ 0) ⊎ (length r ≡ 0) → merged l r ≡ l ++ r
merge_rest [] r up-r ended = merged_none r up-r
merge_rest (p ∷ ps) [] up-r ended = sym (append-nil (p ∷ ps))
merge_rest (p ∷ ps) (q ∷ qs) up-r (inl e) = absurd (omega arith)
merge_rest (p ∷ ps) (q ∷ qs) up-r (inr e) = absurd (omega arith)

-- a walk that pushes the pair goes on
pub merges_more : (a b l r l' r' done done' : Accesses) (p : ℕ × Access) → done ++ merged l r ≡ merged a b → done' ≡ done ++ p ∷ [] → Merges l r p l' r' → record { left_ascends : IsAscending l'; right_ascends : IsAscending r'; same_merge : done' ++ merged l' r' ≡ merged a b }
merges_more a b l r l' r' done done' p so-far pushed step = record {
  left_ascends = step.left_ascends;
  right_ascends = step.right_ascends;
  same_merge = rw (pushed, append_assoc) (ap (λ rest. done ++ rest) (sym step.same_merge) ∙ so-far);
}
