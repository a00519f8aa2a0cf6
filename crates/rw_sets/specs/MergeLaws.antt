-- A merge by cases on the first locations, and what a look-up finds in it.
use Rattle.std.proofs.Common.{◌≡◌, ℕ, ◌<◌, eqb, cond, [], ◌∷◌, Option, Some, None, refl, sym, ap, ◌∙◌, subst, inl, inr, arith}
use Rattle.std.proofs.lemmas.Bool.{cases_eq, cases_order}
use Rattle.std.proofs.lemmas.Bool.Decides.{nat_tests}
use Rattle.rw_sets.specs.declared.access.Access.{Access}
use Rattle.rw_sets.specs.declared.access.Access.TheVariants.{Read, Write}
use Rattle.rw_sets.specs.Accesses.{Accesses, AllBeyond, IsAscending, access_at, stronger, joined, put_access, merged}
use Rattle.rw_sets.specs.AccessLaws.{ascending_first, ascending_rest, ascending_none, ascending_cons, beyond_lower, absent_beyond, access_first, access_other}

pub put_below : (q p : ℕ × Access) (qs : Accesses) → p.0 < q.0 → put_access (q ∷ qs) p ≡ p ∷ q ∷ qs
put_below q p qs lt = grind (arith, nat_tests)

pub put_at : (q p : ℕ × Access) (qs : Accesses) → p.0 ≡ q.0 → put_access (q ∷ qs) p ≡ (q.0, stronger q.1 p.1) ∷ qs
put_at q p qs e = grind (arith, nat_tests)

pub put_above : (q p : ℕ × Access) (qs : Accesses) → q.0 < p.0 → put_access (q ∷ qs) p ≡ q ∷ put_access qs p
put_above q p qs lt = grind (arith, nat_tests)

-- an access before all others goes first
pub put_first : (p : ℕ × Access) (qs : Accesses) → AllBeyond p.0 qs → put_access qs p ≡ p ∷ qs
put_first p [] h = refl
put_first p (q ∷ qs) h = put_below q p qs h.0

pub beyond_put : (n : ℕ) (qs : Accesses) (p : ℕ × Access) → n < p.0 → AllBeyond n qs → AllBeyond n (put_access qs p)
beyond_put n [] p lt h = (lt, tt)
beyond_put n (q ∷ qs) p lt h = elim (cases_order p.0 q.0) [
  | inl e ↦ rw (put_at q p qs e) h
  | inr (inl below) ↦ rw (put_below q p qs below) (lt, h)
  | inr (inr above) ↦ rw (put_above q p qs above) (h.0, beyond_put n qs p lt h.1)
]

pub ascending_put : (qs : Accesses) (p : ℕ × Access) → IsAscending qs → IsAscending (put_access qs p)
ascending_put [] p up = ascending_cons _ _ tt ascending_none
ascending_put (q ∷ qs) p up = elim (cases_order p.0 q.0) [
  | inl e ↦ rw (put_at q p qs e) (ascending_cons _ _ (ascending_first _ _ up) (ascending_rest _ _ up))
  | inr (inl below) ↦ rw (put_below q p qs below) (ascending_cons _ _ (below, beyond_lower p.0 q.0 qs (omega arith) (ascending_first _ _ up)) up)
  | inr (inr above) ↦ rw (put_above q p qs above) (ascending_cons _ _ (beyond_put q.0 qs p above (ascending_first _ _ up)) (ascending_put qs p (ascending_rest _ _ up)))
]

pub ascending_merged : (a b : Accesses) → IsAscending a → IsAscending (merged a b)
ascending_merged a [] up = up
ascending_merged a (p ∷ ps) up = ascending_merged (put_access a p) ps (ascending_put a p up)

pub joined_none : (x : Option Access) → joined x None ≡ x
joined_none None = refl
joined_none (Some x) = refl

pub stronger_associates : (x y z : Access) → stronger (stronger x y) z ≡ stronger x (stronger y z)
stronger_associates Read y z = refl
stronger_associates Write y z = refl

pub joined_associates : (x y z : Option Access) → joined (joined x y) z ≡ joined x (joined y z)
joined_associates None y z = refl
joined_associates (Some x) None z = refl
joined_associates (Some x) (Some y) None = refl
joined_associates (Some x) (Some y) (Some z) = ap Some (stronger_associates x y z)

-- at its location an access that is put in joins what was there
pub access_put_here : (qs : Accesses) (p : ℕ × Access) → IsAscending qs → access_at (put_access qs p) p.0 ≡ joined (access_at qs p.0) (Some p.1)
access_put_here [] p up = access_first p [] p.0 refl
access_put_here (q ∷ qs) p up = elim (cases_order p.0 q.0) [
  | inl e ↦ rw (put_at q p qs e, access_first (q.0, stronger q.1 p.1) qs p.0 (sym e), access_first q qs p.0 (sym e)) refl
  | inr (inl below) ↦ rw (put_below q p qs below, access_first p (q ∷ qs) p.0 refl, access_other q qs p.0 (λ e. omega arith), absent_beyond p.0 q.0 qs (omega arith) (ascending_first _ _ up)) refl
  | inr (inr above) ↦ rw (put_above q p qs above, access_other q (put_access qs p) p.0 (λ e. omega arith), access_other q qs p.0 (λ e. omega arith)) (access_put_here qs p (ascending_rest _ _ up))
]

-- at any other nothing changes
pub access_put_other : (qs : Accesses) (p : ℕ × Access) (loc : ℕ) → (p.0 ≡ loc → ⊥) → access_at (put_access qs p) loc ≡ access_at qs loc
access_put_other [] p loc differs = access_other p [] loc differs
access_put_other (q ∷ qs) p loc differs = elim (cases_order p.0 q.0) [
  | inl e ↦ rw (put_at q p qs e) (access_other (q.0, stronger q.1 p.1) qs loc (λ f. differs (e ∙ f)) ∙ sym (access_other q qs loc (λ f. differs (e ∙ f))))
  | inr (inl below) ↦ rw (put_below q p qs below) (access_other p (q ∷ qs) loc differs)
  | inr (inr above) ↦ rw (put_above q p qs above) (ap (cond (eqb q.0 loc) (Some q.1)) (access_put_other qs p loc differs))
]

-- what the merge has at a location
pub access_merged : (a b : Accesses) → IsAscending a → IsAscending b → (loc : ℕ) → access_at (merged a b) loc ≡ joined (access_at a loc) (access_at b loc)
access_merged a [] up-a up-b loc = sym (joined_none (access_at a loc))
access_merged a (p ∷ ps) up-a up-b loc =
    let rest = access_merged (put_access a p) ps (ascending_put a p up-a) (ascending_rest _ _ up-b) loc in
    elim (cases_eq p.0 loc) [
      | inl e ↦
          let found = access_first p ps loc e in
          let absent = absent_beyond loc p.0 ps (omega arith) (ascending_first _ _ up-b) in
          let here : access_at (put_access a p) loc ≡ joined (access_at a loc) (Some p.1) = subst (λ l. access_at (put_access a p) l ≡ joined (access_at a l) (Some p.1)) e (access_put_here a p up-a) in
          cc (joined_none (joined (access_at a loc) (Some p.1)))
      | inr differs ↦ cc (access_put_other a p loc differs, access_other p ps loc differs)
    ]

-- a first access before all others stays first
pub merged_left : (p : ℕ × Access) (a b : Accesses) → AllBeyond p.0 b → merged (p ∷ a) b ≡ p ∷ merged a b
merged_left p a [] h = refl
merged_left p a (q ∷ qs) h = rw (put_above p q a h.0) (merged_left p (put_access a q) qs h.1)

pub merged_right : (q : ℕ × Access) (a b : Accesses) → AllBeyond q.0 a → AllBeyond q.0 b → merged a (q ∷ b) ≡ q ∷ merged a b
merged_right q a b h-a h-b = rw (put_first q a h-a) (merged_left q a b h-b)

-- first accesses to one location become one
pub merged_both : (p q : ℕ × Access) (a b : Accesses) → p.0 ≡ q.0 → AllBeyond q.0 b → merged (p ∷ a) (q ∷ b) ≡ (p.0, stronger p.1 q.1) ∷ merged a b
merged_both p q a b e h = rw (put_at p q a (sym e)) (merged_left (p.0, stronger p.1 q.1) a b (rw e h))

-- a merge with nothing
pub merged_none : (b : Accesses) → IsAscending b → merged [] b ≡ b
merged_none [] up = refl
merged_none (q ∷ qs) up = merged_right q [] qs tt (ascending_first _ _ up) ∙ ap (λ r. q ∷ r) (merged_none qs (ascending_rest _ _ up))
