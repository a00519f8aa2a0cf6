-- Laws of the access to one location, and what follows for whole sets.
use Rattle.std.proofs.Common.{◌≡◌, ℕ, true, Option, Some, None, ◌||◌, refl, sym, ap, ◌∙◌, inl, inr, ◌⊎◌}
use Rattle.std.proofs.lemmas.Bool.{or_cases, or_left, or_right}
use Rattle.rw_sets.specs.declared.access.Access.{Access}
use Rattle.rw_sets.specs.declared.access.Access.TheVariants.{Read, Write}
use Rattle.rw_sets.specs.Accesses.{access_at, stronger, joined, clash, covers, Conflicts, merged}
use Rattle.rw_sets.specs.Laws.{MergesCommute, MergesAssociate, MergesAreIdempotent, MergesConflictByParts, WithinIsAntisymmetric, MergesHoldBoth, MergesAreLeast}
use Rattle.rw_sets.specs.AccessLaws.{same_from_lookups}
use Rattle.rw_sets.specs.MergeLaws.{joined_associates, ascending_merged, access_merged}

stronger_commutes : (x y : Access) → stronger x y ≡ stronger y x
stronger_commutes Read Read = refl
stronger_commutes Read Write = refl
stronger_commutes Write Read = refl
stronger_commutes Write Write = refl

joined_commutes : (x y : Option Access) → joined x y ≡ joined y x
joined_commutes None None = refl
joined_commutes None (Some y) = refl
joined_commutes (Some x) None = refl
joined_commutes (Some x) (Some y) = ap Some (stronger_commutes x y)

joined_self : (x : Option Access) → joined x x ≡ x
joined_self None = refl
joined_self (Some Read) = refl
joined_self (Some Write) = refl

clash_joined : (x y z : Option Access) → clash (joined x y) z ≡ (clash x z || clash y z)
clash_joined None y z = refl
clash_joined (Some x) None None = refl
clash_joined (Some Read) None (Some Read) = refl
clash_joined (Some Read) None (Some Write) = refl
clash_joined (Some Write) None (Some z) = refl
clash_joined (Some Read) (Some Read) None = refl
clash_joined (Some Read) (Some Write) None = refl
clash_joined (Some Write) (Some y) None = refl
clash_joined (Some Read) (Some Read) (Some Read) = refl
clash_joined (Some Read) (Some Read) (Some Write) = refl
clash_joined (Some Read) (Some Write) (Some Read) = refl
clash_joined (Some Read) (Some Write) (Some Write) = refl
clash_joined (Some Write) (Some y) (Some z) = refl

covers_joined_left : (x y : Option Access) → covers x (joined x y) ≡ true
covers_joined_left None y = refl
covers_joined_left (Some Read) None = refl
covers_joined_left (Some Write) None = refl
covers_joined_left (Some Read) (Some y) = refl
covers_joined_left (Some Write) (Some y) = refl

covers_joined : (x y z : Option Access) → covers x z ≡ true → covers y z ≡ true → covers (joined x y) z ≡ true
covers_joined None y z h k = k
covers_joined (Some x) None z h k = h
covers_joined (Some x) (Some y) None h k = h
covers_joined (Some Read) (Some y) (Some z) h k = k
covers_joined (Some Write) (Some y) (Some z) h k = h

covers_both : (x y : Option Access) → covers x y ≡ true → covers y x ≡ true → x ≡ y
covers_both None None h k = refl
covers_both None (Some y) h k = absurd cc
covers_both (Some x) None h k = absurd cc
covers_both (Some Read) (Some Read) h k = refl
covers_both (Some Read) (Some Write) h k = absurd cc
covers_both (Some Write) (Some Read) h k = absurd cc
covers_both (Some Write) (Some Write) h k = refl

pub merges_commute : MergesCommute
merges_commute a b up-a up-b = same_from_lookups _ _ (ascending_merged a b up-a) (ascending_merged b a up-b) (λ loc.
    access_merged a b up-a up-b loc ∙ joined_commutes (access_at a loc) (access_at b loc) ∙ sym (access_merged b a up-b up-a loc))

pub merges_associate : MergesAssociate
merges_associate a b c up-a up-b up-c =
    let up-ab = ascending_merged a b up-a in
    let up-bc = ascending_merged b c up-b in
    same_from_lookups _ _ (ascending_merged (merged a b) c up-ab) (ascending_merged a (merged b c) up-a) (λ loc.
    rw (access_merged (merged a b) c up-ab up-c loc, access_merged a b up-a up-b loc, access_merged a (merged b c) up-a up-bc loc, access_merged b c up-b up-c loc) (joined_associates (access_at a loc) (access_at b loc) (access_at c loc)))

pub merges_are_idempotent : MergesAreIdempotent
merges_are_idempotent a up = same_from_lookups _ _ (ascending_merged a a up) up (λ loc. access_merged a a up up loc ∙ joined_self (access_at a loc))

pub merges_conflict_by_parts : MergesConflictByParts
merges_conflict_by_parts a b c up-a up-b = (to_parts, from_parts)
  where
    split : (loc : ℕ) → clash (access_at (merged a b) loc) (access_at c loc) ≡ (clash (access_at a loc) (access_at c loc) || clash (access_at b loc) (access_at c loc))
    split loc = ap (λ x. clash x (access_at c loc)) (access_merged a b up-a up-b loc) ∙ clash_joined (access_at a loc) (access_at b loc) (access_at c loc)

    to_parts : Conflicts (merged a b) c → Conflicts a c ⊎ Conflicts b c
    to_parts (loc, h) = elim (or_cases _ _ (sym (split loc) ∙ h)) [
      | inl at-a ↦ inl (loc, at-a)
      | inr at-b ↦ inr (loc, at-b)
    ]

    from_parts : Conflicts a c ⊎ Conflicts b c → Conflicts (merged a b) c
    from_parts (inl (loc, h)) = (loc, split loc ∙ or_left _ _ h)
    from_parts (inr (loc, h)) = (loc, split loc ∙ or_right _ _ h)

pub within_is_antisymmetric : WithinIsAntisymmetric
within_is_antisymmetric a b up-a up-b h k = same_from_lookups a b up-a up-b (λ loc. covers_both (access_at a loc) (access_at b loc) (h loc) (k loc))

pub merges_hold_both : MergesHoldBoth
merges_hold_both a b up-a up-b = (
  λ loc. rw (access_merged a b up-a up-b loc) (covers_joined_left (access_at a loc) (access_at b loc)),
  λ loc. rw (access_merged a b up-a up-b loc, joined_commutes (access_at a loc) (access_at b loc)) (covers_joined_left (access_at b loc) (access_at a loc)),
)

pub merges_are_least : MergesAreLeast
merges_are_least a b c up-a up-b h k loc = rw (access_merged a b up-a up-b loc) (covers_joined (access_at a loc) (access_at b loc) (access_at c loc) (h loc) (k loc))
