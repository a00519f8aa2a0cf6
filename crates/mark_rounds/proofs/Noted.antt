-- What is noted of the sets that write a location.
use Rattle.std.proofs.Common.{◌≡◌, ◌⊎◌, inl, inr, ℕ, suc, ◌+◌, ◌<◌, Bool, true, false, cond, List, [], ◌∷◌, length, drop, get_or, Option, Some, None, refl, sym, ap, subst, ◌∙◌, drop-cons, add-one}
use Rattle.std.specs.Prelude.{Contains, IsSome, slice_get, slice_set}
use Rattle.std.proofs.lemmas.Bool.{cases_eq, true≢false}
use Rattle.std.proofs.lemmas.List.{length-set}
use Rattle.std.proofs.lemmas.List.Elements.{Contains-get_or}
use Rattle.plain_laws.specs.Lists.{get-set_same, get-set_other}
use Rattle.plain_laws.specs.Members.{cases, none}
use Rattle.rw_sets.specs.declared.access.Access.{Access}
use Rattle.rw_sets.specs.declared.access.Access.TheVariants.{Read, Write}
use Rattle.rw_sets.specs.Accesses.{Accesses, access_at, allows_write, is_write, IsAscending, IsInRange, writes}
use Rattle.rw_sets.specs.Laws.{LookupsFindPairs}
use Rattle.mark_rounds.specs.Writers.{HaveFirstWriters, first_writer}

-- the pairs of a set that are not left have noted the rank where they write, and nowhere else
pub record AreNoted (rank : ℕ) (set : Accesses) (old now : List ℕ) (left : Accesses) : Type 0 where
  pub count : length now ≡ length old
  pub written : (loc : ℕ) → Contains set (loc, Write) → Contains left (loc, Write) ⊎ (slice_get now loc ≡ Some rank)
  pub others : (loc : ℕ) → (Contains set (loc, Write) → ⊥) → slice_get now loc ≡ slice_get old loc

module _ (rank : ℕ) (set items : Accesses) (old now : List ℕ) (i : ℕ) (d : ℕ × Access) (same : items ≡ set) (inside : i < length items) (noted : AreNoted rank set old now (drop i set)) where
  abbrev pair : ℕ × Access
  pair = get_or items i d

  here : Contains set pair
  here = subst (λ l. Contains l pair) same (Contains-get_or items i d inside)

  left : drop i set ≡ pair ∷ drop (i + 1) set
  left = rw add-one (ap (drop i) (sym same) ∙ drop-cons items i d inside ∙ ap (λ l. pair ∷ drop (suc i) l) same)

  pub reading_noted : is_write pair.1 ≡ false → AreNoted rank set old now (drop (i + 1) set)
  reading_noted reads = record {
    count = noted.count;
    written = λ loc has. elim (noted.written loc has) [
      | inl among ↦ elim (cases pair (loc, Write) (drop (i + 1) set) (subst (λ l. Contains l (loc, Write)) left among)) [
        | inl is ↦ absurd (true≢false (ap (λ (p : ℕ × Access). is_write p.1) (sym is) ∙ reads))
        | inr later ↦ inl later
      ]
      | inr done ↦ inr done
    ];
    others = noted.others;
  }

  module _ (writing : is_write pair.1 ≡ true) (within : pair.0 < length now) where
    is_pair : (loc : ℕ) → pair.0 ≡ loc → ◌≡◌ {A = ℕ × Access} pair (loc, Write)
    is_pair loc is = by_access pair.0 pair.1 writing is
      where
        by_access : (at : ℕ) (access : Access) → is_write access ≡ true → at ≡ loc → ◌≡◌ {A = ℕ × Access} (at, access) (loc, Write)
        by_access at Read wrong is = absurd (true≢false (sym wrong))
        by_access at Write right is = ap (λ n. (n, Write)) is

    written_there : (loc : ℕ) → pair.0 ≡ loc → slice_get (slice_set now pair.0 rank) loc ≡ Some rank
    written_there loc is = subst (λ n. slice_get (slice_set now pair.0 rank) n ≡ Some rank) is (get-set_same now pair.0 rank within)

    stays : (loc : ℕ) → slice_get now loc ≡ Some rank → slice_get (slice_set now pair.0 rank) loc ≡ Some rank
    stays loc done = elim (cases_eq pair.0 loc) [
      | inl is ↦ written_there loc is
      | inr differs ↦ get-set_other now pair.0 loc rank (λ is. differs (sym is)) ∙ done
    ]

    pub writing_noted : AreNoted rank set old (slice_set now pair.0 rank) (drop (i + 1) set)
    writing_noted = record {
      count = length-set now pair.0 rank ∙ noted.count;
      written = λ loc has. elim (noted.written loc has) [
        | inl among ↦ elim (cases pair (loc, Write) (drop (i + 1) set) (subst (λ l. Contains l (loc, Write)) left among)) [
          | inl is ↦ inr (written_there loc (ap (λ (p : ℕ × Access). p.0) is))
          | inr later ↦ inl later
        ]
        | inr done ↦ inr (stays loc done)
      ];
      others = λ loc hasnt. get-set_other now pair.0 loc rank (λ is. hasnt (subst (Contains set) (is_pair loc (sym is)) here)) ∙ noted.others loc hasnt;
    }

is_write_access : (found : Option Access) → allows_write found ≡ true → found ≡ Some Write
is_write_access None is = absurd (true≢false (sym is))
is_write_access (Some Read) is = absurd (true≢false (sym is))
is_write_access (Some Write) is = refl

-- once none is left
pub all_noted : LookupsFindPairs → (rank : ℕ) (old now : List ℕ) (set rest : Accesses) → IsAscending set → rest ≡ [] → AreNoted rank set old now rest
    → (loc : ℕ) → slice_get now loc ≡ cond (writes set loc) (Some rank) (slice_get old loc)
all_noted find rank old now set rest ascending empty noted loc = by_case (writes set loc) refl
  where
    by_case : (b : Bool) → writes set loc ≡ b → slice_get now loc ≡ cond b (Some rank) (slice_get old loc)
    by_case true is = elim (noted.written loc ((find set loc Write ascending).0 (is_write_access (access_at set loc) is))) [
      | inl among ↦ absurd (none (loc, Write) (subst (λ l. Contains l (loc, Write)) empty among))
      | inr done ↦ done
    ]
    by_case false is = noted.others loc (λ has. true≢false (sym (ap allows_write ((find set loc Write ascending).1 has)) ∙ is))

-- a pair of a set is at a location of it
pub within_bound : LookupsFindPairs → (set items : Accesses) (i bound : ℕ) (d : ℕ × Access) → IsAscending set → items ≡ set → i < length items → IsInRange set bound → (get_or items i d).0 < bound
within_bound find set items i bound d ascending same inside range =
    let pair = get_or items i d in
    let has : Contains set pair = subst (λ l. Contains l pair) same (Contains-get_or items i d inside) in
    range pair.0 (subst (λ found. IsSome found) (sym ((find set pair.0 pair.1 ascending).1 has)) refl)

-- one set more in front
pub one_more_set : (rank : ℕ) (old now : List ℕ) (set : Accesses) (sets : List Accesses) → HaveFirstWriters old (suc rank) sets
    → ((loc : ℕ) → slice_get now loc ≡ cond (writes set loc) (Some rank) (slice_get old loc)) → HaveFirstWriters now rank (set ∷ sets)
one_more_set rank old now set sets have noted loc first is = by_case (writes set loc) refl
  where
    by_case : (b : Bool) → writes set loc ≡ b → slice_get now loc ≡ Some first
    by_case true writing = noted loc ∙ ap (λ b. cond b (Some rank) (slice_get old loc)) writing ∙ (sym (ap (λ b. cond b (Some rank) (first_writer (suc rank) sets loc)) writing) ∙ is)
    by_case false writing = noted loc ∙ ap (λ b. cond b (Some rank) (slice_get old loc)) writing
        ∙ have loc first (sym (ap (λ b. cond b (Some rank) (first_writer (suc rank) sets loc)) writing) ∙ is)
