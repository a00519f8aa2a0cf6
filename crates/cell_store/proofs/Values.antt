-- Cells that are all home, and cells that agree with values.
use Rattle.std.proofs.Common.{◌≡◌, ◌≢◌, ℕ, zero, suc, ◌<◌, Bool, cond, List, [], ◌∷◌, length, map, set, IsSome, IsTrue, refl, sym, ap, ◌∙◌, subst, inl, inr, arith}
use Rattle.std.specs.List.{slice_get}
use Rattle.std.specs.Option.{unwrap_or, option_map}
use Rattle.std.proofs.lemmas.Bool.{cases_lt, cases_eq, cases_Bool, false≢true, false_from_ne_true}
use Rattle.std.proofs.lemmas.Option.{slice_get-map, unwrap_or-slice_get}
use Rattle.std.proofs.lemmas.List.{get_or_past, get_or-map, get_or-set_same, get_or-set_other, length-map, length-set, map-set}
use Rattle.rw_sets.specs.Accesses.{Accesses, IsAscending, access_at, writes, IsInRange}
use Rattle.rw_sets.specs.AccessLaws.{has_from_writes}
use Rattle.cell_store.specs.declared.cell.Cell.{Cell}
use Rattle.cell_store.specs.declared.cell.Cell.TheVariants.{Home, Out}
use Rattle.cell_store.specs.Home.{IsHome}
use Rattle.cell_store.specs.Part.{Part}
use Rattle.cell_store.specs.Cells.{cell_at, cell_in, part_of, cells_taken, cells_given, with_value, AreHome, IsPart}
use Rattle.cell_store.specs.Values.{homes, values_of, AreAllHome, AgreesWith, ChangesOnlyWritten}
use Rattle.cell_store.specs.Laws.{HomesByLocation, HomesAreValues, AgreementLasts, GivesNewValues, ValueChanges}
use Rattle.cell_store.proofs.Locations.{writes_within, held-put_same, held-put_other, length-put_at}
use Rattle.cell_store.proofs.Parts.{length-cells_taken, length-cells_given, cell_taken, cell_given, same_cells, same_parts, cell_in_part_of, is_part_of, is_bundle_part_of}
use Rattle.cell_store.proofs.Returns.{given_to_taken, lookups_determine_parts}
use Rattle.cell_store.proofs.Independent.{unwritten_by_other}

module _ {V : Type 0} where
  home_by_value : (values : List V) (loc : ℕ) → cell_at (homes values) loc ≡ unwrap_or (option_map Home (slice_get values loc)) Out
  home_by_value values loc = sym (unwrap_or-slice_get (map Home values) loc Out) ∙ ap (λ cell. unwrap_or cell Out) (slice_get-map Home values loc)

  same_homes : (values others : List V) (loc : ℕ) → slice_get values loc ≡ slice_get others loc → cell_at (homes values) loc ≡ cell_at (homes others) loc
  same_homes values others loc same = home_by_value values loc ∙ ap (λ value. unwrap_or (option_map Home value) Out) same ∙ sym (home_by_value others loc)

  length-homes : (values : List V) → length (homes values) ≡ length values
  length-homes values = length-map values Home

  home_in_homes : (values : List V) (loc : ℕ) → loc < length values → IsHome (cell_at (homes values) loc)
  home_in_homes [] loc lt = absurd (omega arith)
  home_in_homes (value ∷ values) zero lt = tt
  home_in_homes (value ∷ values) (suc loc) lt = home_in_homes values loc (omega arith)

  are_home : (values : List V) (set : Accesses) → IsInRange set (length values) → AreHome (homes values) set
  are_home values set within loc has = home_in_homes values loc (within loc has)

  -- a value that is written is that of the new values
  home_written : (values : List V) (loc : ℕ) (value : V) → loc < length values → cell_at (homes (set values loc value)) loc ≡ Home value
  home_written values loc value lt = ap (λ cells. cell_at cells loc) (map-set Home values loc value) ∙ get_or-set_same (homes values) loc (Home value) Out (omega (arith, length-homes values))

  home_beside : (values : List V) (loc other : ℕ) (value : V) → other ≢ loc → cell_at (homes (set values loc value)) other ≡ cell_at (homes values) other
  home_beside values loc other value apart = ap (λ cells. cell_at cells other) (map-set Home values loc value) ∙ get_or-set_other (homes values) loc other (Home value) Out apart

  part_written : (values : List V) (ps : Accesses) (loc : ℕ) (value : V) → IsAscending ps → loc < length values → with_value (part_of (homes values) ps) loc value ≡ part_of (homes (set values loc value)) ps
  part_written values ps loc value up lt = lookups_determine_parts _ _ is_part (is_part_of (homes (set values loc value)) ps up) refl (λ other has. elim (cases_eq loc other) [
    | inl e ↦ subst (λ l. IsSome (access_at ps l) → cell_in (with_value before loc value) l ≡ cell_in after l) e here has
    | inr apart ↦ held-put_other ps before.cells loc other (Home value) apart ∙ cell_in_part_of (homes values) ps other has ∙ sym (cell_in_part_of (homes (set values loc value)) ps other has ∙ home_beside values loc other value (λ e. apart (sym e)))
  ])
    where
      before : Part V
      before = part_of (homes values) ps

      after : Part V
      after = part_of (homes (set values loc value)) ps

      is_part : IsPart (with_value before loc value)
      is_part =
          let whole = is_part_of (homes values) ps up in
          record { ascending = up; one_each = length-put_at ps before.cells loc (Home value) ∙ whole.one_each }

      here : IsSome (access_at ps loc) → cell_in (with_value before loc value) loc ≡ cell_in after loc
      here has = held-put_same ps before.cells loc (Home value) (is_part_of (homes values) ps up).one_each has ∙ sym (cell_in_part_of (homes (set values loc value)) ps loc has ∙ home_written values loc value lt)

  pub homes_by_location : HomesByLocation V
  homes_by_location = record {
    each = home_by_value;
    in_range = λ values loc other lt. get_or-map Home values loc other Out lt;
    are_home = are_home;
    is_bundle = λ values set up within. is_bundle_part_of (homes values) set up (are_home values set within);
    written = part_written;
  }

  values_of_homes : (values : List V) → values_of (homes values) ≡ values
  values_of_homes [] = refl
  values_of_homes (value ∷ values) = ap (λ rest. value ∷ rest) (values_of_homes values)

  homes_of_values : (cells : List (Cell V)) → AreAllHome cells → homes (values_of cells) ≡ cells
  homes_of_values [] home = refl
  homes_of_values (Home value ∷ cells) home = ap (λ rest. Home value ∷ rest) (homes_of_values cells (λ loc lt. home (suc loc) (omega arith)))
  homes_of_values (Out ∷ cells) home = absurd (home 0 (omega arith))

  pub homes_are_values : HomesAreValues V
  homes_are_values = record {
    all_home = λ values loc lt. home_in_homes values loc (omega (arith, length-homes values));
    values_of_homes = values_of_homes;
    homes_of_values = homes_of_values;
  }

  agrees_taken : (cells : List (Cell V)) (old new : List V) (set : Accesses) → AgreesWith cells old → ChangesOnlyWritten set old new → AgreesWith (cells_taken cells set) new
  agrees_taken cells old new set agrees changes = record {
    as_many = length-cells_taken cells set ∙ agrees.as_many ∙ sym changes.as_many;
    each = λ loc home. elim (cases_Bool (writes set loc)) [
      | inl written ↦ absurd (subst IsHome (cell_taken cells set loc ∙ ap (λ b. cond b Out (cell_at cells loc)) written) home)
      | inr unwritten ↦
          let same : cell_at (cells_taken cells set) loc ≡ cell_at cells loc = cell_taken cells set loc ∙ ap (λ b. cond b Out (cell_at cells loc)) unwritten in
          same ∙ agrees.each loc (subst IsHome same home) ∙ sym (same_homes new old loc (changes.elsewhere loc unwritten))
    ];
  }

  agrees_given : (cells : List (Cell V)) (values : List V) (set : Accesses) → AgreesWith cells values → AgreesWith (cells_given cells (part_of (homes values) set)) values
  agrees_given cells values set agrees = record {
    as_many = length-cells_given cells part ∙ agrees.as_many;
    each = λ loc home. elim (cases_lt loc (length cells)) [
      | inl within ↦ elim (cases_Bool (writes set loc)) [
        | inl written ↦ given loc within written ∙ cell_in_part_of (homes values) set loc (has_from_writes set loc written)
        | inr unwritten ↦ given loc within unwritten ∙ agrees.each loc (subst IsHome (given loc within unwritten) home)
      ]
      | inr past ↦ absurd (subst IsHome (get_or_past (cells_given cells part) loc Out (omega (arith, length-cells_given cells part))) home)
    ];
  }
    where
      part : Part V
      part = part_of (homes values) set

      given : (loc : ℕ) → loc < length cells → {b : Bool} → writes set loc ≡ b → cell_at (cells_given cells part) loc ≡ cond b (cell_in part loc) (cell_at cells loc)
      given loc within e = cell_given cells part loc within ∙ ap (λ b. cond b (cell_in part loc) (cell_at cells loc)) e

  pub agreement_lasts : AgreementLasts V
  agreement_lasts = record {
    of_homes = λ values. record { as_many = length-homes values; each = λ loc home. refl };
    all_home = λ cells values agrees home. same_cells cells (homes values) (agrees.as_many ∙ sym (length-homes values)) (λ loc lt. agrees.each loc (home loc lt));
    same_part = λ cells values set agrees home. same_parts cells (homes values) set (λ loc has. agrees.each loc (home loc has));
    taken = agrees_taken;
    given = agrees_given;
  }

  pub gives_new_values : GivesNewValues V
  gives_new_values old new set changes = same_cells _ _ (length-cells_given taken part ∙ length-cells_taken (homes old) set ∙ length-homes old ∙ sym (length-homes new ∙ changes.as_many)) (λ loc within.
      let here : loc < length (homes old) = omega (arith, length-cells_given taken part, length-cells_taken (homes old) set) in
      given_to_taken (homes old) set part loc here ∙ elim (cases_Bool (writes set loc)) [
        | inl written ↦ ap (λ b. cond b (cell_in part loc) (cond b Out (cell_at (homes old) loc))) written ∙ cell_in_part_of (homes new) set loc (has_from_writes set loc written)
        | inr unwritten ↦ ap (λ b. cond b (cell_in part loc) (cond b Out (cell_at (homes old) loc))) unwritten ∙ sym (same_homes new old loc (changes.elsewhere loc unwritten))
      ])
    where
      taken : List (Cell V)
      taken = cells_taken (homes old) set

      part : Part V
      part = part_of (homes new) set

  get-set_other : (values : List V) (loc other : ℕ) (value : V) → (loc ≡ other → ⊥) → slice_get (set values loc value) other ≡ slice_get values other
  get-set_other [] loc other value apart = refl
  get-set_other (x ∷ xs) zero zero value apart = absurd (apart refl)
  get-set_other (x ∷ xs) zero (suc other) value apart = refl
  get-set_other (x ∷ xs) (suc loc) zero value apart = refl
  get-set_other (x ∷ xs) (suc loc) (suc other) value apart = get-set_other xs loc other value (λ e. apart (ap suc e))

  pub value_changes : ValueChanges V
  value_changes = record {
    none = λ values set. record { as_many = refl; elsewhere = λ loc unwritten. refl };
    one = λ values ps loc value written. record {
      as_many = length-set values loc value;
      elsewhere = λ other unwritten. get-set_other values loc other value (λ e. false≢true (sym unwritten ∙ subst (λ l. IsTrue (writes ps l)) e written));
    };
    more = λ values middle last set first then. record {
      as_many = then.as_many ∙ first.as_many;
      elsewhere = λ loc unwritten. then.elsewhere loc unwritten ∙ first.elsewhere loc unwritten;
    };
    wider = λ old new set other within changes. record {
      as_many = changes.as_many;
      elsewhere = λ loc unwritten. changes.elsewhere loc (false_from_ne_true (writes set loc) (λ written. false≢true (sym unwritten ∙ writes_within set other within loc written)));
    };
    elsewhere = λ old new set other apart changes. same_parts (homes new) (homes old) other (λ loc has. same_homes new old loc (changes.elsewhere loc (unwritten_by_other other set apart loc has)));
  }
