-- What independent sets leave of each other's cells, and that they can change places.
use Rattle.std.proofs.Common.{◌≡◌, ◌↔◌, ℕ, ◌<◌, Bool, true, false, cond, List, length, IsSome, refl, sym, ap, ◌∙◌, subst, inl, inr, arith}
use Rattle.std.specs.Option.{is_some}
use Rattle.std.proofs.lemmas.Bool.{cases_lt, false≢true, false_from_ne_true}
use Rattle.std.proofs.lemmas.List.{get_or_past}
use Rattle.rw_sets.specs.Accesses.{Accesses, access_at, writes, AreIndependent}
use Rattle.rw_sets.specs.AccessLaws.{has_from_writes}
use Rattle.cell_store.specs.declared.cell.Cell.{Cell}
use Rattle.cell_store.specs.declared.cell.Cell.TheVariants.{Out}
use Rattle.cell_store.specs.Home.{IsHome}
use Rattle.cell_store.specs.Part.{Part}
use Rattle.cell_store.specs.Cells.{cell_at, cell_in, cells_taken, cells_given, AreHome, AreWrittenHome, AreWrittenOut}
use Rattle.cell_store.specs.Laws.{IndependentOrder, IndependentTake, IndependentGive}
use Rattle.cell_store.proofs.Parts.{length-cells_taken, length-cells_given, cell_taken, cell_given, same_cells, same_parts}
use Rattle.cell_store.proofs.Returns.{taken_from_given, given_to_taken}

-- the other set doesn't write what is here
pub unwritten_by_other : (a b : Accesses) → AreIndependent a b → (loc : ℕ) → IsSome (access_at a loc) → writes b loc ≡ false
unwritten_by_other a b h loc has = false_from_ne_true (writes b loc) (λ written. false≢true (sym (ap is_some (h.right_writes loc written)) ∙ has))

not_both_write : (a b : Accesses) → AreIndependent a b → (loc : ℕ) → writes a loc ≡ true → writes b loc ≡ false
not_both_write a b h loc written = unwritten_by_other a b h loc (has_from_writes a loc written)

module _ {V : Type 0} where
  -- cells that are as they were at the locations of a set
  record KeepsCells (cells others : List (Cell V)) (set : Accesses) : Type 0 where
    pub as_many : length others ≡ length cells
    pub each : (loc : ℕ) → IsSome (access_at set loc) → cell_at others loc ≡ cell_at cells loc

  kept_by_take : (cells : List (Cell V)) (set taken : Accesses) → AreIndependent set taken → KeepsCells cells (cells_taken cells taken) set
  kept_by_take cells set taken h = record {
    as_many = length-cells_taken cells taken;
    each = λ loc has. cell_taken cells taken loc ∙ ap (λ b. cond b Out (cell_at cells loc)) (unwritten_by_other set taken h loc has);
  }

  kept_by_give : (cells : List (Cell V)) (set : Accesses) (given : Part V) → AreIndependent set given.set → KeepsCells cells (cells_given cells given) set
  kept_by_give cells set given h = record {
    as_many = length-cells_given cells given;
    each = λ loc has. elim (cases_lt loc (length cells)) [
      | inl within ↦ cell_given cells given loc within ∙ ap (λ b. cond b (cell_in given loc) (cell_at cells loc)) (unwritten_by_other set given.set h loc has)
      | inr past ↦ get_or_past (cells_given cells given) loc Out (omega (arith, length-cells_given cells given)) ∙ sym (get_or_past cells loc Out past)
    ];
  }

  home_kept : (cells others : List (Cell V)) (set : Accesses) → KeepsCells cells others set → AreHome others set ↔ AreHome cells set
  home_kept cells others set h = (λ home loc has. subst IsHome (h.each loc has) (home loc has), λ home loc has. subst IsHome (sym (h.each loc has)) (home loc has))

  written_home_kept : (cells others : List (Cell V)) (set : Accesses) → KeepsCells cells others set → AreWrittenHome others set ↔ AreWrittenHome cells set
  written_home_kept cells others set h = (
    λ home loc written. subst IsHome (h.each loc (has_from_writes set loc written)) (home loc written),
    λ home loc written. subst IsHome (sym (h.each loc (has_from_writes set loc written))) (home loc written),
  )

  written_out_kept : (cells others : List (Cell V)) (set : Accesses) → KeepsCells cells others set → AreWrittenOut others set ↔ AreWrittenOut cells set
  written_out_kept cells others set h = (
    λ out loc written. (omega (arith, h.as_many, (out loc written).0), sym (h.each loc (has_from_writes set loc written)) ∙ (out loc written).1),
    λ out loc written. (omega (arith, h.as_many, (out loc written).0), h.each loc (has_from_writes set loc written) ∙ (out loc written).1),
  )

  pub independent_take : IndependentTake V
  independent_take = record {
    each = λ cells set taken loc h. (kept_by_take cells set taken h).each loc;
    part = λ cells set taken h. same_parts (cells_taken cells taken) cells set (kept_by_take cells set taken h).each;
    home = λ cells set taken h. home_kept _ _ set (kept_by_take cells set taken h);
    written_home = λ cells set taken h. written_home_kept _ _ set (kept_by_take cells set taken h);
    written_out = λ cells set taken h. written_out_kept _ _ set (kept_by_take cells set taken h);
  }

  pub independent_give : IndependentGive V
  independent_give = record {
    each = λ cells set given loc h. (kept_by_give cells set given h).each loc;
    part = λ cells set given h. same_parts (cells_given cells given) cells set (kept_by_give cells set given h).each;
    home = λ cells set given h. home_kept _ _ set (kept_by_give cells set given h);
    written_home = λ cells set given h. written_home_kept _ _ set (kept_by_give cells set given h);
    written_out = λ cells set given h. written_out_kept _ _ set (kept_by_give cells set given h);
  }

  takes_change_places : (cells : List (Cell V)) (a b : Accesses) → cells_taken (cells_taken cells a) b ≡ cells_taken (cells_taken cells b) a
  takes_change_places cells a b = same_cells _ _ as_many (λ loc within. at-location a b loc ∙ either_first (cell_at cells loc) (writes b loc) (writes a loc) ∙ sym (at-location b a loc))
    where
      as_many : length (cells_taken (cells_taken cells a) b) ≡ length (cells_taken (cells_taken cells b) a)
      as_many = length-cells_taken (cells_taken cells a) b ∙ length-cells_taken cells a ∙ sym (length-cells_taken (cells_taken cells b) a ∙ length-cells_taken cells b)

      at-location : (a b : Accesses) (loc : ℕ) → cell_at (cells_taken (cells_taken cells a) b) loc ≡ cond (writes b loc) Out (cond (writes a loc) Out (cell_at cells loc))
      at-location a b loc = cell_taken (cells_taken cells a) b loc ∙ ap (cond (writes b loc) Out) (cell_taken cells a loc)

      either_first : (x : Cell V) (b c : Bool) → cond b Out (cond c Out x) ≡ cond c Out (cond b Out x)
      either_first x true true = refl
      either_first x true false = refl
      either_first x false c = refl

  gives_change_places : (cells : List (Cell V)) (part other : Part V) → AreIndependent part.set other.set → cells_given (cells_given cells part) other ≡ cells_given (cells_given cells other) part
  gives_change_places cells part other h = same_cells _ _ as_many (λ loc within.
      let here : loc < length cells = omega (arith, length-cells_given (cells_given cells part) other, length-cells_given cells part) in
      at-location part other loc here ∙ either_first (cell_in part loc) (cell_in other loc) (cell_at cells loc) (writes part.set loc) (writes other.set loc) (not_both_write part.set other.set h loc) ∙ sym (at-location other part loc here))
    where
      as_many : length (cells_given (cells_given cells part) other) ≡ length (cells_given (cells_given cells other) part)
      as_many = length-cells_given (cells_given cells part) other ∙ length-cells_given cells part ∙ sym (length-cells_given (cells_given cells other) part ∙ length-cells_given cells other)

      at-location : (part other : Part V) (loc : ℕ) → loc < length cells → cell_at (cells_given (cells_given cells part) other) loc ≡ cond (writes other.set loc) (cell_in other loc) (cond (writes part.set loc) (cell_in part loc) (cell_at cells loc))
      at-location part other loc here = cell_given (cells_given cells part) other loc (omega (arith, length-cells_given cells part)) ∙ ap (cond (writes other.set loc) (cell_in other loc)) (cell_given cells part loc here)

      either_first : (x y z : Cell V) (b c : Bool) → (b ≡ true → c ≡ false) → cond c y (cond b x z) ≡ cond b x (cond c y z)
      either_first x y z true true apart = absurd (false≢true (sym (apart refl)))
      either_first x y z true false apart = refl
      either_first x y z false c apart = refl

  take_and_give_change_places : (cells : List (Cell V)) (set : Accesses) (part : Part V) → AreIndependent set part.set → cells_given (cells_taken cells set) part ≡ cells_taken (cells_given cells part) set
  take_and_give_change_places cells set part h = same_cells _ _ as_many (λ loc within.
      let here : loc < length cells = omega (arith, length-cells_given (cells_taken cells set) part, length-cells_taken cells set) in
      given_to_taken cells set part loc here ∙ either_first (cell_in part loc) (cell_at cells loc) (writes set loc) (writes part.set loc) (not_both_write set part.set h loc) ∙ sym (taken_from_given cells part set loc here))
    where
      as_many : length (cells_given (cells_taken cells set) part) ≡ length (cells_taken (cells_given cells part) set)
      as_many = length-cells_given (cells_taken cells set) part ∙ length-cells_taken cells set ∙ sym (length-cells_taken (cells_given cells part) set ∙ length-cells_given cells part)

      either_first : (y z : Cell V) (b c : Bool) → (b ≡ true → c ≡ false) → cond c y (cond b Out z) ≡ cond b Out (cond c y z)
      either_first y z true true apart = absurd (false≢true (sym (apart refl)))
      either_first y z true false apart = refl
      either_first y z false c apart = refl

  pub independent_order : IndependentOrder V
  independent_order = record { takes = takes_change_places; gives = gives_change_places; take_and_give = take_and_give_change_places }
