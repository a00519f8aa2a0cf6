-- What is given back as it was taken, and what is regained of it.
use Rattle.std.proofs.Common.{◌≡◌, ℕ, ◌<◌, Bool, true, false, cond, List, length, IsTrue, refl, sym, ap, ◌∙◌, inl, inr, arith}
use Rattle.std.proofs.lemmas.Bool.{cases_Bool, false≢true}
use Rattle.std.proofs.lemmas.List.{get_or_past}
use Rattle.rw_sets.specs.Accesses.{Accesses, writes}
use Rattle.rw_sets.specs.AccessLaws.{has_from_writes}
use Rattle.cell_store.specs.declared.cell.Cell.{Cell}
use Rattle.cell_store.specs.declared.cell.Cell.TheVariants.{Home, Out}
use Rattle.cell_store.specs.Part.{Part}
use Rattle.cell_store.specs.Cells.{cell_at, held_at, cell_in, part_of, cells_taken, cells_given}
use Rattle.cell_store.specs.Laws.{TakenByLocation, GivenByLocation, PartsByLocation, WritesByLocation, ShellsByLocation, LookupsDetermineParts, TakesBackWhatWasGiven, GivingForgetsTaking, TakingForgetsGiving, GivesBackWhatWasTaken, RegainsWhatWasGiven}
use Rattle.cell_store.proofs.Locations.{home_in_range, writes_within, same_held, held-put_same, held-put_other, with_written_same, with_written_twice, with_written_itself}
use Rattle.cell_store.proofs.Parts.{taken_leaves_out, given_leaves_home, length-cells_taken, length-cells_given, cell_in-with_written, is_part_of, is_shell, is_bundle_again, cell_taken, cell_given, same_cells, cell_in_part_of, is_bundle_part_of, is_bundle_with_value}

module _ {V : Type 0} where
  pub taken_by_location : TakenByLocation V
  taken_by_location = record { as_many = length-cells_taken; each = cell_taken; leaves_out = taken_leaves_out }

  pub given_by_location : GivenByLocation V
  given_by_location = record {
    as_many = length-cells_given;
    each = cell_given;
    beyond = λ cells part loc past. get_or_past (cells_given cells part) loc Out (omega (arith, length-cells_given cells part));
    leaves_home = given_leaves_home;
  }

  pub parts_by_location : PartsByLocation V
  parts_by_location = record {
    each = cell_in_part_of;
    is_part = is_part_of;
    is_bundle = is_bundle_part_of;
    in_range = λ cells set home loc has. home_in_range cells loc (home loc has);
  }

  pub writes_by_location : WritesByLocation V
  writes_by_location = record {
    here = λ part loc value h has. held-put_same part.set part.cells loc (Home value) h.is_part.one_each has;
    elsewhere = λ part loc other value apart. held-put_other part.set part.cells loc other (Home value) apart;
    is_bundle = is_bundle_with_value;
  }

  pub shells_by_location : ShellsByLocation V
  shells_by_location = record {
    each = λ part loc h. cell_in-with_written (λ _. Out) part loc h;
    each_again = λ cells part loc h. cell_in-with_written (cell_at cells) part loc h;
    is_shell = is_shell;
    is_bundle = is_bundle_again;
  }

  pub lookups_determine_parts : LookupsDetermineParts V
  lookups_determine_parts part other h k same-set same = (by_set part other same-set (same_held part.set part.cells other.cells h.ascending h.one_each (k.one_each ∙ sym (ap length same-set)) (λ loc has. same loc has ∙ ap (λ set. held_at set other.cells loc) (sym same-set))))
    where
      by_set : (p q : Part V) → p.set ≡ q.set → p.cells ≡ q.cells → p ≡ q
      by_set p q e f = ap (λ ps. record { set = ps; cells = p.cells }) e ∙ ap (λ held. record { set = q.set; cells = held }) f

  -- one location after the other
  pub taken_from_given : (cells : List (Cell V)) (part : Part V) (ps : Accesses) (loc : ℕ) → loc < length cells → cell_at (cells_taken (cells_given cells part) ps) loc ≡ cond (writes ps loc) Out (cond (writes part.set loc) (cell_in part loc) (cell_at cells loc))
  taken_from_given cells part ps loc within = cell_taken (cells_given cells part) ps loc ∙ ap (cond (writes ps loc) Out) (cell_given cells part loc within)

  pub given_to_taken : (cells : List (Cell V)) (ps : Accesses) (part : Part V) (loc : ℕ) → loc < length cells → cell_at (cells_given (cells_taken cells ps) part) loc ≡ cond (writes part.set loc) (cell_in part loc) (cond (writes ps loc) Out (cell_at cells loc))
  given_to_taken cells ps part loc within = cell_given (cells_taken cells ps) part loc (omega (arith, length-cells_taken cells ps)) ∙ ap (cond (writes part.set loc) (cell_in part loc)) (cell_taken cells ps loc)

  pub takes_back_what_was_given : TakesBackWhatWasGiven V
  takes_back_what_was_given cells part out = same_cells _ _ (length-cells_taken (cells_given cells part) part.set ∙ length-cells_given cells part) (λ loc within.
      let in-cells : loc < length cells = omega (arith, length-cells_taken (cells_given cells part) part.set, length-cells_given cells part) in
      taken_from_given cells part part.set loc in-cells ∙ by_test (cell_in part loc) (cell_at cells loc) (writes part.set loc) (λ written. (out loc written).1))
    where
      by_test : (x y : Cell V) (b : Bool) → (b ≡ true → y ≡ Out) → cond b Out (cond b x y) ≡ y
      by_test x y true h = sym (h refl)
      by_test x y false h = refl

  pub giving_forgets_taking : GivingForgetsTaking V
  giving_forgets_taking cells set part within = same_cells _ _ (length-cells_given (cells_taken cells set) part ∙ length-cells_taken cells set ∙ sym (length-cells_given cells part)) (λ loc here.
      let in-cells : loc < length cells = omega (arith, length-cells_given (cells_taken cells set) part, length-cells_taken cells set) in
      given_to_taken cells set part loc in-cells ∙ by_test (cell_in part loc) (cell_at cells loc) (writes part.set loc) (writes set loc) (writes_within set part.set within loc) ∙ sym (cell_given cells part loc in-cells))
    where
      by_test : (x y : Cell V) (b c : Bool) → (c ≡ true → b ≡ true) → cond b x (cond c Out y) ≡ cond b x y
      by_test x y true c h = refl
      by_test x y false true h = absurd (false≢true (h refl))
      by_test x y false false h = refl

  pub taking_forgets_giving : TakingForgetsGiving V
  taking_forgets_giving cells part set within = same_cells _ _ (length-cells_taken (cells_given cells part) set ∙ length-cells_given cells part ∙ sym (length-cells_taken cells set)) (λ loc here.
      let in-cells : loc < length cells = omega (arith, length-cells_taken (cells_given cells part) set, length-cells_given cells part) in
      taken_from_given cells part set loc in-cells ∙ by_test (cell_in part loc) (cell_at cells loc) (writes set loc) (writes part.set loc) (writes_within part.set set within loc) ∙ sym (cell_taken cells set loc))
    where
      by_test : (x y : Cell V) (b c : Bool) → (c ≡ true → b ≡ true) → cond b Out (cond c x y) ≡ cond b Out y
      by_test x y true c h = refl
      by_test x y false true h = absurd (false≢true (h refl))
      by_test x y false false h = refl

  pub gives_back_what_was_taken : GivesBackWhatWasTaken V
  gives_back_what_was_taken cells ps home = same_cells _ _ as_many (λ loc within.
      let in-taken : loc < length (cells_taken cells ps) = omega (arith, length-cells_given (cells_taken cells ps) (part_of cells ps)) in
      cell_given (cells_taken cells ps) (part_of cells ps) loc in-taken ∙ ap (cond (writes ps loc) (cell_in (part_of cells ps) loc)) (cell_taken cells ps loc) ∙ either_way loc)
    where
      as_many : length (cells_given (cells_taken cells ps) (part_of cells ps)) ≡ length cells
      as_many = length-cells_given (cells_taken cells ps) (part_of cells ps) ∙ length-cells_taken cells ps

      either_way : (loc : ℕ) → cond (writes ps loc) (cell_in (part_of cells ps) loc) (cond (writes ps loc) Out (cell_at cells loc)) ≡ cell_at cells loc
      either_way loc = elim (cases_Bool (writes ps loc)) [
        | inl written ↦ rw written (cell_in_part_of cells ps loc (has_from_writes ps loc written))
        | inr unwritten ↦ rw unwritten refl
      ]

  pub regains_what_was_given : RegainsWhatWasGiven V
  regains_what_was_given cells bundle h out = ap (λ new. record bundle { cells = new }) (
      with_written_twice (cell_at (cells_given cells bundle)) (λ _. Out) bundle.set bundle.cells
      ∙ with_written_same (cell_at (cells_given cells bundle)) (cell_in bundle) bundle.set bundle.cells h.is_part.ascending here
      ∙ with_written_itself bundle.set bundle.cells h.is_part.ascending h.is_part.one_each)
    where
      here : (loc : ℕ) → IsTrue (writes bundle.set loc) → cell_at (cells_given cells bundle) loc ≡ cell_in bundle loc
      here loc written = cell_given cells bundle loc (out loc written).0 ∙ ap (λ b. cond b (cell_in bundle loc) (cell_at cells loc)) written
