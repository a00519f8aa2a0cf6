-- The whole cells are known by the cells that are home and by the bundles of the jobs.
use Rattle.std.proofs.Common.{◌≡◌, ℕ, ◌<◌, ◌||◌, Bool, true, false, List, [], ◌∷◌, length, refl, sym, ap, subst, ◌∙◌, arith}
use lib.ListN.{length-map}
use Rattle.std.specs.Prelude.{IsTrue}
use Rattle.std.specs.List.{AllByRecursion}
use Rattle.std.proofs.lemmas.Bool.{true≢false}
use Rattle.rw_sets.specs.Accesses.{writes}
use Rattle.rw_sets.specs.AccessLaws.{has_from_writes}
use Rattle.cell_store.specs.declared.cell.Cell.{Cell}
use Rattle.cell_store.specs.declared.cell.Cell.TheVariants.{Home, Out}
use Rattle.cell_store.specs.Cells.{cell_at, cell_in, part_of}
use Rattle.cell_store.specs.Home.{IsHome}
use Rattle.cell_store.specs.Values.{homes, values_of}
use Rattle.app_laws.specs.Applications.{Application}
use Rattle.run_laws.specs.Basis.{Basis}
use Rattle.run_laws.specs.Jobs.{Job}
use Rattle.run_laws.specs.Laws.{WholeIsOne}
use Rattle.run_laws.specs.Sound.{IsWhole, is_written}

module _ {V : Type 0} {app : Application V} (basis : Basis app) where
  abbrev AreBundlesOf : List V → List (Job V) → Type 0
  AreBundlesOf values jobs = AllByRecursion (λ job. job.bundle ≡ part_of (homes values) job.bundle.set) jobs

  in_bundle : (values : List V) (job : Job V) (loc : ℕ) → job.bundle ≡ part_of (homes values) job.bundle.set → IsTrue (writes job.bundle.set loc)
      → cell_in job.bundle loc ≡ cell_at (homes values) loc
  in_bundle values job loc is written =
      ap (λ part. cell_in part loc) is ∙ basis.cells.parts.each (homes values) job.bundle.set loc (has_from_writes job.bundle.set loc written)

  -- the cells that some job has away are the same
  same_away : (values others : List V) (loc : ℕ) (jobs : List (Job V)) → AreBundlesOf values jobs → AreBundlesOf others jobs → IsTrue (is_written app jobs loc)
      → cell_at (homes values) loc ≡ cell_at (homes others) loc
  same_away values others loc [] all same never = absurd (true≢false (sym never))
  same_away values others loc (job ∷ jobs) all same written =
      let by_case : (test : Bool) → writes job.bundle.set loc ≡ test → (test || is_written app jobs loc) ≡ true → cell_at (homes values) loc ≡ cell_at (homes others) loc = elim [
        | true ↦ λ here _. sym (in_bundle values job loc all.0 here) ∙ in_bundle others job loc same.0 here
        | false ↦ λ _ rest. same_away values others loc jobs all.1 same.1 rest
      ] in
      by_case (writes job.bundle.set loc) refl written

  same_cell : (cells : List (Cell V)) (jobs : List (Job V)) (values others : List V) → IsWhole app cells jobs values → IsWhole app cells jobs others
      → (loc : ℕ) → loc < length cells → cell_at (homes values) loc ≡ cell_at (homes others) loc
  same_cell cells jobs values others whole other loc inside = by_cell (cell_at cells loc) refl
    where
      by_cell : (cell : Cell V) → cell_at cells loc ≡ cell → cell_at (homes values) loc ≡ cell_at (homes others) loc
      by_cell (Home value) is =
          let at_home : IsHome (cell_at cells loc) = subst IsHome (sym is) tt in
          sym (whole.home.each loc at_home) ∙ other.home.each loc at_home
      by_cell Out is = same_away values others loc jobs whole.bundles other.bundles ((whole.away loc inside).0 is)

  pub whole_is_one : WholeIsOne app
  whole_is_one progress jobs values others sound other =
      let many : length (homes values) ≡ length values = length-map values Home in
      let as_many : length (homes others) ≡ length others = length-map others Home in
      let first = sound.whole.home.as_many in
      let second = other.whole.home.as_many in
      let same : homes values ≡ homes others = basis.cells.determine (homes values) (homes others) (omega (arith, many, as_many, first, second))
      (λ loc inside. same_cell progress.cells jobs values others sound.whole other.whole loc (omega (arith, inside, many, first))) in
      sym (basis.cells.values.values_of_homes values) ∙ ap values_of same ∙ basis.cells.values.values_of_homes others
