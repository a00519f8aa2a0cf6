-- What the moves of a store leave, from the exchange that each of them makes.
use Rattle.std.proofs.Common.{◌≡◌, List, map, sym, ap, ◌∙◌, subst}
use Rattle.rw_sets.specs.Accesses.{Accesses, IsAscending}
use Rattle.cell_store.specs.declared.cell.Cell.{Cell}
use Rattle.cell_store.specs.Part.{Part}
use Rattle.cell_store.specs.Cells.{cell_at, part_of, cells_taken, cells_given, read_copy, with_written, shell_of, IsBundle, IsShell, AreHome, AreWrittenHome, AreWrittenOut}
use Rattle.cell_store.proofs.Parts.{is_bundle_part_of, given_empty, read_copy_empty, with_written-read_copies, taken_leaves_out, written_taken_out, is_shell, given_leaves_shell, given_leaves_home, is_bundle_again}

module _ {V : Type 0} where
  -- the cells after an exchange with those that are held, and what is held then
  pub record IsExchange (cells : List (Cell V)) (set : Accesses) (copies cells' held' : List (Cell V)) : Type 0 where
    pub home : cells' ≡ cells_given cells (record { set = set; cells = copies })
    pub held : held' ≡ with_written (cell_at cells) set copies

  -- copies of what a set reads were held: its written cells were taken
  pub record IsTake (cells : List (Cell V)) (set : Accesses) (cells' held' : List (Cell V)) : Type 0 where
    pub taken : cells' ≡ cells_taken cells set
    pub part : record { set = set; cells = held' } ≡ part_of cells set
    pub whole : IsBundle (record { set = set; cells = held' })
    pub out : AreWrittenOut cells' set

  pub is_take : (cells : List (Cell V)) (set : Accesses) (held cells' held' : List (Cell V)) → IsAscending set → AreHome cells set → held ≡ map (read_copy cells) set → IsExchange cells set held cells' held' → IsTake cells set cells' held'
  is_take cells set held cells' held' up home copies h = record {
    taken = taken;
    part = part;
    whole = subst IsBundle (sym part) (is_bundle_part_of cells set up home);
    out = subst (λ now. AreWrittenOut now set) (sym taken) (taken_leaves_out cells set home);
  }
    where
      taken : cells' ≡ cells_taken cells set
      taken = h.home ∙ ap (λ held. cells_given cells (record { set = set; cells = held })) copies ∙ given_empty cells (record { set = set; cells = map (read_copy cells) set }) (read_copy_empty cells set)

      part : record { set = set; cells = held' } ≡ part_of cells set
      part = ap (λ held. record { set = set; cells = held }) (h.held ∙ ap (with_written (cell_at cells) set) copies ∙ with_written-read_copies cells set)

  -- a bundle was held: its written cells went home
  pub record IsGive (cells : List (Cell V)) (bundle : Part V) (cells' held' : List (Cell V)) : Type 0 where
    pub home : AreWrittenHome cells' bundle.set
    pub shell : record { set = bundle.set; cells = held' } ≡ shell_of bundle
    pub is_shell : IsShell (record { set = bundle.set; cells = held' })

  pub is_give : (cells : List (Cell V)) (bundle : Part V) (cells' held' : List (Cell V)) → IsBundle bundle → AreWrittenOut cells bundle.set → IsExchange cells bundle.set bundle.cells cells' held' → IsGive cells bundle cells' held'
  is_give cells bundle cells' held' whole out h = record {
    home = subst (λ now. AreWrittenHome now bundle.set) (sym h.home) (given_leaves_home cells bundle whole out);
    shell = shell;
    is_shell = subst IsShell (sym shell) (is_shell bundle whole);
  }
    where
      shell : record { set = bundle.set; cells = held' } ≡ shell_of bundle
      shell = ap (λ held. record { set = bundle.set; cells = held }) (h.held ∙ given_leaves_shell cells bundle whole out)

  -- a shell was held: its written cells were taken again
  pub record IsRegain (cells : List (Cell V)) (shell : Part V) (cells' held' : List (Cell V)) : Type 0 where
    pub taken : cells' ≡ cells_taken cells shell.set
    pub out : AreWrittenOut cells' shell.set
    pub whole : IsBundle (record { set = shell.set; cells = held' })

  pub is_regain : (cells : List (Cell V)) (shell : Part V) (cells' held' : List (Cell V)) → IsShell shell → AreWrittenHome cells shell.set → IsExchange cells shell.set shell.cells cells' held' → IsRegain cells shell cells' held'
  is_regain cells shell cells' held' kept home h = record {
    taken = taken;
    out = subst (λ now. AreWrittenOut now shell.set) (sym taken) (written_taken_out cells shell.set home);
    whole = subst (λ held. IsBundle (record { set = shell.set; cells = held })) (sym h.held) (is_bundle_again cells shell kept home);
  }
    where
      taken : cells' ≡ cells_taken cells shell.set
      taken = h.home ∙ given_empty cells shell kept.emptied
