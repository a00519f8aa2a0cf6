-- What is left of an execution, where a clear task acts.
use Rattle.std.proofs.Common.{◌≡◌, ◌≢◌, ℕ, suc, ◌+◌, Bool, true, false, List, [], ◌∷◌, length, refl, sym, ap, subst, ◌∙◌, arith}
use Rattle.std.proofs.lemmas.Bool.{true≢false}
use Rattle.plain_laws.specs.Lists.{All-filter}
use Rattle.task_order.specs.declared.key.Key.{Key}
use Rattle.task_order.specs.declared.task.Task.{Task}
use Rattle.task_order.specs.Key.{Bound, is_before}
use Rattle.output_log.specs.Entries.{Entry, IsInKeyOrder, IsNewEntry, entries_before, with_entry, joined_by_key}
use Rattle.app_laws.specs.Applications.{Application}
use Rattle.commuting.specs.Clear.{IsReady, IsClear}
use Rattle.commuting.specs.Commuting.{BothEnd, IsSameButLogsMore}
use Rattle.commuting.specs.Basis.{Basis}
use Rattle.commuting.specs.Standing.{IsRestOf, HasSameRest}
use Rattle.commuting.specs.States.{State, run_from, after_task, entry_of}
use Rattle.commuting.proofs.Clearing.{clear_tasks_commute}
use Rattle.commuting.proofs.Several.{both_same}
use Rattle.commuting.specs.EndLaws.{both_follow}

module _ {V : Type 0} {app : Application V} (basis : Basis app) where
  pub start_has_same_rest : (start : State V) → HasSameRest app.act start [] start
  start_has_same_rest start bound limit =
      let none : 0 + limit ≡ limit = omega arith in
      subst (λ n. BothEnd (IsRestOf bound []) (run_from app.act n bound start) (run_from app.act limit bound start)) (sym none)
      (both_same (IsRestOf bound []) (λ e. record { log-is = refl; cells-are = λ is-end. refl }) (run_from app.act limit bound start))

  -- an entry may be joined to either log
  entry_joins : (key : Key) (text : List ℕ) (entries log first rest : List Entry) → IsInKeyOrder entries → IsNewEntry key entries
      → log ≡ joined_by_key first entries → first ≡ with_entry key text rest → log ≡ joined_by_key rest (with_entry key text entries)
  entry_joins key text entries log first rest ordered new is first-is =
      let both = basis.lower.joins_take_puts key text rest entries in
      is ∙ ap (λ l. joined_by_key l entries) first-is ∙ both.0 new ∙ sym (both.1 ordered)

  module _ (start now : State V) (entries : List Entry) (task : Task) (ordered : IsInKeyOrder entries) (new : IsNewEntry task.key entries)
      (ready : IsReady app now) (clear : IsClear app now task) (same : HasSameRest app.act start entries now) (bound : Bound) (limit : ℕ) where
    -- the run to the bound, with these entries
    abbrev RestFrom : List Entry → Type 0
    RestFrom done =
        BothEnd (IsRestOf bound done) (run_from app.act (length done + limit) bound start)
        (run_from app.act limit bound (after_task app.act task now))

    kept_by_later_bound : is_before task.key bound ≡ true → RestFrom (with_entry task.key (app.act task now.cells).text (entries_before bound entries))
    kept_by_later_bound is =
        let done = entries_before bound entries in
        let more = with_entry task.key (app.act task now.cells).text done in
        let steps : length done + suc limit ≡ length more + limit = omega (arith, basis.lower.joins_add_lengths done ((task.key, (app.act task now.cells).text) ∷ [])) in
        subst (λ n. BothEnd (IsRestOf bound more) (run_from app.act n bound start) (run_from app.act limit bound (after_task app.act task now))) steps
        (both_follow (IsRestOf bound done) (IsSameButLogsMore (entry_of app.act now.cells task ∷ [])) (IsRestOf bound more)
        (λ e other last one two. record {
          log-is =
              entry_joins task.key (app.act task now.cells).text done e.log other.log last.log (basis.lower.parts_in_order bound entries ordered).0
              (All-filter (λ entry. entry.0 ≢ task.key) _ entries new) one.log-is two.log-is;
          cells-are = λ is-end. one.cells-are is-end ∙ two.cells-are;
        })
        (run_from app.act (length done + suc limit) bound start)
        (run_from app.act (suc limit) bound now)
        (run_from app.act limit bound (after_task app.act task now))
        (same bound (suc limit))
        ((clear_tasks_commute basis now task ready clear).to_later_bound bound limit is))

    kept_by_other_bound : is_before task.key bound ≡ false → RestFrom (entries_before bound entries)
    kept_by_other_bound is =
        let done = entries_before bound entries in
        both_follow (IsRestOf bound done) (λ e other. e.log ≡ other.log) (IsRestOf bound done)
        (λ e other last one logs. record {
          log-is = one.log-is ∙ ap (λ log. joined_by_key log done) logs;
          cells-are = λ is-end. absurd (true≢false (sym (ap (is_before task.key) is-end) ∙ is));
        })
        (run_from app.act (length done + limit) bound start)
        (run_from app.act limit bound now)
        (run_from app.act limit bound (after_task app.act task now))
        (same bound limit)
        ((clear_tasks_commute basis now task ready clear).to_other_bound bound limit is)

    pub kept_by : (before : Bool) → is_before task.key bound ≡ before → RestFrom (entries_before bound (with_entry task.key (app.act task now.cells).text entries))
    kept_by true is = subst RestFrom (sym ((basis.lower.entries_in_one_part bound task.key (app.act task now.cells).text entries).0 is).0) (kept_by_later_bound is)
    kept_by false is = subst RestFrom (sym ((basis.lower.entries_in_one_part bound task.key (app.act task now.cells).text entries).1 is).0) (kept_by_other_bound is)
