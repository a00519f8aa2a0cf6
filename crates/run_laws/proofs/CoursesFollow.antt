-- A start that has itself come from an earlier one: what has come from it has come from that one.
use Rattle.std.proofs.Common.{◌≡◌, ◌≢◌, ◌⊎◌, inr, ⊎_elim, ℕ, ◌+◌, ◌-◌, Bool, true, false, List, [], ◌++◌, append_assoc, length, None, refl, sym, ap, subst, ◌∙◌, arith}
use Rattle.std.specs.List.{AllByRecursion}
use Rattle.std.specs.declared.cmp.Ordering.TheVariants.{Less}
use Rattle.std.proofs.lemmas.Bool.{true≢false}
use Rattle.plain_laws.specs.Lists.{All-shuffled, All-filter, All-weaker, All-joined, All-append}
use Rattle.plain_laws.specs.Members.{all_at}
use Rattle.task_order.specs.declared.key.Key.{Key}
use Rattle.task_order.specs.declared.task.Task.{Task}
use Rattle.task_order.specs.Key.{Bound, end, key_cmp}
use Rattle.output_log.specs.Entries.{Entry, IsNewEntry, ShareNoKey, entries_before, is_entry_before, joined_by_key}
use Rattle.output_log.specs.EntryLaws.{share_turned, AreBefore}
use Rattle.kdg_graph.specs.Nodes.{tasks_of}
use Rattle.app_laws.specs.Applications.{Application}
use Rattle.app_laws.specs.Execution.{Execution}
use Rattle.app_laws.specs.Order.{is_prefix}
use Rattle.app_laws.specs.ApartLaws.{is_prefix-same}
use Rattle.commuting.specs.Commuting.{BothEnd}
use Rattle.commuting.specs.Standing.{HasSameRest, IsRestOf, StandsFor}
use Rattle.commuting.specs.States.{run_from}
use Rattle.commuting.specs.EndLaws.{given_up, both_follow, both_before}
use Rattle.run_laws.specs.Course.{ComesOf, HasCome, HasTrueMark}
use Rattle.run_laws.specs.CourseBasis.{CourseBasis}
use Rattle.run_laws.specs.CourseLaws.{CoursesFollow}
use Rattle.run_laws.specs.Jobs.{Job}
use Rattle.run_laws.specs.Progress.{Progress, whole_state}
use Rattle.run_laws.proofs.Behind.{differs_without_prefix, earlier_than_later, joined_behind}
use Rattle.run_laws.proofs.FinishTasks.{prefixes_follow}

-- ---- keys

parts_share : (bound : Bound) (entries others : List Entry) → ShareNoKey entries others → ShareNoKey (entries_before bound entries) (entries_before bound others)
parts_share bound entries others new =
    All-filter (λ (other : Entry). IsNewEntry other.0 (entries_before bound entries)) (is_entry_before bound) others
    (All-weaker (λ (other : Entry). IsNewEntry other.0 entries) (λ (other : Entry). IsNewEntry other.0 (entries_before bound entries))
    (λ other. All-filter (λ (entry : Entry). entry.0 ≢ other.0) (is_entry_before bound) entries) others new)

-- what a path is no prefix of, no longer one is
no_longer : (path longer other : List ℕ) → is_prefix path longer ≡ true → is_prefix path other ≡ false → is_prefix longer other ≡ false
no_longer path longer other goes_on none = by_case (is_prefix longer other) refl
  where
    by_case : (test : Bool) → is_prefix longer other ≡ test → test ≡ false
    by_case true is = absurd (true≢false (sym (prefixes_follow path longer other goes_on is) ∙ none))
    by_case false is = refl

-- the path of what came of a task goes on from that task's
prefix_of_descendant : (first key : Key) → (first ≡ key) ⊎ ((key_cmp first key ≡ Less) × (is_prefix first.path key.path ≡ true)) → is_prefix first.path key.path ≡ true
prefix_of_descendant first key comes = ⊎_elim
    (λ (same : first ≡ key). subst (λ (other : Key). is_prefix first.path other.path ≡ true) same (is_prefix-same first.path))
    (λ (longer : (key_cmp first key ≡ Less) × (is_prefix first.path key.path ≡ true)). longer.1) comes

module _ {V : Type 0} {app : Application V} (basis : CourseBasis app) where
  -- what came of tasks that came of others came of these
  comes_through : (tasks firsts : List Task) → AllByRecursion (λ (task : Task). ComesOf firsts task.key) tasks → (key : Key) → ComesOf tasks key → ComesOf firsts key
  comes_through tasks firsts all key (task, has, comes) =
      let own : ComesOf firsts task.key = all_at (λ (one : Task). ComesOf firsts one.key) tasks task all has in
      let first = own.0.key in
      let Longer = λ (one other : Key). (key_cmp one other ≡ Less) × (is_prefix one.path other.path ≡ true) in (
        own.0,
        own.1,
        ⊎_elim
            (λ (same : first ≡ task.key). subst (λ (one : Key). (one ≡ key) ⊎ Longer one key) (sym same) comes)
            (λ (longer : Longer first task.key). inr (⊎_elim
            (λ (same : task.key ≡ key). subst (Longer first) same longer)
            (λ (more : Longer task.key key). (basis.begun.lower.transitive first task.key key longer.0 more.0, prefixes_follow first.path task.key.path key.path longer.1 more.1))
            comes)) own.2,
      )

  all_joined : (P : Entry → Type 0) (entries others : List Entry) → AllByRecursion P entries → AllByRecursion P others → AllByRecursion P (joined_by_key entries others)
  all_joined P entries others first last = All-shuffled P (entries ++ others) (joined_by_key entries others) (basis.joins_have_all entries others) (All-append P entries others first last)

  module _ {first start now : Progress V} {home cells : List V} {before entries more others : List Entry} {jobs : List (Job V)} {values : List V}
      (one : HasCome app first home before entries start [] cells) (two : HasCome app start cells more others now jobs values) where
    abbrev joined : List Entry
    joined = joined_by_key entries others

    -- what came of the start's tasks was not logged before, and is later than what was drained before
    not_logged : (key : Key) → ComesOf (tasks_of start.nodes) key → AllByRecursion (λ (entry : Entry). is_prefix key.path entry.0.path ≡ false) entries
    not_logged key (task, has, comes) =
        let Unlogged = λ (other : Key) (entry : Entry). is_prefix other.path entry.0.path ≡ false in
        All-weaker (Unlogged task.key) (Unlogged key) (λ entry. no_longer task.key.path key.path entry.0.path (prefix_of_descendant task.key key comes)) entries
        (all_at (λ (other : Task). AllByRecursion (Unlogged other.key) entries) (tasks_of start.nodes) task one.stands.unlogged has)

    later_than_drained : (key : Key) → ComesOf (tasks_of start.nodes) key → AreBefore key before
    later_than_drained key (task, has, comes) =
        let own : AreBefore task.key before = all_at (λ (other : Task). AreBefore other.key before) (tasks_of start.nodes) task one.earlier has in
        ⊎_elim
        (λ (same : task.key ≡ key). subst (λ (other : Key). AreBefore other before) same own)
        (λ (longer : (key_cmp task.key key ≡ Less) × (is_prefix task.key.path key.path ≡ true)). earlier_than_later basis.begun.lower before task.key key longer.0 own) comes

    new_others : ShareNoKey entries others
    new_others =
        All-weaker (λ (other : Entry). ComesOf (tasks_of start.nodes) other.0) (λ (other : Entry). IsNewEntry other.0 entries)
        (λ other comes. All-weaker (λ (entry : Entry). is_prefix other.0.path entry.0.path ≡ false) (λ (entry : Entry). entry.0 ≢ other.0)
        (λ entry none same. differs_without_prefix other.0.path entry.0.path none (ap (λ (key : Key). key.path) same)) entries (not_logged other.0 comes))
        others two.entries_descend

    later_others : AllByRecursion (λ (other : Entry). AreBefore other.0 before) others
    later_others = All-weaker (λ (other : Entry). ComesOf (tasks_of start.nodes) other.0) (λ (other : Entry). AreBefore other.0 before) (λ other. later_than_drained other.0) others two.entries_descend

    -- ---- the runs

    rest_follows : (bound : Bound) (e other last : Execution V) → IsRestOf bound (entries_before bound entries) e other → IsRestOf bound (entries_before bound others) other last
        → IsRestOf bound (joined_by_key (entries_before bound entries) (entries_before bound others)) e last
    rest_follows bound e other last r s =
        let ended = entries_before bound entries in
        let later = entries_before bound others in
        let ended_ascend = (basis.begun.lower.parts_in_order bound entries one.stands.ordered).0 in
        let later_ascend = (basis.begun.lower.parts_in_order bound others two.stands.ordered).0 in
        let new = share_turned ended later (parts_share bound entries others new_others) in
        record {
          log-is =
              r.log-is ∙ ap (λ log. joined_by_key log ended) s.log-is ∙ basis.joins_associate last.log later ended later_ascend ended_ascend new
              ∙ ap (joined_by_key last.log) (basis.joins_commute later ended later_ascend ended_ascend new);
          cells-are = λ is. r.cells-are is ∙ s.cells-are is;
        }

    same_rest : HasSameRest app.act (whole_state first home) joined (whole_state now values)
    same_rest bound limit =
        let ended = entries_before bound entries in
        let later = entries_before bound others in
        let steps : length ended + (length later + limit) ≡ length (joined_by_key ended later) + limit = omega (arith, basis.joins_add_lengths ended later) in
        subst (λ done. BothEnd (IsRestOf bound done) (run_from app.act (length done + limit) bound (whole_state first home)) (run_from app.act limit bound (whole_state now values))) (sym (basis.parts_join bound entries others).0)
        (subst (λ n. BothEnd (IsRestOf bound (joined_by_key ended later)) (run_from app.act n bound (whole_state first home)) (run_from app.act limit bound (whole_state now values))) steps
        (both_follow (IsRestOf bound ended) (IsRestOf bound later) (IsRestOf bound (joined_by_key ended later)) (rest_follows bound)
        (run_from app.act (length ended + (length later + limit)) bound (whole_state first home)) (run_from app.act (length later + limit) bound (whole_state start cells)) (run_from app.act limit bound (whole_state now values))
        (one.stands.same_rest bound (length later + limit)) (two.stands.same_rest bound limit)))

    stands : StandsFor app (whole_state first home) joined (whole_state now values)
    stands = record {
      ready = two.stands.ready;
      ordered = basis.joins_keep_order entries others one.stands.ordered two.stands.ordered new_others;
      unlogged =
          let Unlogged = λ (task : Task) (entry : Entry). is_prefix task.key.path entry.0.path ≡ false in
          All-joined (λ (task : Task). ComesOf (tasks_of start.nodes) task.key) (λ (task : Task). AllByRecursion (Unlogged task) others) (λ (task : Task). AllByRecursion (Unlogged task) joined)
          (λ task comes rest. all_joined (Unlogged task) entries others (not_logged task.key comes) rest) (tasks_of now.nodes) two.tasks_descend two.stands.unlogged;
      same_rest = same_rest;
    }

    -- ---- the log, and the mark

    logged : joined_by_key first.log joined ≡ (before ++ more) ++ now.log
    logged =
        sym (basis.joins_associate first.log entries others one.stands.ordered two.stands.ordered new_others) ∙ ap (λ log. joined_by_key log others) one.logged
        ∙ joined_behind before start.log others later_others ∙ ap (λ log. before ++ log) two.logged ∙ sym (append_assoc before more now.log)

    never_ends : run_from app.act (start.limit - start.ended) end (whole_state start cells) ≡ None → run_from app.act (first.limit - first.ended) end (whole_state first home) ≡ None
    never_ends none =
        let counts = one.sound.keys_and_counts in
        let ended = entries_before end entries in
        let left : length ended + (start.limit - start.ended) ≡ first.limit - first.ended =
        omega (arith, ap length (basis.all_before_end entries), one.ended, one.limit, counts.created, counts.within) in
        ap (λ n. run_from app.act n end (whole_state first home)) (sym left)
        ∙ given_up (IsRestOf end ended) (run_from app.act (length ended + (start.limit - start.ended)) end (whole_state first home)) (run_from app.act (start.limit - start.ended) end (whole_state start cells))
        (one.stands.same_rest end (start.limit - start.ended)) none

    true_mark : HasTrueMark app first home now
    true_mark created limit is = let mark = two.true_mark created limit is in (mark.0 ∙ one.limit, mark.1, never_ends mark.2)

  pub courses_follow : CoursesFollow app
  courses_follow first start home cells before entries more others now jobs values one two =
      let of_first = λ (key : Key) (comes : ComesOf (tasks_of start.nodes) key). comes_through (tasks_of start.nodes) (tasks_of first.nodes) one.tasks_descend key comes in
      record {
        sound = two.sound;
        stands = stands one two;
        logged = logged one two;
        earlier =
            both_before before more (tasks_of now.nodes)
            (All-weaker (λ (task : Task). ComesOf (tasks_of start.nodes) task.key) (λ (task : Task). AreBefore task.key before) (λ task. later_than_drained one two task.key) (tasks_of now.nodes) two.tasks_descend)
            two.earlier;
        ended = omega (arith, one.ended, two.ended, basis.joins_add_lengths entries others);
        limit = two.limit ∙ one.limit;
        true_mark = true_mark one two;
        entries_descend =
            all_joined (λ (entry : Entry). ComesOf (tasks_of first.nodes) entry.0) entries others one.entries_descend
            (All-weaker (λ (entry : Entry). ComesOf (tasks_of start.nodes) entry.0) (λ (entry : Entry). ComesOf (tasks_of first.nodes) entry.0) (λ entry. of_first entry.0) others two.entries_descend);
        tasks_descend = All-weaker (λ (task : Task). ComesOf (tasks_of start.nodes) task.key) (λ (task : Task). ComesOf (tasks_of first.nodes) task.key) (λ task. of_first task.key) (tasks_of now.nodes) two.tasks_descend;
      }
