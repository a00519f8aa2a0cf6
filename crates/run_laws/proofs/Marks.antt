-- A mark and a drain keep an execution sound.
use Rattle.std.proofs.Common.{◌≡◌, ◌≢◌, ◌≤◌, false, List, [], ◌∷◌, Option, Some, length, arith}
use Rattle.std.specs.List.{AllByRecursion}
use Rattle.std.specs.Option.{option_or}
use Rattle.std.specs.List.Sorted.{IsStrictlySortedBy}
use Rattle.plain_laws.specs.Members.{all_at, all_from}
use Rattle.plain_laws.specs.Lists.{All-filter, length-filter_le}
use Rattle.task_order.specs.declared.task.Task.{Task}
use Rattle.task_order.specs.Key.{at_key}
use Rattle.output_log.specs.Entries.{Entry, IsInKeyOrder}
use Rattle.kdg_graph.specs.Node.{Node}
use Rattle.kdg_graph.specs.Nodes.{tasks_of}
use Rattle.app_laws.specs.Applications.{Application}
use Rattle.app_laws.specs.Order.{Pairwise, is_prefix}
use Rattle.app_laws.specs.PairLaws.{Pairwise-filter}
use Rattle.run_laws.specs.Basis.{Basis}
use Rattle.crew.specs.declared.answers.OverCause.{OverCause}
use Rattle.crew.specs.declared.answers.OverCause.TheVariants as cause
use Rattle.run_laws.specs.Jobs.{Job}
use Rattle.run_laws.specs.Events.{marked, drained, undrainable}
use Rattle.run_laws.specs.Laws.{MarksAndDrainsKeepSound}
use Rattle.run_laws.specs.Progress.{Progress}
use Rattle.run_laws.specs.Sound.{IsSound}

pub no_entries_in_order : IsInKeyOrder []
unfolding IsStrictlySortedBy
no_entries_in_order = tt

abbrev AreUnlogged : List Entry → List Task → Type 0
AreUnlogged log tasks = AllByRecursion (λ (task : Task). AllByRecursion (λ (entry : Entry). is_prefix task.key.path entry.0.path ≡ false) log) tasks

module _ {V : Type 0} {app : Application V} (basis : Basis app) where
  -- whatever the mark is
  pub sound_marked : (progress : Progress V) (over : Option OverCause) (jobs : List (Job V)) (values : List V) → IsSound app progress jobs values → IsSound app (record progress { over = over }) jobs values
  sound_marked progress over jobs values sound =
      let old = sound.keys_and_counts in
      record {
        keys_and_counts = record {
          graph = old.graph;
          log_ordered = old.log_ordered;
          log_differs = old.log_differs;
          unlogged = old.unlogged;
          created = old.created;
          within = old.within;
          logged = old.logged;
        };
        outs_match = sound.outs_match;
        whole = sound.whole;
        ready = sound.ready;
        recorded_covers = sound.recorded_covers;
        running_unblocked = sound.running_unblocked;
      }

  marked_one : (progress : Progress V) (cause : OverCause) (jobs : List (Job V)) (values : List V) → IsSound app progress jobs values → IsSound app (marked app progress cause) jobs values
  marked_one progress cause = sound_marked progress (option_or progress.over (Some cause))

  -- what is left of a log
  record IsLeft (log left : List Entry) : Type 0 where
    ordered : IsInKeyOrder left
    differs : Pairwise (λ (entry other : Entry). entry.0.path ≢ other.0.path) left
    unlogged : (tasks : List Task) → AreUnlogged log tasks → AreUnlogged left tasks
    shorter : length left ≤ length log

  left_over : (nodes : List Node) (log : List Entry) → IsInKeyOrder log → Pairwise (λ (entry other : Entry). entry.0.path ≢ other.0.path) log → IsLeft log (undrainable app nodes log)
  left_over [] log ordered differs = record {
    ordered = no_entries_in_order;
    differs = tt;
    unlogged = λ tasks _. all_from (λ (task : Task). AllByRecursion (λ (entry : Entry). is_prefix task.key.path entry.0.path ≡ false) []) tasks (λ _ _. tt);
    shorter = omega arith;
  }
  left_over (least ∷ nodes) log ordered differs = record {
    ordered = (basis.lower.parts_in_order (at_key least.task.key) log ordered).1;
    differs = Pairwise-filter (λ (entry other : Entry). entry.0.path ≢ other.0.path) _ log differs;
    unlogged = λ tasks all. all_from (λ (task : Task). AllByRecursion (λ (entry : Entry). is_prefix task.key.path entry.0.path ≡ false) (undrainable app (least ∷ nodes) log)) tasks
        (λ task has. All-filter (λ (entry : Entry). is_prefix task.key.path entry.0.path ≡ false) _ log
        (all_at (λ (task : Task). AllByRecursion (λ (entry : Entry). is_prefix task.key.path entry.0.path ≡ false) log) tasks task all has));
    shorter = length-filter_le _ log;
  }

  drained_one : (progress : Progress V) (jobs : List (Job V)) (values : List V) → IsSound app progress jobs values → IsSound app (drained app progress) jobs values
  drained_one progress jobs values sound =
      let old = sound.keys_and_counts in
      let left = left_over progress.nodes progress.log old.log_ordered old.log_differs in
      let shorter = left.shorter in
      let logged = old.logged in
      record {
        keys_and_counts = record {
          graph = old.graph;
          log_ordered = left.ordered;
          log_differs = left.differs;
          unlogged = left.unlogged (tasks_of progress.nodes) old.unlogged;
          created = old.created;
          within = old.within;
          logged = omega (arith, shorter, logged);
        };
        outs_match = sound.outs_match;
        whole = sound.whole;
        ready = sound.ready;
        recorded_covers = sound.recorded_covers;
        running_unblocked = sound.running_unblocked;
      }

  pub marks_and_drains_keep_sound : MarksAndDrainsKeepSound app
  marks_and_drains_keep_sound = record {
    any_mark = sound_marked;
    marked_one = marked_one;
    over_limit = λ progress done. marked_one progress (cause.Budget _ _);
    drained_one = drained_one;
  }
