-- An engine whose pending tasks become first tasks.
use lib.ListN.{length-map}
use Rattle.std.proofs.Common.{◌≡◌, ℕ, ◌+◌, ◌^◌, ◌<◌, List, [], length, sym, ap, subst, ◌∙◌, arith}
use Rattle.task_order.specs.declared.start.Start.{Start}
use Rattle.task_order.specs.declared.task.Task.{Task}
use Rattle.cell_store.specs.Values.{homes, values_of}
use Rattle.output_log.specs.Entries.{Entry}
use Rattle.kdg_graph.specs.Node.{Node}
use Rattle.kdg_graph.specs.Nodes.{tasks_of}
use Rattle.app_laws.specs.Applications.{Application, AreFitStarts}
use Rattle.app_laws.specs.Names.{AreListed}
use Rattle.app_laws.specs.Renaming.{AreNamed, ListedTasksAreNamed}
use Rattle.app_laws.specs.RenamingLaws.{as_many_listed}
use Rattle.graph_update.specs.Basis.{Basis}
use Rattle.run_laws.specs.Answers.{AreFirstNodes}
use Rattle.graph_update.specs.Engine.{HaveFixedSets, IsKept, EngineState}
use Rattle.run_laws.specs.Progress.{Progress}
use Rattle.run_laws.specs.Renaming.{IsRenamed, RenamingsKeepSound}
use Rattle.run_laws.specs.Sound.{IsSound}
use Rattle.run_laws.specs.Rest.{NoneRuns}
use Rattle.graph_update.proofs.FixedSets.{first_are_fixed}

module _ {V : Type 0} {app : Application V} (basis : Basis app) where
  -- an engine's execution while nothing is running
  module _ (old : Progress V) (kept : IsKept app old) (idle : NoneRuns old.nodes) where
    pub own_sound : IsSound app old [] (values_of old.cells)
    own_sound = basis.idle old kept.jobs kept.values kept.sound idle

    pub own_home : old.cells ≡ homes (values_of old.cells)
    own_home = (basis.at_rest old (values_of old.cells) own_sound).cells

    module _ (tasks : List Task) (first starts : List Start) (all : tasks ≡ tasks_of old.nodes) (listed : AreListed tasks first) (same : starts ≡ first) where
      own_listed : AreListed (tasks_of old.nodes) starts
      own_listed = subst (λ pending. AreListed pending starts) all (subst (AreListed tasks) (sym same) listed)

      pub own_fit : AreFitStarts app starts
      own_fit = basis.listed_fit (tasks_of old.nodes) starts own_listed own_sound.ready.tasks

      pub own_names : ListedTasksAreNamed → AreNamed (tasks_of old.nodes) starts
      own_names laws = laws (tasks_of old.nodes) starts own_sound.ready.ascending own_sound.ready.apart own_listed

      pub own_many : length starts ≡ length old.nodes
      own_many = as_many_listed (tasks_of old.nodes) starts own_listed ∙ length-map old.nodes (λ (node : Node). node.task)

      pub own_few : length starts < 2 ^ 32
      own_few =
          let counts = own_sound.keys_and_counts in
          omega (arith, own_many, counts.created, counts.within, kept.limited)

      -- what becomes of it
      module _ (nodes : List Node) (log : List Entry) (are : AreFirstNodes app (values_of old.cells) starts nodes) (empty : log ≡ []) where
        abbrev now : Progress V
        now = record old { nodes = nodes; log = log; created = old.ended + length nodes }

        same_count : old.ended + length nodes ≡ old.created
        same_count =
            let many = basis.as_many (values_of old.cells) starts nodes are in
            let before = own_many in
            let created = kept.sound.keys_and_counts.created in
            omega (arith, many, before, created)

        pub is_renamed : IsRenamed app old now
        is_renamed = record {
          first = starts;
          listed = own_listed;
          nodes = are;
          after = ap (λ (entries : List Entry). let progress : Progress V = record old { nodes = nodes; log = entries; created = old.ended + length nodes } in progress) empty
              ∙ ap (λ (created : ℕ). let progress : Progress V = record old { nodes = nodes; log = []; created = created } in progress) same_count;
        }

        module _ (laws : RenamingsKeepSound app) where
          now_sound : IsSound app now [] (values_of old.cells)
          now_sound = laws old now (values_of old.cells) own_sound is_renamed

          pub stays_kept : IsKept app now
          stays_kept = record { jobs = []; values = values_of old.cells; sound = now_sound; limited = kept.limited }

          pub stays_fixed : HaveFixedSets app nodes
          stays_fixed = first_are_fixed app (values_of old.cells) own_sound.ready.cells nodes now_sound.ready.tasks are.sets

-- what an engine keeps sound, seen from outside
pub engine_stays_sound : {A V : Type 0} (meaning : A → Application V) (app : A) (old now : Progress V) (engine : EngineState A V) → record { app = app; progress = old } ≡ engine
    → ((values : List V) → IsSound (meaning app) old [] values → IsSound (meaning app) now [] values)
    → (values : List V) → IsSound (meaning engine.app) engine.progress [] values → IsSound (meaning engine.app) now [] values
engine_stays_sound {A} {V} meaning app old now engine is stays =
    subst (λ (engine : EngineState A V). (values : List V) → IsSound (meaning engine.app) engine.progress [] values → IsSound (meaning engine.app) now [] values) is stays

pub engine_renamed : {A V : Type 0} (meaning : A → Application V) (inside engine : EngineState A V) (now : Progress V) → inside ≡ engine
    → IsRenamed (meaning inside.app) inside.progress now → IsRenamed (meaning engine.app) engine.progress now
engine_renamed {A} {V} meaning inside engine now same is = subst (λ (state : EngineState A V). IsRenamed (meaning state.app) state.progress now) same is
