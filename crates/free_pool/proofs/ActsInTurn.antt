-- The tasks that act in a turn, one after the other.
use Rattle.std.proofs.Common.{◌≡◌, List, [], ◌∷◌, ◌++◌, Some, refl, sym, ap, subst, ◌∙◌, append-nil}
use Rattle.std.specs.declared.snapshot.Snapshot.{Snapshot}
use Rattle.task_order.specs.declared.key.Key.{Key}
use Rattle.app_laws.specs.Applications.{Application}
use Rattle.run_laws.specs.Jobs.{Job}
use Rattle.run_laws.specs.Moves.{Moved, MovesFollow}
use Rattle.run_laws.specs.Progress.{Progress}
use Rattle.graph_update.specs.Engine.{EngineState}
use Rattle.worker_gate.specs.Fits.{drained_count}
use Rattle.free_pool.specs.Acted.{IsAct, jobs_stuck, keys_acted}
use Rattle.free_pool.specs.declared.acting.Act.TheVariants as act
use Rattle.free_pool.specs.declared.acting.Stuck.{Stuck}
use Rattle.free_pool.specs.declared.turns.Next.{Next}

keys_and_one : (acted : List (Snapshot Key)) (key : Snapshot Key) → keys_acted (acted ++ key ∷ []) ≡ keys_acted acted ++ key.value ∷ []
keys_and_one [] key = refl
keys_and_one (one ∷ acted) key = ap (λ (keys : List Key). one.value ∷ keys) (keys_and_one acted key)

module _ {V : Type 0} (app : Application V) (start : Progress V) where
  -- these tasks have acted since the start, and nothing else was done
  pub record HaveActed (now : Progress V) (acted : List (Snapshot Key)) : Type 0 where
    pub moved : (had : List (Job V)) → Moved app start had now had (keys_acted acted)
    pub drained : drained_count now ≡ drained_count start

  module _ (A : Type 0) (follow : MovesFollow app) (old now : Progress V) (acted more : List (Snapshot Key)) (so_far : HaveActed old acted) (drained : drained_count now ≡ drained_count old) where
    pub one_acted : IsAct {A = A} app old acted act.Ended now more → HaveActed now more
    one_acted one = record {
      moved = λ had. subst (Moved app start had now had) (sym (ap keys_acted one.1 ∙ keys_and_one acted one.0))
          (follow start old now had had had (keys_acted acted) (one.0.value ∷ []) (so_far.moved had) (one.2 had));
      drained = drained ∙ so_far.drained;
    }

    pub then_none : (next : Next) → IsAct {A = A} app old acted (act.None next) now more → (had : List (Job V)) → Moved app start had now had (keys_acted more)
    then_none next none had =
        subst (Moved app start had now had) (append-nil (keys_acted acted) ∙ ap keys_acted (sym none.0))
        (follow start old now had had had (keys_acted acted) [] (so_far.moved had) (none.1 had))

    pub then_stuck : (stuck : Stuck (EngineState A V)) → IsAct app old acted (act.Stuck stuck) now more → (had : List (Job V)) → Moved app start had now (jobs_stuck (Some stuck) ++ had) (keys_acted more)
    then_stuck stuck one had =
        subst (Moved app start had now (jobs_stuck (Some stuck) ++ had)) (append-nil (keys_acted acted) ∙ ap keys_acted (sym one.0))
        (follow start old now had had (jobs_stuck (Some stuck) ++ had) (keys_acted acted) [] (so_far.moved had) (one.1 had))
