-- Jobs that are performed in order, some so far and then all.
use Rattle.std.proofs.Common.{◌≡◌, ◌∙◌, List, [], ◌∷◌, ◌++◌, refl, sym, ap, subst}
use Rattle.std.specs.List.{AllZip}
use Rattle.std.proofs.lemmas.List.{append-nil, append_assoc}
use Rattle.app_laws.specs.Applications.{Application}
use Rattle.run_laws.specs.Jobs.{Done, Job}
use Rattle.source_pool.specs.Course.{IsJobDone}
use Rattle.source_pool.proofs.Lists.{AllZip-append}

module _ {V : Type 0} (app : Application V) where
  -- those before the ones that are left are performed
  pub record AreDoneBefore (all left : List (Job V)) (dones : List (Done V)) : Type 0 where
    pub before : List (Job V)
    pub are : before ++ left ≡ all
    pub done : AllZip (IsJobDone app) before dones

  pub none_done : (all : List (Job V)) (dones : List (Done V)) → dones ≡ [] → AreDoneBefore all all dones
  none_done all dones empty = record { before = []; are = refl; done = subst (AllZip (IsJobDone app) []) (sym empty) tt }

  pub one_done : (all left rest : List (Job V)) (job : Job V) (dones now : List (Done V)) (done : Done V) → AreDoneBefore all left dones → left ≡ job ∷ rest → IsJobDone app job done
      → now ≡ dones ++ done ∷ [] → AreDoneBefore all rest now
  one_done all left rest job dones now done so_far next is added = record {
    before = so_far.before ++ job ∷ [];
    are = append_assoc so_far.before (job ∷ []) rest ∙ ap (λ (jobs : List (Job V)). so_far.before ++ jobs) (sym next) ∙ so_far.are;
    done = subst (AllZip (IsJobDone app) (so_far.before ++ job ∷ [])) (sym added) (AllZip-append (IsJobDone app) so_far.before (job ∷ []) dones (done ∷ []) so_far.done (is, tt));
  }

  pub all_done : (all left : List (Job V)) (dones : List (Done V)) → AreDoneBefore all left dones → left ≡ [] → AllZip (IsJobDone app) all dones
  all_done all left dones so_far none =
      subst (λ (jobs : List (Job V)). AllZip (IsJobDone app) jobs dones) (sym (append-nil so_far.before) ∙ ap (λ (jobs : List (Job V)). so_far.before ++ jobs) (sym none) ∙ so_far.are) so_far.done
