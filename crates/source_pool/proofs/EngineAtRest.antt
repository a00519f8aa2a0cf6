-- An engine between two rounds: whether a node is left, and its whole state.
use Rattle.std.proofs.Common.{◌≡◌, ◌≢◌, ℕ, true, false, List, [], ◌∷◌, length, Option, refl, sym, ap, subst, ◌∙◌}
use Rattle.std.specs.Option.{is_some}
use Rattle.std.proofs.lemmas.Bool.{true≢false}
use Rattle.std.proofs.lemmas.List.{length-map, nil_from_length}
use Rattle.app_laws.specs.Applications.{Application}
use Rattle.commuting.specs.States.{State}
use Rattle.kdg_graph.specs.declared.node_id.NodeId.{NodeId}
use Rattle.kdg_graph.specs.Node.{Node}
use Rattle.kdg_graph.specs.Nodes.{least_of}
use Rattle.run_laws.specs.Progress.{Progress, whole_state}
use Rattle.source_pool.specs.Course.{IsAtRest}
use Rattle.source_pool.specs.Laws.{WholeIsHome}
use Rattle.source_pool.specs.Runs.{state_at_rest}

pub some_node : (nodes : List Node) (least : Option NodeId) → least ≡ least_of nodes → is_some least ≡ true → nodes ≢ []
some_node nodes least is some none = true≢false (sym some ∙ ap is_some (is ∙ ap least_of none))

pub no_node : (nodes : List Node) (least : Option NodeId) → least ≡ least_of nodes → is_some least ≡ false → nodes ≡ []
no_node [] least is none = refl
no_node (node ∷ nodes) least is none = absurd (true≢false (sym (ap is_some is) ∙ none))

-- where a node is left, some task is pending
pub some_pending : {V : Type 0} (app : Application V) (start now : Progress V) (cells : List V) (state : State V) (text : List ℕ) → IsAtRest app start cells state text now → now.nodes ≢ [] → state.pending ≢ []
some_pending {V} app start now cells state text rest left none =
    left (nil_from_length now.nodes (sym (length-map now.nodes (λ node. node.task)) ∙ ap length (ap (λ (s : State V). s.pending) rest.state_is ∙ none)))

module _ {V : Type 0} {app : Application V} (home : WholeIsHome app) where
  pub state_is : (start now : Progress V) (cells : List V) (state : State V) (text : List ℕ) → IsAtRest app start cells state text now → state ≡ state_at_rest now
  state_is start now cells state text rest = sym rest.state_is ∙ ap (whole_state now) (home now rest.values rest.course.come.sound).1

  pub rest_at : (start now : Progress V) (cells : List V) (state : State V) (text : List ℕ) → IsAtRest app start cells state text now → IsAtRest app start cells (state_at_rest now) text now
  rest_at start now cells state text rest = subst (λ state. IsAtRest app start cells state text now) (state_is start now cells state text rest) rest
