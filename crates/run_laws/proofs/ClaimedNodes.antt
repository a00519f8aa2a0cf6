-- A claim takes one of the clear nodes.
use Rattle.std.proofs.Common.{◌≡◌, ◌&&◌, not, Bool, true, false, cond, List, [], ◌∷◌, refl, sym, ap, ◌∙◌}
use Rattle.std.specs.List.{filter}
use Rattle.kdg_graph.specs.declared.node_id.NodeId.{NodeId}
use Rattle.kdg_graph.specs.Node.{Node}
use Rattle.kdg_graph.specs.Nodes.{is_at, started}
use Rattle.kdg_graph.specs.Rewrite.{without}
use Rattle.kdg_graph.specs.NodeLaws.{start}
use Rattle.app_laws.specs.Applications.{Application}
use Rattle.run_laws.specs.Basis.{Basis, LowerLaws}
use Rattle.run_laws.specs.Events.{clear_nodes, is_clear}
use Rattle.run_laws.specs.Laws.{ClaimsTakeOneClear}
use Rattle.run_laws.specs.Progress.{Progress}
use Rattle.run_laws.specs.Sound.{is_unblocked}
use Rattle.run_laws.proofs.Starting.{unblocked_started}

module _ {V : Type 0} (app : Application V) (lower : LowerLaws) where
  -- of some of the nodes, the clear ones are those of before but for the started one
  others_clear : (id : NodeId) (nodes some : List Node) → filter (is_clear app (started id nodes)) (started id some) ≡ without id (filter (is_clear app nodes) some)
  others_clear id nodes [] = refl
  others_clear id nodes (node ∷ some) = by_case (is_at id node) refl (others_clear id nodes some)
    where
      same_way : is_at id node ≡ false → is_unblocked app (started id nodes) node ≡ is_unblocked app nodes node
      same_way is =
          let same : start id node ≡ node = ap (λ test. cond test (record node { running = true }) node) is in
          ap (is_unblocked app (started id nodes)) (sym same) ∙ unblocked_started app lower id nodes node

      by_case : (test : Bool) → is_at id node ≡ test → filter (is_clear app (started id nodes)) (started id some) ≡ without id (filter (is_clear app nodes) some)
          → filter (is_clear app (started id nodes)) (cond test (record node { running = true }) node ∷ started id some) ≡ without id (filter (is_clear app nodes) (node ∷ some))
      by_case true is rest = rest ∙ elim (is_clear app nodes node) as (λ b. without id (filter (is_clear app nodes) some) ≡ without id (cond b (node ∷ filter (is_clear app nodes) some) (filter (is_clear app nodes) some))) [
        | true ↦ sym (ap (λ b. cond (not b) (node ∷ without id (filter (is_clear app nodes) some)) (without id (filter (is_clear app nodes) some))) is)
        | false ↦ refl
      ]
      by_case false is rest =
          ap (λ free. cond (not node.running && free) (node ∷ filter (is_clear app (started id nodes)) (started id some)) (filter (is_clear app (started id nodes)) (started id some))) (same_way is)
          ∙ elim (is_clear app nodes node) as (λ b. cond b (node ∷ filter (is_clear app (started id nodes)) (started id some)) (filter (is_clear app (started id nodes)) (started id some)) ≡ without id (cond b (node ∷ filter (is_clear app nodes) some) (filter (is_clear app nodes) some))) [
            | true ↦ ap (λ others. node ∷ others) rest ∙ sym (ap (λ b. cond (not b) (node ∷ without id (filter (is_clear app nodes) some)) (without id (filter (is_clear app nodes) some))) is)
            | false ↦ rest
          ]

  pub others_stay_clear : (id : NodeId) (nodes : List Node) → clear_nodes app (started id nodes) ≡ without id (clear_nodes app nodes)
  others_stay_clear id nodes = others_clear id nodes nodes

pub claims_take_one_clear : {V : Type 0} {app : Application V} → Basis app → ClaimsTakeOneClear app
claims_take_one_clear {app = app} basis old now pick job claimed =
    ap (λ (p : Progress _). clear_nodes app p.nodes) claimed.after ∙ others_stay_clear app basis.lower claimed.node.id old.nodes
