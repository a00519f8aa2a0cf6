-- The ids of nodes without that of one.
use Rattle.std.proofs.Common.{◌≡◌, ◌≢◌, ℕ, zero, suc, not, cond, List, [], ◌∷◌, Some, slice_get, refl, sym, ap, subst, ◌∙◌, eq-eqb}
use Rattle.std.specs.Prelude.{remove}
use Rattle.std.specs.List.{AllByRecursion}
use Rattle.plain_laws.specs.Members.{found_is_there, all_at}
use Rattle.plain_laws.specs.Options.{some_injective, none_is_not_some}
use Rattle.kdg_graph.specs.declared.node_id.NodeId.{NodeId}
use Rattle.kdg_graph.specs.Node.{Node}
use Rattle.kdg_graph.specs.Nodes.{HaveOwnIds, ids_of}
use Rattle.kdg_graph.specs.Rewrite.{without}
use Rattle.kdg_graph.specs.NodeLaws.{not_at}

-- where no node has the id, all are left
pub none_taken : (id : NodeId) (nodes : List Node) → AllByRecursion (λ (other : Node). other.id ≢ id) nodes → without id nodes ≡ nodes
none_taken id [] others = refl
none_taken id (node ∷ nodes) others =
    ap (λ test. cond (not test) (node ∷ without id nodes) (without id nodes)) (not_at id node others.0) ∙ ap (λ left. node ∷ left) (none_taken id nodes others.1)

-- without a node its id is gone from its place
pub id_taken : (nodes : List Node) (place : ℕ) (node : Node) → HaveOwnIds nodes → slice_get nodes place ≡ Some node → ids_of (without node.id nodes) ≡ remove (ids_of nodes) place
id_taken [] place node own is = absurd (none_is_not_some node is)
id_taken (first ∷ nodes) zero node own is =
    let same : first ≡ node = some_injective first node is in
    subst (λ (n : Node). ids_of (without n.id (first ∷ nodes)) ≡ ids_of nodes) same
    (ap (λ test. ids_of (cond (not test) (first ∷ without first.id nodes) (without first.id nodes))) (eq-eqb first.id.at first.id.at refl) ∙ ap ids_of (none_taken first.id nodes own.0))
id_taken (first ∷ nodes) (suc place) node own is =
    let differs : node.id ≢ first.id = all_at (λ (other : Node). other.id ≢ first.id) nodes node own.0 (found_is_there nodes place node is) in
    ap (λ test. ids_of (cond (not test) (first ∷ without node.id nodes) (without node.id nodes))) (not_at node.id first (λ same. differs (sym same)))
    ∙ ap (λ ids. first.id ∷ ids) (id_taken nodes place node own.1 is)
