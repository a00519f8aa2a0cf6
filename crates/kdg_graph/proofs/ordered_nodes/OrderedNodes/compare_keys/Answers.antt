use Rattle.std.proofs.Common.{◌≡◌, ◌∙◌, None, Some, ap}
use Rattle.kdg_graph.proofs.Common.{option_cmp, key_cmp, Node, NodeShelf, key_at}
use Rattle.kdg_graph.proofs.Searches.{key_kept}
use Rattle.kdg_graph.proofs.ordered_nodes.OrderedNodes.compare_keys.Goals as goal

pub returns-in-Some-Some : goal.returns-in-Some-Some
returns-in-Some-Some c =
    let shelf : NodeShelf = c.args.self.now in
    let are = ap (λ (s : NodeShelf). s.nodes) c.self.view_is in
    let one : Some c.one.inside.task.key ≡ key_at shelf.nodes c.args.one = key_kept c.self.inside.slots c.args.one _ shelf.nodes c.self.invariant are (ap (λ (n : Node). Some n) c.one.view_is ∙ c.in-Some-Some.ensures) in
    let other : Some c.other.inside.task.key ≡ key_at shelf.nodes c.args.other = key_kept c.self.inside.slots c.args.other _ shelf.nodes c.self.invariant are (ap (λ (n : Node). Some n) c.other.view_is ∙ c.in-Some-Some.ensures') in
    c.compare.ensures.order ∙ (λ i. option_cmp key_cmp (one i) (other i))

pub returns-in-Some-None : goal.returns-in-Some-None
returns-in-Some-None c =
    let shelf : NodeShelf = c.args.self.now in
    let are = ap (λ (s : NodeShelf). s.nodes) c.self.view_is in
    let one : Some c.in-Some-None.field-0-0.now.task.key ≡ key_at shelf.nodes c.args.one = key_kept c.self.inside.slots c.args.one _ shelf.nodes c.self.invariant are c.in-Some-None.ensures in
    let other : None ≡ key_at shelf.nodes c.args.other = key_kept c.self.inside.slots c.args.other None shelf.nodes c.self.invariant are c.in-Some-None.ensures' in
    λ i. option_cmp key_cmp (one i) (other i)

pub returns-in-None-Some : goal.returns-in-None-Some
returns-in-None-Some c =
    let shelf : NodeShelf = c.args.self.now in
    let are = ap (λ (s : NodeShelf). s.nodes) c.self.view_is in
    let one : None ≡ key_at shelf.nodes c.args.one = key_kept c.self.inside.slots c.args.one None shelf.nodes c.self.invariant are c.in-None-Some.ensures in
    let other : Some c.in-None-Some.field-0-1.now.task.key ≡ key_at shelf.nodes c.args.other = key_kept c.self.inside.slots c.args.other _ shelf.nodes c.self.invariant are c.in-None-Some.ensures' in
    λ i. option_cmp key_cmp (one i) (other i)

pub returns-in-None-None : goal.returns-in-None-None
returns-in-None-None c =
    let shelf : NodeShelf = c.args.self.now in
    let are = ap (λ (s : NodeShelf). s.nodes) c.self.view_is in
    let one : None ≡ key_at shelf.nodes c.args.one = key_kept c.self.inside.slots c.args.one None shelf.nodes c.self.invariant are c.in-None-None.ensures in
    let other : None ≡ key_at shelf.nodes c.args.other = key_kept c.self.inside.slots c.args.other None shelf.nodes c.self.invariant are c.in-None-None.ensures' in
    λ i. option_cmp key_cmp (one i) (other i)
