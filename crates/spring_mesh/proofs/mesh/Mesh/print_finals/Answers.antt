use Rattle.std.proofs.Common.{arith, ap, ◌<◌, length, ◌∙◌}
use Rattle.cell_store.specs.Values.{values_of}
use Rattle.spring_mesh.specs.declared.file.MeshFile.{MeshFile}
use Rattle.spring_mesh.specs.Bounds.{brought_to-fits}
use Rattle.spring_mesh.specs.Files.{IsNode}
use Rattle.spring_mesh.specs.Motion.{brought_to}
use Rattle.spring_mesh.specs.Lawful.{node_at-fits}
use Rattle.spring_mesh.proofs.Steps.{as_many_values, printed_more, seen_node}
use Rattle.spring_mesh.proofs.mesh.Mesh.print_finals.Goals as goal

pub brought_to-node-requires-clause-node : goal.brought_to-node-requires-clause-node
brought_to-node-requires-clause-node c =
    let store = c.args.store.now in
    let number = c.loop-number.number in
    let below : number < length (values_of store) = omega (arith, c.loop-number-test.true, c.len-number-end.ensures, as_many_values store c.value_laws.ensures.values c.requires.home) in
    let seen = seen_node store number c.in-At.node.now c.value_laws.ensures.homes c.value_laws.ensures.values c.requires.home below c.in-At.ensures in
    rw seen (node_at-fits c.args.self.now (values_of store) number c.requires.fit.nodes below)

pub loop-number-preserved : goal.loop-number-preserved
loop-number-preserved c =
    let store = c.args.store.now in
    let number = c.loop-number.number in
    let below : number < length (values_of store) = omega (arith, c.loop-number-test.true, c.len-number-end.ensures, as_many_values store c.value_laws.ensures.values c.requires.home) in
    let seen = seen_node store number c.in-At.node.now c.value_laws.ensures.homes c.value_laws.ensures.values c.requires.home below c.in-At.ensures in
    printed_more c.args.self.now.end number c.from.result (values_of store) c.in-At.node.now c.brought_to-node.result c.loop-number.text c.push_node.new.text c.in_ok-push_node-in-At.ensures c.from.ensures
    (c.brought_to-node.ensures ∙ ap (λ (file : MeshFile). brought_to file.end c.in-At.node.now) c.self.view_is) seen c.loop-number.invariant

pub push_node-requires : goal.push_node-requires
push_node-requires c =
    let store = c.args.store.now in
    let number = c.loop-number.number in
    let below : number < length (values_of store) = omega (arith, c.loop-number-test.true, c.len-number-end.ensures, as_many_values store c.value_laws.ensures.values c.requires.home) in
    let seen = seen_node store number c.in-At.node.now c.value_laws.ensures.homes c.value_laws.ensures.values c.requires.home below c.in-At.ensures in
    let fits : IsNode c.in-At.node.now = rw seen (node_at-fits c.args.self.now (values_of store) number c.requires.fit.nodes below) in
    rw c.brought_to-node.ensures (brought_to-fits c.self.inside.file.end c.in-At.node.now fits c.self.invariant.end)
