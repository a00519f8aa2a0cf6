use Rattle.std.proofs.Common.{◌≡◌, ◌<◌, ◌∙◌, ap, length, rules, sym}
use Rattle.source_pool.specs.declared.partners.Told.{Told}
use Rattle.source_pool.proofs.partners.add_desks.Goals as goal

pub add-requires-in-loop-place : goal.add-requires-in-loop-place
add-requires-in-loop-place g c =
    let at = c.loop-place in
    let post = c.index_mut.result.now in
    let inside : at.place < length at.posts.items = search rules in
    let told : post.servers.app.value ≡ c.args.partners.now = ap (λ p. p.servers.app.value) c.index_mut.ensures.value ∙ at.invariant.posts at.place post inside in
    let same : c.in_ok-server.server.app.value ≡ post.servers.app.value = c.in_ok-server.ensures.server ∙ at.invariant.told ∙ sym told in
    record { told = ap (λ (app : g.row.A.Denot). let is : Told g.row.A.Denot = record { app = record { value = app; marker = post.servers.app.marker } } in is) same }
