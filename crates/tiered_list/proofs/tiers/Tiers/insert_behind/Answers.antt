use Rattle.std.proofs.Common.{◌≡◌, ◌+◌, ◌*◌, ◌/◌, ◌%◌, ◌≤◌, ◌++◌, ◌∙◌, length, arith, rules, ap}
use Rattle.std.specs.List.{insert}
use Rattle.tiered_list.specs.Tiers.{TiersState, all_items, items_in}
use Rattle.tiered_list.proofs.Around.{put_in_back, put_to_back, put_to_front}
use Rattle.tiered_list.proofs.FullTiers.{length-items_in}
use Rattle.tiered_list.proofs.tiers.Tiers.insert_behind.Goals as goal

pub insert-requires-clause-place : goal.insert-requires-clause-place
insert-requires-clause-place g c =
    let fields = c.self.inside in
    let tiers = fields.middle.items in
    let whole : c.len-count.result ≡ length tiers = search rules in
    let middle = ap (λ (state : TiersState g.row.T.Denot). length (items_in state.middle)) c.self.view_is in
    let back = ap (λ (state : TiersState g.row.T.Denot). length state.back) c.self.view_is in
    omega (arith, whole, middle, back, c.requires.inside, length-items_in tiers c.self.invariant.full)

pub returns-then-at-count-clause-items : goal.returns-then-at-count-clause-items
returns-then-at-count-clause-items g c =
    let fields = c.self.inside in
    let tiers = fields.middle.items in
    let place = c.args.place in
    let whole : c.len-count.result ≡ length tiers = search rules in
    let long : length (items_in tiers) ≡ 128 * c.len-count.result = omega (arith, whole, length-items_in tiers c.self.invariant.full) in
    ap (λ back. fields.front ++ (items_in tiers ++ back)) c.insert.ensures
    ∙ put_in_back fields.front (items_in tiers) fields.back place (128 * c.len-count.result) c.args.item long (omega (arith, c.if-at-count.true))
    ∙ ap (λ (state : TiersState g.row.T.Denot). insert (all_items state) (length state.front + place) c.args.item) c.self.view_is

pub returns-then-at-count-2-clause-items : goal.returns-then-at-count-2-clause-items
returns-then-at-count-2-clause-items g c =
    let fields = c.self.inside in
    let tiers = fields.middle.items in
    let place = c.args.place in
    let new = items_in c.insert_backward-first.new.middle.items in
    let whole : c.len-count.result ≡ length tiers = search rules in
    let within : place ≤ length (items_in tiers) = omega (arith, whole, length-items_in tiers c.self.invariant.full, c.if-at-count.false) in
    let same : 128 * (place / 128) + place % 128 ≡ place = omega arith in
    ap (λ front. front ++ (new ++ fields.back)) c.push_back.ensures
    ∙ put_to_front fields.front (items_in tiers) fields.back new place c.args.item c.insert_backward-first.result within (c.insert_backward-first.ensures.items ∙ ap (λ n. insert (items_in tiers) n c.args.item) same)
    ∙ ap (λ (state : TiersState g.row.T.Denot). insert (all_items state) (length state.front + place) c.args.item) c.self.view_is

pub returns-else-at-count-2-clause-items : goal.returns-else-at-count-2-clause-items
returns-else-at-count-2-clause-items g c =
    let fields = c.self.inside in
    let tiers = fields.middle.items in
    let place = c.args.place in
    let new = items_in c.insert_forward-last.new.middle.items in
    let whole : c.len-count.result ≡ length tiers = search rules in
    let within : place ≤ length (items_in tiers) = omega (arith, whole, length-items_in tiers c.self.invariant.full, c.if-at-count.false) in
    let same : 128 * (place / 128) + place % 128 ≡ place = omega arith in
    ap (λ back. fields.front ++ (new ++ back)) c.push_front.ensures
    ∙ put_to_back fields.front (items_in tiers) fields.back new place c.args.item c.insert_forward-last.result within (c.insert_forward-last.ensures.items ∙ ap (λ n. insert (items_in tiers) n c.args.item) same)
    ∙ ap (λ (state : TiersState g.row.T.Denot). insert (all_items state) (length state.front + place) c.args.item) c.self.view_is
