use Rattle.std.proofs.Common.{◌≡◌, ◌+◌, ◌*◌, ◌/◌, ◌%◌, ◌<◌, ◌++◌, ◌∙◌, ◌∷◌, [], length, arith, rules, ap, sym}
use Rattle.std.specs.List.{remove}
use Rattle.std.specs.Prelude.{slice_get}
use Rattle.tiered_list.specs.Tiers.{TiersState, all_items, items_in}
use Rattle.tiered_list.proofs.Around.{get_in_middle, get_in_back, take_from_back, take_with_back, take_with_front}
use Rattle.tiered_list.proofs.FullTiers.{length-items_in}
use Rattle.tiered_list.proofs.tiers.Tiers.remove_behind.Goals as goal

pub remove-requires : goal.remove-requires
remove-requires g c =
    let fields = c.self.inside in
    let tiers = fields.middle.items in
    let whole : c.len-count.result ≡ length tiers = search rules in
    let middle = ap (λ (state : TiersState g.row.T.Denot). length (items_in state.middle)) c.self.view_is in
    let back = ap (λ (state : TiersState g.row.T.Denot). length state.back) c.self.view_is in
    omega (arith, whole, middle, back, c.requires.inside, c.if-at-count.true, length-items_in tiers c.self.invariant.full)

pub returns-then-at-count-clause-item : goal.returns-then-at-count-clause-item
returns-then-at-count-clause-item g c =
    let fields = c.self.inside in
    let tiers = fields.middle.items in
    let place = c.args.place in
    let whole : c.len-count.result ≡ length tiers = search rules in
    let long : length (items_in tiers) ≡ 128 * c.len-count.result = omega (arith, whole, length-items_in tiers c.self.invariant.full) in
    sym (ap (λ (state : TiersState g.row.T.Denot). slice_get (all_items state) (length state.front + place)) c.self.view_is)
    ∙ get_in_back fields.front (items_in tiers) fields.back place (128 * c.len-count.result) long (omega (arith, c.if-at-count.true))
    ∙ c.remove.ensures.item

pub returns-then-at-count-clause-items : goal.returns-then-at-count-clause-items
returns-then-at-count-clause-items g c =
    let fields = c.self.inside in
    let tiers = fields.middle.items in
    let place = c.args.place in
    let whole : c.len-count.result ≡ length tiers = search rules in
    let long : length (items_in tiers) ≡ 128 * c.len-count.result = omega (arith, whole, length-items_in tiers c.self.invariant.full) in
    ap (λ back. fields.front ++ (items_in tiers ++ back)) c.remove.ensures.items
    ∙ take_from_back fields.front (items_in tiers) fields.back place (128 * c.len-count.result) long (omega (arith, c.if-at-count.true))
    ∙ ap (λ (state : TiersState g.row.T.Denot). remove (all_items state) (length state.front + place)) c.self.view_is

pub returns-then-at-count-2-clause-item : goal.returns-then-at-count-2-clause-item
returns-then-at-count-2-clause-item g c =
    let fields = c.self.inside in
    let tiers = fields.middle.items in
    let place = c.args.place in
    let whole : c.len-count.result ≡ length tiers = search rules in
    let within : place < length (items_in tiers) = omega (arith, whole, length-items_in tiers c.self.invariant.full, c.if-at-count.false) in
    let same : place ≡ 128 * (place / 128) + place % 128 = omega arith in
    sym (ap (λ (state : TiersState g.row.T.Denot). slice_get (all_items state) (length state.front + place)) c.self.view_is)
    ∙ get_in_middle fields.front (items_in tiers) fields.back place within
    ∙ ap (slice_get (items_in tiers)) same
    ∙ c.remove_forward.ensures.item

pub returns-then-at-count-2-clause-items : goal.returns-then-at-count-2-clause-items
returns-then-at-count-2-clause-items g c =
    let fields = c.self.inside in
    let tiers = fields.middle.items in
    let place = c.args.place in
    let whole : c.len-count.result ≡ length tiers = search rules in
    let within : place < length (items_in tiers) = omega (arith, whole, length-items_in tiers c.self.invariant.full, c.if-at-count.false) in
    let same : 128 * (place / 128) + place % 128 ≡ place = omega arith in
    take_with_front fields.front (items_in tiers) fields.back (items_in c.remove_forward.new.middle.items) c.pop_back-last.new.self place c.pop_back-last.result within c.pop_back-last.ensures (c.remove_forward.ensures.items ∙ ap (λ n. c.pop_back-last.result ∷ remove (items_in tiers) n) same)
    ∙ ap (λ (state : TiersState g.row.T.Denot). remove (all_items state) (length state.front + place)) c.self.view_is

pub returns-else-at-count-2-clause-item : goal.returns-else-at-count-2-clause-item
returns-else-at-count-2-clause-item g c =
    let fields = c.self.inside in
    let tiers = fields.middle.items in
    let place = c.args.place in
    let whole : c.len-count.result ≡ length tiers = search rules in
    let within : place < length (items_in tiers) = omega (arith, whole, length-items_in tiers c.self.invariant.full, c.if-at-count.false) in
    let same : place ≡ 128 * (place / 128) + place % 128 = omega arith in
    sym (ap (λ (state : TiersState g.row.T.Denot). slice_get (all_items state) (length state.front + place)) c.self.view_is)
    ∙ get_in_middle fields.front (items_in tiers) fields.back place within
    ∙ ap (slice_get (items_in tiers)) same
    ∙ c.remove_backward.ensures.item

pub returns-else-at-count-2-clause-items : goal.returns-else-at-count-2-clause-items
returns-else-at-count-2-clause-items g c =
    let fields = c.self.inside in
    let tiers = fields.middle.items in
    let place = c.args.place in
    let whole : c.len-count.result ≡ length tiers = search rules in
    let within : place < length (items_in tiers) = omega (arith, whole, length-items_in tiers c.self.invariant.full, c.if-at-count.false) in
    let same : 128 * (place / 128) + place % 128 ≡ place = omega arith in
    take_with_back fields.front (items_in tiers) fields.back (items_in c.remove_backward.new.middle.items) c.pop_front-first.new.self place c.pop_front-first.result within c.pop_front-first.ensures (c.remove_backward.ensures.items ∙ ap (λ n. remove (items_in tiers) n ++ c.pop_front-first.result ∷ []) same)
    ∙ ap (λ (state : TiersState g.row.T.Denot). remove (all_items state) (length state.front + place)) c.self.view_is
