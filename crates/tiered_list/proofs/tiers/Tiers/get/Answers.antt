use Rattle.std.proofs.Common.{◌≡◌, ◌+◌, ◌-◌, ◌*◌, ◌/◌, ◌%◌, ◌<◌, ◌≤◌, ◌∙◌, [], ◌++◌, length, get_or, arith, rules, ap, sym}
use Rattle.std.proofs.lemmas.List.{get_or_read}
use Rattle.std.specs.Prelude.{slice_get}
use Rattle.tiered_list.specs.Tiers.{TiersState, all_items, items_in}
use Rattle.tiered_list.proofs.Around.{get_in_middle, get_in_back}
use Rattle.tiered_list.proofs.FullTiers.{length-items_in, read_in_tier}
use Rattle.tiered_list.proofs.tiers.Tiers.get.Goals as goal

pub returns-in-Some : goal.returns-in-Some
returns-in-Some g c =
    let fields = c.self.inside in
    let tiers = fields.middle.items in
    let behind = c.args.place - c.len-first.result in
    let at = behind / 128 in
    let tier = c.in-Some.tier.now in
    let inside : at < length tiers = search (rules, c.get-2.ensures.variant) in
    let read : tier ≡ get_or tiers at [] = get_or_read tiers at tier inside c.in-Some.ensures.lookup [] in
    let within : behind < length (items_in tiers) = omega (arith, inside, length-items_in tiers c.self.invariant.full) in
    let place : length fields.front + behind ≡ c.args.place = omega (arith, c.len-first.ensures.len, c.if-place-first.false) in
    c.get-in-Some.ensures
    ∙ ap (λ l. slice_get l (behind % 128)) read
    ∙ sym (read_in_tier tiers at (behind % 128) behind c.self.invariant.full inside (omega arith) (omega arith))
    ∙ sym (get_in_middle fields.front (items_in tiers) fields.back behind within)
    ∙ ap (slice_get (fields.front ++ (items_in tiers ++ fields.back))) place
    ∙ ap (λ (state : TiersState g.row.T.Denot). slice_get (all_items state) c.args.place) c.self.view_is

pub returns-in-None : goal.returns-in-None
returns-in-None g c =
    let fields = c.self.inside in
    let tiers = fields.middle.items in
    let behind = c.args.place - c.len-first.result in
    let whole : c.len.result ≡ length tiers = search rules in
    let past : length tiers ≤ behind / 128 = search (rules, c.get-2.ensures.variant) in
    let long : length (items_in tiers) ≡ 128 * c.len.result = omega (arith, whole, length-items_in tiers c.self.invariant.full) in
    let place : length fields.front + behind ≡ c.args.place = omega (arith, c.len-first.ensures.len, c.if-place-first.false) in
    c.get-in-None.ensures
    ∙ sym (get_in_back fields.front (items_in tiers) fields.back behind (128 * c.len.result) long (omega (arith, whole, past)))
    ∙ ap (slice_get (fields.front ++ (items_in tiers ++ fields.back))) place
    ∙ ap (λ (state : TiersState g.row.T.Denot). slice_get (all_items state) c.args.place) c.self.view_is
