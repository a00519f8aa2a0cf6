use Rattle.std.proofs.Common.{◌<◌, ◌++◌, ◌∙◌, length, arith, ap, sym}
use Rattle.std.proofs.lemmas.List.Edits.{remove-append_left}
use Rattle.std.specs.List.{remove}
use Rattle.tiered_list.specs.Tiers.{all_items, items_in}
use Rattle.tiered_list.proofs.tiers.Tiers.remove_anywhere.Goals as goal

pub returns-then-place-first-clause-items : goal.returns-then-place-first-clause-items
returns-then-place-first-clause-items g c =
    let fields = c.self.inside in
    let rest = items_in fields.middle.items ++ fields.back in
    let within : c.args.place < length fields.front = omega (arith, c.if-place-first.true, c.len-first.ensures.len) in
    ap (λ front. front ++ rest) c.remove.ensures.items
    ∙ sym (remove-append_left fields.front rest c.args.place within)
    ∙ ap (λ l. remove l c.args.place) (ap all_items c.self.view_is ∙ c.fill_back.ensures.items ∙ c.fill_front.ensures.items)
