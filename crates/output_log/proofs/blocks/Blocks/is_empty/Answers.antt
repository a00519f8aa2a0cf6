use Rattle.std.proofs.Common.{◌≡◌, rules, ap, length, subst, sym, ◌∙◌}
use Rattle.std.proofs.lemmas.Bool.{eq-eqb, eqb-true}
use Rattle.std.proofs.lemmas.List.{nil_from_length}
use Rattle.std.specs.List.{AllByRecursion}
use Rattle.std.specs.VecDeque.{deque_len}
use Rattle.output_log.specs.Blocks.{BlocksState, IsFilled}
use Rattle.output_log.proofs.BlockEntries.{no_entry}
use Rattle.output_log.proofs.blocks.Blocks.is_empty.Goals as goal

pub returns : goal.returns
returns c =
    let items = c.self.inside.blocks.items in
    let blocks = c.args.self.now.blocks in
    let same : items ≡ blocks = ap (λ (state : BlocksState). state.blocks) c.self.view_is in
    let none = no_entry blocks (subst (AllByRecursion IsFilled) same c.self.invariant.filled) in
    let len : length items ≡ deque_len c.self.inside.blocks = search (rules) in (
      λ empty. none.0 (sym same ∙ nil_from_length items (len ∙ eqb-true (deque_len c.self.inside.blocks) 0 (sym c.is_empty.ensures ∙ empty))),
      λ no_entries. c.is_empty.ensures ∙ eq-eqb (deque_len c.self.inside.blocks) 0 (sym len ∙ ap length (same ∙ none.1 no_entries)),
    )
