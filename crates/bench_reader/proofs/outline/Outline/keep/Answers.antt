use Rattle.std.proofs.Common.{◌≡◌, ◌∙◌, ap, map, [], ◌∷◌, ◌++◌}
use Rattle.std.proofs.lemmas.List.{map-append}
use Rattle.bench_reader.specs.Statements.{numbered_form}
use Rattle.bench_reader.proofs.Tables.{IsIndexed-push}
use Rattle.bench_reader.proofs.outline.Outline.keep.Goals as goal

pub invariant_of-self-2 : goal.invariant_of-self-2
invariant_of-self-2 c =
    let lines = c.self.inside.lines.items in
    let longer : map numbered_form c.push_reserved.new.self.items ≡ map numbered_form lines ++ numbered_form c.args.line ∷ [] =
    ap (map numbered_form) (c.push_reserved.ensures.items ∙ ap (λ items. items ++ c.args.line ∷ []) c.reserve.ensures.items)
    ∙ map-append numbered_form lines (c.args.line ∷ []) in
    rw (longer, c.with-self-inside.ensures)
    (IsIndexed-push _ _ _ (map numbered_form lines) c.args.line.number _ c.self.invariant (rw c.self.view_is c.requires) c.in_ok-add.ensures.ok)
