use Rattle.std.proofs.Common.{◌≡◌, ◌+◌, ◌<◌, ℕ, List, sym, ◌∙◌, ap, subst, rules, arith}
use Rattle.task_order.specs.PathCode.{numbers_of, IsPath}
use Rattle.task_order.proofs.PathCode.{numbers_of-item, IsPath-item, IsPath-zero}
use Rattle.task_order.proofs.path.grown.Goals as goal

pub invariant_of-result : goal.invariant_of-result
invariant_of-result c =
    let next : c.in_ok-zeros.zeros ≡ c.args.zeros + 1 = search rules in
    let fits : c.args.zeros + 1 < 18446744073709551616 = search rules in
    subst (λ (zeros : ℕ). IsPath c.args.bytes zeros) (sym next) (IsPath-zero c.args.bytes c.args.zeros c.requires fits)

pub invariant_of-result-2 : goal.invariant_of-result-2
invariant_of-result-2 c =
    subst (λ (bytes : List ℕ). IsPath bytes 0) (sym c.in_ok-push_item.ensures) (IsPath-item c.args.bytes c.args.zeros c.args.number c.requires (omega arith) (omega arith))

pub returns : goal.returns
returns c =
    ap (λ (bytes : List ℕ). numbers_of bytes 0) c.in_ok-push_item.ensures
    ∙ numbers_of-item c.args.bytes c.args.zeros c.args.number c.requires (omega arith) (omega arith)
