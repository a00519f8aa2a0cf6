use Rattle.std.proofs.Common.{◌≡◌, ◌≤◌, ◌∙◌, [], ◌∷◌, length, rules, ap, sym, subst, arith}
use Rattle.std.proofs.lemmas.List.Edits.{length-insert}
use Rattle.std.specs.List.{AllByRecursion, insert}
use Rattle.output_log.specs.Blocks.{BlocksState, IsFilled}
use Rattle.output_log.proofs.BlockEntries.{AllByRecursion-insert, last_empty}
use Rattle.output_log.proofs.blocks.Blocks.insert_block.Goals as goal

pub returns-clause-blocks : goal.returns-clause-blocks
returns-clause-blocks c =
    let empty = last_empty c.self.inside.spare.items c.pop.new.self.items c.in-Some.block c.in-Some.ensures.items c.self.invariant.empty in
    let filled : c.insert.new.self ≡ c.args.entry ∷ [] = c.insert.ensures ∙ ap (λ block. insert block 0 c.args.entry) empty.1 in
    c.put_at.ensures.items ∙ ap (insert c.self.inside.blocks.items c.args.at) filled ∙ ap (λ (state : BlocksState). insert state.blocks c.args.at (c.args.entry ∷ [])) c.self.view_is

pub invariant_of-self : goal.invariant_of-self
invariant_of-self c =
    let blocks = c.self.inside.blocks.items in
    let empty = last_empty c.self.inside.spare.items c.pop.new.self.items c.in-Some.block c.in-Some.ensures.items c.self.invariant.empty in
    let filled : c.insert.new.self ≡ c.args.entry ∷ [] = c.insert.ensures ∙ ap (λ block. insert block 0 c.args.entry) empty.1 in
    let put = c.put_at.ensures.items ∙ ap (insert blocks c.args.at) filled in
    let spare = ap (λ (state : BlocksState). state.spare) c.self.view_is in
    let upto : c.args.at ≤ length blocks = search rules in
    record {
      filled = subst (AllByRecursion IsFilled) (sym put) (AllByRecursion-insert IsFilled blocks c.args.at (c.args.entry ∷ []) (omega arith, omega arith) c.self.invariant.filled);
      empty = empty.0;
      count = omega (arith, ap length put, length-insert blocks c.args.at (c.args.entry ∷ []) upto, spare, c.requires.room);
    }
