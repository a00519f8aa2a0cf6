use Rattle.std.proofs.Common.{◌≡◌, ℕ, List, ◌∙◌, ap, subst}
use Rattle.std.specs.Prelude.{IfOk}
use Rattle.output_log.specs.Blocks.{entries_to}
use Rattle.output_log.specs.Entries.{joined_texts}
use Rattle.output_log.specs.LogState.{LogState}
use Rattle.output_log.proofs.BlockEntries.{up_to_all}
use Rattle.output_log.proofs.Written.{all_texts_are_written}
use Rattle.output_log.proofs.log.Log.all.Goals as goal

pub returns : goal.returns
returns c =
    let joined : joined_texts (entries_to c.self.inside.blocks.blocks c.count.result 0) ≡ joined_texts c.args.self.now.entries =
    ap joined_texts (ap (λ at. entries_to c.self.inside.blocks.blocks at 0) c.count.ensures ∙ up_to_all c.self.inside.blocks.blocks ∙ c.self.invariant.1)
    ∙ all_texts_are_written c.self.inside.seen ∙ ap (λ (log : LogState). joined_texts log.entries) c.self.view_is in
    subst (λ (texts : List ℕ). IfOk c.texts_to.result (λ text. text ≡ texts)) joined c.texts_to.ensures
