use Rattle.std.proofs.Common.{◌∙◌, sym, ap, arith}
use Rattle.task_order.specs.PathCode.{number_of}
use Rattle.task_order.proofs.Words.{take-eight, number_of-eight}
use Rattle.task_order.proofs.path.in_place.word_at.Goals as goal

pub returns : goal.returns
returns c =
    c.from_be_bytes.ensures ∙ number_of-eight _ _ _ _ _ _ _ _ ∙ ap (number_of 0) (sym (take-eight c.args.bytes.now c.args.at (omega arith)))
