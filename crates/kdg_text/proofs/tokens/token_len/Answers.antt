use Rattle.std.proofs.Common.{sym, ◌∙◌}
use Rattle.kdg_text.proofs.Cuts.{tokens_of-word_end, tokens_of-one_word}
use Rattle.kdg_text.proofs.tokens.token_len.Goals as goal

pub returns-in-Some-clause-cut : goal.returns-in-Some-clause-cut
returns-in-Some-clause-cut c =
    tokens_of-word_end _ _ _ c.requires.some c.requires.skipped (sym c.is_mark.ensures ∙ c.if-is_mark.false) (sym c.in-Some.ensures)

pub returns-in-None-clause-cut : goal.returns-in-None-clause-cut
returns-in-None-clause-cut c = tokens_of-one_word _ _ c.requires.some (sym c.in-None.ensures)
