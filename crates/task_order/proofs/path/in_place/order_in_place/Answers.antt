use Rattle.std.proofs.Common.{refl}
use Rattle.task_order.proofs.Words.{slice_cmp-in_place, tied-then, decided-then}
use Rattle.task_order.proofs.path.in_place.order_in_place.Goals as goal

pub returns-in-Equal-cmp : goal.returns-in-Equal-cmp
returns-in-Equal-cmp c =
    let steps = slice_cmp-in_place c.args.a.now c.args.b.now c.args.a_len c.args.b_len c.told-a c.told-b c.fits-a c.fits-b c.requires.a_within c.requires.b_within c.requires.a_padded c.requires.b_padded in
    tied-then _ _ _ c.cmp.result c.cmp-in-Equal-cmp.result steps (rw (c.word_at.ensures, c.word_at-2.ensures) at c.cmp.ensures) c.in-Equal.is
    (tied-then _ _ _ c.cmp-in-Equal.result c.cmp-in-Equal-cmp.result refl (rw (c.word_at-in-Equal.ensures, c.word_at-in-Equal-2.ensures) at c.cmp-in-Equal.ensures) c.in-Equal-cmp.is c.cmp-in-Equal-cmp.ensures)

pub returns-in_default-cmp : goal.returns-in_default-cmp
returns-in_default-cmp c =
    let steps = slice_cmp-in_place c.args.a.now c.args.b.now c.args.a_len c.args.b_len c.told-a c.told-b c.fits-a c.fits-b c.requires.a_within c.requires.b_within c.requires.a_padded c.requires.b_padded in
    tied-then _ _ _ c.cmp.result c.cmp-in-Equal.result steps (rw (c.word_at.ensures, c.word_at-2.ensures) at c.cmp.ensures) c.in-Equal.is
    (decided-then _ _ _ c.cmp-in-Equal.result refl (rw (c.word_at-in-Equal.ensures, c.word_at-in-Equal-2.ensures) at c.cmp-in-Equal.ensures) c.in_default-cmp.not-Equal)

pub returns-in_default : goal.returns-in_default
returns-in_default c =
    let steps = slice_cmp-in_place c.args.a.now c.args.b.now c.args.a_len c.args.b_len c.told-a c.told-b c.fits-a c.fits-b c.requires.a_within c.requires.b_within c.requires.a_padded c.requires.b_padded in
    decided-then _ _ _ c.cmp.result steps (rw (c.word_at.ensures, c.word_at-2.ensures) at c.cmp.ensures) c.in_default.not-Equal
