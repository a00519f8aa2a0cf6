use Rattle.std.proofs.Common.{◌≡◌, length, get_or, arith, refl}
use Rattle.rw_sets.specs.declared.access.Access.TheVariants.{Read}
use Rattle.cell_store.proofs.Exchanges.{exchange_few, length_given_at, place_within}
use Rattle.cell_store.proofs.few_cells.FewCells.exchange.Goals as goal

pub exchange_at-requires : goal.exchange_at-requires
exchange_at-requires g c = place_within c.args.home.now c.args.home.now c.args.set.now 0 c.requires.ascending c.requires.in_range refl

-- no exchange changes how many cells there are
pub exchange_at-requires-2 : goal.exchange_at-requires-2
exchange_at-requires-2 g c =
    let one : length c.exchange_at.new.home ≡ length c.args.home.now = rw c.exchange_at.ensures.home (length_given_at c.args.home.now c.args.home.now (get_or c.args.set.now 0 (0, Read)) c.args.self.now.first refl) in
    place_within c.args.home.now c.exchange_at.new.home c.args.set.now 1 c.requires.ascending c.requires.in_range one

pub exchange_at-requires-3 : goal.exchange_at-requires-3
exchange_at-requires-3 g c =
    let one : length c.exchange_at.new.home ≡ length c.args.home.now = rw c.exchange_at.ensures.home (length_given_at c.args.home.now c.args.home.now (get_or c.args.set.now 0 (0, Read)) c.args.self.now.first refl) in
    let two : length c.exchange_at-2.new.home ≡ length c.args.home.now = rw c.exchange_at-2.ensures.home (length_given_at c.args.home.now c.exchange_at.new.home (get_or c.args.set.now 1 (0, Read)) c.args.self.now.second one) in
    place_within c.args.home.now c.exchange_at-2.new.home c.args.set.now 2 c.requires.ascending c.requires.in_range two

pub exchange_at-requires-4 : goal.exchange_at-requires-4
exchange_at-requires-4 g c =
    let one : length c.exchange_at.new.home ≡ length c.args.home.now = rw c.exchange_at.ensures.home (length_given_at c.args.home.now c.args.home.now (get_or c.args.set.now 0 (0, Read)) c.args.self.now.first refl) in
    let two : length c.exchange_at-2.new.home ≡ length c.args.home.now = rw c.exchange_at-2.ensures.home (length_given_at c.args.home.now c.exchange_at.new.home (get_or c.args.set.now 1 (0, Read)) c.args.self.now.second one) in
    let three : length c.exchange_at-3.new.home ≡ length c.args.home.now = rw c.exchange_at-3.ensures.home (length_given_at c.args.home.now c.exchange_at-2.new.home (get_or c.args.set.now 2 (0, Read)) c.args.self.now.third two) in
    place_within c.args.home.now c.exchange_at-3.new.home c.args.set.now 3 c.requires.ascending c.requires.in_range three

pub returns-clause-home : goal.returns-clause-home
returns-clause-home g c = rw (c.exchange_at-4.ensures.home, c.exchange_at-3.ensures.home, c.exchange_at-2.ensures.home, c.exchange_at.ensures.home, c.requires.one_each) (exchange_few c.args.home.now _ _ _ _ c.args.set.now (omega (arith, c.args.self.now.few, c.requires.one_each)) c.requires.ascending c.requires.in_range).home

pub returns-clause-held : goal.returns-clause-held
returns-clause-held g c = rw (c.exchange_at-4.ensures.held, c.exchange_at-3.ensures.held, c.exchange_at-2.ensures.held, c.exchange_at.ensures.held, c.exchange_at-3.ensures.home, c.exchange_at-2.ensures.home, c.exchange_at.ensures.home, c.requires.one_each) (exchange_few c.args.home.now _ _ _ _ c.args.set.now (omega (arith, c.args.self.now.few, c.requires.one_each)) c.requires.ascending c.requires.in_range).held
