use Rattle.std.proofs.Common.{arith}
use Rattle.example_app.proofs.Meetings.{seen_fits}
use Rattle.example_app.proofs.introductions.IntroductionsApp.sets.Goals as goal

pub overflow_cast-second : goal.overflow_cast-second
overflow_cast-second g c = omega (arith, c.requires.fit.1.second)

pub overflow_cast-guest : goal.overflow_cast-guest
overflow_cast-guest g c =
    omega (arith, seen_fits c.args.self.now c.args.store.now c.requires.cells.0 c.args.body.now.at c.in-At.guest.now c.requires.cells.1 c.requires.cells.2 c.requires.fit.1.first c.in-At.ensures)

pub overflow_cast-other : goal.overflow_cast-other
overflow_cast-other g c =
    omega (arith, seen_fits c.args.self.now c.args.store.now c.requires.cells.0 c.args.body.now.arg c.in-At-peek.other.now c.requires.cells.1 c.requires.cells.2 c.requires.fit.1.second c.in-At-peek.ensures)
