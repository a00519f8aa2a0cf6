use Rattle.std.proofs.Common.{inl, inr, refl, arith}
use Rattle.example_app.proofs.Meetings.{from_taken, named_in_bundle, guest_fits, other_fits, guest_written, other_written, effect_found}
use Rattle.example_app.proofs.introductions.IntroductionsApp.run.Goals as goal

pub get-requires : goal.get-requires
get-requires c =
    let held = from_taken c.location_laws.ensures.parts c.value_laws.ensures.homes c.requires.fit c.requires.cells in
    named_in_bundle held c.args.task.now.body.at (inl refl)

pub overflow_cast-guest : goal.overflow_cast-guest
overflow_cast-guest c =
    let held = from_taken c.location_laws.ensures.parts c.value_laws.ensures.homes c.requires.fit c.requires.cells in
    omega (arith, guest_fits held c.get.result.now c.get.ensures.value)

pub get-requires-2 : goal.get-requires-2
get-requires-2 c =
    let held = from_taken c.location_laws.ensures.parts c.value_laws.ensures.homes c.requires.fit c.requires.cells in
    named_in_bundle held c.args.task.now.body.arg (inr (inl refl))

pub overflow_cast-other : goal.overflow_cast-other
overflow_cast-other c =
    let held = from_taken c.location_laws.ensures.parts c.value_laws.ensures.homes c.requires.fit c.requires.cells in
    omega (arith, other_fits held c.get-2.result.now c.get-2.ensures.value)

pub get_mut-requires : goal.get_mut-requires
get_mut-requires c =
    let held = from_taken c.location_laws.ensures.parts c.value_laws.ensures.homes c.requires.fit c.requires.cells in
    guest_written held c.get.result.now c.get.ensures.value

pub get_mut-requires-2 : goal.get_mut-requires-2
get_mut-requires-2 c =
    let held = from_taken c.location_laws.ensures.parts c.value_laws.ensures.homes c.requires.fit c.requires.cells in
    other_written held c.get-2.result.now c.get-2.ensures.value

pub returns-clause-effect : goal.returns-clause-effect
returns-clause-effect c =
    effect_found c.args.task.now {bundle = c.args.bundle} c.location_laws.ensures.parts c.value_laws.ensures.homes c.requires.fit c.get.result.now c.get-2.result.now c.from.result c.from-2.result c.in-Ok.children c.in-Ok-line.text
    c.get.ensures.value c.get-2.ensures.value c.from.ensures c.from-2.ensures c.in-Ok.ensures c.in-Ok-line.ensures
