use Rattle.std.proofs.Common.{◌*◌, sym, subst}
use Rattle.std.specs.Prelude.{IsSome, IsTrue}
use Rattle.rw_sets.specs.Accesses.{Accesses, access_at, writes}
use Rattle.logic_sim.specs.Lawful.{change_set-named, change_set-written}
use Rattle.logic_sim.proofs.Effects.{change_made}
use Rattle.logic_sim.proofs.circuit.Circuit.change_effect.Goals as goal

pub change-requires-clause-read : goal.change-requires-clause-read
change-requires-clause-read c = subst (λ (set : Accesses). IsSome (access_at set (2 * c.args.signal))) (sym c.requires.set) (change_set-named c.args.signal)

pub change-requires-clause-written : goal.change-requires-clause-written
change-requires-clause-written c = subst (λ (set : Accesses). IsTrue (writes set (2 * c.args.signal))) (sym c.requires.set) (change_set-written c.args.signal)

pub returns-in-Ok-clause-effect : goal.returns-in-Ok-clause-effect
returns-in-Ok-clause-effect c =
    change_made c.args.self.now (record { parts = c.location_laws.ensures.parts; values = c.value_laws.ensures.homes }) c.args.time c.args.signal c.args.value c.args.bundle c.change.new.cells c.in-Ok.children c.in-Ok.text
    c.requires.in_range c.in-Ok.ensures.cells c.in-Ok.ensures.children c.in-Ok.ensures.text
