use Rattle.run_laws.proofs.EventsKeep.{events_keep_sound}
use Rattle.run_laws.proofs.laws.event_laws.Goals as goal

pub returns : goal.returns
returns g c = record { sound = λ app. events_keep_sound (c.basis.ensures app) (c.sound_finish_laws.ensures app) }
