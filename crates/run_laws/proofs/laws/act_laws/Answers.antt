use Rattle.run_laws.proofs.ActsKeep.{act_faults_keep_sound, acts_act_on_whole, acts_keep_sound}
use Rattle.run_laws.proofs.laws.act_laws.Goals as goal

pub returns-clause-sound : goal.returns-clause-sound
returns-clause-sound g c = λ app old now id acted. acts_keep_sound (c.basis.ensures app) (c.sound_finish_laws.ensures app) acted

pub returns-clause-fault : goal.returns-clause-fault
returns-clause-fault g c = λ app old now id fault is. act_faults_keep_sound (c.basis.ensures app) fault is

pub returns-clause-whole : goal.returns-clause-whole
returns-clause-whole g c = λ app. acts_act_on_whole (c.basis.ensures app) (c.finish_state_laws.ensures.whole app)
