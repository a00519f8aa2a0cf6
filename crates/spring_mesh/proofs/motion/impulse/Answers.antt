use Rattle.spring_mesh.proofs.Wide.{impulse_found, pull-fits}
use Rattle.spring_mesh.proofs.motion.impulse.Goals as goal

pub overflow_mul-spring : goal.overflow_mul-spring
overflow_mul-spring c = pull-fits c.requires.spring.0 c.args.spring.now c.args.rest c.args.from c.args.to c.requires.spring.1 c.requires.rest c.requires.from c.requires.to

pub returns : goal.returns
returns c =
    impulse_found c.requires.spring.0 c.args.spring.now c.args.rest c.args.from c.args.to c.saturating_mul.result c.requires.spring.1 c.requires.rest c.requires.from c.requires.to
    (record { sfits = c.saturating_mul.type_inv }) c.saturating_mul.ensures
