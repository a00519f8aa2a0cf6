use Rattle.std.proofs.Common.{length, subst, Ok, None, ◌≡◌}
use Rattle.spring_mesh.specs.Files.{form_fault}
use Rattle.spring_mesh.proofs.Sound.{ends-fit}
use Rattle.spring_mesh.proofs.draft.Draft.keep.Goals as goal

pub spring_from-requires-clause-a : goal.spring_from-requires-clause-a
spring_from-requires-clause-a c =
    (ends-fit (length c.args.self.now.nodes) (length c.args.self.now.springs) c.in-Spring.spring c.requires.few
    (subst (λ statement. form_fault (length c.args.self.now.nodes) (length c.args.self.now.springs) (Ok statement) ≡ None) c.in-Spring.is c.requires.fits)).0

pub spring_from-requires-clause-b : goal.spring_from-requires-clause-b
spring_from-requires-clause-b c =
    (ends-fit (length c.args.self.now.nodes) (length c.args.self.now.springs) c.in-Spring.spring c.requires.few
    (subst (λ statement. form_fault (length c.args.self.now.nodes) (length c.args.self.now.springs) (Ok statement) ≡ None) c.in-Spring.is c.requires.fits)).1
