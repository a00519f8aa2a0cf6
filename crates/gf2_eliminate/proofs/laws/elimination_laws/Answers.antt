use Rattle.gf2_eliminate.specs.Lawful.{are_lawful}
use Rattle.gf2_eliminate.proofs.laws.elimination_laws.Goals as goal

pub returns : goal.returns
returns context = λ rows columns. are_lawful rows columns
