use Rattle.cell_store.proofs.AtHome.{writes_at_home}
use Rattle.cell_store.proofs.laws.home_laws.Goals as goal

pub returns : goal.returns
returns g c = writes_at_home
