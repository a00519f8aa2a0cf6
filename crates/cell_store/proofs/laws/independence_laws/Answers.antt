use Rattle.cell_store.proofs.Independent.{independent_order, independent_take, independent_give}
use Rattle.cell_store.proofs.laws.independence_laws.Goals as goal

pub returns-clause-order : goal.returns-clause-order
returns-clause-order g c = independent_order

pub returns-clause-take : goal.returns-clause-take
returns-clause-take g c = independent_take

pub returns-clause-give : goal.returns-clause-give
returns-clause-give g c = independent_give
