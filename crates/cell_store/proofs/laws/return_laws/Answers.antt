use Rattle.cell_store.proofs.Returns.{gives_back_what_was_taken, takes_back_what_was_given, giving_forgets_taking, taking_forgets_giving, regains_what_was_given}
use Rattle.cell_store.proofs.laws.return_laws.Goals as goal

pub returns-clause-gives_back : goal.returns-clause-gives_back
returns-clause-gives_back g c = gives_back_what_was_taken

pub returns-clause-takes_back : goal.returns-clause-takes_back
returns-clause-takes_back g c = takes_back_what_was_given

pub returns-clause-giving_forgets : goal.returns-clause-giving_forgets
returns-clause-giving_forgets g c = giving_forgets_taking

pub returns-clause-taking_forgets : goal.returns-clause-taking_forgets
returns-clause-taking_forgets g c = taking_forgets_giving

pub returns-clause-regains : goal.returns-clause-regains
returns-clause-regains g c = regains_what_was_given
