use Rattle.mark_rounds.proofs.Clear.{clear_where_free}
use Rattle.mark_rounds.proofs.laws.marked_laws.Goals as goal

pub returns : goal.returns
returns g c = λ app. clear_where_free (g.A.App.meaning app) (c.lawful.ensures app) c.conflict_laws.ensures.decided c.free_laws.ensures
