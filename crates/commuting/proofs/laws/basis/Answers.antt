use Rattle.commuting.proofs.laws.basis.Goals as goal

pub returns : goal.returns
returns g c = λ app. record {
  lawful = c.lawful.ensures app;
  lower = c.lower_laws.ensures;
  runs = record {
    begins = c.execution_laws.ensures.begins (g.A.App.meaning app).act;
    greater_limits = c.execution_laws.ensures.greater_limits (g.A.App.meaning app).act;
    logs = c.execution_laws.ensures.logs (g.A.App.meaning app).act;
    ends = c.execution_laws.ensures.ends (g.A.App.meaning app).act;
  };
}
