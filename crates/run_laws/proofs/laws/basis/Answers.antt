use Rattle.run_laws.proofs.laws.basis.Goals as goal

pub returns : goal.returns
returns g c = λ app. record {
  lawful = c.lawful.ensures app;
  lower = c.lower_laws.ensures;
  cells = c.cell_laws.ensures;
  starts_ready = c.standing_laws.ensures.starts_ready app;
}
