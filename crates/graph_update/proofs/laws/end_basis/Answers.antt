use Rattle.graph_update.proofs.laws.end_basis.Goals as goal

pub returns : goal.returns
returns g c = λ app. record {
  lower = c.finish_basis.ensures app;
  performed = c.performed_laws.ensures app;
  stay_ready = c.finish_state_laws.ensures.ready app;
}
