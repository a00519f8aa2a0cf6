use Rattle.mark_rounds.proofs.laws.basis.Goals as goal

pub returns : goal.returns
returns g c = λ app. record {
  lawful = c.lawful.ensures app;
  marked = c.marked_laws.ensures app;
  unbarred = c.free_laws.ensures;
  values = c.value_laws.ensures.values;
}
