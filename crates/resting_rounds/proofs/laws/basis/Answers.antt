use Rattle.resting_rounds.proofs.laws.basis.Goals as goal

pub returns : goal.returns
returns g c = λ app. record {
  lawful = c.lawful.ensures app;
  resting = c.rest_laws.ensures app;
  decided = c.conflict_laws.ensures.decided;
  distinct = c.ascending_laws.ensures.distinct;
  equal = c.earlier_laws.ensures.equal;
  new_key = c.without_laws.ensures.new_key;
}
