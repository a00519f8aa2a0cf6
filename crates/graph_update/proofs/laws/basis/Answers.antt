use Rattle.graph_update.proofs.laws.basis.Goals as goal

pub returns : goal.returns
returns g c = λ app. record {
  lawful = c.lawful.ensures app;
  lower = c.lower_laws.ensures;
  starts_mark = c.put_laws.ensures.marks_one;
  claims = c.claim_laws.ensures.sound app;
  one_clear = c.clear_claim_laws.ensures.one app;
  clear_home = c.clear_laws.ensures.home app;
  some_clear = c.clear_laws.ensures.some app;
  jobs_run = c.job_laws.ensures app;
  marks = c.drain_laws.ensures.sound app;
  acts = c.act_laws.ensures.sound app;
  faults = c.act_laws.ensures.fault app;
  no_jobs = c.rest_laws.ensures.no_jobs app;
  at_rest = c.rest_laws.ensures.rest app;
  idle = c.rest_laws.ensures.idle app;
  listed_fit = c.renaming_laws.ensures.fit app;
  as_many = c.renaming_laws.ensures.as_many app;
}
