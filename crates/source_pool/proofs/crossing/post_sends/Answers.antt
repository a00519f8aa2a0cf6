-- A post holds what its fields hold, in their order: the application, and the worker's seats at its desks.
use mir.Syntax.{of_param}
use Rattle.source_pool.proofs.Exits.{unseen_is_quiet}
use Rattle.source_pool.proofs.crossing.post_sends.Goals as goal

pub sends-requires-3-send-T : goal.sends-requires-3-send-T
sends-requires-3-send-T g c κs within = record {
  owned = λ x vs e. (λ v. (tt, (((λ _. (tt, ((λ _. (tt, tt)), tt))), tt), (c.sends-2.ensures.owned e.0.list v.1.0, tt))), tt);
  leaving = λ k. unseen_is_quiet (k (of_param 0));
}

pub returns : goal.returns
returns g c ℓ = record {
  owned = λ x vs e. (
    tt,
    (
      (tt, c.type_bounds.sync-A.shared x.app.now x.app.ref_ptr.0 x.app.ref_ptr.1 ℓ.lft),
      (c.sends-3.ensures.owned x.servers e.1.0, tt),
    ),
  );
  leaving = λ k x w. (tt, (tt, tt));
}
