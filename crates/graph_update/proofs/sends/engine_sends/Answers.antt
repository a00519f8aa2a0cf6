-- An engine holds what its fields hold, in their order: the application, what is pending, the cells, and what was told.
use Rattle.graph_update.proofs.sends.engine_sends.Goals as goal

pub returns : goal.returns
returns g c ℓ = record {
  owned = λ x vs e. (
    (λ vss. (
      tt,
      (
        (tt, c.type_bounds.sync-A.shared e.0.app.now e.0.app.ref_ptr.0 e.0.app.ref_ptr.1 ℓ.lft),
        (
          c.sends.ensures.owned e.0.agenda vss.1.0,
          (
            c.store_sends.ensures.owned e.0.store vss.1.1.0,
            (c.tally_sends.ensures.owned e.0.tally vss.1.1.1.0, tt),
          ),
        ),
      ),
    )),
    tt,
  );
  leaving = λ k x w. tt;
}
