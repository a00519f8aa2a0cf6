use Rattle.std.proofs.Common.{◌∙◌, length, refl, ap, subst, arith}
use Rattle.free_pool.specs.Turns.{IsAnswer}
use Rattle.free_pool.proofs.ClaimsInTurn.{longer, none_claimed, none_there, none_to_perform, one_claimed_by, some_there}
use Rattle.free_pool.proofs.turns.claim_tasks.Goals as goal

pub loop-pick-init : goal.loop-pick-init
loop-pick-init g c =
    let old = c.args.engine.now in
    record { app = refl; claiming = none_claimed (g.A.App.meaning old.app) (c.move_laws.ensures.stays old.app) old.progress c.args.jobs.now.items c.requires.none }

pub loop-pick-preserved : goal.loop-pick-preserved
loop-pick-preserved g c =
    let old = c.args.engine.now in
    let at = c.loop-pick in
    let claim = c.claim_next-next in
    let claiming = one_claimed_by g.A.App.meaning at.engine.app old.app at.invariant.app (c.move_laws.ensures.follow old.app) old.progress at.engine.progress claim.new.engine.progress at.jobs.items claim.new.jobs.items claim.result
    at.invariant.claiming claim.ensures.moved claim.ensures.claimed claim.ensures.drained in
    record { app = claim.ensures.app ∙ at.invariant.app; claiming = claiming }

pub loop-pick-smaller : goal.loop-pick-smaller
loop-pick-smaller g c =
    let at = c.loop-pick in
    let claim = c.claim_next-next in
    let more = longer (g.A.App.meaning at.engine.app) at.jobs.items claim.new.jobs.items claim.result claim.ensures.claimed c.in-Perform.is in
    omega (arith, more, at.jobs.ok.0)

pub returns-then-is_empty-clause-moved : goal.returns-then-is_empty-clause-moved
returns-then-is_empty-clause-moved g c =
    let old = c.args.engine.now in
    let at = c.loop-pick in
    let claim = c.claim_next-next in
    let claiming = one_claimed_by g.A.App.meaning at.engine.app old.app at.invariant.app (c.move_laws.ensures.follow old.app) old.progress at.engine.progress claim.new.engine.progress at.jobs.items claim.new.jobs.items claim.result
    at.invariant.claiming claim.ensures.moved claim.ensures.claimed claim.ensures.drained in
    claiming.moved

pub returns-then-is_empty-clause-drained : goal.returns-then-is_empty-clause-drained
returns-then-is_empty-clause-drained g c =
    let old = c.args.engine.now in
    let at = c.loop-pick in
    let claim = c.claim_next-next in
    let claiming = one_claimed_by g.A.App.meaning at.engine.app old.app at.invariant.app (c.move_laws.ensures.follow old.app) old.progress at.engine.progress claim.new.engine.progress at.jobs.items claim.new.jobs.items claim.result
    at.invariant.claiming claim.ensures.moved claim.ensures.claimed claim.ensures.drained in
    claiming.drained

pub returns-then-is_empty-clause-may_run : goal.returns-then-is_empty-clause-may_run
returns-then-is_empty-clause-may_run g c =
    let old = c.args.engine.now in
    let at = c.loop-pick in
    let claim = c.claim_next-next in
    let claiming = one_claimed_by g.A.App.meaning at.engine.app old.app at.invariant.app (c.move_laws.ensures.follow old.app) old.progress at.engine.progress claim.new.engine.progress at.jobs.items claim.new.jobs.items claim.result
    at.invariant.claiming claim.ensures.moved claim.ensures.claimed claim.ensures.drained in
    claiming.may_run

pub returns-in_default-clause-moved : goal.returns-in_default-clause-moved
returns-in_default-clause-moved g c =
    let old = c.args.engine.now in
    let at = c.loop-pick in
    let claim = c.claim_next-next in
    let claiming = one_claimed_by g.A.App.meaning at.engine.app old.app at.invariant.app (c.move_laws.ensures.follow old.app) old.progress at.engine.progress claim.new.engine.progress at.jobs.items claim.new.jobs.items claim.result
    at.invariant.claiming claim.ensures.moved claim.ensures.claimed claim.ensures.drained in
    claiming.moved

pub returns-in_default-clause-drained : goal.returns-in_default-clause-drained
returns-in_default-clause-drained g c =
    let old = c.args.engine.now in
    let at = c.loop-pick in
    let claim = c.claim_next-next in
    let claiming = one_claimed_by g.A.App.meaning at.engine.app old.app at.invariant.app (c.move_laws.ensures.follow old.app) old.progress at.engine.progress claim.new.engine.progress at.jobs.items claim.new.jobs.items claim.result
    at.invariant.claiming claim.ensures.moved claim.ensures.claimed claim.ensures.drained in
    claiming.drained

pub returns-in_default-clause-may_run : goal.returns-in_default-clause-may_run
returns-in_default-clause-may_run g c =
    let old = c.args.engine.now in
    let at = c.loop-pick in
    let claim = c.claim_next-next in
    let claiming = one_claimed_by g.A.App.meaning at.engine.app old.app at.invariant.app (c.move_laws.ensures.follow old.app) old.progress at.engine.progress claim.new.engine.progress at.jobs.items claim.new.jobs.items claim.result
    at.invariant.claiming claim.ensures.moved claim.ensures.claimed claim.ensures.drained in
    claiming.may_run

pub returns-then-is_empty-clause-claimed : goal.returns-then-is_empty-clause-claimed
returns-then-is_empty-clause-claimed g c =
    let claim = c.claim_next-next in
    none_to_perform (g.A.App.meaning c.loop-pick.engine.app) c.loop-pick.jobs.items claim.new.jobs.items claim.result claim.ensures.claimed
    (none_there claim.new.jobs.items claim.new.jobs.len c.is_empty.result claim.new.jobs.ok.0 c.is_empty.ensures c.if-is_empty.true)

pub returns-then-is_empty-clause-answer : goal.returns-then-is_empty-clause-answer
returns-then-is_empty-clause-answer g c =
    let claim = c.claim_next-next in
    subst (λ (a : g.row.A.Denot). IsAnswer (g.A.App.meaning a) claim.new.engine.progress claim.result) c.loop-pick.invariant.app claim.ensures.answer

pub returns-in_default-clause-claimed : goal.returns-in_default-clause-claimed
returns-in_default-clause-claimed g c =
    let jobs = c.claim_next-next.new.jobs in
    some_there jobs.items jobs.len c.is_empty.result jobs.ok.0 c.is_empty.ensures c.if-is_empty.false

pub returns-clause-moved : goal.returns-clause-moved
returns-clause-moved g c = c.loop-pick.invariant.claiming.moved

pub returns-clause-drained : goal.returns-clause-drained
returns-clause-drained g c = c.loop-pick.invariant.claiming.drained

pub returns-clause-may_run : goal.returns-clause-may_run
returns-clause-may_run g c = c.loop-pick.invariant.claiming.may_run

pub returns-clause-claimed : goal.returns-clause-claimed
returns-clause-claimed g c none = absurd (omega (arith, ap length none, c.loop-pick.jobs.ok.0))
