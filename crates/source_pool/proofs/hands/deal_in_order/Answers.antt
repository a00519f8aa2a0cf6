use Rattle.std.proofs.Common.{◌≡◌, ◌<◌, ◌∷◌, ◌∙◌, ◌++◌, List, Some, ap, refl, subst, length, arith, rules, IsPermutation}
use Rattle.std.specs.Prelude.{slice_get}
use Rattle.std.proofs.lemmas.List.{length-set}
use Rattle.std.proofs.lemmas.Option.{slice_get_read}
use Rattle.plain_laws.specs.Lists.{nothing_left}
use Rattle.run_laws.specs.Jobs.{Done, Job}
use Rattle.source_pool.specs.declared.hands.Hand.{Hand}
use Rattle.source_pool.specs.Performing.{dealt_jobs}
use Rattle.source_pool.proofs.Dealing.{all_in_hands, none_dealt, one_in_hand}
use Rattle.source_pool.proofs.hands.deal_in_order.Goals as goal

pub loop-job-init : goal.loop-job-init
loop-job-init g c = record {
  count = refl;
  all = (none_dealt (length c.args.hands.now.items) c.args.jobs.now.items c.args.jobs.now.items c.args.hands.now.items c.requires.empty refl).all;
  few = omega arith;
}

pub loop-job-preserved : goal.loop-job-preserved
loop-job-preserved g c =
    let at = c.loop-job in
    let job : Job g.row.V.Denot = c.in-Some.job in
    let rest : List (Job g.row.V.Denot) = c.pop_front.new.self.items in
    let hands : List (Hand (Job g.row.V.Denot) (Done g.row.V.Denot)) = at.hands.items in
    let hand : Hand (Job g.row.V.Denot) (Done g.row.V.Denot) = c.index_mut.result.now in
    let next : Hand (Job g.row.V.Denot) (Done g.row.V.Denot) = record hand { jobs = c.push_back.new.self } in
    let steps : at.jobs.items ≡ job ∷ rest = c.in-Some.ensures.items in
    let inside : c.min-place.result < length hands = search rules in
    let there : slice_get hands c.min-place.result ≡ Some hand = slice_get_read hands (length hands) c.min-place.result hand refl inside c.index_mut.ensures.value in
    let few = at.invariant.few in
    let short = ap length steps in
    record {
      count = length-set hands c.min-place.result next ∙ at.invariant.count;
      all = one_in_hand c.args.jobs.now.items c.min-place.result job rest hands hand next
          (subst (λ (left : List (Job g.row.V.Denot)). IsPermutation c.args.jobs.now.items (dealt_jobs hands ++ left)) steps at.invariant.all) there c.in_ok-push_back.ensures.items;
      few = omega arith;
    }

pub returns-clause-count : goal.returns-clause-count
returns-clause-count g c = c.loop-job.invariant.count

pub returns-clause-all : goal.returns-clause-all
returns-clause-all g c =
    let at = c.loop-job in
    all_in_hands c.args.jobs.now.items at.jobs.items at.hands.items at.invariant.all
    (nothing_left c.pop_front.result at.jobs.items (λ some. c.pop_front.ensures.variant.1 (omega (arith, some))) c.in_default.not-Some)
