use Rattle.std.proofs.Common.{◌≡◌, ◌<◌, ◌%◌, ◌∷◌, ◌∙◌, ℕ, List, Some, ap, refl, sym, subst, length, arith, rules, slice_set}
use Rattle.std.specs.Prelude.{slice_get}
use Rattle.std.proofs.lemmas.Option.{slice_get_read}
use Rattle.plain_laws.specs.Lists.{nothing_left}
use Rattle.run_laws.specs.Jobs.{Done, Job}
use Rattle.source_pool.specs.declared.hands.Hand.{Hand}
use Rattle.source_pool.proofs.Dealing.{AreDealtBefore, all_dealt, none_dealt, one_dealt}
use Rattle.source_pool.proofs.hands.deal_in_turn.Goals as goal

pub loop-job-init : goal.loop-job-init
loop-job-init g c = record {
  dealt = none_dealt (length c.args.hands.now.items) c.args.jobs.now.items c.args.jobs.now.items c.args.hands.now.items c.requires.empty refl;
  few = omega arith;
}

pub loop-job-preserved : goal.loop-job-preserved
loop-job-preserved g c =
    let at = c.loop-job in
    let workers : ℕ = length c.args.hands.now.items in
    let number : ℕ = at.number in
    let job : Job g.row.V.Denot = c.in-Some.job in
    let rest : List (Job g.row.V.Denot) = c.pop_front.new.self.items in
    let hands : List (Hand (Job g.row.V.Denot) (Done g.row.V.Denot)) = at.hands.items in
    let hand : Hand (Job g.row.V.Denot) (Done g.row.V.Denot) = c.index_mut.result.now in
    let next : Hand (Job g.row.V.Denot) (Done g.row.V.Denot) = record hand { jobs = c.push_back.new.self } in
    let steps : at.jobs.items ≡ job ∷ rest = c.in-Some.ensures.items in
    let so_far : AreDealtBefore workers c.args.jobs.now.items number (job ∷ rest) hands =
    subst (λ (left : List (Job g.row.V.Denot)). AreDealtBefore workers c.args.jobs.now.items number left hands) steps at.invariant.dealt in
    let count : c.len.result ≡ workers = c.len.ensures ∙ at.hands.ok.0 ∙ so_far.count in
    let place : number % c.len.result ≡ number % workers = (λ i. number % count i) in
    let some : 0 < workers = c.requires.some in
    let inside : number % workers < workers = search rules in
    let there : slice_get hands (number % workers) ≡ Some hand =
    subst (λ k. slice_get hands k ≡ Some hand) place (slice_get_read hands workers (number % c.len.result) hand (sym so_far.count) (subst (λ k. k < workers) (sym place) inside) c.index_mut.ensures.value) in
    let few = at.invariant.few in
    let short = ap length steps in
    record {
      dealt = one_dealt workers c.args.jobs.now.items number job rest hands hand next (slice_set hands (number % c.len.result) next)
          so_far there c.in_ok-push_back.ensures.items (ap (λ k. slice_set hands k next) place);
      few = omega arith;
    }

pub returns : goal.returns
returns g c =
    let at = c.loop-job in
    all_dealt (length c.args.hands.now.items) c.args.jobs.now.items at.number at.jobs.items at.hands.items at.invariant.dealt
    (nothing_left c.pop_front.result at.jobs.items (λ some. c.pop_front.ensures.variant.1 (omega (arith, some))) c.in_default.not-Some)
