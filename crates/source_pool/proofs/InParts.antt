-- Jobs in two parts, of which the first one ends first.
use Rattle.std.proofs.Common.{◌≡◌, ◌+◌, ◌++◌, ◌∙◌, ℕ, List, length, ap, sym, subst, arith}
use Rattle.std.proofs.lemmas.List.{append_assoc, length-append}
use Rattle.app_laws.specs.Applications.{Application}
use Rattle.crew.specs.declared.answers.OverCause.{OverCause}
use Rattle.run_laws.specs.Jobs.{Job}
use Rattle.run_laws.specs.Progress.{Progress}
use Rattle.source_pool.specs.Course.{AreToEnd, RunPoint}
use Rattle.source_pool.specs.Performing.{EndAtFault, HaveEnded, MayEnd}
use Rattle.source_pool.specs.Round.{IsEndFault}

-- some jobs are such a first part and such a second one
pub record Parts {V : Type 0} (AreFirst AreMore : List (Job V) → Type 0) (jobs : List (Job V)) : Type 0 where
  pub first : List (Job V)
  pub more : List (Job V)
  pub are : jobs ≡ first ++ more
  pub of_first : AreFirst first
  pub of_more : AreMore more

module _ {V : Type 0} (app : Application V) (AreFirst AreMore AreAll : List (Job V) → Type 0) (parts : (jobs : List (Job V)) → AreAll jobs → Parts AreFirst AreMore jobs) where
  parts_are : (jobs others : List (Job V)) (such : AreAll jobs) → jobs ++ others ≡ (parts jobs such).first ++ ((parts jobs such).more ++ others)
  parts_are jobs others such =
      let its = parts jobs such in
      ap (λ (l : List (Job V)). l ++ others) its.are ∙ append_assoc its.first its.more others

  pub first_may_end : (now : Progress V) → MayEnd app AreAll now → MayEnd app AreFirst now
  first_may_end now may =
      let its = parts may.jobs may.such in
      record { to = may.to; jobs = its.first; others = its.more ++ may.others; such = its.of_first; ending = subst (AreToEnd app may.to now) (parts_are may.jobs may.others may.such) may.ending }

  pub more_may_end : (now mid : Progress V) → MayEnd app AreAll now → HaveEnded app AreFirst now mid → MayEnd app AreMore mid
  more_may_end now mid may ended =
      let its = parts may.jobs may.such in
      record {
        to = may.to;
        jobs = its.more;
        others = may.others;
        such = its.of_more;
        ending = (ended may.to its.first (its.more ++ may.others) its.of_first (subst (AreToEnd app may.to now) (parts_are may.jobs may.others may.such) may.ending)).0;
      }

  pub all_have_ended : (now mid next : Progress V) → HaveEnded app AreFirst now mid → HaveEnded app AreMore mid next → HaveEnded app AreAll now next
  all_have_ended now mid next first more to jobs others such ending =
      let its = parts jobs such in
      let one = first to its.first (its.more ++ others) its.of_first (subst (AreToEnd app to now) (parts_are jobs others such) ending) in
      let two = more to its.more others its.of_more one.0 in
      (two.0, omega (arith, one.1, two.1, ap length its.are, length-append its.first its.more))

  fault_at : (to : RunPoint V) (many other : ℕ) (why : OverCause) → many ≡ other → IsEndFault app to many why → IsEndFault app to other why
  fault_at to many other why same fault = subst (λ n. IsEndFault app to n why) same fault

  pub first_at_fault : (now : Progress V) (why : OverCause) → EndAtFault app AreFirst now why → EndAtFault app AreAll now why
  first_at_fault now why fault to jobs others such ending =
      let its = parts jobs such in
      let same = parts_are jobs others such in
      fault_at to (now.ended + length (its.first ++ (its.more ++ others))) (now.ended + length (jobs ++ others)) why (ap (λ (l : List (Job V)). now.ended + length l) (sym same))
      (fault to its.first (its.more ++ others) its.of_first (subst (AreToEnd app to now) same ending))

  pub more_at_fault : (now mid : Progress V) (why : OverCause) → HaveEnded app AreFirst now mid → EndAtFault app AreMore mid why → EndAtFault app AreAll now why
  more_at_fault now mid why first fault to jobs others such ending =
      let its = parts jobs such in
      let same = parts_are jobs others such in
      let one = first to its.first (its.more ++ others) its.of_first (subst (AreToEnd app to now) same ending) in
      let many : mid.ended + length (its.more ++ others) ≡ now.ended + length (jobs ++ others) = omega (arith, one.1, ap length same, length-append its.first (its.more ++ others)) in
      fault_at to (mid.ended + length (its.more ++ others)) (now.ended + length (jobs ++ others)) why many (fault to its.more others its.of_more one.0)
