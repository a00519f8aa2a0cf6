-- The adder's deed, and what its operator leaves.
use Rattle.std.proofs.Common.{◌≡◌, ◌≢◌, ◌+◌, ◌<◌, ◌≤◌, ◌^◌, ℕ, zero, suc, List, [], ◌∷◌, ◌++◌, length, refl, sym, ap, subst, arith, lit<}
use Rattle.std.specs.Prelude.{◌%◌, codes, decimal, nat_lt}
use Rattle.std.specs.List.{AllByRecursion}
use Rattle.std.proofs.lemmas.Bool.{cond_both}
use Rattle.std.proofs.lemmas.Bool.Decides.{nat_tests}
use Rattle.task_order.specs.declared.start.Start.{Start}
use Rattle.rw_sets.specs.declared.access.Access.TheVariants.{Read}
use Rattle.rw_sets.specs.Accesses.{Accesses, IsAscending, IsInRange}
use Rattle.rw_sets.specs.AccessLaws.{ascending_cons}
use Rattle.app_laws.specs.LineLaws.{ends_with_line_feed}
use Rattle.hook_app.specs.Hooked.{AreValuesOf, FitTogether, IsFitDeed, set_at}
use Rattle.hook_app.specs.OneLocation.{own_ascending, own_in_range, own_set}
use Rattle.hook_app.specs.Values.{KeepsRead}
use Rattle.engine_trials.specs.Adding.{added, adding, adding_sets, sum_of, sum_set, summed}

-- ---- the parts belong together

own_at : (at : ℕ) → at < 3 → at ≢ 2 → set_at adding_sets at ≡ own_set at
own_at zero below other = refl
own_at (suc zero) below other = refl
own_at (suc (suc zero)) below other = absurd (other refl)
own_at (suc (suc (suc at))) below other = absurd (omega arith)

sum_ascending : IsAscending sum_set
sum_ascending = ascending_cons (0, Read) _ (omega arith, (omega arith, tt)) (ascending_cons (1, Read) _ (omega arith, tt) (own_ascending 2))

sum_in_range : IsInRange sum_set 3
sum_in_range loc named = grind (arith, nat_tests)

added_fit : (start : Start) (ahead : ℕ) (values : List ℕ) → ahead ≤ 1 → start.body.at < 3 → set_at adding_sets start.body.at ≡ own_set start.body.at → AreValuesOf adding (set_at adding_sets start.body.at) values
    → IsFitDeed adding adding_sets ahead start values (added start values)
added_fit start ahead [] near below is are = absurd (let e : length (set_at adding_sets start.body.at) ≡ 1 = ap length is in omega (arith, are.one_each, e))
added_fit start ahead (value ∷ []) near below is are =
    let next = record { prio = start.prio + 1; body = start.body } ∷ [] in record {
      new_values = record { one_each = are.one_each; fit = (omega arith, tt) };
      read_kept = subst (λ (set : Accesses). KeepsRead set (value ∷ []) (((value + start.body.arg) % 2 ^ 64) ∷ [])) (sym is) tt;
      children = cond_both (nat_lt start.prio 2) next [] (AllByRecursion (λ (child : Start). (child.body.at < 3) × (child.prio ≤ 3))) (λ more. ((below, grind (arith, nat_tests, more)), tt)) (λ last. tt);
      few = cond_both (nat_lt start.prio 2) next [] (λ (children : List Start). length children < 2 ^ 32) (λ more. lit< tt) (λ last. lit< tt);
      lines = tt;
      late = cond_both (nat_lt start.prio 2) next [] (AllByRecursion (λ (child : Start). start.prio + ahead ≤ child.prio)) (λ more. (omega arith, tt)) (λ last. tt);
    }
added_fit start ahead (value ∷ other ∷ values) near below is are = absurd (let e : length (set_at adding_sets start.body.at) ≡ 1 = ap length is in omega (arith, are.one_each, e))

summed_fit : (prio kind arg ahead : ℕ) (values : List ℕ) → AreValuesOf adding sum_set values
    → IsFitDeed adding adding_sets ahead (record { prio = prio; body = record { kind = kind; at = 2; arg = arg } }) values (summed values)
summed_fit prio kind arg ahead [] are = absurd (omega (arith, are.one_each))
summed_fit prio kind arg ahead (left ∷ []) are = absurd (omega (arith, are.one_each))
summed_fit prio kind arg ahead (left ∷ right ∷ []) are = absurd (omega (arith, are.one_each))
summed_fit prio kind arg ahead (left ∷ right ∷ old ∷ []) are = record {
  new_values = record { one_each = refl; fit = (are.fit.0, (are.fit.1.0, (omega arith, tt))) };
  read_kept = (refl, (refl, tt));
  children = tt;
  few = lit< tt;
  lines = ends_with_line_feed (codes "sum " ++ decimal (sum_of left right));
  late = tt;
}
summed_fit prio kind arg ahead (left ∷ right ∷ old ∷ more ∷ values) are = absurd (omega (arith, are.one_each))

deed_fit : (prio kind at arg ahead : ℕ) (values : List ℕ) → ahead ≤ 1 → at < 3 → AreValuesOf adding (set_at adding_sets at) values →
    let start : Start = record { prio = prio; body = record { kind = kind; at = at; arg = arg } } in IsFitDeed adding adding_sets ahead start values (adding.deed start values)
deed_fit prio kind zero arg ahead values near below are = added_fit (record { prio = prio; body = record { kind = kind; at = 0; arg = arg } }) ahead values near below refl are
deed_fit prio kind (suc zero) arg ahead values near below are = added_fit (record { prio = prio; body = record { kind = kind; at = 1; arg = arg } }) ahead values near below refl are
deed_fit prio kind (suc (suc zero)) arg ahead values near below are = summed_fit prio kind arg ahead values are
deed_fit prio kind (suc (suc (suc at))) arg ahead values near below are = absurd (omega arith)

pub adding_together : (ahead : ℕ) → ahead ≤ 1 → FitTogether adding 3 adding_sets ahead
adding_together ahead near = record {
  ascending = (own_ascending 0, (own_ascending 1, (sum_ascending, tt)));
  below = (own_in_range 0 3 (omega arith), (own_in_range 1 3 (omega arith), (sum_in_range, tt)));
  at_sets = λ prio body fit. fit.0;
  deeds_fit = λ start values fit are. deed_fit start.prio start.body.kind start.body.at start.body.arg ahead values near fit.0 are;
}
