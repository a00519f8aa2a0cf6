-- What is so of executions that come to the same end.
use Rattle.std.proofs.Common.{Option, None, refl, Some, subst, ◌≡◌, List, ◌∷◌, ◌++◌, [], false, sym, ap, ◌≢◌, ◌∙◌}
use Rattle.std.specs.declared.cmp.Ordering.TheVariants.{Less}
use Rattle.std.specs.List.{AllByRecursion}
use Rattle.std.proofs.lemmas.Bool.{true≢false}
use Rattle.plain_laws.specs.Lists.{All-append, All-weaker}
use Rattle.task_order.specs.declared.task.Task.{Task}
use Rattle.task_order.specs.Key.{key_cmp}
use Rattle.task_order.specs.declared.key.Key.{Key}
use Rattle.output_log.specs.Entries.{Entry, IsNewEntry}
use Rattle.app_laws.specs.Execution.{Execution}
use Rattle.app_laws.specs.Order.{is_prefix}
use Rattle.app_laws.specs.ApartLaws.{is_prefix-same}
use Rattle.commuting.specs.Commuting.{BothEnd}
use Rattle.commuting.specs.Standing.{ComeBefore}

pub given_up : {V : Type 0} (R : Execution V → Execution V → Type 0) (first second : Option (Execution V)) → BothEnd R first second → second ≡ None → first ≡ None
given_up R None second both none = refl
given_up R (Some e) second both none = absurd (subst (BothEnd R (Some e)) none both)

pub end_beside : {V : Type 0} (R : Execution V → Execution V → Type 0) (first second : Option (Execution V)) (last : Execution V) → BothEnd R first second → second ≡ Some last
    → (e : Execution V) × (first ≡ Some e) × R e last
end_beside R None second last both is = absurd (subst (BothEnd R None) is both)
end_beside R (Some e) second last both is = (e, refl, subst (BothEnd R (Some e)) is both)

pub both_follow : {V : Type 0} (R S T : Execution V → Execution V → Type 0) → ((e other last : Execution V) → R e other → S other last → T e last)
    → (first second third : Option (Execution V)) → BothEnd R first second → BothEnd S second third → BothEnd T first third
both_follow R S T join None None None r s = tt
both_follow R S T join None None (Some last) r s = absurd s
both_follow R S T join None (Some other) third r s = absurd r
both_follow R S T join (Some e) None third r s = absurd r
both_follow R S T join (Some e) (Some other) None r s = absurd s
both_follow R S T join (Some e) (Some other) (Some last) r s = join e other last r s

pub both_before : (front back : List Entry) (tasks : List Task) → ComeBefore front tasks → ComeBefore back tasks → ComeBefore (front ++ back) tasks
both_before front back [] first last = tt
both_before front back (task ∷ tasks) first last = (All-append (λ (entry : Entry). key_cmp entry.0 task.key ≡ Less) front back first.0 last.0, both_before front back tasks first.1 last.1)

pub none_before : (tasks : List Task) → ComeBefore [] tasks
none_before [] = tt
none_before (task ∷ tasks) = (tt, none_before tasks)

-- a key from whose path that of no entry goes on has none of them
pub new_where_unlogged : (key : Key) (entries : List Entry) → AllByRecursion (λ entry. is_prefix key.path entry.0.path ≡ false) entries → IsNewEntry key entries
new_where_unlogged key =
    All-weaker (λ entry. is_prefix key.path entry.0.path ≡ false) (λ entry. entry.0 ≢ key)
    (λ entry none same. let path = is_prefix-same key.path in absurd (true≢false (sym path ∙ ap (λ (other : Key). is_prefix key.path other.path) (sym same) ∙ none)))
