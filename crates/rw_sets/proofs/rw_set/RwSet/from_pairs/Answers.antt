use Rattle.std.proofs.Common.{[], sym, ◌∙◌, rules}
use Rattle.std.proofs.lemmas.List.Sorted.{IsNonDecreasingBy-from_sort_by_key}
use Rattle.rw_sets.specs.AccessLaws.{ascending_none}
use Rattle.rw_sets.specs.MergeLaws.{ascending_merged}
use Rattle.rw_sets.specs.PairLaws.{pairs_in_any_order}
use Rattle.rw_sets.proofs.rw_set.RwSet.from_pairs.Goals as goal

pub join_repeats-requires : goal.join_repeats-requires
join_repeats-requires c = record { sorted = IsNonDecreasingBy-from_sort_by_key (λ pair. pair.0) _ c.sort_unstable_by_key.ensures.sorted (λ a r q k. search rules) }

pub invariant_of-result : goal.invariant_of-result
invariant_of-result c = rw (c.from_vec-pairs.ensures, c.join_repeats.ensures) (ascending_merged [] c.sort_unstable_by_key.new.self.items ascending_none)

pub returns : goal.returns
returns c = c.from_vec-pairs.ensures ∙ c.join_repeats.ensures ∙ sym (pairs_in_any_order [] _ _ ascending_none c.sort_unstable_by_key.ensures.permutation)
