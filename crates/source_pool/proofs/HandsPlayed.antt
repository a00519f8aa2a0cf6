-- Hands of jobs, and what becomes of each of them.
use Rattle.std.proofs.Common.{◌≡◌, ◌<◌, ℕ, zero, suc, true, false, cond, List, [], ◌∷◌, ◌++◌, Option, Some, None, length, get_or, take, drop, refl, ◌∙◌, ap, subst, arith, IsPermutation}
use Rattle.std.specs.List.{All, AllByRecursion, AllZip}
use Rattle.std.specs.Option.{option_map}
use Rattle.std.proofs.lemmas.List.{append-nil, drop_all, take_all}
use Rattle.std.proofs.lemmas.List.Elements.{All-from_recursion, length_all_zip, recursion_from_All}
use Rattle.std.proofs.lemmas.Option.{same_Some}
use Rattle.std.proofs.lemmas.List.Sorted.{All-permutation}
use Rattle.app_laws.specs.Applications.{Application}
use Rattle.run_laws.specs.Jobs.{Done, Job}
use Rattle.source_pool.specs.declared.hands.Hand.{Hand}
use Rattle.source_pool.specs.Course.{IsJobDone}
use Rattle.source_pool.specs.Performing.{IsPlayed, dealt_jobs, gathered}
use Rattle.source_pool.proofs.Lists.{AllZip-append}

module _ {V : Type 0} where
  all_front : (P : Job V → Type 0) (jobs others : List (Job V)) → AllByRecursion P (jobs ++ others) → AllByRecursion P jobs × AllByRecursion P others
  all_front P [] others all = (tt, all)
  all_front P (job ∷ jobs) others all = let rest : AllByRecursion P jobs × AllByRecursion P others = all_front P jobs others all.1 in ((all.0, rest.0), rest.1)

  each_hand : (P : Job V → Type 0) (hands : List (Hand (Job V) (Done V))) → AllByRecursion P (dealt_jobs hands) → All (λ (hand : Hand (Job V) (Done V)). AllByRecursion P hand.jobs.items) hands
  each_hand P [] all k d inside = absurd (omega (arith, inside))
  each_hand P (hand ∷ hands) all zero d inside = (all_front P hand.jobs.items (dealt_jobs hands) all).0
  each_hand P (hand ∷ hands) all (suc k) d inside = each_hand P hands (all_front P hand.jobs.items (dealt_jobs hands) all).1 k d (omega (arith, inside))

  -- what holds of all jobs holds of those in each hand
  pub in_each_hand : (P : Job V → Type 0) (jobs : List (Job V)) (hands : List (Hand (Job V) (Done V))) → IsPermutation jobs (dealt_jobs hands) → AllByRecursion P jobs
      → All (λ (hand : Hand (Job V) (Done V)). AllByRecursion P hand.jobs.items) hands
  in_each_hand P jobs hands dealt all = each_hand P hands
      (recursion_from_All P (dealt_jobs hands) (All-permutation P jobs (dealt_jobs hands) dealt (All-from_recursion P jobs all)))

module _ {V : Type 0} (app : Application V) where
  -- from what became of the hand at each place
  pub played : (olds nows : List (Hand (Job V) (Done V))) → length nows ≡ length olds
      → ((k : ℕ) (d : Hand (Job V) (Done V)) → k < length olds → IsPlayed app (get_or olds k d) (get_or nows k d)) → AllZip (IsPlayed app) olds nows
  played [] [] long each = tt
  played [] (now ∷ nows) long each = absurd (omega (arith, long))
  played (old ∷ olds) [] long each = absurd (omega (arith, long))
  played (old ∷ olds) (now ∷ nows) long each = (each 0 old (omega arith), played olds nows (omega (arith, long)) (λ k d inside. each (suc k) d (omega (arith, inside))))

  -- the hands as they are given back to the vector that lent them
  pub given_back : (count : ℕ) (olds nows : List (Hand (Job V) (Done V))) → AllZip (IsPlayed app) olds nows → count ≡ length olds → take count (nows ++ drop (length nows) olds) ≡ nows
  given_back count olds nows each all =
      let same = length_all_zip (IsPlayed app) olds nows each in
      ap (λ (rest : List (Hand (Job V) (Done V))). take count (nows ++ rest)) (drop_all (length nows) olds (omega (arith, same)))
      ∙ ap (take count) (append-nil nows) ∙ take_all count nows (omega (arith, same, all))

  -- all together
  pub all_played : (olds nows : List (Hand (Job V) (Done V))) (dones : List (Done V)) → AllZip (IsPlayed app) olds nows → gathered nows ≡ Some dones → AllZip (IsJobDone app) (dealt_jobs olds) dones
  all_played [] [] dones each all = subst (AllZip (IsJobDone app) []) (same_Some [] dones all) tt
  all_played [] (now ∷ nows) dones each all = absurd each
  all_played (old ∷ olds) [] dones each all = absurd each
  all_played (old ∷ olds) (now ∷ nows) dones each all =
      let by_done : (done : _) → now.is_done ≡ done → cond done (option_map (λ rest. now.dones.items ++ rest) (gathered nows)) None ≡ Some dones → AllZip (IsJobDone app) (old.jobs.items ++ dealt_jobs olds) dones = elim [
        | true ↦ λ is whole.
            let by_rest : (rest : Option (List (Done V))) → gathered nows ≡ rest → option_map (λ more. now.dones.items ++ more) rest ≡ Some dones → AllZip (IsJobDone app) (old.jobs.items ++ dealt_jobs olds) dones = elim [
              | None ↦ λ _ none. absurd (cc)
              | Some rest ↦ λ same joined. subst (AllZip (IsJobDone app) (old.jobs.items ++ dealt_jobs olds)) (same_Some (now.dones.items ++ rest) dones joined)
                  (AllZip-append (IsJobDone app) old.jobs.items (dealt_jobs olds) now.dones.items rest (each.0 is) (all_played olds nows rest each.1 same))
            ] in
            by_rest (gathered nows) refl whole
        | false ↦ λ _ none. absurd (cc)
      ] in
      by_done now.is_done refl all
