-- Performed jobs with keys of their own ascend where none is earlier than the one before it.
use Rattle.std.proofs.Common.{◌≡◌, ◌≢◌, inl, inr, suc, ◌+◌, false, List, [], ◌∷◌, map, get_or, sym, ◌∙◌, ap, arith}
use Rattle.std.specs.List.{AllByRecursion}
use Rattle.std.specs.List.Sorted.{IsSortedByKey}
use Rattle.std.specs.Ordering.{is_lt}
use Rattle.std.specs.declared.cmp.Ordering.TheVariants.{Less}
use Rattle.std.proofs.lemmas.Bool.{true≢false}
use Rattle.std.proofs.lemmas.List.Sorted.{ranks_by, sorted_far}
use Rattle.plain_laws.specs.Lists.{All-map}
use Rattle.plain_laws.specs.Members.{all_at, all_from, in_map}
use Rattle.task_order.specs.declared.key.Key.{Key}
use Rattle.task_order.specs.declared.task.Task.{Task}
use Rattle.task_order.specs.Key.{key_cmp, key_cmp_total}
use Rattle.task_order.specs.Laws.{EarlierIsConnected}
use Rattle.task_order.specs.TaskList.{HasDistinctKeys, IsAscending, IsNewKey}
use Rattle.run_laws.specs.Jobs.{Done, Job}
use Rattle.source_pool.specs.Course.{HaveOwnKeys, job_tasks}

-- ---- keys

-- of two different keys the one that is not earlier is later
first_later : EarlierIsConnected → (key other : Key) → key ≢ other → is_lt (key_cmp key other) ≡ false → key_cmp other key ≡ Less
first_later connected key other differ late = elim (connected key other differ) [
  | inl earlier ↦ absurd (true≢false (sym (ap is_lt earlier) ∙ late))
  | inr later ↦ later
]

module _ {V : Type 0} where
  -- the tasks of performed jobs, in order
  abbrev pub done_tasks : List (Done V) → List Task
  done_tasks dones = map (λ (done : Done V). done.task) dones

  -- jobs with keys of their own, and their tasks
  pub own_tasks : (jobs : List (Job V)) → HaveOwnKeys jobs → HasDistinctKeys (job_tasks jobs)
  own_tasks [] own = tt
  own_tasks (job ∷ jobs) own = (All-map (λ other. other.key ≢ job.task.key) (λ (j : Job V). j.task) jobs (all_other job jobs own.0), own_tasks jobs own.1)
    where
      all_other : (one : Job V) (jobs : List (Job V)) → AllByRecursion (λ other. one.task.key ≢ other.task.key) jobs → AllByRecursion (λ (other : Job V). other.task.key ≢ one.task.key) jobs
      all_other one [] all = tt
      all_other one (other ∷ jobs) all = ((λ same. all.0 (sym same)), all_other one jobs all.1)

  -- no key is earlier than the one before it
  abbrev IsEarliestFirst : List (Done V) → Type 0
  IsEarliestFirst dones = IsSortedByKey (λ (done : Done V). done.task.key) key_cmp dones

  -- the first one is earlier than each after it
  rest_later : EarlierIsConnected → (done : Done V) (dones : List (Done V)) → IsEarliestFirst (done ∷ dones) → IsNewKey done.task.key (done_tasks dones)
      → AllByRecursion (λ (other : Done V). key_cmp done.task.key other.task.key ≡ Less) dones
  rest_later connected done dones sorted new = all_from (λ (other : Done V). key_cmp done.task.key other.task.key ≡ Less) dones (λ other has.
      let differ : other.task.key ≢ done.task.key = all_at (λ task. task.key ≢ done.task.key) (done_tasks dones) other.task new (in_map (λ (d : Done V). d.task) dones other has) in
      let late = sorted_far (λ (one two : Done V). is_lt (key_cmp one.task.key two.task.key)) (ranks_by key_cmp_total (λ (d : Done V). d.task.key)) (done ∷ dones) sorted 0 (suc has.0) other (omega arith) (omega (arith, has.1)) in
      first_later connected other.task.key done.task.key differ (ap (λ (d : Done V). is_lt (key_cmp d.task.key done.task.key)) (sym has.2) ∙ late))

  rest_sorted : (done : Done V) (dones : List (Done V)) → IsEarliestFirst (done ∷ dones) → IsEarliestFirst dones
  rest_sorted done dones sorted = λ k d low inside.
      let next : suc k + 1 ≡ suc (k + 1) = omega arith in
      ap (λ n. is_lt (key_cmp (get_or (done ∷ dones) n d).task.key (get_or dones k d).task.key)) (sym next) ∙ sorted (suc k) d (omega arith) (omega (arith, inside))

  pub ascends : EarlierIsConnected → (dones : List (Done V)) → IsEarliestFirst dones → HasDistinctKeys (done_tasks dones) → IsAscending (done_tasks dones)
  ascends connected [] sorted own = tt
  ascends connected (done ∷ dones) sorted own =
      (All-map (λ task. key_cmp done.task.key task.key ≡ Less) (λ (d : Done V). d.task) dones (rest_later connected done dones sorted own.0), ascends connected dones (rest_sorted done dones sorted) own.1)
