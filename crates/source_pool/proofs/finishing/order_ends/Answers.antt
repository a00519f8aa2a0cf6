use Rattle.std.proofs.Common.{◌≡◌, ◌∙◌, List, length, rules, subst, sym, IsPermutation}
use Rattle.std.specs.Prelude.{IsSortedByKey}
use Rattle.std.specs.List.{refill}
use Rattle.std.specs.Ordering.{is_lt}
use Rattle.std.specs.VecDeque.{deque_len}
use Rattle.std.proofs.lemmas.Fn.{always_returns_same}
use Rattle.std.proofs.lemmas.List.Sorted.{ranks_by}
use Rattle.task_order.specs.Key.{key_cmp, key_cmp_total}
use Rattle.run_laws.specs.Jobs.{Done}
use Rattle.source_pool.proofs.finishing.order_ends.Goals as goal

pub returns : goal.returns
returns g c =
    let old : List (Done g.row.V.Denot) = c.args.dones.now.items in
    let sorted : List (Done g.row.V.Denot) = c.sort_unstable_by.new.self in
    let many : length sorted ≡ deque_len c.args.dones.now = c.sort_unstable_by.ensures.len ∙ c.make_contiguous.ensures.len in
    let back : refill (deque_len c.args.dones.now) old sorted ≡ sorted = c.make_contiguous.ensures.writes_back sorted many in
    let moved : IsPermutation old sorted = subst (λ (dones : List (Done g.row.V.Denot)). IsPermutation dones sorted) c.make_contiguous.ensures.value c.sort_unstable_by.ensures.permutation in
    record {
      all = subst (IsPermutation old) (sym back) moved;
      in_order = subst (IsSortedByKey (λ (done : Done g.row.V.Denot). done.task.key) key_cmp) (sym back)
          (c.sort_unstable_by.ensures.sorted (λ one other. is_lt (key_cmp one.task.key other.task.key)) (ranks_by key_cmp_total (λ (done : Done g.row.V.Denot). done.task.key))
          (always_returns_same _ (λ a r. is_lt r ≡ is_lt (key_cmp a.0.now.task.key a.1.0.now.task.key)) _ (λ a r f k. search rules)));
    }
