use Rattle.std.proofs.Common.{◌≡◌}
use Rattle.std.specs.List.{All}
use Rattle.source_pool.proofs.partners.keep_workers.Given as goal

abbrev pub invariant-loop-worker : goal.invariant-loop-worker
invariant-loop-worker g l = record {
  told : l.partners ≡ l.fn.partners;
  posts : All (λ post. post.servers.app.value ≡ l.fn.partners) l.posts.items;
}

abbrev pub invariant-loop-number : goal.invariant-loop-number
invariant-loop-number g l = record {
  told : l.partners ≡ l.fn.partners;
  posts : All (λ post. post.servers.app.value ≡ l.fn.partners) l.posts.items;
}
