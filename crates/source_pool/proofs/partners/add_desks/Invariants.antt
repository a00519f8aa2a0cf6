use Rattle.std.proofs.Common.{◌≡◌, vec_len}
use Rattle.std.specs.List.{All}
use Rattle.source_pool.proofs.partners.add_desks.Given as goal

abbrev pub invariant-loop-place : goal.invariant-loop-place
invariant-loop-place g l = record {
  len : vec_len l.posts ≡ l.place-end;
  told : l.partners ≡ l.fn.partners;
  posts : All (λ post. post.servers.app.value ≡ l.fn.partners) l.posts.items;
}
