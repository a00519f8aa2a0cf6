use Rattle.std.proofs.Common.{map, length}
use Rattle.free_pool.proofs.Seats.{IsJoining}
use Rattle.free_pool.proofs.team.joined.Given as goal

abbrev pub invariant-loop-post : goal.invariant-loop-post
invariant-loop-post g l = IsJoining l.fn.hall l.fn.seat l.seat (map (λ post. post.seat) l.others.items)

abbrev pub decreases-loop-post : goal.decreases-loop-post
decreases-loop-post g l = length l.others.items
