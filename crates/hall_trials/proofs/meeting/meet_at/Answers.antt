use Rattle.std.proofs.Common.{arith}
use Rattle.hall_trials.proofs.Joining.{first_split, joined, may_join, other_split, still_split}
use Rattle.hall_trials.proofs.meeting.meet_at.Goals as goal

pub split-second-requires-clause-few : goal.split-second-requires-clause-few
split-second-requires-clause-few g c κs within = let none = c.requires.whole in omega (arith, none)

pub try_by_turns-first-requires-clause-first : goal.try_by_turns-first-requires-clause-first
try_by_turns-first-requires-clause-first g c κs within = (first_split c.args.hall.now 0 c.requires.first c.requires.whole c.split-second.ensures.left).seated

pub try_by_turns-first-requires-clause-second : goal.try_by_turns-first-requires-clause-second
try_by_turns-first-requires-clause-second g c κs within = (other_split c.args.hall.now 0 c.requires.first c.requires.whole c.split-second.ensures.right).seated

pub join-requires-clause-unjoined : goal.join-requires-clause-unjoined
join-requires-clause-unjoined g c κs within =
    let hall = c.args.hall.now in
    let split = c.split-second.ensures in
    let first = still_split hall (first_split hall 0 c.requires.first c.requires.whole split.left) c.try_by_turns-first.ensures.first in
    let other = still_split hall (other_split hall 0 c.requires.first c.requires.whole split.right) c.try_by_turns-first.ensures.second in
    may_join hall 0 first other

pub returns : goal.returns
returns g c =
    let hall = c.args.hall.now in
    let split = c.split-second.ensures in
    let first = still_split hall (first_split hall 0 c.requires.first c.requires.whole split.left) c.try_by_turns-first.ensures.first in
    let other = still_split hall (other_split hall 0 c.requires.first c.requires.whole split.right) c.try_by_turns-first.ensures.second in
    joined hall 0 first other c.join.ensures
