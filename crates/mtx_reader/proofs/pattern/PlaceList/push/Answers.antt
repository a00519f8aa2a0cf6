use Rattle.std.specs.Prelude.{◌≤◌}
use Rattle.plain_laws.specs.Lists.{All-push}
use Rattle.mtx_reader.specs.Ascending.{ascending_push}
use Rattle.mtx_reader.specs.Places.{Place, place_cmp}
use Rattle.mtx_reader.proofs.pattern.PlaceList.push.Goals as goal

pub invariant_of-self-2 : goal.invariant_of-self-2
invariant_of-self-2 c =
    let place : Place = (c.args.row, c.args.column) in
    rw c.in_ok-push.ensures.items (record {
      from_one = All-push (λ (p : Place). (1 ≤ p.0) × (1 ≤ p.1)) c.self.inside.places.items place c.self.invariant.from_one (c.requires.row, c.requires.column);
      ascending = ascending_push place_cmp c.self.inside.places.items place c.self.invariant.ascending (rw c.self.view_is c.requires.later);
    })
