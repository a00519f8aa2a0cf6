use Rattle.std.specs.Prelude.{◌≡◌, ◌-◌, length}
use Rattle.gf2_eliminate.specs.Ones.{places_left, IsAmong}
use Rattle.gf2_eliminate.proofs.places.PlacesIterator.next.Given as goal

-- as many places are left as at first
abbrev pub invariant-loop-self : goal.invariant-loop-self
invariant-loop-self l = record {
  left : l.fn.self ≡ places_left l.self-inside.words.now l.self-inside.at l.self-inside.left;
  among : IsAmong l.self-inside.words.now l.self-inside.at;
}

-- one word fewer
abbrev pub decreases-loop-self : goal.decreases-loop-self
decreases-loop-self l = length l.self-inside.words.now - l.self-inside.at
