use Rattle.std.proofs.Common.{rules, ◌≡◌, ◌≤◌, ◌∷◌, [], ◌++◌, ◌∙◌, List, ap, arith, subst, sym}
use Rattle.kdg_graph.proofs.Common.{Access, Read, Write, Location, ids_for, lane_of, reserved_in, reserved_of, room_at}
use Rattle.kdg_graph.proofs.Filing.{lane_more, number_more}
use Rattle.kdg_graph.proofs.locations.Locations.reach.Goals as goal

no_nodes : (location : Location) (access : Access) → ids_for Write location ≡ [] → ids_for Read location ≡ [] → ids_for access location ≡ []
no_nodes location Read named writers = writers
no_nodes location Write named writers = named

pub loop-alloc-preserved : goal.loop-alloc-preserved
loop-alloc-preserved c =
    let more : c.push.new.self.items ≡ c.loop-alloc.self.locations.items ++ c.new.result ∷ [] = search rules in
    record {
      no_less = λ loc. subst (λ (l : List Location). room_at (reserved_of c.args.self.now.reservation c.args.self.now.locations.items) loc ≤ room_at (reserved_of c.loop-alloc.self.reservation l) loc) (sym more) (omega (arith, c.loop-alloc.invariant.no_less loc, number_more (reserved_in c.loop-alloc.self.reservation) c.loop-alloc.self.locations.items c.new.result loc));
      number = c.loop-alloc.invariant.number;
      lanes = λ loc access. ap (λ (l : List Location). lane_of l loc access) more ∙ lane_more c.loop-alloc.self.locations.items c.new.result loc access (no_nodes c.new.result access c.new.ensures.named c.new.ensures.writers) ∙ c.loop-alloc.invariant.lanes loc access;
    }
