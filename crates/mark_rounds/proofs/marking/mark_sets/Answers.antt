use Rattle.std.proofs.Common.{◌≡◌, ◌+◌, ◌++◌, List, drop, sym, ap, ◌∙◌, subst, append-nil}
use Rattle.std.proofs.lemmas.List.{drop_all}
use Rattle.rw_sets.specs.Accesses.{Accesses, IsInRange}
use Rattle.mark_board.specs.declared.view.Mark.{Mark}
use Rattle.mark_board.specs.Markers.{MarkerState, marks_of}
use Rattle.mark_board.specs.Ranks.{marks_from}
use Rattle.mark_rounds.proofs.Places.{holds_at, one_more_marked}
use Rattle.mark_rounds.proofs.marking.mark_sets.Goals as goal

pub mark-requires-clause-in_range : goal.mark-requires-clause-in_range
mark-requires-clause-in_range c =
    holds_at (λ (set : Accesses). IsInRange set c.args.board.now.cells) c.args.sets.now c.loop-rank.rank c.index-sets-rank.result c.loop-rank-test.true c.index-sets-rank.is c.requires.wide

pub loop-rank-preserved : goal.loop-rank-preserved
loop-rank-preserved c =
    let old = c.loop-rank.marker in
    let marks = old.marks ++ marks_of c.loop-rank.rank c.index-sets-rank.result in
    let marks_is : c.mark.new.marker.marks ≡ marks = ap (λ (m : MarkerState). m.marks) c.mark.ensures in
    record {
      same = c.mark.ensures ∙ ap (λ (m : MarkerState). record m { marks = marks }) c.loop-rank.invariant.same ∙ ap (λ (all : List Mark). record c.args.marker.now { marks = all }) (sym marks_is);
      marks = subst (λ (all : List Mark). all ++ marks_from (c.loop-rank.rank + 1) (drop (c.loop-rank.rank + 1) c.args.sets.now) ≡ c.args.marker.now.marks ++ marks_from 0 c.args.sets.now) (sym marks_is)
          (one_more_marked c.args.sets.now c.loop-rank.rank c.index-sets-rank.result old.marks (c.args.marker.now.marks ++ marks_from 0 c.args.sets.now) c.loop-rank-test.true c.index-sets-rank.is c.loop-rank.invariant.marks);
    }

pub returns : goal.returns
returns c =
    let none = drop_all c.loop-rank.rank c.args.sets.now c.loop-rank-test.false in
    let all = sym (append-nil c.loop-rank.marker.marks) ∙ ap (λ (rest : List Accesses). c.loop-rank.marker.marks ++ marks_from c.loop-rank.rank rest) (sym none) ∙ c.loop-rank.invariant.marks in
    c.loop-rank.invariant.same ∙ ap (λ (all : List Mark). record c.args.marker.now { marks = all }) all
