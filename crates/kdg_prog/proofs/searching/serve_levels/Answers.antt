use Rattle.std.proofs.Common.{ap, refl, rules, subst, sym}
use Rattle.std.proofs.KnownBytes.{Appends-nil}
use Rattle.task_order.specs.declared.task.Task.{Task}
use Rattle.hook_app.specs.Kept.{IsAnswered, IsAsked}
use Rattle.level_walk.specs.Levels.{vertex_sets, walking}
use Rattle.level_walk.specs.Walks.{vertex_count}
use Rattle.kdg_prog.specs.declared.words.Command.TheVariants.{Levels}
use Rattle.kdg_prog.specs.Inputs.{pattern_for}
use Rattle.kdg_prog.specs.Answer.{graph_problem, search_problem}
use Rattle.outer_edge.specs.Transfers.{transfer_of}
use Rattle.kdg_prog.specs.Searches.{AnswersLevels}
use Rattle.kdg_prog.proofs.Searched.{answers_levels, ok_of}
use Rattle.kdg_prog.proofs.Serving.{served_when_read, unwritten_for}
use Rattle.kdg_prog.proofs.searching.serve_levels.Goals as goal

pub serve_levels_by-requires-clause-does : goal.serve_levels_by-requires-clause-does
serve_levels_by-requires-clause-does g c κs within =
    let pattern = c.in_ok-walk.walk.pattern in record {
      callable = λ task bundle asked p is.
          let here : IsAsked (walking pattern) (vertex_sets (vertex_count pattern)) p.now bundle = subst (λ (t : Task). IsAsked (walking pattern) (vertex_sets (vertex_count pattern)) t bundle) (sym is) asked in search rules;
      does = λ task bundle answer asked given. subst (λ (t : Task). IsAnswered (walking pattern) (vertex_sets (vertex_count pattern)) t bundle answer) given.1 given.2.1;
    }

pub returns-clause-levels : goal.returns-clause-levels
returns-clause-levels g c =
    let walk = c.in_ok-walk.walk in
    let found = c.in_ok-walk.ensures in
    ok_of (AnswersLevels c.args.options.now c.args.input)
    (answers_levels c.args.options.now c.args.input walk.pattern c.levels_are_shortest.ensures.shortest c.levels_are_shortest.ensures.logs found.sound c.requires.allowed.from.0 c.requires.big found.pattern)
    c.serve_levels_by.result

pub returns-in_err-walk-clause-served : goal.returns-in_err-walk-clause-served
returns-in_err-walk-clause-served g c =
    let sink = transfer_of g.K.Sink.contents g.K.Sink.faults c.args.sink.now c.args.sink.now in
    let refused = c.in_err-walk in
    unwritten_for Levels c.args.options.now c.args.input sink refused.field-0.0 c.from_residual.result c.from_residual.ensures.1 refused.ensures.refusal refused.ensures.before_start (Appends-nil sink.before) refl

pub returns-clause-served : goal.returns-clause-served
returns-clause-served g c =
    let walk = c.in_ok-walk.walk in
    let found = c.in_ok-walk.ensures in
    let sink = transfer_of g.K.Sink.contents g.K.Sink.faults c.args.sink.now c.serve_levels_by.new.sink in
    served_when_read (graph_problem c.args.options.now) c.args.options.now (pattern_for c.args.options.now.big c.args.input) walk.pattern (search_problem walk) found.pattern (ap search_problem found.walk) sink c.serve_levels_by.result c.serve_levels_by.ensures.served
