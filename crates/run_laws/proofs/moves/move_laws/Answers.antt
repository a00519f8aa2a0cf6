use Rattle.run_laws.proofs.Moving.{claim_answers_move, drains_move, ends_move, giving_up_moves, marks_stay, moves_follow, refusals_move, stays_are_moves}
use Rattle.run_laws.proofs.moves.move_laws.Goals as goal

pub returns : goal.returns
returns g c = record {
  stays = λ app. stays_are_moves (g.A.App.meaning app);
  follow = λ app. moves_follow (g.A.App.meaning app);
  claims = λ app. claim_answers_move (g.A.App.meaning app);
  ends = λ app. ends_move (g.A.App.meaning app);
  refusals = λ app. refusals_move (g.A.App.meaning app);
  drains = λ app. drains_move (g.A.App.meaning app);
  gives_up = λ app. giving_up_moves (g.A.App.meaning app);
  marks = λ app. marks_stay (g.A.App.meaning app);
}
