use mir.Syntax.{of_param}
use denote.Param.{param}
use denote.Param.Send.{IsSend, sendable}
use denote.Ref.{NamedLft}
use Rattle.std.proofs.Common.{◌≡◌, ◌<◌, ◌^◌, ℕ, List, [], ◌∷◌, Option, Result, refl, sym, subst, rules}
use Rattle.std.proofs.Crossing.{crosses}
use Rattle.std.specs.List.{All}
use Rattle.std.proofs.lemmas.List.Elements.{All-cons, All-head, All-nil}
use Rattle.std.proofs.lemmas.Result.{err_from_is_err_and}
use Rattle.app_laws.specs.Applications.{Application}
use Rattle.source_pool.specs.declared.begun.Begun.{Begun}
use Rattle.source_pool.specs.Legs.{BeginsAtRest}
use Rattle.source_pool.specs.Staffing.{HasRun, IsOneAtRest}
use Rattle.app_laws.specs.declared.serial_run.Finals.{Finals}
use Rattle.crew.specs.declared.answers.OverCause.{OverCause}
use Rattle.text_outlet.specs.declared.outlet.Outlet.{Outlet}
use Rattle.source_pool.specs.contracts.partners.Post as post
use Rattle.source_pool.proofs.Exits.{unseen_is_quiet}
use Rattle.source_pool.proofs.Sending.{tells_none}
use Rattle.source_pool.proofs.Telling.{cut_at_start}
use Rattle.source_pool.proofs.staffing.rounds_beside.Goals as goal

one_at_rest : {A V H : Type 0} (meaning : A → Application V) (begun : Begun A V H) (runs : List (Begun A V H)) → runs ≡ begun ∷ []
    → BeginsAtRest (meaning begun.engine.app) begun.engine.progress → begun.engine.progress.limit < 2 ^ 64 → IsOneAtRest meaning runs
one_at_rest {A} {V} {H} meaning begun runs is rest limited =
    subst (IsOneAtRest meaning) (sym is)
    (record {
      count = refl;
      rest = All-cons (λ (b : Begun A V H). BeginsAtRest (meaning b.engine.app) b.engine.progress) begun [] rest (All-nil (λ (b : Begun A V H). BeginsAtRest (meaning b.engine.app) b.engine.progress));
      limited = All-cons (λ (b : Begun A V H). b.engine.progress.limit < 2 ^ 64) begun [] limited (All-nil (λ (b : Begun A V H). b.engine.progress.limit < 2 ^ 64));
    })

run_there : {A V H K : Type 0} (meaning : A → Application V) (known : K → Option (List ℕ)) (faults : K → ℕ) (begun : Begun A V H) (runs : List (Begun A V H)) (outlet : Outlet) (sink : K) (next a : Outlet) (next_sink b : K)
    (result : Result (Finals V × ℕ) OverCause) → All (λ begun. HasRun (meaning begun.engine.app) begun.engine.progress known faults outlet sink next next_sink result) runs → runs ≡ begun ∷ [] → a ≡ next → b ≡ next_sink
    → HasRun (meaning begun.engine.app) begun.engine.progress known faults outlet sink a b result
run_there {A} {V} {H} meaning known faults begun runs outlet sink next a next_sink b result all is first second =
    let there : HasRun (meaning begun.engine.app) begun.engine.progress known faults outlet sink next next_sink result =
    All-head (λ (other : Begun A V H). HasRun (meaning other.engine.app) other.engine.progress known faults outlet sink next next_sink result) begun []
    (subst (All (λ (other : Begun A V H). HasRun (meaning other.engine.app) other.engine.progress known faults outlet sink next next_sink result)) is all) in
    subst (λ s. HasRun (meaning begun.engine.app) begun.engine.progress known faults outlet sink a s result) (sym second)
    (subst (λ o. HasRun (meaning begun.engine.app) begun.engine.progress known faults outlet sink o next_sink result) (sym first) there)

pub beside-requires-send-J : goal.beside-requires-send-J
beside-requires-send-J g c κs within =
    let posts : (a : NamedLft) → IsSend (post.the_row a (param 1 g.row.A) (param 4 g.row.A-Val) (param 5 g.row.A-Horizon) g.A.App g.A.Val.Held) =
    λ a. record { owned = (c.post_sends.ensures a).owned; leaving = (c.post_sends.ensures a).leaving } in
    search (sendable, crosses, posts) depth 40

pub returns-in_err-runs-clause-run : goal.returns-in_err-runs-clause-run
returns-in_err-runs-clause-run g c =
    let cut = cut_at_start c.args.begun.engine.progress [] c.args.outlet.now.has_failed c.requires.rest refl in
    let e = err_from_is_err_and c.from_residual.result c.from_residual.ensures.1 in
    rw (e.1, e.2) (record { end = tt; fit = tt; fault = tt; cut = ([], tells_none g.K.Sink.contents g.K.Sink.faults c.args.outlet.now c.args.out.now, cut) })

pub beside-requires-clause-job : goal.beside-requires-clause-job
beside-requires-clause-job g c κs within = record { at = λ a. search rules }

pub beside-requires-clause-own : goal.beside-requires-clause-own
beside-requires-clause-own g c κs within = (
  (c.requires.workers, c.requires.no_fault, one_at_rest g.A.App.meaning c.args.begun c.in_ok-runs.runs.items c.in_ok-runs.ensures c.requires.rest c.requires.limited),
  (
    record { owned = c.type_bounds.send-A-Val.owned; leaving = λ k. unseen_is_quiet (k (of_param 4)) },
    record { owned = c.type_bounds.send-A-Horizon.owned; leaving = λ k. unseen_is_quiet (k (of_param 5)) },
    record { shared = c.type_bounds.sync-R.shared },
    search (sendable, crosses, c.type_bounds.sync-A) depth 40,
    search (c.type_bounds.sync-G) depth 40,
  ),
)

pub returns-clause-run : goal.returns-clause-run
returns-clause-run g c = run_there g.A.App.meaning g.K.Sink.contents g.K.Sink.faults c.args.begun c.in_ok-runs.runs.items c.args.outlet.now c.args.out.now _ _ _ _ c.beside.result c.beside.ensures.met.1.0 c.in_ok-runs.ensures (search rules) (search rules)
