use Rattle.std.proofs.Common.{◌≡◌, ◌<◌, ◌+◌, ◌||◌, ℕ, not, Bool, Some, subst, sym, ap, ◌∙◌, arith}
use Rattle.std.specs.Prelude.{slice_get}
use Rattle.rw_sets.specs.Accesses.{writes}
use Rattle.app_laws.specs.Applications.{set_in}
use Rattle.cell_store.specs.Values.{values_of}
use Rattle.resting_rounds.specs.Waiting.{tasks_of}
use Rattle.resting_rounds.proofs.Gathering.{further_on, one_set_more, where_none}
use Rattle.resting_rounds.proofs.front.meeting.Goals as goal

pub returns-in_ok-join-clause-answer : goal.returns-in_ok-join-clause-answer
returns-in_ok-join-clause-answer g c =
    let set = set_in (g.A.App.meaning c.args.app.now) (values_of c.args.store.now) c.args.task.now in
    c.in_ok-met-2.ensures.answer c.args.task.now (λ loc. c.in_ok-cover.ensures loc ∙ ap (λ (b : Bool). b || writes set loc) (c.clear.ensures loc))

pub returns-else-is_none-clause-answer : goal.returns-else-is_none-clause-answer
returns-else-is_none-clause-answer g c =
    let set = set_in (g.A.App.meaning c.args.app.now) (values_of c.args.store.now) c.args.task.now in
    c.in_ok-met-2.ensures.answer c.args.task.now (λ loc. c.in_ok-cover.ensures loc ∙ ap (λ (b : Bool). b || writes set loc) (c.clear.ensures loc))

pub returns-in_ok-join-clause-front : goal.returns-in_ok-join-clause-front
returns-in_ok-join-clause-front g c =
    let app = g.A.App.meaning c.args.app.now in
    let covers = g.A.Resting.covers c.args.app.now in
    let cells = values_of c.args.store.now in
    let tasks = tasks_of c.args.waiting.now in
    let task = c.args.task.now in
    let set = set_in app cells task in
    let old = c.meeting_of_own.new.front.sets in
    let own = c.meeting_of_own.new.front.own in
    let all : old.count ≡ c.args.place = where_none c.in_ok-met-2.met (old.count ≡ c.args.place) (c.is_none.ensures ∙ ap not c.if-is_none.true) c.in_ok-met-2.ensures.all in
    let further = further_on app covers tasks c.args.place cells c.meeting_of_own.new.front c.in_ok-met-2.ensures.front in
    let below : old.count < c.args.place + 1 = omega (arith, all) in
    let at : slice_get tasks old.count ≡ Some task = subst (λ (n : ℕ). slice_get tasks n ≡ Some task) (sym all) c.requires.there in
    let own_is : (loc : ℕ) → covers own loc ≡ writes set loc =
    λ loc. ap (λ cover. covers cover loc) c.meeting_of_own.ensures.own ∙ c.in_ok-cover.ensures loc ∙ ap (λ (b : Bool). b || writes set loc) (c.clear.ensures loc) in
    record {
      sets = one_set_more app covers tasks (c.args.place + 1) cells old c.join.new.cover task further.sets below at
          (λ loc. c.in_ok-join.ensures loc ∙ ap (λ (b : Bool). covers old.cover loc || b) (own_is loc));
      cores = further.cores;
    }
