use Rattle.std.proofs.Common.{◌≡◌, Some, true, refl}
use Rattle.std.specs.Prelude.{slice_index_or}
use Rattle.plain_laws.specs.Options.{if_some_at}
use Rattle.cell_store.specs.Values.{values_of}
use Rattle.commuting.specs.Rounds.{is_clear}
use Rattle.resting_rounds.specs.declared.waiting.Waiting.{Waiting}
use Rattle.resting_rounds.specs.Sets.{HasSet}
use Rattle.resting_rounds.specs.Waiting.{MeetsEarlierAt, state_in}
use Rattle.resting_rounds.proofs.Finding.{acting_more, clear_more, clear_same, later_more, later_same, resting_more, where_nothing}
use Rattle.resting_rounds.proofs.Gathering.{task_at}
use Rattle.resting_rounds.proofs.looking.look_at.Goals as goal

pub returns-in_ok-push-in-Some-clause-found : goal.returns-in_ok-push-in-Some-clause-found
returns-in_ok-push-in-Some-clause-found g c =
    let app = g.A.App.meaning c.args.app.now in
    let basis = c.basis.ensures c.args.app.now in
    let waiting = c.args.waiting.now in
    let place = c.args.place in
    let state = state_in c.args.store.now waiting in
    let ready = c.requires.ready in
    let borrowed = (slice_index_or waiting place c.index-waiting-place.result).task in
    let task = borrowed.now in
    let there = task_at waiting place c.index-waiting-place.result c.requires.within in
    let loc = c.in-Some.loc in
    let one : Waiting = record { task = borrowed; watched = Some loc } in
    let meets = if_some_at (MeetsEarlierAt app state task) c.in_ok-loc.field-0 loc c.in-Some.is (c.in_ok-loc.ensures.rests task there) in
    let later = c.args.found.now.later.items in
    record {
      clear = clear_same app basis state ready place task there c.args.found.now.clear.items loc c.requires.found.clear meets;
      acting = c.requires.found.acting;
      later = later_more app basis state ready place task there later c.push.new.self.items one loc c.requires.found.later c.in_ok-push-in-Some.ensures.items refl meets;
      resting = resting_more app basis state ready place task there later c.push.new.self.items one c.requires.found.resting c.in_ok-push-in-Some.ensures.items meets;
    }

pub returns-in_ok-join-in-None-clause-found : goal.returns-in_ok-join-in-None-clause-found
returns-in_ok-join-in-None-clause-found g c =
    let app = g.A.App.meaning c.args.app.now in
    let covers = g.A.Resting.covers c.args.app.now in
    let basis = c.basis.ensures c.args.app.now in
    let waiting = c.args.waiting.now in
    let place = c.args.place in
    let cells = values_of c.args.store.now in
    let state = state_in c.args.store.now waiting in
    let ready = c.requires.ready in
    let task = (slice_index_or waiting place c.index-waiting-place.result).task.now in
    let there = task_at waiting place c.index-waiting-place.result c.requires.within in
    let met = c.in_ok-loc.field-0 in
    let own = c.resting_at.new.front.own in
    let passes = where_nothing met (is_clear app state task ≡ true) c.in-None.is (c.in_ok-loc.ensures.clear task there) in
    let own_is = where_nothing met (HasSet app (covers own) cells task) c.in-None.is (c.in_ok-loc.ensures.own task there) in
    let old = c.args.found.now in
    record {
      clear = clear_more app basis state ready place task there old.clear.items c.push_back.new.self.items c.in_ok-copy-in-None.copy c.requires.found.clear c.in_ok-push_back-in-None.ensures.items c.in_ok-copy-in-None.ensures passes;
      acting = acting_more app basis state ready place task there (covers old.acting) (covers c.join.new.cover) (covers own) old.clear.items c.push_back.new.self.items c.in_ok-copy-in-None.copy
          c.requires.found.acting c.in_ok-push_back-in-None.ensures.items c.in_ok-copy-in-None.ensures c.in_ok-join-in-None.ensures own_is;
      later = later_same app basis state ready place task there old.later.items c.requires.found.later passes;
      resting = c.requires.found.resting;
    }
