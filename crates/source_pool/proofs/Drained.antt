-- A drain between two rounds.
use Rattle.std.proofs.Common.{[], ◌++◌, sym, ap, ◌∙◌}
use Rattle.app_laws.specs.Applications.{Application}
use Rattle.output_log.specs.Entries.{joined_texts}
use Rattle.run_laws.specs.Events.{drainable}
use Rattle.source_pool.specs.Basis.{Basis}
use Rattle.source_pool.specs.Laws.{DrainsKeepRest}

module _ {V : Type 0} {app : Application V} (basis : Basis app) where
  pub drains_keep_rest : DrainsKeepRest app
  drains_keep_rest start now cells state text rest =
      let course = rest.course in
      let more = drainable app now.nodes now.log in
      record {
        values = rest.values;
        course = record {
          drained = course.drained ++ more;
          entries = course.entries;
          come = basis.drains start cells course.drained course.entries now [] rest.values course.come;
          text_is = ap (λ first. first ++ joined_texts more) course.text_is ∙ sym (basis.texts_follow course.drained more);
          over = course.over;
        };
        state_is = rest.state_is;
      }
