-- Places, where each task leaves its path.
use Rattle.std.specs.Prelude.{◌≡◌, ◌==◌, ◌-◌, ◌<◌, ℕ, List, [], ◌∷◌, length, slice_set, if◌then◌else◌, true}
use Rattle.task_order.specs.declared.start.Start.{Start}
use Rattle.task_order.specs.declared.task.Body.{Body}
use Rattle.rw_sets.specs.Accesses.{Accesses}
use Rattle.rw_sets.specs.declared.access.Access.TheVariants.{Write}
use Rattle.app_laws.specs.declared.app.SetAnswer.TheVariants as answer
use Rattle.app_laws.specs.declared.child.Child.{Child}
use Rattle.app_laws.specs.Applications.{Application}
use Rattle.small_apps.specs.declared.trails.Trail.{Trail}

-- a task writes its place
abbrev pub place_of : Body → Accesses
place_of body = (body.at, Write) ∷ []

-- a task at the same place with this argument, and the same with its set
abbrev pub follower : ℕ → Body → ℕ → Start
follower prio body arg = record { prio = prio; body = record { kind = 0; at = body.at; arg = arg } }

abbrev pub follower_of : ℕ → Body → ℕ → Child
follower_of prio body arg = record { prio = prio; body = record { kind = 0; at = body.at; arg = arg }; set = place_of body }

-- one task follows that none follows, and one that has one follower less than this one
abbrev pub followers : ℕ → Body → List Start
followers prio body = if body.arg == 0 then [] else follower prio body 0 ∷ follower prio body (body.arg - 1) ∷ []

abbrev pub followers_of : ℕ → Body → List Child
followers_of prio body = if body.arg == 0 then [] else follower_of prio body 0 ∷ follower_of prio body (body.arg - 1) ∷ []

-- a task leaves its path at its place
abbrev pub trails : Application Trail
trails = record {
  count = 2;
  is_fit_cells = λ cells. length cells ≡ 2;
  is_fit_task = λ prio body. body.at < 2;
  set_of = λ body cells. place_of body;
  walk = λ body cells. answer.Known (place_of body);
  act = λ task cells. record {
    cells = slice_set cells task.body.at (record { path = task.key.path });
    children = followers task.key.prio task.body;
    text = [];
  };
  is_safe = λ task earlier. true;
}

-- no task has passed
abbrev pub first_trails : List Trail
first_trails = record { path = 0 ∷ [] } ∷ record { path = 0 ∷ [] } ∷ []

-- a task at each place, with `more` after it
abbrev pub first_passings : ℕ → List Start
first_passings more =
    record { prio = 0; body = record { kind = 0; at = 0; arg = more } }
    ∷ record { prio = 0; body = record { kind = 0; at = 1; arg = more } }
    ∷ []
