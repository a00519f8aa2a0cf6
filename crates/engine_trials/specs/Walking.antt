-- Walkers on three places, from each of which an arrow leads to one of them.
use Rattle.std.specs.Prelude.{◌≡◌, ℕ, ◌+◌, ◌<◌, ◌≤◌, ◌%◌, ◌^◌, List, [], ◌∷◌, length, map, nat_lt, if◌then◌else◌, slice_index}
use Rattle.std.specs.List.{AllByRecursion}
use Rattle.task_order.specs.declared.start.Start.{Start}
use Rattle.task_order.specs.declared.task.Body.{Body}
use Rattle.rw_sets.specs.Accesses.{Accesses}
use Rattle.app_laws.specs.declared.child.Child.{Child}
use Rattle.hook_app.specs.Deeds.{Deeds}
use Rattle.hook_app.specs.OneLocation.{own_set}

abbrev pub place_sets : List Accesses
place_sets = own_set 0 ∷ own_set 1 ∷ own_set 2 ∷ []

-- to which place the arrow of each leads
pub record AreArrows (arrows : List ℕ) : Type 0 where
  pub count : length arrows ≡ 3
  pub lead : AllByRecursion (λ place. place < 3) arrows

-- the walker goes on along the arrow, as long as its priority is at most 4
abbrev pub onward : List ℕ → Body → Body
onward arrows body = record { kind = body.kind; at = slice_index arrows body.at; arg = body.arg }

abbrev pub next_steps : List ℕ → ℕ → Body → List Start
next_steps arrows prio body = if nat_lt prio 4 then record { prio = prio + 1; body = onward arrows body } ∷ [] else []

abbrev pub next_walkers : List ℕ → ℕ → Body → List Child
next_walkers arrows prio body = if nat_lt prio 4 then record { prio = prio + 1; body = onward arrows body; set = own_set (slice_index arrows body.at) } ∷ [] else []

-- a walker adds its number to the cell of its place
abbrev pub walking : List ℕ → Deeds ℕ
walking arrows = record {
  is_fit_value = λ value. value < 2 ^ 64;
  is_fit_task = λ prio body. (body.at < 3) × (prio ≤ 4);
  deed = λ start values. record {
    cells = map (λ value. (value + start.body.arg) % 2 ^ 64) values;
    children = next_steps arrows start.prio start.body;
    text = [];
  };
}

-- a walker on each place
abbrev pub first_walkers : List Start
first_walkers =
    record { prio = 0; body = record { kind = 0; at = 0; arg = 1 } }
    ∷ record { prio = 0; body = record { kind = 0; at = 1; arg = 10 } }
    ∷ record { prio = 0; body = record { kind = 0; at = 2; arg = 100 } }
    ∷ []
