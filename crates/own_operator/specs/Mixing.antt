-- What the operator does: cells, each a group of its own, are multiplied again and again.
use Rattle.std.specs.Prelude.{ℕ, ◌+◌, ◌*◌, ◌/◌, ◌%◌, ◌^◌, ◌<◌, ◌≤◌, List, [], ◌∷◌, map, nat_lt, if◌then◌else◌}
use Rattle.std.specs.List.{range_with_len}
use Rattle.task_order.specs.declared.start.Start.{Start}
use Rattle.task_order.specs.declared.task.Body.{Body}
use Rattle.rw_sets.specs.Accesses.{Accesses}
use Rattle.app_laws.specs.declared.child.Child.{Child}
use Rattle.hook_app.specs.Deeds.{Deeds}
use Rattle.hook_app.specs.OneLocation.{own_set}
use Rattle.own_operator.specs.declared.mixer.Mixer.{Mixer}

-- how many groups and tasks there may be, and which lookaheads
pub record IsMixer (mixer : Mixer) : Type 0 where
  pub groups : (1 ≤ mixer.groups) × (mixer.groups ≤ 4096)
  pub lookahead : (1 ≤ mixer.lookahead) × (mixer.lookahead ≤ 4096)
  pub tasks : (4096 ≤ mixer.tasks) × (mixer.tasks ≤ 1048576)

-- the sets of that many groups: each writes its own cell
abbrev pub group_sets : ℕ → List Accesses
group_sets groups = map own_set (range_with_len 0 groups)

-- the first task of a group, which comes before the lookahead
abbrev pub first_at : ℕ → ℕ → Start
first_at lookahead group = record { prio = group % lookahead; body = record { kind = 0; at = group; arg = 0 } }

-- a first task of each of that many groups
abbrev pub group_tasks : ℕ → ℕ → List Start
group_tasks lookahead groups = map (first_at lookahead) (range_with_len 0 groups)

-- the priority before which all tasks come: each of the groups has its part of the tasks, and one of them in each lookahead
abbrev pub end_of : Mixer → ℕ
end_of mixer = mixer.lookahead * (mixer.tasks / mixer.groups)

-- a value after `times` multiplications, without what goes beyond 2^64
abbrev pub multiplied : ℕ → ℕ → ℕ
multiplied value times = (value * 13 ^ times) % 2 ^ 64

-- the next task of a group comes the lookahead later, if that is before the end
abbrev pub next_starts : Mixer → ℕ → Body → List Start
next_starts mixer prio body = if nat_lt (prio + mixer.lookahead) (end_of mixer) then record { prio = prio + mixer.lookahead; body = body } ∷ [] else []

abbrev pub next_children : Mixer → ℕ → Body → List Child
next_children mixer prio body = if nat_lt (prio + mixer.lookahead) (end_of mixer) then record { prio = prio + mixer.lookahead; body = body; set = own_set body.at } ∷ [] else []

-- a task multiplies its cell that many times
abbrev pub mixing : Mixer → Deeds ℕ
mixing mixer = record {
  is_fit_value = λ value. value < 2 ^ 64;
  is_fit_task = λ prio body. (body.at < mixer.groups) × (prio < end_of mixer);
  deed = λ start values. record {
    cells = map (λ value. multiplied value mixer.times) values;
    children = next_starts mixer start.prio start.body;
    text = [];
  };
}
