-- Tasks that add their number to a cell, and one that sums two cells up.
use Rattle.std.specs.Prelude.{ℕ, ◌+◌, ◌<◌, ◌≤◌, ◌%◌, ◌^◌, ◌==◌, List, [], ◌∷◌, ◌++◌, map, nat_lt, if◌then◌else◌, codes, decimal}
use Rattle.task_order.specs.declared.start.Start.{Start}
use Rattle.task_order.specs.declared.task.Body.{Body}
use Rattle.rw_sets.specs.declared.access.Access.TheVariants.{Read, Write}
use Rattle.rw_sets.specs.Accesses.{Accesses}
use Rattle.app_laws.specs.declared.child.Child.{Child}
use Rattle.app_laws.specs.Execution.{Outcome}
use Rattle.hook_app.specs.Deeds.{Deeds}
use Rattle.hook_app.specs.OneLocation.{own_set}

-- the sum of two cells goes to a third
abbrev pub sum_set : Accesses
sum_set = (0, Read) ∷ (1, Read) ∷ (2, Write) ∷ []

abbrev pub adding_sets : List Accesses
adding_sets = own_set 0 ∷ own_set 1 ∷ sum_set ∷ []

-- a task like this one at the next priority, as long as that is at most 2
abbrev pub next_additions : ℕ → Body → List Start
next_additions prio body = if nat_lt prio 2 then record { prio = prio + 1; body = body } ∷ [] else []

abbrev pub next_children : ℕ → Body → List Child
next_children prio body = if nat_lt prio 2 then record { prio = prio + 1; body = body; set = own_set body.at } ∷ [] else []

-- the number is added, without what goes beyond 2^64
abbrev pub added : Start → List ℕ → Outcome ℕ
added start values = record {
  cells = map (λ value. (value + start.body.arg) % 2 ^ 64) values;
  children = next_additions start.prio start.body;
  text = [];
}

abbrev pub sum_of : ℕ → ℕ → ℕ
sum_of left right = (left + right) % 2 ^ 64

abbrev pub sum_line : ℕ → List ℕ
sum_line sum = codes "sum " ++ decimal sum ++ 10 ∷ []

-- the third value becomes the sum of the first two, and a line says so
abbrev pub summed : List ℕ → Outcome ℕ
summed [] = record { cells = []; children = []; text = [] }
summed (left ∷ []) = record { cells = left ∷ []; children = []; text = [] }
summed (left ∷ right ∷ others) = record {
  cells = left ∷ right ∷ sum_of left right ∷ [];
  children = [];
  text = sum_line (sum_of left right);
}

abbrev pub adding : Deeds ℕ
adding = record {
  is_fit_value = λ value. value < 2 ^ 64;
  is_fit_task = λ prio body. (body.at < 3) × (prio ≤ 3);
  deed = λ start values. if start.body.at == 2 then summed values else added start values;
}

-- two tasks that add, and one that sums up what they leave
abbrev pub first_additions : List Start
first_additions =
    record { prio = 0; body = record { kind = 0; at = 0; arg = 1 } }
    ∷ record { prio = 0; body = record { kind = 0; at = 1; arg = 10 } }
    ∷ record { prio = 3; body = record { kind = 0; at = 2; arg = 0 } }
    ∷ []

-- one that sums up, and two that add behind it
abbrev pub later_additions : List Start
later_additions =
    record { prio = 0; body = record { kind = 0; at = 2; arg = 0 } }
    ∷ record { prio = 0; body = record { kind = 0; at = 0; arg = 1 } }
    ∷ record { prio = 0; body = record { kind = 0; at = 1; arg = 10 } }
    ∷ []

abbrev pub zeros : List ℕ
zeros = 0 ∷ 0 ∷ 0 ∷ []
