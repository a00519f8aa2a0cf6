-- People who introduce their contacts to each other. Each cell is one person's contact: the number of another person.
use Rattle.std.specs.Prelude.{◌≡◌, ◌==◌, ◌+◌, ◌-◌, ◌<◌, ◌^◌, ℕ, List, [], ◌∷◌, ◌++◌, length, slice_index, slice_set, if◌then◌else◌, true}
use Rattle.std.specs.Fmt.{decimal}
use Rattle.std.specs.List.{All}
use Rattle.task_order.specs.declared.start.Start.{Start}
use Rattle.task_order.specs.declared.task.Body.{Body}
use Rattle.task_order.specs.declared.task.Task.{Task}
use Rattle.rw_sets.specs.Accesses.{Accesses, put_access}
use Rattle.rw_sets.specs.declared.access.Access.TheVariants.{Read, Write}
use Rattle.cell_store.specs.declared.cell.Cell.{Cell}
use Rattle.cell_store.specs.declared.cell.Cell.TheVariants.{Home, Out}
use Rattle.cell_store.specs.Cells.{cell_at}
use Rattle.app_laws.specs.declared.app.SetAnswer.{SetAnswer}
use Rattle.app_laws.specs.declared.child.Child.{Child}
use Rattle.app_laws.specs.declared.app.SetAnswer.TheVariants as answer
use Rattle.app_laws.specs.Applications.{Application}
use Rattle.app_laws.specs.Execution.{Outcome}

-- each person's contact is one of the people
pub record AreContacts (people : ℕ) (contacts : List ℕ) : Type 0 where
  pub one_each : length contacts ≡ people
  pub known : All (λ contact. contact < people) contacts

-- two of the people are the hosts, and the rounds of further introductions that the kind tells follow in time
pub record IsMeeting (people prio : ℕ) (body : Body) : Type 0 where
  pub first : body.at < people
  pub second : body.arg < people
  pub in_time : prio + body.kind < 2 ^ 64

-- what two hosts look up, and the entries of their guests, which change
abbrev pub meeting_set : ℕ → ℕ → ℕ → ℕ → Accesses
meeting_set first second guest other = put_access (put_access (put_access ((first, Read) ∷ []) (second, Read)) (guest, Write)) (other, Write)

-- the hosts' contacts are the guests
abbrev pub set_among : Body → List ℕ → Accesses
set_among body contacts = meeting_set body.at body.arg (slice_index contacts body.at) (slice_index contacts body.arg)

-- the first host is asked first
abbrev pub set_asked : ℕ → ℕ → Cell ℕ → Cell ℕ → SetAnswer
set_asked first second Out asked = answer.Out first
set_asked first second (Home guest) Out = answer.Out second
set_asked first second (Home guest) (Home other) = answer.Known (meeting_set first second guest other)

abbrev pub walk_among : Body → List (Cell ℕ) → SetAnswer
walk_among body cells = set_asked body.at body.arg (cell_at cells body.at) (cell_at cells body.arg)

-- each of two guests is the other's contact
abbrev pub introduced : ℕ → ℕ → List ℕ → List ℕ
introduced guest other contacts = slice_set (slice_set contacts guest other) other guest

-- at once the first guest and the second host meet, and a moment later the first host and the second guest
abbrev pub meetings_after : ℕ → Body → ℕ → ℕ → List Start
meetings_after prio body guest other =
    if body.kind == 0 then [] else
    record { prio = prio; body = record { kind = body.kind - 1; at = guest; arg = body.arg } }
    ∷ record { prio = prio + 1; body = record { kind = body.kind - 1; at = body.at; arg = other } }
    ∷ []

-- whom a person knows who knew another one before, when the guests have met
abbrev pub contact_after : ℕ → ℕ → ℕ → ℕ → ℕ
contact_after guest other person before = if person == other then guest else if person == guest then other else before

-- those meetings with their sets, once the guests have met
abbrev pub children_of : ℕ → Body → ℕ → ℕ → List Child
children_of prio body guest other =
    if body.kind == 0 then [] else
    record {
      prio = prio;
      body = record { kind = body.kind - 1; at = guest; arg = body.arg };
      set = meeting_set guest body.arg other (contact_after guest other body.arg other);
    }
    ∷ record {
      prio = prio + 1;
      body = record { kind = body.kind - 1; at = body.at; arg = other };
      set = meeting_set body.at other (contact_after guest other body.at guest) guest;
    }
    ∷ []

-- a line with the two guests
abbrev pub line_of : ℕ → ℕ → List ℕ
line_of guest other = decimal guest ++ 32 ∷ [] ++ decimal other ++ 10 ∷ []

abbrev pub meeting_of : Task → ℕ → ℕ → List ℕ → Outcome ℕ
meeting_of task guest other contacts = record {
  cells = introduced guest other contacts;
  children = meetings_after task.key.prio task.body guest other;
  text = line_of guest other;
}

-- a task's two hosts introduce their contacts to each other
abbrev pub introductions : ℕ → Application ℕ
introductions people = record {
  count = people;
  is_fit_cells = AreContacts people;
  is_fit_task = IsMeeting people;
  set_of = set_among;
  walk = walk_among;
  act = λ task contacts. meeting_of task (slice_index contacts task.body.at) (slice_index contacts task.body.arg) contacts;
  is_safe = λ task others. true;
}
