-- What the entries of a log come from.
use Rattle.std.specs.Prelude.{ℕ, zero, ◌+◌, List, [], Option, Some, None}
use Rattle.task_order.specs.declared.key.Key.{Key}
use Rattle.task_order.specs.Key.{at_key}
use Rattle.output_log.specs.Entries.{Entry, entries_from, with_entry}

-- the entries, and how many steps led to them
pub record PastState : Type 0 where
  pub entries : List Entry
  pub steps : ℕ

-- a text is put in under the key, or what is earlier than the key is taken out
pub record PastStep : Type 0 where
  pub before : PastState
  pub key : Key
  pub text : Option (List ℕ)

abbrev pub entries_after : Key → Option (List ℕ) → List Entry → List Entry
entries_after key (Some text) entries = with_entry key text entries
entries_after key None entries = entries_from (at_key key) entries

abbrev pub past_after : Option PastStep → PastState
past_after None = record { entries = []; steps = zero }
past_after (Some step) = record { entries = entries_after step.key step.text step.before.entries; steps = step.before.steps + 1 }
