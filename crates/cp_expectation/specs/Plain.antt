-- What expectations say, in plain values: texts in place of strings, lists in place of vectors.
use Rattle.std.specs.Prelude.{ℕ, List, Bool, map, Option, Some, None, option_map, string_bytes}
use Rattle.cp_store.specs.declared.error.ErrorName.{ErrorName}
use Rattle.cp_expectation.specs.declared.expectation.Claim.{Claim}
use Rattle.cp_expectation.specs.declared.expectation.OutputItem.{OutputItem}
use Rattle.cp_expectation.specs.declared.expectation.OutputItem.TheVariants.{Value, Rest}
use Rattle.cp_expectation.specs.declared.expectation.OutputPattern.{OutputPattern}
use Rattle.cp_expectation.specs.declared.expectation.WhoPattern.{WhoPattern}
use Rattle.cp_expectation.specs.declared.expectation.EndPattern.{EndPattern}
use Rattle.cp_expectation.specs.declared.expectation.EndPattern.TheVariants as end
use Rattle.cp_expectation.specs.declared.expectation.Topic as code_topic
use Rattle.cp_expectation.specs.declared.expectation.Topic.TheVariants as topic
use Rattle.cp_expectation.specs.declared.expectation.Expectation.{Expectation}

-- a value, as a report prints it, or any values
pub data Item : Type 0 where
  Printed : List ℕ → Item
  Any : Item

-- who waits: these, and perhaps others
pub record Who : Type 0 where
  pub processes : List (List ℕ)
  pub others : Bool

pub data End : Type 0 where
  Finished : End
  AnyError : End
  Error : ErrorName → End
  AllWaiting : Option Who → End
  Alone : Option (List ℕ) → End
  Spins : Option (List ℕ) → End

-- an end, and such an output where one is given; a value that is displayed; or waiting for ever
pub data Topic : Type 0 where
  Ends : End → Option (List Item) → Topic
  Displays : List ℕ → Topic
  Waits : Option (List ℕ) → Topic

pub record Expected : Type 0 where
  pub claim : Claim
  pub topics : List Topic

abbrev pub item_of : OutputItem → Item
item_of (Value text) = Printed (string_bytes text)
item_of Rest = Any

abbrev pub output_of : Option OutputPattern → Option (List Item)
output_of None = None
output_of (Some p) = Some (map item_of p.items.items)

abbrev pub who_of : WhoPattern → Who
who_of w = record { processes = map string_bytes w.processes.items; others = w.others }

abbrev pub end_of : EndPattern → End
end_of end.Finished = Finished
end_of end.AnyError = AnyError
end_of (end.Error name) = Error name
end_of (end.AllWaiting who) = AllWaiting (option_map who_of who)
end_of (end.Alone process) = Alone (option_map string_bytes process)
end_of (end.Spins process) = Spins (option_map string_bytes process)

abbrev pub topic_of : code_topic.Topic → Topic
topic_of (topic.End end output) = Ends (end_of end) (output_of output)
topic_of (topic.Shown text) = Displays (string_bytes text)
topic_of (topic.Waiting process) = Waits (option_map string_bytes process)

abbrev pub expected_of : Expectation → Expected
expected_of e = record { claim = e.claim; topics = map topic_of e.topics.items }
