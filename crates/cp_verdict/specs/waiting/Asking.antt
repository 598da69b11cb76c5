-- Which expectations name who waits at an end.
use Rattle.std.specs.Prelude.{List, Bool, true, false, Some}
use Rattle.std.specs.List.{list_any}
use Rattle.cp_expectation.specs.declared.expectation.EndPattern.TheVariants as pattern
use Rattle.cp_expectation.specs.declared.expectation.Topic.{Topic}
use Rattle.cp_expectation.specs.declared.expectation.Topic.TheVariants as topic
use Rattle.cp_expectation.specs.declared.expectation.Expectation.{Expectation}

abbrev pub is_of_who : Topic → Bool
is_of_who (topic.End (pattern.AllWaiting (Some who)) output) = true
is_of_who t = false

abbrev pub names_who : Expectation → Bool
names_who e = list_any is_of_who e.topics.items

abbrev pub name_who : List Expectation → Bool
name_who es = list_any names_who es
