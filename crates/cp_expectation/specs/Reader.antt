-- Where a reader of expectations stands, and what it has read.
use Rattle.std.specs.Prelude.{◌≡◌, map, Bool, true, false, Option, Some, None, string_bytes}
use Rattle.cp_expectation.specs.Plain.{expected_of, end_of, topic_of, item_of}
use Rattle.cp_expectation.specs.Steps.{Place, State, at}
use Rattle.cp_expectation.specs.Steps as steps
use Rattle.cp_expectation.specs.declared.reader.Addition.{Addition}
use Rattle.cp_expectation.specs.declared.reader.Addition.TheVariants as addition
use Rattle.cp_expectation.specs.declared.reader.ReadPart.{ReadPart}
use Rattle.cp_expectation.specs.declared.reader.ReadPart.TheVariants as part
use Rattle.cp_expectation.specs.declared.reader.Reader.{Reader}

abbrev pub place_of : ReadPart → Place
place_of part.Nothing = steps.AtClaim
place_of (part.Before e) = steps.AtTopic (expected_of e)
place_of (part.Output e end) = steps.AtOutput (expected_of e) (end_of end)
place_of (part.Shown e) = steps.AtShown (expected_of e)
place_of (part.After e t) = steps.After (expected_of e) (topic_of t)

abbrev pub addition_of : Addition → steps.Addition
addition_of (addition.Name name) = steps.Name name
addition_of (addition.Process name) = steps.Process (string_bytes name)
addition_of addition.Others = steps.Others
addition_of addition.Output = steps.Output
addition_of (addition.Another item) = steps.Another (item_of item)

abbrev pub state_of : Reader → State
state_of r = at (map expected_of r.done.items) (place_of r.part)

-- a word fits, and leads to a state; or it does not
abbrev pub Leads : Option State → Bool → State → Type 0
Leads None fits now = fits ≡ false
Leads (Some s) fits now = (fits ≡ true) × (now ≡ s)
