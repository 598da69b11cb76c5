-- How expectations are written.
use Rattle.std.specs.Prelude.{ℕ, List, [], ◌∷◌, ◌++◌, ◌==◌, ◌&&◌, Bool, true, ◌||◌, not, Option, Some, None, codes, if◌then◌else◌, string_bytes}
use Rattle.std.specs.List.{list_any}
use Rattle.std.specs.Str.{bytes_eq}
use Rattle.std.specs.declared.alloc.Global.{Global}
use Rattle.std.specs.declared.string.String.{String}
use Rattle.cp_run.specs.Table.{each}
use Rattle.cp_walk.specs.Text.{error_text}
use Rattle.cp_expectation.specs.declared.expectation.Claim.{Claim}
use Rattle.cp_expectation.specs.declared.expectation.Claim.TheVariants.{Never, Sometimes, Only}
use Rattle.cp_expectation.specs.declared.expectation.OutputItem.{OutputItem}
use Rattle.cp_expectation.specs.declared.expectation.OutputItem.TheVariants.{Value, Rest}
use Rattle.cp_expectation.specs.declared.expectation.OutputPattern.{OutputPattern}
use Rattle.cp_expectation.specs.declared.expectation.WhoPattern.{WhoPattern}
use Rattle.cp_expectation.specs.declared.expectation.EndPattern.{EndPattern}
use Rattle.cp_expectation.specs.declared.expectation.EndPattern.TheVariants as end
use Rattle.cp_expectation.specs.declared.expectation.Topic.{Topic}
use Rattle.cp_expectation.specs.declared.expectation.Topic.TheVariants as topic
use Rattle.cp_expectation.specs.declared.expectation.Expectation.{Expectation}

abbrev pub claim_text : Claim → List ℕ
claim_text Never = codes "never"
claim_text Sometimes = codes "some"
claim_text Only = codes "only"

-- ---- words

-- a word that begins a topic, and could be the name of a constant as well: as a value it is written otherwise
abbrev pub is_doubtful : List ℕ → Bool
is_doubtful word = bytes_eq word (codes "finished") || bytes_eq word (codes "shown")

-- the words of this language that may stand where a name of processes may
abbrev pub own_words : List (List ℕ)
own_words =
    codes "and" ∷ codes "or" ∷ codes "output" ∷ codes ".." ∷ codes "finished" ∷ codes "all-waiting" ∷ codes "run-error" ∷ codes "shown" ∷ codes "waiting" ∷ codes "alone" ∷ codes "spins" ∷ []

abbrev pub is_own : List ℕ → Bool
is_own word = list_any (λ o. bytes_eq word o) own_words

-- ---- values and outputs

-- a value, in parentheses where it could be taken for an outcome
abbrev pub value_text : List ℕ → List ℕ
value_text value = if is_doubtful value then codes "(" ++ value ++ codes ")" else value

abbrev pub item_text : OutputItem → List ℕ
item_text (Value text) = value_text (string_bytes text)
item_text Rest = codes ".."

-- each behind a blank; a hyphen where there are none
abbrev pub items_text : List OutputItem → List ℕ
items_text [] = codes " -"
items_text (i ∷ is) = each (λ j. codes " " ++ item_text j) (i ∷ is)

abbrev pub output_text : Option OutputPattern → List ℕ
output_text None = []
output_text (Some p) = codes " output" ++ items_text p.items.items

-- ---- processes

-- nothing, or a parenthesis before it
abbrev pub is_opened : List ℕ → Bool
is_opened [] = true
is_opened (c ∷ cs) = c == 40

-- something that is none of the words of this language, with no parenthesis before it
abbrev pub is_bare : List ℕ → Bool
is_bare name = not (is_own name) && not (is_opened name)

-- a name, in parentheses where it could be taken for another word
abbrev pub process_text : List ℕ → List ℕ
process_text name = if is_bare name then name else codes "(" ++ name ++ codes ")"

abbrev pub perhaps_text : Option (String Global) → List ℕ
perhaps_text None = []
perhaps_text (Some name) = codes " " ++ process_text (string_bytes name)

abbrev pub who_text : WhoPattern → List ℕ
who_text who = each (λ name. codes " " ++ process_text (string_bytes name)) who.processes.items ++ (if who.others then codes " .." else [])

abbrev pub perhaps_who_text : Option WhoPattern → List ℕ
perhaps_who_text None = []
perhaps_who_text (Some who) = who_text who

-- ---- topics

abbrev pub end_text : EndPattern → List ℕ
end_text end.Finished = codes "finished"
end_text end.AnyError = codes "run-error"
end_text (end.Error name) = codes "run-error " ++ error_text name
end_text (end.AllWaiting who) = codes "all-waiting" ++ perhaps_who_text who
end_text (end.Alone process) = codes "alone" ++ perhaps_text process
end_text (end.Spins process) = codes "spins" ++ perhaps_text process

abbrev pub topic_text : Topic → List ℕ
topic_text (topic.End end output) = end_text end ++ output_text output
topic_text (topic.Shown text) = codes "shown " ++ value_text (string_bytes text)
topic_text (topic.Waiting process) = codes "waiting" ++ perhaps_text process

-- joined by `or`
abbrev pub topics_text : List Topic → List ℕ
topics_text [] = []
topics_text (t ∷ ts) = codes " " ++ topic_text t ++ each (λ u. codes " or " ++ topic_text u) ts

abbrev pub expectation_text : Expectation → List ℕ
expectation_text e = claim_text e.claim ++ topics_text e.topics.items

-- ---- words that begin a topic

-- that it does, and how a constant of this name is written
abbrev pub doubt_text : List ℕ → List ℕ
doubt_text name = name ++ codes " begins an outcome; as a value it is written (" ++ name ++ codes ")\n"
