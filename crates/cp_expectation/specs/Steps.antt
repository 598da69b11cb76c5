-- How expectations are read word by word: what may come next, and what a word makes of it.
use Rattle.std.specs.Option.{option_or}
use Rattle.std.specs.Prelude.{ℕ, List, [], ◌∷◌, ◌++◌, ◌==◌, true, false, Option, Some, None, option_map, codes, if◌then◌else◌}
use Rattle.std.specs.Str.{bytes_eq}
use Rattle.cp_store.specs.declared.error.ErrorName.{ErrorName}
use Rattle.cp_store.specs.declared.error.ErrorName.TheVariants as error
use Rattle.cp_expectation.specs.Plain.{Item, Printed, Any, Who, End, Finished, AnyError, Error, AllWaiting, Alone, Spins, Topic, Ends, Displays, Waits, Expected}
use Rattle.cp_expectation.specs.Values.{is_value}
use Rattle.cp_expectation.specs.Written.{is_doubtful, is_own}
use Rattle.cp_expectation.specs.declared.expectation.Claim.{Claim}
use Rattle.cp_expectation.specs.declared.expectation.Claim.TheVariants.{Never, Sometimes, Only}

-- where a reader stands in an expectation of which it has read some topics: the last one may go on
pub data Place : Type 0 where
  AtClaim : Place
  AtTopic : Expected → Place
  AtOutput : Expected → End → Place
  AtShown : Expected → Place
  After : Expected → Topic → Place

-- the expectations before, and the place in the next one
pub record State : Type 0 where
  pub done : List Expected
  pub place : Place

abbrev pub at : List Expected → Place → State
at done place = record { done = done; place = place }

-- ---- words that stand for something

-- a word among some, each of which stands for something
abbrev pub meant_by : {A : Type 0} → List (List ℕ × A) → List ℕ → Option A
meant_by [] word = None
meant_by (x ∷ xs) word = if bytes_eq word x.0 then Some x.1 else meant_by xs word

abbrev pub claims : List (List ℕ × Claim)
claims = (codes "never", Never) ∷ (codes "some", Sometimes) ∷ (codes "only", Only) ∷ []

abbrev pub errors : List (List ℕ × ErrorName)
errors =
    (codes "overflow", error.Overflow) ∷ (codes "zero-divisor", error.ZeroDivisor) ∷ (codes "range", error.Range) ∷ (codes "no-case", error.NoCase) ∷ (codes "queue-in-use", error.QueueInUse) ∷ (codes "not-init", error.NotInit) ∷ (codes "init-twice", error.InitTwice) ∷ (codes "assertion", error.Assertion) ∷ (codes "invariant", error.Invariant) ∷ []

-- what stands before a parenthesis at the end
abbrev pub before_closing : List ℕ → Option (List ℕ)
before_closing [] = None
before_closing (c ∷ []) = if c == 41 then Some [] else None
before_closing (c ∷ d ∷ cs) = option_map (λ v. c ∷ v) (before_closing (d ∷ cs))

abbrev pub checked : Option (List ℕ) → Option (List ℕ)
checked None = None
checked (Some value) = if is_value value then Some value else None

-- the value that a word stands for
abbrev pub value_in : List ℕ → Option (List ℕ)
value_in [] = None
value_in (c ∷ cs) = if c == 40 then checked (before_closing cs) else (if is_doubtful (c ∷ cs) then None else checked (Some (c ∷ cs)))

-- the name of processes that a word stands for
abbrev pub process_in : List ℕ → Option (List ℕ)
process_in [] = None
process_in (c ∷ cs) = if c == 40 then before_closing cs else (if is_own (c ∷ cs) then None else Some (c ∷ cs))

-- a value, or `..`
abbrev pub item_in : List ℕ → Option (List ℕ) → Option Item
item_in word (Some value) = Some (Printed value)
item_in word None = if bytes_eq word (codes "..") then Some Any else None

-- ---- a topic begins

abbrev pub with_topic : Expected → Topic → Expected
with_topic e t = record { claim = e.claim; topics = e.topics ++ t ∷ [] }

-- the words that begin a topic, and where each of them leads
abbrev pub beginnings : Expected → List (List ℕ × Place)
beginnings e =
    (codes "finished", After e (Ends Finished None)) ∷ (codes "all-waiting", After e (Ends (AllWaiting None) None)) ∷ (codes "run-error", After e (Ends AnyError None)) ∷ (codes "shown", AtShown e) ∷ (codes "alone", After e (Ends (Alone None) None)) ∷ (codes "spins", After e (Ends (Spins None) None)) ∷ (codes "waiting", After e (Waits None)) ∷ []

abbrev pub begun : Expected → List ℕ → Option Place
begun e word = meant_by (beginnings e) word

-- ---- a topic goes on

-- what a word adds to a topic
pub data Addition : Type 0 where
  Name : ErrorName → Addition
  Process : List ℕ → Addition
  Others : Addition
  Output : Addition
  Another : Item → Addition

abbrev pub who_addition : Who → List ℕ → Option Addition
who_addition who word = if who.others then None else (if bytes_eq word (codes "..") then Some Others else option_map Process (process_in word))

abbrev pub end_addition : End → List ℕ → Option Addition
end_addition AnyError word = option_map Name (meant_by errors word)
end_addition (AllWaiting None) word = option_map Process (process_in word)
end_addition (AllWaiting (Some who)) word = who_addition who word
end_addition (Alone None) word = option_map Process (process_in word)
end_addition (Spins None) word = option_map Process (process_in word)
end_addition end word = None

abbrev pub output_addition : List Item → List ℕ → Option Addition
output_addition [] word = None
output_addition (i ∷ is) word = option_map Another (item_in word (value_in word))

abbrev pub addition : Topic → List ℕ → Option Addition
addition (Ends end None) word = if bytes_eq word (codes "output") then Some Output else end_addition end word
addition (Ends end (Some items)) word = output_addition items word
addition (Displays value) word = None
addition (Waits None) word = option_map Process (process_in word)
addition (Waits (Some name)) word = None

abbrev pub one_who : List ℕ → Who
one_who name = record { processes = name ∷ []; others = false }

abbrev pub with_process : Who → List ℕ → Who
with_process who name = record { processes = who.processes ++ name ∷ []; others = who.others }

abbrev pub with_others : Who → Who
with_others who = record { processes = who.processes; others = true }

abbrev pub longer_end : End → Addition → End
longer_end AnyError (Name name) = Error name
longer_end (AllWaiting None) (Process name) = AllWaiting (Some (one_who name))
longer_end (AllWaiting (Some who)) (Process name) = AllWaiting (Some (with_process who name))
longer_end (AllWaiting (Some who)) Others = AllWaiting (Some (with_others who))
longer_end (Alone process) (Process name) = Alone (Some name)
longer_end (Spins process) (Process name) = Spins (Some name)
longer_end end a = end

abbrev pub added : Expected → Topic → Addition → Place
added e (Ends end None) Output = AtOutput e end
added e (Ends end None) a = After e (Ends (longer_end end a) None)
added e (Ends end (Some items)) (Another i) = After e (Ends end (Some (items ++ i ∷ [])))
added e (Waits process) (Process name) = After e (Waits (Some name))
added e t a = After e t

-- ---- a word

-- `or`, or what begins another topic
abbrev pub joint : Expected → List ℕ → Option Place
joint e word = if bytes_eq word (codes "or") then Some (AtTopic e) else begun e word

-- what a word other than `and` makes of a place; none where it does not fit
abbrev pub next : Place → List ℕ → Option Place
next AtClaim word = option_map (λ c. AtTopic (record { claim = c; topics = [] })) (meant_by claims word)
next (AtTopic e) word = begun e word
next (AtOutput e end) word = if bytes_eq word (codes "-") then Some (After e (Ends end (Some []))) else option_map (λ i. After e (Ends end (Some (i ∷ [])))) (item_in word (value_in word))
next (AtShown e) word = option_map (λ v. After e (Displays v)) (value_in word)
next (After e t) word = option_or (option_map (added e t) (addition t word)) (joint (with_topic e t) word)

-- the expectation that ends there
abbrev pub expected_at : Place → Option Expected
expected_at (After e t) = Some (with_topic e t)
expected_at place = None

-- before the next expectation, if one ends there
abbrev pub behind : List Expected → Option Expected → Option State
behind done None = None
behind done (Some e) = Some (at (done ++ e ∷ []) AtClaim)

-- what a word makes of a state
unfoldable pub step : State → List ℕ → Option State
step s word = if bytes_eq word (codes "and") then behind s.done (expected_at s.place) else option_map (λ place. at s.done place) (next s.place word)

-- the expectations, if the words may end there
abbrev pub ended : State → Option (List Expected)
ended s = option_map (λ e. s.done ++ e ∷ []) (expected_at s.place)

-- before the first word
abbrev pub start : State
start = at [] AtClaim
