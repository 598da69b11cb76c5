-- The event with which a round begins.
use Rattle.std.specs.Prelude.{◌≡◌, ◌≤◌, ◌<◌, ◌-◌, ℕ, Bool, true, List, length, take, Option, Some, None, option_map, is_some, slice_get}
use Rattle.std.specs.List.{filter}
use Rattle.cp_story.specs.declared.event.StoryEvent.{StoryEvent}

-- a choice came right before it
abbrev pub follows_choice : StoryEvent → Bool
follows_choice e = is_some e.choice

-- It comes after the choice with this number, counted from 0: the events before it tell of as many choices. Where there is none, all tell of no more.
abbrev pub IsEventAfter : List StoryEvent → (number : ℕ) → Option ℕ → Type 0
IsEventAfter events number (Some place) = (length (filter follows_choice (take place events)) ≡ number) × (option_map follows_choice (slice_get events place) ≡ Some true)
IsEventAfter events number None = length (filter follows_choice events) ≤ number

-- the last numbers of a word are a round, so many: it begins with the event after the choice that takes the first of them
pub record IsFirstOfRound (events : List StoryEvent) (word : List ℕ) (round : ℕ) (first : Option ℕ) : Type 0 where
  pub none : round ≡ 0 → first ≡ None
  pub longer : length word < round → first ≡ None
  pub begins : 0 < round → round ≤ length word → IsEventAfter events (length word - round) first
