-- What an item of a process may do, as far as exclusion goes.
use Rattle.std.proofs.Common.{◌≡◌, ℕ, ◌∙◌, ◌⊎◌, inl, inr, Bool, true, false, ◌||◌, List, [], ◌∷◌, sym, refl, subst}
use Rattle.cp_tree.specs.declared.declaration.SystemKind.TheVariants as system_kind
use Rattle.cp_meaning.proofs.Words.{Outcome, Move, stays, enters, leaves, delays, continues, starts, shows, ends, Doing}
use Rattle.cp_meaning.specs.State.{ComponentStatus, uninitialised, initialising, initialised, Component, component_at, Item}
use Rattle.cp_meaning.proofs.Frames.{Frame, frames, entry_in, initial_in, ItemsFit, Descends}
use Rattle.cp_meaning.proofs.Stored.{SameLayout, SameComponents}
use Rattle.cp_meaning.proofs.Taken.{AllOf}

abbrev pub IsMonitor : List Component → ℕ → Type 0
IsMonitor cs m = (component_at cs m).kind ≡ system_kind.Monitor

abbrev pub status_at : List Component → ℕ → ComponentStatus
status_at cs m = (component_at cs m).status

abbrev pub NonEmpty : List Frame → Type 0
NonEmpty [] = ⊥
NonEmpty (f ∷ fs) = Unit {0}

-- a status stays, or a process begins to initialise the component, or ends that
abbrev pub StatusMoves : (cs ds : List Component) → List Frame → ℕ → Type 0
StatusMoves cs ds fs m =
    (status_at ds m ≡ status_at cs m) ⊎
    (((status_at cs m ≡ uninitialised) × (status_at ds m ≡ initialising)) ⊎ ((status_at cs m ≡ initialising) × (initial_in m fs ≡ true)))

-- no monitor is entered
abbrev pub NoneEntered : List Component → (old new : List Frame) → Type 0
NoneEntered cs fs gs = (m : ℕ) → IsMonitor cs m → entry_in m gs ≡ true → entry_in m fs ≡ true

abbrev pub Left : List Component → (old new : List Frame) → ℕ → Type 0
Left cs fs gs n = IsMonitor cs n → (entry_in n fs ≡ true) × (entry_in n gs ≡ false)

abbrev pub MoveFits : List Component → (old new : List Frame) → Move → Type 0
MoveFits cs fs gs stays = NoneEntered cs fs gs
MoveFits cs fs gs (shows x) = NoneEntered cs fs gs
MoveFits cs fs gs ends = NoneEntered cs fs gs
MoveFits cs fs gs (starts d e) = NoneEntered cs fs gs × ((component_at cs d).kind ≡ system_kind.Process)
MoveFits cs fs gs (enters n) = IsMonitor cs n × (entry_in n gs ≡ true) × ((m : ℕ) → IsMonitor cs m → (n ≡ m → ⊥) → entry_in m gs ≡ true → entry_in m fs ≡ true)
MoveFits cs fs gs (leaves n) = NoneEntered cs fs gs × Left cs fs gs n
MoveFits cs fs gs (continues n o calls items) =
    NoneEntered cs fs gs × Left cs fs gs n × (frames calls ≡ fs) × ItemsFit fs items × ((m : ℕ) → initial_in m fs ≡ true → initial_in m gs ≡ true)
MoveFits cs fs gs (delays n) = NoneEntered cs fs gs × (IsMonitor cs n → (entry_in n fs ≡ true) ⊎ (initial_in n fs ≡ true))

-- from the components cs and open calls fs of a process to ds and gs
pub record Good (cs : List Component) (fs gs : List Frame) (ds : List Component) (items : List Item) (move : Move) : Type 0 where
  pub layout : SameLayout cs ds
  pub open_calls : NonEmpty gs
  pub fits : ItemsFit gs items
  pub order : Descends cs gs
  pub status : (m : ℕ) → StatusMoves cs ds fs m
  pub starting : (m : ℕ) → initial_in m gs ≡ true → status_at ds m ≡ initialising
  pub entering : (m : ℕ) → entry_in m gs ≡ true → status_at ds m ≡ initialised
  pub fresh : (m : ℕ) → initial_in m gs ≡ true → (initial_in m fs ≡ true) ⊎ (status_at cs m ≡ uninitialised)
  pub moves : MoveFits cs fs gs move

abbrev pub GoodDoing : List Component → List Frame → Doing → Type 0
GoodDoing cs fs d = Good cs fs (frames d.calls) d.components d.items d.move

abbrev pub GoodOutcome : List Component → List Frame → Outcome Doing → Type 0
GoodOutcome cs fs o = AllOf (GoodDoing cs fs) o

pub good_at : (cs : List Component) (fs gs : List Frame) (d : Doing) → frames d.calls ≡ gs → Good cs fs gs d.components d.items d.move → GoodDoing cs fs d
good_at cs fs gs d e h = subst (λ g. Good cs fs g d.components d.items d.move) (sym e) h

pub or_cases : (a b : Bool) → (a || b) ≡ true → (a ≡ true) ⊎ (b ≡ true)
or_cases true b h = inl refl
or_cases false b h = inr h

pub or_right : (a b : Bool) → b ≡ true → (a || b) ≡ true
or_right true b h = refl
or_right false b h = h

-- ---- an item that changes no open call and no status

pub quiet : (cs : List Component) (fs : List Frame) (d : Doing) → NonEmpty fs → Descends cs fs → ((m : ℕ) → initial_in m fs ≡ true → status_at cs m ≡ initialising) → ((m : ℕ) → entry_in m fs ≡ true → status_at cs m ≡ initialised) → frames d.calls ≡ fs → SameComponents cs d.components → ItemsFit fs d.items → MoveFits cs fs fs d.move → GoodDoing cs fs d
quiet cs fs d some order starting entering e same fits moves =
    good_at cs fs fs d e (record {
      layout = same.layout;
      open_calls = some;
      fits = fits;
      order = order;
      status = λ m. inl (same.status m);
      starting = λ m h. same.status m ∙ starting m h;
      entering = λ m h. same.status m ∙ entering m h;
      fresh = λ m h. inl h;
      moves = moves;
    })
