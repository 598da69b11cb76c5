-- A word arrives: its values and its end are noted.
use Rattle.cp_at_once.proofs.Words.{◌≡◌, ◌∙◌, ℕ, List, [], Bool, true, None, refl, sym, subst, arith, Tables, Shown, Machine, Goal, Place, ArrivesAt}
use Rattle.cp_at_once.proofs.Words.{LeadsToEnd, ShowsLast, SlotArrival, End, Holds, IsWordOf, FoundAtOnce, OriginAtOnce}
use Rattle.std.specs.Prelude.{All, Contains}
use Rattle.std.proofs.lemmas.List.Elements.{All-contains, All-contains_itself, All-weaker}
use Rattle.cp_ends.specs.Graph as graph
use Rattle.cp_at_once.specs.Following.{GoesOn, IsGoneThrough, NotesArrival, NotesEnd, NotesValues, SlotGraph, knows_end, knows_value}
use Rattle.cp_at_once.proofs.Following.{States}
use Rattle.cp_at_once.proofs.Keeping.{word_start}
use Rattle.cp_at_once.proofs.Noting.{grows_on}

place_no_end : (s : Machine) (e : End) → (◌≡◌ {A = Goal Machine End}) (Place s) (graph.End e) → ⊥
place_no_end s e h = cc

one_end : (d e : End) → (◌≡◌ {A = Goal Machine End}) (graph.End d) (graph.End e) → d ≡ e
one_end d e h = cc

module _ (r : Tables) (g : SlotGraph) (most : ℕ) (before : FoundAtOnce) (states : States) (word : List ℕ) (a : SlotArrival) (vs : List Shown) (shows : vs ≡ a.shown) where
  -- each value is shown by the word
  pub shows_all : ArrivesAt g word a → All (λ v. ShowsLast g v word) vs
  shows_all arrives = All-weaker (Contains vs) (λ v. ShowsLast g v word) (λ v c. (a, arrives, subst (λ l. Contains l v) shows c)) vs (All-contains_itself vs)

  module _ (mid : FoundAtOnce) (n : NotesValues r g most before states mid vs) where
    known : (v : Shown) → Contains a.shown v → knows_value mid v ≡ true
    known v c = All-contains (λ u. knows_value mid u ≡ true) vs v n.2 (subst (λ l. Contains l v) (sym shows) c)

    pub noted_choice : (s : Machine) → Place s ≡ a.goal → NotesArrival r g most before states mid a
    noted_choice s to = (n.0, n.1, known, λ e is. absurd (place_no_end s e (to ∙ is)))

    pub noted_end : (after : FoundAtOnce) (d : End) → graph.End d ≡ a.goal → NotesEnd r g most mid states after d → NotesArrival r g most before states after a
    noted_end after d to k = (k.0, grows_on before mid after states states states n.1 k.1, λ v c. k.1.values v (known v c), λ e is. subst (λ x. knows_end after x ≡ true) (one_end d e (to ∙ is)) k.2)

-- the word leads to this end
pub ends_so : (g : SlotGraph) (word : List ℕ) (a : SlotArrival) (d : End) → ArrivesAt g word a → graph.End d ≡ a.goal → LeadsToEnd g d word
ends_so g word a d arrives to = (a, arrives, sym to)

-- ---- the start

module _ (r : Tables) (g : SlotGraph) (Leg : Machine → ℕ → Type 0) (most : ℕ) where
  -- what is begun when the first arrival was expanded
  pub begun : (before : FoundAtOnce) (states : States) (after : FoundAtOnce) → GoesOn r g Leg most 8 before states after g.start true → (more : States) × Holds r g most after more × IsGoneThrough g Leg 8 0 after more
  begun before states after k = (k.0, k.1, record { start = k.3; on = λ i x less at. absurd (omega (arith, less)) })

  -- by what holds of the first arrival
  pub first_followed : (before after : FoundAtOnce) (o : OriginAtOnce) → o.state ≡ None → o.numbers.items ≡ [] → Holds r g most before [] → (goal : Goal Machine End) (told : List Shown) → goal ≡ g.start.goal → told ≡ g.start.shown → (is_room : Bool) →
      ((states : States) (word : List ℕ) (a : SlotArrival) → Holds r g most before states → IsWordOf states o word → ArrivesAt g word a → goal ≡ a.goal → told ≡ a.shown → GoesOn r g Leg most 8 before states after a is_room) → GoesOn r g Leg most 8 before [] after g.start is_room
  first_followed before after o state numbers h goal told to shows is_room on = on [] [] g.start h (word_start [] o state numbers) refl to shows
