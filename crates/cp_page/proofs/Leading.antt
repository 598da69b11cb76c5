-- Where a choice leads, with what is displayed kept or taken away.
use Rattle.std.proofs.Common.{◌≡◌, ◌∙◌, ℕ, List, [], Bool, true, false, refl, sym, ap, subst}
use Rattle.cp_slots.specs.Tables.{Tables}
use Rattle.cp_machine.specs.System.{Machine, output_of}
use Rattle.cp_machine.specs.declared.discipline.Discipline.{Discipline}
use Rattle.cp_machine.specs.declared.shown.Shown.{Shown}
use Rattle.cp_run.specs.Fold.{walked_chosen, walked_opened}
use Rattle.cp_run.specs.Run.{Node, chosen, may, opened}
use Rattle.cp_run.specs.Silent.{left_by, silent_slots, slots_by, without_output}
use Rattle.cp_run.specs.Slots.{slots}
use Rattle.cp_run.specs.declared.outcome.Halt.{Halt}
use Rattle.cp_run.specs.declared.outcome.Turn.{Turn}
use Rattle.cp_ends.specs.Arrivals.{first_arrival, halt_arrival, next_arrival}
use Rattle.cp_ends.specs.Graph.{Goal}
use Rattle.cp_ends.specs.Holds.{same_key}
use Rattle.cp_ends.specs.declared.end.End.{End}
use Rattle.cp_ends.proofs.Halting.{choice_comes, opening_comes}
use Rattle.cp_page.specs.Halts.{IsHalt}

-- nothing stays displayed where it is taken away
pub quiet_left : (b : Bool) (m : Machine) → b ≡ true → output_of (left_by b m) ≡ []
quiet_left true m is = refl
quiet_left false m is = absurd (cc)

-- a choice may be taken whatever was displayed
pub may_left : (b : Bool) (r : Tables) (discipline : Discipline) (m n : Machine) (p : ℕ) → n ≡ left_by b m → may (slots r discipline) m p ≡ true → may (slots r discipline) n p ≡ true
unfolding may
may_left true r discipline m n p e h = subst (λ x. may (slots r discipline) x p ≡ true) (sym e) h
may_left false r discipline m n p e h = subst (λ x. may (slots r discipline) x p ≡ true) (sym e) h

-- with what is displayed kept: as in a run

pub choice_halts : (b : Bool) (r : Tables) (discipline : Discipline) (steps : ℕ) (m n : Machine) (p : ℕ) (h : Halt End) (t : Machine) (node : Node Machine) → n ≡ left_by b m → chosen (slots_by b r discipline) steps n p ≡ node → (b ≡ false → IsHalt h t node) → b ≡ false → IsHalt h t (chosen (slots r discipline) steps m p)
choice_halts true r discipline steps m n p h t node at is halts off = absurd (cc)
choice_halts false r discipline steps m n p h t node at is halts off = subst (IsHalt h t) (sym is ∙ ap (λ x. chosen (slots r discipline) steps x p) at) (halts off)

pub opening_halts : (b : Bool) (r : Tables) (discipline : Discipline) (steps : ℕ) (h : Halt End) (t : Machine) (node : Node Machine) → opened (slots_by b r discipline) steps ≡ node → (b ≡ false → IsHalt h t node) → b ≡ false → IsHalt h t (opened (slots r discipline) steps)
opening_halts true r discipline steps h t node is halts off = absurd (cc)
opening_halts false r discipline steps h t node is halts off = subst (IsHalt h t) (sym is) (halts off)

-- and with it taken away: as in schedules of any length

abbrev goal_by : Tables → Discipline → ℕ → List Shown → Machine × Turn → Goal Machine End
goal_by r discipline steps shown w = (halt_arrival (slots r discipline) (silent_slots r discipline) same_key steps shown w.0 w.1).goal

pub choice_leads : (b : Bool) (r : Tables) (discipline : Discipline) (steps : ℕ) (m n : Machine) (p : ℕ) (goal : Goal Machine End) (t : Machine) (turn : Turn) → n ≡ left_by b m → walked_chosen (slots_by b r discipline) steps n p ≡ (t, turn) → (b ≡ true → (shown : List Shown) → goal ≡ (halt_arrival (slots r discipline) (silent_slots r discipline) same_key steps shown t turn).goal) → b ≡ true → goal ≡ (next_arrival (slots r discipline) without_output same_key steps (without_output m) p).goal
choice_leads false r discipline steps m n p goal t turn at stands leads on = absurd (cc)
choice_leads true r discipline steps m n p goal t turn at stands leads on =
    let comes = choice_comes (slots r discipline) without_output same_key steps (without_output m) p in
    leads on comes.shown
    ∙ ap (goal_by r discipline steps comes.shown) (sym (ap (λ x. walked_chosen (silent_slots r discipline) steps x p) (sym at) ∙ stands))
    ∙ ap (λ a. a.goal) (sym comes.is)

pub opening_leads : (b : Bool) (r : Tables) (discipline : Discipline) (steps : ℕ) (goal : Goal Machine End) (t : Machine) (turn : Turn) → walked_opened (slots_by b r discipline) steps ≡ (t, turn) → (b ≡ true → (shown : List Shown) → goal ≡ (halt_arrival (slots r discipline) (silent_slots r discipline) same_key steps shown t turn).goal) → b ≡ true → goal ≡ (first_arrival (slots r discipline) without_output same_key steps).goal
opening_leads false r discipline steps goal t turn stands leads on = absurd (cc)
opening_leads true r discipline steps goal t turn stands leads on =
    let comes = opening_comes (slots r discipline) without_output same_key steps in
    leads on comes.shown ∙ ap (goal_by r discipline steps comes.shown) (sym stands) ∙ ap (λ a. a.goal) (sym comes.is)
