-- A machine whose output is taken away, or not: its turns are the same.
use Rattle.cp_run.proofs.Words.{◌≡◌, ◌∙◌, true, false, [], ap, sym, refl, is_ready, is_pending, Event, Local, Turn, Due, turn_after, turn_among, turn_at, settled_turn, those_below, slots}
use Rattle.std.proofs.Common.{ℕ, ◌∷◌, Bool, List, if◌then◌else◌}
use Rattle.cp_machine.specs.System.{Machine, Stepped, opening, step_at}
use Rattle.cp_machine.specs.declared.event.Event.TheVariants.{Kernel, Ended, Fault, OutputFull}
use Rattle.cp_machine.specs.declared.discipline.Discipline.{Discipline}
use Rattle.cp_run.specs.Silent.{left_by, slots_by}
use Rattle.cp_slots.specs.Tables.{Tables}

pub ready_left : (b : Bool) (m n : Machine) (q : ℕ) → n ≡ left_by b m → is_ready n q ≡ is_ready m q
ready_left true m n q e = ap (λ x. is_ready x q) e
ready_left false m n q e = ap (λ x. is_ready x q) e

pub pending_left : (b : Bool) (m n : Machine) → n ≡ left_by b m → is_pending n ≡ is_pending m
pending_left true m n e = ap is_pending e
pending_left false m n e = ap is_pending e

-- nothing is displayed in the beginning
pub starts_by : (b : Bool) (r : Tables) (discipline : Discipline) → opening r discipline ≡ (slots_by b r discipline).start
starts_by true r discipline = refl
starts_by false r discipline = refl

module _ (b : Bool) (r : Tables) (discipline : Discipline) where
  among_by : (m : Machine) (kernel : Bool) (p : ℕ) (ready : List ℕ) → turn_among (slots r discipline) m kernel p ready ≡ turn_among (slots_by b r discipline) m kernel p ready
  among_by m kernel p [] = refl
  among_by m kernel p (q ∷ []) = refl
  among_by m kernel p (q ∷ u ∷ qs) = refl

  pub settled_by : (m : Machine) (kernel : Bool) (p : ℕ) → settled_turn (slots r discipline) m kernel p ≡ settled_turn (slots_by b r discipline) m kernel p
  settled_by m kernel p = among_by m kernel p (those_below (slots r discipline).processes (is_ready m))

  pub turn_by : (m : Machine) (kernel : Bool) (p : ℕ) → turn_at (slots r discipline) m kernel p ≡ turn_at (slots_by b r discipline) m kernel p
  turn_by m kernel p = ap (λ t. if is_pending m then Due else t) (settled_by m kernel p)

  after_by : (m : Machine) (p : ℕ) (event : Event) → turn_after (slots r discipline) m p event ≡ turn_after (slots_by b r discipline) m p event
  after_by m p Local = turn_by m false p
  after_by m p (Kernel call) = turn_by m true p
  after_by m p Ended = turn_by m true p
  after_by m p (Fault e) = refl
  after_by m p OutputFull = refl

  -- a step, after which what it displayed was taken away or not
  module _ (m n t : Machine) (p : ℕ) (event : Event) (step : step_at r m p ≡ record { machine = n; event = event }) (left : t ≡ left_by b n) where
    pub made_by : t ≡ (slots_by b r discipline).step m p
    made_by = left ∙ ap (λ (x : Stepped). left_by b x.machine) (sym step)

    pub told_by : event ≡ (slots_by b r discipline).event m p
    told_by = ap (λ (x : Stepped). x.event) (sym step)

    pub follows_by : (turn : Turn) → turn ≡ turn_after (slots r discipline) t p event → turn ≡ turn_after (slots_by b r discipline) t p ((slots_by b r discipline).event m p)
    follows_by turn is = is ∙ after_by t p event ∙ ap (turn_after (slots_by b r discipline) t p) told_by
