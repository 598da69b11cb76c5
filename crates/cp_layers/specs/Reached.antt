-- What schedules come to.
use Rattle.std.specs.Prelude.{◌≡◌, ◌<◌, ◌⊎◌, ℕ, zero, suc, true, Contains}
use Rattle.cp_machine.specs.Machine.{Machine}
use Rattle.cp_run.specs.System.{System}
use Rattle.cp_run.specs.Run.{Choosing, may, chosen, opened}
use Rattle.cp_layers.specs.Marking.{Marking}

-- a choice is due in this state, after so many choices
abbrev pub IsDue : System Machine → ℕ → ℕ → Machine → Type 0
IsDue sys steps zero m = opened sys steps ≡ Choosing m
IsDue sys steps (suc d) m = (l : Machine) × (p : ℕ) × IsDue sys steps d l × (may sys l p ≡ true) × (chosen sys steps l p ≡ Choosing m)

-- some schedule of at most so many choices comes to it
abbrev pub IsReached : {A : Type 0} → Marking A → System Machine → ℕ → ℕ → A → Type 0
IsReached marking sys steps choices mark =
    Contains marking.opened mark ⊎ ((d : ℕ) × (m : Machine) × (p : ℕ) × (d < choices) × IsDue sys steps d m × (may sys m p ≡ true) × Contains (marking.chosen m p) mark)
