-- Statuses, frames and options as numbers. No two have the same.
use Rattle.std.specs.Prelude.{ℕ, suc, Bool, if◌then◌else◌, List, [], ◌∷◌, Option, None, Some}
use Rattle.cp_store.specs.declared.memory.Frame.{Frame}
use Rattle.cp_machine.specs.declared.process.Status.{Status}
use Rattle.cp_machine.specs.declared.process.Status.TheVariants.{Unstarted, Ready, AtGate, Delayed, Ended}
use Rattle.cp_machine.specs.Machine.{Thread}
use Rattle.cp_effect_laws.specs.Parts.{Places, waits_in}

abbrev pub option_code : Option ℕ → ℕ
option_code None = 0
option_code (Some n) = suc n

-- a process or none, as a list
abbrev pub option_list : Option ℕ → List ℕ
option_list None = []
option_list (Some n) = n ∷ []

-- which kind of status it is, and where a process waits
abbrev pub status_kind : Status → ℕ
status_kind Unstarted = 0
status_kind Ended = 1
status_kind Ready = 2
status_kind (AtGate monitor) = 3
status_kind (Delayed cell) = 4

abbrev pub status_where : Status → ℕ
status_where (AtGate monitor) = monitor
status_where (Delayed cell) = cell
status_where _ = 0

abbrev pub status_code : Status → List ℕ
status_code s = status_kind s ∷ status_where s ∷ []

abbrev pub frame_code : Frame → List ℕ
frame_code f = f.routine ∷ f.component ∷ f.own ∷ f.base ∷ f.references ∷ []

-- the numbers of who waits in a place, and zeros for each other process
abbrev pub if_waits : Bool → ℕ → ℕ
if_waits waits n = if waits then n else 0

abbrev pub waiting_pair : Places → (place : ℕ) → Status → List ℕ
waiting_pair l place s = if_waits (waits_in l place s) (status_kind s) ∷ if_waits (waits_in l place s) (status_where s) ∷ []

abbrev pub waiting_code : Places → (place : ℕ) → List Thread → List ℕ
waiting_code l place [] = []
waiting_code l place (t ∷ ts) =
    if_waits (waits_in l place t.status) (status_kind t.status) ∷ if_waits (waits_in l place t.status) (status_where t.status) ∷ waiting_code l place ts
