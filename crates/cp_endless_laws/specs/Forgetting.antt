-- A machine that shows nothing: what it displayed is taken away after each step, so that it is never full and can go on for ever.
use Rattle.std.specs.Prelude.{◌≡◌, ◌⊎◌, ℕ}
use Rattle.cp_machine.specs.declared.event.Event.TheVariants.{OutputFull}
use Rattle.cp_run.specs.System.{System}
pub use Rattle.cp_run.specs.Silent.{forgetting_system}

-- What was displayed decides nothing, but whether the output is full. `R s t` says that t is s with less of what was displayed, or as much.
pub record OutputDecidesNothing {S : Type 0} (sys : System S) (forget : S → S) (R : S → S → Type 0) : Type 0 where
  pub start : R sys.start sys.start
  pub forgets : (s t : S) → R s t → R s (forget t)
  pub ready : (s t : S) (p : ℕ) → R s t → sys.is_ready s p ≡ sys.is_ready t p
  pub pending : (s t : S) → R s t → sys.is_pending s ≡ sys.is_pending t
  pub lined : (s t : S) (p : ℕ) → R s t → sys.in_line s p ≡ sys.in_line t p
  pub waits : (s t : S) → R s t → sys.waits s ≡ sys.waits t
  pub admit : (s t : S) (p : ℕ) → R s t → R (sys.admit s p) (sys.admit t p)
  -- a step is the same, unless the output of s is full
  pub step : (s t : S) (p : ℕ) → R s t → (sys.event s p ≡ OutputFull) ⊎ ((sys.event s p ≡ sys.event t p) × R (sys.step s p) (sys.step t p))
