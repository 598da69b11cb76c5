-- Legs that are watched, step by step: what goes on from a machine on the way is a leg of the first one.
use Rattle.std.proofs.Common.{◌≡◌, ◌∙◌, ◌+◌, ℕ, suc, List, true, false, ap, arith, refl, sym, subst}
use Rattle.cp_slots.specs.Tables.{Tables}
use Rattle.cp_machine.specs.declared.event.Event.{Event}
use Rattle.cp_machine.specs.declared.event.Event.TheVariants.{Ended, Fault, Kernel, Local, OutputFull}
use Rattle.cp_machine.specs.declared.state.State.{State}
use Rattle.cp_machine.specs.Fits.{IsStateOf}
use Rattle.cp_machine.specs.Machine.{Machine, is_pending, is_ready, machine_of}
use Rattle.cp_machine.specs.Statements.{Stepped}
use Rattle.cp_machine.specs.Step.{is_local, step_at}
use Rattle.cp_run.specs.Silent.{without_output}
use Rattle.cp_effect_laws.specs.Effects.{IsToStep, LegWithin}
use Rattle.cp_effect_laws.specs.Effects.LegWithin.{ends_within, goes_on_within}
use Rattle.cp_effect_laws.specs.Footprint.{Footprint}
use Rattle.cp_effect_laws.specs.Parts.{Places, status_at}
use Rattle.cp_effect_laws.specs.Touches.{HasStep}
use Rattle.cp_effect_laws.proofs.Legs.{next_step}
use Rattle.cp_effects.specs.Noting.{KeepNoted}
use Rattle.cp_effects.specs.Touching.{noted_by}
use Rattle.cp_effects.specs.Watching.{IsStepWithin}
use Rattle.cp_effects.proofs.Statuses.{local_statuses}
use Rattle.cp_effects.proofs.Wider.{more_noted, wider_step}

pub local_event : (e : Event) → is_local e ≡ true → e ≡ Local
local_event Local h = refl
local_event (Kernel k) h = absurd (cc)
local_event Ended h = absurd (cc)
local_event (Fault error) h = absurd (cc)
local_event OutputFull h = absurd (cc)

-- the next step may be made in a state whose process is ready while nothing is pending
pub may_step : (r : Tables) (s : State) (pid : ℕ) → IsStateOf r s → is_ready (machine_of s) pid ≡ true → is_pending (machine_of s) ≡ false → IsToStep r (machine_of s) pid
may_step r s pid own ready free = record { sound = own.sound; kept = record { fits = own.fits; lines = own.lines; reach = own.reach }; ready = ready; free = free }

module _ (l : Places) (r : Tables) (pid : ℕ) (first : Machine) where
  -- each process has the status that it had at first
  abbrev pub SameAsFirst : Machine → Type 0
  SameAsFirst m = (q : ℕ) → status_at m q ≡ status_at first q

  abbrev pub Leads : (noted : List ℕ) (count : ℕ) → Machine → Type 0
  Leads noted count m =
      (places : List ℕ) → KeepNoted noted places → (k : ℕ) (last : Stepped) →
      LegWithin (noted_by l places first pid) r m pid k last → LegWithin (noted_by l places first pid) r first pid (count + k) last

  touches_first : (noted places : List ℕ) (m n : Machine) (event : Event) → SameAsFirst m → KeepNoted noted places → IsStepWithin l r noted m pid event n → HasStep (noted_by l places first pid) r m pid
  touches_first noted places m n event same keep step =
      wider_step (noted_by l noted m pid) (noted_by l places first pid) (more_noted l noted places m first pid keep same) r m pid step.touches

  pub leads_none : (noted : List ℕ) → Leads noted 0 first
  leads_none noted places keep k last leg = let plus : k ≡ 0 + k = omega arith in subst (λ j. LegWithin (noted_by l places first pid) r first pid j last) plus leg

  -- after one local step more
  pub leads_more : (before after : List ℕ) (count : ℕ) (m n : Machine) → SameAsFirst m → KeepNoted before after → Leads before count m → IsStepWithin l r after m pid Local n → Leads after (count + 1) (without_output n)
  leads_more before after count m n same more leads step places keep k last leg =
      let f : Footprint = noted_by l places first pid in
      let is : (step_at r m pid).event ≡ Local = ap (λ x. x.event) step.step in
      let rest : LegWithin f r (without_output (step_at r m pid).machine) pid k last = subst (λ (x : Machine). LegWithin f r (without_output x) pid k last) (sym (ap (λ (x : Stepped). x.machine) step.step)) leg in
      let on : LegWithin f r m pid (suc k) last = goes_on_within m pid k last (touches_first after places m n Local same keep step) is rest in
      let plus : count + suc k ≡ count + 1 + k = omega arith in
      subst (λ j. LegWithin f r first pid j last) plus (leads places (λ p h. keep p (more p h)) (suc k) last on)

  -- with the first step that is not local
  pub leads_end : (before after : List ℕ) (count : ℕ) (m n : Machine) (event : Event) → SameAsFirst m → KeepNoted before after → Leads before count m → IsStepWithin l r after m pid event n → is_local event ≡ false →
      LegWithin (noted_by l after first pid) r first pid (count + 1) (record { machine = n; event = event })
  leads_end before after count m n event same more leads step not =
      let f : Footprint = noted_by l after first pid in
      let on : LegWithin f r m pid 1 (step_at r m pid) = ends_within m pid (touches_first after after m n event same (λ p h. h) step) (ap (λ x. is_local x.event) step.step ∙ not) in
      subst (λ x. LegWithin f r first pid (count + 1) x) step.step (leads after more 1 (step_at r m pid) on)

  pub same_more : (after : List ℕ) (m n : Machine) → SameAsFirst m → IsStepWithin l r after m pid Local n → SameAsFirst (without_output n)
  same_more after m n same step q = local_statuses r m n pid Local step.step refl q ∙ same q

-- after a local step the process may make the next one
pub may_go_on : (l : Places) (r : Tables) (noted : List ℕ) (m n : Machine) (pid : ℕ) → IsToStep r m pid → IsStepWithin l r noted m pid Local n → IsToStep r (without_output n) pid
may_go_on l r noted m n pid h step =
    subst (λ (x : Machine). IsToStep r (without_output x) pid) (ap (λ (x : Stepped). x.machine) step.step) (next_step r m pid h (ap (λ x. x.event) step.step))
