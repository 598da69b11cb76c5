-- What a stretch begins with: a leg, and then what comes next.
use Rattle.std.proofs.Common.{◌≡◌, ◌∙◌, ℕ, suc, ◌+◌, Bool, true, false, [], Option, Some, None, ap, refl, sym, subst, arith, if◌then◌else◌}
use Rattle.cp_slots.specs.Tables.{Tables}
use Rattle.cp_machine.specs.declared.discipline.Discipline.{Discipline}
use Rattle.cp_machine.specs.declared.event.Event.TheVariants.{Local}
use Rattle.cp_machine.specs.declared.process.Status.TheVariants.{Ready}
use Rattle.cp_machine.specs.Machine.{Machine, Monitor, monitor_at, with_monitor, with_pending, with_status}
use Rattle.cp_machine.specs.Opening.{admit_at, without}
use Rattle.cp_machine.specs.Statements.{Stepped}
use Rattle.cp_machine.specs.Step.{step_at}
use Rattle.cp_machine.proofs.CallerLemmas.{ready_thread}
use Rattle.cp_run.specs.declared.outcome.Turn.TheVariants.{Due, Goes}
use Rattle.cp_run.specs.Fold.{Fold, fold_stretch, fold_turn, walked}
use Rattle.cp_run.specs.Run.{settled_turn, turn_after}
use Rattle.cp_run.specs.Silent.{silent_slots, without_output}
use Rattle.cp_run.proofs.Wanting.{goes_on as goes_further}
use Rattle.cp_effect_laws.specs.Effects.{AdmissionLaw, FoldedLaw, IsToStep, Leg, WalkedLaw, before_last}
use Rattle.cp_effect_laws.specs.Effects.Leg.{ends, goes_on}
use Rattle.cp_effect_laws.specs.Footprint.{laid_over}
use Rattle.cp_effect_laws.proofs.Legs.{next_step}
use Rattle.cp_effect_laws.proofs.Machines.{monitor_laid, monitor_read, status_laid}

-- ---- an admission

pub admission_laid : AdmissionLaw
admission_laid f m n p k pending here status = go m.pending pending
  where
    go : (w : Option ℕ) → w ≡ Some k → admit_at w (laid_over f m n) p ≡ laid_over f (admit_at w m p) n
    go None is = absurd (cc)
    go (Some j) is =
        let own : f.monitors j ≡ true = subst (λ i. f.monitors i ≡ true) (sym (let same : j ≡ k = cc in same)) here in
        ap (λ (x : Monitor). with_pending (with_monitor (with_status (laid_over f m n) p Ready) j (record { holder = Some p; line = without p x.line })) None) (monitor_read f n m j own)
        ∙ ap (λ x. with_pending (with_monitor x j (record { holder = Some p; line = without p (monitor_at m j).line })) None) (status_laid f n m p Ready status)
        ∙ ap (λ x. with_pending x None) (monitor_laid f n (with_status m p Ready) j (record { holder = Some p; line = without p (monitor_at m j).line }) own)

-- ---- a leg

-- after a local step its process goes on
pub local_turn : (r : Tables) (discipline : Discipline) (m : Machine) (p : ℕ) → IsToStep r m p → turn_after (silent_slots r discipline) m p Local ≡ Goes p
local_turn r discipline m p h =
    let sys = silent_slots r discipline in
    let there = ready_thread m p h.ready in
    let count = h.kept.fits.threads in
    ap (λ (b : Bool). if b then Due else settled_turn sys m false p) h.free ∙ goes_further sys m p (omega (arith, there, count)) h.ready

first : (left : ℕ) → 1 + left ≡ suc left
first left = omega (arith)

one_more : (k left : ℕ) → suc k + left ≡ suc (k + left)
one_more k left = omega (arith)

pub leg_walked : WalkedLaw
unfolding walked
leg_walked r discipline _ _ _ left _ h (ends m p is) = ap (λ c. walked (silent_slots r discipline) c m (Goes p)) (first left)
leg_walked r discipline _ _ _ left _ h (goes_on m p k last is rest) =
    let sys = silent_slots r discipline in
    let after = without_output (step_at r m p).machine in
    let next = next_step r m p h is in
    ap (λ c. walked sys c m (Goes p)) (one_more k left)
    ∙ ap (λ t. walked sys (k + left) after t) (ap (λ e. turn_after sys after p e) is ∙ local_turn r discipline after p next)
    ∙ leg_walked r discipline after p k left last next rest

-- what is made of a leg is what is made of its last step
pub leg_folded : {X : Type 0} (F : Fold Machine X) → FoldedLaw F
unfolding fold_stretch
leg_folded F r discipline _ _ _ left _ x nothing h (ends m p is) = ap (λ c. fold_stretch (silent_slots r discipline) F c m p x) (first left)
leg_folded F r discipline _ _ _ left _ x nothing h (goes_on m p k last is rest) =
    let sys = silent_slots r discipline in
    let after = without_output (step_at r m p).machine in
    let next = next_step r m p h is in
    ap (λ c. fold_stretch sys F c m p x) (one_more k left)
    ∙ ap (λ e. fold_turn (fold_stretch sys F (k + left) after) (turn_after sys after p e) (F.on_step m p e after x)) is
    ∙ ap (λ t. fold_turn (fold_stretch sys F (k + left) after) t (F.on_step m p Local after x)) (local_turn r discipline after p next)
    ∙ ap (λ y. fold_stretch sys F (k + left) after p y) (nothing m p x is)
    ∙ leg_folded F r discipline after p k left last x nothing next rest

-- the last step is one of a machine that displayed nothing, if the first one did
pub last_step : (r : Tables) (m : Machine) (p k : ℕ) (last : Stepped) (leg : Leg r m p k last) → m.output ≡ [] → (step_at r (before_last leg) p ≡ last) × ((before_last leg).output ≡ [])
last_step r _ _ _ _ (ends m p is) quiet = (refl, quiet)
last_step r _ _ _ _ (goes_on m p k last is rest) quiet = last_step r _ p k last rest refl
