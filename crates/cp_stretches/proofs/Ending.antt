-- What the end of a leg leaves.
use Rattle.std.proofs.Common.{◌≡◌, ◌∙◌, ◌+◌, ◌++◌, ℕ, suc, false, List, [], ap, append-nil, arith, refl}
use Rattle.cp_slots.specs.Tables.{Tables}
use Rattle.cp_machine.specs.declared.discipline.Discipline.{Discipline}
use Rattle.cp_machine.specs.declared.shown.Shown.{Shown}
use Rattle.cp_machine.specs.Machine.{Machine}
use Rattle.cp_machine.specs.Statements.{Stepped}
use Rattle.cp_machine.specs.Step.{is_local, step_at}
use Rattle.cp_machine.proofs.StepKeeps.{step_keeps}
use Rattle.cp_run.specs.Fold.{fold_stretch, fold_turn}
use Rattle.cp_run.specs.Run.{turn_after}
use Rattle.cp_run.specs.Silent.{silent_slots, without_output}
use Rattle.cp_run.proofs.LocalOutput.{local_output}
use Rattle.cp_effect_laws.specs.Effects.{IsToStep, Leg}
use Rattle.cp_effect_laws.specs.Effects.Leg.{ends, goes_on}
use Rattle.cp_effect_laws.specs.Touches.{IsKept}
use Rattle.cp_effect_laws.proofs.Legs.{next_step, step_kept}
use Rattle.cp_effect_laws.proofs.Walked.{local_turn}
use Rattle.cp_states.specs.Numbers.{number_at}
use Rattle.cp_parts.specs.declared.placing.PlaceTable.{PlaceTable}
use Rattle.cp_parts.specs.declared.store.PartStore.{PartStore}
use Rattle.cp_parts.specs.Parts.{IsPartNumber, IsPartRow}
use Rattle.cp_stretches.specs.Stretching.{shower}

-- a step keeps the discipline
step_ruled : (r : Tables) (m : Machine) (p : ℕ) → (step_at r m p).machine.discipline ≡ m.discipline
step_ruled r m p = step_keeps (λ discipline pending ts. discipline ≡ m.discipline) p (λ discipline pending ts x h. h) (λ discipline pending ts q h. h) (λ discipline pending ts q cell monitor at h. h) (λ discipline pending ts monitor any h. h) r m refl

pub leg_ruled : (r : Tables) (m : Machine) (p k : ℕ) (last : Stepped) → Leg r m p k last → last.machine.discipline ≡ m.discipline
leg_ruled r _ _ _ _ (ends m p is) = step_ruled r m p
leg_ruled r _ _ _ _ (goes_on m p k last is rest) = leg_ruled r _ p k last rest ∙ step_ruled r m p

pub leg_kept : (r : Tables) (m : Machine) (p k : ℕ) (last : Stepped) → IsToStep r m p → Leg r m p k last → IsKept r last.machine
leg_kept r _ _ _ _ h (ends m p is) = step_kept r m p h
leg_kept r _ _ _ _ h (goes_on m p k last is rest) = leg_kept r _ p k last (next_step r m p h is) rest

-- a machine that displays nothing any more
pub quiet_kept : (r : Tables) (m : Machine) → IsKept r m → IsKept r (without_output m)
quiet_kept r m h =
    record {
      fits = record { threads = h.fits.threads; permanents = h.fits.permanents; bindings = h.fits.bindings; phases = h.fits.phases; monitors = h.fits.monitors; pending = h.fits.pending; each = h.fits.each };
      lines = record { gate = h.lines.gate; once = h.lines.once; pending = h.lines.pending };
      reach = record { frames = h.reach.frames; executes = h.reach.executes; ends = h.reach.ends; bound = h.reach.bound };
    }

-- under another discipline, and with another output, it has the row that it had
pub other_row : (s : PartStore) (t : PlaceTable) (m : Machine) (row : List ℕ) (discipline : Discipline) (output : List Shown) → IsPartRow s t m row → IsPartRow s t (record m { discipline = discipline; output = output }) row
other_row s t m row discipline output h = record { long = h.long; statuses = h.statuses; pending = h.pending; parts = λ place lt. other_part place (number_at row (t.processes + 1 + place)) (h.parts place lt) }
  where
    other_part : (place n : ℕ) → IsPartNumber s t m place n → IsPartNumber s t (record m { discipline = discipline; output = output }) place n
    other_part place n k =
        let g = k.is.ground in
        record { within = k.within; is = record { ground = record { cells = g.cells; bindings = g.bindings; phases = g.phases; waiting = g.waiting }; process = k.is.process; monitor = k.is.monitor } }

-- the last step is not local
pub leg_tells : (r : Tables) (m : Machine) (p k : ℕ) (last : Stepped) → Leg r m p k last → is_local last.event ≡ false
leg_tells r _ _ _ _ (ends m p is) = is
leg_tells r _ _ _ _ (goes_on m p k last is rest) = leg_tells r _ p k last rest

-- ---- what a leg displays

first : (left : ℕ) → 1 + left ≡ suc left
first left = omega (arith)

one_more : (k left : ℕ) → suc k + left ≡ suc (k + left)
one_more k left = omega (arith)

-- a leg displays what its last step does, if nothing was displayed before
pub leg_shown : (r : Tables) (discipline : Discipline) (m : Machine) (p k left : ℕ) (last : Stepped) (shown : List Shown) → m.output ≡ [] → IsToStep r m p → Leg r m p k last →
    let sys = silent_slots r discipline in
    let after = without_output last.machine in
    fold_stretch sys (shower r) (k + left) m p shown ≡ fold_turn (fold_stretch sys (shower r) left after) (turn_after sys after p last.event) (shown ++ last.machine.output)
unfolding fold_stretch
leg_shown r discipline _ _ _ left _ shown quiet h (ends m p is) = ap (λ c. fold_stretch (silent_slots r discipline) (shower r) c m p shown) (first left)
leg_shown r discipline _ _ _ left _ shown quiet h (goes_on m p k last is rest) =
    let sys = silent_slots r discipline in
    let before = step_at r m p in
    let after = without_output before.machine in
    let next = next_step r m p h is in
    let silent : before.machine.output ≡ [] = local_output r m before.machine p [] quiet (ap (λ e. let x : Stepped = record { machine = before.machine; event = e } in x) is) in
    ap (λ c. fold_stretch sys (shower r) c m p shown) (one_more k left)
    ∙ ap (λ e. fold_turn (fold_stretch sys (shower r) (k + left) after) (turn_after sys after p e) (shown ++ before.machine.output)) is
    ∙ ap (λ t. fold_turn (fold_stretch sys (shower r) (k + left) after) t (shown ++ before.machine.output)) (local_turn r discipline after p next)
    ∙ ap (λ l. fold_stretch sys (shower r) (k + left) after p l) (ap (λ out. shown ++ out) silent ∙ append-nil shown)
    ∙ leg_shown r discipline after p k left last shown refl next rest
