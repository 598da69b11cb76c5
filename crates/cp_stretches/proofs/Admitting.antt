-- How a due choice begins.
use Rattle.std.proofs.Common.{◌≡◌, ◌∙◌, ◌<◌, ℕ, true, false, List, Option, None, Some, ap, arith, if◌then◌else◌, length, refl, subst, sym}
use Rattle.std.specs.Prelude.{IfSome, slice_set}
use Rattle.std.proofs.lemmas.List.{length-set}
use Rattle.cp_slots.specs.Tables.{Tables}
use Rattle.cp_machine.specs.declared.discipline.Discipline.{Discipline}
use Rattle.cp_machine.specs.Machine.{Machine, is_pending, is_ready, is_some}
use Rattle.cp_machine.specs.Opening.{admit_at, admit_waiting}
use Rattle.cp_machine.proofs.CallerLemmas.{admitted_free, in_line_within}
use Rattle.cp_machine.proofs.frames.ReachingKept.{admitted_reaches}
use Rattle.cp_machine.proofs.lines.KernelLines.{admitted_lines}
use Rattle.cp_machine.proofs.rooms.KernelFits.{admitted_fits}
use Rattle.cp_run.specs.declared.outcome.Turn.{Turn}
use Rattle.cp_run.specs.declared.outcome.Turn.TheVariants.{Goes}
use Rattle.cp_run.specs.Code.{IfGoes}
use Rattle.cp_run.specs.Run.{may, settled_turn}
use Rattle.cp_run.specs.Silent.{silent_slots}
use Rattle.cp_run.specs.Slots.{slots}
use Rattle.cp_run.specs.System.{System}
use Rattle.cp_run.proofs.Choosing.{may_be_ready, may_in_line}
use Rattle.cp_states.specs.Numbers.{number_at}
use Rattle.cp_parts.specs.declared.placing.PlaceTable.{PlaceTable}
use Rattle.cp_parts.specs.declared.store.PartStore.{PartStore}
use Rattle.cp_parts.specs.Placed.{IsPlaced}
use Rattle.cp_effects.specs.Admitting.{IsAdmission, admitted_row, guard_position}
use Rattle.cp_effects.proofs.Admitting.{admission_row_law}
use Rattle.cp_stretches.specs.declared.cache.LegCache.{LegCache}
use Rattle.cp_stretches.specs.Cached.{IsCache, StandsFor}
use Rattle.cp_stretches.specs.Stretching.{Begins, MayEnter}
use Rattle.cp_stretches.proofs.Turns.{always, ready_settled, silent_settled}

module _ (r : Tables) (discipline : Discipline) (s : PartStore) (t : PlaceTable) (m : Machine) (row : List ℕ) (pid : ℕ) where
  abbrev quiet : System Machine
  quiet = silent_slots r discipline

  -- ---- nothing is pending

  pub begins_free : StandsFor r discipline s t m row → is_pending m ≡ false → may (slots r discipline) m pid ≡ true → Begins r discipline s t m pid (Goes pid) row
  begins_free stands free is =
      record {
        after = m;
        stands = record { machine = stands; ready = may_be_ready (slots r discipline) m pid free is; free = free };
        begun = ap (λ b. if b then (quiet.admit m pid, settled_turn quiet (quiet.admit m pid) true pid) else (m, Goes pid)) free;
      }

  -- ---- a monitor is pending

  pub may_enter : (monitor : ℕ) → StandsFor r discipline s t m row → m.pending ≡ Some monitor → may (slots r discipline) m pid ≡ true → MayEnter r discipline s t m row pid monitor
  may_enter monitor stands pending is = record { machine = stands; pending = pending; waits = may_in_line (slots r discipline) m pid (ap is_some pending) is }

  abbrev pub let_in : Machine
  let_in = admit_waiting m pid

  same_output : (pending : Option ℕ) → (admit_at pending m pid).output ≡ m.output
  same_output None = refl
  same_output (Some monitor) = refl

  same_discipline : (pending : Option ℕ) → (admit_at pending m pid).discipline ≡ m.discipline
  same_discipline None = refl
  same_discipline (Some monitor) = refl

  module _ (monitor part : ℕ) (placed : IsPlaced r t) (may_be : MayEnter r discipline s t m row pid monitor) (known : IsAdmission s t r pid monitor (number_at row (guard_position t monitor)) part) where
    abbrev new : List ℕ
    new = admitted_row s t pid monitor part row

    pub stands_let_in : StandsFor r discipline s t let_in new
    stands_let_in =
        let h = may_be.machine in
        record {
          stands = admission_row_law s t r pid monitor part m row placed h.kept.fits may_be.pending h.stands known;
          kept = record { fits = admitted_fits r m pid h.kept.fits; lines = admitted_lines m pid h.kept.lines may_be.waits; reach = admitted_reaches r m pid may_be.waits h.kept.reach };
          quiet = same_output m.pending ∙ h.quiet;
          ruled = same_discipline m.pending ∙ h.ruled;
        }

    pub begins_let_in : (turn : Turn) → turn ≡ settled_turn (slots r discipline) let_in true pid → Begins r discipline s t m pid turn new
    begins_let_in turn is =
        let wanted : is_pending m ≡ true = ap is_some may_be.pending in
        let silent : turn ≡ settled_turn (silent_slots r discipline) let_in true pid = is ∙ silent_settled r discipline let_in pid in
        record {
          after = let_in;
          stands = record {
            machine = stands_let_in;
            ready = subst (λ u. IfGoes u (λ q. is_ready let_in q ≡ true)) (sym is) (ready_settled r discipline let_in pid);
            free = always r discipline let_in pid turn (is_pending let_in ≡ false) (admitted_free m let_in pid may_be.waits refl);
          };
          begun = ap (λ b. if b then (let_in, settled_turn quiet let_in true pid) else (m, Goes pid)) wanted ∙ ap (λ u. (let_in, u)) (sym silent);
        }

-- ---- a process that waits, its monitor, and the row afterwards

module _ (r : Tables) (discipline : Discipline) (c : LegCache) (m : Machine) (row : List ℕ) (pid monitor : ℕ) (cache : IsCache r discipline c) (may_be : MayEnter r discipline c.store c.table m row pid monitor) where
  pub pid_waits : pid < c.table.processes
  pid_waits = omega (arith, in_line_within m.pending m.threads pid may_be.waits, may_be.machine.kept.fits.threads, cache.placed.processes)

  pub guard_within : monitor < c.table.monitors
  guard_within =
      let within : monitor < r.monitors = subst (λ w. IfSome w (λ k. k < r.monitors)) may_be.pending may_be.machine.kept.fits.pending in
      omega (arith, within, cache.placed.monitors)

pub admitted_long : (s : PartStore) (t : PlaceTable) (pid monitor part : ℕ) (row : List ℕ) → length (admitted_row s t pid monitor part row) ≡ length row
admitted_long s t pid monitor part row =
    let first = slice_set row pid s.ready in
    let second = slice_set first t.processes 0 in
    length-set second (guard_position t monitor) part ∙ length-set first t.processes 0 ∙ length-set row pid s.ready
