-- In the opening state nobody is at a gate, and every line is empty.
use Rattle.cp_machine.proofs.Words.{◌≡◌, ◌∙◌, ℕ, zero, suc, List, [], ◌∷◌, eqb, map, ap, sym, refl, subst, replicate, IsDistinct, Tables, Discipline, Ready}
use Rattle.cp_machine.proofs.Words.{LinesFit, no_monitor, thread_at, with_status, still, unstarted_thread}
use Rattle.cp_slots.specs.declared.tables.Process as slots
use Rattle.cp_machine.proofs.lines.KernelLines.{IsOff, Lined, line_of, lines_still, off_lined}
use Rattle.cp_machine.proofs.lines.LineLists.{has, nothing_once}

unstarted_still : (r : Tables) (ps : List slots.Process) (q : ℕ) → IsOff (thread_at (map (unstarted_thread r) ps) q).status
unstarted_still r [] q = λ g. refl
unstarted_still r (p ∷ ps) zero = λ g. refl
unstarted_still r (p ∷ ps) (suc q) = unstarted_still r ps q

no_line : (n g : ℕ) → line_of (replicate n no_monitor) g ≡ []
no_line zero g = refl
no_line (suc n) zero = refl
no_line (suc n) (suc g) = no_line n g

still_lined : (r : Tables) (discipline : Discipline) → Lined (still r discipline).threads (still r discipline).monitors
still_lined r discipline =
    ((λ g q. unstarted_still r r.processes q g ∙ sym (ap (λ line. has line q) (no_line r.monitors g))), (λ g. subst (IsDistinct eqb) (sym (no_line r.monitors g)) nothing_once))

pub opening_lines : (r : Tables) (discipline : Discipline) → LinesFit (with_status (still r discipline) 0 Ready)
opening_lines r discipline =
    lines_still (with_status (still r discipline) 0 Ready) (off_lined (still r discipline).threads (still r discipline).monitors 0 _ (unstarted_still r r.processes 0) (λ g. refl) (still_lined r discipline)) refl
