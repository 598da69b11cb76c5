-- Whoever made a local step waits nowhere.
use Rattle.std.proofs.Common.{◌≡◌, ◌∙◌, ℕ, true, List, [], ◌++◌, ap, refl, sym, subst}
use Rattle.std.proofs.lemmas.List.{append-nil}
use Rattle.cp_machine.proofs.CallerLemmas.{ready_thread}
use Rattle.cp_machine.proofs.LocalReady.{local_ready}
use Rattle.cp_machine.specs.declared.event.Event.TheVariants.{Local}
use Rattle.cp_machine.specs.declared.process.Status.{Status}
use Rattle.cp_machine.specs.declared.process.Status.TheVariants.{AtGate, Delayed, Ended, Ready, Unstarted}
use Rattle.cp_machine.specs.Machine.{Machine, Thread, is_ready, is_ready_status, thread_at}
use Rattle.cp_machine.specs.Statements.{local}
use Rattle.cp_machine.specs.System.{step_at}
use Rattle.cp_store.specs.declared.memory.Frame.{Frame}
use Rattle.cp_slots.specs.Tables.{Tables}
use Rattle.cp_layers.specs.Adding.{Adds}
use Rattle.cp_cover.specs.Reached.{item_marks, status_marks, wait_marks}
use Rattle.cp_cover.specs.declared.mark.CoverMark.{CoverMark}

ready_waits_not : (frame : Frame) (status : Status) → is_ready_status status ≡ true → status_marks frame status ≡ []
ready_waits_not frame Ready e = refl
ready_waits_not frame Unstarted e = refl
ready_waits_not frame Ended e = refl
ready_waits_not frame (AtGate monitor) e = absurd (cc)
ready_waits_not frame (Delayed cell) e = absurd (cc)

pub adds_local : (r : Tables) (before after : Machine) (p : ℕ) (seen marks : List CoverMark) → step_at r before p ≡ local after → is_ready before p ≡ true → Adds [] (seen ++ item_marks (thread_at before.threads p).stack) marks → Adds [] ((seen ++ item_marks (thread_at before.threads p).stack) ++ wait_marks (thread_at after.threads p)) marks
adds_local r before after p seen marks step ready h =
    let xs = seen ++ item_marks (thread_at before.threads p).stack in
    let t : Thread = thread_at after.threads p in
    let none = ready_waits_not t.frame t.status (local_ready r before after p Local (ready_thread before p ready) ready step refl) in
    subst (λ l. Adds [] l marks) (sym (ap (λ w. xs ++ w) none ∙ append-nil xs)) h
