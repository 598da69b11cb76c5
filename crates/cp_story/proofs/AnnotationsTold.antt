-- The items that a process goes on with.
use Rattle.std.proofs.Common.{◌≡◌, ◌∙◌, ℕ, zero, suc, ◌<◌, List, [], ◌∷◌, length, Option, Some, ap, subst, sym}
use Rattle.std.proofs.lemmas.Option.{none-some}
use Rattle.std.specs.Prelude.{slice_get, slice_index_or}
use Rattle.cp_slots.specs.Tables.{Tables}
use Rattle.cp_store.specs.declared.memory.Frame.{Frame}
use Rattle.cp_machine.specs.declared.process.Entry.{Entry}
use Rattle.cp_machine.specs.declared.process.Entry.TheVariants.{Rest, Successor, Return, InitEnd}
use Rattle.cp_machine.specs.declared.process.ProcessState.{ProcessState}
use Rattle.cp_machine.specs.declared.state.State.{State}
use Rattle.cp_machine.specs.Fits.{IsStateOf, StackFits}
use Rattle.cp_machine.specs.Machine.{Thread, thread_of}
use Rattle.cp_machine.specs.Stack.{top_first}
use Rattle.cp_machine.proofs.ThreadLemmas.{thread_read}
use Rattle.cp_machine.proofs.rooms.RoomLemmas.{entries_fit, thread}

rest_within : (r : Tables) (f : Frame) (es : List Entry) (k at : ℕ) → StackFits r f es → slice_get es k ≡ Some (Rest at) → at < length r.items
rest_within r f [] k at fits is = absurd (none-some (Rest at) is)
rest_within r f (Rest here ∷ es) zero at fits is = subst (λ n. n < length r.items) (cc) fits.0.nests.place
rest_within r f (Successor here value last ∷ es) zero at fits is = absurd (cc)
rest_within r f (Return caller result monitor ∷ es) zero at fits is = absurd (cc)
rest_within r f (InitEnd caller component ∷ es) zero at fits is = absurd (cc)
rest_within r f (Rest here ∷ es) (suc k) at fits is = rest_within r f es k at fits.1 is
rest_within r f (Successor here value last ∷ es) (suc k) at fits is = rest_within r f es k at fits.1 is
rest_within r f (Return caller result monitor ∷ es) (suc k) at fits is = rest_within r caller es k at fits.3 is
rest_within r f (InitEnd caller component ∷ es) (suc k) at fits is = rest_within r caller es k at fits.2 is

-- they are items of the program
pub goes_on_within : (r : Tables) (s : State) (pid : ℕ) (p : ProcessState) (o : Option Entry) (e : Entry) (k at : ℕ) → pid < length s.processes.items → IsStateOf r s → p ≡ slice_index_or s.processes.items pid p → o ≡ slice_get (top_first p.stack) k → o ≡ Some e → e ≡ Rest at → at < length r.items
goes_on_within r s pid p o e k at lt own read found is rest =
    let same : thread s pid ≡ thread_of p = thread_read s.processes.items pid p lt read in
    rest_within r (thread s pid).frame (thread s pid).stack k at (entries_fit r s pid lt own.fits) (ap (λ (t : Thread). slice_get t.stack k) same ∙ sym found ∙ is ∙ ap Some rest)
