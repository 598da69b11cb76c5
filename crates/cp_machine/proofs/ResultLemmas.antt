-- A function's result is there.
use Rattle.cp_machine.proofs.Words.{◌≡◌, ℕ, ◌+◌, ◌<◌, List, ◌∷◌, length, Option, Some, None, arith, subst, Tables, routine_at, Frame, Entry, Return, InitEnd, StackFits}
use Rattle.cp_machine.proofs.Words.{ThreadFits, size_of, Thread, ResultReaches, StackReaches, ThreadReaches}
use Rattle.cp_machine.specs.Results.{HasResult}

result_there : (r : Tables) (t : Thread) (caller : Frame) (slot : Option ℕ) → length t.cells ≡ t.frame.base + size_of r t.frame.routine → t.frame.base ≡ caller.base + size_of r caller.routine → ResultReaches r t.frame caller slot → HasResult t caller (routine_at r t.frame.routine).result slot
result_there r t caller None long behind h = tt
result_there r t caller (Some slot) long behind h = (omega (arith, long, h.1), omega (arith, behind, h.0))

pub has_result : (r : Tables) (t : Thread) (caller : Frame) (slot monitor : Option ℕ) (es : List Entry) → ThreadFits r t → ThreadReaches r t → t.stack ≡ Return caller slot monitor ∷ es → HasResult t caller (routine_at r t.frame.routine).result slot
has_result r t caller slot monitor es fits reaches top =
    let stands : StackFits r t.frame (Return caller slot monitor ∷ es) = subst (StackFits r t.frame) top fits.stack in
    let known : StackReaches r t.references t.frame (Return caller slot monitor ∷ es) = subst (StackReaches r t.references t.frame) top reaches in
    result_there r t caller slot fits.cells stands.0.cells known.1

pub ended_there : (r : Tables) (t : Thread) (caller : Frame) (component : ℕ) (es : List Entry) → ThreadReaches r t → t.stack ≡ InitEnd caller component ∷ es → component < length r.components
ended_there r t caller component es reaches top =
    let known : StackReaches r t.references t.frame (InitEnd caller component ∷ es) = subst (StackReaches r t.references t.frame) top reaches in
    known.1
