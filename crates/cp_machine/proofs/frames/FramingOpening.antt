-- As a run begins, what the frames of all processes may name is there.
use Rattle.cp_machine.proofs.Words.{◌≡◌, ℕ, ◌<◌, [], length, map, sym, refl, subst, arith, length-map, get_or-map, IsSound, IsTyped, Tables, process_at}
use Rattle.cp_machine.proofs.Words.{no_process, routine_at, Discipline, Ready, thread_at, no_thread, unstarted_thread, still, opening, FrameReaches, ThreadReaches}
use Rattle.cp_machine.proofs.frames.Framing.{Framed, rest_reaches, status_framed}

unstarted_reaches : (r : Tables) (q : ℕ) → q < length r.processes → IsSound r → IsTyped r → ThreadReaches r (unstarted_thread r (process_at r q))
unstarted_reaches r q within sound typed =
    let fits = sound.processes q within in
    let owned = typed.processes q within in
    let t = unstarted_thread r (process_at r q) in
    let extents : length (routine_at r (process_at r q).routine).extents ≡ (routine_at r (process_at r q).routine).references = (sound.routines (process_at r q).routine fits.routine).extents in
    let frame : FrameReaches r t.references t.frame =
    record {
      component = (fits.component, owned.system);
      own = refl;
      behind = λ k lt. absurd (omega (arith, lt, extents, owned.references));
    } in
    rest_reaches r t.references t.frame (routine_at r (process_at r q).routine).body [] frame

still_framed : (r : Tables) (discipline : Discipline) → IsSound r → IsTyped r → Framed r (still r discipline)
still_framed r discipline sound typed q lt =
    let within : q < length r.processes = (let long = length-map r.processes (unstarted_thread r) in omega (arith, lt, long)) in
    let same : thread_at (map (unstarted_thread r) r.processes) q ≡ unstarted_thread r (process_at r q) = get_or-map (unstarted_thread r) r.processes q no_process no_thread within in
    subst (ThreadReaches r) (sym same) (unstarted_reaches r q within sound typed)

pub opening_framed : (r : Tables) (discipline : Discipline) → IsSound r → IsTyped r → Framed r (opening r discipline)
opening_framed r discipline sound typed = status_framed r (still r discipline) 0 Ready (still_framed r discipline sound typed)
