-- The opening state is the program's.
use Rattle.cp_machine.proofs.Words.{◌≡◌, ℕ, ◌-◌, ◌<◌, ◌≤◌, ◌∙◌, [], Option, None, Some, length, map, sym, refl, subst, arith, ◌⊎◌, inl, inr, slice_set, cases_eq, Tables}
use Rattle.cp_machine.proofs.Words.{item_at, routine_at, process_at, no_process, IsSound, ListFits, nowhere, Frame, Discipline, Status, Uninitialised, FrameFits, EntryFits}
use Rattle.cp_machine.proofs.Words.{MachineFits, StackFits, ThreadFits, Machine, Thread, thread_at, no_monitor, no_thread, with_status, unstarted_thread, still, rest_of}
use Rattle.std.proofs.lemmas.List.{length-map, length-replicate, length-set, get_or-map, get_or-set_same, get_or-set_other}

first_fits : (r : Tables) (f : Frame) (list : Option ℕ) → ListFits r f.routine (r.depth - 1) list → 1 ≤ r.depth → FrameFits r f → StackFits r f (rest_of list [])
first_fits r f None n d h = h
first_fits r f (Some at) n d h =
    let same : (item_at r at).need ≤ (item_at r at).need = omega arith in
    let fits : (item_at r at).need ≤ r.depth - 1 = n.fits in
    let entry : EntryFits r f at 0 = record { nests = record { place = n.place; same = n.same; fits = same }; deep = omega (arith, fits, d) } in
    (entry, h)

unstarted_fits : (r : Tables) (q : ℕ) → q < length r.processes → IsSound r → ThreadFits r (unstarted_thread r (process_at r q))
unstarted_fits r q within sound =
    let fits = sound.processes q within in
    let t = unstarted_thread r (process_at r q) in
    let frame : FrameFits r t.frame = record { routine = fits.routine; cells = omega (arith, fits.cells); references = omega (arith, fits.references) } in
    record {
      stack = first_fits r t.frame (routine_at r (process_at r q).routine).body fits.body fits.some frame;
      cells = omega arith;
      references = (let long = length-replicate (routine_at r (process_at r q).routine).references nowhere in omega (arith, long));
    }

pub still_fits : (r : Tables) (discipline : Discipline) → IsSound r → MachineFits r (still r discipline)
still_fits r discipline sound =
    record {
      threads = length-map r.processes (unstarted_thread r);
      permanents = refl;
      bindings = length-replicate (length r.permanents) 0;
      phases = length-replicate (length r.components) Uninitialised;
      monitors = length-replicate r.monitors no_monitor;
      pending = tt;
      each = λ q lt. (
          let within : q < length r.processes = (let long = length-map r.processes (unstarted_thread r) in omega arith) in
          let same : thread_at (map (unstarted_thread r) r.processes) q ≡ unstarted_thread r (process_at r q) = get_or-map (unstarted_thread r) r.processes q no_process no_thread within in
          subst (ThreadFits r) (sym same) (unstarted_fits r q within sound)
          );
    }

-- a status is no matter of room
pub restatused : (r : Tables) (m : Machine) (pid : ℕ) (status : Status) → MachineFits r m → MachineFits r (with_status m pid status)
restatused r m pid status h =
    let x : Thread = record (thread_at m.threads pid) { status = status } in
    let long = length-set m.threads pid x in
    record {
      threads = long ∙ h.threads;
      permanents = h.permanents;
      bindings = h.bindings;
      phases = h.phases;
      monitors = h.monitors;
      pending = h.pending;
      each = λ q lt. (let within : q < length m.threads = omega (arith, long) in go q within (cases_eq q pid));
    }
  where
    go : (q : ℕ) → q < length m.threads → (q ≡ pid) ⊎ (q ≡ pid → ⊥) → ThreadFits r (thread_at (with_status m pid status).threads q)
    go q lt (inl e) =
        let x : Thread = record (thread_at m.threads pid) { status = status } in
        let within : pid < length m.threads = omega arith in
        let same = get_or-set_same m.threads pid x no_thread within in
        let old = h.each pid within in
        let new : ThreadFits r x = record { stack = old.stack; cells = old.cells; references = old.references } in
        let P : ℕ → Type 0 = λ k. ThreadFits r (thread_at (slice_set m.threads pid x) k) in
        subst P (sym e) (subst (ThreadFits r) (sym same) new)
    go q lt (inr ne) =
        let x : Thread = record (thread_at m.threads pid) { status = status } in
        subst (ThreadFits r) (sym (get_or-set_other m.threads pid q x no_thread ne)) (h.each q lt)
