-- Processes and monitors that are read one by one.
use Rattle.cp_key.proofs.Words.{◌≡◌, ◌∙◌, ℕ, suc, ◌<◌, List, [], ◌∷◌, length, map, ap, refl, arith, slice_index_or, ProcessState, Monitor, Thread, monitor_of}
use Rattle.cp_key.proofs.Words.{no_monitor, no_thread, thread_of}
use Rattle.cp_machine.specs.declared.state.Gate.{Gate}

-- elements that are seen one by one as those of another list
seen_as : {X Y : Type 0} (see : X → Y) (y : Y) (xs : List X) (ys : List Y) → length ys ≡ length xs → ((k : ℕ) (d : X) → k < length xs → see (slice_index_or xs k d) ≡ slice_index_or ys k y) → map see xs ≡ ys
seen_as see y [] [] e h = refl
seen_as see y [] (b ∷ ys) e h = absurd (omega arith)
seen_as see y (a ∷ xs) [] e h = absurd (omega arith)
seen_as see y (a ∷ xs) (b ∷ ys) e h =
    let first : see a ≡ b = h 0 a (omega arith) in
    let rest = seen_as see y xs ys (omega arith) (λ k d lt. h (suc k) d (omega arith)) in
    ap (λ z. z ∷ map see xs) first ∙ ap (λ zs. b ∷ zs) rest

pub threads_seen : (ps : List ProcessState) (ts : List Thread) → length ts ≡ length ps → ((k : ℕ) (d : ProcessState) → k < length ps → thread_of (slice_index_or ps k d) ≡ slice_index_or ts k no_thread) → map thread_of ps ≡ ts
threads_seen = seen_as thread_of no_thread

pub monitors_seen : (gs : List Gate) (ms : List Monitor) → length ms ≡ length gs → ((k : ℕ) (d : Gate) → k < length gs → monitor_of (slice_index_or gs k d) ≡ slice_index_or ms k no_monitor) → map monitor_of gs ≡ ms
monitors_seen = seen_as monitor_of no_monitor
