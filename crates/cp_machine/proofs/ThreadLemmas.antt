-- A process that is read or changed is a thread that is read or changed.
use Rattle.cp_machine.proofs.Words.{◌≡◌, ℕ, ◌<◌, ◌∙◌, List, length, map, ap, sym, slice_index_or, get_or-map, Memory, ProcessState, Gate, memory_at, with_memory}
use Rattle.cp_machine.specs.Machine.{Machine, Thread, monitor_of, thread_of, thread_at, no_thread, no_monitor, with_permanents, with_thread}

pub thread_read : (ps : List ProcessState) (pid : ℕ) (p : ProcessState) → pid < length ps → p ≡ slice_index_or ps pid p → thread_at (map thread_of ps) pid ≡ thread_of p
thread_read ps pid p h e = get_or-map thread_of ps pid p no_thread h ∙ ap thread_of (sym e)

pub guard_read : (gs : List Gate) (k : ℕ) (g : Gate) → k < length gs → g ≡ slice_index_or gs k g → slice_index_or (map monitor_of gs) k no_monitor ≡ monitor_of g
guard_read gs k g h e = get_or-map monitor_of gs k g no_monitor h ∙ ap monitor_of (sym e)

abbrev memory_in : Machine → Thread → Memory
memory_in m t = record { permanents = m.permanents; cells = t.cells; references = t.references }

abbrev with_memory_of : Machine → ℕ → Thread → Memory → Machine
with_memory_of m pid t x = with_thread (with_permanents m x.permanents) pid (record t { cells = x.cells; references = x.references })

-- what a process writes, by what it writes into its own cells
pub memory_put : (F : Memory → Memory) (m : Machine) (ps : List ProcessState) (pid : ℕ) (p : ProcessState) (x : Memory) → m.threads ≡ map thread_of ps → pid < length ps → p ≡ slice_index_or ps pid p → x ≡ F (record { permanents = m.permanents; cells = p.room.cells.items; references = p.room.references.items }) → with_thread (with_permanents m x.permanents) pid (record (thread_of p) { cells = x.cells; references = x.references }) ≡ with_memory m pid (F (memory_at m pid))
memory_put F m ps pid p x threads lt read put =
    let e : thread_at m.threads pid ≡ thread_of p = ap (λ ts. thread_at ts pid) threads ∙ thread_read ps pid p lt read in
    ap (with_memory_of m pid (thread_of p)) put ∙ ap (λ t. with_memory_of m pid t (F (memory_in m t))) (sym e)
