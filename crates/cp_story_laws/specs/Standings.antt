-- How the processes of a program stand, on its own names, and who goes on from one state to another.
use Rattle.std.specs.Prelude.{ℕ, ◌==◌, ◌&&◌, not, Bool, true, false, List, length, map, slice_index_or}
use Rattle.std.specs.List.{filter, range_with_len}
use Rattle.cp_tree.specs.Syntax.{Program}
use Rattle.cp_meaning.specs.State.{Status, unstarted, ready, at_gate, delayed, ended, Process, State, component_at}
use Rattle.cp_legend_laws.specs.Paths.{path_text}

pub data Standing : Type 0 where
  not_begun : Standing
  may_go_on : Standing
  -- at the gate of the monitor of this path, and delayed in a queue of it
  at_gate_of : (monitor : List ℕ) → Standing
  in_queue_of : (monitor : List ℕ) → Standing
  has_ended : Standing

-- the path of component n, as the source writes it
abbrev pub path_of : Program → State → (n : ℕ) → List ℕ
path_of p s n = path_text p (component_at s.components n).path

abbrev pub standing_of : Program → State → Status → Standing
standing_of p s unstarted = not_begun
standing_of p s ready = may_go_on
standing_of p s (at_gate n) = at_gate_of (path_of p s n)
standing_of p s (delayed n) = in_queue_of (path_of p s n)
standing_of p s ended = has_ended

-- of each process
abbrev pub standings : Program → State → List Standing
standings p s = map (λ (x : Process). standing_of p s x.status) s.processes

abbrev pub standing_at : List Standing → ℕ → Standing
standing_at all q = slice_index_or all q has_ended

-- ---- who goes on

abbrev pub is_gated : Standing → Bool
is_gated (at_gate_of monitor) = true
is_gated _ = false

abbrev pub is_queued : Standing → Bool
is_queued (in_queue_of monitor) = true
is_queued _ = false

abbrev pub goes_on : Standing → Bool
goes_on may_go_on = true
goes_on _ = false

abbrev pub is_unstarted : Standing → Bool
is_unstarted not_begun = true
is_unstarted _ = false

-- the processes other than p that waited so and may go on now
abbrev pub resumed : (Standing → Bool) → (before now : List Standing) → ℕ → List ℕ
resumed waited before now p = filter (λ q. waited (standing_at before q) && not (q == p) && goes_on (standing_at now q)) (range_with_len 0 (length now))

-- those that were delayed and are no longer
abbrev pub released : (before now : List Standing) → List ℕ
released before now = filter (λ q. is_queued (standing_at before q) && not (is_queued (standing_at now q))) (range_with_len 0 (length now))

-- those that have begun since
abbrev pub started : (before now : List Standing) → List ℕ
started before now = filter (λ q. is_unstarted (standing_at before q) && not (is_unstarted (standing_at now q))) (range_with_len 0 (length now))
