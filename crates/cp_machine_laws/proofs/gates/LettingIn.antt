-- The line of a monitor in which nobody is is let in, under both kinds of gates.
use Rattle.cp_machine_laws.proofs.Words.{◌≡◌, ◌∙◌, ℕ, ◌<◌, true, List, [], ◌∷◌, Option, Some, None, ap, sym, refl, subst, length, slice_set, Program}
use Rattle.cp_machine_laws.proofs.Words.{component_at, Machine, Monitor, no_monitor, monitor_at, first_inside, Layouts, Ground, gates_of, MonitorIs}
use Rattle.cp_machine_laws.proofs.Words.{PendingIs, Represents, set-get_or, at_gate, has_entry, Gates, first_gates, any_gates, State}
use Rattle.cp_slots.specs.declared.tables.ComponentKind.TheVariants as kind
use Rattle.cp_machine.specs.declared.discipline.Discipline as slot_discipline
use Rattle.cp_machine.specs.Kernel as machine
use Rattle.cp_meaning.specs.Kernel as meaning
use Rattle.cp_meaning.specs.State as named
use Rattle.cp_machine_laws.proofs.control.Moving.{represents_with}
use Rattle.cp_machine_laws.proofs.gates.Gates.{OwnNumbers, goes_in}

-- ---- what is pending is no part of anything else

pub pending_is : (g : Ground) (p : Program) (l : Layouts) (s : State) (m : Machine) (o u : Option ℕ) → PendingIs g o u → Represents g p l s m → Represents g p l (record s { pending = o }) (record m { pending = u })
pending_is g p l s m o u e rep = represents_with g p l s m s.output m.output o u rep.output e rep

-- ---- the line

-- who is first in the line waits at the gate with an open entry call
abbrev pub FirstWaits : State → ℕ → List ℕ → Type 0
FirstWaits s n [] = Unit {0}
FirstWaits s n (q ∷ line) = (q < length s.processes) × ((named.process_at s.processes q).status ≡ at_gate n) × (has_entry n (named.process_at s.processes q).calls ≡ true)

module _ (g : Ground) (p : Program) (l : Layouts) (s : State) (m : Machine) (n j : ℕ) (rep : Represents g p l s m) (own : OwnNumbers g) (is : (component_at g.tables n).kind ≡ kind.Monitor j) (known : j < length m.monitors)
    (there_n : n < length s.components) (free : first_inside n s.processes ≡ None) where
  enters : (q : ℕ) (line : List ℕ) → FirstWaits s n (q ∷ line) → Represents g p l (meaning.with_line_of (meaning.made_ready s q) n line) (machine.goes_in m j q line)
  enters q line w = goes_in g p l s m q line n j rep own is known there_n w.0 w.1 w.2 free

  here : MonitorIs s m n (kind.Monitor j)
  here = subst (MonitorIs s m n) is (rep.monitors n there_n)

  -- the monitor had no holder
  freed_same : machine.free m j (monitor_at m j).line ≡ m
  freed_same =
      ap (λ (o : Option ℕ). record m { monitors = slice_set m.monitors j (record { holder = o; line = (monitor_at m j).line }) }) (sym (here.1 ∙ free))
      ∙ ap (λ (ms : List Monitor). record m { monitors = ms }) (set-get_or m.monitors j no_monitor)

  freed_is : (line : List ℕ) → (monitor_at m j).line ≡ line → Represents g p l s (machine.free m j line)
  freed_is line e = subst (λ ks. Represents g p l s (machine.free m j ks)) e (subst (λ w. Represents g p l s w) (sym freed_same) rep)

  by_gates : (c : Gates) (line : List ℕ) → FirstWaits s n line → (monitor_at m j).line ≡ line → meaning.line_of s n ≡ line → Represents g p l (meaning.let_in c s n) (machine.let_in_by (gates_of c) m j line)
  by_gates first_gates line w same e = subst (λ ks. Represents g p l (meaning.first_in ks s n) (machine.first_in m j line)) (sym e) (go line w same)
    where
      go : (ks : List ℕ) → FirstWaits s n ks → (monitor_at m j).line ≡ ks → Represents g p l (meaning.first_in ks s n) (machine.first_in m j ks)
      go [] w same = freed_is [] same
      go (q ∷ ks) w same = enters q ks w
  by_gates any_gates line w same e = subst (λ ks. Represents g p l (meaning.one_in ks s n) (machine.one_in m j line)) (sym e) (go line w same)
    where
      go : (ks : List ℕ) → FirstWaits s n ks → (monitor_at m j).line ≡ ks → Represents g p l (meaning.one_in ks s n) (machine.one_in m j ks)
      go [] w same = freed_is [] same
      go (q ∷ []) w same = enters q [] w
      go (q ∷ r ∷ ks) w same = pending_is g p l s (machine.free m j (q ∷ r ∷ ks)) (Some n) (Some j) is (freed_is (q ∷ r ∷ ks) same)

  pub lets_in : FirstWaits s n (meaning.line_of s n) → Represents g p l (meaning.let_in s.discipline.gates s n) (machine.let_in m j)
  lets_in w =
      subst (λ c. Represents g p l (meaning.let_in s.discipline.gates s n) (machine.let_in_by c m j (monitor_at m j).line)) (sym (ap (λ (d : slot_discipline.Discipline). d.gates) rep.discipline))
      (subst (λ ks. Represents g p l (meaning.let_in s.discipline.gates s n) (machine.let_in_by (gates_of s.discipline.gates) m j ks)) (sym here.0) (by_gates s.discipline.gates (meaning.line_of s n) w here.0 refl))
