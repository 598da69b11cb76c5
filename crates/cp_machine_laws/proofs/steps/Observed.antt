-- What is read of a state and of the machine that stands for it is the same.
use Rattle.std.proofs.Common.{◌≡◌, ◌∙◌, ℕ, zero, suc, ◌+◌, ◌<◌, ◌==◌, Bool, if◌then◌else◌, List, [], ◌∷◌, Option, Some, None, ap, sym, refl, subst, arith, length}
use Rattle.std.specs.Prelude.{◌||◌, eqb, map, filter}
use Rattle.std.specs.List.{list_any, range_with_len}
use Rattle.cp_machine_laws.proofs.Words.{Program, component_at, unstarted, ready, at_gate, delayed, ended, Status, Process, State, is_member, line_of, Layouts, Ground}
use Rattle.cp_machine_laws.proofs.Words.{StatusIs, MonitorIs, PendingIs, Represents, LinesFit}
use Rattle.cp_slots.specs.declared.tables.ComponentKind.TheVariants as kind
use Rattle.cp_machine.specs.declared.process.Status as slot_status
use Rattle.cp_machine.specs.declared.process.Status.TheVariants as status
use Rattle.cp_machine.specs.Machine as slot_machine
use Rattle.cp_machine.specs.Machine.{Machine, Thread, thread_at, monitor_at, is_ready_status, is_at_gate, in_line_of}
use Rattle.cp_meaning.specs.State as named
use Rattle.cp_meaning.specs.Values.{counted_from}
use Rattle.cp_meaning.specs.Readings as readings
use Rattle.cp_machine_laws.specs.Named as own

-- the numbers that pass two tests, where the tests are the same
those_alike : (a b : ℕ → Bool) → ((q : ℕ) → a q ≡ b q) → (k n : ℕ) → filter a (counted_from k n) ≡ filter b (range_with_len n k)
those_alike a b same zero n = refl
those_alike a b same (suc k) n =
    ap (λ c. if c then n ∷ filter a (counted_from k (suc n)) else filter a (counted_from k (suc n))) (same n)
    ∙ ap (λ us. if b n then n ∷ us else us) (those_alike a b same k (suc n) ∙ ap (λ j. filter b (range_with_len j k)) (let e : suc n ≡ n + 1 = omega arith in e))

module _ (g : Ground) (p : Program) (l : Layouts) where
  ready_same : (q : ℕ) (x : Process) (t : Thread) (u : Status) (w : slot_status.Status) → StatusIs g p l q x t u w → readings.is_ready u ≡ is_ready_status w
  ready_same q x t unstarted status.Unstarted h = refl
  ready_same q x t ready status.Ready h = refl
  ready_same q x t (at_gate n) (status.AtGate k) h = refl
  ready_same q x t (delayed n) (status.Delayed c) h = refl
  ready_same q x t ended status.Ended h = refl
  ready_same q x t u w h = absurd h

  waiting_same : (q : ℕ) (x : Process) (t : Thread) (u : Status) (w : slot_status.Status) → StatusIs g p l q x t u w → readings.is_waiting u ≡ slot_machine.is_waiting w
  waiting_same q x t unstarted status.Unstarted h = refl
  waiting_same q x t ready status.Ready h = refl
  waiting_same q x t (at_gate n) (status.AtGate k) h = refl
  waiting_same q x t (delayed n) (status.Delayed c) h = refl
  waiting_same q x t ended status.Ended h = refl
  waiting_same q x t u w h = absurd h

  -- two lists of processes of which each is waiting or not alike
  any_same : (ps : List Process) (ts : List Thread) → length ps ≡ length ts → ((q : ℕ) → q < length ps → readings.is_waiting (named.process_at ps q).status ≡ slot_machine.is_waiting (thread_at ts q).status) → readings.is_one_waiting ps ≡ list_any (λ t. slot_machine.is_waiting t.status) ts
  any_same [] [] e h = refl
  any_same (x ∷ ps) (t ∷ ts) e h =
      let a = h 0 (omega arith) in
      let b = any_same ps ts (omega (arith, e)) (λ q less. h (suc q) (omega arith)) in
      ap (λ c. c || readings.is_one_waiting ps) a ∙ ap (λ c. slot_machine.is_waiting t.status || c) b
  any_same x y e h = absurd (omega (arith, e))

  member_same : (q : ℕ) (line : List ℕ) → is_member q line ≡ list_any (eqb q) line
  member_same q [] = refl
  member_same q (r ∷ line) = ap (λ c. (q == r) || c) (member_same q line)

  module _ (s : State) (m : Machine) (rep : Represents g p l s m) (fits : LinesFit m) where
    pub is_ready_alike : (q : ℕ) → q < length s.processes → readings.is_ready (named.process_at s.processes q).status ≡ slot_machine.is_ready m q
    is_ready_alike q h = ready_same q (named.process_at s.processes q) (thread_at m.threads q) (named.process_at s.processes q).status (thread_at m.threads q).status (rep.processes q h).status

    pub waits_alike : readings.waits s ≡ slot_machine.waits m
    waits_alike = any_same s.processes m.threads rep.process_count (λ q h. waiting_same q (named.process_at s.processes q) (thread_at m.threads q) (named.process_at s.processes q).status (thread_at m.threads q).status (rep.processes q h).status)

    pub pending_alike : own.is_some s.pending ≡ slot_machine.is_pending m
    pending_alike = go s.pending m.pending rep.pending
      where
        go : (o w : Option ℕ) → PendingIs g o w → own.is_some o ≡ slot_machine.is_some w
        go None None h = refl
        go (Some n) (Some k) h = refl
        go None (Some k) h = absurd h
        go (Some n) None h = absurd h

    pub output_alike : map (own.shown_of g.firsts) s.output ≡ slot_machine.output_of m
    output_alike = sym rep.output

    -- the number of a monitor is that of a component
    pub holder_alike : (n k : ℕ) → n < length s.components → (component_at g.tables n).kind ≡ kind.Monitor k → readings.holder_of s n ≡ (monitor_at m k).holder
    holder_alike n k h e = sym (subst (MonitorIs s m n) e (rep.monitors n h)).1

    pub line_alike : (n k q : ℕ) → n < length s.components → (component_at g.tables n).kind ≡ kind.Monitor k → is_member q (line_of s n) ≡ is_at_gate k (thread_at m.threads q).status
    line_alike n k q h e = member_same q (line_of s n) ∙ (ap (list_any (eqb q)) (sym (subst (MonitorIs s m n) e (rep.monitors n h)).0) ∙ sym (fits.gate k q))

    pub waiting_alike : (n k : ℕ) → n < length s.components → (component_at g.tables n).kind ≡ kind.Monitor k → readings.rising_line s n ≡ slot_machine.waiting_of m k
    waiting_alike n k h e =
        those_alike (λ q. is_member q (line_of s n)) (λ q. is_at_gate k (thread_at m.threads q).status) (λ q. line_alike n k q h e) (length s.processes) 0
        ∙ ap (λ count. filter (λ q. is_at_gate k (thread_at m.threads q).status) (range_with_len 0 count)) rep.process_count

    pub in_line_alike : ((n : ℕ) → s.pending ≡ Some n → n < length s.components) → (q : ℕ) → own.in_line_of s.pending s q ≡ in_line_of m.pending (thread_at m.threads q).status
    in_line_alike there q = go s.pending m.pending refl rep.pending
      where
        go : (o w : Option ℕ) → s.pending ≡ o → PendingIs g o w → own.in_line_of o s q ≡ in_line_of w (thread_at m.threads q).status
        go None None d h = refl
        go (Some n) (Some k) d h = line_alike n k q (there n d) h
        go None (Some k) d h = absurd h
        go (Some n) None d h = absurd h
