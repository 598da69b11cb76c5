-- The admission of a process of the pending monitor's line: it goes in, and the line stands without it.
use Rattle.std.proofs.Common.{◌≡◌, ◌∙◌, ℕ, suc, ◌+◌, ◌<◌, ◌≤◌, ◌==◌, ◌⊎◌, inl, inr, Bool, true, false, cond, ltb, if◌then◌else◌, List, [], ◌∷◌, Option, Some, None, ap, sym, refl, subst, arith, length}
use Rattle.cp_machine_laws.proofs.Words.{not, cases_lt, lt-ltb, le-ltb, Program, component_at, Machine, monitor_at, first_inside, at_gate, has_entry, State, Layouts, Ground}
use Rattle.cp_machine_laws.proofs.Words.{MonitorIs, PendingIs, Represents, position_or_len}
use Rattle.cp_slots.specs.declared.tables.ComponentKind.TheVariants as kind
use Rattle.cp_machine.specs.Kernel as machine
use Rattle.cp_machine.specs.Opening as slots
use Rattle.cp_meaning.specs.Kernel as meaning
use Rattle.cp_meaning.specs.State as named
use Rattle.cp_meaning.specs.Steps.{without, admitted, admitted_to}
use Rattle.cp_machine_laws.proofs.gates.Gates.{OwnNumbers, goes_in}
use Rattle.cp_machine_laws.proofs.gates.LettingIn.{pending_is}

-- ---- the line without a process

-- the line without the number at a place, if it is there
abbrev without_at : List ℕ → ℕ → List ℕ
without_at line place = slots.remove_at (cond (ltb place (length line)) (Some place) None) line

without_later : (q place : ℕ) (line : List ℕ) → without_at (q ∷ line) (suc place) ≡ q ∷ without_at line place
without_later q place line = go (cases_lt place (length line))
  where
    go : (place < length line) ⊎ (length line ≤ place) → without_at (q ∷ line) (suc place) ≡ q ∷ without_at line place
    go (inl less) =
        let here : ltb place (length line) ≡ true = lt-ltb place (length line) less in
        let later : ltb (suc place) (suc (length line)) ≡ true = lt-ltb (suc place) (suc (length line)) (omega arith) in
        ap (λ b. slots.remove_at (cond b (Some (suc place)) None) (q ∷ line)) later ∙ ap (λ b. q ∷ slots.remove_at (cond b (Some place) None) line) (sym here)
    go (inr past) =
        let here : ltb place (length line) ≡ false = le-ltb place (length line) past in
        let later : ltb (suc place) (suc (length line)) ≡ false = le-ltb (suc place) (suc (length line)) (omega arith) in
        ap (λ b. slots.remove_at (cond b (Some (suc place)) None) (q ∷ line)) later ∙ ap (λ b. q ∷ slots.remove_at (cond b (Some place) None) line) (sym here)

-- by position and by name it is the same line
pub without_same : (q : ℕ) (line : List ℕ) → slots.without q line ≡ without q line
without_same q [] = refl
without_same q (r ∷ line) = go (r == q) refl (without_same q line)
  where
    go : (b : Bool) → r == q ≡ b → slots.without q line ≡ without q line → slots.without q (r ∷ line) ≡ (if b then line else r ∷ without q line)
    go true e ih =
        let some : ltb 0 (suc (length line)) ≡ true = lt-ltb 0 (suc (length line)) (omega arith) in
        ap (λ b. without_at (r ∷ line) (cond (not b) (1 + position_or_len (λ k. k == q) line) 0)) e ∙ ap (λ b. slots.remove_at (cond b (Some 0) None) (r ∷ line)) some
    go false e ih =
        let next : 1 + position_or_len (λ k. k == q) line ≡ suc (position_or_len (λ k. k == q) line) = omega arith in
        ap (λ b. without_at (r ∷ line) (cond (not b) (1 + position_or_len (λ k. k == q) line) 0)) e ∙ (ap (without_at (r ∷ line)) next ∙ (without_later r (position_or_len (λ k. k == q) line) line ∙ ap (λ ks. r ∷ ks) ih))

-- ---- the step

-- the process waits at the gate with an open entry call, and nobody is inside
pub record MayGoIn (g : Ground) (s : State) (m : Machine) (q n : ℕ) : Type 0 where
  pub component : n < length s.components
  pub process : q < length s.processes
  pub waits : (named.process_at s.processes q).status ≡ at_gate n
  pub called : has_entry n (named.process_at s.processes q).calls ≡ true
  pub free : first_inside n s.processes ≡ None
  -- each monitor of the tables is one of the machine
  pub known : (j : ℕ) → (component_at g.tables n).kind ≡ kind.Monitor j → j < length m.monitors

module _ (g : Ground) (p : Program) (l : Layouts) (s : State) (m : Machine) (q : ℕ) (rep : Represents g p l s m) (own : OwnNumbers g) where
  one_admitted : (n j : ℕ) → (component_at g.tables n).kind ≡ kind.Monitor j → MayGoIn g s m q n → Represents g p l (admitted_to (Some n) s q) (slots.admit_at (Some j) m q)
  one_admitted n j is may =
      let here : MonitorIs s m n (kind.Monitor j) = subst (MonitorIs s m n) is (rep.monitors n may.component) in
      let line : slots.without q (monitor_at m j).line ≡ without q (meaning.line_of s n) = ap (slots.without q) here.0 ∙ without_same q (meaning.line_of s n) in
      subst (λ ks. Represents g p l (admitted_to (Some n) s q) (record (machine.goes_in m j q ks) { pending = None })) (sym line)
      (pending_is g p l (meaning.with_line_of (meaning.made_ready s q) n (without q (meaning.line_of s n))) (machine.goes_in m j q (without q (meaning.line_of s n))) None None tt
      (goes_in g p l s m q (without q (meaning.line_of s n)) n j rep own is (may.known j is) may.component may.process may.waits may.called may.free))

  -- the whole admission: what is pending is the same monitor on both sides
  pub admits : (n : ℕ) → s.pending ≡ Some n → MayGoIn g s m q n → Represents g p l (admitted s q) (slots.admit_waiting m q)
  admits n e may =
      subst (λ o. Represents g p l (admitted_to o s q) (slots.admit_at m.pending m q)) (sym e) (go m.pending (subst (λ o. PendingIs g o m.pending) e rep.pending))
    where
      go : (w : Option ℕ) → PendingIs g (Some n) w → Represents g p l (admitted_to (Some n) s q) (slots.admit_at w m q)
      go None h = absurd h
      go (Some j) h = one_admitted n j h may
