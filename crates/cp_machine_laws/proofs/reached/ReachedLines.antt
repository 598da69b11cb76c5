-- Who waits in a line of a reached state: each waits at the gate, with an open entry call of the monitor.
use Rattle.std.proofs.Common.{◌≡◌, ◌∙◌, ◌⊎◌, inl, inr, ℕ, zero, suc, ◌<◌, ◌==◌, true, false, List, [], ◌∷◌, sym, subst, eqb-true, arith, length}
use Rattle.cp_tree.specs.declared.declaration.SystemKind.TheVariants as system_kind
use Rattle.cp_machine_laws.proofs.Words.{Component, at_gate, process_at, State, has_entry, is_member, line_of, OrderlyState, entry-frames}
use Rattle.cp_meaning.proofs.Good.{IsMonitor, or_cases}
use Rattle.cp_meaning.proofs.Orderly.{LineFits}

-- a process of the line of a monitor
pub record WaitsAtGate (s : State) (n q : ℕ) : Type 0 where
  pub monitor : IsMonitor s.components n
  pub there : q < length s.processes
  pub status : (process_at s.processes q).status ≡ at_gate n
  pub called : has_entry n (process_at s.processes q).calls ≡ true

line_waits : (s : State) (n q : ℕ) (line : List ℕ) → is_member q line ≡ true → LineFits s.components s.processes n line → WaitsAtGate s n q
line_waits s n q [] h f = absurd (let bad : false ≡ true = h in cc)
line_waits s n q (r ∷ line) h f = go (or_cases (q == r) (is_member q line) h) (λ k. line_waits s n q line k f.5)
  where
    go : ((q == r) ≡ true) ⊎ (is_member q line ≡ true) → (is_member q line ≡ true → WaitsAtGate s n q) → WaitsAtGate s n q
    go (inl e) rest = subst (WaitsAtGate s n) (sym (eqb-true q r e)) (record { monitor = f.0; there = f.1; status = f.2; called = entry-frames n (process_at s.processes r).calls ∙ f.3 })
    go (inr k) rest = rest k

pub in_line_waits : (s : State) → OrderlyState s → (n q : ℕ) → is_member q (line_of s n) ≡ true → WaitsAtGate s n q
in_line_waits s state n q h = line_waits s n q (line_of s n) h (state.orderly.lines n)

-- a monitor is one of the components
pub monitor_within : (cs : List Component) (n : ℕ) → IsMonitor cs n → n < length cs
monitor_within [] n h = absurd (let bad : system_kind.Process ≡ system_kind.Monitor = h in cc)
monitor_within (c ∷ cs) zero h = omega arith
monitor_within (c ∷ cs) (suc n) h = let less = monitor_within cs n h in omega (arith, less)

pub first_waits_so : (s : State) → OrderlyState s → (n : ℕ) → (q : ℕ) (line : List ℕ) → line_of s n ≡ q ∷ line → WaitsAtGate s n q
first_waits_so s state n q line e =
    let f : LineFits s.components s.processes n (q ∷ line) = subst (LineFits s.components s.processes n) e (state.orderly.lines n) in
    record { monitor = f.0; there = f.1; status = f.2; called = entry-frames n (process_at s.processes q).calls ∙ f.3 }
