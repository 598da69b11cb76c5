-- The open calls of a process in a reached state: at most one entry call of a monitor, and each of a component of an earlier type than its caller.
use Rattle.std.proofs.Common.{◌≡◌, ◌∙◌, ◌⊎◌, inl, inr, ℕ, ◌<◌, ◌≤◌, true, false, List, [], ◌∷◌, sym, refl, subst, arith, eq-eqb}
use Rattle.cp_tree.specs.declared.declaration.SystemKind.TheVariants as system_kind
use Rattle.cp_meaning.specs.State.{Component, component_at, CallKind, own_statement, initial_statement, local_routine, entry_routine, Call, has_entry}
use Rattle.cp_meaning.specs.Ownership.{below_or_same, CallsDescend}
use Rattle.cp_meaning.proofs.Frames.{Frame, frames, entry_in, initial_in, entry-frames, system_at, Descends, no_entry_below}

below_at_most : (cs : List Component) (n outer : ℕ) → below_or_same cs n outer → system_at cs n ≤ system_at cs outer
below_at_most cs n outer (inl e) = rw e (omega arith)
below_at_most cs n outer (inr less) = omega (arith, less)

-- no open call is of a component of a later type than that of the process, which is `me`
pub lies_below : (cs : List Component) (me : ℕ) (c : Call) (calls : List Call) → CallsDescend cs me (c ∷ calls) → system_at cs c.component ≤ system_at cs me
lies_below cs me c [] h = below_at_most cs c.component me h
lies_below cs me c (d ∷ calls) h = let a = below_at_most cs c.component d.component h.0 in let b = lies_below cs me d calls h.1 in omega (arith, a, b)

-- an entry or an initial statement
abbrev pub IsOuterKind : CallKind → Type 0
IsOuterKind entry_routine = Unit {0}
IsOuterKind initial_statement = Unit {0}
IsOuterKind local_routine = ⊥
IsOuterKind own_statement = ⊥

-- what is entered or initialised is of an earlier type than the process itself
pub lies_lower : (cs : List Component) (me : ℕ) (k : CallKind) (n : ℕ) (calls : List Call) → IsOuterKind k → Descends cs ((k, n) ∷ frames calls) → ((c : Call) (more : List Call) → calls ≡ c ∷ more → CallsDescend cs me calls) → system_at cs n < system_at cs me
lies_lower cs me entry_routine n [] o h b = absurd h
lies_lower cs me initial_statement n [] o h b = absurd h
lies_lower cs me entry_routine n (d ∷ calls) o h b = let w = lies_below cs me d calls (b d calls refl) in let a = h.0 in omega (arith, w, a)
lies_lower cs me initial_statement n (d ∷ calls) o h b = let w = lies_below cs me d calls (b d calls refl) in let a = h.0 in omega (arith, w, a)
lies_lower cs me _ n calls o h b = absurd o

-- below an entry call of a component is no other one of it
pub one_entry : (cs : List Component) (n : ℕ) (calls : List Call) → Descends cs ((entry_routine, n) ∷ frames calls) → has_entry n calls ≡ false
one_entry cs n [] h = refl
one_entry cs n (c ∷ calls) h = entry-frames n (c ∷ calls) ∙ no_entry_below cs n (c.kind, c.component) (frames calls) h.1 h.0

-- a component of an earlier type than that which names it is not one that an entry is open of
pub none_open : (cs : List Component) (n : ℕ) (c : Call) (calls : List Call) → Descends cs (frames (c ∷ calls)) → system_at cs n < system_at cs c.component → has_entry n (c ∷ calls) ≡ false
none_open cs n c calls h less = entry-frames n (c ∷ calls) ∙ no_entry_below cs n (c.kind, c.component) (frames calls) h less

-- what runs in a class or monitor is below an open entry call of it, or initialises it
pub entered_or_initial : (cs : List Component) (f : Frame) (fs : List Frame) → Descends cs (f ∷ fs) → ((component_at cs f.1).kind ≡ system_kind.Process → ⊥) → (entry_in f.1 (f ∷ fs) ≡ true) ⊎ (initial_in f.1 (f ∷ fs) ≡ true)
entered_or_initial cs (own_statement, n) [] h never = absurd (never h)
entered_or_initial cs _ [] h never = absurd h
entered_or_initial cs (own_statement, n) (g ∷ fs) h never = absurd h.0
entered_or_initial cs (local_routine, n) (g ∷ fs) h never = subst (λ k. (entry_in k (g ∷ fs) ≡ true) ⊎ (initial_in k (g ∷ fs) ≡ true)) (sym h.0) (entered_or_initial cs g fs h.1 (λ e. never (subst (λ k. (component_at cs k).kind ≡ system_kind.Process) (sym h.0) e)))
entered_or_initial cs (entry_routine, n) (g ∷ fs) h never = inl (rw (eq-eqb n n refl) refl)
entered_or_initial cs (initial_statement, n) (g ∷ fs) h never = inr (rw (eq-eqb n n refl) refl)
