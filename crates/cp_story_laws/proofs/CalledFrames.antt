-- Open calls without their environments, each with the routine that it executes.
use Rattle.std.proofs.Common.{◌≡◌, ℕ, ◌==◌, Bool, true, false, if◌then◌else◌, List, [], ◌∷◌, length, ap, refl}
use Rattle.cp_meaning.specs.Places.{View, stored, with_call_environment, with_environment, with_environment_of}
use Rattle.cp_meaning.specs.State.{Holder, in_call, in_component, Place, Environment, CallKind, Call, no_call, current, callers}
use Rattle.cp_meaning.specs.Values.{Value}
use Rattle.cp_story_laws.specs.OpenCalls.{Entered, entry_of}

abbrev pub Framed : Type 0
Framed = CallKind × Entered

abbrev pub framed : List Call → List Framed
framed [] = []
framed (c ∷ cs) = (c.kind, entry_of c) ∷ framed cs

abbrev pub outer_ones : List Framed → List Framed
outer_ones [] = []
outer_ones (f ∷ fs) = fs

pub framed_callers : (cs : List Call) → framed (callers cs) ≡ outer_ones (framed cs)
framed_callers [] = refl
framed_callers (c ∷ cs) = refl

-- what the innermost call enters
abbrev pub innermost : List Framed → Entered
innermost [] = entry_of no_call
innermost (f ∷ fs) = f.1

pub innermost_framed : (cs : List Call) → innermost (framed cs) ≡ entry_of (current cs)
innermost_framed [] = refl
innermost_framed (c ∷ cs) = refl

-- ---- a value that is stored

framed_if : (b : Bool) (xs ys zs : List Call) → framed xs ≡ framed zs → framed ys ≡ framed zs → framed (if b then xs else ys) ≡ framed zs
framed_if true xs ys zs h k = h
framed_if false xs ys zs h k = k

framed_kept : (cs : List Call) (below : ℕ) (e : Environment) → framed (with_call_environment cs below e) ≡ framed cs
framed_kept [] below e = refl
framed_kept (c ∷ cs) below e = framed_if (length cs == below) (with_environment c e ∷ cs) (c ∷ with_call_environment cs below e) (c ∷ cs) refl (ap (λ (fs : List Framed). (c.kind, entry_of c) ∷ fs) (framed_kept cs below e))

calls_kept : (v : View) (h : Holder) (e : Environment) → framed (with_environment_of v h e).calls ≡ framed v.calls
calls_kept v (in_call below) e = framed_kept v.calls below e
calls_kept v (in_component n) e = refl

pub stored_framed : (v : View) (q : Place) (w : Value) → framed (stored v q w).calls ≡ framed v.calls
stored_framed v q w = calls_kept v q.holder _
