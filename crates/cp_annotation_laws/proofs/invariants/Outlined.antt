-- A value that is stored leaves the kinds and scopes of the open calls as they are.
use Rattle.std.proofs.Common.{◌≡◌, ℕ, ◌==◌, Bool, true, false, if◌then◌else◌, List, [], ◌∷◌, length, ap, refl}
use Rattle.cp_meaning.specs.Values.{Value}
use Rattle.cp_meaning.specs.State.{Holder, in_call, in_component, Place, Environment, Call, callers}
use Rattle.cp_meaning.specs.Places.{View, with_environment, with_call_environment, with_environment_of, stored}
use Rattle.cp_annotation_laws.proofs.invariants.Guarded.{outlines, outer_ones}

outlines_if : (b : Bool) (xs ys zs : List Call) → outlines xs ≡ outlines zs → outlines ys ≡ outlines zs → outlines (if b then xs else ys) ≡ outlines zs
outlines_if true xs ys zs h k = h
outlines_if false xs ys zs h k = k

outlines_kept : (cs : List Call) (below : ℕ) (e : Environment) → outlines (with_call_environment cs below e) ≡ outlines cs
outlines_kept [] below e = refl
outlines_kept (c ∷ cs) below e = outlines_if (length cs == below) (with_environment c e ∷ cs) (c ∷ with_call_environment cs below e) (c ∷ cs) refl (ap (λ fs. (c.kind, c.scope) ∷ fs) (outlines_kept cs below e))

calls_kept : (v : View) (h : Holder) (e : Environment) → outlines (with_environment_of v h e).calls ≡ outlines v.calls
calls_kept v (in_call below) e = outlines_kept v.calls below e
calls_kept v (in_component n) e = refl

pub stored_outlines : (v : View) (q : Place) (w : Value) → outlines (stored v q w).calls ≡ outlines v.calls
stored_outlines v q w = calls_kept v q.holder _

pub callers_outlines : (cs : List Call) → outlines (callers cs) ≡ outer_ones (outlines cs)
callers_outlines [] = refl
callers_outlines (c ∷ cs) = refl
