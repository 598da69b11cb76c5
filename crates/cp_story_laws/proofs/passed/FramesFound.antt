-- The frame that has a cell is found among the callers' frames on a control stack.
use Rattle.std.proofs.Common.{◌≡◌, ◌∙◌, ℕ, ◌+◌, ◌<◌, ◌≤◌, ◌==◌, ◌⊎◌, inl, inr, Bool, true, false, nat_le, if◌then◌else◌, List, [], ◌∷◌, Some, length, ap, sym, subst, arith}
use Rattle.std.proofs.lemmas.Bool.{le-leb}
use Rattle.std.proofs.lemmas.Bool.Decides.{leb_tells}
use Rattle.std.proofs.lemmas.Option.{none-some}
use Rattle.cp_slots.specs.Tables.{Tables}
use Rattle.cp_store.specs.declared.memory.Frame.{Frame}
use Rattle.cp_machine.specs.declared.process.Entry.{Entry}
use Rattle.cp_machine.specs.declared.process.Entry.TheVariants.{Rest, Successor, Return, InitEnd}
use Rattle.cp_machine.specs.Fits.{StackFits, size_of}
use Rattle.cp_machine_laws.specs.Represents.{frame_above, frames_of}
use Rattle.cp_machine_laws.proofs.assignments.Apart.{frames_apart}
use Rattle.cp_machine_laws.proofs.assignments.BlocksInCalls.{FramesApart, below_in}
use Rattle.cp_machine_laws.proofs.control.Control.{top_frame}
use Rattle.cp_machine_laws.proofs.expressions.Reading.{frame_same}
use Rattle.cp_story.specs.Passed.{frame_with, nearer}

module _ (r : Tables) (cell below : ℕ) (g : Frame) (from : g.base ≤ cell) (to : cell < g.base + size_of r g.routine) where
  -- the caller's own, or one further out
  next : (caller : Frame) (es : List Entry) → StackFits r caller es → ((fs : List Frame) → frames_of caller es ≡ caller ∷ fs → frame_above fs below ≡ Some g → frame_with es cell ≡ Some g) → frame_above (frames_of caller es) below ≡ Some g → nearer (Some caller) cell (frame_with es cell) ≡ Some g
  next caller es fits rest e = go (length fs == below) (rest fs top.1) (subst (λ (hs : List Frame). frame_above hs below ≡ Some g) top.1 e)
    where
      top : (hs : List Frame) × (frames_of caller es ≡ caller ∷ hs)
      top = top_frame caller es

      fs : List Frame
      fs = top.0

      apart : FramesApart (size_of r) (caller ∷ fs)
      apart = subst (FramesApart (size_of r)) top.1 (frames_apart r caller es fits)

      outer : frame_above fs below ≡ Some g → nat_le caller.base cell ≡ false
      outer d = by (leb_tells caller.base cell)
        where
          by : ((nat_le caller.base cell ≡ true) × (caller.base ≤ cell)) ⊎ ((nat_le caller.base cell ≡ false) × (cell < caller.base)) → nat_le caller.base cell ≡ false
          by (inl k) = absurd (let a = k.1 in let b = below_in (size_of r) caller.base below fs g apart d in omega (arith, a, b, to))
          by (inr k) = k.0

      go : (b : Bool) → (frame_above fs below ≡ Some g → frame_with es cell ≡ Some g) → (if b then Some caller else frame_above fs below) ≡ Some g → nearer (Some caller) cell (frame_with es cell) ≡ Some g
      go true rest d =
          let same : caller ≡ g = frame_same caller g d in
          ap (λ (b : Bool). if b then Some caller else frame_with es cell) (le-leb caller.base cell (subst (λ (h : Frame). h.base ≤ cell) (sym same) from)) ∙ d
      go false rest d = ap (λ (b : Bool). if b then Some caller else frame_with es cell) (outer d) ∙ rest d

  same_rest : (f h : Frame) (fs hs : List Frame) → f ∷ fs ≡ h ∷ hs → hs ≡ fs
  same_rest f h fs hs e = cc

  pub found : (f : Frame) (es : List Entry) → StackFits r f es → (h : Frame) (fs : List Frame) → frames_of f es ≡ h ∷ fs → frame_above fs below ≡ Some g → frame_with es cell ≡ Some g
  found f [] fits h fs is e = absurd (none-some g (subst (λ (hs : List Frame). frame_above hs below ≡ Some g) (same_rest f h [] fs is) e))
  found f (Rest at ∷ es) fits h fs is e = found f es fits.1 h fs is e
  found f (Successor at z last ∷ es) fits h fs is e = found f es fits.1 h fs is e
  found f (Return caller slot monitor ∷ es) fits h fs is e = next caller es fits.3 (λ hs i d. found caller es fits.3 caller hs i d) (subst (λ (hs : List Frame). frame_above hs below ≡ Some g) (same_rest f h (frames_of caller es) fs is) e)
  found f (InitEnd caller component ∷ es) fits h fs is e = next caller es fits.2 (λ hs i d. found caller es fits.2 caller hs i d) (subst (λ (hs : List Frame). frame_above hs below ≡ Some g) (same_rest f h (frames_of caller es) fs is) e)
