-- Of tables that stand for a program, variables are apart: those of frames, those of components, and the frames of a process.
use Rattle.std.proofs.Common.{◌≡◌, ◌≢◌, ℕ, ◌+◌, ◌<◌, ◌≤◌, ◌⊎◌, inl, inr, Bool, true, false, List, [], ◌∷◌, ap, sym, refl, subst, arith, length, Some}
use Rattle.cp_machine_laws.proofs.Words.{bytes_eq-Decides, Program, IsTyped, Tables, component_at, Frame, Entry, Rest, Successor, Return, InitEnd, StackFits}
use Rattle.cp_machine_laws.proofs.Words.{size_of, Name, same_name, Ty, cells_of, Layouts, look, RoutineIs, SystemIs, Ground, frames_of}
use Rattle.cp_machine_laws.proofs.control.Control.{top_frame}
use Rattle.cp_machine_laws.proofs.control.Moving.{same_or_other}
use Rattle.cp_machine_laws.proofs.assignments.Writing.{ComponentsApart, side as below_or_above}
use Rattle.cp_machine_laws.proofs.assignments.BlocksInCalls.{FrameApart, FramesApart, Below}

-- ---- the variables of a frame

pub frame_apart : (g : Ground) (p : Program) (l : Layouts) (n : ℕ) → RoutineIs g p l n → FrameApart l (size_of g.tables) n
frame_apart g p l n r = record { inside = r.frame.cells; apart = r.frame.apart; different = λ x y t u e k. go x y t u e k (same_name x y) refl }
  where
    -- one name has one origin
    go : (x y : Name) (t u : Ty) → look x (l.frames n).references ≡ Some t → look y (l.frames n).variables ≡ Some u → (b : Bool) → same_name x y ≡ b → same_name x y ≡ false
    go x y t u e k true s =
        let same : x ≡ y = (bytes_eq-Decides x y).0 s in
        let place = r.frame.local y u k in
        let reference = r.frame.reference x t e in
        let moved : (l.frames n).origins x ≡ (l.frames n).origins y = ap (l.frames n).origins same in
        absurd (cc)
    go x y t u e k false s = s

-- ---- the frames of a process

frames_below_base : (size : ℕ → ℕ) (base : ℕ) (caller : Frame) (es : List Entry) → caller.base + size caller.routine ≤ base → FramesApart size (frames_of caller es) → Below size base (frames_of caller es)
frames_below_base size base caller es h apart =
    let top = top_frame caller es in
    subst (λ fs. Below size base fs) (sym top.1) (h, subst (λ fs. FramesApart size fs) top.1 apart)

pub frames_apart : (r : Tables) (f : Frame) (es : List Entry) → StackFits r f es → FramesApart (size_of r) (frames_of f es)
frames_apart r f [] h = tt
frames_apart r f (Rest at ∷ es) h = frames_apart r f es h.1
frames_apart r f (Successor at z last ∷ es) h = frames_apart r f es h.1
frames_apart r f (Return caller slot monitor ∷ es) h = frames_below_base (size_of r) f.base caller es (let e = h.0.cells in omega (arith, e)) (frames_apart r caller es h.3)
frames_apart r f (InitEnd caller component ∷ es) h = frames_below_base (size_of r) f.base caller es (let e = h.0.cells in omega (arith, e)) (frames_apart r caller es h.2)

-- ---- the variables of components

module _ (g : Ground) (p : Program) (l : Layouts) (typed : IsTyped g.tables) (systems : (n : ℕ) → n < length g.tables.components → SystemIs g p l (component_at g.tables n).system) where
  -- where a variable of a component begins
  abbrev first_cell : ℕ → Name → ℕ
  first_cell n x = (component_at g.tables n).base + (l.systems (component_at g.tables n).system).slots x

  abbrev IsKnown : ℕ → Name → Ty → Type 0
  IsKnown n x t = look x (l.systems (component_at g.tables n).system).variables ≡ Some t

  abbrev AreOther : (n k : ℕ) → (x y : Name) → Ty → Ty → Type 0
  AreOther n k x y t u = ((n ≡ k) × (same_name x y ≡ true)) ⊎ (((n ≢ k) ⊎ (same_name x y ≡ false)) × ((i j : ℕ) → i < cells_of t → j < cells_of u → first_cell n x + i ≢ first_cell k y + j))

  -- in one component
  beside : (n : ℕ) (x y : Name) (t u : Ty) → n < length g.tables.components → IsKnown n x t → IsKnown n y u → AreOther n n x y t u
  beside n x y t u there e d = go (same_name x y) refl
    where
      go : (b : Bool) → same_name x y ≡ b → AreOther n n x y t u
      go true s = inl (refl, s)
      go false s = inr (inr s, λ i j a b same. side i j a b same ((systems n there).apart x y t u s e d))
        where
          side : (i j : ℕ) → i < cells_of t → j < cells_of u → first_cell n x + i ≡ first_cell n y + j →
              ((l.systems (component_at g.tables n).system).slots x + cells_of t ≤ (l.systems (component_at g.tables n).system).slots y) ⊎ ((l.systems (component_at g.tables n).system).slots y + cells_of u ≤ (l.systems (component_at g.tables n).system).slots x) → ⊥
          side i j a b same (inl o) = omega (arith, a, b, same, o)
          side i j a b same (inr o) = omega (arith, a, b, same, o)

  -- in two
  across : (n k : ℕ) (x y : Name) (t u : Ty) → n < length g.tables.components → k < length g.tables.components → IsKnown n x t → IsKnown k y u → n ≢ k → AreOther n k x y t u
  across n k x y t u a b e d other = inr (inl other, λ i j less fewer same. side i j less fewer same (below_or_above n k other))
    where
      side : (i j : ℕ) → i < cells_of t → j < cells_of u → first_cell n x + i ≡ first_cell k y + j → (n < k) ⊎ (k < n) → ⊥
      side i j less fewer same (inl o) = let w = (systems n a).cells x t e in let v = typed.apart n k o b in omega (arith, less, fewer, same, w, v)
      side i j less fewer same (inr o) = let w = (systems k b).cells y u d in let v = typed.apart k n o a in omega (arith, less, fewer, same, w, v)

  pub components_apart : ComponentsApart g.tables l
  components_apart n k x y t u a b e d = go (same_or_other n k)
    where
      go : (n ≡ k) ⊎ (n ≢ k) → AreOther n k x y t u
      go (inl same) = subst (λ j. IsKnown j y u → AreOther n j x y t u) same (λ w. beside n x y t u a e w) d
      go (inr other) = across n k x y t u a b e d other
