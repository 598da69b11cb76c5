-- A value of any type that is written into a variable of an open call, or a part of one: all open calls hold what they hold then.
use Rattle.std.proofs.Common.{◌≡◌, ◌∙◌, ℕ, ◌+◌, ◌<◌, ◌≤◌, ◌==◌, ◌⊎◌, inl, inr, Bool, true, false, if◌then◌else◌, List, [], ◌∷◌, Option, Some, ap, sym, refl, subst, arith, length}
use Rattle.cp_machine_laws.proofs.Words.{some_same, bytes_eq-Decides, Tables, Local, Frame, Memory, reference_at, Name, same_name, Ty, Value, Choice, with_part, Content, holds, refers, Place}
use Rattle.cp_machine_laws.proofs.Words.{Environment, Call, cells_of, Layouts, cell_named, look, encode, HasType, chosen_at, LiesAt, frame_above, PlaceAt, CallHolds, CallsHold}
use Rattle.cp_meaning.specs.Places.{content_of, with_content, value_held, call_above, with_environment, with_call_environment}
use Rattle.cp_machine_laws.proofs.assignments.Blocks.{WritesBlock, block_kept, block_new}
use Rattle.cp_machine_laws.proofs.expressions.Parts.{encode_length}
use Rattle.cp_machine_laws.proofs.expressions.Reading.{calls_frames, frame_same as frame_is}
use Rattle.cp_machine_laws.proofs.assignments.Writing.{content_here, content_there}

-- the cells of a frame's variables are inside its size, and those of different names apart; no name is a variable and a `var` parameter
pub record FrameApart (l : Layouts) (size : ℕ → ℕ) (routine : ℕ) : Type 0 where
  pub inside : (x : Name) (t : Ty) → look x (l.frames routine).variables ≡ Some t → cell_named (l.frames routine) x + cells_of t ≤ size routine
  pub apart : (x y : Name) (t u : Ty) → same_name x y ≡ false → look x (l.frames routine).variables ≡ Some t → look y (l.frames routine).variables ≡ Some u →
      (cell_named (l.frames routine) x + cells_of t ≤ cell_named (l.frames routine) y) ⊎ (cell_named (l.frames routine) y + cells_of u ≤ cell_named (l.frames routine) x)
  pub different : (x y : Name) (t u : Ty) → look x (l.frames routine).references ≡ Some t → look y (l.frames routine).variables ≡ Some u → same_name x y ≡ false

-- all frames of a list lie below a cell
abbrev pub Below : (size : ℕ → ℕ) → ℕ → List Frame → Type 0
Below size base [] = Unit {0}
Below size base (f ∷ fs) = (f.base + size f.routine ≤ base) × Below size f.base fs

abbrev pub FramesApart : (size : ℕ → ℕ) → List Frame → Type 0
FramesApart size [] = Unit {0}
FramesApart size (f ∷ fs) = Below size f.base fs

pub local_is : (a b : ℕ) → Local a ≡ Local b → a ≡ b
local_is a b e = cc

-- a frame of a list lies where the list does
pub below_in : (size : ℕ → ℕ) (base below : ℕ) (fs : List Frame) (f : Frame) → Below size base fs → frame_above fs below ≡ Some f → f.base + size f.routine ≤ base
below_in size base below [] f b e = absurd (cc)
below_in size base below (g ∷ fs) f b e = go (length fs == below) (λ d. below_in size g.base below fs f b.1 d) e
  where
    go : (c : Bool) → (frame_above fs below ≡ Some f → f.base + size f.routine ≤ g.base) → (if c then Some g else frame_above fs below) ≡ Some f → f.base + size f.routine ≤ base
    go true ih d = subst (λ (x : Frame). x.base + size x.routine ≤ base) (frame_is g f d) b.0
    go false ih d = let w = ih d in let v = b.0 in omega (arith, w, v)

pub apart_below : (size : ℕ → ℕ) (base : ℕ) (fs : List Frame) → Below size base fs → FramesApart size fs
apart_below size base [] b = tt
apart_below size base (f ∷ fs) b = b.1

module _ (r : Tables) (l : Layouts) (size : ℕ → ℕ) (m m2 : Memory) (apart : (n : ℕ) → n < length r.routines → FrameApart l size n) (a : ℕ) (t : Ty) (y : Value) (typed : HasType t y) (writes : WritesBlock m m2 (Local a) (encode y)) where
  -- nothing that lies below the written cells, or above them, changes
  held_elsewhere : (c : Call) (f : Frame) (fs : List Frame) → f.routine < length r.routines → (a + cells_of t ≤ f.base) ⊎ (f.base + size f.routine ≤ a) → CallHolds r l m c f fs → CallHolds r l m2 c f fs
  held_elsewhere c f fs there out h =
      record {
        variables = λ x u e. block_kept m m2 (Local a) (encode y) u (value_held (content_of x c.environment)) (Local (f.base + cell_named (l.frames f.routine) x)) writes (h.variables x u e)
            (λ k i less small d. outside (cell_named (l.frames f.routine) x) k i (cells_of u) out ((apart f.routine there).inside x u e) less small (local_is _ _ d));
        plain = h.plain;
        references = λ x u e. (let w = h.references x u e in (w.0, w.1, subst (λ rs. PlaceAt r l fs w.0 u (reference_at rs (f.references + cell_named (l.frames f.routine) x))) (sym writes.references) w.2));
      }
    where
      outside : (n k i c : ℕ) → (a + cells_of t ≤ f.base) ⊎ (f.base + size f.routine ≤ a) → n + c ≤ size f.routine → k < c → i < length (encode y) → f.base + n + k ≡ a + i → ⊥
      outside n k i c (inl o) fits less small e = (let len = encode_length t y typed in omega (arith, o, fits, less, small, e, len))
      outside n k i c (inr o) fits less small e = omega (arith, o, fits, less, e)

  -- the calls of frames below the written cells
  calls_below : (cs : List Call) (fs : List Frame) (base : ℕ) → base ≤ a → Below size base fs → CallsHold r l m cs fs → CallsHold r l m2 cs fs
  calls_below [] [] base le b h = tt
  calls_below (c ∷ cs) (f ∷ fs) base le b h = (h.0, held_elsewhere c f fs h.0.routine (inr (let w = b.0 in omega (arith, w, le))) h.1, calls_below cs fs f.base (let w = b.0 in omega (arith, w, le)) b.1 h.2)
  calls_below _ _ base le b h = absurd h

  module _ (below : ℕ) (x : Name) (u : Ty) (choices : List Choice) (offset : ℕ) (chosen : chosen_at u choices ≡ Some (offset, t)) (fits : offset + cells_of t ≤ cells_of u) where
    abbrev pub new_content : Environment → Content
    new_content e = holds (with_part (value_held (content_of x e)) choices y)

    abbrev pub new_for : Environment → Environment
    new_for e = with_content x (new_content e) e

    -- the call whose variable it is
    held_here : (c : Call) (f : Frame) (fs : List Frame) → f.routine < length r.routines → look x (l.frames f.routine).variables ≡ Some u → a ≡ f.base + cell_named (l.frames f.routine) x + offset → CallHolds r l m c f fs → CallHolds r l m2 (with_environment c (new_for c.environment)) f fs
    held_here c f fs there known at h =
        record {
          variables = λ n v e. variable n v e (same_name n x) refl;
          plain = λ n v q e d. plain n v q e (same_name n x) refl d;
          references = λ n v e.
              (let w = h.references n v e in
              (w.0, content_there n x (new_content c.environment) c.environment ((apart f.routine there).different n x v u e known) ∙ w.1, subst (λ rs. PlaceAt r l fs w.0 v (reference_at rs (f.references + cell_named (l.frames f.routine) n))) (sym writes.references) w.2));
        }
      where
        plain : (n : Name) (v : Ty) (q : Place) → look n (l.frames f.routine).variables ≡ Some v → (b : Bool) → same_name n x ≡ b → content_of n (new_for c.environment) ≡ Some (refers q) → ⊥
        plain n v q e true s d = (let w = content_here n x (new_content c.environment) c.environment s in cc)
        plain n v q e false s d = h.plain n v q e (sym (content_there n x (new_content c.environment) c.environment s) ∙ d)

        written : LiesAt m2 u (with_part (value_held (content_of x c.environment)) choices y) (Local (f.base + cell_named (l.frames f.routine) x))
        written = block_new m m2 u (value_held (content_of x c.environment)) (Local (f.base + cell_named (l.frames f.routine) x)) choices offset t y (subst (λ w. WritesBlock m m2 (Local w) (encode y)) at writes) (h.variables x u known) chosen typed

        variable : (n : Name) (v : Ty) → look n (l.frames f.routine).variables ≡ Some v → (b : Bool) → same_name n x ≡ b → LiesAt m2 v (value_held (content_of n (new_for c.environment))) (Local (f.base + cell_named (l.frames f.routine) n))
        variable n v e true s =
            let ex : n ≡ x = (bytes_eq-Decides n x).0 s in
            let et : v ≡ u = some_same v u (sym e ∙ (ap (λ w. look w (l.frames f.routine).variables) ex ∙ known)) in
            subst (λ (o : Option Content). LiesAt m2 v (value_held o) (Local (f.base + cell_named (l.frames f.routine) n))) (sym (content_here n x (new_content c.environment) c.environment s))
            (subst (λ w. LiesAt m2 w (with_part (value_held (content_of x c.environment)) choices y) (Local (f.base + cell_named (l.frames f.routine) n))) (sym et)
            (subst (λ w. LiesAt m2 u (with_part (value_held (content_of x c.environment)) choices y) (Local (f.base + cell_named (l.frames f.routine) w))) (sym ex) written))
        variable n v e false s =
            subst (λ (o : Option Content). LiesAt m2 v (value_held o) (Local (f.base + cell_named (l.frames f.routine) n))) (sym (content_there n x (new_content c.environment) c.environment s))
            (block_kept m m2 (Local a) (encode y) v (value_held (content_of n c.environment)) (Local (f.base + cell_named (l.frames f.routine) n)) writes (h.variables n v e) (λ k i less small d. other k i less small (local_is _ _ d) ((apart f.routine there).apart n x v u s e known)))
          where
            other : (k i : ℕ) → k < cells_of v → i < length (encode y) → f.base + cell_named (l.frames f.routine) n + k ≡ a + i → (cell_named (l.frames f.routine) n + cells_of v ≤ cell_named (l.frames f.routine) x) ⊎ (cell_named (l.frames f.routine) x + cells_of u ≤ cell_named (l.frames f.routine) n) → ⊥
            other k i less small e (inl o) = omega (arith, o, less, e, at)
            other k i less small e (inr o) = (let len = encode_length t y typed in omega (arith, o, less, small, e, at, fits, len))

    -- a frame of an open call has a routine
    routine_above : (cs : List Call) (fs : List Frame) (f : Frame) → CallsHold r l m cs fs → frame_above fs below ≡ Some f → f.routine < length r.routines
    routine_above [] [] f h e = absurd (cc)
    routine_above (c ∷ cs) (g ∷ fs) f h e = go (length fs == below) (routine_above cs fs f h.2) e
      where
        go : (b : Bool) → (frame_above fs below ≡ Some f → f.routine < length r.routines) → (if b then Some g else frame_above fs below) ≡ Some f → f.routine < length r.routines
        go true ih d = subst (λ (n : Frame). n.routine < length r.routines) (frame_is g f d) h.0.routine
        go false ih d = ih d
    routine_above _ _ f h e = absurd h

    -- all calls, of which one is written
    pub calls_with_block : (cs : List Call) (fs : List Frame) (f : Frame) → frame_above fs below ≡ Some f → look x (l.frames f.routine).variables ≡ Some u → a ≡ f.base + cell_named (l.frames f.routine) x + offset → FramesApart size fs → CallsHold r l m cs fs →
        CallsHold r l m2 (with_call_environment cs below (new_for (call_above cs below).environment)) fs
    calls_with_block [] [] f e known at below_them h = absurd (cc)
    calls_with_block (c ∷ cs) (g ∷ fs) f e known at below_them h =
        subst (λ n. CallsHold r l m2 (if n == below then with_environment c (new_for (if n == below then c else call_above cs below).environment) ∷ cs else c ∷ with_call_environment cs below (new_for (if n == below then c else call_above cs below).environment)) (g ∷ fs)) (sym (calls_frames r l m cs fs h.2))
        (go (length fs == below) (λ d. calls_with_block cs fs f d known at (apart_below size g.base fs below_them) h.2) e)
      where
        go : (b : Bool) → (frame_above fs below ≡ Some f → CallsHold r l m2 (with_call_environment cs below (new_for (call_above cs below).environment)) fs) → (if b then Some g else frame_above fs below) ≡ Some f →
            CallsHold r l m2 (if b then with_environment c (new_for (if b then c else call_above cs below).environment) ∷ cs else c ∷ with_call_environment cs below (new_for (if b then c else call_above cs below).environment)) (g ∷ fs)
        go true ih d =
            let same : g ≡ f = frame_is g f d in
            let known_here : look x (l.frames g.routine).variables ≡ Some u = subst (λ (n : Frame). look x (l.frames n.routine).variables ≡ Some u) (sym same) known in
            let at_here : a ≡ g.base + cell_named (l.frames g.routine) x + offset = subst (λ (n : Frame). a ≡ n.base + cell_named (l.frames n.routine) x + offset) (sym same) at in (
              record { routine = h.0.routine; component = h.0.component; there = h.0.there; own = h.0.own; owner = h.0.owner; scope = h.0.scope },
              held_here c g fs h.0.routine known_here at_here h.1,
              calls_below cs fs g.base (omega (arith, at_here)) below_them h.2,
            )
        go false ih d =
            let w = below_in size g.base below fs f below_them d in
            let i = (apart f.routine (routine_above cs fs f h.2 d)).inside x u known in
            (h.0, held_elsewhere c g fs h.0.routine (inl (omega (arith, w, i, at, fits))) h.1, ih d)
    calls_with_block _ _ f e known at below_them h = absurd h
