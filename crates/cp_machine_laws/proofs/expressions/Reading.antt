-- What a process reads in its frame is what the view of it sees.
use Rattle.std.proofs.Common.{◌≡◌, ◌∙◌, ℕ, suc, ◌+◌, ◌<◌, ◌≤◌, ◌==◌, Bool, true, false, if◌then◌else◌, List, [], ◌∷◌, Option, Some, None, ap, sym, refl, subst, arith, length}
use Rattle.cp_machine_laws.proofs.Words.{Tables, component_at, Address, Permanent, Local, Frame, HasCells, Memory, cell_at, Name, Ty, Value, Choice, part_at}
use Rattle.cp_machine_laws.proofs.Words.{Holder, in_call, in_component, Place, Call, View, content_of, value_held, call_above, environment_of, value_at, cells_of}
use Rattle.cp_machine_laws.proofs.Words.{Layouts, cell_named, look, encode, Chosen, chosen_at, further, LiesAt, frame_above, InFrame, BeginsAt, PlaceAt, CallsHold}
use Rattle.cp_meaning.specs.State as named
use Rattle.cp_machine_laws.proofs.expressions.Parts.{encode_length, part_stands}

-- ---- parts

pub further_further : (a : Address) (n k : ℕ) → further (further a n) k ≡ further a (n + k)
further_further (Permanent j) n k = let e : (j + n) + k ≡ j + (n + k) = omega arith in cc
further_further (Local j) n k = let e : (j + n) + k ≡ j + (n + k) = omega arith in cc

has_further : (m : Memory) (a : Address) (all offset some : ℕ) → offset + some ≤ all → HasCells m a all → HasCells m (further a offset) some
has_further m (Permanent j) all offset some le h = omega (arith, le, h)
has_further m (Local j) all offset some le h = omega (arith, le, h)

-- a part lies as many cells further on as its choices lead
pub part_lies : (m : Memory) (t : Ty) (w : Value) (a : Address) (cs : List Choice) (c : Chosen) → LiesAt m t w a → chosen_at t cs ≡ Some c → LiesAt m c.1 (part_at w cs) (further a c.0)
part_lies m t w a cs c h e =
    let k = part_stands t w cs c h.typed e in
    let n = encode_length t w h.typed in
    let u = encode_length c.1 (part_at w cs) k.typed in
    record {
      typed = k.typed;
      cells = has_further m a (cells_of t) c.0 (cells_of c.1) (let i = k.inside in omega (arith, i, n)) h.cells;
      block = λ j less.
          (let i = k.inside in
          let within : c.0 + j < length (encode w) = omega (arith, i, u) in
          let within_part : j < cells_of c.1 = omega (arith, u) in
          ap (cell_at m) (further_further a c.0 j) ∙ (h.block (c.0 + j) within ∙ k.same j within_part));
    }

-- ---- variables of open calls

-- there are as many frames as calls
pub calls_frames : (r : Tables) (l : Layouts) (m : Memory) (cs : List Call) (fs : List Frame) → CallsHold r l m cs fs → length cs ≡ length fs
calls_frames r l m [] [] h = refl
calls_frames r l m (c ∷ cs) (f ∷ fs) h = ap suc (calls_frames r l m cs fs h.2)
calls_frames r l m _ _ h = absurd h

pub frame_same : (f g : Frame) → Some f ≡ Some g → f ≡ g
frame_same f g e = cc

-- the call and the frame that have as many below them
pub held_above : (r : Tables) (l : Layouts) (m : Memory) (cs : List Call) (fs : List Frame) (below : ℕ) (f : Frame) (x : Name) (t : Ty) → CallsHold r l m cs fs → frame_above fs below ≡ Some f → look x (l.frames f.routine).variables ≡ Some t →
    LiesAt m t (value_held (content_of x (call_above cs below).environment)) (Local (f.base + cell_named (l.frames f.routine) x))
held_above r l m [] [] below f x t h e k = absurd (cc)
held_above r l m (c ∷ cs) (g ∷ fs) below f x t h e k =
    subst (λ n. LiesAt m t (value_held (content_of x (if n == below then c else call_above cs below).environment)) (Local (f.base + cell_named (l.frames f.routine) x))) (sym (calls_frames r l m cs fs h.2))
    (go (length fs == below) (λ d. held_above r l m cs fs below f x t h.2 d k) e)
  where
    go : (b : Bool) → (frame_above fs below ≡ Some f → LiesAt m t (value_held (content_of x (call_above cs below).environment)) (Local (f.base + cell_named (l.frames f.routine) x))) → (if b then Some g else frame_above fs below) ≡ Some f → LiesAt m t (value_held (content_of x (if b then c else call_above cs below).environment)) (Local (f.base + cell_named (l.frames f.routine) x))
    go true ih d =
        let same = frame_same g f d in
        subst (λ (y : Frame). LiesAt m t (value_held (content_of x c.environment)) (Local (y.base + cell_named (l.frames y.routine) x))) same (h.1.variables x t (subst (λ (y : Frame). look x (l.frames y.routine).variables ≡ Some t) (sym same) k))
    go false ih d = ih d
held_above r l m _ _ below f x t h e k = absurd h

-- ---- places

-- what all frames and components have, in one memory
pub record AllLie (r : Tables) (l : Layouts) (fs : List Frame) (v : View) (m : Memory) : Type 0 where
  pub calls : CallsHold r l m v.calls fs
  pub components : (n : ℕ) (x : Name) (t : Ty) → n < length r.components → look x (l.systems (component_at r n).system).variables ≡ Some t →
      LiesAt m t (value_held (content_of x (named.component_at v.components n).environment)) (Permanent ((component_at r n).base + (l.systems (component_at r n).system).slots x))

module _ (r : Tables) (l : Layouts) (fs : List Frame) (v : View) (m : Memory) (all : AllLie r l fs v m) where
  whole_lies : (h : Holder) (x : Name) (t : Ty) (a : Address) → BeginsAt r l fs h x t a → LiesAt m t (value_held (content_of x (environment_of v h))) a
  whole_lies (in_component n) x t a b = subst (LiesAt m t (value_held (content_of x (named.component_at v.components n).environment))) (sym b.address) (all.components n x t b.there b.known)
  whole_lies (in_call below) x t a b = go (frame_above fs below) refl b
    where
      go : (o : Option Frame) → frame_above fs below ≡ o → InFrame l o x t a → LiesAt m t (value_held (content_of x (call_above v.calls below).environment)) a
      go None e b = absurd b
      go (Some f) e b = subst (LiesAt m t (value_held (content_of x (call_above v.calls below).environment))) (sym b.1) (held_above r l m v.calls fs below f x t all.calls e b.0)

  -- what stands at a place lies at its address: a field of what a process sees
  pub place_lies : (q : Place) (t : Ty) (a : Address) → PlaceAt r l fs q t a → LiesAt m t (value_at v q) a
  place_lies q t a p =
      subst (LiesAt m t (value_at v q)) (sym p.address)
      (part_lies m p.whole (value_held (content_of q.name (environment_of v q.holder))) p.first q.choices (p.offset, t) (whole_lies q.holder q.name p.whole p.first p.begins) p.chosen)
