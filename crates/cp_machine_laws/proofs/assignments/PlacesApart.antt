-- Two places of one type are the same or have no cell in common, whether they are of open calls or of components.
use Rattle.std.proofs.Common.{◌≡◌, ◌≢◌, ◌∙◌, ℕ, ◌+◌, ◌<◌, ◌≤◌, ◌==◌, ◌⊎◌, inl, inr, Bool, true, false, if◌then◌else◌, List, [], ◌∷◌, Option, Some, None, ap, sym, refl, subst, arith, length}
use Rattle.cp_machine_laws.proofs.Words.{some_same, eqb-true, bytes_eq-Decides, Tables, component_at, Address, Permanent, Local, Frame, Memory, Name, same_name, Ty, Choice}
use Rattle.cp_machine_laws.proofs.Words.{Holder, in_call, in_component, Place, Call, View, content_of, value_held, call_above, cells_of, Layouts, cell_named, look}
use Rattle.cp_machine_laws.proofs.Words.{chosen_at, further, LiesAt, frame_above, InFrame, BeginsAt, PlaceAt, CallsHold}
use Rattle.cp_meaning.specs.State as named
use Rattle.cp_machine_laws.proofs.control.Moving.{same_or_other}
use Rattle.cp_machine_laws.proofs.assignments.Overlaps.{SameOrApart, part_ends, parts_apart}
use Rattle.cp_machine_laws.proofs.expressions.Reading.{AllLie, held_above, frame_same as frame_is}
use Rattle.cp_machine_laws.proofs.assignments.Writing.{ComponentsApart}
use Rattle.cp_machine_laws.proofs.assignments.BlocksInCalls.{FrameApart, FramesApart, below_in, apart_below}

-- ---- frames

frames_beside : (size : ℕ → ℕ) (fs : List Frame) (b c : ℕ) (f g : Frame) → FramesApart size fs → b ≢ c → frame_above fs b ≡ Some f → frame_above fs c ≡ Some g → (f.base + size f.routine ≤ g.base) ⊎ (g.base + size g.routine ≤ f.base)
frames_beside size [] b c f g apart other e d = absurd (cc)
frames_beside size (x ∷ fs) b c f g apart other e d = go (length fs == b) (length fs == c) refl refl (λ i j. frames_beside size fs b c f g (apart_below size x.base fs apart) other i j) e d
  where
    go : (p q : Bool) → (length fs == b) ≡ p → (length fs == c) ≡ q → (frame_above fs b ≡ Some f → frame_above fs c ≡ Some g → (f.base + size f.routine ≤ g.base) ⊎ (g.base + size g.routine ≤ f.base)) →
        (if p then Some x else frame_above fs b) ≡ Some f → (if q then Some x else frame_above fs c) ≡ Some g → (f.base + size f.routine ≤ g.base) ⊎ (g.base + size g.routine ≤ f.base)
    go true true i j ih e d = absurd (other (sym (eqb-true (length fs) b i) ∙ eqb-true (length fs) c j))
    go true false i j ih e d = inr (subst (λ (y : Frame). g.base + size g.routine ≤ y.base) (frame_is x f e) (below_in size x.base c fs g apart d))
    go false true i j ih e d = inl (subst (λ (y : Frame). f.base + size f.routine ≤ y.base) (frame_is x g d) (below_in size x.base b fs f apart e))
    go false false i j ih e d = ih e d

-- a frame of an open call has a routine
pub routine_there : (r : Tables) (l : Layouts) (m : Memory) (below : ℕ) (cs : List Call) (fs : List Frame) (f : Frame) → CallsHold r l m cs fs → frame_above fs below ≡ Some f → f.routine < length r.routines
routine_there r l m below [] [] f h e = absurd (cc)
routine_there r l m below (c ∷ cs) (g ∷ fs) f h e = go (length fs == below) (routine_there r l m below cs fs f h.2) e
  where
    go : (b : Bool) → (frame_above fs below ≡ Some f → f.routine < length r.routines) → (if b then Some g else frame_above fs below) ≡ Some f → f.routine < length r.routines
    go true ih d = subst (λ (n : Frame). n.routine < length r.routines) (frame_is g f d) h.0.routine
    go false ih d = ih d
routine_there r l m below _ _ f h e = absurd h

-- ---- numbers of cells

local_apart : (a b o j n : ℕ) → (a + o + n ≤ b + j) ⊎ (b + j + n ≤ a + o) → SameOrApart (further (Local a) o) (further (Local b) j) n
local_apart a b o j n (inl s) = inr (λ i k less small e. (let same : (a + o) + i ≡ (b + j) + k = cc in omega (arith, s, less, same)))
local_apart a b o j n (inr s) = inr (λ i k less small e. (let same : (a + o) + i ≡ (b + j) + k = cc in omega (arith, s, small, same)))

module _ (r : Tables) (l : Layouts) (fs : List Frame) (v : View) (m : Memory) (all : AllLie r l fs v m) (size : ℕ → ℕ) (apart : (n : ℕ) → n < length r.routines → FrameApart l size n) (frames : FramesApart size fs) (components : ComponentsApart r l) (t : Ty) where
  -- a part of a variable of an open call, and of a component
  abbrev first_local : Frame → Name → ℕ
  first_local f x = f.base + cell_named (l.frames f.routine) x

  abbrev first_permanent : ℕ → Name → ℕ
  first_permanent n x = (component_at r n).base + (l.systems (component_at r n).system).slots x

  local_lies : (b : ℕ) (f : Frame) (x : Name) (u : Ty) → frame_above fs b ≡ Some f → look x (l.frames f.routine).variables ≡ Some u → LiesAt m u (value_held (content_of x (call_above v.calls b).environment)) (Local (first_local f x))
  local_lies b f x u e k = held_above r l m v.calls fs b f x u all.calls e k

  two_local : (b c : ℕ) (f g : Frame) (x y : Name) (u w : Ty) (cs ds : List Choice) (o j : ℕ) → frame_above fs b ≡ Some f → frame_above fs c ≡ Some g → look x (l.frames f.routine).variables ≡ Some u → look y (l.frames g.routine).variables ≡ Some w →
      chosen_at u cs ≡ Some (o, t) → chosen_at w ds ≡ Some (j, t) → SameOrApart (further (Local (first_local f x)) o) (further (Local (first_local g y)) j) (cells_of t)
  two_local b c f g x y u w cs ds o j e d k i p q = by_call (same_or_other b c)
    where
      x_ends : o + cells_of t ≤ cells_of u
      x_ends = part_ends u (value_held (content_of x (call_above v.calls b).environment)) cs (o, t) (local_lies b f x u e k).typed p

      y_ends : j + cells_of t ≤ cells_of w
      y_ends = part_ends w (value_held (content_of y (call_above v.calls c).environment)) ds (j, t) (local_lies c g y w d i).typed q

      x_inside : cell_named (l.frames f.routine) x + cells_of u ≤ size f.routine
      x_inside = (apart f.routine (routine_there r l m b v.calls fs f all.calls e)).inside x u k

      y_inside : cell_named (l.frames g.routine) y + cells_of w ≤ size g.routine
      y_inside = (apart g.routine (routine_there r l m c v.calls fs g all.calls d)).inside y w i

      -- of one frame
      by_name : look y (l.frames f.routine).variables ≡ Some w → (z : Bool) → same_name x y ≡ z → SameOrApart (further (Local (first_local f x)) o) (further (Local (first_local f y)) j) (cells_of t)
      by_name i2 true s =
          let same : x ≡ y = (bytes_eq-Decides x y).0 s in
          let ty : w ≡ u = some_same w u (sym i2 ∙ (ap (λ n. look n (l.frames f.routine).variables) (sym same) ∙ k)) in
          subst (λ n. SameOrApart (further (Local (first_local f x)) o) (further (Local (first_local f n)) j) (cells_of t)) same
          (parts_apart m u (value_held (content_of x (call_above v.calls b).environment)) (Local (first_local f x)) cs ds o j t (local_lies b f x u e k) p (subst (λ n. chosen_at n ds ≡ Some (j, t)) ty q))
      by_name i2 false s = local_apart (first_local f x) (first_local f y) o j (cells_of t) (side ((apart f.routine (routine_there r l m b v.calls fs f all.calls e)).apart x y u w s k i2))
        where
          side : (cell_named (l.frames f.routine) x + cells_of u ≤ cell_named (l.frames f.routine) y) ⊎ (cell_named (l.frames f.routine) y + cells_of w ≤ cell_named (l.frames f.routine) x) → (first_local f x + o + cells_of t ≤ first_local f y + j) ⊎ (first_local f y + j + cells_of t ≤ first_local f x + o)
          side (inl n) = inl (omega (arith, n, x_ends))
          side (inr n) = inr (omega (arith, n, y_ends))

      by_call : (b ≡ c) ⊎ (b ≢ c) → SameOrApart (further (Local (first_local f x)) o) (further (Local (first_local g y)) j) (cells_of t)
      by_call (inl same) =
          let one : f ≡ g = frame_is f g (sym e ∙ (ap (frame_above fs) same ∙ d)) in
          subst (λ (n : Frame). SameOrApart (further (Local (first_local f x)) o) (further (Local (first_local n y)) j) (cells_of t)) one (by_name (subst (λ (n : Frame). look y (l.frames n.routine).variables ≡ Some w) (sym one) i) (same_name x y) refl)
      by_call (inr other) = local_apart (first_local f x) (first_local g y) o j (cells_of t) (side (frames_beside size fs b c f g frames other e d))
        where
          side : (f.base + size f.routine ≤ g.base) ⊎ (g.base + size g.routine ≤ f.base) → (first_local f x + o + cells_of t ≤ first_local g y + j) ⊎ (first_local g y + j + cells_of t ≤ first_local f x + o)
          side (inl n) = inl (omega (arith, n, x_ends, x_inside))
          side (inr n) = inr (omega (arith, n, y_ends, y_inside))

  permanent_lies : (n : ℕ) (x : Name) (u : Ty) → n < length r.components → look x (l.systems (component_at r n).system).variables ≡ Some u → LiesAt m u (value_held (content_of x (named.component_at v.components n).environment)) (Permanent (first_permanent n x))
  permanent_lies n x u there k = all.components n x u there k

  two_permanent : (n k : ℕ) (x y : Name) (u w : Ty) (cs ds : List Choice) (o j : ℕ) → n < length r.components → k < length r.components → look x (l.systems (component_at r n).system).variables ≡ Some u → look y (l.systems (component_at r k).system).variables ≡ Some w →
      chosen_at u cs ≡ Some (o, t) → chosen_at w ds ≡ Some (j, t) → SameOrApart (further (Permanent (first_permanent n x)) o) (further (Permanent (first_permanent k y)) j) (cells_of t)
  two_permanent n k x y u w cs ds o j a b e d p q = go (components n k x y u w a b e d)
    where
      x_ends : o + cells_of t ≤ cells_of u
      x_ends = part_ends u (value_held (content_of x (named.component_at v.components n).environment)) cs (o, t) (permanent_lies n x u a e).typed p

      y_ends : j + cells_of t ≤ cells_of w
      y_ends = part_ends w (value_held (content_of y (named.component_at v.components k).environment)) ds (j, t) (permanent_lies k y w b d).typed q

      go : ((n ≡ k) × (same_name x y ≡ true)) ⊎ (((n ≢ k) ⊎ (same_name x y ≡ false)) × ((i h : ℕ) → i < cells_of u → h < cells_of w → first_permanent n x + i ≢ first_permanent k y + h)) → SameOrApart (further (Permanent (first_permanent n x)) o) (further (Permanent (first_permanent k y)) j) (cells_of t)
      go (inl same) =
          let name : x ≡ y = (bytes_eq-Decides x y).0 same.1 in
          let ty : w ≡ u = some_same w u (sym d ∙ (ap (λ i. look y (l.systems (component_at r i).system).variables) (sym same.0) ∙ (ap (λ i. look i (l.systems (component_at r n).system).variables) (sym name) ∙ e))) in
          subst (λ i. SameOrApart (further (Permanent (first_permanent n x)) o) (further (Permanent (first_permanent i y)) j) (cells_of t)) same.0
          (subst (λ i. SameOrApart (further (Permanent (first_permanent n x)) o) (further (Permanent (first_permanent n i)) j) (cells_of t)) name
          (parts_apart m u (value_held (content_of x (named.component_at v.components n).environment)) (Permanent (first_permanent n x)) cs ds o j t (permanent_lies n x u a e) p (subst (λ i. chosen_at i ds ≡ Some (j, t)) ty q)))
      go (inr other) = inr (λ i h less small c. (let same : (first_permanent n x + o) + i ≡ (first_permanent k y + j) + h = cc in other.1 (o + i) (j + h) (omega (arith, less, x_ends)) (omega (arith, small, y_ends)) (omega (arith, same))))

  pub places_apart : (p q : Place) (a b : Address) → PlaceAt r l fs p t a → PlaceAt r l fs q t b → SameOrApart a b (cells_of t)
  places_apart p q a b h k =
      subst (λ c. SameOrApart c b (cells_of t)) (sym h.address) (subst (λ c. SameOrApart (further h.first h.offset) c (cells_of t)) (sym k.address) (by_holder p.holder q.holder h.begins k.begins))
    where
      both_local : (b c : ℕ) (o j : Option Frame) → frame_above fs b ≡ o → frame_above fs c ≡ j → InFrame l o p.name h.whole h.first → InFrame l j q.name k.whole k.first → SameOrApart (further h.first h.offset) (further k.first k.offset) (cells_of t)
      both_local b c None j e d i n = absurd i
      both_local b c (Some f) None e d i n = absurd n
      both_local b c (Some f) (Some g) e d i n =
          subst (λ x. SameOrApart (further x h.offset) (further k.first k.offset) (cells_of t)) (sym i.1)
          (subst (λ x. SameOrApart (further (Local (first_local f p.name)) h.offset) (further x k.offset) (cells_of t)) (sym n.1) (two_local b c f g p.name q.name h.whole k.whole p.choices q.choices h.offset k.offset e d i.0 n.0 h.chosen k.chosen))

      local_permanent : (o : Option Frame) (first : Address) (x : Name) (u : Ty) (n : ℕ) (z : Address) (i j : ℕ) → InFrame l o x u first → z ≡ Permanent n → SameOrApart (further first i) (further z j) (cells_of t)
      local_permanent None first x u n z i j e d = absurd e
      local_permanent (Some f) first x u n z i j e d = subst (λ w. SameOrApart (further w i) (further z j) (cells_of t)) (sym e.1) (subst (λ w. SameOrApart (further (Local (first_local f x)) i) (further w j) (cells_of t)) (sym d) (inr (λ c k less small same. cc)))

      permanent_local : (o : Option Frame) (first : Address) (x : Name) (u : Ty) (n : ℕ) (z : Address) (i j : ℕ) → InFrame l o x u first → z ≡ Permanent n → SameOrApart (further z j) (further first i) (cells_of t)
      permanent_local None first x u n z i j e d = absurd e
      permanent_local (Some f) first x u n z i j e d = subst (λ w. SameOrApart (further z j) (further w i) (cells_of t)) (sym e.1) (subst (λ w. SameOrApart (further w j) (further (Local (first_local f x)) i) (cells_of t)) (sym d) (inr (λ c k less small same. cc)))

      by_holder : (x y : Holder) → BeginsAt r l fs x p.name h.whole h.first → BeginsAt r l fs y q.name k.whole k.first → SameOrApart (further h.first h.offset) (further k.first k.offset) (cells_of t)
      by_holder (in_call b) (in_call c) i j = both_local b c (frame_above fs b) (frame_above fs c) refl refl i j
      by_holder (in_call b) (in_component n) i j = local_permanent (frame_above fs b) h.first p.name h.whole (first_permanent n q.name) k.first h.offset k.offset i j.address
      by_holder (in_component n) (in_call b) i j = permanent_local (frame_above fs b) k.first q.name k.whole (first_permanent n p.name) h.first k.offset h.offset j i.address
      by_holder (in_component n) (in_component c) i j =
          subst (λ x. SameOrApart (further x h.offset) (further k.first k.offset) (cells_of t)) (sym i.address)
          (subst (λ x. SameOrApart (further (Permanent (first_permanent n p.name)) h.offset) (further x k.offset) (cells_of t)) (sym j.address)
          (two_permanent n c p.name q.name h.whole k.whole p.choices q.choices h.offset k.offset i.there j.there i.known j.known h.chosen k.chosen))
