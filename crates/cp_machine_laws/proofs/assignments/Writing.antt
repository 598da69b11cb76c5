-- One cell that is written, a name that has another content, and variables of components that are apart.
use Rattle.std.proofs.Common.{◌≡◌, ◌≢◌, ◌∙◌, ℕ, ◌+◌, ◌<◌, ◌≤◌, ◌⊎◌, inl, inr, Bool, true, false, if◌then◌else◌, List, [], ◌∷◌, Option, Some, None, ap, sym, refl, arith, length, length-set}
use Rattle.cp_machine_laws.proofs.Words.{ℤ, pos, cases_lt, bytes_eq-Decides, Tables, component_at, Address, Permanent, Local, HasCells, Memory, cell_at}
use Rattle.cp_machine_laws.proofs.Words.{put_number, Name, same_name, Ty, Content, Environment, Component}
use Rattle.cp_machine_laws.proofs.Words.{content_of, with_content, value_held, cells_of, Layouts, look, further, LiesAt}
use Rattle.cp_meaning.specs.State as named
use Rattle.cp_machine_laws.proofs.control.Moving.{set_here, set_there}

-- ---- one cell

pub record WritesCell (m m2 : Memory) (a : Address) (z : ℤ) : Type 0 where
  pub here : cell_at m2 a ≡ z
  pub there : (b : Address) → b ≢ a → cell_at m2 b ≡ cell_at m b
  pub permanents : length m2.permanents ≡ length m.permanents
  pub cells : length m2.cells ≡ length m.cells
  pub references : m2.references ≡ m.references

pub put_writes : (m : Memory) (a : Address) (z : ℤ) → HasCells m a 1 → WritesCell m (put_number m a z) a z
put_writes m (Permanent n) z h =
    record {
      here = set_here m.permanents n z (pos 0) (omega (arith, h));
      there = elsewhere;
      permanents = length-set m.permanents n z;
      cells = refl;
      references = refl;
    }
  where
    elsewhere : (b : Address) → b ≢ Permanent n → cell_at (put_number m (Permanent n) z) b ≡ cell_at m b
    elsewhere (Permanent k) d = set_there m.permanents n k z (pos 0) (λ e. d (ap Permanent e))
    elsewhere (Local k) d = refl
put_writes m (Local n) z h =
    record {
      here = set_here m.cells n z (pos 0) (omega (arith, h));
      there = elsewhere;
      permanents = refl;
      cells = length-set m.cells n z;
      references = refl;
    }
  where
    elsewhere : (b : Address) → b ≢ Local n → cell_at (put_number m (Local n) z) b ≡ cell_at m b
    elsewhere (Permanent k) d = refl
    elsewhere (Local k) d = set_there m.cells n k z (pos 0) (λ e. d (ap Local e))

pub further_apart : (a : Address) (k n : ℕ) → k ≢ n → further a k ≢ further a n
further_apart (Permanent j) k n d e = (let s : j + k ≡ j + n = cc in d (omega (arith, s)))
further_apart (Local j) k n d e = (let s : j + k ≡ j + n = cc in d (omega (arith, s)))

pub side : (i o : ℕ) → i ≢ o → (i < o) ⊎ (o < i)
side i o d = go (cases_lt i o)
  where
    go : (i < o) ⊎ (o ≤ i) → (i < o) ⊎ (o < i)
    go (inl l) = inl l
    go (inr l) = inr (omega (arith, l, d))

-- ---- environments

pub content_here : (x y : Name) (c : Content) (e : Environment) → same_name x y ≡ true → content_of x (with_content y c e) ≡ Some c
content_here x y c [] h = ap (λ (b : Bool). if b then Some c else None) h
content_here x y c (d ∷ e) h = go (same_name y d.0) refl (content_here x y c e h)
  where
    go : (b : Bool) → same_name y d.0 ≡ b → content_of x (with_content y c e) ≡ Some c → content_of x (if b then (d.0, c) ∷ e else d ∷ with_content y c e) ≡ Some c
    go true s ih = ap (λ (b : Bool). if b then Some c else content_of x e) (ap (λ n. same_name n d.0) ((bytes_eq-Decides x y).0 h) ∙ s)
    go false s ih = ap (λ (b : Bool). if b then Some d.1 else content_of x (with_content y c e)) (ap (λ n. same_name n d.0) ((bytes_eq-Decides x y).0 h) ∙ s) ∙ ih

pub content_there : (x y : Name) (c : Content) (e : Environment) → same_name x y ≡ false → content_of x (with_content y c e) ≡ content_of x e
content_there x y c [] h = ap (λ (b : Bool). if b then Some c else None) h
content_there x y c (d ∷ e) h = go (same_name y d.0) refl (content_there x y c e h)
  where
    go : (b : Bool) → same_name y d.0 ≡ b → content_of x (with_content y c e) ≡ content_of x e → content_of x (if b then (d.0, c) ∷ e else d ∷ with_content y c e) ≡ content_of x (d ∷ e)
    go true s ih =
        let f : same_name x d.0 ≡ false = ap (same_name x) (sym ((bytes_eq-Decides y d.0).0 s)) ∙ h in
        ap (λ (b : Bool). if b then Some c else content_of x e) f ∙ sym (ap (λ (b : Bool). if b then Some d.1 else content_of x e) f)
    go false s ih = ap (λ (o : Option Content). if same_name x d.0 then Some d.1 else o) ih

-- ---- the components after a permanent variable is written

-- what each variable of each component has
abbrev pub ComponentsLie : Tables → Layouts → List Component → Memory → Type 0
ComponentsLie r l cs m = (n : ℕ) (x : Name) (t : Ty) → n < length r.components → look x (l.systems (component_at r n).system).variables ≡ Some t →
    LiesAt m t (value_held (content_of x (named.component_at cs n).environment)) (Permanent ((component_at r n).base + (l.systems (component_at r n).system).slots x))

-- variables of different names or components have different cells
abbrev pub ComponentsApart : Tables → Layouts → Type 0
ComponentsApart r l = (n k : ℕ) (x y : Name) (t u : Ty) → n < length r.components → k < length r.components → look x (l.systems (component_at r n).system).variables ≡ Some t → look y (l.systems (component_at r k).system).variables ≡ Some u →
    ((n ≡ k) × (same_name x y ≡ true)) ⊎
    (((n ≢ k) ⊎ (same_name x y ≡ false)) × ((i j : ℕ) → i < cells_of t → j < cells_of u → (component_at r n).base + (l.systems (component_at r n).system).slots x + i ≢ (component_at r k).base + (l.systems (component_at r k).system).slots y + j))
