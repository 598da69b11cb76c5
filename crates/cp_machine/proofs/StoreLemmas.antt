-- Writes keep how many cells and references there are.
use Rattle.cp_machine.proofs.Words.{◌≡◌, ◌∙◌, ℕ, zero, suc, List, [], ◌∷◌, length, refl, length-set, Argument, Bound, Address, Permanent, Local, Frame, SetValue}
use Rattle.cp_machine.proofs.Words.{set_written, Memory, onward, address_onward, cell_at, put_number, put_copy}
use Rattle.std.specs.Prelude.{ℤ, ◌/◌, ◌%◌, ◌^◌}
use Rattle.std.specs.Int.{cast_signed, w16}
use Rattle.cp_store.specs.declared.argument.Bound.TheVariants.{Scalar, Set, Copy, Reference, Component}
use Rattle.cp_store.specs.Arguments.{put_value, put_in_frame, bind_frame, bind_component, put_binding, bindings_after}
use Rattle.cp_store.specs.Sets.{put_word, put_pair, put_quad, put_set}

-- as many cells and references
pub record Kept (x y : Memory) : Type 0 where
  pub permanents : length x.permanents ≡ length y.permanents
  pub cells : length x.cells ≡ length y.cells
  pub references : length x.references ≡ length y.references

kept_same : (x : Memory) → Kept x x
kept_same x = record { permanents = refl; cells = refl; references = refl }

kept_both : (x y z : Memory) → Kept x y → Kept y z → Kept x z
kept_both x y z k l = record { permanents = k.permanents ∙ l.permanents; cells = k.cells ∙ l.cells; references = k.references ∙ l.references }

pub kept_number : (x : Memory) (at : Address) (v : ℤ) → Kept (put_number x at v) x
kept_number x (Permanent n) v = record { permanents = length-set x.permanents n v; cells = refl; references = refl }
kept_number x (Local n) v = record { permanents = refl; cells = length-set x.cells n v; references = refl }

kept_word : (x : Memory) (at : Address) (members : ℕ) → Kept (put_word x at members) x
kept_word x at members = kept_number x at (cast_signed w16 members)

kept_pair : (x : Memory) (at : Address) (members : ℕ) → Kept (put_pair x at members) x
kept_pair x at members =
    let y = put_word x at (members % 2 ^ 16) in
    kept_both _ y x (kept_word y (address_onward at 1) (members / 2 ^ 16)) (kept_word x at (members % 2 ^ 16))

kept_quad : (x : Memory) (at : Address) (members : ℕ) → Kept (put_quad x at members) x
kept_quad x at members =
    let y = put_pair x at (members % 2 ^ 32) in
    kept_both _ y x (kept_pair y (address_onward at 2) (members / 2 ^ 32)) (kept_pair x at (members % 2 ^ 32))

kept_set_value : (x : Memory) (at : Address) (s : SetValue) → Kept (put_set x at s) x
kept_set_value x at s =
    let y = put_quad x at (s.members % 2 ^ 64) in
    kept_both _ y x (kept_quad y (address_onward at 4) (s.members / 2 ^ 64)) (kept_quad x at (s.members % 2 ^ 64))

pub kept_set : (x : Memory) (at : Address) (s : SetValue) → Kept (set_written x at s) x
unfolding set_written
kept_set x at s = kept_set_value x at s

pub kept_copy : (x : Memory) (to from : Address) (n : ℕ) → Kept (put_copy x to from n) x
kept_copy x to from zero = kept_same x
kept_copy x to from (suc n) =
    let y = put_copy x to from n in
    kept_both _ y x (kept_number y (address_onward to n) (cell_at y (address_onward from n))) (kept_copy x to from n)

kept_value : (x : Memory) (at : Address) (b : Bound) → Kept (put_value x at b) x
kept_value x at (Scalar z) = kept_number x at z
kept_value x at (Set s) = kept_set_value x at s
kept_value x at (Copy from n) = kept_copy x at from n
kept_value x at _ = kept_same x

kept_in_frame : (x : Memory) (f : Frame) (slot : ℕ) (b : Bound) → Kept (put_in_frame x f slot b) x
kept_in_frame x f slot (Reference place) = record { permanents = refl; cells = refl; references = length-set x.references (onward f.references slot) place }
kept_in_frame x f slot (Scalar z) = kept_value x (Local (onward f.base slot)) (Scalar z)
kept_in_frame x f slot (Set s) = kept_value x (Local (onward f.base slot)) (Set s)
kept_in_frame x f slot (Copy from n) = kept_value x (Local (onward f.base slot)) (Copy from n)
kept_in_frame x f slot (Component number) = kept_same x

pub kept_frame : (x : Memory) (f : Frame) (arguments : List Argument) (bs : List Bound) → Kept (bind_frame x f arguments bs) x
kept_frame x f [] bs = kept_same x
kept_frame x f (a ∷ arguments) [] = kept_same x
kept_frame x f (a ∷ arguments) (b ∷ bs) =
    let y = put_in_frame x f a.slot b in
    kept_both _ y x (kept_frame y f arguments bs) (kept_in_frame x f a.slot b)

pub kept_component : (x : Memory) (base : ℕ) (arguments : List Argument) (bs : List Bound) → Kept (bind_component x base arguments bs) x
kept_component x base [] bs = kept_same x
kept_component x base (a ∷ arguments) [] = kept_same x
kept_component x base (a ∷ arguments) (b ∷ bs) =
    let y = put_value x (Permanent (onward base a.slot)) b in
    kept_both _ y x (kept_component y base arguments bs) (kept_value x (Permanent (onward base a.slot)) b)

length_binding : (bindings : List ℕ) (number : ℕ) (b : Bound) → length (put_binding bindings number b) ≡ length bindings
length_binding bindings number (Component component) = length-set bindings number component
length_binding bindings number _ = refl

pub length-bindings : (bindings : List ℕ) (base : ℕ) (arguments : List Argument) (bs : List Bound) → length (bindings_after bindings base arguments bs) ≡ length bindings
length-bindings bindings base [] bs = refl
length-bindings bindings base (a ∷ arguments) [] = refl
length-bindings bindings base (a ∷ arguments) (b ∷ bs) =
    length-bindings (put_binding bindings (onward base a.slot) b) base arguments bs ∙ length_binding bindings (onward base a.slot) b
