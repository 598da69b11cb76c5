-- What is written leaves the number of cells and references, and with it what is there.
use Rattle.std.proofs.Common.{◌≡◌, ◌∙◌, ℕ, zero, suc, ◌+◌, ◌^◌, ◌<◌, ◌≤◌, List, [], ◌∷◌, length, ap, refl, sym, subst, arith}
use Rattle.std.specs.Prelude.{ℤ, ◌/◌, ◌%◌}
use Rattle.std.specs.Int.{cast_signed, w16}
use Rattle.std.proofs.lemmas.List.{length-set}
use Rattle.cp_slots.specs.declared.place.Argument.{Argument}
use Rattle.cp_slots.specs.Inside.{SET_CELLS}
use Rattle.cp_store.specs.declared.argument.Bound.{Bound}
use Rattle.cp_store.specs.declared.argument.Bound.TheVariants.{Scalar, Set, Copy, Reference, Component}
use Rattle.cp_store.specs.declared.memory.Address.{Address}
use Rattle.cp_store.specs.declared.memory.Address.TheVariants.{Permanent, Local}
use Rattle.cp_store.specs.declared.memory.Frame.{Frame}
use Rattle.cp_store.specs.declared.set.SetValue.{SetValue}
use Rattle.cp_store.specs.Arguments.{put_binding, put_in_frame, put_value}
use Rattle.cp_store.specs.Inside.{AllFitComponent, AllFitFrame, FitsComponent, FitsFrame, HasBound, HasCells}
use Rattle.cp_store.specs.Memory.{Memory, cell_at, address_onward, onward, put_copy, put_number}
use Rattle.cp_store.specs.Sets.{put_pair, put_quad, put_set, put_word}

-- ---- a value that is written leaves the number of cells, and the references

pub record Alike (x y : Memory) : Type 0 where
  pub permanents : length x.permanents ≡ length y.permanents
  pub cells : length x.cells ≡ length y.cells
  pub references : x.references ≡ y.references

pub alike_same : (x : Memory) → Alike x x
alike_same x = record { permanents = refl; cells = refl; references = refl }

pub alike_both : (x y z : Memory) → Alike x y → Alike y z → Alike x z
alike_both x y z k l = record { permanents = k.permanents ∙ l.permanents; cells = k.cells ∙ l.cells; references = k.references ∙ l.references }

pub alike_number : (x : Memory) (at : Address) (v : ℤ) → Alike (put_number x at v) x
alike_number x (Permanent n) v = record { permanents = length-set x.permanents n v; cells = refl; references = refl }
alike_number x (Local n) v = record { permanents = refl; cells = length-set x.cells n v; references = refl }

pub alike_pair : (x : Memory) (at : Address) (members : ℕ) → Alike (put_pair x at members) x
alike_pair x at members =
    let y = put_word x at (members % 2 ^ 16) in
    alike_both _ y x (alike_number y (address_onward at 1) (cast_signed w16 (members / 2 ^ 16))) (alike_number x at (cast_signed w16 (members % 2 ^ 16)))

pub alike_quad : (x : Memory) (at : Address) (members : ℕ) → Alike (put_quad x at members) x
alike_quad x at members =
    let y = put_pair x at (members % 2 ^ 32) in
    alike_both _ y x (alike_pair y (address_onward at 2) (members / 2 ^ 32)) (alike_pair x at (members % 2 ^ 32))

pub alike_set : (x : Memory) (at : Address) (s : SetValue) → Alike (put_set x at s) x
alike_set x at s =
    let y = put_quad x at (s.members % 2 ^ 64) in
    alike_both _ y x (alike_quad y (address_onward at 4) (s.members / 2 ^ 64)) (alike_quad x at (s.members % 2 ^ 64))

pub alike_copy : (x : Memory) (to from : Address) (n : ℕ) → Alike (put_copy x to from n) x
alike_copy x to from zero = alike_same x
alike_copy x to from (suc n) =
    let y = put_copy x to from n in
    alike_both _ y x (alike_number y (address_onward to n) (cell_at y (address_onward from n))) (alike_copy x to from n)

pub alike_value : (x : Memory) (at : Address) (b : Bound) → Alike (put_value x at b) x
alike_value x at (Scalar z) = alike_number x at z
alike_value x at (Set s) = alike_set x at s
alike_value x at (Copy from n) = alike_copy x at from n
alike_value x at (Reference place) = alike_same x
alike_value x at (Component number) = alike_same x

pub has_more : (x y : Memory) (at : Address) (cells : ℕ) → length x.permanents ≤ length y.permanents → length x.cells ≤ length y.cells → HasCells x at cells → HasCells y at cells
has_more x y (Permanent number) cells p c h = omega (arith, h, p)
has_more x y (Local number) cells p c h = omega (arith, h, c)

pub has_alike : (x y : Memory) (at : Address) (cells : ℕ) → Alike y x → HasCells x at cells → HasCells y at cells
has_alike x y at cells like h = has_more x y at cells (omega (arith, like.permanents)) (omega (arith, like.cells)) h

-- one of the cells that are copied, or that are copied to, while they are
pub copied_has : (m x : Memory) (to from at : Address) (size done : ℕ) → x ≡ put_copy m to from done → done < size → HasCells m at size → HasCells x (address_onward at done) 1
copied_has m x to from at size done is lt h = subst (λ y. HasCells y (address_onward at done) 1) (sym is) (there at (has_alike m (put_copy m to from done) at size (alike_copy m to from done) h))
  where
    there : (at : Address) → HasCells (put_copy m to from done) at size → HasCells (put_copy m to from done) (address_onward at done) 1
    there (Permanent number) h = omega (arith, h, lt)
    there (Local number) h = omega (arith, h, lt)

-- ---- what fits

bound_alike : (x y : Memory) (at : Address) (b : Bound) → length x.permanents ≤ length y.permanents → length x.cells ≤ length y.cells → HasBound x at b → HasBound y at b
bound_alike x y at (Scalar z) p c h = has_more x y at 1 p c h
bound_alike x y at (Set s) p c h = has_more x y at SET_CELLS p c h
bound_alike x y at (Copy from size) p c h = (has_more x y at size p c h.0, has_more x y from size p c h.1)
bound_alike x y at (Reference place) p c h = absurd h
bound_alike x y at (Component number) p c h = absurd h

-- the memory has as many cells and references
pub record AsLarge (x y : Memory) : Type 0 where
  pub permanents : length x.permanents ≡ length y.permanents
  pub cells : length x.cells ≡ length y.cells
  pub references : length x.references ≡ length y.references

as_large : (x y : Memory) → Alike y x → AsLarge x y
as_large x y like = record { permanents = sym like.permanents; cells = sym like.cells; references = ap (λ l. length l) (sym like.references) }

module _ (x y : Memory) (large : AsLarge x y) where
  bound_stays : (at : Address) (b : Bound) → HasBound x at b → HasBound y at b
  bound_stays at b h = bound_alike x y at b (omega (arith, large.permanents)) (omega (arith, large.cells)) h

  frame_stays : (f : Frame) (slot : ℕ) (b : Bound) → FitsFrame x f slot b → FitsFrame y f slot b
  frame_stays f slot (Scalar z) h = bound_stays (Local (f.base + slot)) (Scalar z) h
  frame_stays f slot (Set s) h = bound_stays (Local (f.base + slot)) (Set s) h
  frame_stays f slot (Copy from size) h = bound_stays (Local (f.base + slot)) (Copy from size) h
  frame_stays f slot (Reference place) h = omega (arith, h, large.references)
  frame_stays f slot (Component number) h = absurd h

  pub frames_stay : (f : Frame) (xs : List Argument) (bs : List Bound) → AllFitFrame x f xs bs → AllFitFrame y f xs bs
  frames_stay f [] bs h = tt
  frames_stay f (a ∷ xs) [] h = absurd h
  frames_stay f (a ∷ xs) (b ∷ bs) h = (frame_stays f a.slot b h.0, frames_stay f xs bs h.1)

  module _ (bindings further : List ℕ) (long : length bindings ≡ length further) where
    component_stays : (base slot : ℕ) (b : Bound) → FitsComponent x bindings base slot b → FitsComponent y further base slot b
    component_stays base slot (Scalar z) h = bound_stays (Permanent (base + slot)) (Scalar z) h
    component_stays base slot (Set s) h = bound_stays (Permanent (base + slot)) (Set s) h
    component_stays base slot (Copy from size) h = bound_stays (Permanent (base + slot)) (Copy from size) h
    component_stays base slot (Reference place) h = absurd h
    component_stays base slot (Component number) h = omega (arith, h, long)

    pub components_stay : (base : ℕ) (xs : List Argument) (bs : List Bound) → AllFitComponent x bindings base xs bs → AllFitComponent y further base xs bs
    components_stay base [] bs h = tt
    components_stay base (a ∷ xs) [] h = absurd h
    components_stay base (a ∷ xs) (b ∷ bs) h = (component_stays base a.slot b h.0, components_stay base xs bs h.1)

pub large_in_frame : (x : Memory) (f : Frame) (slot : ℕ) (b : Bound) → AsLarge x (put_in_frame x f slot b)
large_in_frame x f slot (Scalar z) = as_large x _ (alike_value x (Local (onward f.base slot)) (Scalar z))
large_in_frame x f slot (Set s) = as_large x _ (alike_value x (Local (onward f.base slot)) (Set s))
large_in_frame x f slot (Copy from size) = as_large x _ (alike_value x (Local (onward f.base slot)) (Copy from size))
large_in_frame x f slot (Reference place) = record { permanents = refl; cells = refl; references = sym (length-set x.references (onward f.references slot) place) }
large_in_frame x f slot (Component number) = as_large x x (alike_same x)

pub large_value : (x : Memory) (at : Address) (b : Bound) → AsLarge x (put_value x at b)
large_value x at b = as_large x _ (alike_value x at b)

pub as_many_bindings : (bindings : List ℕ) (number : ℕ) (b : Bound) → length bindings ≡ length (put_binding bindings number b)
as_many_bindings bindings number (Scalar z) = refl
as_many_bindings bindings number (Set s) = refl
as_many_bindings bindings number (Copy from size) = refl
as_many_bindings bindings number (Reference place) = refl
as_many_bindings bindings number (Component component) = sym (length-set bindings number component)
