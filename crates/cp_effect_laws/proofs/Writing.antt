-- What a process writes into its own cells is written under what is laid over others.
use Rattle.std.proofs.Common.{◌≡◌, ◌∙◌, ℕ, zero, suc, ◌+◌, ◌^◌, ◌<◌, ◌≤◌, Bool, List, [], ◌∷◌, length, ap, refl, arith}
use Rattle.std.specs.Prelude.{ℤ, pos, ◌/◌, ◌%◌}
use Rattle.std.specs.Int.{cast_signed, w16}
use Rattle.cp_slots.specs.declared.place.Argument.{Argument}
use Rattle.cp_store.specs.declared.argument.Bound.{Bound}
use Rattle.cp_store.specs.declared.argument.Bound.TheVariants.{Scalar, Set, Copy, Reference, Component}
use Rattle.cp_store.specs.declared.memory.Address.{Address}
use Rattle.cp_store.specs.declared.memory.Address.TheVariants.{Permanent, Local}
use Rattle.cp_store.specs.declared.memory.Frame.{Frame}
use Rattle.cp_store.specs.declared.set.SetValue.{SetValue}
use Rattle.cp_store.specs.Arguments.{bindings_after, bind_component, bind_frame, put_binding, put_in_frame, put_value}
use Rattle.cp_store.specs.Inside.{HasCells}
use Rattle.cp_store.specs.Memory.{Memory, cell_at, address_onward, onward, put_copy, put_number}
use Rattle.cp_store.specs.Sets as sets
use Rattle.cp_effect_laws.specs.Footprint.{overlaid}
use Rattle.cp_effect_laws.specs.Touches.{HasAt}
use Rattle.cp_effect_laws.proofs.Lying.{Lies}
use Rattle.cp_effect_laws.proofs.Overlays.{own_read, own_set}

-- a machine word numbers these cells
abbrev pub IsSmall : Address → (cells : ℕ) → Type 0
IsSmall (Permanent number) cells = number + cells < 2 ^ 64
IsSmall (Local number) cells = Unit {0}

-- own cells that a machine word numbers
pub record Spot (own : ℕ → Bool) (at : Address) (cells : ℕ) : Type 0 where
  pub own_cells : HasAt own at cells
  pub small : IsSmall at cells

small_of : (m : Memory) (at : Address) (cells : ℕ) → length m.permanents < 2 ^ 64 → HasCells m at cells → IsSmall at cells
small_of m (Permanent number) cells few h = omega (arith, few, h)
small_of m (Local number) cells few h = tt

pub spot_of : (own : ℕ → Bool) (m : Memory) (at : Address) (cells : ℕ) → length m.permanents < 2 ^ 64 → Lies own m at cells → Spot own at cells
spot_of own m at cells few h = record { own_cells = h.own_cells; small = small_of m at cells few h.there }

further_has : (own : ℕ → Bool) (at : Address) (further cells : ℕ) → IsSmall at (further + cells) → HasAt own at (further + cells) → HasAt own (address_onward at further) cells
further_has own (Permanent number) further cells small h = λ k from below. h k (omega (arith, from, below, small)) (omega (arith, from, below, small))
further_has own (Local number) further cells small h = tt

further_small : (at : Address) (further cells : ℕ) → IsSmall at (further + cells) → IsSmall (address_onward at further) cells
further_small (Permanent number) further cells small = omega (arith, small)
further_small (Local number) further cells small = tt

pub spot_further : (own : ℕ → Bool) (at : Address) (further cells : ℕ) → Spot own at (further + cells) → Spot own (address_onward at further) cells
spot_further own at further cells h = record { own_cells = further_has own at further cells h.small h.own_cells; small = further_small at further cells h.small }

fewer_has : (own : ℕ → Bool) (at : Address) (more cells : ℕ) → cells ≤ more → HasAt own at more → HasAt own at cells
fewer_has own (Permanent number) more cells le h = λ k from below. h k from (omega (arith, below, le))
fewer_has own (Local number) more cells le h = tt

fewer_small : (at : Address) (more cells : ℕ) → cells ≤ more → IsSmall at more → IsSmall at cells
fewer_small (Permanent number) more cells le h = omega (arith, le, h)
fewer_small (Local number) more cells le h = tt

pub spot_fewer : (own : ℕ → Bool) (at : Address) (more cells : ℕ) → cells ≤ more → Spot own at more → Spot own at cells
spot_fewer own at more cells le h = record { own_cells = fewer_has own at more cells le h.own_cells; small = fewer_small at more cells le h.small }

module _ (own : ℕ → Bool) (others : List ℤ) where
  -- the memory of which own cells lie over the others
  abbrev pub over : Memory → Memory
  over x = record x { permanents = overlaid own x.permanents others }

  pub cell_over : (x : Memory) (at : Address) → Spot own at 1 → cell_at (over x) at ≡ cell_at x at
  cell_over x (Permanent number) h = own_read own x.permanents others number (pos 0) (h.own_cells number (omega (arith)) (omega (arith)))
  cell_over x (Local number) h = refl

  pub number_over : (x : Memory) (at : Address) (v : ℤ) → Spot own at 1 → put_number (over x) at v ≡ over (put_number x at v)
  number_over x (Permanent number) v h = ap (λ p. let m : Memory = record { permanents = p; cells = x.cells; references = x.references } in m) (own_set own x.permanents others number v (h.own_cells number (omega (arith)) (omega (arith))))
  number_over x (Local number) v h = refl

  pub copy_over : (x : Memory) (to from : Address) (n : ℕ) → Spot own to n → Spot own from n → put_copy (over x) to from n ≡ over (put_copy x to from n)
  copy_over x to from zero h k = refl
  copy_over x to from (suc n) h k =
      let y = put_copy x to from n in
      let here = spot_further own to n 1 (spot_fewer own to (suc n) (n + 1) (omega (arith)) h) in
      let there = spot_further own from n 1 (spot_fewer own from (suc n) (n + 1) (omega (arith)) k) in
      ap (λ z. put_number z (address_onward to n) (cell_at z (address_onward from n))) (copy_over x to from n (spot_fewer own to (suc n) n (omega (arith)) h) (spot_fewer own from (suc n) n (omega (arith)) k))
      ∙ ap (λ v. put_number (over y) (address_onward to n) v) (cell_over y (address_onward from n) there)
      ∙ number_over y (address_onward to n) (cell_at y (address_onward from n)) here

  word_over : (x : Memory) (at : Address) (members : ℕ) → Spot own at 1 → sets.put_word (over x) at members ≡ over (sets.put_word x at members)
  word_over x at members h = number_over x at (cast_signed w16 members) h

  pair_over : (x : Memory) (at : Address) (members : ℕ) → Spot own at 2 → sets.put_pair (over x) at members ≡ over (sets.put_pair x at members)
  pair_over x at members h =
      ap (λ z. sets.put_word z (address_onward at 1) (members / 2 ^ 16)) (word_over x at (members % 2 ^ 16) (spot_fewer own at 2 1 (omega (arith)) h))
      ∙ word_over (sets.put_word x at (members % 2 ^ 16)) (address_onward at 1) (members / 2 ^ 16) (spot_further own at 1 1 h)

  quad_over : (x : Memory) (at : Address) (members : ℕ) → Spot own at 4 → sets.put_quad (over x) at members ≡ over (sets.put_quad x at members)
  quad_over x at members h =
      ap (λ z. sets.put_pair z (address_onward at 2) (members / 2 ^ 32)) (pair_over x at (members % 2 ^ 32) (spot_fewer own at 4 2 (omega (arith)) h))
      ∙ pair_over (sets.put_pair x at (members % 2 ^ 32)) (address_onward at 2) (members / 2 ^ 32) (spot_further own at 2 2 h)

  pub set_over : (x : Memory) (at : Address) (s : SetValue) → Spot own at 8 → sets.put_set (over x) at s ≡ over (sets.put_set x at s)
  set_over x at s h =
      ap (λ z. sets.put_quad z (address_onward at 4) (s.members / 2 ^ 64)) (quad_over x at (s.members % 2 ^ 64) (spot_fewer own at 8 4 (omega (arith)) h))
      ∙ quad_over (sets.put_quad x at (s.members % 2 ^ 64)) (address_onward at 4) (s.members / 2 ^ 64) (spot_further own at 4 4 h)

-- ---- parameters

module _ (own : ℕ → Bool) where
  -- what a parameter becomes that begins at an address is read and written in own cells
  abbrev pub HasBoundAt : Address → Bound → Type 0
  HasBoundAt at (Scalar z) = Spot own at 1
  HasBoundAt at (Set s) = Spot own at 8
  HasBoundAt at (Copy from size) = Spot own at size × Spot own from size
  HasBoundAt at (Reference place) = Unit {0}
  HasBoundAt at (Component number) = Spot own at 1

  pub value_over : (others : List ℤ) (x : Memory) (at : Address) (b : Bound) → HasBoundAt at b → put_value (over own others x) at b ≡ over own others (put_value x at b)
  value_over others x at (Scalar z) h = number_over own others x at z h
  value_over others x at (Set s) h = set_over own others x at s h
  value_over others x at (Copy from size) h = copy_over own others x at from size h.0 h.1
  value_over others x at (Reference place) h = refl
  value_over others x at (Component number) h = refl

  -- those of a frame
  abbrev pub AllInFrame : Frame → List Argument → List Bound → Type 0
  AllInFrame f [] bs = Unit {0}
  AllInFrame f (a ∷ xs) [] = Unit {0}
  AllInFrame f (a ∷ xs) (b ∷ bs) = HasBoundAt (Local (onward f.base a.slot)) b × AllInFrame f xs bs

  one_in_frame : (others : List ℤ) (x : Memory) (f : Frame) (slot : ℕ) (b : Bound) → HasBoundAt (Local (onward f.base slot)) b → put_in_frame (over own others x) f slot b ≡ over own others (put_in_frame x f slot b)
  one_in_frame others x f slot (Reference place) h = refl
  one_in_frame others x f slot (Scalar z) h = value_over others x (Local (onward f.base slot)) (Scalar z) h
  one_in_frame others x f slot (Set s) h = value_over others x (Local (onward f.base slot)) (Set s) h
  one_in_frame others x f slot (Copy from size) h = value_over others x (Local (onward f.base slot)) (Copy from size) h
  one_in_frame others x f slot (Component number) h = refl

  pub frame_over : (others : List ℤ) (x : Memory) (f : Frame) (xs : List Argument) (bs : List Bound) → AllInFrame f xs bs → bind_frame (over own others x) f xs bs ≡ over own others (bind_frame x f xs bs)
  frame_over others x f [] bs h = refl
  frame_over others x f (a ∷ xs) [] h = refl
  frame_over others x f (a ∷ xs) (b ∷ bs) h = ap (λ z. bind_frame z f xs bs) (one_in_frame others x f a.slot b h.0) ∙ frame_over others (put_in_frame x f a.slot b) f xs bs h.1

  -- those of a component
  abbrev pub AllInComponent : (base : ℕ) → List Argument → List Bound → Type 0
  AllInComponent base [] bs = Unit {0}
  AllInComponent base (a ∷ xs) [] = Unit {0}
  AllInComponent base (a ∷ xs) (b ∷ bs) = HasBoundAt (Permanent (onward base a.slot)) b × AllInComponent base xs bs

  pub component_over : (others : List ℤ) (x : Memory) (base : ℕ) (xs : List Argument) (bs : List Bound) → AllInComponent base xs bs → bind_component (over own others x) base xs bs ≡ over own others (bind_component x base xs bs)
  component_over others x base [] bs h = refl
  component_over others x base (a ∷ xs) [] h = refl
  component_over others x base (a ∷ xs) (b ∷ bs) h = ap (λ z. bind_component z base xs bs) (value_over others x (Permanent (onward base a.slot)) b h.0) ∙ component_over others (put_value x (Permanent (onward base a.slot)) b) base xs bs h.1

  one_binding : (bindings others : List ℕ) (number : ℕ) (b : Bound) → HasBoundAt (Permanent number) b → put_binding (overlaid own bindings others) number b ≡ overlaid own (put_binding bindings number b) others
  one_binding bindings others number (Component component) h = own_set own bindings others number component (h.own_cells number (omega (arith)) (omega (arith)))
  one_binding bindings others number (Scalar z) h = refl
  one_binding bindings others number (Set s) h = refl
  one_binding bindings others number (Copy from size) h = refl
  one_binding bindings others number (Reference place) h = refl

  pub bindings_over : (bindings others : List ℕ) (base : ℕ) (xs : List Argument) (bs : List Bound) → AllInComponent base xs bs → bindings_after (overlaid own bindings others) base xs bs ≡ overlaid own (bindings_after bindings base xs bs) others
  bindings_over bindings others base [] bs h = refl
  bindings_over bindings others base (a ∷ xs) [] h = refl
  bindings_over bindings others base (a ∷ xs) (b ∷ bs) h = ap (λ z. bindings_after z base xs bs) (one_binding bindings others (onward base a.slot) b h.0) ∙ bindings_over (put_binding bindings (onward base a.slot) b) others base xs bs h.1
