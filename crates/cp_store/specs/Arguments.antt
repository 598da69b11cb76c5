-- Arguments: what they give, and the parameters that are bound to it.
use Rattle.std.specs.Prelude.{ℕ, List, [], ◌∷◌, ◌++◌, Result, Ok, Err, slice_set}
use Rattle.cp_slots.specs.declared.place.Argument.{Argument}
use Rattle.cp_slots.specs.declared.place.ArgumentValue.{ArgumentValue}
use Rattle.cp_slots.specs.declared.place.ArgumentValue.TheVariants as value
use Rattle.cp_store.specs.declared.argument.Bound.{Bound}
use Rattle.cp_store.specs.declared.argument.Bound.TheVariants.{Scalar, Set, Copy, Reference, Component}
use Rattle.cp_store.specs.declared.error.ErrorName.{ErrorName}
use Rattle.cp_store.specs.declared.memory.Address.{Address}
use Rattle.cp_store.specs.declared.memory.Address.TheVariants.{Permanent, Local}
use Rattle.cp_store.specs.declared.memory.Frame.{Frame}
use Rattle.cp_store.specs.Components.{component_at}
use Rattle.cp_store.specs.Memory.{Memory, onward, put_number, put_copy, put_reference}
use Rattle.cp_store.specs.Places.{value_at, set_at, address_at}
use Rattle.cp_store.specs.Sets as sets
use Rattle.cp_store.specs.Values.{then_with, check_range}

-- what an argument gives
abbrev pub evaluate_argument : Memory → (bindings : List ℕ) → Frame → ArgumentValue → Result Bound ErrorName
evaluate_argument m bindings f (value.Scalar e low high) = then_with (value_at m f e) (λ z. then_with (check_range low high z) (λ v. Ok (Scalar v)))
evaluate_argument m bindings f (value.Set e low high) = then_with (set_at m f e) (λ s. then_with (sets.check_members low high s) (λ v. Ok (Set v)))
evaluate_argument m bindings f (value.Copy source size) = then_with (address_at m f source) (λ at. Ok (Copy at size))
evaluate_argument m bindings f (value.Reference place) = then_with (address_at m f place) (λ at. Ok (Reference at))
evaluate_argument m bindings f (value.Component c) = then_with (component_at m bindings f c) (λ n. Ok (Component n))

-- what some arguments give, after what others gave
abbrev pub bounds_after : Memory → (bindings : List ℕ) → Frame → List Bound → List Argument → Result (List Bound) ErrorName
bounds_after m bindings f bs [] = Ok bs
bounds_after m bindings f bs (x ∷ xs) = then_with (evaluate_argument m bindings f x.value) (λ b. bounds_after m bindings f (bs ++ b ∷ []) xs)

-- what arguments give, from left to right
abbrev pub bounds_at : Memory → (bindings : List ℕ) → Frame → List Argument → Result (List Bound) ErrorName
bounds_at m bindings f xs = bounds_after m bindings f [] xs

-- the bounds, or the run error
abbrev pub bounds_or : {A : Type 0} → Result A ErrorName → List Bound → Result (List Bound) ErrorName
bounds_or (Ok u) bs = Ok bs
bounds_or (Err e) bs = Err e

-- ---- binding

-- the memory with a value in the cells from an address on
abbrev pub put_value : Memory → Address → Bound → Memory
put_value m at (Scalar z) = put_number m at z
put_value m at (Set s) = sets.put_set m at s
put_value m at (Copy from size) = put_copy m at from size
put_value m at (Reference place) = m
put_value m at (Component number) = m

-- a parameter of the routine of a frame is bound
abbrev pub put_in_frame : Memory → Frame → (slot : ℕ) → Bound → Memory
put_in_frame m f slot (Reference place) = put_reference m (onward f.references slot) place
put_in_frame m f slot b = put_value m (Local (onward f.base slot)) b

abbrev pub bind_frame : Memory → Frame → List Argument → List Bound → Memory
bind_frame m f [] bs = m
bind_frame m f (x ∷ xs) [] = m
bind_frame m f (x ∷ xs) (b ∷ bs) = bind_frame (put_in_frame m f x.slot b) f xs bs

-- the parameters of a component, whose permanent cells begin at base, are bound: those that have cells of their own ..
abbrev pub bind_component : Memory → (base : ℕ) → List Argument → List Bound → Memory
bind_component m base [] bs = m
bind_component m base (x ∷ xs) [] = m
bind_component m base (x ∷ xs) (b ∷ bs) = bind_component (put_value m (Permanent (onward base x.slot)) b) base xs bs

-- .. and those that are components
abbrev pub put_binding : (bindings : List ℕ) → (number : ℕ) → Bound → List ℕ
put_binding bindings number (Component component) = slice_set bindings number component
put_binding bindings number _ = bindings

abbrev pub bindings_after : (bindings : List ℕ) → (base : ℕ) → List Argument → List Bound → List ℕ
bindings_after bindings base [] bs = bindings
bindings_after bindings base (x ∷ xs) [] = bindings
bindings_after bindings base (x ∷ xs) (b ∷ bs) = bindings_after (put_binding bindings (onward base x.slot) b) base xs bs
