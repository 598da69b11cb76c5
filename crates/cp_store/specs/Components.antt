-- Components named in statements.
use Rattle.std.specs.Prelude.{ℕ, List, Result, Ok, slice_index_or}
use Rattle.cp_slots.specs.declared.place.ComponentPlace.{ComponentPlace}
use Rattle.cp_slots.specs.declared.place.ComponentPlace.TheVariants.{Own, Contained, Element, Parameter}
use Rattle.cp_store.specs.declared.error.ErrorName.{ErrorName}
use Rattle.cp_store.specs.declared.memory.Frame.{Frame}
use Rattle.cp_store.specs.Memory.{Memory, onward}
use Rattle.cp_store.specs.Places.{element_offset, value_at}
use Rattle.cp_store.specs.Values.{then_with}

-- the number of a component; bindings holds, at the permanent cell of each component parameter, what it is bound to
abbrev pub component_at : Memory → (bindings : List ℕ) → Frame → ComponentPlace → Result ℕ ErrorName
component_at m bindings f Own = Ok f.component
component_at m bindings f (Contained number) = Ok (onward f.component number)
component_at m bindings f (Element first low high stride index) =
    then_with (value_at m f index.value) (λ i.
    then_with (element_offset low high stride i) (λ further. Ok (onward (onward f.component first) further)))
component_at m bindings f (Parameter slot) = Ok (slice_index_or bindings (onward f.own slot) 0)
