-- Control stacks, read from their top.
use Rattle.std.specs.Prelude.{ℕ, Bool, true, false, List, ◌∷◌, Option, Some, None, [], reverse}
use Rattle.std.specs.declared.vec.Vec.{Vec}
use Rattle.std.specs.declared.alloc.Global.{Global}
use Rattle.cp_machine.specs.declared.process.Entry.{Entry}
use Rattle.cp_machine.specs.declared.process.Entry.TheVariants.{Rest, Successor, Return, InitEnd}

abbrev pub top_first : Vec Entry Global → List Entry
top_first stack = reverse stack.items

-- the rest of a list, if there is one, above the others
abbrev pub rest_of : Option ℕ → List Entry → List Entry
rest_of None es = es
rest_of (Some at) es = Rest at ∷ es

-- an entry, if there is one, above the others
abbrev pub above : Option Entry → List Entry → List Entry
above None es = []
above (Some e) es = e ∷ es

-- the entries from the end of the innermost call or initial statement on
abbrev pub from_end : List Entry → List Entry
from_end [] = []
from_end (Rest at ∷ es) = from_end es
from_end (Successor at value last ∷ es) = from_end es
from_end (Return caller result monitor ∷ es) = Return caller result monitor ∷ es
from_end (InitEnd caller component ∷ es) = InitEnd caller component ∷ es

-- an entry above the end of the innermost call
abbrev pub is_inner : Option Entry → Bool
is_inner (Some (Rest at)) = true
is_inner (Some (Successor at value last)) = true
is_inner _ = false

-- whether the end of a call or of an initial statement is on top
abbrev pub is_end : List Entry → Bool
is_end (Return caller result monitor ∷ es) = true
is_end (InitEnd caller component ∷ es) = true
is_end _ = false
