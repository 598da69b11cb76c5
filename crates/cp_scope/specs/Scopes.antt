-- Scopes: which declaration a name has where it is used, and what is written at a token.
use Rattle.std.specs.Prelude.{ℕ, nat_eq, ◌+◌, min, max, pos, ◌-ℤ◌, unsigned_abs, Bool, true, false, ◌||◌, if◌then◌else◌, List, [], ◌∷◌, ◌++◌, Option, Some, None, is_some, codes}
use Rattle.std.specs.Str.{bytes_eq}
use Rattle.cp_tree.specs.declared.declaration.SystemKind.{SystemKind}
use Rattle.cp_tree.specs.declared.declaration.SystemKind.TheVariants.{Class, Monitor, Process}
use Rattle.cp_scope.specs.declared.types.Base.TheVariants.{Integer, Boolean, Char}
use Rattle.cp_scope.specs.declared.types.Range.{Range}
use Rattle.cp_scope.specs.declared.types.ValueType.{ValueType}
use Rattle.cp_scope.specs.declared.types.ValueType.TheVariants.{Ordinal, Queue, Set, Array, Record, Component}
use Rattle.cp_scope.specs.declared.types.Predeclared.TheVariants.{Succ, Pred, Chr, Ord, Abs, Empty, Delay, Continue, Display}
use Rattle.cp_scope.specs.declared.types.Meaning.{Meaning}
use Rattle.cp_scope.specs.declared.types.Meaning.TheVariants.{Constant, Kind, Variable, Reference, Routine, Predeclared}
use Rattle.cp_scope.specs.declared.types.Meaning.TheVariants as meaning
use Rattle.cp_scope.specs.declared.types.Parameter.{Parameter}
use Rattle.cp_scope.specs.declared.shape.ArrayShape.{ArrayShape}
use Rattle.cp_scope.specs.declared.shape.Census.{Census}
use Rattle.cp_scope.specs.declared.count.Use.{Use}
use Rattle.cp_scope.specs.Types.{is_open, parameter_of, values_of}
use Rattle.cp_scope.specs.Counts.{plus, times, no_use}

-- names with what they stand for; with nothing, where the declaration has a fault
abbrev pub Names : Type 0
Names = List (List ℕ × Option Meaning)

abbrev pub find : {A : Type 0} → List ℕ → List (List ℕ × A) → Option A
find n [] = None
find n (d ∷ ds) = if bytes_eq n d.0 then Some d.1 else find n ds

abbrev pub is_among : List ℕ → List (List ℕ) → Bool
is_among n [] = false
is_among n (m ∷ ms) = if bytes_eq n m then true else is_among n ms

-- The names of a scope in the order of their declarations, and those that are being declared, which are not visible yet.
-- The variables and routines of a sealed scope are not visible.
pub record Scope : Type 0 where
  pub names : Names
  pub pending : List (List ℕ)
  pub is_sealed : Bool

abbrev pub new_scope : Scope
new_scope = record { names = []; pending = []; is_sealed = false }

abbrev pub through_seal : Option (Option Meaning) → Option (Option Meaning)
through_seal None = None
through_seal (Some None) = Some None
through_seal (Some (Some m)) = if is_open m then Some (Some m) else None

abbrev pub look_in : List ℕ → Scope → Option (Option Meaning)
look_in n s = if s.is_sealed then through_seal (find n s.names) else find n s.names

abbrev pub or_else : {A : Type 0} → Option A → Option A → Option A
or_else (Some m) other = Some m
or_else None other = other

-- outermost first
abbrev pub look_outer : List ℕ → List Scope → Option (Option Meaning)
look_outer n [] = None
look_outer n (s ∷ ss) = or_else (look_outer n ss) (look_in n s)

-- ---- what is written at a token

pub record Heading : Type 0 where
  pub is_entry : Bool
  pub parameters : List Parameter
  pub result : Option ValueType

pub data Shape : Type 0 where
  array_shape : ArrayShape → Shape
  -- fields and cells
  record_shape : Scope → ℕ → Shape
  -- the names in a system type, its heading, what its variables take, and what its initial statement takes
  system_shape : Scope → Heading → Census → ℕ → Shape
  -- a routine's heading, and where its body is written
  heading_shape : Heading → ℕ → Shape
  -- what a routine's body takes
  body_shape : Use → Shape

abbrev pub Shapes : Type 0
Shapes = List (ℕ × Shape)

abbrev pub shape_in : ℕ → Shapes → Option Shape
shape_in n [] = None
shape_in n (d ∷ ds) = if nat_eq n d.0 then Some d.1 else shape_in n ds

-- The innermost scope, those around it, outermost first, and what is written at tokens.
pub record Scopes : Type 0 where
  pub outer : List Scope
  pub inner : Scope
  pub shapes : Shapes

-- an inner declaration hides an outer one
abbrev pub look : List ℕ → Scopes → Option (Option Meaning)
look n s = or_else (look_in n s.inner) (look_outer n s.outer)

abbrev pub as_array : Option Shape → Option ArrayShape
as_array (Some (array_shape a)) = Some a
as_array _ = None

abbrev pub as_field : List ℕ → Option Shape → Option (Option Meaning)
as_field n (Some (record_shape fields cells)) = look_in n fields
as_field n _ = None

abbrev pub as_member : List ℕ → Option Shape → Option (Option Meaning)
as_member n (Some (system_shape members h c u)) = look_in n members
as_member n _ = None

abbrev pub no_heading : Heading
no_heading = record { is_entry = false; parameters = []; result = None }

abbrev pub as_heading : Option Shape → Heading
as_heading (Some (heading_shape h n)) = h
as_heading (Some (system_shape m h c u)) = h
as_heading _ = no_heading

abbrev pub as_body : Option Shape → Use
as_body (Some (body_shape u)) = u
as_body _ = no_use

abbrev pub body_of : Option Shape → Shapes → Use
body_of (Some (heading_shape h n)) s = as_body (shape_in n s)
body_of _ s = no_use

abbrev pub as_need : Option Shape → ℕ
as_need (Some (system_shape m h c u)) = u
as_need _ = 0

-- a token keeps its first shape
abbrev pub with_shape : Shapes → ℕ → Shape → Shapes
with_shape ds n d = if is_some (shape_in n ds) then ds else ds ++ (n, d) ∷ []

abbrev pub array_at : ℕ → Scopes → Option ArrayShape
array_at n s = as_array (shape_in n s.shapes)

-- a field's type, as that of a variable
abbrev pub field_at : ℕ → List ℕ → Scopes → Option (Option Meaning)
field_at n name s = as_field name (shape_in n s.shapes)

-- what a system type declares by a name
abbrev pub member_at : ℕ → List ℕ → Scopes → Option (Option Meaning)
member_at n name s = as_member name (shape_in n s.shapes)

abbrev pub heading_at : ℕ → Scopes → Heading
heading_at n s = as_heading (shape_in n s.shapes)

-- what the body of the routine takes whose name stands at a token
abbrev pub body_at : ℕ → Scopes → Use
body_at n s = body_of (shape_in n s.shapes) s.shapes

-- ---- cells

-- how many values, where the upper bound is not below the lower
abbrev pub count_of : Range → ℕ
count_of r = plus (unsigned_abs (r.high -ℤ r.low)) 1

abbrev pub shape_cells : Option Shape → ℕ
shape_cells (Some (array_shape a)) = a.cells
shape_cells (Some (record_shape fields cells)) = cells
shape_cells _ = 0

-- component variables take none
abbrev pub cells_of : ValueType → Shapes → ℕ
cells_of (Ordinal r) s = 1
cells_of Queue s = 1
cells_of (Set r) s = 8
cells_of (Array n) s = shape_cells (shape_in n s)
cells_of (Record n) s = shape_cells (shape_in n s)
cells_of (Component k n) s = 0

abbrev pub no_census : Census
no_census = record { cells = 0; components = 0; processes = 0; need = 0 }

abbrev pub both_census : Census → Census → Census
both_census a b = record { cells = plus a.cells b.cells; components = plus a.components b.components; processes = plus a.processes b.processes; need = max a.need b.need }

abbrev pub plain_census : ℕ → Census
plain_census n = record { cells = n; components = 0; processes = 0; need = 0 }

-- as many components of a kind, with what stands in them
abbrev pub component_census : ℕ → SystemKind → Option Shape → Census
component_census n Process (Some (system_shape m h c u)) = record { cells = times n c.cells; components = times n (plus c.components 1); processes = n; need = u }
component_census n k (Some (system_shape m h c u)) = record { cells = times n c.cells; components = times n (plus c.components 1); processes = 0; need = 0 }
component_census n k _ = no_census

abbrev pub element_census : ArrayShape → ValueType → Shapes → Census
element_census a (Component k n) s = component_census (count_of a.index) k (shape_in n s)
element_census a _ s = plain_census a.cells

abbrev pub array_census : Option ArrayShape → Shapes → Census
array_census (Some a) s = element_census a a.element s
array_census None s = no_census

abbrev pub variable_census : ValueType → Shapes → Census
variable_census (Component k n) s = component_census 1 k (shape_in n s)
variable_census (Array n) s = array_census (as_array (shape_in n s)) s
variable_census t s = plain_census (cells_of t s)

abbrev pub parameter_cells : ValueType → Shapes → ℕ
parameter_cells (Component k n) s = 1
parameter_cells t s = cells_of t s

abbrev pub census_of : Option Meaning → Shapes → Census
census_of (Some (Variable t)) s = variable_census t s
census_of (Some (meaning.Parameter t)) s = plain_census (parameter_cells t s)
census_of (Some (Reference t)) s = plain_census 1
census_of _ s = no_census

-- what names take besides a total so far
unfoldable pub census_from : Census → Names → Shapes → Census
census_from total [] s = total
census_from total (d ∷ ds) s = census_from (both_census total (census_of d.1 s)) ds s

-- what the names of a scope take
abbrev pub census : Names → Shapes → Census
census ds s = census_from no_census ds s

-- ---- parameters

abbrev pub with_some : {A : Type 0} → Option A → List A → List A
with_some (Some t) ts = t ∷ ts
with_some None ts = ts

abbrev pub parameter_in : Option Meaning → Option Parameter
parameter_in (Some m) = parameter_of m
parameter_in None = None

-- the parameters, in their order
unfoldable pub parameters_in : Names → List Parameter
parameters_in [] = []
parameters_in (d ∷ ds) = with_some (parameter_in d.1) (parameters_in ds)

-- ---- declaring

abbrev pub is_declared_in : Scope → List ℕ → Bool
is_declared_in s n = is_some (find n s.names) || is_among n s.pending

abbrev pub is_declared : Scopes → List ℕ → Bool
is_declared s n = is_declared_in s.inner n

-- a name keeps its first meaning
abbrev pub with_name : Scope → List ℕ → Option Meaning → Scope
with_name s n m =
    if is_some (find n s.names)
    then s
    else record { names = s.names ++ (n, m) ∷ []; pending = s.pending; is_sealed = s.is_sealed }

abbrev pub with_pending : Scope → List ℕ → Scope
with_pending s n =
    if is_among n s.pending
    then s
    else record { names = s.names; pending = s.pending ++ n ∷ []; is_sealed = s.is_sealed }

abbrev pub without_pending : Scope → Scope
without_pending s = record { names = s.names; pending = []; is_sealed = s.is_sealed }

abbrev pub sealed : Bool → Scope → Scope
sealed b s = record { names = s.names; pending = s.pending; is_sealed = b }

unfoldable pub add : Scopes → List ℕ → Option Meaning → Scopes
add s n m = record { outer = s.outer; inner = with_name s.inner n m; shapes = s.shapes }

-- the name is being declared
unfoldable pub reserve : Scopes → List ℕ → Scopes
reserve s n = record { outer = s.outer; inner = with_pending s.inner n; shapes = s.shapes }

-- no name is being declared
unfoldable pub settle : Scopes → Scopes
settle s = record { outer = s.outer; inner = without_pending s.inner; shapes = s.shapes }

-- a new scope inside, from which a sealed one shows its constants and types alone
unfoldable pub enter : Bool → Scopes → Scopes
enter seals s = record { outer = s.outer ++ sealed seals s.inner ∷ []; inner = new_scope; shapes = s.shapes }

pub record Around : Type 0 where
  pub outer : List Scope
  pub inner : Scope

-- the last scope of some, and those before
abbrev pub around : Scope → List Scope → Around
around s [] = record { outer = []; inner = s }
around s (t ∷ ts) = record { outer = s ∷ (around t ts).outer; inner = (around t ts).inner }

abbrev pub last_of : List Scope → Around
last_of [] = record { outer = []; inner = new_scope }
last_of (t ∷ ts) = around t ts

abbrev pub leave_to : Around → Shapes → Scopes
leave_to a shapes = record { outer = a.outer; inner = sealed false a.inner; shapes = shapes }

-- back out of the innermost scope
unfoldable pub leave : Scopes → Scopes
leave s = leave_to (last_of s.outer) s.shapes

abbrev pub with_around : Around → List ℕ → Option Meaning → List Scope
with_around a n m = a.outer ++ with_name a.inner n m ∷ []

-- a name in the scope around the innermost one
unfoldable pub add_around : Scopes → List ℕ → Option Meaning → Scopes
add_around s n m = record { outer = with_around (last_of s.outer) n m; inner = s.inner; shapes = s.shapes }

-- a routine's name stands for nothing where its body has a fault
abbrev pub without_meaning : List ℕ → Names → Names
without_meaning n [] = []
without_meaning n (d ∷ ds) = (if bytes_eq n d.0 then (d.0, None) else d) ∷ without_meaning n ds

abbrev pub withdraw : Scopes → List ℕ → Scopes
withdraw s n = record { outer = s.outer; inner = record { names = without_meaning n s.inner.names; pending = s.inner.pending; is_sealed = s.inner.is_sealed }; shapes = s.shapes }

unfoldable pub keep : Scopes → ℕ → Shape → Scopes
keep s n d = record { outer = s.outer; inner = s.inner; shapes = with_shape s.shapes n d }

-- ---- the predeclared names

abbrev pub no_names : Scopes
no_names = record { outer = []; inner = new_scope; shapes = [] }

abbrev pub with_types : Scopes → Scopes
with_types s = add (add (add (add s (codes "integer") (Some (Kind (values_of Integer)))) (codes "boolean") (Some (Kind (values_of Boolean)))) (codes "char") (Some (Kind (values_of Char)))) (codes "queue") (Some (Kind Queue))

abbrev pub with_constants : Scopes → Scopes
with_constants s = add (add s (codes "false") (Some (Constant Boolean (pos 0)))) (codes "true") (Some (Constant Boolean (pos 1)))

abbrev pub with_functions : Scopes → Scopes
with_functions s = add (add (add (add (add (add s (codes "succ") (Some (Predeclared Succ))) (codes "pred") (Some (Predeclared Pred))) (codes "chr") (Some (Predeclared Chr))) (codes "ord") (Some (Predeclared Ord))) (codes "abs") (Some (Predeclared Abs))) (codes "empty") (Some (Predeclared Empty))

abbrev pub with_procedures : Scopes → Scopes
with_procedures s = add (add (add s (codes "delay") (Some (Predeclared Delay))) (codes "continue") (Some (Predeclared Continue))) (codes "display") (Some (Predeclared Display))

-- where a program begins
abbrev pub start : Scopes
start = enter false (with_procedures (with_functions (with_constants (with_types no_names))))
