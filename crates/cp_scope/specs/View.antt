-- What the checker's own table shows.
use Rattle.std.specs.Prelude.{ℕ, List, [], ◌∷◌, map, Option, Some, String}
use Rattle.std.specs.declared.alloc.Global.{Global}
use Rattle.indexmap.specs.IndexMap.{IndexMap}
use Rattle.std.specs.String.{string_bytes}
use Rattle.cp_scope.specs.declared.types.Meaning.{Meaning}
use Rattle.cp_scope.specs.declared.scope.Scope as code_scope
use Rattle.cp_scope.specs.declared.shape.Heading as code_heading
use Rattle.cp_scope.specs.declared.shape.TokenShape as code_shape
use Rattle.cp_scope.specs.declared.shape.TokenShape.TheVariants as shape
use Rattle.cp_scope.specs.declared.shapes.Shapes as code_shapes
use Rattle.cp_scope.specs.declared.table.ScopeTable.{ScopeTable}
use Rattle.cp_scope.specs.Scopes.{Names, Scope, Heading, Shape, array_shape, record_shape, system_shape, heading_shape, body_shape, Shapes, Scopes}

abbrev pub entry_view : String Global × Meaning → List ℕ × Option Meaning
entry_view e = (string_bytes e.0, Some e.1)

abbrev pub names_view : List (String Global × Meaning) → Names
names_view es = map entry_view es

unfoldable pub names_of : {S : Type 0} → IndexMap (String Global) Meaning S → Names
names_of m = names_view m.entries

unfoldable pub keys_seen : {S : Type 0} → IndexMap (String Global) (Unit {0}) S → List (List ℕ)
keys_seen m = map (λ e. string_bytes e.0) m.entries

unfoldable pub scope_of : code_scope.Scope → Scope
scope_of s = record { names = names_of s.names; pending = keys_seen s.pending; is_sealed = s.is_sealed }

abbrev pub heading_view : code_heading.Heading → Heading
heading_view h = record { is_entry = h.is_entry; parameters = h.parameters.items; result = h.result }

abbrev pub shape_view : code_shape.TokenShape → Shape
shape_view (shape.Array a) = array_shape a
shape_view (shape.Record fields cells) = record_shape (scope_of fields) cells
shape_view (shape.System members h c u) = system_shape (scope_of members) (heading_view h) c u
shape_view (shape.Heading h n) = heading_shape (heading_view h) n
shape_view (shape.Body u) = body_shape u

abbrev pub shape_entry : ℕ × code_shape.TokenShape → ℕ × Shape
shape_entry e = (e.0, shape_view e.1)

unfoldable pub shapes_of : code_shapes.Shapes → Shapes
shapes_of m = map shape_entry m.items.entries

-- the scopes
unfoldable pub scopes_of : ScopeTable → Scopes
scopes_of t = record { outer = map scope_of t.outer.items; inner = scope_of t.inner; shapes = shapes_of t.shapes }
