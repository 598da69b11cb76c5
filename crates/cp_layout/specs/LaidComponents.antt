-- What is listed of components: each with its cells, followed by those that it contains. In the shape of the code, as `Laid` says.
use Rattle.std.specs.Prelude.{ℕ, zero, suc, ◌+◌, min, ℤ, pos, if◌then◌else◌, ◌==◌, List, [], ◌∷◌, ◌++◌, length, Option, Some, None, slice_get}
use Rattle.cp_tree.specs.declared.declaration.SystemKind.{SystemKind}
use Rattle.cp_tree.specs.declared.declaration.SystemKind.TheVariants as system_kind
use Rattle.cp_slots.specs.declared.tables.Component.{Component}
use Rattle.cp_slots.specs.declared.tables.ComponentKind.{ComponentKind}
use Rattle.cp_slots.specs.declared.tables.ComponentKind.TheVariants as component_kind
use Rattle.cp_slots.specs.declared.tables.Process.{Process}
use Rattle.cp_layout.specs.declared.layer.Contained.{Contained}
use Rattle.cp_layout.specs.declared.component.Components as code_components
use Rattle.cp_layout.specs.declared.layer.Content.{Content}
use Rattle.cp_layout.specs.declared.layer.Content.TheVariants as content
use Rattle.cp_symbols.specs.Kinds.{Compounds}
use Rattle.cp_layout.specs.Kinds.{least}
use Rattle.cp_layout.specs.Layers.{Owned, System}

-- the components so far
pub record Listing : Type 0 where
  pub components : List Component
  pub processes : List Process
  pub monitors : ℕ
  pub permanents : List ℤ

abbrev pub listing_seen : code_components.Components → Listing
listing_seen c = record { components = c.items.items; processes = c.processes.items; monitors = c.monitors; permanents = c.permanents.items }

abbrev pub empty_listing : Listing
empty_listing = record { components = []; processes = []; monitors = 0; permanents = [] }

-- ---- cells as a run begins

abbrev pub content_least : Compounds → Content → List ℤ
content_least ts (content.Variable t) = least ts t
content_least ts content.Component = pos 0 ∷ []

unfoldable pub contents_least : Compounds → List Content → List ℤ
contents_least ts [] = []
contents_least ts (c ∷ cs) = content_least ts c ++ contents_least ts cs

-- ---- components

-- a number of a byte, that stops at the greatest
abbrev pub byte : ℕ → ℕ
byte n = min n 255

abbrev pub process_at : (component initial : ℕ) → Process
process_at component initial = record { component = component; routine = initial }

-- the kind of the next component, a process or a monitor with the next number
abbrev pub next_kind : Listing → SystemKind → (initial : ℕ) → ComponentKind × Listing
next_kind c system_kind.Class initial = (component_kind.Class, c)
next_kind c system_kind.Monitor initial = (component_kind.Monitor c.monitors, record c { monitors = byte (c.monitors + 1) })
next_kind c system_kind.Process initial = (component_kind.Process (byte (length c.processes)), record c { processes = c.processes ++ process_at (length c.components) initial ∷ [] })

abbrev pub component_with : ComponentKind → (base system : ℕ) → Component
component_with kind base system = record { kind = kind; base = base; system = system }

-- one more component, with its cells
abbrev pub with_component : Listing → ComponentKind → List ℤ → (system : ℕ) → Listing
with_component c kind image system =
    record c { components = c.components ++ component_with kind (length c.permanents) system ∷ []; permanents = c.permanents ++ image }

-- the same, done again and again
unfoldable pub again_and_again : ℕ → (Listing → Listing) → Listing → Listing
again_and_again zero one c = c
again_and_again (suc n) one c = one (again_and_again n one c)

-- the components inside one, by what lists one of a system type
unfoldable pub add_contained : (ℕ → Listing → Listing) → List Contained → Listing → Listing
add_contained one [] c = c
add_contained one (k ∷ ks) c = add_contained one ks (again_and_again k.count (one k.system) c)

abbrev pub add_owned : Compounds → (ℕ → Listing → Listing) → ComponentKind × Listing → Owned → (system : ℕ) → Listing
add_owned ts one x o system = add_contained one o.contained (with_component x.1 x.0 (contents_least ts o.contents) system)

abbrev pub system_by : Compounds → (ℕ → Listing → Listing) → Option System → (number : ℕ) → Listing → Listing
system_by ts one None number c = c
system_by ts one (Some s) number c = add_owned ts one (next_kind c s.kind s.initial) s.owned number

-- a component of a system type with those that it contains, if the type is one of the first `bound`
unfoldable pub add_below : Compounds → List System → (bound : ℕ) → (system : ℕ) → Listing → Listing
add_below ts ss zero n c = c
add_below ts ss (suc bound) n c = if n == bound then system_by ts (add_below ts ss bound) (slice_get ss bound) bound c else add_below ts ss bound n c

-- the program as a process, and all that it contains
unfoldable pub components_of_program : Compounds → List System → Owned → (initial : ℕ) → Listing
components_of_program ts ss o initial = add_owned ts (add_below ts ss (length ss)) (next_kind empty_listing system_kind.Process initial) o (length ss)
