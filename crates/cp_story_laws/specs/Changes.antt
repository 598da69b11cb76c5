-- Which variables of monitors changed from one list of components to another, and what they are then.
use Rattle.std.specs.Prelude.{ℕ, zero, suc, Bool, true, false, not, ◌&&◌, if◌then◌else◌, List, [], ◌∷◌, length, drop, flat_map, Option, Some, None}
use Rattle.std.specs.List.{range_with_len}
use Rattle.cp_tree.specs.Syntax.{Program}
use Rattle.cp_tree.specs.declared.declaration.SystemKind.{SystemKind}
use Rattle.cp_tree.specs.declared.declaration.SystemKind.TheVariants as system_kind
use Rattle.cp_meaning.specs.Components.{Path, around}
use Rattle.cp_meaning.specs.Declarations.{Variable}
use Rattle.cp_meaning.specs.Names.{Name}
use Rattle.cp_meaning.specs.Places.{component_with, content_of, value_held}
use Rattle.cp_meaning.specs.State.{Component, Discipline, component_at}
use Rattle.cp_meaning.specs.Types.{Ty, queue_type, array_over}
use Rattle.cp_meaning.specs.Values.{Value}
use Rattle.cp_legend.specs.Names.{inside}
use Rattle.cp_legend_laws.specs.Paths.{text_below}
use Rattle.cp_legend_laws.specs.ValuesTold.{value_told}
use Rattle.cp_story.specs.Changes.{Changed}
use Rattle.cp_story_laws.specs.MonitorNumbers.{monitor_of}
use Rattle.cp_story_laws.specs.Places.{permanent_variables}
use Rattle.cp_story_laws.specs.SameValues.{same_value}

-- ---- monitors

-- a monitor is its own, and a class belongs to what contains it
abbrev pub monitor_by : SystemKind → (component : ℕ) → (outer : Option ℕ) → Option ℕ
monitor_by system_kind.Monitor n outer = Some n
monitor_by system_kind.Class n outer = outer
monitor_by system_kind.Process n outer = None

-- the monitor that the component of a path is, or inside which it is, so many steps up at most
abbrev pub monitor_around : List Component → (depth : ℕ) → Path → Option ℕ
monitor_around cs zero path = None
monitor_around cs (suc depth) path = let n = component_with path cs in monitor_by (component_at cs n).kind n (monitor_around cs depth (around path))

-- that of component n
abbrev pub monitor_with : List Component → (n : ℕ) → Option ℕ
monitor_with cs n = let path = (component_at cs n).path in monitor_around cs (suc (length path)) path

-- what the source calls a variable of a component in a monitor: that of a class inside comes after the path from the monitor to it
abbrev pub name_inside : Program → List Component → (monitor component : ℕ) → Name → List ℕ
name_inside p cs m n x = inside (text_below p (component_at cs m).system [] (drop (length (component_at cs m).path) (component_at cs n).path)) x

-- ---- what changed

abbrev pub value_there : List Component → (component : ℕ) → Name → Value
value_there cs n x = value_held (content_of x (component_at cs n).environment)

abbrev pub is_queues : Ty → Bool
is_queues queue_type = true
is_queues (array_over r queue_type) = true
is_queues t = false

-- a queue has no value that is told
abbrev pub has_changed : (before now : List Component) → (component : ℕ) → Variable → Bool
has_changed before now n v = not (same_value (value_there before n v.name) (value_there now n v.name)) && not (is_queues v.ty)

abbrev pub changed : Program → Discipline → (now : List Component) → (component monitor : ℕ) → Variable → Changed
changed p g now n m v = record { monitor = monitor_of p g m; name = name_inside p now m n v.name; value = value_told v.ty (value_there now n v.name) }

abbrev pub change_of : Program → Discipline → (before now : List Component) → (component monitor : ℕ) → Variable → List Changed
change_of p g before now n m v = if has_changed before now n v then changed p g now n m v ∷ [] else []

-- of the variables of a component inside a monitor, or outside all
abbrev pub changes_inside : Program → Discipline → (before now : List Component) → (component : ℕ) → Option ℕ → List Changed
changes_inside p g before now n None = []
changes_inside p g before now n (Some m) = flat_map (change_of p g before now n m) (permanent_variables p (component_at now n).system)

-- Of each component that is a monitor or is inside one, each variable that has another value than before.
abbrev pub changes_told : Program → Discipline → (before now : List Component) → List Changed
changes_told p g before now = flat_map (λ n. changes_inside p g before now n (monitor_with now n)) (range_with_len 0 (length now))
