-- The path of a component of the language, as the source writes it.
use Rattle.std.specs.Prelude.{ℕ, ℤ, pos, ◌+ℤ◌, unsigned_abs, if◌then◌else◌, List, [], ◌∷◌, ◌++◌, Option, Some, slice_get, codes}
use Rattle.std.specs.Fmt.{signed_decimal}
use Rattle.std.specs.Ordering.{int_eq}
use Rattle.cp_tree.specs.Syntax.{Program}
use Rattle.cp_meaning.specs.Names.{Name}
use Rattle.cp_meaning.specs.Types.{Base, integers, booleans, characters, enumerated, Range, Ty, queue_type, array_over, component_of}
use Rattle.cp_meaning.specs.Scopes.{Meaning, permanent_variable, find}
use Rattle.cp_meaning.specs.Systems.{program_system, system_of}
use Rattle.cp_meaning.specs.Components.{PathStep, Path, Listed}
use Rattle.cp_legend.specs.Values.{character_text, constant_text}
use Rattle.cp_legend.specs.Names.{inside, called}
use Rattle.cp_legend_laws.specs.Called.{Called}

-- a value of an ordinal type; a constant of an enumeration by its name
abbrev pub value_text : Base → ℤ → List ℕ
value_text integers z = signed_decimal z
value_text booleans z = if int_eq z (pos 0) then codes "false" else codes "true"
value_text characters z = character_text z
value_text (enumerated at xs) z = constant_text (slice_get xs (unsigned_abs z)) z

-- an index that comes so many after the least one
abbrev pub index_text : Range → ℕ → List ℕ
index_text r n = codes "[" ++ value_text r.base (r.low +ℤ pos n) ++ codes "]"

abbrev pub element_text : Ty → Option ℕ → List ℕ
element_text (array_over r t) (Some n) = index_text r n
element_text t o = []

-- of another name some type that has no components
abbrev pub variable_type : Option Meaning → Ty
variable_type (Some (permanent_variable t)) = t
variable_type o = queue_type

-- the type of a variable of a system type
abbrev pub type_in_system : Program → (system : ℕ) → Name → Ty
type_in_system p k x = variable_type (find x (system_of p k).scope)

-- a variable, or an element of one
abbrev pub step_text : Program → (system : ℕ) → PathStep → List ℕ
step_text p k s = s.name ++ element_text (type_in_system p k s.name) s.element

-- the system type of a component variable, or of the elements of one
abbrev pub system_below : Ty → ℕ
system_below (component_of k) = k
system_below (array_over r (component_of k)) = k
system_below t = 0

-- the steps down from a component of a system type, after the text of its own path
abbrev pub text_below : Program → (system : ℕ) → (above : List ℕ) → Path → List ℕ
text_below p k above [] = above
text_below p k above (s ∷ path) = text_below p (system_below (type_in_system p k s.name)) (inside above (step_text p k s)) path

-- The steps from the program down, with a dot between each two; the program itself is `program`.
abbrev pub path_text : Program → Path → List ℕ
path_text p path = called (text_below p (program_system p) [] path)

-- a component of the language, by the text of its path
abbrev pub called_in_language : Program → Listed → Called
called_in_language p l = record { path = path_text p l.path; system = l.system }
