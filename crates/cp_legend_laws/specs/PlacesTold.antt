-- What the source calls a part of a variable.
use Rattle.std.specs.Prelude.{ℕ, ◌==◌, if◌then◌else◌, List, [], ◌∷◌, ◌++◌, codes}
use Rattle.cp_meaning.specs.Names.{Name}
use Rattle.cp_meaning.specs.Types.{Ty, array_over, record_with, field_type_in}
use Rattle.cp_meaning.specs.Values.{Choice, the_field, the_element}
use Rattle.cp_resolved.specs.Layouts.{cells_of}
use Rattle.cp_legend_laws.specs.Paths.{index_text}

-- the type of a part
abbrev pub part_type : Ty → Choice → Ty
part_type (record_with ts) (the_field x) = field_type_in ts x
part_type (array_over r t) (the_element n) = t
part_type t c = t

abbrev pub type_at : Ty → List Choice → Ty
type_at t [] = t
type_at t (c ∷ cs) = type_at (part_type t c) cs

-- a field after a dot, an index in brackets
abbrev pub choice_text : Ty → Choice → List ℕ
choice_text t (the_field x) = codes "." ++ x
choice_text (array_over r t) (the_element n) = index_text r n
choice_text t (the_element n) = []

-- What leads to a part. A part that takes all cells of a value is called as the value is, so the only element of an array has no index.
abbrev pub choices_text : Ty → List Choice → List ℕ
choices_text t [] = []
choices_text t (c ∷ cs) = if cells_of (type_at t (c ∷ cs)) == cells_of t then [] else choice_text t c ++ choices_text (part_type t c) cs

-- a part of a variable of this name and type
abbrev pub part_text : Name → Ty → List Choice → List ℕ
part_text x t cs = x ++ choices_text t cs
