-- The components of a program, with their paths and types (the book, chapter 8).
use Rattle.std.specs.Prelude.{ℕ, zero, suc, ◌==◌, Bool, true, false, ◌&&◌, List, [], ◌∷◌, ◌++◌, Option, Some, None}
use Rattle.cp_tree.specs.Syntax.{Program}
use Rattle.cp_meaning.specs.Names.{Name, same_name}
use Rattle.cp_meaning.specs.Types.{Ty, component_of, array_over, length_of_range}
use Rattle.cp_meaning.specs.Declarations.{Variable}
use Rattle.cp_meaning.specs.Systems.{system_of, program_system}

-- a component variable, or an element of an array of components
pub record PathStep : Type 0 where
  pub name : Name
  pub element : Option ℕ

-- the steps from the program down to a component; that of the program itself is empty
abbrev pub Path : Type 0
Path = List PathStep

-- where a component stands and its system type
pub record Listed : Type 0 where
  pub path : Path
  pub system : ℕ

-- the path of a variable, or of an element of one, of the component above
abbrev pub step_down : Path → Name → Option ℕ → Path
step_down above x o = above ++ (let s : PathStep = record { name = x; element = o } in s) ∷ []

-- the components of an array, from the element n on; inner lists one component and what it contains
abbrev pub listed_elements : (Path → List Listed) → Path → Name → (count n : ℕ) → List Listed
listed_elements inner above x zero n = []
listed_elements inner above x (suc count) n = inner (step_down above x (Some n)) ++ listed_elements inner above x count (suc n)

-- the components of one variable: one, one for each index, or none
abbrev pub listed_variable : (ℕ → Path → List Listed) → Path → Name → Ty → List Listed
listed_variable inner above x (component_of k) = inner k (step_down above x None)
listed_variable inner above x (array_over r (component_of k)) = listed_elements (inner k) above x (length_of_range r) 0
listed_variable inner above x t = []

-- the components of variables, in the order of their declarations
abbrev pub listed_variables : (ℕ → Path → List Listed) → Path → List Variable → List Listed
listed_variables inner above [] = []
listed_variables inner above (v ∷ vs) = listed_variable inner above v.name v.ty ++ listed_variables inner above vs

-- A component, followed by those that it contains, in the order of the declarations.
-- Each is of a type declared before that of the component around it, so none lies deeper than the number of types.
abbrev pub listed : Program → (depth : ℕ) → ℕ → Path → List Listed
listed p zero k path = []
listed p (suc depth) k path = (let l : Listed = record { path = path; system = k } in l) ∷ listed_variables (listed p depth) path (system_of p k).variables

-- all components, the program itself first
abbrev pub components_of : Program → List Listed
components_of p = listed p (suc (program_system p)) (program_system p) []

-- ---- paths

abbrev pub same_element : Option ℕ → Option ℕ → Bool
same_element None None = true
same_element (Some n) (Some m) = n == m
same_element o q = false

-- two paths are one
abbrev pub same_path : Path → Path → Bool
same_path [] [] = true
same_path (a ∷ as') (b ∷ bs) = same_name a.name b.name && same_element a.element b.element && same_path as' bs
same_path a b = false

-- the path of the component around
abbrev pub around : Path → Path
around [] = []
around (s ∷ []) = []
around (s ∷ t ∷ path) = s ∷ around (t ∷ path)
