-- The tokens at which the checker keeps what is written there, in the order in which it keeps them. Each function takes the tokens that come after.
use Rattle.std.specs.Prelude.{◌≡◌, ◌≤◌, ℕ, zero, suc, nat_eq, if◌then◌else◌, List, [], ◌∷◌, length}
use Rattle.cp_tree.specs.Syntax.{TypeTerm, simple, array_of, set_type, record_of, FieldGroups, no_fields, more_fields, FieldGroup, fields, Part, constants, types, variables, Routine, System, Definition, type_definition, system_definition, ProgramPart, program_constants, program_types, program_variables, Program}
use Rattle.cp_meaning.specs.Names.{Name}
use Rattle.cp_meaning.specs.Declarations.{names_of}
use Rattle.cp_resolved.specs.Enumerations.{Enumerated}

abbrev pub all_tokens : {A : Type 0} → (A → List ℕ → List ℕ) → List A → List ℕ → List ℕ
all_tokens f [] ks = ks
all_tokens f (x ∷ xs) ks = f x (all_tokens f xs ks)

-- arrays and records, those inside before those around
abbrev mutual
  pub type_tokens : TypeTerm → List ℕ → List ℕ
  type_tokens (simple at t) ks = ks
  type_tokens (array_of at i t) ks = type_tokens t (at ∷ ks)
  type_tokens (set_type at t) ks = ks
  type_tokens (record_of at gs b) ks = groups_tokens gs (at ∷ ks)

  pub groups_tokens : FieldGroups → List ℕ → List ℕ
  groups_tokens no_fields ks = ks
  groups_tokens (more_fields g gs) ks = group_tokens g (groups_tokens gs ks)

  pub group_tokens : FieldGroup → List ℕ → List ℕ
  group_tokens (fields is t) ks = type_tokens t ks

abbrev pub part_tokens : Part → List ℕ → List ℕ
part_tokens (constants at ds) ks = ks
part_tokens (types at ds) ks = all_tokens (λ d. type_tokens d.value) ds ks
part_tokens (variables at gs) ks = all_tokens (λ g. type_tokens g.variable_type) gs ks

-- the name of a routine, and after its parts its body
abbrev pub routine_tokens : Routine → List ℕ → List ℕ
routine_tokens r ks = r.name.at ∷ all_tokens part_tokens r.parts (r.body.at ∷ ks)

abbrev pub system_tokens : System → List ℕ → List ℕ
system_tokens s ks = all_tokens part_tokens s.parts (all_tokens routine_tokens s.routines (s.at ∷ ks))

abbrev pub definition_tokens : Definition → List ℕ → List ℕ
definition_tokens (type_definition t) ks = type_tokens t ks
definition_tokens (system_definition s) ks = system_tokens s ks

abbrev pub program_part_tokens : ProgramPart → List ℕ → List ℕ
program_part_tokens (program_constants at ds) ks = ks
program_part_tokens (program_types at ds) ks = all_tokens (λ d. definition_tokens d.value) ds ks
program_part_tokens (program_variables at gs) ks = all_tokens (λ g. type_tokens g.variable_type) gs ks

-- the last token is the period
abbrev pub program_tokens : Program → List ℕ
program_tokens p = all_tokens program_part_tokens p.parts (all_tokens routine_tokens p.routines (p.period ∷ []))

-- ---- different tokens

abbrev pub IsOther : ℕ → List ℕ → Type 0
IsOther k [] = Unit {0}
IsOther k (j ∷ js) = (j ≡ k → ⊥) × IsOther k js

abbrev pub AreDifferent : List ℕ → Type 0
AreDifferent [] = Unit {0}
AreDifferent (k ∷ ks) = IsOther k ks × AreDifferent ks

-- ---- system types by their numbers

abbrev pub definition_types : Definition → List ℕ → List ℕ
definition_types (type_definition t) ks = ks
definition_types (system_definition s) ks = s.at ∷ ks

abbrev pub program_part_types : ProgramPart → List ℕ → List ℕ
program_part_types (program_constants at ds) ks = ks
program_part_types (program_types at ds) ks = all_tokens (λ d. definition_types d.value) ds ks
program_part_types (program_variables at gs) ks = ks

abbrev pub token_in : ℕ → List ℕ → ℕ → ℕ
token_in other [] n = other
token_in other (k ∷ ks) zero = k
token_in other (k ∷ ks) (suc n) = token_in other ks n

-- the token at which a system type is written; of the program itself, and of a number that is none, the period
abbrev pub token_of_type : Program → ℕ → ℕ
token_of_type p = token_in p.period (all_tokens program_part_types p.parts (p.period ∷ []))

-- ---- enumerations

abbrev pub tokens_of_enumerations : List Enumerated → List ℕ
tokens_of_enumerations [] = []
tokens_of_enumerations (e ∷ es) = e.at ∷ tokens_of_enumerations es

-- at least one constant, and no more than integers can number
pub record HasFew (e : Enumerated) : Type 0 where
  pub some : 1 ≤ length e.names
  pub few : length e.names ≤ 32768

abbrev pub constants_among : ℕ → List Enumerated → List Name
constants_among at [] = []
constants_among at (e ∷ es) = if nat_eq at e.at then names_of e.names else constants_among at es
