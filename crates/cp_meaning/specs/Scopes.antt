-- Scopes: what a name stands for where it is used (the book, chapter 8).
use Rattle.std.specs.Prelude.{ℤ, pos, if◌then◌else◌, List, [], ◌∷◌, Option, Some, None, codes, Bool, true, false, filter}
use Rattle.cp_tree.specs.Syntax.{Routine}
use Rattle.cp_meaning.specs.Names.{Name, same_name}
use Rattle.cp_meaning.specs.Types.{Base, booleans, Ty, ordinal, queue_type, all_integers, all_booleans, all_characters}

-- the standard functions and procedures
pub data Standard : Type 0 where
  succ_function : Standard
  pred_function : Standard
  chr_function : Standard
  ord_function : Standard
  abs_function : Standard
  empty_function : Standard
  delay_procedure : Standard
  continue_procedure : Standard
  display_procedure : Standard

-- what a declared name stands for
pub data Meaning : Type 0 where
  constant_meaning : Base → ℤ → Meaning
  type_meaning : Ty → Meaning
  -- a parameter or variable of the routine, and of the component
  local_variable : Ty → Meaning
  permanent_variable : Ty → Meaning
  routine_meaning : Routine → Meaning
  standard_meaning : Standard → Meaning

-- The visible declarations, the latest first. So an inner declaration hides an outer one.
abbrev pub Scope : Type 0
Scope = List (Name × Meaning)

-- the latest declaration of the name
abbrev pub find : Name → Scope → Option Meaning
find x [] = None
find x (d ∷ ds) = if same_name x d.0 then Some d.1 else find x ds

-- what was visible once the name was declared
abbrev pub since : Name → Scope → Scope
since x [] = []
since x (d ∷ ds) = if same_name x d.0 then d ∷ ds else since x ds

-- what a system type sees of the scope around it: no variables
abbrev pub is_seen : Meaning → Bool
is_seen (permanent_variable t) = false
is_seen m = true

-- the scope in which a system type begins
abbrev pub seen_inside : Scope → Scope
seen_inside s = filter (λ d. is_seen d.1) s

-- the outermost scope
abbrev pub predeclared : Scope
predeclared =
    (codes "integer", type_meaning (ordinal all_integers)) ∷
    (codes "boolean", type_meaning (ordinal all_booleans)) ∷
    (codes "char", type_meaning (ordinal all_characters)) ∷
    (codes "queue", type_meaning queue_type) ∷
    (codes "false", constant_meaning booleans (pos 0)) ∷
    (codes "true", constant_meaning booleans (pos 1)) ∷
    (codes "succ", standard_meaning succ_function) ∷
    (codes "pred", standard_meaning pred_function) ∷
    (codes "chr", standard_meaning chr_function) ∷
    (codes "ord", standard_meaning ord_function) ∷
    (codes "abs", standard_meaning abs_function) ∷
    (codes "empty", standard_meaning empty_function) ∷
    (codes "delay", standard_meaning delay_procedure) ∷
    (codes "continue", standard_meaning continue_procedure) ∷
    (codes "display", standard_meaning display_procedure) ∷
    []
