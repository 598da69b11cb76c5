-- The function calls of statements in the order in which they take cells of the frame.
use Rattle.std.specs.Prelude.{◌≡◌, ℕ, suc, ◌+◌, ◌⊎◌, ◌==◌, Bool, true, false, if◌then◌else◌, List, [], ◌∷◌, ◌++◌}
use Rattle.cp_tree.specs.Syntax.{Start, Statement, empty, assign, invoke, block, if_then, if_else, case_of, while_do, repeat_until, for_do, cycle, init, asserted, Statements, no_statements, more_statements, Arms, no_arms, more_arms, Arm, arm}
use Rattle.cp_slots.specs.declared.place.PlaceOrigin.TheVariants.{Local}
use Rattle.cp_meaning.specs.Names.{temporary}
use Rattle.cp_meaning.specs.Scopes.{Scope}
use Rattle.cp_meaning.specs.State.{Item, function_call}
use Rattle.cp_meaning.specs.Lifting.{expression_calls, expressions_calls, designator_calls}
use Rattle.cp_resolved.specs.Layouts.{Here, frame_here}

abbrev pub starts_calls : Scope → List Start → List Item
starts_calls s [] = []
starts_calls s (t ∷ ts) = starts_calls s ts ++ (designator_calls s t.target ++ expressions_calls s t.arguments)

-- the last statement first, and a list inside a statement before the statement's own expressions
abbrev mutual
  pub calls_laid : Scope → Statement → List Item
  calls_laid s (empty at) = []
  calls_laid s (assign at d e) = designator_calls s d ++ expression_calls s e
  calls_laid s (invoke at d es) = designator_calls s d ++ expressions_calls s es
  calls_laid s (block at ts) = all_calls_laid s ts
  calls_laid s (if_then at e t) = calls_laid s t ++ expression_calls s e
  calls_laid s (if_else at e t u) = calls_laid s t ++ (calls_laid s u ++ expression_calls s e)
  calls_laid s (case_of at e as' b) = arms_calls_laid s as' ++ expression_calls s e
  calls_laid s (while_do at e t) = calls_laid s t ++ expression_calls s e
  calls_laid s (repeat_until at ts e) = all_calls_laid s ts ++ expression_calls s e
  calls_laid s (for_do at i e d f t) = calls_laid s t ++ (expression_calls s e ++ expression_calls s f)
  calls_laid s (cycle at ts) = all_calls_laid s ts
  calls_laid s (init at ts) = starts_calls s ts
  calls_laid s (asserted at k e t) = calls_laid s t ++ expression_calls s e

  pub all_calls_laid : Scope → Statements → List Item
  all_calls_laid s no_statements = []
  all_calls_laid s (more_statements t ts) = all_calls_laid s ts ++ calls_laid s t

  pub arms_calls_laid : Scope → Arms → List Item
  arms_calls_laid s no_arms = []
  arms_calls_laid s (more_arms a as') = arm_calls_laid s a ++ arms_calls_laid s as'

  pub arm_calls_laid : Scope → Arm → List Item
  arm_calls_laid s (arm cs t) = calls_laid s t

-- ---- their tokens

abbrev pub is_at : ℕ → Item → Bool
is_at at (function_call n d es) = n == at
is_at at i = false

-- how many calls stand before the one at a token
abbrev pub calls_before : ℕ → List Item → ℕ
calls_before at [] = 0
calls_before at (i ∷ is) = if is_at at i then 0 else suc (calls_before at is)

-- a call of the list is at the token
abbrev pub IsAmong : ℕ → List Item → Type 0
IsAmong at [] = ⊥
IsAmong at (i ∷ is) = (is_at at i ≡ true) ⊎ IsAmong at is

abbrev pub IsApart : Item → List Item → Type 0
IsApart (function_call n d es) is = (at : ℕ) → IsAmong at is → (n == at) ≡ false
IsApart i is = ⊥

-- all are function calls, and no two are at one token
abbrev pub AreApart : List Item → Type 0
AreApart [] = Unit {0}
AreApart (i ∷ is) = IsApart i is × AreApart is

-- From a cell on, the temporary name of each call has its cell.
abbrev pub AreTemporaries : Here → ℕ → List Item → Type 0
AreTemporaries h n is = (at : ℕ) → IsAmong at is → (frame_here h).origins (temporary at) ≡ Local (n + calls_before at is)
