-- Which statements and items stand in the body of a routine or of an initial statement.
use Rattle.std.specs.Prelude.{◌≡◌, ℕ, ◌⊎◌, true, List, [], ◌∷◌}
use Rattle.cp_tree.specs.Syntax.{Expression, Designator, designator, no_selectors, nameless, Start, Statement, block, if_then, if_else, case_of, while_do, repeat_until, for_do, cycle, init, asserted, Statements, no_statements, more_statements, Arms, no_arms, more_arms, arm}
use Rattle.cp_meaning.specs.Lifting.{has_invariants, check_statement}
use Rattle.cp_meaning.specs.Scopes.{Scope}
use Rattle.cp_meaning.specs.State.{Item, statement_item, function_call, start_item, until, successor}
use Rattle.cp_machine_laws.specs.Remaining.{calls_before}

-- ---- statements

abbrev pub IsAmong : Statement → Statements → Type 0
IsAmong t no_statements = ⊥
IsAmong t (more_statements u us) = (t ≡ u) ⊎ IsAmong t us

abbrev pub IsAmongArms : Statement → Arms → Type 0
IsAmongArms t no_arms = ⊥
IsAmongArms t (more_arms (arm cs u) as') = (t ≡ u) ⊎ IsAmongArms t as'

-- the first statement stands directly inside the second one
abbrev pub IsPartOf : Statement → Statement → Type 0
IsPartOf t (block at ss) = IsAmong t ss
IsPartOf t (if_then at e u) = t ≡ u
IsPartOf t (if_else at e u w) = (t ≡ u) ⊎ (t ≡ w)
IsPartOf t (case_of at e as' b) = IsAmongArms t as'
IsPartOf t (while_do at e u) = t ≡ u
IsPartOf t (repeat_until at ss e) = IsAmong t ss
IsPartOf t (for_do at i e d f u) = t ≡ u
IsPartOf t (cycle at ss) = IsAmong t ss
IsPartOf t (asserted at k e u) = t ≡ u
IsPartOf t u = ⊥

-- the statement stands in the body, at any depth
pub data IsWithin (body : Statements) : Statement → Type 0 where
  listed : (t : Statement) → IsAmong t body → IsWithin body t
  inside : (t u : Statement) → IsPartOf t u → IsWithin body u → IsWithin body t

-- ---- items

abbrev pub IsAmongItems : Item → List Item → Type 0
IsAmongItems i [] = ⊥
IsAmongItems i (j ∷ items) = (i ≡ j) ⊎ IsAmongItems i items

abbrev pub IsAmongStarts : Start → List Start → Type 0
IsAmongStarts t [] = ⊥
IsAmongStarts t (u ∷ us) = (t ≡ u) ⊎ IsAmongStarts t us

-- the name that a check calls
abbrev pub check_name : ℕ → Designator
check_name at = designator (record { at = at; name = nameless }) no_selectors

-- a check is no statement of the body; it stands where the block has invariants
abbrev pub IsCheck : Scope → Statement → Type 0
IsCheck s t = (at : ℕ) × (has_invariants s ≡ true) × (t ≡ check_statement at)

-- the item of a statement of the body, what is left of one, or a check
abbrev pub OwnStands : Scope → Statements → Item → Type 0
OwnStands s body (statement_item t) = IsWithin body t ⊎ IsCheck s t
OwnStands s body (start_item t) = (at : ℕ) × (ts : List Start) × IsWithin body (init at ts) × IsAmongStarts t ts
OwnStands s body (until ss e) = (at : ℕ) × IsWithin body (repeat_until at ss e)
OwnStands s body (successor at i z d b t) = (e : Expression) × (f : Expression) × IsWithin body (for_do at i e d f t)
OwnStands s body i = ⊥

-- a function call is one of those before such an item
abbrev pub ItemStands : Scope → Statements → Item → Type 0
ItemStands s body (function_call at d es) = (i : Item) × OwnStands s body i × IsAmongItems (function_call at d es) (calls_before s i)
ItemStands s body i = OwnStands s body i

abbrev pub AllStand : Scope → Statements → List Item → Type 0
AllStand s body [] = Unit {0}
AllStand s body (i ∷ items) = ItemStands s body i × AllStand s body items
