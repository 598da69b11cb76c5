-- What an item does, by the forms of what it stands for: each of its parts is the form of an expression, of a variable, of arguments or of a component.
-- Nothing here says where the item stands.
use Rattle.std.specs.Prelude.{◌≡◌, ℕ, Bool, List, [], ◌∷◌, Option, Some}
use Rattle.cp_tree.specs.declared.constant.Identifier.{Identifier}
use Rattle.cp_tree.specs.Syntax.{Expression, Expressions, Designator}
use Rattle.cp_slots.specs.declared.place.PlaceOrigin.{PlaceOrigin}
use Rattle.cp_slots.specs.Code as code
use Rattle.cp_meaning.specs.Names.{Name, temporary}
use Rattle.cp_meaning.specs.Types.{Range, Ty, ordinal, queue_type}
use Rattle.cp_meaning.specs.Scopes.{find}
use Rattle.cp_meaning.specs.State.{Item, function_call}
use Rattle.cp_meaning.specs.Systems.{system_of}
use Rattle.cp_meaning.specs.Expressions.{routine_called, result_called}
use Rattle.cp_meaning.specs.Lifting.{expression_calls, expressions_calls, designator_calls}
use Rattle.cp_resolved.specs.Compiled.{as_place, Formed, a_variable, a_component, begun_form, expression_form, designator_form}
use Rattle.cp_resolved.specs.Layouts.{Here, frame_here, look}
use Rattle.cp_resolved.specs.Stands.{IsOrdinal, AreGiven, IsCalled, AssignedBy, ResultGoes, result_cell}

-- the temporary name of each function call is a variable of the frame, of the type of the result
abbrev pub AreHeld : Here → List Item → Type 0
AreHeld h [] = Unit {0}
AreHeld h (function_call at d es ∷ is) = (look (temporary at) (frame_here h).variables ≡ Some (result_called (routine_called h.program h.scope d))) × AreHeld h is
AreHeld h (i ∷ is) = ⊥

-- the form of an expression that has an ordinal type
pub record IsCell (h : Here) (c : code.OrdinalExpression) : Type 0 where
  pub expression : Expression
  pub ty : Ty
  pub formed : IsOrdinal h expression ty c
  pub held : AreHeld h (expression_calls h.scope expression)

pub record IsQueue (h : Here) (p : code.Place) : Type 0 where
  pub expression : Expression
  pub formed : expression_form h expression ≡ Some (record { ty = queue_type; form = as_place p })
  pub held : AreHeld h (expression_calls h.scope expression)

-- the variable of a `for`
pub record IsCounter (h : Here) (o : PlaceOrigin) : Type 0 where
  pub name : Identifier
  pub range : Range
  pub variable : begun_form h name.name (find name.name h.scope) ≡ Some (a_variable (code.place o 0 code.no_indices) (ordinal range))

pub record Assigns (h : Here) (a : code.Action) : Type 0 where
  pub target : Designator
  pub expression : Expression
  pub place : code.Place
  pub ty : Ty
  pub value : Formed
  pub aimed : designator_form h target ≡ Some (a_variable place ty)
  pub formed : expression_form h expression ≡ Some value
  pub assigned : AssignedBy ty place value.ty value.form a
  pub chosen : AreHeld h (designator_calls h.scope target)
  pub held : AreHeld h (expression_calls h.scope expression)

pub record Calls (h : Here) (number : ℕ) (part : code.ComponentPlace) (is_entry : Bool) (xs : List code.Argument) (result : Option ℕ) : Type 0 where
  pub designator : Designator
  pub expressions : Expressions
  pub name : Option Name
  pub called : IsCalled h designator expressions number part is_entry xs
  pub goes : ResultGoes h name (h.layouts.meanings number).result
  pub cell : result ≡ result_cell h name
  pub chosen : AreHeld h (designator_calls h.scope designator)
  pub held : AreHeld h (expressions_calls h.scope expressions)

pub record Starts (h : Here) (part : code.ComponentPlace) (number : ℕ) (xs : List code.Argument) : Type 0 where
  pub target : Designator
  pub expressions : Expressions
  pub system : ℕ
  pub aimed : designator_form h target ≡ Some (a_component part system)
  pub given : AreGiven h (h.layouts.systems system).slots (system_of h.program system).parameters expressions xs
  pub initial : number ≡ (h.layouts.systems system).initial
  pub chosen : AreHeld h (designator_calls h.scope target)
  pub held : AreHeld h (expressions_calls h.scope expressions)

abbrev pub Means : Here → code.Action → Type 0
Means h code.nothing = Unit {0}
Means h (code.assign p c low high) = Assigns h (code.assign p c low high)
Means h (code.assign_set p b low high) = Assigns h (code.assign_set p b low high)
Means h (code.copy_cells p q size) = Assigns h (code.copy_cells p q size)
Means h (code.block list) = Unit {0}
Means h (code.choose c list other) = IsCell h c
Means h (code.select c arms) = IsCell h c
Means h (code.assert_that c said) = IsCell h c
Means h (code.while_do c list again) = IsCell h c
Means h (code.until c list again) = IsCell h c
Means h (code.for_do o low high from to down list) = IsCounter h o × IsCell h from × IsCell h to
Means h (code.cycle list) = Unit {0}
Means h (code.call number part is_entry xs result) = Calls h number part is_entry xs result
Means h (code.start part number xs) = Starts h part number xs
Means h (code.delay p) = IsQueue h p
Means h (code.continue_at p) = IsQueue h p
Means h (code.display c kind) = IsCell h c
