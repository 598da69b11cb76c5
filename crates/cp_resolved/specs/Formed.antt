-- What the arguments of the standard procedures are on slots.
use Rattle.std.specs.Prelude.{◌≡◌, Some}
use Rattle.cp_tree.specs.Syntax.{Expression, Expressions, no_expressions, more_expressions}
use Rattle.cp_meaning.specs.Types.{Range, ordinal, queue_type}
use Rattle.cp_meaning.specs.Scopes.{Standard, delay_procedure, continue_procedure, display_procedure}
use Rattle.cp_slots.specs.Code as code
use Rattle.cp_resolved.specs.Layouts.{Here}
use Rattle.cp_resolved.specs.Compiled.{as_ordinal, as_place, expression_form}

pub record HasOrdinal (h : Here) (e : Expression) : Type 0 where
  pub range : Range
  pub code : code.OrdinalExpression
  pub formed : expression_form h e ≡ Some (record { ty = ordinal range; form = as_ordinal code })

pub record HasQueue (h : Here) (e : Expression) : Type 0 where
  pub place : code.Place
  pub formed : expression_form h e ≡ Some (record { ty = queue_type; form = as_place place })

abbrev pub IsPerformed : Here → Standard → Expressions → Type 0
IsPerformed h display_procedure (more_expressions e no_expressions) = HasOrdinal h e
IsPerformed h delay_procedure (more_expressions e no_expressions) = HasQueue h e
IsPerformed h continue_procedure (more_expressions e no_expressions) = HasQueue h e
IsPerformed h q es = ⊥
