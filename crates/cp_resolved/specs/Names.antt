-- The names of the tables as laws: what `laid` makes of the names of a program.
use Rattle.std.specs.Prelude.{◌≡◌, List, [], ◌∷◌}
use Rattle.cp_tree.specs.Syntax.{Program, Tree}
use Rattle.cp_layout.specs.Layers.{Layer}
use Rattle.cp_layout.specs.Laid.{laid}
use Rattle.cp_resolved.specs.Begun.{all_begun}
use Rattle.cp_resolved.specs.Enumerations.{enumerations_of, constants_before, constant_names}
use Rattle.cp_resolved.specs.InStep.{Numbering, InStep}
use Rattle.cp_resolved.specs.Small.{IsSmallProgram, AreNumbered}
use Rattle.cp_resolved.specs.Fit.{AreFitParts, nothing_declared}
use Rattle.cp_resolved.specs.Openings.{Opening, openings_of, numbering_of}

-- a program that spells tokens, few of them, and whose system types have parameters as the rules want them
pub record IsPlain (p : Program) : Type 0 where
  pub small : IsSmallProgram p
  pub fit : AreFitParts nothing_declared p.parts
  pub numbered : AreNumbered (constants_before p) 0 (enumerations_of p)

-- In the states in which the statements of routines begin, the names are in step with the scopes of the routines.
abbrev pub AreInStep : Numbering → List Layer → List Opening → Type 0
AreInStep k [] [] = Unit {0}
AreInStep k (l ∷ ls) (o ∷ os) = InStep k l.types l.names o.meaning.scope × AreInStep k ls os
AreInStep k [] (o ∷ os) = ⊥
AreInStep k (l ∷ ls) [] = ⊥

pub record NamesAre (t : Tree) : Type 0 where
  -- where the statements of each routine begin, the names of the tables are those of its scope, in the same order, and stand for the same
  pub in_step : AreInStep (numbering_of t.program) (all_begun t) (openings_of t.program)
  -- the tables have the spellings of the constants of all enumerations
  pub constants : (laid t).names ≡ constant_names t.program

abbrev pub NamesLaw : Type 0
NamesLaw = (t : Tree) → IsPlain t.program → NamesAre t
