-- Which routine a call executes, by its name.
use Rattle.std.specs.Prelude.{[], ◌∷◌, Option, Some, None}
use Rattle.cp_meaning.specs.Names.{Name}
use Rattle.cp_meaning.specs.Scopes.{Scope, routine_meaning}
use Rattle.cp_meaning.specs.State.{Call}
use Rattle.cp_resolved.specs.Openings.{Opening}
use Rattle.cp_legend_laws.specs.Statements.{routine_text}

-- the routine that was declared last of those that are visible
abbrev pub latest_routine : Scope → Name
latest_routine [] = []
latest_routine ((x, routine_meaning r) ∷ s) = x
latest_routine (d ∷ s) = latest_routine s

-- No routine is declared inside another one, so in the body of a routine it is the routine itself.
abbrev pub routine_of : Call → Name
routine_of c = latest_routine c.scope

-- the name of a routine by its number among all; an initial statement has none
abbrev pub name_of : Option Opening → Name
name_of None = []
name_of (Some o) = routine_text o
