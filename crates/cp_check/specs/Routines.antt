-- The rules of routines.
use Rattle.std.specs.Prelude.{false, ℕ, List, [], ◌∷◌, ◌++◌, Option, Some, None, Ok, Err}
use Rattle.cp_tree.specs.declared.declaration.SystemKind.{SystemKind}
use Rattle.cp_tree.specs.Syntax.{Routine}
use Rattle.cp_scope.specs.declared.types.ValueType.{ValueType}
use Rattle.cp_scope.specs.declared.count.Use.{Use}
use Rattle.cp_scope.specs.Counts.{plus, no_use}
use Rattle.cp_scope.specs.Scopes.{Scopes, body_shape, census, leave, settle, keep, withdraw}
use Rattle.cp_scope.specs.Judged.{Judged, faults}
use Rattle.cp_check.specs.declared.operand.Context.{Context}
use Rattle.cp_check.specs.declared.types.Spot.TheVariants.{Other}
use Rattle.cp_check.specs.Types.{Step, then_step, nothing}
use Rattle.cp_check.specs.Statements.{statements}
use Rattle.cp_check.specs.Declarations.{reserve_name, part_steps}
use Rattle.cp_check.specs.Headings.{after_faults, Headed, heading, announce_judged}

-- what is judged in a scope, and what is visible there
pub record Opened : Type 0 where
  pub uses : Judged Use
  pub scopes : Scopes

-- function calls, and the greatest need of what is called
abbrev pub need_of : Use → ℕ
need_of u = plus u.calls u.need

abbrev pub result_cells : Option ValueType → ℕ
result_cells (Some t) = 1
result_cells None = 0

-- a routine needs its parameters and variables, its result, and what its body takes
abbrev pub routine_use : ℕ → Option ValueType → Use → Use
routine_use cells t u = record { calls = 0; need = plus (plus cells (result_cells t)) (need_of u); delays = u.delays }

abbrev pub routine_context : Option SystemKind → Routine → Context
routine_context owner r = record { owner = owner; routine = Some r.name.at; is_quiet = false }

-- the local declarations and the body
abbrev pub body_after : Option SystemKind → Routine → Step → Opened
body_after owner r d = record { uses = after_faults d.faults (statements d.scopes (routine_context owner r) (Ok no_use) r.body.statements); scopes = d.scopes }

unfoldable pub enter_routine : Option SystemKind → Routine → Scopes → Opened
enter_routine owner r s = body_after owner r (part_steps Other s r.parts)

-- out of a routine
unfoldable pub close_routine : Routine → Option ValueType → Use → Scopes → Scopes
close_routine r t u s = settle (keep (leave s) r.body.at (body_shape (routine_use (census s.inner.names s.shapes).cells t u)))

abbrev pub close_routine_of : Routine → Judged (Option ValueType) → Judged Use → Scopes → Scopes
close_routine_of r (Ok t) (Ok u) s = close_routine r t u s
close_routine_of r (Ok t) (Err fs) s = settle (withdraw (leave s) r.name.name)
close_routine_of r (Err fs) j s = settle (leave s)

abbrev pub body_step : Routine → Judged (Option ValueType) → Opened → Step
body_step r t o = record { faults = faults t ++ faults o.uses; scopes = close_routine_of r t o.uses o.scopes }

abbrev pub routine_after_heading : Option SystemKind → Routine → Headed → Step
routine_after_heading owner r h = body_step r h.result (enter_routine owner r (announce_judged r h.result h.scopes))

unfoldable pub routine_step : Option SystemKind → Scopes → Routine → Step
routine_step owner s r = routine_after_heading owner r (heading owner r (reserve_name s r.name))

-- the routines of a system type or of the program
unfoldable pub routine_steps : Option SystemKind → Scopes → List Routine → Step
routine_steps owner s [] = nothing s
routine_steps owner s (r ∷ rs) = then_step (routine_step owner s r) (λ after. routine_steps owner after rs)
