-- The faults of a program, in reading order.
use Rattle.std.specs.Prelude.{false, ℕ, nat_lt, Bool, ◌||◌, if◌then◌else◌, List, [], ◌∷◌, None, Ok, Err}
use Rattle.cp_tree.specs.Syntax.{Program, Tree}
use Rattle.cp_scope.specs.declared.fault.CheckFault.{CheckFault}
use Rattle.cp_scope.specs.declared.fault.CheckFault.TheVariants as check_fault
use Rattle.cp_scope.specs.declared.fault.Rule.TheVariants.{C20}
use Rattle.cp_scope.specs.declared.count.Use.{Use}
use Rattle.cp_scope.specs.declared.shape.Census.{Census}
use Rattle.cp_scope.specs.Counts.{no_use}
use Rattle.cp_scope.specs.Scopes.{Scopes, census, start}
use Rattle.cp_scope.specs.Judged.{Judged}
use Rattle.cp_check.specs.declared.operand.Context.{Context}
use Rattle.cp_check.specs.Types.{Step, then_step}
use Rattle.cp_check.specs.Statements.{statements}
use Rattle.cp_check.specs.Headings.{after_faults}
use Rattle.cp_check.specs.Routines.{Opened, need_of, routine_steps}
use Rattle.cp_check.specs.Systems.{program_part_steps}

unfoldable pub declarations : Scopes → Program → Step
declarations s p = then_step (program_part_steps s p.parts) (λ a. routine_steps None a p.routines)

abbrev pub program_context : Context
program_context = record { owner = None; routine = None; is_quiet = false }

abbrev pub body_after : Program → Step → Opened
body_after p d = record { uses = after_faults d.faults (statements d.scopes program_context (Ok no_use) p.body.statements); scopes = d.scopes }

unfoldable pub declarations_and_body : Scopes → Program → Opened
declarations_and_body s p = body_after p (declarations s p)

-- the program's own process is the sixteenth
abbrev pub is_too_large : Census → Use → Bool
is_too_large c u = nat_lt 15 c.processes || (nat_lt 64 c.components || (nat_lt 8192 c.cells || (nat_lt 4096 c.need || nat_lt 4096 (need_of u))))

-- the limits count only where there is no other fault
abbrev pub limit_faults : ℕ → Scopes → Judged Use → List CheckFault
limit_faults at s (Ok u) = if is_too_large (census s.inner.names s.shapes) u then check_fault.Rule at C20 ∷ [] else []
limit_faults at s (Err fs) = fs

abbrev pub with_limits : ℕ → Opened → List CheckFault
with_limits at o = limit_faults at o.scopes o.uses

unfoldable pub faults_of : Tree → List CheckFault
faults_of t = with_limits t.program.period (declarations_and_body start t.program)
