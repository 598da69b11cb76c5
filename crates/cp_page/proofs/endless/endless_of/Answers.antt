use Rattle.std.specs.Prelude.{ℕ, IfSome, None, Option, Some, true}
use Rattle.cp_slots.specs.Tables.{Tables}
use Rattle.cp_machine.specs.declared.discipline.Discipline.{Discipline}
use Rattle.cp_ends.specs.declared.found.Found.{Found}
use Rattle.cp_waits.specs.Named.{TellAsked, TellOfAll}
use Rattle.cp_waits.specs.declared.waiting.Waits.{Waits}
use Rattle.cp_page.proofs.endless.endless_of.Goals as goal

told : (r : Tables) (gates : Discipline) (steps : ℕ) (found : Found) (waits : Option Waits) → TellAsked r gates steps true found waits → IfSome waits (λ w. TellOfAll r gates steps found w)
told r gates steps found None h = tt
told r gates steps found (Some w) h = h.2

pub returns-clause-waits : goal.returns-clause-waits
returns-clause-waits g c =
    let x = c.in_ok-found.field-0 in
    told c.args.subject.program.now c.args.subject.limits.discipline c.args.subject.limits.steps x.found x.waits c.in_ok-found.ensures.waits
