use Rattle.std.proofs.Common.{◌∙◌, ◌++◌, ap, refl, sym}
use Rattle.std.specs.Prelude.{◌||◌}
use Rattle.cp_machine.specs.Statements.{Stepped}
use Rattle.cp_machine.specs.System.{machine_of}
use Rattle.cp_ends.specs.Arrivals.{is_call}
use Rattle.cp_ends.proofs.Moving.{no_call}
use Rattle.cp_ends.proofs.told.ToldObserve.see_step.Goals as goal
use Rattle.cp_ends.proofs.told.ToldObserve.see_step.Goals.{in-Kernel, in_default}

pub returns-then-matches : goal.returns-then-matches
returns-then-matches g c = λ before x step h. (
  c.in_ok-extend_from_slice.ensures.items ∙ ap (λ l. l ++ c.output.result.now) h.0 ∙ ap (λ l. x.0.0 ++ l) (c.output.ensures ∙ ap (λ (s : Stepped). s.machine.output) (sym step)),
  elim c.match-matches.branch [
    | in-Kernel w ↦ ap (λ e. is_call e || x.0.1) (sym w.in-Kernel.is)
    | in_default w ↦ absurd (let both = sym w.matches-is ∙ c.if-matches.true in cc)
  ],
  refl,
  h.3,
)

pub returns-else-matches : goal.returns-else-matches
returns-else-matches g c = λ before x step h. (
  c.in_ok-extend_from_slice.ensures.items ∙ ap (λ l. l ++ c.output.result.now) h.0 ∙ ap (λ l. x.0.0 ++ l) (c.output.ensures ∙ ap (λ (s : Stepped). s.machine.output) (sym step)),
  elim c.match-matches.branch [
    | in-Kernel w ↦ absurd (let both = sym w.matches-is ∙ c.if-matches.false in cc)
    | in_default w ↦ h.1 ∙ ap (λ b. b || x.0.1) (sym (no_call c.args.event w.in_default.not-Kernel))
  ],
  refl,
  h.3,
)
