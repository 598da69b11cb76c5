use Rattle.std.proofs.Common.{◌≡◌, ◌∙◌, ap, false, if◌then◌else◌, sym, true, Bool}
use Rattle.std.proofs.lemmas.Bool.{eq-eqb, eqb-true, false≢true}
use Rattle.cp_machine.specs.Machine.{is_pending}
use Rattle.cp_run.specs.declared.outcome.Turn.TheVariants.{Due}
use Rattle.cp_run.specs.Run.{settled_turn}
use Rattle.cp_run.specs.Slots.{slots}
use Rattle.cp_states.specs.Numbers.{number_at}
use Rattle.cp_stretches.proofs.Statuses.{is_free, is_wanted}
use Rattle.cp_stretches.proofs.numbers.StatusNumbers.turn_at.Goals as goal

pub returns-then-is_free : goal.returns-then-is_free
returns-then-is_free c = λ r s m discipline process can.
    (let t = c.args.table.now in
    let row = c.args.row.now in
    let free : is_pending m ≡ false = is_free r s t c.args.self.now m row can (eqb-true (number_at row t.processes) 0 (sym c.is_free.ensures ∙ c.if-is_free.true)) in
    c.settled_turn.ensures r s m discipline process can ∙ ap (λ (b : Bool). if b then Due else settled_turn (slots r discipline) m true process) (sym free))

pub returns-else-is_free : goal.returns-else-is_free
returns-else-is_free c = λ r s m discipline process can.
    (let t = c.args.table.now in
    let row = c.args.row.now in
    let wanted : is_pending m ≡ true = is_wanted r s t c.args.self.now m row can (λ e. false≢true (sym (sym c.is_free.ensures ∙ c.if-is_free.false) ∙ eq-eqb (number_at row t.processes) 0 e)) in
    ap (λ (b : Bool). if b then Due else settled_turn (slots r discipline) m true process) (sym wanted))
