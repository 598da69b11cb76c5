use Rattle.std.proofs.Common.{◌∙◌, inl, inr, subst, sym}
use Rattle.cp_machine.specs.Machine.{machine_of}
use Rattle.cp_machine.specs.declared.process.Status.{Status}
use Rattle.cp_states.specs.Numbers.{number_at}
use Rattle.cp_effect_laws.specs.Parts.{IsSettled, status_at}
use Rattle.cp_parts.specs.Placed.{places_of}
use Rattle.cp_effects.specs.Noting.{among}
use Rattle.cp_effects.proofs.Statuses.{one_status}
use Rattle.cp_effects.proofs.settled.may_stay.Goals as goal

pub returns-then-has-had : goal.returns-then-has-had
returns-then-has-had c = λ _ s m was is.
    (let q = c.args.number in
    let after = machine_of c.args.state.now in
    inl (one_status s (status_at after q) (status_at m q) (number_at c.args.after.now q) (number_at c.args.before.now q) is was (sym c.number_in-has.ensures ∙ c.if-has-had.true ∙ c.number_in-had.ensures)))

pub returns : goal.returns
returns c = λ is s m was now.
    inr (subst (λ (x : Status). IsSettled (places_of c.args.table.now) (among c.args.touched.now.places.items) c.args.pid c.args.number x) c.status_of-status.ensures (c.is_settled.ensures is))
