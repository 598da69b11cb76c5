use Rattle.std.proofs.Common.{◌∙◌, None, Some, get_or-set_other, get_or-set_same, refl}
use Rattle.cp_effects.proofs.Admitted.{admissions_more}
use Rattle.cp_effects.proofs.admissions.AdmissionTable.remember.Goals as goal

pub returns-clause-here : goal.returns-clause-here
returns-clause-here c = get_or-set_same c.make_room.new.parts.items c.args.key (Some c.args.part) None c.in_ok-make_room.ensures.long

pub returns-clause-known : goal.returns-clause-known
returns-clause-known c = λ s t r pid monitor before are keyed is.
    (let table = c.args.self.now in
    let parts = c.make_room.new.parts.items in
    let key = c.args.key in
    admissions_more s t r table are _ key pid monitor before c.args.part refl
    (get_or-set_same parts key (Some c.args.part) None c.in_ok-make_room.ensures.long) (λ k ne. get_or-set_other parts key k (Some c.args.part) None ne ∙ c.make_room.ensures.same k) keyed is)
