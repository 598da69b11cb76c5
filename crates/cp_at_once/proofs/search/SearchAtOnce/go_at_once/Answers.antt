use Rattle.std.proofs.Common.{◌∙◌, ap, length, subst, sym}
use Rattle.cp_ends.proofs.GoingOn.{ok_to}
use Rattle.cp_ends.specs.Rows.{IsRowFor}
use Rattle.cp_at_once.proofs.search.SearchAtOnce.go_at_once.Goals as goal

pub copy_from_slice-requires : goal.copy_from_slice-requires
copy_from_slice-requires c = c.args.self.now.from.ok.0 ∙ c.requires.room.from ∙ sym c.requires.room.row ∙ sym (ap length c.deref.ensures.value)

pub go-requires-clause-room : goal.go-requires-clause-room
go-requires-clause-room c = record { ruled = c.requires.room.ruled; row = c.requires.room.row; from = ap length (c.copy_from_slice.ensures.items ∙ c.deref.ensures.value) ∙ c.requires.room.row }

pub go-requires-clause-from : goal.go-requires-clause-from
go-requires-clause-from c =
    let m = c.requires.row.0 in
    (m, subst (λ l. IsRowFor c.args.job.now.run.program.now c.args.self.now.found.kept.store l m) (sym (c.copy_from_slice.ensures.items ∙ c.deref.ensures.value)) c.requires.row.1, c.requires.row.2)

pub returns-clause-goes : goal.returns-clause-goes
returns-clause-goes c = ok_to c.go.result _ _ c.go.ensures.goes (λ halt on m is may. on m (subst (λ l. IsRowFor c.args.job.now.run.program.now c.args.self.now.found.kept.store l m) (sym (c.copy_from_slice.ensures.items ∙ c.deref.ensures.value)) is) may)
