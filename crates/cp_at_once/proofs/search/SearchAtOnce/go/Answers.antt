use Rattle.std.proofs.Common.{◌∙◌, List, [], ap, length, refl, subst, sym}
use Rattle.cp_machine.specs.declared.shown.Shown.{Shown}
use Rattle.cp_run.specs.declared.outcome.Halt.{Halt}
use Rattle.cp_stretches.specs.Stretching.{LeadsTo}
use Rattle.cp_ends.specs.Halves.{width_of}
use Rattle.cp_ends.specs.Rows.{IsRowFor}
use Rattle.cp_ends.specs.declared.end.End.{End}
use Rattle.cp_ends.proofs.GoingOn.{ok_to}
use Rattle.cp_ends.proofs.Rowwise.{some_of, written_long, written_over}
use Rattle.cp_ends.specs.ByRows.{Goes}
use Rattle.cp_at_once.specs.ByRows.{KeepStore}
use Rattle.cp_at_once.proofs.Going.{halts_so}
use Rattle.cp_at_once.proofs.Staying.{stays_on}
use Rattle.cp_at_once.proofs.search.SearchAtOnce.go.Goals as goal

pub copy_from_slice-requires : goal.copy_from_slice-requires
copy_from_slice-requires c = c.args.self.now.row.ok.0 ∙ c.requires.room.row ∙ sym c.requires.room.from ∙ sym (ap length c.deref.ensures.value)

pub leads-requires-clause-here : goal.leads-requires-clause-here
leads-requires-clause-here c =
    let store = c.args.self.now.found.kept.store in
    let m = c.requires.from.0 in
    ([], m, c.requires.known, subst (λ l. IsRowFor c.args.job.now.run.program.now store l m) (sym (c.as_mut_slice-row.ensures.value ∙ c.copy_from_slice.ensures.items ∙ c.deref.ensures.value)) c.requires.from.1, c.requires.from.2)

pub returns-in-Some-clause-store : goal.returns-in-Some-clause-store
returns-in-Some-clause-store c = record { known = c.in_ok-halt.ensures.kept []; rows = c.leads.ensures.rows; halved = c.leads.ensures.lists; table = c.leads.ensures.table; ruled = c.leads.ensures.ruled }

pub returns-in-Some-clause-found : goal.returns-in-Some-clause-found
returns-in-Some-clause-found c = refl

pub returns-in-Some-clause-room : goal.returns-in-Some-clause-room
returns-in-Some-clause-room c =
    let row = c.copy_from_slice.new.self in
    let table = ap width_of (sym c.leads.ensures.table) in
    record {
      ruled = c.leads.ensures.ruled ∙ c.requires.room.ruled;
      row = written_long row.items c.leads.new.row row.len (sym row.ok.0) ∙ row.ok.0 ∙ ap length (c.copy_from_slice.ensures.items ∙ c.deref.ensures.value) ∙ c.requires.room.from ∙ table;
      from = c.requires.room.from ∙ table;
    }

pub returns-in-Some-clause-goes : goal.returns-in-Some-clause-goes
returns-in-Some-clause-goes c = λ m is may.
    (let r = c.args.job.now.run.program.now in
    let discipline = c.args.job.now.run.limits.discipline in
    let steps = c.args.job.now.run.limits.steps in
    let p = c.args.process in
    let old = c.args.self.now.found.kept.store in
    let kept = c.leads.new.self in
    let row = c.copy_from_slice.new.self in
    let new = c.leads.new.row in
    let shown = c.leads.new.shown.items in
    let halt = c.in-Some.halt in
    let here = subst (λ l. IsRowFor r old l m) (sym (c.as_mut_slice-row.ensures.value ∙ c.copy_from_slice.ensures.items ∙ c.deref.ensures.value)) is in
    let before = some_of _ halt _ c.in-Some.is c.in_ok-halt.ensures.leads m here may in
    let leads = subst (λ (l : List Shown). LeadsTo r discipline kept.cache.store kept.cache.table steps m p l halt new shown) c.clear.ensures.items before in
    let goes = halts_so (record c.args.self.now.told { values = c.leads.new.shown }) r discipline steps m p halt kept new (c.leads.ensures.ruled ∙ c.requires.room.ruled) leads in
    let long = leads.stands.stands.long ∙ ap width_of c.leads.ensures.table ∙ sym c.requires.room.from ∙ sym (ap length (c.copy_from_slice.ensures.items ∙ c.deref.ensures.value)) ∙ sym row.ok.0 in
    let ends = subst (λ (h : Halt End). Goes r discipline steps m p h (IsRowFor r kept new) shown) (sym c.ended.ensures) goes in
    subst (λ l. Goes r discipline steps m p c.ended.result (IsRowFor r kept l) shown) (sym (written_over row.items new row.len long)) ends)

pub go_slowly-requires-clause-room : goal.go_slowly-requires-clause-room
go_slowly-requires-clause-room c =
    let row = c.copy_from_slice.new.self in
    let table = ap width_of (sym c.leads.ensures.table) in
    record {
      ruled = c.leads.ensures.ruled ∙ c.requires.room.ruled;
      row = written_long row.items c.leads.new.row row.len (sym row.ok.0) ∙ row.ok.0 ∙ ap length (c.copy_from_slice.ensures.items ∙ c.deref.ensures.value) ∙ c.requires.room.from ∙ table;
      from = c.requires.room.from ∙ table;
    }

pub go_slowly-requires-clause-known : goal.go_slowly-requires-clause-known
go_slowly-requires-clause-known c = c.in_ok-halt.ensures.kept [] c.requires.known

pub go_slowly-requires-clause-from : goal.go_slowly-requires-clause-from
go_slowly-requires-clause-from c = (c.requires.from.0, c.leads.ensures.rows c.args.self.now.from.items c.requires.from.0 c.requires.from.1, c.requires.from.2)

pub returns-in-None-clause-store : goal.returns-in-None-clause-store
returns-in-None-clause-store c =
    let r = c.args.job.now.run.program.now in
    let old = c.args.self.now.found.kept.store in
    let first : KeepStore r old c.leads.new.self = record { known = c.in_ok-halt.ensures.kept []; rows = c.leads.ensures.rows; halved = c.leads.ensures.lists; table = c.leads.ensures.table; ruled = c.leads.ensures.ruled } in
    ok_to c.go_slowly.result _ _ c.go_slowly.ensures.store (λ halt more. stays_on r old c.leads.new.self _ first more)

pub returns-in-None-clause-found : goal.returns-in-None-clause-found
returns-in-None-clause-found c = c.go_slowly.ensures.found

pub returns-in-None-clause-goes : goal.returns-in-None-clause-goes
returns-in-None-clause-goes c = ok_to c.go_slowly.result _ _ c.go_slowly.ensures.goes (λ halt goes m is may. goes m (c.leads.ensures.rows c.args.self.now.from.items m is) may)
