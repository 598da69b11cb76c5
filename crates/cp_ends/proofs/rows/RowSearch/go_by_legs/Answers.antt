use Rattle.cp_ends.proofs.Vocabulary.{◌∙◌, ap, length, subst, sym, Shown, List}
use Rattle.cp_run.specs.declared.outcome.Halt.{Halt}
use Rattle.cp_stretches.specs.Stretching.{LeadsTo}
use Rattle.cp_ends.specs.ByRows.{GoesAsTold, KeepFound}
use Rattle.cp_ends.specs.Halves.{width_of}
use Rattle.cp_ends.specs.Rows.{IsRowFor}
use Rattle.cp_ends.specs.declared.end.End.{End}
use Rattle.cp_ends.proofs.GoingOn.{ok_to}
use Rattle.cp_ends.proofs.RowsVisited.{kept_both}
use Rattle.cp_ends.proofs.Rowwise.{goes_so, some_of, written_long, written_over}
use Rattle.cp_ends.proofs.rows.RowSearch.go_by_legs.Goals as goal

pub copy_from_slice-requires : goal.copy_from_slice-requires
copy_from_slice-requires g c = c.args.self.now.row.ok.0 ∙ c.requires.room.row ∙ sym c.requires.here.3.is.long ∙ sym (ap length c.as_slice.ensures.value)

pub see_choice-requires-clause-here : goal.see_choice-requires-clause-here
see_choice-requires-clause-here g c =
    let kept = c.args.self.now.found.states in
    let m = c.requires.here.1 in
    (c.requires.here.0.states, m, c.requires.here.2.states, subst (λ l. IsRowFor c.args.job.now.run.program.now kept l m) (sym (c.as_mut_slice-row.ensures.value ∙ c.copy_from_slice.ensures.items ∙ c.as_slice.ensures.value)) c.requires.here.3, c.requires.here.4)

pub returns-in-Some-clause-kept : goal.returns-in-Some-clause-kept
returns-in-Some-clause-kept g c = record { holds = λ f h. record { states = c.in_ok-halt.ensures.kept f.states h.states; ends = h.ends; values = h.values }; rows = λ row m is. c.see_choice.ensures.rows row m is; halved = λ numbers row is. c.see_choice.ensures.lists numbers row is }

pub returns-in-Some-clause-room : goal.returns-in-Some-clause-room
returns-in-Some-clause-room g c =
    let row = c.copy_from_slice.new.self in
    record {
      ruled = c.see_choice.ensures.ruled ∙ c.requires.room.ruled;
      row = written_long row.items c.see_choice.new.row row.len (sym row.ok.0) ∙ row.ok.0 ∙ ap length (c.copy_from_slice.ensures.items ∙ c.as_slice.ensures.value) ∙ c.requires.here.3.is.long ∙ ap width_of (sym c.see_choice.ensures.table);
    }

pub returns-in-Some-clause-goes : goal.returns-in-Some-clause-goes
returns-in-Some-clause-goes g c = λ m is may look.
    (let r = c.args.job.now.run.program.now in
    let discipline = c.args.job.now.run.limits.discipline in
    let steps = c.args.job.now.run.limits.steps in
    let p = c.args.process in
    let old = c.args.self.now.found.states in
    let kept = c.see_choice.new.self in
    let row = c.copy_from_slice.new.self in
    let new = c.see_choice.new.row in
    let told = c.see_choice.new.told in
    let halt = c.in-Some.halt in
    let here = subst (λ l. IsRowFor r old l m) (sym (c.as_mut_slice-row.ensures.value ∙ c.copy_from_slice.ensures.items ∙ c.as_slice.ensures.value)) is in
    let before = some_of _ halt _ c.in-Some.is c.in_ok-halt.ensures.leads m here may in
    let seen = some_of _ halt _ c.in-Some.is c.in_ok-halt.ensures.sees m here may look in
    let leads = subst (λ (l : List Shown). LeadsTo r discipline kept.cache.store kept.cache.table steps m p l halt new told.values.items) c.clear.ensures.items before in
    let goes = goes_so r discipline g.P.Sight.sees steps m p halt kept new told (c.see_choice.ensures.ruled ∙ c.requires.room.ruled) leads c.in_ok-halt.ensures.again seen in
    let long = leads.stands.stands.long ∙ ap width_of c.see_choice.ensures.table ∙ sym c.requires.here.3.is.long ∙ sym (ap length (c.copy_from_slice.ensures.items ∙ c.as_slice.ensures.value)) ∙ sym row.ok.0 in
    let ends = subst (λ (h : Halt End). GoesAsTold g.P.Sight.sees r discipline steps m p h (IsRowFor r kept new) told) (sym c.ended.ensures) goes in
    subst (λ l. GoesAsTold g.P.Sight.sees r discipline steps m p c.ended.result (IsRowFor r kept l) told) (sym (written_over row.items new row.len long)) ends)

pub go_slowly-requires-clause-room : goal.go_slowly-requires-clause-room
go_slowly-requires-clause-room g c =
    let row = c.copy_from_slice.new.self in
    record {
      ruled = c.see_choice.ensures.ruled ∙ c.requires.room.ruled;
      row = written_long row.items c.see_choice.new.row row.len (sym row.ok.0) ∙ row.ok.0 ∙ ap length (c.copy_from_slice.ensures.items ∙ c.as_slice.ensures.value) ∙ c.requires.here.3.is.long ∙ ap width_of (sym c.see_choice.ensures.table);
    }

pub go_slowly-requires-clause-here : goal.go_slowly-requires-clause-here
go_slowly-requires-clause-here g c =
    let h = c.requires.here.2 in
    (c.requires.here.0, c.requires.here.1, record { states = c.in_ok-halt.ensures.kept c.requires.here.0.states h.states; ends = h.ends; values = h.values }, c.see_choice.ensures.rows c.args.from.now.row.items c.requires.here.1 c.requires.here.3, c.requires.here.4)

pub returns-in-None-clause-kept : goal.returns-in-None-clause-kept
returns-in-None-clause-kept g c =
    let r = c.args.job.now.run.program.now in
    let found = c.args.self.now.found in
    let first : KeepFound r found (record found { states = c.see_choice.new.self }) = record { holds = λ f h. record { states = c.in_ok-halt.ensures.kept f.states h.states; ends = h.ends; values = h.values }; rows = λ row m is. c.see_choice.ensures.rows row m is; halved = λ numbers row is. c.see_choice.ensures.lists numbers row is } in
    ok_to c.go_slowly.result _ _ c.go_slowly.ensures.kept (λ halt kept. kept_both r found (record found { states = c.see_choice.new.self }) _ first kept)

pub returns-in-None-clause-goes : goal.returns-in-None-clause-goes
returns-in-None-clause-goes g c = ok_to c.go_slowly.result _ _ c.go_slowly.ensures.goes (λ halt goes m is may look. goes m (c.see_choice.ensures.rows c.args.from.now.row.items m is) may)
