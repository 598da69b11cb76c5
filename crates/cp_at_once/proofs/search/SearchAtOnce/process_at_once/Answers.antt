use Rattle.std.proofs.Common.{◌∙◌, ap, length, subst, sym, refl}
use Rattle.cp_ends.proofs.GoingOn.{ok_to}
use Rattle.cp_ends.proofs.Rowwise.{written_long}
use Rattle.cp_ends.specs.Halves.{width_of}
use Rattle.cp_ends.specs.Rows.{IsRowFor}
use Rattle.cp_at_once.proofs.search.SearchAtOnce.process_at_once.Goals as goal
use Rattle.std.specs.Prelude.{IfSome, None, Option, Some}

-- what is found is so
found_so : {A : Type 0} (o : Option A) (P Q : A → Type 0) → IfSome o P → ((a : A) → P a → Q a) → IfSome o Q
found_so None P Q h f = h
found_so (Some a) P Q h f = f a h

pub process_at_once-requires-clause-row : goal.process_at_once-requires-clause-row
process_at_once-requires-clause-row c =
    let m = c.requires.row.0 in
    (m, subst (λ l. IsRowFor c.args.job.now.run.program.now c.args.self.now.found.kept.store l m) (sym c.deref.ensures.value) c.requires.row.1)

pub process_at_once-requires-clause-ahead : goal.process_at_once-requires-clause-ahead
process_at_once-requires-clause-ahead c = ap length c.as_mut_slice-ahead.ensures.value ∙ c.requires.room.from ∙ sym c.requires.room.row ∙ sym (ap length c.deref.ensures.value)

pub returns-clause-room : goal.returns-clause-room
returns-clause-room c =
    let from = c.args.self.now.from in
    ok_to c.process_at_once.result _ _ c.process_at_once.ensures.kept (λ found kept.
    (let table = ap width_of (sym kept.table) in
    record {
      ruled = kept.ruled ∙ c.requires.room.ruled;
      row = c.requires.room.row ∙ table;
      from = written_long from.items c.process_at_once.new.ahead from.len (sym from.ok.0) ∙ from.ok.0 ∙ c.requires.room.from ∙ table;
    }))

pub returns-clause-store : goal.returns-clause-store
returns-clause-store c = c.process_at_once.ensures.kept

pub returns-clause-found : goal.returns-clause-found
returns-clause-found c = ok_to c.process_at_once.result _ _ c.process_at_once.ensures.kept (λ found kept. refl)

pub returns-clause-leg : goal.returns-clause-leg
returns-clause-leg c = ok_to c.process_at_once.result _ _ c.process_at_once.ensures.leg (λ found leg. found_so found _ _ leg (λ p on m is. on m (subst (λ l. IsRowFor c.args.job.now.run.program.now c.args.self.now.found.kept.store l m) (sym c.deref.ensures.value) is)))
