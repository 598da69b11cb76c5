use Rattle.std.proofs.Common.{◌∙◌, ap, length, refl, subst, sym}
use Rattle.cp_ends.proofs.Vocabulary.{Discipline}
use Rattle.cp_machine.specs.declared.state.State.{State}
use Rattle.cp_machine.specs.System.{machine_of}
use Rattle.cp_parts.specs.Parts.{IsPartRow}
use Rattle.cp_parts.proofs.Pieces.{pieces_same}
use Rattle.cp_stretches.specs.Cached.{IsCache}
use Rattle.cp_ends.specs.ByRows.{with_standing}
use Rattle.cp_ends.specs.Halves.{width_of}
use Rattle.cp_ends.proofs.Keeping.{states_on}
use Rattle.cp_ends.proofs.RowsVisited.{kept_found}
use Rattle.cp_ends.proofs.rows.RowSearch.find_row.Goals as goal

pub copy_from_slice-requires : goal.copy_from_slice-requires
copy_from_slice-requires g c = c.args.self.now.row.ok.0 ∙ c.requires.room.row ∙ ap width_of (sym c.find_row.ensures.table) ∙ sym (ap length c.deref.ensures.value ∙ c.in_ok-find_row.ensures.standing.row.long)

pub returns-clause-room : goal.returns-clause-room
returns-clause-room g c = record { ruled = c.requires.room.ruled; row = ap length (c.copy_from_slice.ensures.items ∙ c.deref.ensures.value) ∙ c.in_ok-find_row.ensures.standing.row.long }

pub returns-clause-kept : goal.returns-clause-kept
returns-clause-kept g c = λ standing.
    (let r = c.args.job.now.run.program.now in
    let found = c.args.self.now.found in
    let old = with_standing found standing in
    let lists = found.states.lists in
    let cache = subst (λ (d : Discipline). IsCache r d c.find_row.new.self) (sym c.requires.room.ruled) c.in_ok-find_row.ensures.cache in
    kept_found r old _
    (record { table = c.find_row.ensures.table; ruled = refl; lists = pieces_same lists.items.items lists.ends.items; store = c.find_row.ensures.kept })
    (λ states h. states_on r old.states _ states refl refl refl (record { table = c.find_row.ensures.table; ruled = refl; lists = pieces_same lists.items.items lists.ends.items; store = c.find_row.ensures.kept }) cache c.in_ok-find_row.ensures.standing h)
    refl refl)

pub returns-clause-row : goal.returns-clause-row
returns-clause-row g c =
    let cache = c.find_row.new.self in
    let standing = c.find_row.new.standing in
    let own = c.args.self.now.found.states.standing.state in
    subst (IsPartRow cache.store cache.table (machine_of own)) (sym (c.copy_from_slice.ensures.items ∙ c.deref.ensures.value)) (subst (λ (s : State). IsPartRow cache.store cache.table (machine_of s) standing.row.items) c.find_row.ensures.same c.in_ok-find_row.ensures.standing.row)
