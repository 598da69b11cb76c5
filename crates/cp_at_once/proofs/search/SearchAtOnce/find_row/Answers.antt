use Rattle.std.proofs.Common.{◌∙◌, ap, length, refl, subst, sym}
use Rattle.cp_machine.specs.declared.discipline.Discipline.{Discipline}
use Rattle.cp_machine.specs.declared.state.State.{State}
use Rattle.cp_machine.specs.System.{machine_of}
use Rattle.cp_parts.specs.Parts.{IsPartRow}
use Rattle.cp_stretches.specs.Cached.{IsCache}
use Rattle.cp_ends.specs.Halves.{width_of}
use Rattle.cp_at_once.proofs.Staying.{stays_with}
use Rattle.cp_at_once.proofs.search.SearchAtOnce.find_row.Goals as goal

pub copy_from_slice-requires : goal.copy_from_slice-requires
copy_from_slice-requires c = c.args.self.now.row.ok.0 ∙ c.requires.room.row ∙ ap width_of (sym c.find_row.ensures.table) ∙ sym (ap length c.deref.ensures.value ∙ c.in_ok-find_row.ensures.standing.row.long)

pub returns-clause-room : goal.returns-clause-room
returns-clause-room c = record { ruled = c.requires.room.ruled; row = ap length (c.copy_from_slice.ensures.items ∙ c.deref.ensures.value) ∙ c.in_ok-find_row.ensures.standing.row.long; from = c.requires.room.from ∙ ap width_of (sym c.find_row.ensures.table) }

pub returns-clause-store : goal.returns-clause-store
returns-clause-store c = λ standing.
    (let r = c.args.job.now.run.program.now in
    let store = c.args.self.now.found.kept.store in
    let cache = subst (λ (d : Discipline). IsCache r d c.find_row.new.self) (sym c.requires.room.ruled) c.in_ok-find_row.ensures.cache in
    stays_with r (record store { standing = standing }) c.find_row.new.self c.find_row.new.standing c.find_row.ensures.table c.find_row.ensures.kept (λ h. cache) (λ h. c.in_ok-find_row.ensures.standing))

pub returns-clause-found : goal.returns-clause-found
returns-clause-found c = refl

pub returns-clause-row : goal.returns-clause-row
returns-clause-row c =
    let cache = c.find_row.new.self in
    let standing = c.find_row.new.standing in
    let own = c.args.self.now.found.kept.store.standing.state in
    subst (IsPartRow cache.store cache.table (machine_of own)) (sym (c.copy_from_slice.ensures.items ∙ c.deref.ensures.value)) (subst (λ (s : State). IsPartRow cache.store cache.table (machine_of s) standing.row.items) c.find_row.ensures.same c.in_ok-find_row.ensures.standing.row)
