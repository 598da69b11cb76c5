use Rattle.std.proofs.Common.{◌≡◌, ◌∙◌, ◌++◌, ℕ, List, ap, subst, sym}
use Rattle.cp_slots.specs.Tables.{Tables}
use Rattle.cp_machine.specs.declared.discipline.Discipline.{Discipline}
use Rattle.cp_machine.specs.System.{Machine, machine_of, output_of}
use Rattle.cp_run.specs.Run.{may}
use Rattle.cp_run.specs.Silent.{without_output}
use Rattle.cp_run.specs.Slots.{slots}
use Rattle.cp_stretches.specs.Cached.{IsCache, StandsFor}
use Rattle.cp_ends.specs.Arrivals.{next_arrival}
use Rattle.cp_ends.specs.Holds.{same_key}
use Rattle.cp_ends.specs.Rows.{IsRowFor}
use Rattle.cp_ends.specs.declared.states.States.{States}
use Rattle.cp_ends.proofs.Rowwise.{stands_for}
use Rattle.cp_at_once.proofs.Staying.{row_stands}
use Rattle.cp_at_once.proofs.search.SearchAtOnce.go_slowly.Goals as goal

-- the row before the choice, read as a slice
here : (r : Tables) (store : States) (discipline : Discipline) (row slice : List ℕ) (m : Machine) → slice ≡ row → store.discipline ≡ discipline → IsRowFor r store row m → StandsFor r discipline store.cache.store store.cache.table m slice
here r store discipline row slice m same ruled is = subst (λ (d : Discipline). StandsFor r d store.cache.store store.cache.table m slice) ruled (subst (StandsFor r store.discipline store.cache.store store.cache.table m) (sym same) (stands_for r store row m is))

pub stand-requires-clause-cache : goal.stand-requires-clause-cache
stand-requires-clause-cache c = subst (λ (d : Discipline). IsCache c.args.job.now.run.program.now d c.args.self.now.found.kept.store.cache) c.requires.room.ruled c.requires.known.cached

pub stand-requires-clause-standing : goal.stand-requires-clause-standing
stand-requires-clause-standing c = c.requires.known.standing

pub stand-requires-clause-row : goal.stand-requires-clause-row
stand-requires-clause-row c = (c.requires.from.0, here c.args.job.now.run.program.now c.args.self.now.found.kept.store c.args.job.now.run.limits.discipline c.args.self.now.from.items _ c.requires.from.0 c.deref.ensures.value c.requires.room.ruled c.requires.from.1)

pub choose-requires-clause-own : goal.choose-requires-clause-own
choose-requires-clause-own c = c.stand.ensures.standing.own

pub choose-requires-clause-may : goal.choose-requires-clause-may
choose-requires-clause-may c =
    let r = c.args.job.now.run.program.now in
    let discipline = c.args.job.now.run.limits.discipline in
    let same = c.stand.ensures.state c.requires.from.0 (here r c.args.self.now.found.kept.store discipline c.args.self.now.from.items _ c.requires.from.0 c.deref.ensures.value c.requires.room.ruled c.requires.from.1) in
    ap (λ k. may (slots r discipline) k c.args.process) same ∙ c.requires.from.2

pub choose-requires-clause-quiet : goal.choose-requires-clause-quiet
choose-requires-clause-quiet c =
    let r = c.args.job.now.run.program.now in
    let same = c.stand.ensures.state c.requires.from.0 (here r c.args.self.now.found.kept.store c.args.job.now.run.limits.discipline c.args.self.now.from.items _ c.requires.from.0 c.deref.ensures.value c.requires.room.ruled c.requires.from.1) in
    ap output_of same ∙ c.requires.from.1.it.quiet

pub find_row-requires-clause-cache : goal.find_row-requires-clause-cache
find_row-requires-clause-cache c = subst (λ (d : Discipline). IsCache c.args.job.now.run.program.now d c.args.self.now.found.kept.store.cache) c.requires.room.ruled c.requires.known.cached

pub find_row-requires-clause-room : goal.find_row-requires-clause-room
find_row-requires-clause-room c = record { ruled = c.requires.room.ruled; row = c.requires.room.row; from = c.requires.room.from }

pub returns-clause-store : goal.returns-clause-store
returns-clause-store c = c.in_ok-find_row.ensures.store c.args.self.now.found.kept.store.standing

pub returns-clause-found : goal.returns-clause-found
returns-clause-found c = c.in_ok-find_row.ensures.found

pub returns-clause-goes : goal.returns-clause-goes
returns-clause-goes c = λ m is may.
    (let r = c.args.job.now.run.program.now in
    let discipline = c.args.job.now.run.limits.discipline in
    let steps = c.args.job.now.run.limits.steps in
    let p = c.args.process in
    let store = c.args.self.now.found.kept.store in
    let same = c.stand.ensures.state m (here r store discipline c.args.self.now.from.items _ m c.deref.ensures.value c.requires.room.ruled is) in
    let before = machine_of c.stand.new.standing.state in
    record {
      after = machine_of c.choose.new.state;
      is = λ due. row_stands r c.find_row.new.self.found.kept.store c.choose.new.state c.find_row.new.self.row.items c.choose.ensures.own c.in_ok-halt.ensures.quiet (c.in_ok-halt.ensures.ruled due ∙ ap (λ (k : Machine). k.discipline) same ∙ is.it.ruled ∙ c.requires.room.ruled ∙ sym c.in_ok-find_row.ensures.room.ruled) c.in_ok-find_row.ensures.row;
      goal = c.in_ok-halt.ensures.goal ∙ ap (λ k. (next_arrival (slots r discipline) without_output same_key steps k p).goal) same;
      shown = c.find_row.ensures.told ∙ c.in_ok-halt.ensures.shown ∙ ap (λ l. l ++ (next_arrival (slots r discipline) without_output same_key steps before p).shown) c.clear.ensures.items ∙ ap (λ k. (next_arrival (slots r discipline) without_output same_key steps k p).shown) same;
    })
