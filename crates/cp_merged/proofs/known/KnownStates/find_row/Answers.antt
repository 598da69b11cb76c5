use Rattle.std.proofs.Common.{◌∙◌, ◌+◌, ap, subst, sym, refl}
use Rattle.cp_key.proofs.Owned.{machine_own}
use Rattle.cp_merged.proofs.Words.{Discipline, State, machine_of, width_of}
use Rattle.cp_parts.specs.Parts.{IsPartRow}
use Rattle.cp_stretches.specs.Cached.{IsCache}
use Rattle.cp_stretches.proofs.Becoming.{own_like}
use Rattle.cp_merged.proofs.KnownRows.{found_row}
use Rattle.cp_merged.proofs.known.KnownStates.find_row.Goals as goal

pub returns-clause-known : goal.returns-clause-known
returns-clause-known c =
    let r = c.args.job.now.program.now in
    let state = c.find_row.new.standing.state in
    record {
      cached = subst (λ (d : Discipline). IsCache r d c.find_row.new.self) (sym c.requires.ruled) c.in_ok-find_row.ensures.cache;
      standing = record { own = own_like r state _ state.discipline refl refl refl refl c.in_ok-find_row.ensures.standing.own; row = c.in_ok-find_row.ensures.standing.row };
    }

pub returns-clause-arrival : goal.returns-clause-arrival
returns-clause-arrival c =
    let r = c.args.job.now.program.now in
    let state = c.args.self.now.standing.state in
    let cache = c.find_row.new.self in
    let standing = c.find_row.new.standing in
    let same = c.find_row.ensures.same in
    let parts = c.copy_from_slice.ensures.after ∙ c.deref.ensures.value in
    let is = subst (IsPartRow cache.store cache.table (machine_of state)) (sym parts) (subst (λ (s : State). IsPartRow cache.store cache.table (machine_of s) standing.row.items) same c.in_ok-find_row.ensures.standing.row) in
    let told = c.in_ok-row.ensures.number in
    let table = c.find_row.ensures.table in
    found_row r _ c.args.row.now c.copy_from_slice.new.self (machine_of state) c.output_position-end.result c.in_ok-row.field-0 (c.output_position-end.ensures ∙ ap width_of (sym table)) c.in_ok-find_row.ensures.cache.placed c.requires.same (machine_own r state c.requires.own) is
    (c.requires.long ∙ ap (λ t. width_of t + 1) (sym table)) (record { within = told.0; is = told.1 ∙ c.deref-2.ensures.value ∙ ap (λ (s : State). s.output.items) same })
