use Rattle.std.proofs.Common.{◌≡◌, ◌∙◌, ◌++◌, ap, drop, length, refl, subst, sym, take}
use Rattle.std.proofs.lemmas.List.{take_at}
use Rattle.cp_machine.specs.Machine.{Machine, in_line, machine_of}
use Rattle.cp_machine.proofs.CallerLemmas.{line_within}
use Rattle.cp_states.specs.Numbers.{number_at}
use Rattle.cp_parts.specs.Parts.{IsPartRow}
use Rattle.cp_parts.proofs.Keeping.{row_on}
use Rattle.cp_effects.specs.Admitting.{admitted_row, guard_position}
use Rattle.cp_effects.proofs.Admitting.{admission_row_law}
use Rattle.cp_stretches.proofs.Admitting.{admitted_long, guard_within, pid_waits}
use Rattle.cp_stretches.proofs.Growing.{cache_on}
use Rattle.cp_stretches.proofs.cache.LegCache.learn_admission.Goals as goal

pub stand-requires-clause-row : goal.stand-requires-clause-row
stand-requires-clause-row c = (c.requires.row.0, c.requires.row.1.machine)

pub make_admission-requires : goal.make_admission-requires
make_admission-requires c =
    let may = c.requires.row.1 in
    let same = c.stand.ensures.state c.requires.row.0 may.machine in
    let line = ap (λ (n : Machine). in_line n c.args.pid) same ∙ may.waits in
    record {
      own = c.stand.ensures.standing.own;
      placed = c.requires.cache.placed;
      pid = line_within c.stand.new.standing.state c.args.pid line;
      pending = ap (λ (n : Machine). n.pending) same ∙ may.pending;
      line = line;
    }

pub write_admission-requires : goal.write_admission-requires
write_admission-requires c =
    let r = c.args.job.now.program.now in
    let discipline = c.args.job.now.limits.discipline in
    let self = c.args.self.now in
    let m = c.requires.row.0 in
    let may = c.requires.row.1 in
    record {
      pid = pid_waits r discipline self m c.args.row.now c.args.pid c.args.monitor c.requires.cache may;
      monitor = guard_within r discipline self m c.args.row.now c.args.pid c.args.monitor c.requires.cache may;
      long = ap length c.deref_mut.ensures.value ∙ ap length c.stand.ensures.row ∙ may.machine.stands.long;
    }

pub returns-clause-admission : goal.returns-clause-admission
returns-clause-admission c =
    let self = c.args.self.now in
    let may = c.requires.row.1 in
    let same = c.stand.ensures.state c.requires.row.0 may.machine in
    c.in_ok-part.ensures.admission c.args.row.now (subst (λ n. IsPartRow self.store self.table n c.args.row.now) (sym same) may.machine.stands)

pub returns-clause-cache : goal.returns-clause-cache
returns-clause-cache c =
    let r = c.args.job.now.program.now in
    let self = c.args.self.now in
    let store = c.make_admission.new.store in
    let row = c.args.row.now in
    let may = c.requires.row.1 in
    let same = c.stand.ensures.state c.requires.row.0 may.machine in
    let known = c.in_ok-part.ensures.admission row (subst (λ n. IsPartRow self.store self.table n row) (sym same) may.machine.stands) in
    cache_on r c.args.job.now.limits.discipline self (record self { store = store; admissions = c.remember.new.self }) c.requires.cache c.make_admission.ensures.kept refl refl
    (λ is. (is.0, c.in_ok-remember.ensures.known store self.table r c.args.pid c.args.monitor (number_at row (guard_position self.table c.args.monitor)) is.1 c.requires.key known))

pub returns-clause-standing : goal.returns-clause-standing
returns-clause-standing c =
    let r = c.args.job.now.program.now in
    let self = c.args.self.now in
    let store = c.make_admission.new.store in
    let t = self.table in
    let pid = c.args.pid in
    let monitor = c.args.monitor in
    let part = c.in_ok-part.part in
    let row = c.args.row.now in
    let may = c.requires.row.1 in
    let x = c.stand.new.standing in
    let m = machine_of x.state in
    let same = c.stand.ensures.state c.requires.row.0 may.machine in
    let stands : IsPartRow self.store t m row = subst (λ n. IsPartRow self.store t n row) (sym same) may.machine.stands in
    let known = c.in_ok-part.ensures.admission row stands in
    let let_in = admission_row_law store t r pid monitor part m row c.requires.cache.placed c.stand.ensures.standing.own.fits (ap (λ (n : Machine). n.pending) same ∙ may.pending) (row_on self.store store t m row c.make_admission.ensures.kept stands) known in
    let written = c.write_admission.new.row in
    let is : written ≡ admitted_row store t pid monitor part row = c.write_admission.ensures ∙ ap (admitted_row store t pid monitor part) (c.deref_mut.ensures.value ∙ c.stand.ensures.row) in
    let long : length written ≡ x.row.len = ap length is ∙ admitted_long store t pid monitor part row ∙ sym (ap length c.stand.ensures.row) ∙ sym x.row.ok.0 in
    let whole : take x.row.len (written ++ drop (length written) x.row.items) ≡ written = take_at written (drop (length written) x.row.items) x.row.len long in
    record { own = c.make_admission.ensures.own; row = subst (IsPartRow store t (machine_of c.make_admission.new.state)) (sym (whole ∙ is)) (subst (λ n. IsPartRow store t n (admitted_row store t pid monitor part row)) (sym c.make_admission.ensures.after) let_in) }
