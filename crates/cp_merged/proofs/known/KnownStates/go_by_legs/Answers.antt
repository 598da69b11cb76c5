use Rattle.std.proofs.Common.{◌∙◌, ◌+◌, ◌≤◌, ◌++◌, List, ap, arith, drop, length, refl, subst, sym, take}
use Rattle.cp_merged.proofs.Words.{Discipline, KnownStates, MOST_SHOWN, Shown, width_of}
use Rattle.cp_merged.specs.Known.{Goes}
use Rattle.cp_parts.proofs.Pieces.{pieces_same}
use Rattle.cp_parts.specs.Placed.{IsPlaced}
use Rattle.cp_run.specs.Silent.{without_output}
use Rattle.cp_stretches.specs.Cached.{IsCache, StandsFor}
use Rattle.cp_stretches.specs.Stretching.{LeadsTo}
use Rattle.cp_stretches.proofs.Knowing.{some_to}
use Rattle.cp_merged.proofs.KnownRows.{before_on, goes_written, may_quiet, stands_for}
use Rattle.cp_merged.proofs.known.KnownStates.go_by_legs.Goals as goal

pub choose-requires-clause-row : goal.choose-requires-clause-row
choose-requires-clause-row c =
    let r = c.args.job.now.program.now in
    let discipline = c.args.job.now.limits.discipline in
    let self = c.args.self.now in
    let h = c.requires.here in
    let part = ap (take c.output_position-end.result) c.copy_from_slice.ensures.after ∙ ap (λ n. take n c.args.from.now) c.output_position-end.ensures in
    let stands = subst (λ (d : Discipline). StandsFor r d self.cache.store self.cache.table (without_output h.0) (take (width_of self.cache.table) c.args.from.now)) c.requires.ruled (stands_for r self c.args.from.now h.0 h.1.has h.2) in
    (without_output h.0, subst (StandsFor r discipline self.cache.store self.cache.table (without_output h.0)) (sym part) stands, ap (λ f. f c.args.process) (may_quiet r discipline h.0) ∙ h.3)

pub returns-then-is_too_much-clause-known : goal.returns-then-is_too_much-clause-known
returns-then-is_too_much-clause-known c = record { cached = subst (λ (d : Discipline). IsCache c.args.job.now.program.now d c.choose.new.self) (sym c.requires.ruled) c.in_ok-halts.ensures.cache; standing = c.in_ok-halts.ensures.standing }

pub returns-clause-known : goal.returns-clause-known
returns-clause-known c = record { cached = subst (λ (d : Discipline). IsCache c.args.job.now.program.now d c.choose.new.self) (sym c.requires.ruled) c.in_ok-halts.ensures.cache; standing = c.in_ok-halts.ensures.standing }

pub returns-clause-goes : goal.returns-clause-goes
returns-clause-goes c =
    let r = c.args.job.now.program.now in
    let discipline = c.args.job.now.limits.discipline in
    let steps = c.args.job.now.limits.steps in
    let self = c.args.self.now in
    let cache = c.choose.new.self in
    let from = c.args.from.now in
    let p = c.args.process in
    let new = c.choose.new.row in
    let shown = c.choose.new.shown.items in
    let table = c.choose.ensures.table in
    let mid : KnownStates = record self { cache = cache; standing = c.choose.new.standing } in
    some_to c.in_ok-halts.halts _ _
    (λ halt leads m is own may_p.
    (let part = ap (take c.output_position-end.result) c.copy_from_slice.ensures.after ∙ ap (λ n. take n from) c.output_position-end.ensures in
    let stands = subst (λ (d : Discipline). StandsFor r d self.cache.store self.cache.table (without_output m) (take (width_of self.cache.table) from)) c.requires.ruled (stands_for r self from m is.has own) in
    let before = leads (without_output m) (subst (StandsFor r discipline self.cache.store self.cache.table (without_output m)) (sym part) stands) (ap (λ f. f p) (may_quiet r discipline m) ∙ may_p) in
    let led = subst (λ (l : List Shown). LeadsTo r discipline cache.store cache.table steps (without_output m) p l halt new shown) c.clear.ensures.items before in
    let told = before_on r self mid (record { table = table; ruled = refl; store = c.choose.ensures.kept; outputs = pieces_same self.outputs.items.items self.outputs.ends.items }) from m.output is.output in
    let few = c.is_too_much.ensures m.output told c.if-is_too_much.false own.shown in
    let room : length m.output + length shown ≤ MOST_SHOWN = omega (arith, few, ap length c.deref.ensures.value) in
    subst (λ l. Goes r discipline steps m p halt mid (new ++ drop c.output_position-end.result l) shown) (sym c.copy_from_slice.ensures.after)
    (goes_written r discipline steps m p halt mid from new c.output_position-end.result shown (c.output_position-end.ensures ∙ ap width_of (sym table)) (subst (IsPlaced r) (sym table) is.has.placed) c.requires.ruled room led told)))
    c.in_ok-halts.ensures.leads
