use Rattle.std.proofs.Common.{refl, subst, sym}
use Rattle.std.specs.Prelude.{Option, None, Some, IfSome}
use Rattle.cp_ends.proofs.Vocabulary.{Discipline}
use Rattle.cp_parts.proofs.Pieces.{pieces_same}
use Rattle.cp_stretches.specs.Cached.{IsCache, StandsFor}
use Rattle.cp_ends.proofs.GoingOn.{ok_both, ok_to}
use Rattle.cp_ends.proofs.Halves.{halved_on, row_for_on}
use Rattle.cp_ends.proofs.Keeping.{states_on}
use Rattle.cp_ends.proofs.Rowwise.{stands_for}
use Rattle.cp_ends.proofs.states.States.leads.Goals as goal

some_to : {A : Type 0} (o : Option A) (P Q : A → Type 0) → IfSome o P → ((a : A) → P a → Q a) → IfSome o Q
some_to None P Q h f = h
some_to (Some a) P Q h f = f a h

pub choose-requires-clause-cache : goal.choose-requires-clause-cache
choose-requires-clause-cache c = subst (λ (d : Discipline). IsCache c.args.job.now.program.now d c.args.self.now.cache) c.requires.ruled c.requires.here.2.cached

pub choose-requires-clause-standing : goal.choose-requires-clause-standing
choose-requires-clause-standing c = c.requires.here.2.standing

pub choose-requires-clause-row : goal.choose-requires-clause-row
choose-requires-clause-row c =
    let r = c.args.job.now.program.now in
    let kept = c.args.self.now in
    let m = c.requires.here.1 in
    (m, subst (λ (d : Discipline). StandsFor r d kept.cache.store kept.cache.table m c.args.row.now) c.requires.ruled (stands_for r kept c.args.row.now m c.requires.here.3), c.requires.here.4)

pub returns-clause-kept : goal.returns-clause-kept
returns-clause-kept c =
    let r = c.args.job.now.program.now in
    let old = c.args.self.now in
    ok_both c.choose.result _ _ _ c.choose.ensures.cache c.choose.ensures.standing (λ b cache standing states h. states_on r old _ states refl refl refl (record { table = c.choose.ensures.table; ruled = refl; lists = pieces_same old.lists.items.items old.lists.ends.items; store = c.choose.ensures.kept }) (subst (λ (d : Discipline). IsCache r d c.choose.new.self) (sym c.requires.ruled) cache) standing h)

pub returns-clause-rows : goal.returns-clause-rows
returns-clause-rows c = λ list m is.
    (let old = c.args.self.now in
    row_for_on c.args.job.now.program.now old _ list m (record { table = c.choose.ensures.table; ruled = refl; lists = pieces_same old.lists.items.items old.lists.ends.items; store = c.choose.ensures.kept }) is)

pub returns-clause-lists : goal.returns-clause-lists
returns-clause-lists c = λ numbers list is.
    (let old = c.args.self.now in
    halved_on old _ numbers list (record { table = c.choose.ensures.table; ruled = refl; lists = pieces_same old.lists.items.items old.lists.ends.items; store = c.choose.ensures.kept }) is)

pub returns-clause-leads : goal.returns-clause-leads
returns-clause-leads c =
    let r = c.args.job.now.program.now in
    let kept = c.args.self.now in
    ok_to c.choose.result _ _ c.choose.ensures.leads (λ halts leads. some_to halts _ _ leads (λ halt on m is may. on m (subst (λ (d : Discipline). StandsFor r d kept.cache.store kept.cache.table m c.args.row.now) c.requires.ruled (stands_for r kept c.args.row.now m is)) may))
