use Rattle.std.proofs.Common.{refl, subst, sym}
use Rattle.std.specs.Prelude.{Option, None, Some, IfSome}
use Rattle.cp_ends.proofs.Vocabulary.{Discipline}
use Rattle.cp_parts.proofs.Pieces.{pieces_same}
use Rattle.cp_stretches.specs.Cached.{IsCache, StandsFor}
use Rattle.cp_ends.proofs.GoingOn.{ok_both, ok_to}
use Rattle.cp_ends.proofs.Halves.{halved_on, row_for_on}
use Rattle.cp_ends.proofs.Keeping.{states_on}
use Rattle.cp_ends.proofs.Rowwise.{stands_for}
use Rattle.cp_ends.proofs.states.States.see_choice.Goals as goal

some_to : {A : Type 0} (o : Option A) (P Q : A → Type 0) → IfSome o P → ((a : A) → P a → Q a) → IfSome o Q
some_to None P Q h f = h
some_to (Some a) P Q h f = f a h

pub choose_by_legs-requires-clause-cache : goal.choose_by_legs-requires-clause-cache
choose_by_legs-requires-clause-cache g c = subst (λ (d : Discipline). IsCache c.args.job.now.program.now d c.args.self.now.cache) c.requires.ruled c.requires.here.2.cached

pub choose_by_legs-requires-clause-standing : goal.choose_by_legs-requires-clause-standing
choose_by_legs-requires-clause-standing g c = c.requires.here.2.standing

pub choose_by_legs-requires-clause-row : goal.choose_by_legs-requires-clause-row
choose_by_legs-requires-clause-row g c =
    let r = c.args.job.now.program.now in
    let kept = c.args.self.now in
    let m = c.requires.here.1 in
    (m, subst (λ (d : Discipline). StandsFor r d kept.cache.store kept.cache.table m c.args.row.now) c.requires.ruled (stands_for r kept c.args.row.now m c.requires.here.3), c.requires.here.4)

pub returns-clause-kept : goal.returns-clause-kept
returns-clause-kept g c =
    let r = c.args.job.now.program.now in
    let old = c.args.self.now in
    ok_both c.choose_by_legs.result _ _ _ c.choose_by_legs.ensures.cache c.choose_by_legs.ensures.standing (λ b cache standing states h. states_on r old _ states refl refl refl (record { table = c.choose_by_legs.ensures.table; ruled = refl; lists = pieces_same old.lists.items.items old.lists.ends.items; store = c.choose_by_legs.ensures.kept }) (subst (λ (d : Discipline). IsCache r d c.choose_by_legs.new.cache) (sym c.requires.ruled) cache) standing h)

pub returns-clause-rows : goal.returns-clause-rows
returns-clause-rows g c = λ list m is.
    (let old = c.args.self.now in
    row_for_on c.args.job.now.program.now old _ list m (record { table = c.choose_by_legs.ensures.table; ruled = refl; lists = pieces_same old.lists.items.items old.lists.ends.items; store = c.choose_by_legs.ensures.kept }) is)

pub returns-clause-lists : goal.returns-clause-lists
returns-clause-lists g c = λ numbers list is.
    (let old = c.args.self.now in
    halved_on old _ numbers list (record { table = c.choose_by_legs.ensures.table; ruled = refl; lists = pieces_same old.lists.items.items old.lists.ends.items; store = c.choose_by_legs.ensures.kept }) is)

pub returns-clause-leads : goal.returns-clause-leads
returns-clause-leads g c =
    let r = c.args.job.now.program.now in
    let kept = c.args.self.now in
    ok_to c.choose_by_legs.result _ _ c.choose_by_legs.ensures.leads (λ halts leads. some_to halts _ _ leads (λ halt on m is may. on m (subst (λ (d : Discipline). StandsFor r d kept.cache.store kept.cache.table m c.args.row.now) c.requires.ruled (stands_for r kept c.args.row.now m is)) may))

pub returns-clause-sees : goal.returns-clause-sees
returns-clause-sees g c =
    let r = c.args.job.now.program.now in
    let kept = c.args.self.now in
    ok_to c.choose_by_legs.result _ _ c.choose_by_legs.ensures.sees (λ halts sees. some_to halts _ _ sees (λ halt on m is may look. on m (subst (λ (d : Discipline). StandsFor r d kept.cache.store kept.cache.table m c.args.row.now) c.requires.ruled (stands_for r kept c.args.row.now m is)) may look))
