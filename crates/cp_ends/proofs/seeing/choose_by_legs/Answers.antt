use Rattle.std.proofs.Common.{◌≡◌, ◌∙◌, ◌∷◌, [], List, true, ap, arith, refl, subst, sym, ℕ}
use Rattle.std.proofs.lemmas.Bool.{eqb-true}
use Rattle.cp_machine.specs.declared.shown.Shown.{Shown}
use Rattle.cp_parts.proofs.Keeping.{store_on}
use Rattle.cp_run.specs.declared.outcome.Halt.{Halt}
use Rattle.cp_run.specs.declared.outcome.OutcomeKind.{OutcomeKind}
use Rattle.cp_run.specs.declared.outcome.Turn.{Turn}
use Rattle.cp_run.specs.declared.outcome.Turn.TheVariants.{Goes}
use Rattle.cp_run.specs.Run.{may}
use Rattle.cp_run.specs.Slots.{slots}
use Rattle.cp_stretches.specs.Cached.{StandsFor}
use Rattle.cp_stretches.specs.Stretching.{GoesOn, LeadsTo, StandsAt, turn_of}
use Rattle.cp_stretches.proofs.Going.{leads}
use Rattle.cp_stretches.proofs.Growing.{can_read}
use Rattle.cp_stretches.proofs.Knowing.{some_to}
use Rattle.cp_stretches.proofs.Statuses.{is_free}
use Rattle.cp_endless_laws.specs.Moments.{moments, moments_by, stretch_moments}
use Rattle.cp_ends.specs.Legs.{moment_at}
use Rattle.cp_ends.proofs.Vocabulary.{Machine, silent_slots}
use Rattle.cp_ends.proofs.Seen.{begun_moments, free_first}
use Rattle.cp_ends.proofs.seeing.choose_by_legs.Goals as goal

pub is_free-free-requires : goal.is_free-free-requires
is_free-free-requires g c = omega (arith, c.requires.row.1.stands.long)

pub see_choice-requires : goal.see_choice-requires
see_choice-requires g c =
    let r = c.args.job.now.program.now in
    let b = c.in_ok-turn.ensures.begins c.requires.row.0 c.requires.row.1 c.requires.row.2 in
    (r, b.after, can_read r c.args.job.now.limits.discipline c.begin.new.self b.after c.begin.new.row c.in_ok-turn.ensures.cache b.stands.machine)

pub follow_legs-requires-clause-row : goal.follow_legs-requires-clause-row
follow_legs-requires-clause-row g c = let b = c.in_ok-turn.ensures.begins c.requires.row.0 c.requires.row.1 c.requires.row.2 in (b.after, b.stands)

pub returns-clause-leads : goal.returns-clause-leads
returns-clause-leads g c =
    let r = c.args.job.now.program.now in
    let discipline = c.args.job.now.limits.discipline in
    let old = c.args.cache.now in
    let self = c.begin.new.self in
    let new = c.follow_legs.new.cache in
    let turn = c.in_ok-turn.turn in
    let row = c.begin.new.row in
    let after = c.follow_legs.new.row in
    let steps = c.args.job.now.limits.steps in
    let before = c.args.told.now.values.items in
    let mid = c.see_choice.new.self.values.items in
    let shown = c.follow_legs.new.told.values.items in
    let values : mid ≡ before = ap (λ v. v.items) c.see_choice.ensures.values in
    some_to c.in_ok-halts.halts
    (λ (halt : Halt OutcomeKind). (m : Machine) → StandsAt r discipline self.store self.table m turn row → (rest : ℕ) × GoesOn r discipline new.store new.table m turn steps mid (turn_of halt) rest after shown)
    (λ (halt : Halt OutcomeKind). (m : Machine) → StandsFor r discipline old.store old.table m c.args.row.now → may (slots r discipline) m c.args.process ≡ true → LeadsTo r discipline new.store new.table steps m c.args.process before halt after shown)
    (λ halt goes m stands is.
    (let b = c.in_ok-turn.ensures.begins m stands is in
    let to = goes b.after b.stands in
    subst (λ (l : List Shown). LeadsTo r discipline new.store new.table steps m c.args.process l halt after shown) values
    (leads r discipline self.store new.store self.table new.table m c.args.process steps turn to.0 row after mid shown halt b to.1)))
    c.in_ok-halts.ensures.goes

pub returns-clause-sees : goal.returns-clause-sees
returns-clause-sees g c =
    let r = c.args.job.now.program.now in
    let discipline = c.args.job.now.limits.discipline in
    let quiet = silent_slots r discipline in
    let old = c.args.cache.now in
    let self = c.begin.new.self in
    let turn = c.in_ok-turn.turn in
    let row = c.begin.new.row in
    let steps = c.args.job.now.limits.steps in
    let p = c.args.process in
    let seen = c.follow_legs.new.told.seen in
    some_to c.in_ok-halts.halts
    (λ (halt : Halt OutcomeKind). (m : Machine) (due : List Machine) → StandsAt r discipline self.store self.table m turn row → g.P.Sight.sees c.see_choice.new.self.seen r discipline due (moment_at m turn) → g.P.Sight.sees seen r discipline due (moments_by (stretch_moments quiet steps m) turn))
    (λ (halt : Halt OutcomeKind). (m : Machine) → StandsFor r discipline old.store old.table m c.args.row.now → may (slots r discipline) m p ≡ true → g.P.Sight.looks c.args.look r m → g.P.Sight.sees seen r discipline (m ∷ []) (moments quiet steps m p))
    (λ halt on m stands is look.
    (let b = c.in_ok-turn.ensures.begins m stands is in
    let can = can_read r discipline self b.after row c.in_ok-turn.ensures.cache b.stands.machine in
    let free : c.is_free-free.result ≡ true → (b.after ≡ m) × (turn ≡ Goes p) = λ f. (let first = sym b.begun ∙ free_first r discipline m p (is_free r old.store old.table old.numbers m c.args.row.now (can_read r discipline old m c.args.row.now c.requires.cache stands) (eqb-true _ 0 (sym c.is_free-free.ensures ∙ f))) in (ap (λ (x : Machine × Turn). x.0) first, ap (λ (x : Machine × Turn). x.1) first)) in
    subst (g.P.Sight.sees seen r discipline (m ∷ [])) (sym (begun_moments r discipline steps m p ∙ ap (λ (x : Machine × Turn). moments_by (stretch_moments quiet steps x.0) x.1) b.begun))
    (on b.after (m ∷ []) b.stands (c.see_choice.ensures.sees r discipline m b.after look can free))))
    c.in_ok-halts.ensures.sees

pub returns-clause-kept : goal.returns-clause-kept
returns-clause-kept g c = store_on c.args.cache.now.store c.begin.new.self.store c.follow_legs.new.cache.store c.begin.ensures.kept c.follow_legs.ensures.kept

pub returns-in_err-halts-clause-kept : goal.returns-in_err-halts-clause-kept
returns-in_err-halts-clause-kept g c = store_on c.args.cache.now.store c.begin.new.self.store c.follow_legs.new.cache.store c.begin.ensures.kept c.follow_legs.ensures.kept

pub returns-clause-table : goal.returns-clause-table
returns-clause-table g c = c.follow_legs.ensures.table ∙ c.begin.ensures.table

pub returns-in_err-halts-clause-table : goal.returns-in_err-halts-clause-table
returns-in_err-halts-clause-table g c = c.follow_legs.ensures.table ∙ c.begin.ensures.table
