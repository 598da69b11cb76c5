use Rattle.cp_ends.proofs.Vocabulary.{◌≡◌, ◌∙◌, arith, [], Bool, List, false, length, if◌then◌else◌, refl, subst, suc, sym, ap, Machine, Moment, Shown, machine_of, slots, silent_slots, return_within, same_key, Alone, Spins, None, Some}
use Rattle.cp_ends.specs.Arrivals.{teller}
use Rattle.cp_ends.proofs.Halting.{no_round, round_told}
use Rattle.cp_ends.proofs.Legs.{comes_back, sees_stretch}
use Rattle.cp_ends.proofs.round.end_of_cut.Goals as goal

-- what is told and seen
abbrev Told : Type 0
Told = (List Shown × Bool) × (List Machine × List (Moment Machine))

pub returns-then-not-branch-clause-cut : goal.returns-then-not-branch-clause-cut
returns-then-not-branch-clause-cut g c =
    let sys = slots c.args.job.now.program.now c.args.job.now.limits.discipline in
    let quiet = silent_slots c.args.job.now.program.now c.args.job.now.limits.discipline in
    let s = machine_of c.args.state.now in
    let p = c.args.pid in
    let old = c.args.told.now.values.items in
    let seen = c.in_ok-observe_round.ensures.seen in
    let count : c.len-count.result ≡ length old = omega arith in
    let before : Told = ((old, false), ([], [])) in
    no_round sys quiet s p (return_within quiet same_key s p c.args.job.now.limits.steps) old c.observe_round.new.observer.values.items c.truncate.new.self.items seen.0 c.len-count.result
    (c.in_ok-observe_round.ensures.none c.if-not-branch.true)
    ((seen.1 before (refl, refl, c.requires.quiet, c.begin-told.ensures c.args.job.now.limits.discipline)).0 ∙ ap (λ (y : Told). y.0.0) (sees_stretch quiet (teller sys) seen.0 s p before))
    count
    c.truncate.ensures.items

pub returns-then-told-clause-cut : goal.returns-then-told-clause-cut
returns-then-told-clause-cut g c =
    let sys = slots c.args.job.now.program.now c.args.job.now.limits.discipline in
    let quiet = silent_slots c.args.job.now.program.now c.args.job.now.limits.discipline in
    let s = machine_of c.args.state.now in
    let p = c.args.pid in
    let old = c.args.told.now.values.items in
    let round = c.in_ok-observe_round.ensures.round c.if-not-branch.false in
    let before : Told = ((old, false), ([], [])) in
    let told = round.5 before (refl, refl, c.requires.quiet, c.begin-told.ensures c.args.job.now.limits.discipline) in
    let same = sees_stretch quiet (teller sys) (suc round.0) s p before in
    round_told sys quiet s p (return_within quiet same_key s p c.args.job.now.limits.steps) old round.0 c.observe_round.new.observer.values.items c.observe_round.new.observer.is_called (Alone p) round.2 (told.0 ∙ ap (λ (y : Told). y.0.0) same) (told.1 ∙ ap (λ (y : Told). y.0.1) same) (sym (ap (λ b. if b then Alone p else Spins p) c.if-told.true))

pub returns-clause-cut : goal.returns-clause-cut
returns-clause-cut g c =
    let sys = slots c.args.job.now.program.now c.args.job.now.limits.discipline in
    let quiet = silent_slots c.args.job.now.program.now c.args.job.now.limits.discipline in
    let s = machine_of c.args.state.now in
    let p = c.args.pid in
    let old = c.args.told.now.values.items in
    let round = c.in_ok-observe_round.ensures.round c.if-not-branch.false in
    let before : Told = ((old, false), ([], [])) in
    let told = round.5 before (refl, refl, c.requires.quiet, c.begin-told.ensures c.args.job.now.limits.discipline) in
    let same = sees_stretch quiet (teller sys) (suc round.0) s p before in
    round_told sys quiet s p (return_within quiet same_key s p c.args.job.now.limits.steps) old round.0 c.observe_round.new.observer.values.items c.observe_round.new.observer.is_called (Spins p) round.2 (told.0 ∙ ap (λ (y : Told). y.0.0) same) (told.1 ∙ ap (λ (y : Told). y.0.1) same) (sym (ap (λ b. if b then Alone p else Spins p) c.if-told.false))

-- ---- what is seen of it

pub returns-then-not-branch-clause-seen : goal.returns-then-not-branch-clause-seen
returns-then-not-branch-clause-seen g c = (comes_back c.args.job.now.program.now c.args.job.now.limits.discipline c.args.job.now.limits.steps (machine_of c.args.state.now) c.args.pid None (c.in_ok-observe_round.ensures.none c.if-not-branch.true), refl)

pub returns-then-told-clause-seen : goal.returns-then-told-clause-seen
returns-then-told-clause-seen g c =
    let r = c.args.job.now.program.now in
    let discipline = c.args.job.now.limits.discipline in
    let m = machine_of c.args.state.now in
    let round = c.in_ok-observe_round.ensures.round c.if-not-branch.false in
    let found = comes_back r discipline c.args.job.now.limits.steps m c.args.pid (Some round.0) round.2 in
    let before : Told = ((c.args.told.now.values.items, false), ([], [])) in
    let told = round.5 before (refl, refl, c.requires.quiet, c.begin-told.ensures discipline) in
    let again = subst (λ (y : Told). g.P.Sight.sees c.observe_round.new.observer.seen r discipline y.1.0 y.1.1) (sees_stretch (silent_slots r discipline) (teller (slots r discipline)) (suc round.0) m c.args.pid before) told.3 in
    (round.0, found.0, found.1, again, λ due ms h. c.then.ensures r discipline due ms _ h again)

pub returns-clause-seen : goal.returns-clause-seen
returns-clause-seen g c =
    let r = c.args.job.now.program.now in
    let discipline = c.args.job.now.limits.discipline in
    let m = machine_of c.args.state.now in
    let round = c.in_ok-observe_round.ensures.round c.if-not-branch.false in
    let found = comes_back r discipline c.args.job.now.limits.steps m c.args.pid (Some round.0) round.2 in
    let before : Told = ((c.args.told.now.values.items, false), ([], [])) in
    let told = round.5 before (refl, refl, c.requires.quiet, c.begin-told.ensures discipline) in
    let again = subst (λ (y : Told). g.P.Sight.sees c.observe_round.new.observer.seen r discipline y.1.0 y.1.1) (sees_stretch (silent_slots r discipline) (teller (slots r discipline)) (suc round.0) m c.args.pid before) told.3 in
    (round.0, found.0, found.1, again, λ due ms h. c.then.ensures r discipline due ms _ h again)
