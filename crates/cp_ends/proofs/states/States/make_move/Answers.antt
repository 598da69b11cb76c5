use Rattle.std.proofs.Common.{◌∙◌, ◌++◌, List, ap, arith, refl, subst, sym}
use Rattle.std.specs.Prelude.{option_to_list}
use Rattle.cp_machine.specs.declared.shown.Shown.{Shown}
use Rattle.cp_states.specs.Pieces.{IsPiece}
use Rattle.cp_stretches.specs.Numbers.{CanRead}
use Rattle.cp_ends.specs.Halves.{half_in, is_in_first, statuses_in}
use Rattle.cp_ends.specs.Moves.{HasHalf, IsOneLeg}
use Rattle.cp_ends.proofs.Halves.{halved_on, same_kept}
use Rattle.cp_ends.proofs.Keeping.{lists_more}
use Rattle.cp_ends.proofs.Made.{can_read_there, inside, its, move_makes, moved_halved, no_local, stays, there}
use Rattle.cp_ends.proofs.states.States.make_move.Goals as goal

pub pass-requires-clause-long : goal.pass-requires-clause-long
pass-requires-clause-long c = omega (arith, c.requires.here.3.is.long)

pub pass-requires-clause-rising : goal.pass-requires-clause-rising
pass-requires-clause-rising c = (its c.args.job.now.program.now c.args.job.now.limits.discipline c.args.self.now c.args.job.now.limits.steps c.args.numbers.numbers c.args.row.now c.args.known.now c.requires.here.0 c.requires.here.2 c.requires.ruled c.requires.halved c.requires.suits c.requires.here.3.is.long).rising

pub pass-requires-clause-within : goal.pass-requires-clause-within
pass-requires-clause-within c = (its c.args.job.now.program.now c.args.job.now.limits.discipline c.args.self.now c.args.job.now.limits.steps c.args.numbers.numbers c.args.row.now c.args.known.now c.requires.here.0 c.requires.here.2 c.requires.ruled c.requires.halved c.requires.suits c.requires.here.3.is.long).within

pub pass-requires-clause-inside : goal.pass-requires-clause-inside
pass-requires-clause-inside c = inside c.args.job.now.program.now c.args.job.now.limits.discipline c.args.self.now c.args.job.now.limits.steps c.args.numbers.numbers c.args.row.now c.args.known.now c.requires.here.0 c.requires.here.2 c.requires.ruled c.requires.halved c.requires.suits c.requires.here.3.is.long

pub number_statuses-requires-clause-still : goal.number_statuses-requires-clause-still
number_statuses-requires-clause-still c = λ still.
    (let self = c.args.self.now in
    let st = stays c.args.job.now.program.now c.args.job.now.limits.discipline self c.args.job.now.limits.steps c.args.numbers.numbers c.args.row.now c.args.known.now c.requires.here.0 c.requires.here.2 c.requires.ruled c.requires.halved c.requires.suits c.requires.here.3.is.long in
    subst (IsPiece self.lists.items.items self.lists.ends.items _) (sym (ap (statuses_in self.cache.table) c.pass.ensures.row ∙ st.statuses still)) c.requires.halved.statuses)

pub returns-in_err-statuses-clause-kept : goal.returns-in_err-statuses-clause-kept
returns-in_err-statuses-clause-kept c = λ states h. lists_more c.args.job.now.program.now c.args.self.now _ states refl refl refl refl refl c.number_statuses.ensures.kept h

pub returns-in_err-statuses-clause-lists : goal.returns-in_err-statuses-clause-lists
returns-in_err-statuses-clause-lists c = λ numbers list is. halved_on c.args.self.now _ numbers list (same_kept c.args.self.now _ refl refl c.number_statuses.ensures.kept) is

pub returns-clause-kept : goal.returns-clause-kept
returns-clause-kept c = λ states h. lists_more c.args.job.now.program.now c.args.self.now _ states refl refl refl refl refl c.number_statuses.ensures.kept h

pub returns-clause-lists : goal.returns-clause-lists
returns-clause-lists c = λ numbers list is. halved_on c.args.self.now _ numbers list (same_kept c.args.self.now _ refl refl c.number_statuses.ensures.kept) is

pub returns-clause-halved : goal.returns-clause-halved
returns-clause-halved c =
    let self = c.args.self.now in
    let e = c.args.known.now in
    let numbers = c.args.numbers.numbers in
    let row = c.args.row.now in
    let new = c.pass.new.row in
    let st = stays c.args.job.now.program.now c.args.job.now.limits.discipline self c.args.job.now.limits.steps numbers row e c.requires.here.0 c.requires.here.2 c.requires.ruled c.requires.halved c.requires.suits c.requires.here.3.is.long in
    let is_first = is_in_first self.cache.table e.process in
    moved_halved self _ (same_kept self _ refl refl c.number_statuses.ensures.kept) numbers row new c.requires.halved c.in_ok-statuses.statuses e.after c.in_ok-statuses.ensures.number is_first c.with.result.numbers
    (subst (HasHalf self is_first e.after) (sym c.pass.ensures.row) st.half)
    (ap (half_in self.cache.table _) c.pass.ensures.row ∙ st.other)
    (λ is. c.with.ensures.first (c.is_in_first-is_first.ensures ∙ is))
    (λ is. c.with.ensures.second (c.is_in_first-is_first.ensures ∙ is))

pub returns-clause-makes : goal.returns-clause-makes
returns-clause-makes c = λ m is may.
    (let r = c.args.job.now.program.now in
    let discipline = c.args.job.now.limits.discipline in
    let steps = c.args.job.now.limits.steps in
    let self = c.args.self.now in
    let e = c.args.known.now in
    let numbers = c.args.numbers.numbers in
    let row = c.args.row.now in
    let new = c.pass.new.row in
    let h = c.requires.here in
    let after = there r discipline self steps numbers row e h.0 h.2 c.requires.ruled c.requires.halved c.requires.suits h.3.is.long m is may in
    let can = can_read_there r discipline self steps numbers row e h.0 h.2 c.requires.ruled c.requires.halved c.requires.suits h.3.is.long m is may in
    let told = no_local r discipline self steps numbers row e h.0 h.2 c.requires.ruled c.requires.halved c.requires.suits h.3.is.long m is may in
    let due = sym c.in-Due.is ∙ c.pass.ensures.turn r self.cache.store after discipline (subst (CanRead r self.cache.store self.cache.table self.cache.numbers after) (sym c.pass.ensures.row) can) told in
    let makes = move_makes r discipline self steps numbers row e h.0 h.2 c.requires.ruled c.requires.halved c.requires.suits h.3.is.long m is may c.args.shown.now.items due in
    subst (λ (l : List Shown). IsOneLeg r discipline self.cache.store self.cache.table steps m e.process c.args.shown.now.items new l) (sym c.in_ok-add_shown.ensures)
    (subst (λ l. IsOneLeg r discipline self.cache.store self.cache.table steps m e.process c.args.shown.now.items l (c.args.shown.now.items ++ option_to_list e.leg.shown)) (sym c.pass.ensures.row) makes))
