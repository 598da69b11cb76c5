use Rattle.std.proofs.Common.{◌≡◌, ◌∙◌, ◌++◌, ◌∷◌, [], ◌<◌, ap, length, refl, subst, sym, true}
use Rattle.std.specs.Prelude.{All, option_to_list}
use Rattle.std.proofs.lemmas.List.Elements.{All-weaker}
use Rattle.cp_states.specs.Pieces.{IsPiece}
use Rattle.cp_parts.proofs.Pieces.{pieces_same}
use Rattle.cp_effects.specs.declared.changes.Write.{Write}
use Rattle.cp_effects.specs.Changes.{written}
use Rattle.cp_effects.specs.Known.{writes_of}
use Rattle.cp_effects.specs.Noting.{among}
use Rattle.cp_stretches.proofs.Knowing.{positions_inside}
use Rattle.cp_ends.proofs.Vocabulary.{States}
use Rattle.cp_ends.specs.Halves.{half_in, width_of}
use Rattle.cp_ends.proofs.GoingOn.{ok_both}
use Rattle.cp_ends.proofs.Halves.{KeepRows, halved_on, row_for_on}
use Rattle.cp_ends.proofs.Keeping.{states_on, states_with}
use Rattle.cp_ends.proofs.Learned.{entry, keep_looked, learned, standing_looked}
use Rattle.cp_ends.proofs.Rowwise.{some_of}
use Rattle.cp_ends.proofs.states.States.learn_move.Goals as goal

pub returns-in_err-placed-clause-rows : goal.returns-in_err-placed-clause-rows
returns-in_err-placed-clause-rows c = λ r list m is.
    (let old = c.args.self.now in
    row_for_on r old _ list m (keep_looked old c.look.new.cache c.look.ensures.store c.look.ensures.table _ refl refl (pieces_same old.lists.items.items old.lists.ends.items)) is)

pub returns-in_default-clause-rows : goal.returns-in_default-clause-rows
returns-in_default-clause-rows c = λ r list m is.
    (let old = c.args.self.now in
    row_for_on r old _ list m (keep_looked old c.look.new.cache c.look.ensures.store c.look.ensures.table _ refl refl (pieces_same old.lists.items.items old.lists.ends.items)) is)

pub returns-in_default-clause-kept : goal.returns-in_default-clause-kept
returns-in_default-clause-kept c = λ r states h.
    (let old = c.args.self.now in
    states_on r old _ states refl c.give_up.ensures.moves c.give_up.ensures.writes (keep_looked old c.look.new.cache c.look.ensures.store c.look.ensures.table _ refl refl (pieces_same old.lists.items.items old.lists.ends.items)) (c.look.ensures.known r old.discipline h.cached) (standing_looked old c.look.new.cache c.look.ensures.store c.look.ensures.table r old.standing h.standing) h)

pub returns-then-not-are_in-clause-rows : goal.returns-then-not-are_in-clause-rows
returns-then-not-are_in-clause-rows c = λ r list m is.
    (let old = c.args.self.now in
    row_for_on r old _ list m (keep_looked old c.look.new.cache c.look.ensures.store c.look.ensures.table _ refl refl (pieces_same old.lists.items.items old.lists.ends.items)) is)

pub returns-then-not-are_in-clause-kept : goal.returns-then-not-are_in-clause-kept
returns-then-not-are_in-clause-kept c = λ r states h.
    (let old = c.args.self.now in
    states_on r old _ states refl c.give_up-then-not-are_in.ensures.moves c.give_up-then-not-are_in.ensures.writes (keep_looked old c.look.new.cache c.look.ensures.store c.look.ensures.table _ refl refl (pieces_same old.lists.items.items old.lists.ends.items)) (c.look.ensures.known r old.discipline h.cached) (standing_looked old c.look.new.cache c.look.ensures.store c.look.ensures.table r old.standing h.standing) h)

pub number_after-requires-clause-rising : goal.number_after-requires-clause-rising
number_after-requires-clause-rising c = let at = some_of _ c.in-Some.placed _ c.in-Some.is c.in_ok-placed.ensures.leg c.requires.states.0 c.args.self.now.discipline c.requires.states.2.cached in at.rising

pub number_after-requires-clause-within : goal.number_after-requires-clause-within
number_after-requires-clause-within c = let at = some_of _ c.in-Some.placed _ c.in-Some.is c.in_ok-placed.ensures.leg c.requires.states.0 c.args.self.now.discipline c.requires.states.2.cached in at.within

pub number_after-requires-clause-inside : goal.number_after-requires-clause-inside
number_after-requires-clause-inside c =
    let r = c.requires.states.0 in
    let cache = c.look.new.cache in
    let leg = c.in-Some.placed.leg in
    let row = c.args.row.now in
    let at = some_of _ c.in-Some.placed _ c.in-Some.is c.in_ok-placed.ensures.leg c.requires.states.0 c.args.self.now.discipline c.requires.states.2.cached in
    let wide = c.requires.half.wide ∙ ap width_of (sym c.look.ensures.table) in
    All-weaker (λ (w : Write). w.position < width_of cache.table) (λ (w : Write). w.position < length row) (λ w lt. subst (λ n. w.position < n) (sym wide) lt) (writes_of cache.legs.effects.writes.items leg)
    (positions_inside cache.store cache.table r c.args.self.now.discipline c.args.process _ _ leg.leg (option_to_list leg.shown) (writes_of cache.legs.effects.writes.items leg) at.is)

pub writes_of_leg-writes-requires-clause-rising : goal.writes_of_leg-writes-requires-clause-rising
writes_of_leg-writes-requires-clause-rising c = let at = some_of _ c.in-Some.placed _ c.in-Some.is c.in_ok-placed.ensures.leg c.requires.states.0 c.args.self.now.discipline c.requires.states.2.cached in at.rising

pub writes_of_leg-writes-requires-clause-within : goal.writes_of_leg-writes-requires-clause-within
writes_of_leg-writes-requires-clause-within c = let at = some_of _ c.in-Some.placed _ c.in-Some.is c.in_ok-placed.ensures.leg c.requires.states.0 c.args.self.now.discipline c.requires.states.2.cached in at.within

pub returns-in_err-after-clause-rows : goal.returns-in_err-after-clause-rows
returns-in_err-after-clause-rows c = λ r list m is.
    (let old = c.args.self.now in
    row_for_on r old _ list m (keep_looked old c.look.new.cache c.look.ensures.store c.look.ensures.table _ refl refl c.number_after.ensures.kept) is)

pub returns-in_err-after-clause-lists : goal.returns-in_err-after-clause-lists
returns-in_err-after-clause-lists c = λ numbers list is.
    (let old = c.args.self.now in
    halved_on old _ numbers list (keep_looked old c.look.new.cache c.look.ensures.store c.look.ensures.table _ refl refl c.number_after.ensures.kept) is)

pub returns-clause-rows : goal.returns-clause-rows
returns-clause-rows c = λ r list m is.
    (let old = c.args.self.now in
    row_for_on r old _ list m (keep_looked old c.look.new.cache c.look.ensures.store c.look.ensures.table _ refl refl c.number_after.ensures.kept) is)

pub returns-clause-lists : goal.returns-clause-lists
returns-clause-lists c = λ numbers list is.
    (let old = c.args.self.now in
    halved_on old _ numbers list (keep_looked old c.look.new.cache c.look.ensures.store c.look.ensures.table _ refl refl c.number_after.ensures.kept) is)

pub returns-clause-kept : goal.returns-clause-kept
returns-clause-kept c =
    ok_both c.add.result _ _ _ c.add.ensures.moves c.add.ensures.writes (λ b moves writes r states h.
    (let old = c.args.self.now in
    let cache = c.look.new.cache in
    let lists = c.number_after.new.lists in
    let new : States = record old { cache = cache; lists = lists; moves = c.add.new.self } in
    let keep : KeepRows old new = keep_looked old cache c.look.ensures.store c.look.ensures.table new refl refl c.number_after.ensures.kept in
    let row = c.args.row.now in
    let process = c.args.process in
    let placed = c.in-Some.placed in
    let leg = placed.leg in
    let ws = writes_of cache.legs.effects.writes.items leg in
    let at = some_of _ placed _ c.in-Some.is c.in_ok-placed.ensures.leg r old.discipline h.cached in
    let ok : c.are_in.result ≡ true = search in
    let first = c.is_in_first-is_first.ensures in
    let still = c.are_behind.result in
    let to = c.in_ok-after.after in
    states_with r old new states refl keep
    (learned r old new keep row process c.args.half to placed.scope leg still c.requires.half at
    (λ place is. c.are_in.ensures ok place (subst (λ ps. among ps place ≡ true) (sym c.at-places.ensures) is) ∙ first)
    (subst (λ x. IsPiece lists.items.items lists.ends.items to (half_in cache.table x (written ws row))) first c.in_ok-after.ensures.number)
    (λ is. subst (All (λ (w : Write). cache.table.processes < w.position)) c.writes_of_leg-writes.ensures (subst (λ n. All (λ (w : Write). n < w.position) c.writes_of_leg-writes.result.now) c.pending_position-pending.ensures (c.are_behind.ensures is)))
    (writes ∙ ap (λ l. old.moves.writes.items ++ l) c.writes_of_leg-writes.ensures) h.moves
    (moves ∙ ap (λ l. old.moves.moves.items ++ entry old process c.args.half to still leg l ∷ []) c.writes_of_leg-writes.ensures))
    (c.look.ensures.known r old.discipline h.cached) (standing_looked old cache c.look.ensures.store c.look.ensures.table r old.standing h.standing) h))
