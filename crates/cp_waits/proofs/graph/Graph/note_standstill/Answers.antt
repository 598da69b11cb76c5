use Rattle.cp_waits.proofs.Words.{◌≡◌, ◌∙◌, ℕ, ◌<◌, true, false, length, refl, sym, ap, subst, ◌&&◌, nat_lt, silent_slots, in_call_on_slots, waits_on_slots}
use Rattle.cp_waits.proofs.Words.{LetsWait, Halt, None, Option, PassingSets, Some}
use Rattle.cp_run.specs.declared.outcome.Halt.TheVariants.{Choice, Ended}
use Rattle.cp_waits.specs.Legs.{Comes, GoesRound}
use Rattle.cp_waits.proofs.Standing.{adds_none, adds_one, all_served, no_round, nobody_left, round_seen, seen_to_wait}
use Rattle.cp_waits.proofs.graph.Graph.note_standstill.Goals as goal
use Rattle.cp_waits.proofs.graph.Graph.note_standstill.Goals.{else-is_fair-via-then-is_fair+else-not-is_empty, else-is_fair-via-else-is_fair}

not_both : true ≡ false → ⊥
not_both e = cc

abbrev round_in : Halt (Option PassingSets) → Option PassingSets
round_in Choice = None
round_in (Ended round) = round

pub returns-in_default-clause-still : goal.returns-in_default-clause-still
returns-in_default-clause-still c = λ r discipline steps leg due seen m few count of comes.
    adds_none (silent_slots r discipline) in_call_on_slots waits_on_slots steps leg c.args.origin c.args.self.now c.args.self.now refl
    (λ q lt w. no_round (silent_slots r discipline) in_call_on_slots waits_on_slots steps leg of c.args.halt due seen m (λ again e. c.in_default.not-Ended (Some again) e) comes q w)

pub returns-in_default-round-clause-still : goal.returns-in_default-round-clause-still
returns-in_default-round-clause-still c = λ r discipline steps leg due seen m few count of comes.
    adds_none (silent_slots r discipline) in_call_on_slots waits_on_slots steps leg c.args.origin c.args.self.now c.args.self.now refl
    (λ q lt w. no_round (silent_slots r discipline) in_call_on_slots waits_on_slots steps leg of c.args.halt due seen m (λ again e. c.in_default-round.not-Some again (ap round_in (sym c.in-Ended.is ∙ e))) comes q w)

pub returns-in_ok-push-clause-still : goal.returns-in_ok-push-clause-still
returns-in_ok-push-clause-still c = λ r discipline steps leg due seen m few count of comes.
    (let quiet = silent_slots r discipline in
    let again = c.in-Some.again in
    let round = round_seen quiet in_call_on_slots waits_on_slots steps leg again due seen m (subst (λ k. Comes r discipline steps leg due seen k m) (c.in-Ended.is ∙ ap (λ (o : Option PassingSets). Ended o) c.in-Some.is) comes) in
    adds_one quiet in_call_on_slots waits_on_slots steps leg c.args.origin c.args.self.now _ again c.in_ok-push.ensures.items round
    (all_served c.everybody.result c.but.result again.served (length r.processes) few (λ q. c.everybody.ensures q ∙ ap (λ n. nat_lt q 16 && nat_lt q n) count) c.but.ensures (c.is_empty-is_fair.ensures.0 c.if-is_fair.true)))

pub returns-else-is_fair-clause-still : goal.returns-else-is_fair-clause-still
returns-else-is_fair-clause-still c = λ r discipline steps leg due seen m few count of comes.
    (let quiet = silent_slots r discipline in
    let again = c.in-Some.again in
    let round : GoesRound quiet in_call_on_slots waits_on_slots steps leg again = round_seen quiet in_call_on_slots waits_on_slots steps leg again due seen m (subst (λ k. Comes r discipline steps leg due seen k m) (c.in-Ended.is ∙ ap (λ (o : Option PassingSets). Ended o) c.in-Some.is) comes) in
    let none : (q : ℕ) → q < quiet.processes → LetsWait quiet waits_on_slots steps leg q → ⊥ =
    λ q lt w.
    (let seen_so = seen_to_wait quiet in_call_on_slots waits_on_slots steps leg q again lt round w in
    elim c.else-is_fair.branch [
      | else-is_fair-via-then-is_fair+else-not-is_empty v ↦ not_both (sym seen_so.1 ∙ v.is_empty.ensures.0 v.if-not-is_empty.false q)
      | else-is_fair-via-else-is_fair v ↦
          not_both (sym (c.is_empty-is_fair.ensures.1 (nobody_left c.everybody.result c.but.result again.served (length r.processes) (λ k. c.everybody.ensures k ∙ ap (λ n. nat_lt k 16 && nat_lt k n) count) c.but.ensures seen_so.0)) ∙ v.if-is_fair.false)
    ]) in
    adds_none quiet in_call_on_slots waits_on_slots steps leg c.args.origin c.args.self.now c.args.self.now refl none)
