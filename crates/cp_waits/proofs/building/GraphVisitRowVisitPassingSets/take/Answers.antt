use Rattle.cp_waits.proofs.Words.{◌≡◌, ◌∙◌, ◌∷◌, [], ℕ, List, Some, ap, sym, subst, true, Machine, chosen, silent_slots, in_call_on_slots, those_below}
use Rattle.cp_waits.proofs.Words.{waits_on_slots, slice_get, slots, refl, AddsChoicesOnSlots, IsNumber, Comes, choice_leg, Graph}
use Rattle.std.specs.Prelude.{◌++◌}
use Rattle.cp_ends.specs.Answer.{halt_of, slot_graph}
use Rattle.cp_ends.specs.Legs.{with_round}
use Rattle.cp_ends.specs.Searched.{Grows}
use Rattle.cp_ends.specs.Visited.{gone_with}
use Rattle.cp_ends.proofs.GoingOn.{list_grows, list_more_grows}
use Rattle.cp_ends.proofs.Searching.Lists.{grown_at, grows_joined}
use Rattle.cp_run.specs.Run.{may as may_be}
use Rattle.cp_waits.specs.Building.{findings_at}
use Rattle.cp_waits.proofs.Adding.{adds_after, adds_one_choice}
use Rattle.cp_waits.proofs.Numbers.{leads_to, quiet_may}
use Rattle.cp_waits.proofs.Standing.{choice_of_stretch}
use Rattle.cp_waits.proofs.Visiting.{from_same}
use Rattle.cp_waits.proofs.building.GraphVisitRowVisitPassingSets.take.Goals as goal

pub returns-clause-within : goal.returns-clause-within
returns-clause-within c = λ room m w may.
    (let job = c.args.job.now in
    let r = job.run.program.now in
    let discipline = job.run.limits.discipline in
    let steps = job.run.limits.steps in
    let quiet = silent_slots r discipline in
    let gr = slot_graph r discipline steps in
    let at = c.args.at in
    let p = c.args.process in
    let arrived = c.in_ok-arrived.arrived in
    let told = c.take_choice.new.self.told in
    let within = w.1 in
    let now = c.args.self.now.graph in
    let noted : Graph = c.note_standstill.new.self in
    let new : Graph = record noted { edges = c.push.new.self } in
    let done = those_below p (may_be (slots r discipline) m) in
    let f = findings_at r discipline steps job.most at in
    let from = within.ends.from in
    let has_room = sym c.has_room.ensures ∙ c.if-not-has_room.false in
    let ends = c.in_ok-arrived.ensures.within has_room m w.0 may in
    let it = c.in_ok-arrived.ensures.told m w.0 may in
    let last = it.last in
    let same = from_same r gr job.most c.args.self.now.search.found c.take_choice.new.self.found at m m done (done ++ p ∷ []) ends.within within.ends in (
      ends,
      record {
        ends = ends.within;
        old = within.old;
        before = within.before;
        adds = λ states after.
            (let more : Grows (gone_with gr from (done ++ p ∷ []) f).states states = subst (λ (x : Machine × List ℕ). Grows (gone_with gr x (done ++ p ∷ []) f).states states) same after in
            let before = grows_joined (gone_with gr from done f).states (gone_with gr from (done ++ p ∷ []) f).states states (list_more_grows gr from done p f) more in
            let first = grows_joined f.states (gone_with gr from done f).states states (list_grows gr from done f) before in
            let is : slice_get states at ≡ Some (m, from.1) = grown_at f.states states at from first within.ends.is ∙ ap (λ (k : Machine). Some (k, from.1)) (sym within.ends.here) in
            let allowed : may_be quiet m p ≡ true = sym (ap (λ f. f p) (quiet_may r discipline m)) ∙ may in
            let adds = within.adds states before in
            let count = adds.processes ∙ (within.before states first).processes in
            let halt = with_round told.again (halt_of arrived) in
            let comes : Comes r discipline steps (choice_leg quiet steps m p) (m ∷ []) told.seen halt last = it.seen in
            let leads : IsNumber states (chosen quiet steps m p) c.number.result =
            subst (IsNumber states (chosen quiet steps m p)) (sym c.number.ensures)
            (leads_to quiet in_call_on_slots waits_on_slots steps states (choice_leg quiet steps m p) (m ∷ []) told.seen told.again last arrived has_room comes
            (λ number e. let there = it.number number from e within.ends.is in (there.0, grown_at (gone_with gr from (done ++ p ∷ []) f).states states number (last, there.0) more there.1))) in
            let still = c.in_ok-note_standstill.ensures.still r discipline steps (choice_leg quiet steps m p) (m ∷ []) told.seen last w.0.look.few count (choice_of_stretch quiet steps m p) (subst (λ h. Comes r discipline steps (choice_leg quiet steps m p) (m ∷ []) told.seen h last) (sym c.halt-halt.ensures) comes) in
            let one : AddsChoicesOnSlots r discipline steps states at m (p ∷ []) now new = adds_one_choice quiet in_call_on_slots waits_on_slots steps states at (m, from.1) p c.number.result told.seen halt last now noted new is allowed leads comes still c.note_standstill.ensures.processes c.note_standstill.ensures.ends c.note_standstill.ensures.edges refl refl refl c.in_ok-push.ensures.items in
            adds_after quiet in_call_on_slots waits_on_slots steps states at m done (p ∷ []) within.old now new adds one);
      },
    ))

pub returns-clause-stops : goal.returns-clause-stops
returns-clause-stops c = λ full. absurd (cc)

pub returns-then-not-has_room-clause-within : goal.returns-then-not-has_room-clause-within
returns-then-not-has_room-clause-within c = λ room m w may. absurd (cc)

pub returns-then-not-has_room-clause-stops : goal.returns-then-not-has_room-clause-stops
returns-then-not-has_room-clause-stops c = λ full. c.in_ok-arrived.ensures.stops (sym c.has_room.ensures ∙ c.if-not-has_room.true)
