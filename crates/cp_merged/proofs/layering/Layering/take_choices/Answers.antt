use Rattle.std.proofs.Common.{rules, ◌≡◌, ◌∙◌, ◌<◌, ◌+◌, ◌^◌, true, get_or, length, take, sym, ap, subst, arith}
use Rattle.std.proofs.lemmas.List.{length-take-le, take_all, take_more}
use Rattle.cp_merged.proofs.Words.{Machine, may, those_below, slots, same_outcome, same_key, Holds, rows_of, total}
use Rattle.cp_merged.specs.Layers as layers
use Rattle.cp_merged.specs.declared.prefixes.Prefixes as code
use Rattle.cp_merged.proofs.Choosing.{after_list, length_those, list_more, list_those, may_those, room_for_one}
use Rattle.cp_merged.proofs.KnownRows.{known_on, known_same, may_listed, row_for_on}
use Rattle.cp_merged.proofs.layering.Layering.take_choices.Goals as goal

pub candidates-numbers-requires : goal.candidates-numbers-requires
candidates-numbers-requires g c = (c.args.job.now.run.program.now, c.requires.here.0, c.requires.on.known_is, c.requires.here.1, c.requires.here.2)

pub take_choice-requires-clause-on : goal.take_choice-requires-clause-on
take_choice-requires-clause-on g c = c.loop-process.invariant.on

pub take_choice-requires-clause-here : goal.take_choice-requires-clause-here
take_choice-requires-clause-here g c =
    let r = c.args.job.now.run.program.now in
    let m = c.requires.here.0 in
    let sys = slots r c.args.job.now.run.limits.discipline in
    let i = c.loop-process.process-index in
    let all = c.as_slice-process-items.result.now in
    let listed : all ≡ those_below sys.processes (may sys m) = c.as_slice-process-items.ensures.value ∙ may_listed r c.args.self.now.known c.args.job.now.run.limits.discipline m _ c.requires.on.ruled (c.candidates-numbers.ensures r m c.requires.on.known_is c.requires.here.1 c.requires.here.2) in
    let lt : i < length all = omega arith in
    let on : may sys m (get_or all i 0) ≡ true = may_those sys m all listed i lt in
    (m, row_for_on r c.args.self.now.known c.loop-process.self.known c.loop-process.invariant.kept c.args.from.now m c.requires.here.1, c.requires.here.2, search (rules, on))

pub take_choice-requires-clause-small : goal.take_choice-requires-clause-small
take_choice-requires-clause-small g c =
    let r = c.args.job.now.run.program.now in
    let m = c.requires.here.0 in
    let sys = slots r c.args.job.now.run.limits.discipline in
    let x : layers.Lead Machine = record { state = m; first = c.args.prefixes.now.first.items; count = c.args.prefixes.now.count } in
    let i = c.loop-process.process-index in
    let numbers = c.as_slice-process-items.result.now in
    let f = c.requires.small.0 in
    let listed : numbers ≡ those_below sys.processes (may sys m) = c.as_slice-process-items.ensures.value ∙ may_listed r c.args.self.now.known c.args.job.now.run.limits.discipline m _ c.requires.on.ruled (c.candidates-numbers.ensures r m c.requires.on.known_is c.requires.here.1 c.requires.here.2) in
    let lt : i < length numbers = omega arith in
    let taken = length-take-le i numbers (omega (arith, lt)) in
    let all = ap length listed in
    let few = length_those sys.processes (may sys m) in
    let sixteen = c.requires.on.known_is.cached.sound.few in
    let old = c.loop-process.self in
    subst (λ (y : code.Prefixes). (f : layers.Front Machine) × Holds r old.known old.frontier.ended.entries (rows_of old.frontier.layer) f × (total f + y.count < 10 ^ 126)) (sym c.loop-process.invariant.arriving)
    (after_list sys same_outcome same_key c.args.job.now.run.limits.steps x (take i numbers) f, c.loop-process.invariant.front m f c.requires.here.1 c.requires.here.2 c.requires.small.1, room_for_one sys same_outcome same_key c.args.job.now.run.limits.steps x (take i numbers) f (omega (arith, taken, lt, all, few, sixteen)) c.requires.small.2)

pub take_choice-requires-clause-room : goal.take_choice-requires-clause-room
take_choice-requires-clause-room g c = subst (λ (y : code.Prefixes). length y.first.items < 100) (sym c.loop-process.invariant.arriving) c.requires.room

pub loop-process-init : goal.loop-process-init
loop-process-init g c = record { on = c.requires.on; arriving = c.take_words.ensures; kept = known_same c.args.self.now.known; front = λ m f is own h. h }

pub loop-process-preserved : goal.loop-process-preserved
loop-process-preserved g c =
    let r = c.args.job.now.run.program.now in
    let sys = slots r c.args.job.now.run.limits.discipline in
    let steps = c.args.job.now.run.limits.steps in
    let word = c.args.prefixes.now.first.items in
    let count = c.args.prefixes.now.count in
    let i = c.loop-process.process-index in
    let numbers = c.as_slice-process-items.result.now in
    let p = get_or numbers i 0 in
    let lt : i < length numbers = omega arith in
    let old = c.loop-process.self in
    let new = c.take_choice.new.self in
    record {
      on = c.in_ok-take_choice.ensures.on;
      arriving = c.in_ok-take_choice.ensures.same ∙ c.loop-process.invariant.arriving;
      kept = known_on c.args.self.now.known old.known new.known c.loop-process.invariant.kept c.in_ok-take_choice.ensures.kept;
      front = λ m f is own h.
          (let x : layers.Lead Machine = record { state = m; first = word; count = count } in
          let k : layers.Front Machine = after_list sys same_outcome same_key steps x (take i numbers) f in
          let listed : numbers ≡ those_below sys.processes (may sys m) = c.as_slice-process-items.ensures.value ∙ may_listed r c.args.self.now.known c.args.job.now.run.limits.discipline m _ c.requires.on.ruled (c.candidates-numbers.ensures r m c.requires.on.known_is is own) in
          let may_p : may sys m p ≡ true = may_those sys m numbers listed i lt in
          let on = c.in_ok-take_choice.ensures.front m k (row_for_on r c.args.self.now.known old.known c.loop-process.invariant.kept c.args.from.now m is) own may_p (c.loop-process.invariant.front m f is own h) in
          let one = subst (λ (y : code.Prefixes). Holds r new.known new.frontier.ended.entries (rows_of new.frontier.layer) (layers.after_choice sys same_outcome same_key steps (record { state = m; first = y.first.items; count = y.count }) p k)) c.loop-process.invariant.arriving on in
          subst (Holds r new.known new.frontier.ended.entries (rows_of new.frontier.layer)) (sym (list_more sys same_outcome same_key steps x (take i numbers) p f) ∙ ap (λ ps. after_list sys same_outcome same_key steps x ps f) (sym (take_more numbers i 0 lt))) one);
    }

pub returns-clause-front : goal.returns-clause-front
returns-clause-front g c = λ m f is own h.
    (let r = c.args.job.now.run.program.now in
    let sys = slots r c.args.job.now.run.limits.discipline in
    let steps = c.args.job.now.run.limits.steps in
    let x : layers.Lead Machine = record { state = m; first = c.args.prefixes.now.first.items; count = c.args.prefixes.now.count } in
    let i = c.loop-process.process-index in
    let numbers = c.as_slice-process-items.result.now in
    let new = c.loop-process.self in
    let listed : numbers ≡ those_below sys.processes (may sys m) = c.as_slice-process-items.ensures.value ∙ may_listed r c.args.self.now.known c.args.job.now.run.limits.discipline m _ c.requires.on.ruled (c.candidates-numbers.ensures r m c.requires.on.known_is is own) in
    let whole : take i numbers ≡ numbers = take_all i numbers (omega arith) in
    let all = ap (λ ps. after_list sys same_outcome same_key steps x ps f) (whole ∙ listed) ∙ list_those sys same_outcome same_key steps x sys.processes f in
    subst (Holds r new.known new.frontier.ended.entries (rows_of new.frontier.layer)) all (c.loop-process.invariant.front m f is own h))
