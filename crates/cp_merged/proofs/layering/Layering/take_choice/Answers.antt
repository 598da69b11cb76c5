use Rattle.std.proofs.Common.{◌≡◌, ◌∙◌, ◌+◌, ◌++◌, ◌∷◌, [], ◌-◌, ℕ, List, length, take, sym, ap, subst, arith}
use Rattle.std.proofs.lemmas.List.{length-append, take_at}
use Rattle.cp_merged.proofs.Words.{IsArrival, node_of, rows_of, width_of}
use Rattle.cp_merged.specs.declared.prefixes.Prefixes as code
use Rattle.cp_merged.proofs.Arriving.{choice_holds, holds_on}
use Rattle.cp_merged.proofs.Choosing.{ok_any, ok_to}
use Rattle.cp_merged.proofs.KnownRows.{known_on, whole_row}
use Rattle.cp_merged.proofs.layering.Layering.take_choice.Goals as goal

pub arrive-added-requires-clause-on : goal.arrive-added-requires-clause-on
arrive-added-requires-clause-on g c =
    let old = c.args.self.now in
    let h = c.requires.here in
    let kept = c.in_ok-halt.ensures.kept in
    let goes = c.in_ok-halt.ensures.goes h.0 h.1 h.2 h.3 in
    let whole = whole_row old.row.items c.go.new.row old.row.len (goes.arrival.has.long ∙ ap (λ t. width_of t + 1) kept.table ∙ sym c.requires.on.long ∙ sym old.row.ok.0) in
    record {
      known_is = c.in_ok-halt.ensures.known;
      ruled = kept.ruled ∙ c.requires.on.ruled;
      long = ap length whole ∙ goes.arrival.has.long;
      width_is = c.requires.on.width_is ∙ sym (ap (λ t. width_of t + 1) kept.table);
    }

pub arrive-added-requires-clause-arrival : goal.arrive-added-requires-clause-arrival
arrive-added-requires-clause-arrival g c =
    let r = c.args.job.now.run.program.now in
    let old = c.args.self.now in
    let h = c.requires.here in
    let kept = c.in_ok-halt.ensures.kept in
    let goes = c.in_ok-halt.ensures.goes h.0 h.1 h.2 h.3 in
    let whole = whole_row old.row.items c.go.new.row old.row.len (goes.arrival.has.long ∙ ap (λ t. width_of t + 1) kept.table ∙ sym c.requires.on.long ∙ sym old.row.ok.0) in
    (goes.after, subst (λ l. IsArrival r c.go.new.self l c.go.new.shown.items goes.after) (sym whole) goes.arrival)

pub arrive-added-requires-clause-small : goal.arrive-added-requires-clause-small
arrive-added-requires-clause-small g c =
    let old = c.args.self.now in
    (c.requires.small.0, holds_on c.args.job.now.run.program.now old.known c.go.new.self old.frontier.ended.entries (rows_of old.frontier.layer) c.requires.small.0 c.in_ok-halt.ensures.kept c.requires.small.1, c.requires.small.2)

pub returns-clause-kept : goal.returns-clause-kept
returns-clause-kept g c = ok_to c.arrive-added.result _ _ c.arrive-added.ensures.kept (λ a kept. known_on c.args.self.now.known c.go.new.self c.arrive-added.new.self.known c.in_ok-halt.ensures.kept kept)

pub returns-clause-same : goal.returns-clause-same
returns-clause-same g c =
    let word = c.args.arriving.now.first.items in
    let longer = c.push.new.self.items in
    let more : longer ≡ word ++ c.args.process ∷ [] = c.push.ensures.items in
    let all = ap length more in
    let long = length-append word (c.args.process ∷ []) in
    let back : c.pop.new.self.items ≡ word = c.pop.ensures.rest ∙ ap (take (length longer - 1)) more ∙ take_at word (c.args.process ∷ []) (length longer - 1) (omega (arith, all, long)) in
    let whole : List ℕ → code.Prefixes = λ items. record { count = c.args.arriving.now.count; first = record { items = items } } in
    ok_any c.arrive-added.result _ (ap whole back)

pub returns-clause-front : goal.returns-clause-front
returns-clause-front g c =
    let r = c.args.job.now.run.program.now in
    let l = c.args.job.now.run.limits in
    let old = c.args.self.now in
    let new = c.arrive-added.new.self in
    let kept = c.in_ok-halt.ensures.kept in
    ok_to c.arrive-added.result _ _ c.arrive-added.ensures.front
    (λ a on m f is own may h.
    (let goes = c.in_ok-halt.ensures.goes m is own may in
    let whole = whole_row old.row.items c.go.new.row old.row.len (goes.arrival.has.long ∙ ap (λ t. width_of t + 1) kept.table ∙ sym c.requires.on.long ∙ sym old.row.ok.0) in
    choice_holds r l.discipline l.steps new.known new.frontier.ended.entries (rows_of new.frontier.layer) m c.args.arriving.now.first.items c.push.new.self.items c.args.arriving.now.count c.args.process (node_of c.in_ok-halt.halt goes.after) f may goes.node c.push.ensures.items
    (on goes.after f (subst (λ l. IsArrival r c.go.new.self l c.go.new.shown.items goes.after) (sym whole) goes.arrival) (holds_on r old.known c.go.new.self old.frontier.ended.entries (rows_of old.frontier.layer) f kept h))))
