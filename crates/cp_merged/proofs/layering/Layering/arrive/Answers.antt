use Rattle.std.proofs.Common.{◌∙◌, ◌+◌, ◌++◌, ◌^◌, List, ap, length, map, refl, sym, subst}
use Rattle.cp_merged.proofs.Words.{Shown, IsArrival, IsBefore, keyed, rows_of, width_of}
use Rattle.cp_merged.proofs.Arriving.{counts_small, ended_holds, room_for_row, waits_holds, words_small}
use Rattle.cp_merged.proofs.Choosing.{ok_any, ok_to}
use Rattle.cp_merged.proofs.KnownRows.{known_same, whole_row}
use Rattle.cp_merged.proofs.Rowing.{Same, low}
use Rattle.cp_merged.specs.Layers.{with_lead}
use Rattle.cp_merged.proofs.layering.Layering.arrive.Goals as goal

pub output-before-requires : goal.output-before-requires
output-before-requires g c =
    let h = c.requires.arrival.1 in
    (h.old, subst (λ l. IsBefore c.args.self.now.known l h.old) (sym c.deref.ensures.value) h.before)

pub end-requires : goal.end-requires
end-requires g c =
    let f = c.requires.small.0 in
    (f.ended, c.requires.small.1.ended, counts_small f c.args.prefixes.now.count c.requires.small.2)

pub returns-in-Ended-clause-kept : goal.returns-in-Ended-clause-kept
returns-in-Ended-clause-kept g c = ok_any c.end.result _ (known_same c.args.self.now.known)

pub returns-in-Ended-clause-front : goal.returns-in-Ended-clause-front
returns-in-Ended-clause-front g c =
    let r = c.args.job.now.run.program.now in
    let old = c.args.self.now in
    let new = c.end.new.self in
    ok_to c.end.result _ _ c.end.ensures.ended
    (λ a go m f h holds.
    (let before = c.output-before.ensures h.old (subst (λ l. IsBefore old.known l h.old) (sym c.deref.ensures.value) h.before) in
    let told = ap (λ l. l ++ c.deref-in-Ended.result.now) before ∙ ap (λ l. h.old ++ l) c.deref-in-Ended.ensures.value ∙ sym h.told in
    ended_holds r c.args.job.now.run.limits.discipline old.known old.frontier.ended.entries new.ended.entries (rows_of old.frontier.layer) (rows_of new.layer) c.in-Ended.kind c.args.prefixes.now m (c.output-before.result.now ++ c.deref-in-Ended.result.now) c.args.halt f c.in-Ended.is told (ap rows_of c.end.ensures.layer) go holds))

pub add-requires-clause-small : goal.add-requires-clause-small
add-requires-clause-small g c =
    let old = c.args.self.now in
    let f = c.requires.small.0 in
    room_for_row c.args.job.now.run.program.now old.known (rows_of old.frontier.layer) f.layer c.args.prefixes.now.count (10 ^ 126) c.requires.small.1.layer (words_small f c.args.prefixes.now.count c.requires.small.2)

pub returns-in_ok-number_output-in-Choice-clause-on : goal.returns-in_ok-number_output-in-Choice-clause-on
returns-in_ok-number_output-in-Choice-clause-on g c =
    let r = c.args.job.now.run.program.now in
    let old = c.args.self.now in
    let m = c.requires.arrival.0 in
    let kept = c.number_output.ensures.kept in
    let here = subst (λ l. IsArrival r old.known l c.deref-in-Choice.result.now m) (sym c.deref_mut.ensures.value) (subst (λ (s : List Shown). IsArrival r old.known old.row.items s m) (sym c.deref-in-Choice.ensures.value) c.requires.arrival.1) in
    let is = c.in_ok-number_output-in-Choice.ensures.row r m here in
    let whole = whole_row old.row.items c.number_output.new.row old.row.len (is.has.long ∙ ap (λ t. width_of t + 1) kept.table ∙ sym c.requires.on.long ∙ sym old.row.ok.0) in
    ok_any c.add.result _
    (record {
      known_is = c.number_output.ensures.known r c.requires.on.known_is;
      ruled = kept.ruled ∙ c.requires.on.ruled;
      long = ap length whole ∙ is.has.long;
      width_is = c.add.ensures.width ∙ c.requires.on.width_is ∙ sym (ap (λ t. width_of t + 1) kept.table);
    })

pub returns-in_ok-number_output-in-Choice-clause-front : goal.returns-in_ok-number_output-in-Choice-clause-front
returns-in_ok-number_output-in-Choice-clause-front g c =
    let r = c.args.job.now.run.program.now in
    let old = c.args.self.now in
    let new = c.number_output.new.self in
    let kept = c.number_output.ensures.kept in
    let x = c.args.prefixes.now in
    ok_to c.add.result _ _ c.add.ensures.rows
    (λ a put m f h holds.
    (let here = subst (λ l. IsArrival r old.known l c.deref-in-Choice.result.now m) (sym c.deref_mut.ensures.value) (subst (λ (s : List Shown). IsArrival r old.known old.row.items s m) (sym c.deref-in-Choice.ensures.value) h) in
    let is = c.in_ok-number_output-in-Choice.ensures.row r m here in
    let whole = whole_row old.row.items c.number_output.new.row old.row.len (is.has.long ∙ ap (λ t. width_of t + 1) kept.table ∙ sym c.requires.on.long ∙ sym old.row.ok.0) in
    let all = put ∙ ap (λ l. with_lead Same (map keyed (rows_of old.frontier.layer)) (low l x)) (c.deref-in-Choice-2.ensures.value ∙ whole) in
    waits_holds r c.args.job.now.run.limits.discipline old.known new old.frontier.ended.entries old.frontier.ended.entries (rows_of old.frontier.layer) (rows_of c.add.new.self) c.number_output.new.row x m c.args.halt f c.in-Choice.is refl kept is h.own all holds))
