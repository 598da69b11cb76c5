use Rattle.std.proofs.Common.{◌≡◌, ◌∙◌, ℕ, List, [], ap, map, subst, sym, true}
use Rattle.cp_verdict.specs.Judged.{line_of}
use Rattle.cp_verdict.specs.Marked.{mark_of}
use Rattle.cp_verdict.specs.endless.Naming.{processes_of}
use Rattle.cp_verdict.specs.waiting.Asking.{name_who}
use Rattle.cp_verdict.specs.waiting.Rows.{AreRowsOf, HaveShortWords}
use Rattle.cp_verdict.specs.declared.program.Marked.{Marked}
use Rattle.cp_verdict.proofs.Tallied.{heads, heads_of}
use Rattle.cp_verdict.proofs.who.Verdicts.{marked_plainly, marked_so}
use Rattle.cp_verdict.proofs.waiting.marking.mark_rows.Goals as goal

pub judge_each-requires : goal.judge_each-requires
judge_each-requires c = subst HaveShortWords (sym c.deref-3.ensures.value) c.in_ok-rows.ensures.short

pub returns-clause-marked : goal.returns-clause-marked
returns-clause-marked c = λ who lines told ends.
    (let rows = c.in_ok-seen.ensures ∙ ap heads told ∙ heads_of lines in
    let are : name_who c.args.expectations.now ≡ true → AreRowsOf who lines c.deref-3.result.now = λ asks. subst (AreRowsOf who lines) (sym c.deref-3.ensures.value) (c.in_ok-rows.ensures.rows who lines (ap (map line_of) c.deref.ensures.value ∙ rows) (ends asks)) in
    let m : Marked = record { judgements = c.in_ok-judgements.judgements; mark = c.mark_of-mark.result; stops = c.stops_of-stops.result } in
    marked_so c.args.program.now.names (processes_of c.args.legend.now) who lines c.args.expectations.now m (map line_of c.deref-5.result.now) (ap (map line_of) c.deref-5.ensures.value ∙ rows)
    (c.in_ok-judgements.ensures who lines (ap (map line_of) c.deref-2.ensures.value ∙ rows) are) (c.mark_of-mark.ensures ∙ ap mark_of c.deref-4.ensures.value) c.stops_of-stops.ensures)

pub returns-clause-rows : goal.returns-clause-rows
returns-clause-rows c = λ none lines told.
    (let who : List ℕ → List ℕ = λ word. [] in
    let rows = c.in_ok-seen.ensures ∙ ap heads told ∙ heads_of lines in
    let m : Marked = record { judgements = c.in_ok-judgements.judgements; mark = c.mark_of-mark.result; stops = c.stops_of-stops.result } in
    marked_plainly c.args.program.now.names (processes_of c.args.legend.now) who lines c.args.expectations.now m (map line_of c.deref-5.result.now) none (ap (map line_of) c.deref-5.ensures.value ∙ rows)
    (c.in_ok-judgements.ensures who lines (ap (map line_of) c.deref-2.ensures.value ∙ rows) (λ asks. absurd (cc (asks, none)))) (c.mark_of-mark.ensures ∙ ap mark_of c.deref-4.ensures.value) c.stops_of-stops.ensures)
