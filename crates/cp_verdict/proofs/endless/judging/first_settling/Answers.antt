use Rattle.std.proofs.Common.{◌∙◌, List, ap, sym}
use Rattle.std.specs.Prelude.{find, string_bytes}
use Rattle.cp_expectation.specs.declared.expectation.Claim.{Claim}
use Rattle.cp_expectation.specs.declared.expectation.Topic.{Topic}
use Rattle.cp_verdict.specs.endless.Expectations.{is_value_named, is_waiting_named}
use Rattle.cp_verdict.specs.endless.Judged.{found_by}
use Rattle.cp_verdict.specs.endless.Knowledge.{those_waiting}
use Rattle.cp_verdict.specs.endless.Naming.{Names, processes_of}
use Rattle.cp_verdict.specs.waiting.EndsJudged.{found_end}
use Rattle.cp_verdict.proofs.any_length.Telling.{about_by, waiting_told, word_told}
use Rattle.cp_verdict.proofs.endless.judging.first_settling.Goals as goal

pub returns-in-Only : goal.returns-in-Only
returns-in-Only c = λ values texts.
    (let names : Names = record { values = values; processes = processes_of c.args.legend.now } in
    let e = c.args.expectation.now in
    let k = c.args.known.now in
    c.first_end-end.ensures values ∙ ap (λ (claim : Claim). found_by claim names e.topics.items k (found_end names e k)) (sym c.in-Only.is))

pub returns-in-Some : goal.returns-in-Some
returns-in-Some c = λ values texts.
    (let names : Names = record { values = values; processes = processes_of c.args.legend.now } in
    let e = c.args.expectation.now in
    let ts = e.topics.items in
    let k = c.args.known.now in
    let end = found_end names e k in
    waiting_told names ts k end c.first_waiting.result c.in-Some.one c.in-Some.is (c.first_waiting.ensures ∙ ap (λ (l : List Topic). find (λ x. is_waiting_named names.processes l x.process) (those_waiting k.waits)) c.as_slice-topics.ensures.value) ∙ about_by names ts k end e.claim c.in_default.not-Only)

pub returns : goal.returns
returns c = λ values texts.
    (let names : Names = record { values = values; processes = processes_of c.args.legend.now } in
    let e = c.args.expectation.now in
    let ts = e.topics.items in
    let k = c.args.known.now in
    let end = found_end names e k in
    word_told names ts k end c.first_waiting.result c.first_end-end.result c.first_shown.result c.value_witness.result c.earlier.result texts c.in_default-first_waiting.is
    (c.first_waiting.ensures ∙ ap (λ (l : List Topic). find (λ x. is_waiting_named names.processes l x.process) (those_waiting k.waits)) c.as_slice-topics.ensures.value) (c.first_end-end.ensures values)
    (c.first_shown.ensures ∙ ap (λ (l : List Topic). find (λ v. is_value_named l (string_bytes v.text)) c.deref.result.now) c.as_slice-topics.ensures.value ∙ ap (find (λ v. is_value_named ts (string_bytes v.text))) c.deref.ensures.value) c.value_witness.ensures c.earlier.ensures ∙
    about_by names ts k end e.claim c.in_default.not-Only)
