use Rattle.std.proofs.Common.{◌≡◌, ◌∙◌, ◌∷◌, [], false, true, ap, inl, sym, subst}
use Rattle.cp_machine.specs.System.{machine_of}
use Rattle.cp_run.proofs.Tracing.{ok_as}
use Rattle.cp_layers.specs.Adding.{HasNoOthers}
use Rattle.cp_waiting_ends.specs.Again.{is_looked_at}
use Rattle.cp_waiting_ends.specs.Waiting.{end_seen, ends_words, is_waiting}
use Rattle.cp_waiting_ends.proofs.Seeing.{adds_longer, adds_nowhere, adds_seen, adds_short, words_short}
use Rattle.cp_waiting_ends.proofs.again.arrive.Goals as goal

pub returns-then-not-is_waiting-clause-marks : goal.returns-then-not-is_waiting-clause-marks
returns-then-not-is_waiting-clause-marks c = λ f word holds is.
    (let run = c.args.job.now.run in
    let off : is_waiting c.args.halt ≡ false = search in
    adds_nowhere run.program.now run.limits.discipline c.args.searched.now.looked word c.args.halt (machine_of c.args.state.now) off c.args.ends.now)

pub returns-then-not-is_waiting-clause-words : goal.returns-then-not-is_waiting-clause-words
returns-then-not-is_waiting-clause-words c = λ f word holds is x there. inl there

pub returns-then-has-clause-marks : goal.returns-then-has-clause-marks
returns-then-has-clause-marks c = λ f word holds is.
    (let run = c.args.job.now.run in
    let on : is_waiting c.args.halt ≡ true = search in
    let there : c.has.result ≡ true = search in
    adds_seen run.program.now run.limits.discipline c.args.searched.now.looked word c.args.halt (machine_of c.args.state.now) on _ c.in_ok-end.ensures c.args.ends.now (c.has.ensures there))

pub returns-then-has-clause-words : goal.returns-then-has-clause-words
returns-then-has-clause-words c = λ f word holds is x there. inl there

pub returns-then-not-is_looked_at-clause-marks : goal.returns-then-not-is_looked_at-clause-marks
returns-then-not-is_looked_at-clause-marks c = λ f word holds is.
    (let run = c.args.job.now.run in
    let same : c.in_ok-word.word.items ≡ word = c.in_ok-word.ensures run.program.now f.states word holds.states is in
    let off : c.is_looked_at.result ≡ false = search in
    let long = ap (is_looked_at c.args.searched.now.looked) (sym (c.deref.ensures.value ∙ same)) ∙ sym c.is_looked_at.ensures ∙ off in
    adds_longer run.program.now run.limits.discipline c.args.searched.now.looked word c.args.halt (machine_of c.args.state.now) long c.args.ends.now)

pub returns-then-not-is_looked_at-clause-words : goal.returns-then-not-is_looked_at-clause-words
returns-then-not-is_looked_at-clause-words c = λ f word holds is x there. inl there

pub returns-clause-marks : goal.returns-clause-marks
returns-clause-marks c =
    ok_as c.add.result _ _ c.add.ensures.marks (λ u added f word holds is.
    (let run = c.args.job.now.run in
    let same : c.in_ok-word.word.items ≡ word = c.in_ok-word.ensures run.program.now f.states word holds.states is in
    let on : is_waiting c.args.halt ≡ true = search in
    let short_on : c.is_looked_at.result ≡ true = search in
    let short = ap (is_looked_at c.args.searched.now.looked) (sym (c.deref.ensures.value ∙ same)) ∙ sym c.is_looked_at.ensures ∙ short_on in
    adds_short run.program.now run.limits.discipline c.args.searched.now.looked word c.args.halt (machine_of c.args.state.now) on _ c.in_ok-end.ensures short c.args.ends.now c.add.new.self added))

pub returns-clause-words : goal.returns-clause-words
returns-clause-words c =
    ok_as c.add.result _ _ c.add.ensures.words (λ u added f word holds is.
    (let run = c.args.job.now.run in
    let same : c.in_ok-word.word.items ≡ word = c.in_ok-word.ensures run.program.now f.states word holds.states is in
    let on : is_waiting c.args.halt ≡ true = search in
    let short_on : c.is_looked_at.result ≡ true = search in
    let short = ap (is_looked_at c.args.searched.now.looked) (sym (c.deref.ensures.value ∙ same)) ∙ sym c.is_looked_at.ensures ∙ short_on in
    words_short run.program.now run.limits.discipline c.args.searched.now.looked word c.args.halt (machine_of c.args.state.now) on _ c.in_ok-end.ensures short c.args.ends.now c.add.new.self (subst (λ w. HasNoOthers (ends_words c.args.ends.now) ((end_seen c.in_ok-end.end, w) ∷ []) (ends_words c.add.new.self)) (c.deref-2.ensures.value ∙ same) added)))
