use Rattle.std.proofs.Common.{◌∙◌, arith, sym}
use Rattle.std.proofs.lemmas.List.Sums.{prefix_len-drop_all, prefix_len-drop_no, prefix_len-drop_yes}
use Rattle.cp_text.specs.Pieces.{is_in}
use Rattle.cp_text.proofs.Runs.{run_begins}
use Rattle.cp_text.proofs.piece.run_len.Goals as goal

pub returns-then-not-is_in-clause-value : goal.returns-then-not-is_in-clause-value
returns-then-not-is_in-clause-value c =
    let none = prefix_len-drop_no (is_in c.args.class) c.args.text.now c.loop-at.at 0 c.loop-at-test.true (sym c.is_in.ensures ∙ c.if-not-is_in.true) in
    omega (arith, none, c.loop-at.invariant)

pub returns-then-not-is_in-clause-moves : goal.returns-then-not-is_in-clause-moves
returns-then-not-is_in-clause-moves c =
    let none = prefix_len-drop_no (is_in c.args.class) c.args.text.now c.loop-at.at 0 c.loop-at-test.true (sym c.is_in.ensures ∙ c.if-not-is_in.true) in
    λ some here. (let begun = run_begins (is_in c.args.class) c.args.text.now some here in omega (arith, begun, none, c.loop-at.invariant))

pub loop-at-preserved : goal.loop-at-preserved
loop-at-preserved c =
    let more = prefix_len-drop_yes (is_in c.args.class) c.args.text.now c.loop-at.at 0 c.loop-at-test.true (sym c.is_in.ensures ∙ c.if-not-is_in.false) in
    omega (arith, more, c.loop-at.invariant)

pub returns-clause-value : goal.returns-clause-value
returns-clause-value c =
    let none = prefix_len-drop_all (is_in c.args.class) c.args.text.now c.loop-at.at c.loop-at-test.false in
    omega (arith, none, c.loop-at.invariant, c.loop-at.auto.at-end)

pub returns-clause-moves : goal.returns-clause-moves
returns-clause-moves c = λ some here. some
