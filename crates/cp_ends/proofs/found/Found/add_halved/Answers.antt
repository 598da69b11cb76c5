use Rattle.cp_ends.proofs.Vocabulary.{◌≡◌, ◌<◌, ◌≤◌, Some, false, length, sym, subst, arith, same_key, has, slice_get_within}
use Rattle.std.proofs.Common.{rules}
use Rattle.std.specs.Prelude.{◌^◌}
use Rattle.cp_ends.specs.Answer.{Comes}
use Rattle.cp_ends.specs.Graph.{Place}
use Rattle.cp_ends.specs.Holds.{IsNumberOf}
use Rattle.cp_ends.specs.declared.found.Arrived.{Arrived}
use Rattle.cp_ends.proofs.GoingOn.{state_full, state_known, state_new}
use Rattle.cp_ends.proofs.Keeping.{states_length}
use Rattle.cp_ends.proofs.found.Found.add_halved.Goals as goal

pub returns-in-Some-clause-comes : goal.returns-in-Some-clause-comes
returns-in-Some-clause-comes c = λ f word m h word_is before is.
    (let r = c.args.job.now.run.program.now in
    let most = c.args.job.now.most in
    let are = h.holds.states in
    let known : IsNumberOf f.states m (Some c.in-Some.number) = subst (IsNumberOf f.states m) c.in-Some.is (c.number.ensures r f.states m are is) in
    let within = slice_get_within f.states c.in-Some.number known.0 known.1 in
    let few = h.few in
    let small : most < 2 ^ 32 = search rules in
    let fits : c.in-Some.number < 2 ^ 32 = omega (arith, within, few, small) in
    subst (λ (b : Arrived). Comes r most (record c.args.self.now { states = c.args.self.now.states }) f word (Place m) b) (sym (c.at.ensures.few fits)) (state_known r most c.args.self.now f m word h c.in-Some.number known c.args.self.now.states are))

pub returns-then-number-most-clause-comes : goal.returns-then-number-most-clause-comes
returns-then-number-most-clause-comes c = λ f word m h word_is before is.
    (let r = c.args.job.now.run.program.now in
    let are = h.holds.states in
    let new : has same_key f.states m ≡ false = subst (IsNumberOf f.states m) c.in_default.is (c.number.ensures r f.states m are is) in
    let same = states_length r c.args.self.now.states f.states are in
    let many : c.args.job.now.most ≤ length f.states = omega (arith, same) in
    state_full r c.args.job.now.most c.args.self.now f m word h new many c.args.self.now.states are)

pub returns-clause-comes : goal.returns-clause-comes
returns-clause-comes c = λ f word m h word_is before is.
    (let r = c.args.job.now.run.program.now in
    let most = c.args.job.now.most in
    let are = h.holds.states in
    let new : has same_key f.states m ≡ false = subst (IsNumberOf f.states m) c.in_default.is (c.number.ensures r f.states m are is) in
    let same = states_length r c.args.self.now.states f.states are in
    let room : length f.states < most = omega (arith, same) in
    let last : c.len-number.result ≡ length f.states = omega (arith, same) in
    let small : most < 2 ^ 32 = search rules in
    let fits : c.len-number.result < 2 ^ 32 = omega (arith, last, room, small) in
    subst (λ (b : Arrived). Comes r most (record c.args.self.now { states = c.add.new.self }) f word (Place m) b) (sym (c.at-2.ensures.few fits))
    (state_new r most c.args.self.now f m word h new c.len-number.result last room c.add.new.self (c.in_ok-add.ensures.states r f.states m word are new is word_is before)))
