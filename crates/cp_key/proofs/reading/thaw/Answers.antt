use Rattle.cp_key.proofs.Words.{[], ◌≡◌, ◌∙◌, ◌≤◌, ap, arith, length, subst, sym, append-nil, length-map, thread_of, key_of}
use Rattle.std.specs.Prelude.{vec_len}
use Rattle.cp_machine.specs.declared.state.TheConstants.{MOST_SHOWN}
use Rattle.cp_machine.specs.Fits.{LinesFit, MachineFits}
use Rattle.cp_machine.specs.Reach.{Reaches}
use Rattle.cp_key.specs.Known.{ArePartsOf}
use Rattle.cp_key.proofs.Keys.{key_tells}
use Rattle.cp_key.proofs.KnownBodies.{bodies_alike}
use Rattle.cp_key.proofs.Owned.{machine_room}
use Rattle.cp_key.proofs.reading.thaw.Goals as goal

pub returns-clause-same : goal.returns-clause-same
returns-clause-same c = λ m e.
    (let key = c.requires.key in
    let one = key.1 in
    let read = c.thaw_state.ensures.same one [] (key.4 ∙ sym (append-nil (key_of one))) (machine_room key.0 c.args.state.now one key.2 key.3) in
    read.0 ∙ key_tells one m (sym key.4 ∙ e))

pub returns-clause-parts : goal.returns-clause-parts
returns-clause-parts c =
    let key = c.requires.key in
    let one = key.1 in
    let read = c.thaw_state.ensures.same one [] (key.4 ∙ sym (append-nil (key_of one))) (machine_room key.0 c.args.state.now one key.2 key.3) in
    subst (ArePartsOf c.thaw_state.result) (sym read.0) read.1

pub returns-clause-kept : goal.returns-clause-kept
returns-clause-kept c = λ other h.
    (let new = c.thaw_state.new.state.processes.items in
    let old = c.args.state.now.processes.items in
    let first = length-map new thread_of in
    let second = length-map old thread_of in
    let kept = c.thaw_state.ensures.kept in
    record {
      count = h.count ∙ second ∙ sym c.thaw_state.ensures.count ∙ sym first;
      bodies = λ pid e. h.bodies pid (kept.moved pid e) ∙ sym (bodies_alike new old pid c.thaw_state.ensures.count (λ d. kept.bodies pid d e));
    })

pub returns-clause-own : goal.returns-clause-own
returns-clause-own c = λ r m own its e.
    (let both = c.thaw_state.ensures.same m [] (e ∙ sym (append-nil (key_of m))) (machine_room r c.args.state.now m own its) in
    let read = both.0 in
    let output = c.thaw_state.new.state.output in
    let long : length output.items ≡ length m.output = ap (λ x. length x.output) read in
    let len : vec_len output ≡ length output.items = output.ok.0 in
    let few : vec_len output ≤ MOST_SHOWN = omega (arith, its.shown, long, len) in
    record { sound = own.sound; fits = subst (MachineFits r) (sym read) its.fits; lines = subst LinesFit (sym read) its.lines; reach = subst (Reaches r) (sym read) its.reach; reserved = c.thaw_state.ensures.reserved r own.reserved few })
