use Rattle.std.proofs.Common.{◌≡◌, ◌∙◌, ◌+◌, ◌<◌, ◌≤◌, ◌∷◌, [], ◌++◌, ap, arith, drop, false, get_or-set_other, length, subst, sym}
use Rattle.cp_key.proofs.Words.{slice_index_or, vec_capacity, ProcessState, body_of, has_moved, no_thread, thread_at, body_key, inside, rest_at}
use Rattle.std.proofs.lemmas.List.{drop_all, get_or_read, length-append}
use Rattle.cp_machine.proofs.CopyLemmas.{grown, set_each}
use Rattle.cp_key.specs.Room.{HasThreadRoom}
use Rattle.cp_key.proofs.KnownBodies.{bodies_key, found, rest_more, some_bytes}
use Rattle.cp_key.proofs.Lists.{next_of}
use Rattle.cp_key.proofs.reading.thaw_bodies.Goals as goal

pub between-body-requires : goal.between-body-requires
between-body-requires c = λ a few.
    (let known = c.args.known.now in
    let at = c.loop-at.at in
    let within : c.loop-at.at < length c.args.processes.now = omega arith in
    some_bytes c.args.processes.now at (rest_at known at) (rest_at known (at + 1)) within (λ d. c.requires.known at d within few))

pub thaw_next-requires : goal.thaw_next-requires
thaw_next-requires c =
    let known = c.args.known.now in
    let at = c.loop-at.at in
    let old = c.index-processes-at.result in
    let p = slice_index_or c.loop-at.processes at old in
    let within : c.loop-at.at < length c.args.processes.now = omega arith in
    let same = c.loop-at.invariant.later at old (omega arith) in
    found (length known.rests.items) (at + 1) c.between-body.result.now (body_key (inside p)) (λ few. c.between-body.ensures.some (body_key (inside p)) (omega arith) few (c.requires.known at old within few ∙ ap (λ (q : ProcessState). body_key (inside q) ++ rest_at known (at + 1)) (sym same))) (λ le. c.between-body.ensures.none le)

pub loop-at-preserved : goal.loop-at-preserved
loop-at-preserved c =
    let at = c.loop-at.at in
    let ps = c.loop-at.processes in
    let first = c.args.processes.now in
    let here : c.loop-at.at < length c.loop-at.processes = omega arith in
    let old = c.index-processes-at.result in
    let read : ProcessState = slice_index_or ps at old in
    let new = c.thaw_next.new.process in
    let same : (d : ProcessState) → read ≡ slice_index_or ps at d = λ d. sym c.index-processes-at.is ∙ get_or_read ps at old here c.index-processes-at.is d in
    let stack : vec_capacity old.stack ≤ vec_capacity new.stack = (let e = ap (λ (p : ProcessState). vec_capacity p.stack) c.index-processes-at.is in omega (arith, e, c.thaw_next.ensures.stack)) in
    let cells : vec_capacity old.room.cells ≤ vec_capacity new.room.cells = (let e = ap (λ (p : ProcessState). vec_capacity p.room.cells) c.index-processes-at.is in omega (arith, e, c.thaw_next.ensures.cells)) in
    let references : vec_capacity old.room.references ≤ vec_capacity new.room.references = (let e = ap (λ (p : ProcessState). vec_capacity p.room.references) c.index-processes-at.is in omega (arith, e, c.thaw_next.ensures.references)) in
    let of_stack = grown (λ p. vec_capacity p.stack) ps at new old here c.index-processes-at.is stack in
    let of_cells = grown (λ p. vec_capacity p.room.cells) ps at new old here c.index-processes-at.is cells in
    let of_references = grown (λ p. vec_capacity p.room.references) ps at new old here c.index-processes-at.is references in
    let inv = c.loop-at.invariant in
    record {
      read = λ ts more e room. (
          let before = inv.read ts more e room in
          let lt : c.loop-at.at < length ts = omega (arith, room.count) in
          let roomy = subst (λ (p : ProcessState). HasThreadRoom p (thread_at ts at)) (sym (inv.later at old (omega arith))) (room.each at old (omega arith)) in
          let got = c.thaw_next.ensures.same (thread_at ts at) (bodies_key (drop (at + 1) ts) ++ more) (before.1 ∙ next_of (λ t. body_key (body_of t)) ts at no_thread more lt) roomy in (
            set_each (λ k d p. inside p ≡ body_of (thread_at ts k)) ps at new here (λ d. got.0) (at + 1) (λ k d l ne. before.0 k d (omega arith)),
            got.1,
            rest_more c.loop-at.bodies c.add-in-loop-at.new.self ts more c.thaw_next.new.key.bytes.now (at + 1) c.add-in-loop-at.ensures.key c.add-in-loop-at.ensures.rests inv.all (inv.first ∙ e) got.1 (λ q l. before.2 q (omega (arith, l))),
          )
          );
      first = c.add-in-loop-at.ensures.key ∙ inv.first;
      all = (let long = length-append c.loop-at.bodies.rests.items (length c.thaw_next.new.key.bytes.now ∷ []) in omega (arith, inv.all, ap length c.add-in-loop-at.ensures.rests, long));
      later = λ q d le. get_or-set_other ps at q new d (λ e. omega (arith, e, le)) ∙ inv.later q d (omega (arith, le));
      statuses = λ q d. set_each (λ k d p. p.status ≡ (slice_index_or first k d).status) ps at new here (λ d. c.thaw_next.ensures.status ∙ ap (λ p. p.status) (same d) ∙ inv.statuses at d) (q + 1) (λ k d l ne. inv.statuses k d) q d (omega arith);
      kept = record {
        moved = λ q e. inv.kept.moved q (c.thaw_next.ensures.moved q e);
        bodies = λ q d e. set_each (λ k d p. has_moved c.thaw_next.new.moved k ≡ false → inside p ≡ inside (slice_index_or first k d)) ps at new here (λ d e. c.thaw_next.ensures.kept e ∙ ap (λ p. inside p) (same d) ∙ inv.kept.bodies at d (c.thaw_next.ensures.moved at e)) (q + 1) (λ k d l ne e. inv.kept.bodies k d (c.thaw_next.ensures.moved k e)) q d (omega arith) e;
      };
      stacks = λ depth h. of_stack (λ q d. depth) (inv.stacks depth h);
      cells = λ n h. of_cells (λ q d. n) (inv.cells n h);
      references = λ n h. of_references (λ q d. n) (inv.references n h);
    }

pub returns-clause-same : goal.returns-clause-same
returns-clause-same c = λ ts more e room.
    (let inv = c.loop-at.invariant in
    let all = inv.read ts more e room in
    let done = drop_all c.loop-at.at ts (omega (arith, room.count)) in (
      λ q d lt. all.0 q d (omega (arith, lt)),
      all.1 ∙ ap (λ us. bodies_key us ++ more) done,
      λ pid few. all.2 pid (omega (arith, few, inv.all)) ∙ next_of (λ t. body_key (body_of t)) ts pid no_thread more (omega (arith, few, inv.all, room.count)) ∙ ap (λ ns. body_key (body_of (thread_at ts pid)) ++ ns) (sym (all.2 (pid + 1) (omega (arith, few, inv.all)))),
    ))
