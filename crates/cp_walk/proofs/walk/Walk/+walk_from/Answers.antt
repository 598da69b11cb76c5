use Rattle.std.proofs.Common.{rules, refl, true, ◌≡◌, ◌≤◌, ◌<◌, ◌+◌, ◌-◌, ◌∙◌, List, ap, sym, subst, arith, [], ◌∷◌, ◌++◌, length, get_or, map, take, take_all, ℕ}
use Rattle.std.proofs.Math.Seq.{take-append_seam}
use Rattle.std.specs.Prelude.{IfSome}
use Rattle.cp_run.specs.declared.outcome.Halt.TheVariants.{Choice}
use Rattle.cp_walk.proofs.Words.{Outcome, length-append, length-map, ChoiceLimit, machine_of, IsStateOf, node_of, slots, Choosing, those_below, may, chosen}
use Rattle.cp_walk.proofs.Words.{beginnings, words_in, line_of, IsTooMany, behind, walk, IsDue}
use Rattle.cp_run.proofs.Tracing.{counted}
use Rattle.cp_walk.specs.Walked.{begun, within_span, AreWalked, IsWalked}
use Rattle.cp_walk.specs.Walking.{HasRoom, HasWalked}
use Rattle.cp_walk.specs.declared.memo.Span.{Span}
use Rattle.cp_key.specs.Key.{core_key}
use Rattle.cp_walk.proofs.Branches.{walk_over, walk_limit, not_ended, append_none, all_parts}
use Rattle.cp_walk.proofs.Calling.{calls_leaf, if_ok}
use Rattle.cp_walk.proofs.Counted.{added}
use Rattle.cp_walk.proofs.Errors.{err_more, err_as, err_then, not_ok, ok_as, ok_both}
use Rattle.cp_walk.proofs.Leading.{due_chosen}
use Rattle.cp_walk.proofs.Listed.{behind_each, may_other, may_last, rows_other, calls_other, many_other, rows_last, some_last, calls_last, many_last, none_due}
use Rattle.cp_walk.proofs.Repeats.{added_or_not, known_node, new_span, some_beginnings}
use Rattle.cp_walk.proofs.Walking.{deeper_room, leaf_walked, more_found}
use Rattle.cp_walk.proofs.walk.Walk.+walk_from.Goals as goal

pub walk_from-returns-in-Ended : goal.walk_from-returns-in-Ended
walk_from-returns-in-Ended g t c =
    let r = c.args.job.now.program.now in
    let limits = c.args.job.now.limits in
    let s = machine_of c.args.state.now in
    let sys = slots r limits.discipline in
    let steps = limits.steps in
    let n = length c.args.kept.now in
    let outcome : Outcome = record { kind = c.in-Ended.kind; output = sys.output s } in
    let leaf : walk sys steps n (node_of c.args.halt s) ≡ record { word = []; outcome = outcome } ∷ [] = ap (λ h. walk sys steps n (node_of h s)) c.in-Ended.is ∙ walk_over sys steps n c.in-Ended.kind s in
    record {
      own = c.requires.own;
      kept = c.requires.room.own;
      walked = leaf_walked r limits c.args.self.now.word.items n (node_of c.args.halt s) c.args.self.now.found c.add_row.new.self.found outcome c.add_row.result leaf c.add_row.ensures.walked c.requires.found c.add_row.ensures.row c.add_row.ensures.few;
      word = if_ok _ c.add_row.result c.add_row.ensures.word;
      many = err_more c.add_row.result (length c.args.self.now.found.rows.items) _ (ap length leaf) c.add_row.ensures.many;
      calls = if_ok _ c.add_row.result (calls_leaf (walk sys steps n (node_of c.args.halt s)) (record { word = []; outcome = outcome }) (g.C.Count.count c.args.calls.now) leaf refl);
    }

pub walk_from-returns-in_default-split_first_mut : goal.walk_from-returns-in_default-split_first_mut
walk_from-returns-in_default-split_first_mut g t c =
    let r = c.args.job.now.program.now in
    let limits = c.args.job.now.limits in
    let s = machine_of c.args.state.now in
    let sys = slots r limits.discipline in
    let steps = limits.steps in
    let n = length c.args.kept.now in
    let outcome : Outcome = record { kind = ChoiceLimit; output = sys.output s } in
    let leaf : walk sys steps n (node_of c.args.halt s) ≡ record { word = []; outcome = outcome } ∷ [] = ap (λ h. walk sys steps n (node_of h s)) (not_ended c.args.halt c.in_default.not-Ended) ∙ walk_limit sys steps n s c.in_default-split_first_mut.ensures.cases in
    record {
      own = c.requires.own;
      kept = search rules;
      walked = leaf_walked r limits c.args.self.now.word.items n (node_of c.args.halt s) c.args.self.now.found c.add_row-in_default-split_first_mut.new.self.found outcome c.add_row-in_default-split_first_mut.result leaf c.add_row-in_default-split_first_mut.ensures.walked c.requires.found c.add_row-in_default-split_first_mut.ensures.row c.add_row-in_default-split_first_mut.ensures.few;
      word = if_ok _ c.add_row-in_default-split_first_mut.result c.add_row-in_default-split_first_mut.ensures.word;
      many = err_more c.add_row-in_default-split_first_mut.result (length c.args.self.now.found.rows.items) _ (ap length leaf) c.add_row-in_default-split_first_mut.ensures.many;
      calls = if_ok _ c.add_row-in_default-split_first_mut.result (calls_leaf (walk sys steps n (node_of c.args.halt s)) (record { word = []; outcome = outcome }) (g.C.Count.count c.args.calls.now) leaf refl);
    }

pub walk_from-unreachable-requires : goal.walk_from-unreachable-requires
walk_from-unreachable-requires g t c =
    let r = c.args.job.now.program.now in
    let limits = c.args.job.now.limits in
    let s = machine_of c.args.state.now in
    let sys = slots r limits.discipline in
    let steps = limits.steps in
    let due = subst (λ h. IsDue sys (node_of h s)) (not_ended c.args.halt c.in_default.not-Ended) c.requires.due in
    none_due sys s c.as_slice.result.now (c.as_slice.ensures.value ∙ c.candidates-numbers.ensures) c.in_default-split_last.ensures.cases due

pub walk_from-loop-process-init : goal.walk_from-loop-process-init
walk_from-loop-process-init g t c =
    let parts = all_parts (IsStateOf c.args.job.now.program.now) c.args.kept.now c.in-Some.next.now c.in-Some.deeper.now c.in-Some.ensures.cases.0 c.requires.room.own in
    record {
      rows = sym (append_none (map line_of c.args.self.now.found.rows.items));
      word = refl;
      found = c.requires.found;
      next = parts.0;
      deeper = parts.1;
      calls = omega arith;
    }

pub walk_from-walk_child-requires : goal.walk_from-walk_child-requires
walk_from-walk_child-requires g t c =
    let r = c.args.job.now.program.now in
    let limits = c.args.job.now.limits in
    let s = machine_of c.args.state.now in
    let sys = slots r limits.discipline in
    let steps = limits.steps in
    let i = c.loop-process.process-index in
    let others = c.in-Some-split_last.others.now in
    let last = c.in-Some-split_last.last.now in
    let p = get_or others i 0 in
    let listed : others ++ last ∷ [] ≡ those_below sys.processes (may sys s) = sym c.in-Some-split_last.ensures.cases.0 ∙ c.as_slice.ensures.value ∙ c.candidates-numbers.ensures in
    let lt : i < length others = omega arith in
    let on : may sys (machine_of c.take_from.new.self) p ≡ true = ap (λ m. may sys m p) c.take_from.ensures.same ∙ may_other sys steps 0 s others last listed i p lt refl in
    let deep : length c.args.kept.now ≡ length c.loop-process.deeper + 1 = sym c.in-Some.ensures.cases.1 ∙ ap (λ k. k + 1) (sym c.loop-process.auto.deeper) in
    let room : HasRoom r limits.choices (c.loop-process.self.word.items ++ p ∷ []) c.loop-process.deeper = deeper_room r limits.choices c.args.self.now.word.items c.loop-process.self.word.items c.args.kept.now c.loop-process.deeper p c.loop-process.invariant.word deep c.requires.room c.loop-process.invariant.deeper in
    search (rules, on, room)

pub walk_from-loop-process-preserved : goal.walk_from-loop-process-preserved
walk_from-loop-process-preserved g t c =
    let r = c.args.job.now.program.now in
    let limits = c.args.job.now.limits in
    let s = machine_of c.args.state.now in
    let sys = slots r limits.discipline in
    let steps = limits.steps in
    let i = c.loop-process.process-index in
    let others = c.in-Some-split_last.others.now in
    let last = c.in-Some-split_last.last.now in
    let p = get_or others i 0 in
    let n = length c.loop-process.deeper in
    let word = c.args.self.now.word.items in
    let old = map line_of c.args.self.now.found.rows.items in
    let rows = map line_of c.loop-process.self.found.rows.items in
    let new = map line_of c.walk_child.new.self.found.rows.items in
    let listed : others ++ last ∷ [] ≡ those_below sys.processes (may sys s) = sym c.in-Some-split_last.ensures.cases.0 ∙ c.as_slice.ensures.value ∙ c.candidates-numbers.ensures in
    let lt : i < length others = omega arith in
    let more : length c.walk_child.new.deeper ≡ n = c.walk_child.auto.deeper in
    let grown : new ≡ rows ++ map (behind (word ++ p ∷ [])) (walk sys steps n (chosen sys steps s p)) = c.in_ok-walk_child.ensures.walked.rows ∙ ap (λ w. rows ++ map (behind (w ++ p ∷ [])) (walk sys steps n (chosen sys steps (machine_of c.take_from.new.self) p))) c.loop-process.invariant.word ∙ ap (λ m. rows ++ map (behind (word ++ p ∷ [])) (walk sys steps n (chosen sys steps m p))) c.take_from.ensures.same in
    let called : (g.C.Count.count c.walk_child.new.calls) ≤ (g.C.Count.count c.loop-process.calls) + beginnings (words_in (walk sys steps n (chosen sys steps s p))) = subst (λ m. (g.C.Count.count c.walk_child.new.calls) ≤ (g.C.Count.count c.loop-process.calls) + beginnings (words_in (walk sys steps n (chosen sys steps m p)))) c.take_from.ensures.same c.in_ok-walk_child.ensures.calls in
    record {
      rows = subst (λ (k : ℕ). new ≡ old ++ map (behind word) (behind_each sys steps k s (take (i + 1) others))) (sym more) (rows_other sys steps n s others last listed i p lt refl word old rows new c.loop-process.invariant.rows grown);
      word = c.in_ok-walk_child.ensures.word ∙ c.loop-process.invariant.word;
      found = c.in_ok-walk_child.ensures.walked.found;
      next = c.walk_child.ensures.own;
      deeper = c.walk_child.ensures.deeper;
      calls = subst (λ (k : ℕ). (g.C.Count.count c.walk_child.new.calls) ≤ (g.C.Count.count c.args.calls.now) + added [] (words_in (behind_each sys steps k s (take (i + 1) others)))) (sym more) (calls_other sys steps n s others last listed i p lt refl (g.C.Count.count c.args.calls.now) (g.C.Count.count c.loop-process.calls) (g.C.Count.count c.walk_child.new.calls) c.loop-process.invariant.calls called);
    }

pub walk_from-returns-in_err-walk_child : goal.walk_from-returns-in_err-walk_child
walk_from-returns-in_err-walk_child g t c =
    let r = c.args.job.now.program.now in
    let limits = c.args.job.now.limits in
    let s = machine_of c.args.state.now in
    let sys = slots r limits.discipline in
    let steps = limits.steps in
    let i = c.loop-process.process-index in
    let others = c.in-Some-split_last.others.now in
    let last = c.in-Some-split_last.last.now in
    let p = get_or others i 0 in
    let n = length c.loop-process.deeper in
    let left = length c.args.kept.now in
    let listed : others ++ last ∷ [] ≡ those_below sys.processes (may sys s) = sym c.in-Some-split_last.ensures.cases.0 ∙ c.as_slice.ensures.value ∙ c.candidates-numbers.ensures in
    let lt : i < length others = omega arith in
    let deep : left ≡ n + 1 = sym c.in-Some.ensures.cases.1 ∙ ap (λ k. k + 1) (sym c.loop-process.auto.deeper) in
    let bound = many_other sys steps n s others last listed i p left lt refl deep c.args.self.now.word.items (map line_of c.args.self.now.found.rows.items) (map line_of c.loop-process.self.found.rows.items) c.loop-process.invariant.rows in
    let same = ap (λ m. length (walk sys steps n (chosen sys steps m p))) c.take_from.ensures.same in
    let due = ap (λ h. length (walk sys steps left (node_of h s))) (not_ended c.args.halt c.in_default.not-Ended) in
    let a = length-map c.args.self.now.found.rows.items line_of in
    let b = length-map c.loop-process.self.found.rows.items line_of in
    record {
      own = c.requires.own;
      kept = search rules;
      walked = not_ok c.from_residual.result _ _ c.from_residual.ensures.1;
      word = not_ok c.from_residual.result _ _ c.from_residual.ensures.1;
      many = err_as c.from_residual.result _ (λ e. IsTooMany e → 50000 < length c.args.self.now.found.rows.items + length (walk sys steps left (node_of c.args.halt s))) c.from_residual.ensures.1 (λ f h many. let more = c.in_err-walk_child.ensures.many (subst IsTooMany h many) in omega (arith, bound, same, due, a, b, more));
      calls = not_ok c.from_residual.result _ _ c.from_residual.ensures.1;
    }

pub walk_from-walk_child-requires-2 : goal.walk_from-walk_child-requires-2
walk_from-walk_child-requires-2 g t c =
    let r = c.args.job.now.program.now in
    let limits = c.args.job.now.limits in
    let s = machine_of c.args.state.now in
    let sys = slots r limits.discipline in
    let steps = limits.steps in
    let others = c.in-Some-split_last.others.now in
    let last = c.in-Some-split_last.last.now in
    let listed : others ++ last ∷ [] ≡ those_below sys.processes (may sys s) = sym c.in-Some-split_last.ensures.cases.0 ∙ c.as_slice.ensures.value ∙ c.candidates-numbers.ensures in
    let on : may sys s last ≡ true = may_last sys steps 0 s others last listed in
    let deep : length c.args.kept.now ≡ length c.loop-process.deeper + 1 = sym c.in-Some.ensures.cases.1 ∙ ap (λ k. k + 1) (sym c.loop-process.auto.deeper) in
    let room : HasRoom r limits.choices (c.loop-process.self.word.items ++ last ∷ []) c.loop-process.deeper = deeper_room r limits.choices c.args.self.now.word.items c.loop-process.self.word.items c.args.kept.now c.loop-process.deeper last c.loop-process.invariant.word deep c.requires.room c.loop-process.invariant.deeper in
    search (rules, on, room)

pub walk_from-returns : goal.walk_from-returns
walk_from-returns g t c =
    let r = c.args.job.now.program.now in
    let limits = c.args.job.now.limits in
    let s = machine_of c.args.state.now in
    let sys = slots r limits.discipline in
    let steps = limits.steps in
    let others = c.in-Some-split_last.others.now in
    let last = c.in-Some-split_last.last.now in
    let n = length c.loop-process.deeper in
    let left = length c.args.kept.now in
    let word = c.args.self.now.word.items in
    let old = map line_of c.args.self.now.found.rows.items in
    let rows = map line_of c.loop-process.self.found.rows.items in
    let new = map line_of c.walk_child-2.new.self.found.rows.items in
    let listed : others ++ last ∷ [] ≡ those_below sys.processes (may sys s) = sym c.in-Some-split_last.ensures.cases.0 ∙ c.as_slice.ensures.value ∙ c.candidates-numbers.ensures in
    let deep : left ≡ n + 1 = sym c.in-Some.ensures.cases.1 ∙ ap (λ k. k + 1) (sym c.loop-process.auto.deeper) in
    let whole : take c.loop-process.process-index others ≡ others = take_all c.loop-process.process-index others (omega arith) in
    let so_far : rows ≡ old ++ map (behind word) (behind_each sys steps n s others) = c.loop-process.invariant.rows ∙ ap (λ ps. old ++ map (behind word) (behind_each sys steps n s ps)) whole in
    let called : (g.C.Count.count c.loop-process.calls) ≤ (g.C.Count.count c.args.calls.now) + added [] (words_in (behind_each sys steps n s others)) = subst (λ ps. (g.C.Count.count c.loop-process.calls) ≤ (g.C.Count.count c.args.calls.now) + added [] (words_in (behind_each sys steps n s ps))) whole c.loop-process.invariant.calls in
    let due = not_ended c.args.halt c.in_default.not-Ended in
    let bound = many_last sys steps n s others last listed left deep word old rows so_far in
    let same = ap (λ h. length (walk sys steps left (node_of h s))) due in
    let a = length-map c.args.self.now.found.rows.items line_of in
    let b = length-map c.loop-process.self.found.rows.items line_of in
    record {
      own = c.walk_child-2.ensures.own;
      kept = search rules;
      walked = ok_as c.walk_child-2.result _ (λ _. HasWalked r limits word left (node_of c.args.halt s) c.args.self.now.found c.walk_child-2.new.self.found) c.walk_child-2.ensures.walked (λ a h. record {
        rows = subst (λ k. new ≡ old ++ map (behind word) (walk sys steps left (node_of k s))) (sym due) (rows_last sys steps n s others last listed left deep word old rows new so_far (h.rows ∙ ap (λ w. rows ++ map (behind (w ++ last ∷ [])) (walk sys steps n (chosen sys steps s last))) c.loop-process.invariant.word));
        some = subst (λ k. 0 < length (walk sys steps left (node_of k s))) (sym due) (some_last sys steps n s others last listed left deep h.some);
        found = h.found;
      });
      word = ok_as c.walk_child-2.result _ (λ _. c.walk_child-2.new.self.word.items ≡ word) c.walk_child-2.ensures.word (λ a h. h ∙ c.loop-process.invariant.word);
      many = err_then c.walk_child-2.result _ (λ e. IsTooMany e → 50000 < length c.args.self.now.found.rows.items + length (walk sys steps left (node_of c.args.halt s))) c.walk_child-2.ensures.many (λ e h many. let more = h many in omega (arith, bound, same, a, b, more));
      calls = ok_both c.walk_child-2.result _ _ (λ _. (g.C.Count.count c.walk_child-2.new.calls) + 1 ≤ (g.C.Count.count c.args.calls.now) + beginnings (words_in (walk sys steps left (node_of c.args.halt s)))) c.walk_child-2.ensures.calls c.walk_child-2.ensures.walked (λ a h walked. subst (λ k. (g.C.Count.count c.walk_child-2.new.calls) + 1 ≤ (g.C.Count.count c.args.calls.now) + beginnings (words_in (walk sys steps left (node_of k s)))) (sym due) (calls_last sys steps n s others last listed left deep (g.C.Count.count c.args.calls.now) (g.C.Count.count c.loop-process.calls) (g.C.Count.count c.walk_child-2.new.calls) called h walked.some));
    }

pub walk_child-walk_once-requires : goal.walk_child-walk_once-requires
walk_child-walk_once-requires g t c =
    let r = c.args.job.now.program.now in
    let limits = c.args.job.now.limits in
    let due : IsDue (slots r limits.discipline) (node_of c.choose-halt.result (machine_of c.choose-halt.new.state)) = due_chosen r limits.discipline limits.steps (machine_of c.args.state.now) c.args.process c.choose-halt.result c.choose-halt.new.state c.choose-halt.ensures.own c.choose-halt.ensures.node in
    let room : HasRoom r limits.choices c.push.new.self.items c.args.deeper.now = subst (λ w. HasRoom r limits.choices w c.args.deeper.now) (sym c.push.ensures.items) c.requires.room in
    search (rules, due, room)

-- the word without its last number
popped : (word : List ℕ) (p : ℕ) → take (length (word ++ p ∷ []) - 1) (word ++ p ∷ []) ≡ word
popped word p =
    let before : length (word ++ p ∷ []) - 1 ≡ length word = omega (arith, length-append word (p ∷ [])) in
    ap (λ k. take k (word ++ p ∷ [])) before ∙ take-append_seam word (p ∷ [])

pub walk_child-returns : goal.walk_child-returns
walk_child-returns g t c =
    let limits = c.args.job.now.limits in
    let sys = slots c.args.job.now.program.now limits.discipline in
    let steps = limits.steps in
    let n = length c.args.deeper.now in
    let word = c.args.self.now.word.items in
    let rows = map line_of c.args.self.now.found.rows.items in
    let same = ap (λ x. beginnings (words_in (walk sys steps n x))) c.choose-halt.ensures.node in
    record {
      own = c.walk_once.ensures.own;
      deeper = c.walk_once.ensures.kept;
      walked = record {
        rows = c.in_ok-walk_once.ensures.walked.rows ∙ ap (λ w. rows ++ map (behind w) (walk sys steps n (node_of c.choose-halt.result (machine_of c.choose-halt.new.state)))) c.push.ensures.items ∙ ap (λ x. rows ++ map (behind (word ++ c.args.process ∷ [])) (walk sys steps n x)) (sym c.choose-halt.ensures.node);
        some = subst (λ x. 0 < length (walk sys steps n x)) (sym c.choose-halt.ensures.node) c.in_ok-walk_once.ensures.walked.some;
        found = c.in_ok-walk_once.ensures.walked.found;
      };
      word = c.pop.ensures.rest ∙ ap (λ (w : List ℕ). take (length w - 1) w) (c.in_ok-walk_once.ensures.word ∙ c.push.ensures.items) ∙ popped word c.args.process;
      many = tt;
      calls = omega (arith, same, counted true g.C.Count.counts _ _ c.choose-halt.ensures.calls, c.in_ok-walk_once.ensures.calls);
    }

pub walk_child-returns-in_err-walk_once : goal.walk_child-returns-in_err-walk_once
walk_child-returns-in_err-walk_once g t c =
    let limits = c.args.job.now.limits in
    let sys = slots c.args.job.now.program.now limits.discipline in
    let n = length c.args.deeper.now in
    let same = ap (λ x. length (walk sys limits.steps n x)) c.choose-halt.ensures.node in
    record {
      own = c.walk_once.ensures.own;
      deeper = c.walk_once.ensures.kept;
      walked = not_ok c.from_residual.result _ _ c.from_residual.ensures.1;
      word = not_ok c.from_residual.result _ _ c.from_residual.ensures.1;
      many = err_as c.from_residual.result _ (λ e. IsTooMany e → 50000 < length c.args.self.now.found.rows.items + length (walk sys limits.steps n (chosen sys limits.steps (machine_of c.args.state.now) c.args.process))) c.from_residual.ensures.1 (λ f h many. let more = c.in_err-walk_once.ensures.many (subst IsTooMany h many) in omega (arith, same, more));
      calls = not_ok c.from_residual.result _ _ c.from_residual.ensures.1;
    }

pub walk_once-add_replayed-requires : goal.walk_once-add_replayed-requires
walk_once-add_replayed-requires g t c =
    let r = c.args.job.now.program.now in
    let limits = c.args.job.now.limits in
    let s = machine_of c.args.state.now in
    let sys = slots r limits.discipline in
    let steps = limits.steps in
    let choices = limits.choices in
    let rows = map line_of c.args.self.now.found.rows.items in
    let word = c.args.self.now.word.items in
    let left = length c.args.kept.now in
    let nodes = c.key_of.new.self.nodes.entries in
    let span = c.in-Some-find.span in
    let key = c.in-Some.key.bytes.items in
    let keyed : key ≡ left ∷ core_key s = subst (λ o. IfSome o (λ k. k.bytes.items ≡ left ∷ core_key s)) c.in-Some.is c.in-Ok.ensures.key in
    let walked : AreWalked sys steps choices rows nodes = subst (AreWalked sys steps choices rows) (sym c.key_of.ensures.nodes) c.requires.found.walked in
    let known = known_node r limits.discipline steps choices rows nodes s left word span key keyed walked (sym c.find.ensures ∙ c.in-Some-find.is) c.requires.room.deep in
    let some = known.some in
    let within = known.within in
    let count = length-map c.args.self.now.found.rows.items line_of in
    let long = ap length c.as_slice.ensures.value in
    let deep = c.requires.room.deep in
    let short = c.requires.room.short in
    record {
      word = omega (arith, long, deep, short);
      some = omega (arith, some);
      within = omega (arith, within, count);
    }

pub walk_once-returns-in-Some-find : goal.walk_once-returns-in-Some-find
walk_once-returns-in-Some-find g t c =
    let r = c.args.job.now.program.now in
    let limits = c.args.job.now.limits in
    let s = machine_of c.args.state.now in
    let sys = slots r limits.discipline in
    let steps = limits.steps in
    let choices = limits.choices in
    let rows = map line_of c.args.self.now.found.rows.items in
    let word = c.args.self.now.word.items in
    let left = length c.args.kept.now in
    let nodes = c.key_of.new.self.nodes.entries in
    let span = c.in-Some-find.span in
    let key = c.in-Some.key.bytes.items in
    let keyed : key ≡ left ∷ core_key s = subst (λ o. IfSome o (λ k. k.bytes.items ≡ left ∷ core_key s)) c.in-Some.is c.in-Ok.ensures.key in
    let walked : AreWalked sys steps choices rows nodes = subst (AreWalked sys steps choices rows) (sym c.key_of.ensures.nodes) c.requires.found.walked in
    let known = known_node r limits.discipline steps choices rows nodes s left word span key keyed walked (sym c.find.ensures ∙ c.in-Some-find.is) c.requires.room.deep in
    let some = known.some in
    let within = known.within in
    let due = subst (λ o. IfSome o (λ _. c.args.halt ≡ Choice)) c.in-Some.is c.in-Ok.ensures.due in
    let count = known.count in
    let same = ap (λ h. length (walk sys steps left (node_of h s))) due in
    let some_rows : 0 < length (walk sys steps left (node_of c.args.halt s)) = omega (arith, some, count, same) in
    let begun_by = some_beginnings (walk sys steps left (node_of c.args.halt s)) some_rows in
    record {
      own = c.requires.own;
      kept = c.requires.room.own;
      walked = ok_both c.add_replayed.result _ _ (λ _. HasWalked r limits word left (node_of c.args.halt s) c.args.self.now.found (record { rows = c.add_replayed.new.rows; walked = c.key_of.new.self })) c.add_replayed.ensures.rows c.add_replayed.ensures.few (λ a h few.
          let grown = h ∙ ap (λ w. rows ++ map (begun w s.output) (within_span span rows)) c.as_slice.ensures.value ∙ ap (λ ls. rows ++ ls) known.same ∙ ap (λ k. rows ++ map (behind word) (walk sys steps left (node_of k s))) (sym due) in
          record {
            rows = grown;
            some = some_rows;
            found = more_found r limits c.args.self.now.found (record { rows = c.add_replayed.new.rows; walked = c.key_of.new.self }) (map (behind word) (walk sys steps left (node_of c.args.halt s))) grown few c.key_of.ensures.nodes c.requires.found;
          });
      word = if_ok _ c.add_replayed.result refl;
      many = err_then c.add_replayed.result _ (λ e. IsTooMany e → 50000 < length c.args.self.now.found.rows.items + length (walk sys steps left (node_of c.args.halt s))) c.add_replayed.ensures.many (λ e h many. let more = h many in omega (arith, more, count, same));
      calls = if_ok _ c.add_replayed.result (omega (arith, begun_by));
    }

pub walk_once-returns : goal.walk_once-returns
walk_once-returns g t c =
    let r = c.args.job.now.program.now in
    let limits = c.args.job.now.limits in
    let s = machine_of c.args.state.now in
    let sys = slots r limits.discipline in
    let steps = limits.steps in
    let choices = limits.choices in
    let rows = map line_of c.args.self.now.found.rows.items in
    let word = c.args.self.now.word.items in
    let left = length c.args.kept.now in
    let key = c.in-Some.key.bytes.items in
    let keyed : key ≡ left ∷ core_key s = subst (λ o. IfSome o (λ k. k.bytes.items ≡ left ∷ core_key s)) c.in-Some.is c.in-Ok.ensures.key in
    let due = subst (λ o. IfSome o (λ _. c.args.halt ≡ Choice)) c.in-Some.is c.in-Ok.ensures.due in
    let new = map line_of c.walk_from-2.new.self.found.rows.items in
    let span : Span = record { first = c.len-first.result; end = c.len-end.result } in
    let before = c.walk_from-2.new.self.found.walked.nodes.entries in
    let lines : new ≡ rows ++ map (behind word) (walk sys steps left (Choosing s)) = c.in_ok-walk_from.ensures.walked.rows ∙ ap (λ h. rows ++ map (behind word) (walk sys steps left (node_of h s))) due in
    let some : 0 < length (walk sys steps left (Choosing s)) = subst (λ h. 0 < length (walk sys steps left (node_of h s))) due c.in_ok-walk_from.ensures.walked.some in
    let old_count = length-map c.args.self.now.found.rows.items line_of in
    let new_count = length-map c.walk_from-2.new.self.found.rows.items line_of in
    let behind_count = length-map (walk sys steps left (Choosing s)) (behind word) in
    let all = ap length lines ∙ length-append rows (map (behind word) (walk sys steps left (Choosing s))) in
    let first : span.first ≡ length rows = omega (arith, old_count) in
    let end : span.end ≡ length new = omega (arith, new_count) in
    let is : IsWalked sys steps choices new (c.in-Some.key, span) = record {
      state = s;
      left = left;
      before = word;
      key = keyed;
      word = c.requires.room.deep;
      some = omega (arith, first, end, all, behind_count, some);
      within = omega (arith, end);
      same = new_span rows (map (behind word) (walk sys steps left (Choosing s))) new span lines first end;
    } in
    record {
      own = c.walk_from-2.ensures.own;
      kept = c.walk_from-2.ensures.kept;
      walked = record {
        rows = c.in_ok-walk_from.ensures.walked.rows;
        some = c.in_ok-walk_from.ensures.walked.some;
        found = record {
          few = c.in_ok-walk_from.ensures.walked.found.few;
          walked = added_or_not sys steps choices new before c.add.new.self.nodes.entries c.in-Some.key span c.add.ensures c.in_ok-walk_from.ensures.walked.found.walked is;
        };
      };
      word = c.in_ok-walk_from.ensures.word;
      many = tt;
      calls = c.in_ok-walk_from.ensures.calls;
    }
