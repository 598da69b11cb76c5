use Rattle.std.proofs.Common.{◌≡◌, false, true}
use Rattle.cp_verdict.specs.endless.Knowledge.{IsKnown}
use Rattle.cp_verdict.specs.endless.Naming.{processes_of}
use Rattle.cp_verdict.specs.waiting.Asking.{name_who}
use Rattle.cp_verdict.specs.waiting.Known.{KnowsWho}
use Rattle.cp_verdict.proofs.any_length.MarkSo as by_first
use Rattle.cp_verdict.proofs.any_length.Saying.{said_alone}
use Rattle.cp_verdict.proofs.who.EndsMarks.{by_firsts}
use Rattle.cp_verdict.proofs.who.EndsMeant.{marked_so, meant_so}
use Rattle.cp_verdict.proofs.endless.marking.mark_list.Goals as goal

pub returns-clause-mark : goal.returns-clause-mark
returns-clause-mark g c = λ some none.
    let r = c.args.subject.program.now in
    let ps = processes_of c.args.subject.legend.now in
    let discipline = c.args.subject.limits.discipline in
    let steps = c.args.subject.limits.steps in
    let most = c.args.subject.most in
    let k = c.in_ok-known.known in
    let is_known : IsKnown r discipline steps most k = c.in_ok-known.ensures.known some in
    by_first.marked_so r ps discipline steps most c.args.list.now k is_known c.verdict_on-verdict.result (by_firsts r ps discipline steps k c.args.list.now c.verdict_on-verdict.result none (c.verdict_on-verdict.ensures.slots r discipline steps most is_known)) c.tell.result c.tell.ensures.mark

pub returns-clause-meaning : goal.returns-clause-meaning
returns-clause-meaning g c = λ some none.
    let r = c.args.subject.program.now in
    let ps = processes_of c.args.subject.legend.now in
    let discipline = c.args.subject.limits.discipline in
    let steps = c.args.subject.limits.steps in
    let most = c.args.subject.most in
    let k = c.in_ok-known.known in
    let is_known : IsKnown r discipline steps most k = c.in_ok-known.ensures.known some in
    by_first.meant_so r ps discipline steps most c.args.list.now k is_known c.verdict_on-verdict.result (by_firsts r ps discipline steps k c.args.list.now c.verdict_on-verdict.result none (c.verdict_on-verdict.ensures.slots r discipline steps most is_known)) c.tell.result c.tell.ensures.mark

pub returns-clause-who : goal.returns-clause-who
returns-clause-who g c = λ some.
    let r = c.args.subject.program.now in
    let discipline = c.args.subject.limits.discipline in
    let steps = c.args.subject.limits.steps in
    let most = c.args.subject.most in
    let k = c.in_ok-known.known in
    let is_known : IsKnown r discipline steps most k = c.in_ok-known.ensures.known some in
    let who : name_who c.args.list.now ≡ true → KnowsWho r discipline steps k = c.in_ok-known.ensures.who some in
    marked_so r (processes_of c.args.subject.legend.now) discipline steps most c.args.list.now k is_known who c.verdict_on-verdict.result (c.verdict_on-verdict.ensures.slots r discipline steps most is_known) c.tell.result c.tell.ensures.mark

pub returns-clause-who_meant : goal.returns-clause-who_meant
returns-clause-who_meant g c = λ some.
    let r = c.args.subject.program.now in
    let discipline = c.args.subject.limits.discipline in
    let steps = c.args.subject.limits.steps in
    let most = c.args.subject.most in
    let k = c.in_ok-known.known in
    let is_known : IsKnown r discipline steps most k = c.in_ok-known.ensures.known some in
    let who : name_who c.args.list.now ≡ true → KnowsWho r discipline steps k = c.in_ok-known.ensures.who some in
    meant_so r (processes_of c.args.subject.legend.now) discipline steps most c.args.list.now k is_known who c.verdict_on-verdict.result (c.verdict_on-verdict.ensures.slots r discipline steps most is_known) c.tell.result c.tell.ensures.mark

pub returns-clause-said : goal.returns-clause-said
returns-clause-said g c = λ some.
    let r = c.args.subject.program.now in
    let discipline = c.args.subject.limits.discipline in
    let steps = c.args.subject.limits.steps in
    let most = c.args.subject.most in
    let k = c.in_ok-known.known in
    let is_known : IsKnown r discipline steps most k = c.in_ok-known.ensures.known some in
    let who : name_who c.args.list.now ≡ true → KnowsWho r discipline steps k = c.in_ok-known.ensures.who some in
    let told = c.tell.ensures in
    said_alone false r (processes_of c.args.subject.legend.now) discipline steps most c.args.list.now k (is_known, who) c.verdict_on-verdict.result (c.verdict_on-verdict.ensures.slots r discipline steps most is_known) c.tell.result told.mark (told.slots r discipline steps most is_known) told.stops told.note told.last
