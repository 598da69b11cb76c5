use Rattle.cp_at_once.proofs.Words.{◌≡◌, ◌∙◌, ◌<◌, ◌≤◌, [], true, false, length, sym, arith, same_key, has, key_self}
use Rattle.std.proofs.Common.{ap, subst}
use Rattle.cp_ends.specs.Halves.{width_of}
use Rattle.cp_ends.specs.Rows.{IsHalved}
use Rattle.cp_ends.specs.declared.states.States.{States}
use Rattle.cp_ends.proofs.Halves.{stated_by}
use Rattle.cp_stretches.specs.declared.cache.LegCache.{LegCache}
use Rattle.cp_at_once.specs.ByRows.{KeepStore}
use Rattle.cp_at_once.proofs.Following.{known_again, one_more, one_too_many}
use Rattle.cp_at_once.proofs.Keeping.{kept_on}
use Rattle.cp_at_once.proofs.Staying.{stays_halved}
use Rattle.cp_at_once.proofs.search.SearchAtOnce.keep.Goals as goal

pub halve-requires : goal.halve-requires
halve-requires c = ap length c.deref.ensures.value ∙ c.requires.room.row

pub returns-then-contains-clause-store : goal.returns-then-contains-clause-store
returns-then-contains-clause-store c =
    let r = c.args.job.now.run.program.now in
    let store = c.args.self.now.found.kept.store in
    stays_halved r store c.halve.new.self c.halve.ensures.cache c.halve.ensures.ruled (c.halve.ensures.kept r []) c.halve.ensures.lists

pub returns-then-len-job-clause-store : goal.returns-then-len-job-clause-store
returns-then-len-job-clause-store c =
    let r = c.args.job.now.run.program.now in
    let store = c.args.self.now.found.kept.store in
    stays_halved r store c.halve.new.self c.halve.ensures.cache c.halve.ensures.ruled (c.halve.ensures.kept r []) c.halve.ensures.lists

pub returns-clause-store : goal.returns-clause-store
returns-clause-store c =
    let r = c.args.job.now.run.program.now in
    let store = c.args.self.now.found.kept.store in
    subst (KeepStore r store) (sym c.add.ensures.store) (stays_halved r store c.halve.new.self c.halve.ensures.cache c.halve.ensures.ruled (c.halve.ensures.kept r []) c.halve.ensures.lists)

pub returns-then-contains-clause-room : goal.returns-then-contains-clause-room
returns-then-contains-clause-room c = let table = ap (λ (x : LegCache). width_of x.table) (sym c.halve.ensures.cache) in record { ruled = c.halve.ensures.ruled ∙ c.requires.room.ruled; row = c.requires.room.row ∙ table; from = c.requires.room.from ∙ table }

pub returns-then-len-job-clause-room : goal.returns-then-len-job-clause-room
returns-then-len-job-clause-room c = let table = ap (λ (x : LegCache). width_of x.table) (sym c.halve.ensures.cache) in record { ruled = c.halve.ensures.ruled ∙ c.requires.room.ruled; row = c.requires.room.row ∙ table; from = c.requires.room.from ∙ table }

pub returns-clause-room : goal.returns-clause-room
returns-clause-room c =
    let table = ap (λ (x : States). width_of x.cache.table) (sym c.add.ensures.store) in
    let before = ap (λ (x : LegCache). width_of x.table) (sym c.halve.ensures.cache) in
    record { ruled = ap (λ (x : States). x.discipline) c.add.ensures.store ∙ c.halve.ensures.ruled ∙ c.requires.room.ruled; row = c.requires.room.row ∙ before ∙ table; from = c.requires.room.from ∙ before ∙ table }

pub returns-then-contains-clause-found : goal.returns-then-contains-clause-found
returns-then-contains-clause-found c = λ g states word m h is leads row.
    (let r = c.args.job.now.run.program.now in
    let kept = c.args.self.now.found.kept in
    let store = c.halve.new.self in
    let present : c.contains.result ≡ true = search in
    let are = kept_on r kept states h.kept store (stays_halved r kept.store store c.halve.ensures.cache c.halve.ensures.ruled (c.halve.ensures.kept r []) c.halve.ensures.lists) in
    let stated = stated_by r kept.store store c.args.self.now.row.items c.in_ok-row.row.numbers m c.halve.ensures.cache c.halve.ensures.ruled (subst (IsHalved store c.in_ok-row.row.numbers) c.deref.ensures.value c.in_ok-row.ensures.halved) row in
    let known = sym (c.contains.ensures r states m are stated) ∙ present in
    known_again r g c.args.job.now.most c.args.self.now.found states m h (record kept { store = store }) are known)

pub returns-then-len-job-clause-found : goal.returns-then-len-job-clause-found
returns-then-len-job-clause-found c = λ g states word m h is leads row.
    (let r = c.args.job.now.run.program.now in
    let kept = c.args.self.now.found.kept in
    let store = c.halve.new.self in
    let absent : c.contains.result ≡ false = search in
    let are = kept_on r kept states h.kept store (stays_halved r kept.store store c.halve.ensures.cache c.halve.ensures.ruled (c.halve.ensures.kept r []) c.halve.ensures.lists) in
    let stated = stated_by r kept.store store c.args.self.now.row.items c.in_ok-row.row.numbers m c.halve.ensures.cache c.halve.ensures.ruled (subst (IsHalved store c.in_ok-row.row.numbers) c.deref.ensures.value c.in_ok-row.ensures.halved) row in
    let same = are.entries.count in
    let many : c.args.job.now.most ≤ length states = omega (arith, same) in
    one_too_many r g c.args.job.now.most c.args.self.now.found states h m word leads (sym (c.contains.ensures r states m are stated) ∙ absent) many (record kept { store = store }) are)

pub returns-clause-found : goal.returns-clause-found
returns-clause-found c = λ g states word m h is leads row.
    (let r = c.args.job.now.run.program.now in
    let kept = c.args.self.now.found.kept in
    let store = c.halve.new.self in
    let absent : c.contains.result ≡ false = search in
    let are = kept_on r kept states h.kept store (stays_halved r kept.store store c.halve.ensures.cache c.halve.ensures.ruled (c.halve.ensures.kept r []) c.halve.ensures.lists) in
    let stated = stated_by r kept.store store c.args.self.now.row.items c.in_ok-row.row.numbers m c.halve.ensures.cache c.halve.ensures.ruled (subst (IsHalved store c.in_ok-row.row.numbers) c.deref.ensures.value c.in_ok-row.ensures.halved) row in
    let new : has same_key states m ≡ false = sym (c.contains.ensures r states m are stated) ∙ absent in
    let same = are.entries.count in
    let room : length states < c.args.job.now.most = omega (arith, same) in
    one_more r g c.args.job.now.most c.args.self.now.found states h m word leads new (key_self m) room c.add.new.self (c.in_ok-add.ensures.kept r states m word are new stated is))
