use Rattle.std.proofs.Common.{◌≤◌, ◌^◌, length, arith}
use Rattle.cp_merged.proofs.Arriving.{ends_full, room_for_end}
use Rattle.cp_merged.proofs.frontier.Frontier.end.Goals as goal

pub returns-then-len-gt-MOST_OUTCOMES-clause-ended :
    goal.returns-then-len-gt-MOST_OUTCOMES-clause-ended
returns-then-len-gt-MOST_OUTCOMES-clause-ended c = λ ts h. ends_full c.args.self.now.ended.entries ts _ (omega arith) h

pub add_end-requires : goal.add_end-requires
add_end-requires c =
    let few : length c.args.self.now.ended.entries ≤ 50000 = omega arith in
    room_for_end c.args.self.now.ended.entries c.requires.0 _ c.args.prefixes.now.count (10 ^ 126) few c.requires.1 c.requires.2
