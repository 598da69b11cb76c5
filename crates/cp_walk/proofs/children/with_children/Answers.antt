use Rattle.cp_walk.proofs.Placing.{all_children}
use Rattle.cp_walk.proofs.children.with_children.Goals as goal

pub returns : goal.returns
returns c = all_children c.args.words.now c.args.at c.args.ready.now c.index-words-at.result c.new-all.result.items c.push_copies.new.words.items c.push_children.new.words.items c.push_copies-2.new.words.items c.as_slice.result.now c.requires.member c.new-all.ensures.items c.in_ok-push_copies.ensures c.index-words-at.is c.as_slice.ensures.value c.in_ok-push_children.ensures c.in_ok-push_copies-2.ensures
