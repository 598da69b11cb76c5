use Rattle.std.proofs.lemmas.Iterator.Consumers.{map_from_collect}
use Rattle.cp_expectation.proofs.Cutting.{words_yielded}
use Rattle.cp_expectation.proofs.vocabulary.words_in.Goals as goal

pub returns : goal.returns
returns c = map_from_collect c.collect.result c.collect.ensures.ran (words_yielded c.args.text.now c.utf8.text c.split_whitespace.ensures.rest)
