use Rattle.cp_text.specs.Kinds.{kinds}
use Rattle.cp_tree.proofs.Laws as laws
use Rattle.cp_tree.proofs.parser.parse.Goals as goal

pub returns-clause-proper : goal.returns-clause-proper
returns-clause-proper c = laws.proper (kinds c.args.tokens.now) c.read.result c.read.ensures.read

pub returns-clause-only : goal.returns-clause-only
returns-clause-only c = laws.only (kinds c.args.tokens.now) c.read.result c.read.ensures.read

pub returns-clause-unexpected : goal.returns-clause-unexpected
returns-clause-unexpected c = laws.unexpected (kinds c.args.tokens.now) c.read.result c.read.ensures.read

pub returns-clause-outside : goal.returns-clause-outside
returns-clause-outside c = laws.outside (kinds c.args.tokens.now) c.read.result c.read.ensures.read

pub returns-clause-too_deep : goal.returns-clause-too_deep
returns-clause-too_deep c = laws.too_deep (kinds c.args.tokens.now) c.read.result c.read.ensures.read

pub returns-clause-left_out : goal.returns-clause-left_out
returns-clause-left_out c = laws.left_out (kinds c.args.tokens.now) c.read.result c.read.ensures.read

pub returns-clause-not_left_out : goal.returns-clause-not_left_out
returns-clause-not_left_out c = laws.not_left_out (kinds c.args.tokens.now) c.read.result c.read.ensures.read

pub returns-clause-within : goal.returns-clause-within
returns-clause-within c = laws.within (kinds c.args.tokens.now) c.read.result c.read.ensures.read

pub returns-clause-one_tree : goal.returns-clause-one_tree
returns-clause-one_tree c = laws.one_tree
