use Rattle.std.proofs.lemmas.Result.{IfErr-weaker, IfOk-weaker}
use Rattle.cp_front.proofs.Scanning.{known_fault}
use Rattle.cp_front.proofs.loading.load_checked.Goals as goal

pub returns-in-Ok-clause-loaded : goal.returns-in-Ok-clause-loaded
returns-in-Ok-clause-loaded c = IfOk-weaker c.check_tokens.result _ _ (λ l h. h c.args.source.now (c.in-Ok.ensures.reads (λ e. cc))) c.check_tokens.ensures.loaded

pub returns-in-Ok-clause-refused : goal.returns-in-Ok-clause-refused
returns-in-Ok-clause-refused c = IfErr-weaker c.check_tokens.result _ _ (λ r h. h c.args.source.now (c.in-Ok.ensures.reads (λ e. cc))) c.check_tokens.ensures.refused

pub returns-in_default : goal.returns-in_default
returns-in_default c = record { loaded = tt; refused = c.in-Err.ensures.reads (known_fault c.in-Err.fault c.in_default.not-Memory) }
