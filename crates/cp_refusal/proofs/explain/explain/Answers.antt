use Rattle.cp_refusal.proofs.Told.{check_told, parse_told}
use Rattle.cp_refusal.proofs.explain.explain.Goals as goal

pub returns-in-Parse : goal.returns-in-Parse
returns-in-Parse c = parse_told c.args.source.now c.args.refusal.now _ _ _ c.in-Parse.is c.parse_refused.ensures

pub returns-in-Check : goal.returns-in-Check
returns-in-Check c = check_told c.args.source.now c.args.refusal.now _ _ _ _ c.in-Check.is c.check_refused.ensures
