use Rattle.std.proofs.Common.{refl}
use Rattle.cp_ends.proofs.GoingOn.{ok_to}
use Rattle.cp_parts.proofs.Keeping.{store_same}
use Rattle.cp_stretches.proofs.Growing.{legs_on}
use Rattle.cp_at_once.proofs.Staying.{stays_with}
use Rattle.cp_at_once.proofs.leg.look.Goals as goal

pub returns-clause-kept : goal.returns-clause-kept
returns-clause-kept c = λ r.
    (let rows = c.args.rows.now in
    ok_to c.look.result _ _ c.look.ensures.told (λ looked told.
    stays_with r rows (record rows.cache { legs = c.look.new.self }) rows.standing refl (store_same rows.cache.store)
    (λ h. legs_on r rows.discipline rows.cache _ h.cached (λ are. c.look.ensures.known rows.cache.store rows.cache.table r rows.discipline are)) (λ h. h.standing)))

pub returns-clause-told : goal.returns-clause-told
returns-clause-told c = λ r.
    (let rows = c.args.rows.now in
    ok_to c.look.result _ _ c.look.ensures.told (λ looked told e h is. told rows.cache.store r rows.discipline e h.cached.placed h.cached.known is))
