use Rattle.std.proofs.Common.{◌≡◌, ◌∙◌, Option, refl, subst, sym}
use Rattle.cp_text.specs.declared.token.ByteRange.{ByteRange}
use Rattle.cp_refusal.specs.Explaining.{IsPlaceIn}
use Rattle.cp_refusal.proofs.Told.{scan_told}
use Rattle.cp_refusal.proofs.explain.scan_refused.Goals as goal
use Rattle.cp_refusal.proofs.explain.scan_refused.Goals.{in-Some, in-None}

pub returns : goal.returns
returns c =
    let same : c.match-span.span ≡ c.fault_span-span.result = elim c.match-span.branch [ in-Some w ↦ w.span-is ∙ sym w.in-Some.is | in-None w ↦ w.span-is ] in
    scan_told c.args.source.now c.args.fault _ c.if-eq.ensures refl (λ h. subst (λ (s : Option ByteRange). IsPlaceIn c.args.source.now c.args.fault.line s) (sym same) (c.fault_span-span.ensures h))
