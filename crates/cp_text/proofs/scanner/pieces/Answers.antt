use Rattle.std.proofs.Common.{◌≡◌, length, arith, sym, ◌∙◌, ap, subst, Ok, Err}
use Rattle.std.proofs.lemmas.List.{length-drop, length-take}
use Rattle.cp_text.specs.declared.token.Spot.{Spot}
use Rattle.cp_text.specs.Faults.{out_of_memory}
use Rattle.cp_text.specs.Fronts.{front_piece, ClosesWithin}
use Rattle.cp_text.specs.Scanning.{fault}
use Rattle.cp_text.proofs.ReadingLaws.{of_text}
use Rattle.cp_text.proofs.ScanSteps.{fault_told, scan_stops, scan_goes, scan_ends}
use Rattle.cp_text.proofs.scanner.pieces.Goals as goal

pub returns-in-Err : goal.returns-in-Err
returns-in-Err c = λ told.
    let t = fault_told c.loop-rest.spot c.in-Err.cause (λ (q : fault c.loop-rest.spot c.in-Err.cause ≡ out_of_memory). told (c.fault.ensures ∙ q)) in
    let count : c.len.result ≡ length c.loop-rest.items.items = grind arith in
    let h : front_piece (length c.loop-rest.items.items) c.loop-rest.left c.loop-rest.rest.now ≡ Err c.in-Err.cause = rw (← count) (c.in-Err.ensures.value t.0) in
    sym c.loop-rest.invariant.reads
    ∙ scan_stops c.loop-rest.left c.loop-rest.spot c.loop-rest.items.items c.loop-rest.rest.now c.in-Err.cause (grind arith) h ∙ ap Err (sym t.1 ∙ sym c.fault.ensures)

pub loop-rest-preserved : goal.loop-rest-preserved
loop-rest-preserved c =
    let lines = ap (λ (s : Spot). s.line) c.after-spot.ensures.value in
    let bytes = ap (λ (s : Spot). s.from) c.after-spot.ensures.value in
    let front = ap length c.split_at.ensures.front in
    let back = ap length c.split_at.ensures.back in
    let rest = c.loop-rest.rest.now in
    record {
      reads =
          let count : c.len.result ≡ length c.loop-rest.items.items = grind arith in
          let h : front_piece (length c.loop-rest.items.items) c.loop-rest.left rest ≡ Ok c.in-Ok.found = rw (← count) c.in-Ok.ensures.value in
          rw (c.in_ok-add.ensures.ok, c.split_at.ensures.back, c.after-spot.ensures.value, c.split_at.ensures.front)
          (scan_goes c.loop-rest.left c.loop-rest.spot c.loop-rest.items.items rest c.in-Ok.found.kind c.in-Ok.found.len c.in-Ok.found.left c.in-Ok.ensures.within.0 (grind arith) h ∙ c.loop-rest.invariant.reads);
      counted = omega (arith, lines, c.loop-rest.invariant.counted);
      within = omega (arith, c.after-spot.ensures.within, c.loop-rest.invariant.within, c.in-Ok.ensures.within, front, back, length-take c.in-Ok.found.len rest, length-drop c.in-Ok.found.len rest);
      all = omega (arith, bytes, c.loop-rest.invariant.all, c.in-Ok.ensures.within, front, back, length-take c.in-Ok.found.len rest, length-drop c.in-Ok.found.len rest);
      closes = subst (λ xs. ClosesWithin c.in-Ok.found.left xs) (sym c.split_at.ensures.back) c.in-Ok.ensures.closes;
    }

pub new-requires : goal.new-requires
new-requires c = of_text c.args.source.now (omega arith) c.loop-rest.items.items (sym c.loop-rest.invariant.reads ∙ scan_ends c.loop-rest.left c.loop-rest.spot c.loop-rest.items.items c.loop-rest.rest.now (grind arith))

pub returns : goal.returns
returns c =
    sym c.loop-rest.invariant.reads ∙ scan_ends c.loop-rest.left c.loop-rest.spot c.loop-rest.items.items c.loop-rest.rest.now (grind arith) ∙ ap Ok (cc)
