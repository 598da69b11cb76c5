use Rattle.std.proofs.Common.{◌≡◌, ◌≤◌, ◌+◌, [], length, None}
use Rattle.cp_text.specs.Fronts.{ClosesWithin}
use Rattle.cp_text.specs.Scanning.{scan_from}
use Rattle.cp_text.specs.Spots.{beginning}
use Rattle.cp_text.proofs.scanner.pieces.Given as goal

abbrev pub invariant-loop-rest : goal.invariant-loop-rest
invariant-loop-rest l = record {
  reads : scan_from 0 l.left l.spot l.items.items l.rest ≡ scan_from 0 None beginning [] l.source;
  counted : 1 ≤ l.spot.line;
  within : l.spot.line + length l.rest ≤ 65536;
  all : l.spot.from + length l.rest ≡ length l.source;
  closes : ClosesWithin l.left l.rest;
}

abbrev pub decreases-loop-rest : goal.decreases-loop-rest
decreases-loop-rest l = length l.rest
