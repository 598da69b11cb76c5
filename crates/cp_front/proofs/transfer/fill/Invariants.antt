-- What was filled is what was read, and each turn is one read that did not fail.
use Rattle.std.proofs.Common.{◌≡◌, ◌+◌, ◌≤◌, length, take}
use Rattle.std.specs.Io.KnownBytes.{Consumes}
use Rattle.cp_front.proofs.transfer.fill.Given as goal

abbrev pub invariant-loop-turn : goal.invariant-loop-turn
invariant-loop-turn g l =
    (length l.buffer ≡ length l.fn.buffer)
    × (l.filled ≤ length l.buffer)
    × Consumes (g.R.Source.remaining l.fn.source) (g.R.Source.remaining l.source) (take l.filled l.buffer)
    × (g.R.Source.reads l.source ≡ g.R.Source.reads l.fn.source + l._turn)
    × (g.R.Source.failed_reads l.source ≡ g.R.Source.failed_reads l.fn.source)
    × (l._turn ≤ l.filled)
