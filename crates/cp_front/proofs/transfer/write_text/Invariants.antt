-- What is gone from the rest was written, and no write failed.
use Rattle.std.proofs.Common.{◌≡◌, ℕ, ◌+◌, ◌≤◌, List, ◌++◌, length}
use Rattle.std.specs.Io.KnownBytes.{Appends}
use Rattle.cp_front.proofs.transfer.write_text.Given as goal

abbrev pub invariant-loop-turn : goal.invariant-loop-turn
invariant-loop-turn g l =
    (done : List ℕ)
    × (l.initial.rest ≡ done ++ l.rest)
    × Appends (g.W.Sink.contents l.initial.sink) (g.W.Sink.contents l.sink) done
    × (g.W.Sink.failed_writes l.sink + g.W.Sink.empty_writes l.sink ≡ g.W.Sink.failed_writes l.initial.sink + g.W.Sink.empty_writes l.initial.sink)
    × (l._turn ≤ length done)
