-- Who is first in a line is one of the processes.
use Rattle.cp_machine.proofs.Words.{◌≡◌, ◌∙◌, ℕ, ◌<◌, List, [], ◌∷◌, length, Some, true, Machine, monitor_at}
use Rattle.cp_machine.specs.Fits.{IsFirstKnown, LinesFit}
use Rattle.cp_machine.proofs.CallerLemmas.{in_line_within}
use Rattle.cp_machine.proofs.lines.LineLists.{has, has_first}

first_known : (processes : ℕ) (line : List ℕ) → ((q : ℕ) → has line q ≡ true → q < processes) → IsFirstKnown processes line
first_known processes [] each = tt
first_known processes (q ∷ line) each = each q (has_first q line)

pub firsts_known : (m : Machine) → LinesFit m → (monitor : ℕ) → IsFirstKnown (length m.threads) (monitor_at m monitor).line
firsts_known m lines monitor = first_known (length m.threads) (monitor_at m monitor).line (λ q there. in_line_within (Some monitor) m.threads q (lines.gate monitor q ∙ there))
