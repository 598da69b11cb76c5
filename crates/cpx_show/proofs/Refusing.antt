-- What is said of a source in words.
use Rattle.std.proofs.Common.{◌≡◌, ℕ, List, Option, Bor, Result, Ok, Err, MatchResult}
use Rattle.cp_front.specs.declared.loading.Loaded.{Loaded}
use Rattle.cp_front.specs.declared.refusal.Refusal.{Refusal}
use Rattle.cp_refusal.specs.Explaining.{IsAccepted, IsToldOf}
use Rattle.cp_refusal.specs.Text.{IsTextOf}
use Rattle.cp_refusal.specs.declared.report.Explanation.{Explanation}
use Rattle.cpx_show.specs.Refused.{TellsAccepted, TellsRefused}

pub explained : (loaded : Result (Bor Loaded) (Bor Refusal)) (source : List ℕ) (file : Option (List ℕ)) (said : Explanation) (text : List ℕ) → MatchResult loaded (λ x. IsAccepted said) (λ why. IsToldOf source why.now said) → IsTextOf source file said text → MatchResult loaded (λ x. TellsAccepted source file text) (λ why. TellsRefused source file why.now text)
explained (Ok l) source file said text h is = record { said = said; accepted = h; is = is }
explained (Err why) source file said text h is = record { said = said; agrees = h; is = is }
