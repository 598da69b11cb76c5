-- What follows a text where it begins another one.
use Rattle.std.proofs.Common.{◌≡◌, ◌∙◌, ℕ, Bool, true, false, if◌then◌else◌, List, [], length, drop, ap, sym, subst}
use Rattle.std.specs.Prelude.{None}
use Rattle.std.specs.Str.{IsCharBoundary}
use Rattle.std.specs.Str.Pattern.{FindsTextPrefix, StripsPrefix}
use Rattle.std.proofs.lemmas.Str.Pattern.{starts_text}
use Rattle.cp_story.specs.Changes.{behind}

abbrev begun : Bool → (start whole : List ℕ) → List ℕ
begun b start whole = if b then drop (length start) whole else []

pub nothing_behind : (start whole : List ℕ) → FindsTextPrefix start whole None → behind start whole ≡ []
nothing_behind start whole h = ap (λ b. begun b start whole) (sym (starts_text false start whole h))

pub rest_behind : (start whole rest : List ℕ) → StripsPrefix (FindsTextPrefix start) whole rest → behind start whole ≡ rest
rest_behind start whole rest h =
    let boundary : IsCharBoundary whole h.0 = subst (λ n. IsCharBoundary whole n) (sym h.1.0) h.1.2 in
    ap (λ b. begun b start whole) (sym (starts_text true start whole (h.0, h.1, boundary))) ∙ ap (λ n. drop n whole) (sym h.1.0) ∙ sym h.2
