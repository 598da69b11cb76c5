-- No word shows a value but those of a closed set.
use Rattle.cp_endless_laws.proofs.Words.{◌≡◌, ◌≤◌, ◌<◌, ℕ, inl, inr, List, [], ◌∷◌, ◌++◌, length, ap, arith, OutcomeKind, System, Choosing, forgetting_system, length-append}
use Rattle.cp_endless_laws.specs.Shown.{ValuesLaw, ValuesToLaw}
use Rattle.cp_endless_laws.proofs.possible.Layers.{leads_to}
use Rattle.cp_endless_laws.proofs.possible.Settled.{leads_in}

pub values : {S : Type 0} (sys : System S) (forget : S → S) (among : S → Type 0) (known : OutcomeKind → Type 0) → ValuesLaw sys forget among known
values sys forget among known steps vs closed shown v (word, inl x) = shown.start v x.1
values sys forget among known steps vs closed shown v (word, inr x) = shown.on x.2 x.1 v (leads_in (forgetting_system sys forget) steps among known closed x.0 (Choosing x.2) x.4) x.5 x.6

shorter : (word stem : List ℕ) (c d : ℕ) → word ≡ stem ++ c ∷ [] → length word ≤ d → length stem < d
shorter word stem c d e le =
    let whole = ap length e in
    let more = length-append stem (c ∷ []) in
    omega (arith, le, whole, more)

pub values_to : {S : Type 0} (sys : System S) (forget : S → S) (layer : ℕ → S → Type 0) (known : OutcomeKind → Type 0) → ValuesToLaw sys forget layer known
values_to sys forget layer known steps d vs closed shown word v le (inl x) = shown.start v x.1
values_to sys forget layer known steps d vs closed shown word v le (inr x) =
    let less = shorter word x.0 x.1 d x.3 le in
    shown.on (length x.0) x.2 x.1 v less (leads_to (forgetting_system sys forget) steps d layer known closed x.0 (Choosing x.2) (omega (arith, less)) x.4) x.5 x.6
