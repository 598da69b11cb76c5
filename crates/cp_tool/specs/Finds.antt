-- What a search answers, and what the reading of an option does.
use Rattle.std.specs.Prelude.{◌≡◌, MatchOption, MatchResult, Option, Result}
use Rattle.cp_tool.specs.declared.options.OptionFault.{OptionFault}
use Rattle.cp_tool.specs.declared.options.OptionFault.TheVariants.{Refused, Memory}

-- a value of which P holds, and None only where it holds of none
abbrev pub Finds : {T : Type 0} → (T → Type 0) → Option T → Type 0
Finds {T} P r = MatchOption r ((x : T) → ¬ P x) P

-- words are refused only where something is so
abbrev pub Refuses : OptionFault → Type 0 → Type 0
Refuses (Refused why) Q = Q
Refuses fault Q = fault ≡ Memory

-- a value of which P holds; they are refused only where it holds of none
abbrev pub Obtains : {T : Type 0} → (T → Type 0) → Result T OptionFault → Type 0
Obtains {T} P r = MatchResult r P (λ e. Refuses e ((x : T) → ¬ P x))
