-- What is so wherever a search stops is so after it.
use Rattle.std.specs.Prelude.{ℕ, Option, None, Some}
use Rattle.cp_search.specs.Searched.{IsSearched}

pub anywhere : (P : Type 0) (stopped : Option ℕ) → IsSearched P (λ at. P) stopped → P
anywhere P None h = h
anywhere P (Some at) h = h
