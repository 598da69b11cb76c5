-- Who goes on.
use Rattle.cp_ends.proofs.Vocabulary.{◌≡◌, ℕ, subst, Turn, Goes}
use Rattle.cp_run.specs.Code.{IfGoes}

-- what is so if somebody goes on, where somebody does
pub if_goes : (turn : Turn) (q : ℕ) (P : ℕ → Type 0) → turn ≡ Goes q → IfGoes turn P → P q
if_goes turn q P e h = let F : Turn → Type 0 = λ t. IfGoes t P in subst F e h
