-- A record whose fields break a rule is refused.
use Rattle.cp_check.proofs.Words.{List, [], ◌∷◌, CheckFault, Rule, Memory, Judged, ◌>>=◌, Refuses, RefusesList}
use Rattle.cp_scope.specs.Scopes.{Scope}
use Rattle.cp_check.specs.Records.{check_fields_of}

pub sound_refuses : {A : Type 0} (e : CheckFault) (fs : List CheckFault) (f : Scope) (k : Scope → Judged A) → RefusesList e fs → Refuses e (check_fields_of fs f >>= k)
sound_refuses Memory fs f k h = tt
sound_refuses (Rule at r) [] f k h = absurd h
sound_refuses (Rule at r) (g ∷ gs) f k h = h
