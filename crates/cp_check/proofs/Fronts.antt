-- What is known already, before what is still to come.
use Rattle.cp_check.proofs.Words.{List, [], ◌∷◌, ◌++◌, Ok, Err, CheckFault, Rule, Memory, Judged, Refuses}

abbrev pub with_front : {A : Type 0} → List A → Judged (List A) → Judged (List A)
with_front front (Ok ts) = Ok (front ++ ts)
with_front front (Err fs) = Err fs

pub front_refuses : {A : Type 0} (e : CheckFault) (front : List A) (j : Judged (List A)) → Refuses e j → Refuses e (with_front front j)
front_refuses Memory front j h = tt
front_refuses (Rule at r) front (Ok ts) h = absurd h
front_refuses (Rule at r) front (Err []) h = absurd h
front_refuses (Rule at r) front (Err (g ∷ gs)) h = h
