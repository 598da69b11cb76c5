-- Where something is judged without a fault, so are its parts.
use Rattle.cp_resolved.proofs.Words.{◌≡◌, Bool, true, false, if◌then◌else◌, List, ◌∷◌, Ok, Err, refl, ap, CheckFault, Judged, both, ◌>>=◌}

pub ok_same : {A : Type 0} (x y : A) → (let j : Judged A = Ok x in j) ≡ Ok y → x ≡ y
ok_same x y e = cc

pub record Then {A B : Type 0} (j : Judged A) (f : A → Judged B) (r : B) : Type 0 where
  pub value : A
  pub is : j ≡ Ok value
  pub rest : f value ≡ Ok r

pub then_of : {A B : Type 0} (j : Judged A) (f : A → Judged B) (r : B) → (j >>= f) ≡ Ok r → Then j f r
then_of (Ok a) f r e = record { value = a; is = refl; rest = e }
then_of (Err fs) f r e = absurd (cc)

pub record Both {A B : Type 0} (j : Judged A) (k : Judged B) (r : A × B) : Type 0 where
  pub first : j ≡ Ok r.0
  pub second : k ≡ Ok r.1

pub both_of : {A B : Type 0} (j : Judged A) (k : Judged B) (r : A × B) → both j k ≡ Ok r → Both j k r
both_of {A = A} {B = B} (Ok a) (Ok b) r e = record { first = ap (λ (q : A × B). Ok q.0) (ok_same (a, b) r e); second = ap (λ (q : A × B). Ok q.1) (ok_same (a, b) r e) }
both_of (Ok a) (Err gs) r e = absurd (cc)
both_of (Err fs) (Ok b) r e = absurd (cc)
both_of (Err fs) (Err gs) r e = absurd (cc)

-- a test that was passed
pub if_of : {A : Type 0} (b : Bool) (x r : A) (f : CheckFault) (fs : List CheckFault) → (if b then Ok x else Err (f ∷ fs)) ≡ Ok r → (b ≡ true) × (x ≡ r)
if_of true x r f fs e = (refl, ok_same x r e)
if_of false x r f fs e = absurd (cc)
