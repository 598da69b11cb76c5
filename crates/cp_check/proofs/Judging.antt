-- The first fault of a node is that of its first part with one.
use Rattle.cp_check.proofs.Words.{List, [], ◌∷◌, ◌++◌, Ok, Err, CheckFault, Rule, Memory}
use Rattle.cp_scope.specs.Judged.{Judged, both, ◌>>=◌, IsFirst, Refuses, IsFirstOf, RefusesList}

first_both : {A B C : Type 0} (f : CheckFault) (a : Judged A) (b : Judged B) (k : A × B → Judged C) → IsFirst f a → IsFirst f (both a b >>= k)
first_both f (Err (g ∷ gs)) (Ok y) k h = h
first_both f (Err (g ∷ gs)) (Err hs) k h = h
first_both f _ b k h = absurd h

pub refuses_both : {A B C : Type 0} (e : CheckFault) (a : Judged A) (b : Judged B) (k : A × B → Judged C) → Refuses e a → Refuses e (both a b >>= k)
refuses_both Memory a b k h = tt
refuses_both (Rule at rule) a b k h = first_both (Rule at rule) a b k h

pub refuses_second : {A B C : Type 0} (e : CheckFault) (x : A) (b : Judged B) (k : A × B → Judged C) → Refuses e b → Refuses e (both (Ok x) b >>= k)
refuses_second Memory x b k h = tt
refuses_second (Rule at rule) x (Ok y) k h = absurd h
refuses_second (Rule at rule) x (Err fs) k h = h

first_bind : {A B : Type 0} (f : CheckFault) (a : Judged A) (k : A → Judged B) → IsFirst f a → IsFirst f (a >>= k)
first_bind f (Err (g ∷ gs)) k h = h
first_bind f _ k h = absurd h

pub refuses_bind : {A B : Type 0} (e : CheckFault) (a : Judged A) (k : A → Judged B) → Refuses e a → Refuses e (a >>= k)
refuses_bind Memory a k h = tt
refuses_bind (Rule at rule) a k h = first_bind (Rule at rule) a k h

first_of_append : (f : CheckFault) (fs gs : List CheckFault) → IsFirstOf f fs → IsFirstOf f (fs ++ gs)
first_of_append f [] gs h = absurd h
first_of_append f (g ∷ fs) gs h = h

pub first_append : (e : CheckFault) (fs gs : List CheckFault) → RefusesList e fs → RefusesList e (fs ++ gs)
first_append Memory fs gs h = tt
first_append (Rule at rule) fs gs h = first_of_append (Rule at rule) fs gs h

pub refuses_twice : {A B C : Type 0} (e : CheckFault) (a : Judged A) (k : A → Judged B) (l : B → Judged C) → Refuses e a → Refuses e (a >>= k >>= l)
refuses_twice e a k l h = refuses_bind e (a >>= k) l (refuses_bind e a k h)
