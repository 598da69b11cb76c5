-- Labels of one base are told apart by their numbers.
use Rattle.std.proofs.Common.{◌≡◌, ℕ, ℤ, ◌+◌, ◌<◌, Bool, true, false, ◌&&◌, not, List, [], ◌∷◌, ◌++◌, map, length, get_or, drop, take, refl, sym, ap, ◌∙◌, add-one}
use Rattle.std.specs.List.{list_any}
use Rattle.std.specs.Ordering.{int_eq}
use Rattle.std.proofs.Math.Seq.{drop-cons, take-add}
use Rattle.std.proofs.lemmas.Bool.{eqb-true, eq-eqb}
use Rattle.std.proofs.lemmas.List.{map-append, take-append-drop}
use Rattle.indexmap.specs.IndexSet.{insert_key}
use Rattle.cp_scope.specs.declared.fault.CheckFault.TheVariants as check_fault
use Rattle.cp_scope.specs.declared.fault.Rule.TheVariants.{C19}
use Rattle.cp_check.proofs.Words.{Base, RefusesList, Label}
use Rattle.cp_scope.specs.declared.types.Base.TheVariants.{Integer, Boolean, Char, Enumeration}
use Rattle.cp_scope.specs.Types.{same_base}
use Rattle.cp_check.specs.Cases.{are_labels, AreOfOneBase, is_label, again_faults, twice_faults}

-- ---- one base

of_integer : (b : Base) → same_base b Integer ≡ true → b ≡ Integer
of_integer Integer h = refl
of_integer _ h = cc

of_boolean : (b : Base) → same_base b Boolean ≡ true → b ≡ Boolean
of_boolean Boolean h = refl
of_boolean _ h = cc

of_char : (b : Base) → same_base b Char ≡ true → b ≡ Char
of_char Char h = refl
of_char _ h = cc

of_enumeration : (b : Base) (n : ℕ) (l : ℤ) → same_base b (Enumeration n l) ≡ true → (k : ℤ) × (b ≡ Enumeration n k)
of_enumeration (Enumeration m k) n l h = (k, ap (λ (o : ℕ). Enumeration o k) (eqb-true m n h))
of_enumeration _ n l h = cc

one_kind : (b c d : Base) → same_base b d ≡ true → same_base c d ≡ true → same_base b c ≡ true
one_kind b c Integer h k = rw (of_integer b h, of_integer c k) refl
one_kind b c Boolean h k = rw (of_boolean b h, of_boolean c k) refl
one_kind b c Char h k = rw (of_char b h, of_char c k) refl
one_kind b c (Enumeration n l) h k =
    let p = of_enumeration b n l h in
    let q = of_enumeration c n l k in
    rw (p.1, q.1) (eq-eqb n n refl)

pub one_base : (b : Base) (ls : List Label) → are_labels b ls ≡ true → AreOfOneBase ls
one_base b ls h = (b, h)

-- ---- numbers

abbrev pub numbers_of : List Label → List ℤ
numbers_of ls = map (λ (l : Label). l.number.value) ls

and_left : (a b : Bool) → (a && b) ≡ true → a ≡ true
and_left true b h = refl
and_left false b h = h

and_right : (a b : Bool) → (a && b) ≡ true → b ≡ true
and_right true b h = h
and_right false b h = cc

among_numbers : (b : Base) (l : Label) (ms : List Label) → same_base l.number.base b ≡ true → are_labels b ms ≡ true → is_label l ms ≡ list_any (int_eq l.number.value) (numbers_of ms)
among_numbers b l [] h k = refl
among_numbers b l (m ∷ ms) h k =
    let one = one_kind l.number.base m.number.base b h (and_left (same_base m.number.base b) (are_labels b ms) k) in
    let rest = among_numbers b l ms h (and_right (same_base m.number.base b) (are_labels b ms) k) in
    rw (one, rest) refl

front_agrees : (b : Base) (ms ls : List Label) → are_labels b (ms ++ ls) ≡ true → are_labels b ms ≡ true
front_agrees b [] ls h = refl
front_agrees b (m ∷ ms) ls h =
    let one = and_left (same_base m.number.base b) (are_labels b (ms ++ ls)) h in
    let rest = front_agrees b ms ls (and_right (same_base m.number.base b) (are_labels b (ms ++ ls)) h) in
    rw (one, rest) refl

rest_agrees : (b : Base) (ms ls : List Label) → are_labels b (ms ++ ls) ≡ true → are_labels b ls ≡ true
rest_agrees b [] ls h = h
rest_agrees b (m ∷ ms) ls h = rest_agrees b ms ls (and_right (same_base m.number.base b) (are_labels b (ms ++ ls)) h)

told_there : (b r : Bool) → r ≡ not b → r ≡ false → b ≡ true
told_there true r h k = refl
told_there false r h k = cc

told_away : (b r : Bool) → r ≡ not b → r ≡ true → b ≡ false
told_away true r h k = cc
told_away false r h k = refl

-- ---- the labels from the i-th on

module _ (ls : List Label) (i : ℕ) (d : Label) (within : i < length ls) where
  next : drop i ls ≡ get_or ls i d ∷ drop (i + 1) ls
  next = rw (add-one, drop-cons ls i d) refl

  taken : take (i + 1) ls ≡ take i ls ++ get_or ls i d ∷ []
  taken = take-add i 1 ls ∙ ap (λ (ys : List Label). take i ls ++ take 1 ys) next

  split : take i ls ++ get_or ls i d ∷ drop (i + 1) ls ≡ ls
  split = ap (λ (ys : List Label). take i ls ++ ys) (sym next) ∙ take-append-drop i ls

  among : AreOfOneBase ls → is_label (get_or ls i d) (take i ls) ≡ list_any (int_eq (get_or ls i d).number.value) (numbers_of (take i ls))
  among a =
      let h : are_labels a.0 (take i ls ++ get_or ls i d ∷ drop (i + 1) ls) ≡ true = ap (are_labels a.0) split ∙ a.1 in
      let here = and_left (same_base (get_or ls i d).number.base a.0) (are_labels a.0 (drop (i + 1) ls)) (rest_agrees a.0 (take i ls) (get_or ls i d ∷ drop (i + 1) ls) h) in
      among_numbers a.0 (get_or ls i d) (take i ls) here (front_agrees a.0 (take i ls) (get_or ls i d ∷ drop (i + 1) ls) h)

  twice_split : twice_faults (take i ls) (drop i ls) ≡ again_faults (get_or ls i d) (take i ls) ++ twice_faults (take (i + 1) ls) (drop (i + 1) ls)
  unfolding twice_faults
  twice_split = ap (twice_faults (take i ls)) next ∙ ap (λ (ms : List Label). again_faults (get_or ls i d) (take i ls) ++ twice_faults ms (drop (i + 1) ls)) (sym taken)

  -- whether the number, as it was passed, was told to be new
  module _ (agree : AreOfOneBase ls) (vs : List ℤ) (seen : vs ≡ numbers_of (take i ls)) (number : ℤ) (same : number ≡ (get_or ls i d).number.value) (new : Bool) (told : new ≡ not (list_any (int_eq number) vs)) where
    known : is_label (get_or ls i d) (take i ls) ≡ list_any (int_eq number) vs
    known =
        among agree
        ∙ ap (λ (v : ℤ). list_any (int_eq v) (numbers_of (take i ls))) (sym same)
        ∙ ap (list_any (int_eq number)) (sym seen)

    pub once_passed : new ≡ true → twice_faults (take i ls) (drop i ls) ≡ twice_faults (take (i + 1) ls) (drop (i + 1) ls)
    once_passed h =
        let away : is_label (get_or ls i d) (take i ls) ≡ false = known ∙ told_away (list_any (int_eq number) vs) new told h in
        twice_split ∙ rw (away) refl

    pub once_refused : new ≡ false → RefusesList (check_fault.Rule (get_or ls i d).at C19) (twice_faults (take i ls) (drop i ls))
    once_refused h =
        let there : is_label (get_or ls i d) (take i ls) ≡ true = known ∙ told_there (list_any (int_eq number) vs) new told h in
        rw (twice_split, there) refl

    pub number_added : new ≡ true → insert_key int_eq vs number ≡ numbers_of (take (i + 1) ls)
    number_added h =
        let absent : list_any (int_eq number) vs ≡ false = told_away (list_any (int_eq number) vs) new told h in
        let more : numbers_of (take (i + 1) ls) ≡ numbers_of (take i ls) ++ (get_or ls i d).number.value ∷ [] = ap numbers_of taken ∙ map-append (λ (m : Label). m.number.value) (take i ls) (get_or ls i d ∷ []) in
        let put : insert_key int_eq vs number ≡ vs ++ number ∷ [] = rw (absent) refl in
        put
        ∙ ap (λ (ws : List ℤ). ws ++ number ∷ []) seen
        ∙ ap (λ (v : ℤ). numbers_of (take i ls) ++ v ∷ []) same
        ∙ sym more
