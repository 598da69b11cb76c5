-- Two systems whose choices lead to states that are related have the same ends after each word.
use Rattle.std.proofs.Common.{◌≡◌, inl, inr, ◌∙◌, ℕ, ◌<◌, Bool, true, false, if◌then◌else◌, List, [], ◌∷◌, None, Some, refl, sym, ap, subst, Option}
use Rattle.cp_endless_laws.proofs.Words.{Each, OutcomeKind, System, Node, Halted, Choosing, may, chosen, opened, AnyOf, Moment, moments, chosen_spot, opening_spot, spot_after}
use Rattle.cp_endless_laws.proofs.Words.{some_same, NodesAlike, EndsAfter, IsPossible, node_after}
use Rattle.cp_endless_laws.specs.Meaning.{EndsTheSame}

abbrev pub MomentsAlike : {S T : Type 0} → (S → T → Type 0) → List (Moment S) → List (Moment T) → Type 0
MomentsAlike R [] [] = Unit {0}
MomentsAlike R (m ∷ ms) (n ∷ ns) = (m.mover ≡ n.mover) × R m.state n.state × MomentsAlike R ms ns
MomentsAlike R [] (n ∷ ns) = ⊥
MomentsAlike R (m ∷ ms) [] = ⊥

-- where stretches stand: the same process makes the next step, in states that are related by V
abbrev pub SpotsAlike : {S T : Type 0} → (S → T → ℕ → Type 0) → Option (S × ℕ) → Option (T × ℕ) → Type 0
SpotsAlike V None None = Unit {0}
SpotsAlike V (Some x) (Some y) = (x.1 ≡ y.1) × V x.0 y.0 x.1
SpotsAlike V None (Some y) = ⊥
SpotsAlike V (Some x) None = ⊥

-- what two systems have in common, seen from choice to choice, and from step to step
pub record ChoicesAlike {S T : Type 0} (a : System S) (b : System T) (steps : ℕ) (R : S → T → Type 0) (V : S → T → ℕ → Type 0) : Type 0 where
  pub processes : a.processes ≡ b.processes
  pub begins : NodesAlike R (opened a steps) (opened b steps)
  pub same : (s : S) (t : T) (p : ℕ) → R s t → may a s p ≡ may b t p
  pub goes : (s : S) (t : T) (p : ℕ) → R s t → may a s p ≡ true → NodesAlike R (chosen a steps s p) (chosen b steps t p)
  pub happens : (s : S) (t : T) (p : ℕ) → R s t → may a s p ≡ true → MomentsAlike R (moments a steps s p) (moments b steps t p)
  pub ready : (s : S) (t : T) (q : ℕ) → R s t → q < a.processes → a.is_ready s q ≡ b.is_ready t q
  pub spots_first : SpotsAlike V (opening_spot a) (opening_spot b)
  pub spots_then : (s : S) (t : T) (p : ℕ) → R s t → may a s p ≡ true → SpotsAlike V (chosen_spot a s p) (chosen_spot b t p)
  pub spots_on : (s : S) (t : T) (p : ℕ) → V s t p → SpotsAlike V (spot_after a 1 s p) (spot_after b 1 t p)
  pub spots_are : (s : S) (t : T) (p : ℕ) → V s t p → R s t

-- ---- seen from the other side

turned_node : {S T : Type 0} (R : S → T → Type 0) (x : Node S) (y : Node T) → NodesAlike R x y → NodesAlike (λ t s. R s t) y x
turned_node R (Halted k s) (Halted l t) h = (sym h.0, h.1)
turned_node R (Choosing s) (Choosing t) h = h
turned_node R _ _ h = absurd h

turned_moments : {S T : Type 0} (R : S → T → Type 0) (ms : List (Moment S)) (ns : List (Moment T)) → MomentsAlike R ms ns → MomentsAlike (λ t s. R s t) ns ms
turned_moments R [] [] h = tt
turned_moments R (m ∷ ms) (n ∷ ns) h = (sym h.0, h.1, turned_moments R ms ns h.2)
turned_moments R _ _ h = absurd h

turned_spots : {S T : Type 0} (V : S → T → ℕ → Type 0) (x : Option (S × ℕ)) (y : Option (T × ℕ)) → SpotsAlike V x y → SpotsAlike (λ t s p. V s t p) y x
turned_spots V None None h = tt
turned_spots V (Some x) (Some y) h = (sym h.0, subst (λ p. V x.0 y.0 p) h.0 h.1)
turned_spots V _ _ h = absurd h

pub turned : {S T : Type 0} (a : System S) (b : System T) (steps : ℕ) (R : S → T → Type 0) (V : S → T → ℕ → Type 0) → ChoicesAlike a b steps R V → ChoicesAlike b a steps (λ t s. R s t) (λ t s p. V s t p)
turned a b steps R V h =
    record {
      processes = sym h.processes;
      begins = turned_node R (opened a steps) (opened b steps) h.begins;
      same = λ t s p r. sym (h.same s t p r);
      goes = λ t s p r m. turned_node R (chosen a steps s p) (chosen b steps t p) (h.goes s t p r (h.same s t p r ∙ m));
      happens = λ t s p r m. turned_moments R (moments a steps s p) (moments b steps t p) (h.happens s t p r (h.same s t p r ∙ m));
      ready = λ t s q r less. sym (h.ready s t q r (subst (λ (n : ℕ). q < n) (sym h.processes) less));
      spots_first = turned_spots V (opening_spot a) (opening_spot b) h.spots_first;
      spots_then = λ t s p r m. turned_spots V (chosen_spot a s p) (chosen_spot b t p) (h.spots_then s t p r (h.same s t p r ∙ m));
      spots_on = λ t s p v. turned_spots V (spot_after a 1 s p) (spot_after b 1 t p) (h.spots_on s t p v);
      spots_are = λ t s p v. h.spots_are s t p v;
    }

-- ---- from one to the other

pub choosing_alike : {S T : Type 0} (R : S → T → Type 0) (s : S) (y : Node T) → NodesAlike R (Choosing s) y → (t : T) × (y ≡ Choosing t) × R s t
choosing_alike R s (Choosing t) h = (t, refl, h)
choosing_alike R s (Halted k t) h = absurd h

halted_alike : {S T : Type 0} (R : S → T → Type 0) (k : OutcomeKind) (s : S) (y : Node T) → NodesAlike R (Halted k s) y → (t : T) × (y ≡ Halted k t)
halted_alike R k s (Choosing t) h = absurd h
halted_alike R k s (Halted l t) h = (t, ap (λ j. Halted j t) (sym h.0))

pub each_alike : {S T : Type 0} (R : S → T → Type 0) (P : Moment S → Type 0) (Q : Moment T → Type 0) (ms : List (Moment S)) (ns : List (Moment T)) → ((m : Moment S) (n : Moment T) → m.mover ≡ n.mover → R m.state n.state → P m → Q n) → MomentsAlike R ms ns → Each P ms → Each Q ns
each_alike R P Q [] [] f h e = tt
each_alike R P Q (m ∷ ms) (n ∷ ns) f h e = (f m n h.0 h.1 e.0, each_alike R P Q ms ns f h.2 e.1)
each_alike R P Q _ _ f h e = absurd h

pub any_alike : {S T : Type 0} (R : S → T → Type 0) (P : Moment S → Type 0) (Q : Moment T → Type 0) (ms : List (Moment S)) (ns : List (Moment T)) → ((m : Moment S) (n : Moment T) → m.mover ≡ n.mover → R m.state n.state → P m → Q n) → MomentsAlike R ms ns → AnyOf P ms → AnyOf Q ns
any_alike R P Q [] [] f h a = a
any_alike R P Q (m ∷ ms) (n ∷ ns) f h (inl p) = inl (f m n h.0 h.1 p)
any_alike R P Q (m ∷ ms) (n ∷ ns) f h (inr a) = inr (any_alike R P Q ms ns f h.2 a)
any_alike R P Q _ _ f h a = absurd h

module _ {S T : Type 0} (a : System S) (b : System T) (steps : ℕ) (R : S → T → Type 0) (V : S → T → ℕ → Type 0) (h : ChoicesAlike a b steps R V) where
  pub after_there : (word : List ℕ) (x last : Node S) (y : Node T) → NodesAlike R x y → node_after a steps x word ≡ Some last → (end : Node T) × (node_after b steps y word ≡ Some end) × NodesAlike R last end
  after_there [] x last y n e = (y, refl, subst (λ z. NodesAlike R z y) (some_same x last e) n)
  after_there (p ∷ word) (Halted k s) last y n e = absurd (cc)
  after_there (p ∷ word) (Choosing s) last (Halted k t) n e = absurd n
  after_there (p ∷ word) (Choosing s) last (Choosing t) n e = by (may a s p) (may b t p) refl (h.same s t p n) (λ m d. after_there word (chosen a steps s p) last (chosen b steps t p) (h.goes s t p n m) d) e
    where
      by : (c d : Bool) → may a s p ≡ c → c ≡ d → (may a s p ≡ true → node_after a steps (chosen a steps s p) word ≡ Some last → (end : Node T) × (node_after b steps (chosen b steps t p) word ≡ Some end) × NodesAlike R last end) → (if c then node_after a steps (chosen a steps s p) word else None) ≡ Some last →
          (end : Node T) × ((if d then node_after b steps (chosen b steps t p) word else None) ≡ Some end) × NodesAlike R last end
      by true true m i on e = on m e
      by false false m i on e = absurd (cc)
      by true false m i on e = absurd (cc)
      by false true m i on e = absurd (cc)

  ends_there : (word : List ℕ) (kind : OutcomeKind) → EndsAfter a steps word kind → EndsAfter b steps word kind
  ends_there word kind e =
      let l = after_there word (opened a steps) (Halted kind e.0) (opened b steps) h.begins e.1 in
      let k = halted_alike R kind e.0 l.0 l.2 in
      (k.0, l.1 ∙ ap Some k.1)

  possible_there : (kind : OutcomeKind) → IsPossible a steps kind → IsPossible b steps kind
  possible_there kind i = let e = ends_there i.word kind (i.state, i.leads) in record { word = i.word; state = e.0; leads = e.1 }

pub ends_the_same : {S T : Type 0} (a : System S) (b : System T) (steps : ℕ) (R : S → T → Type 0) (V : S → T → ℕ → Type 0) → ChoicesAlike a b steps R V → EndsTheSame a b steps
ends_the_same a b steps R V h =
    let back = turned a b steps R V h in
    record {
      after_there = ends_there a b steps R V h;
      after_back = ends_there b a steps (λ t s. R s t) (λ t s p. V s t p) back;
      there = possible_there a b steps R V h;
      back = possible_there b a steps (λ t s. R s t) (λ t s p. V s t p) back;
    }
