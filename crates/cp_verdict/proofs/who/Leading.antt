-- Words that lead to ends, and the rows of a table.
use Rattle.std.proofs.Common.{◌≡◌, inl, inr, ◌∙◌, ◌<◌, ◌≤◌, ℕ, zero, suc, Bool, true, false, ◌&&◌, ◌==◌, nat_lt, if◌then◌else◌, List, [], ◌∷◌, ◌++◌, length, map, Option, None, Some, refl, sym, ap, subst, arith}
use Rattle.std.proofs.lemmas.Bool.{cases_lt, eq-eqb, eqb-true, ltb-true}
use Rattle.cp_run.specs.declared.outcome.Outcome.{Outcome}
use Rattle.cp_run.specs.declared.outcome.OutcomeKind.{OutcomeKind}
use Rattle.cp_run.specs.declared.outcome.OutcomeKind.TheVariants.{AllWaiting, ChoiceLimit}
use Rattle.cp_run.specs.Run.{Answer, Ended, NotReady, Wants, Node, Halted, Choosing, chosen, joined_below, later, may, opened, run, run_from}
use Rattle.cp_run.specs.Stop.{last_state_from}
use Rattle.cp_run.specs.System.{System}
use Rattle.cp_run.specs.Table.{Line, IsAmong, Here, There, each, lines_of, table, words}
use Rattle.cp_endless_laws.specs.Reachable.{LeadsTo, node_after}

-- ---- lists

among_left : {A : Type 0} (x : A) (xs ys : List A) → IsAmong x xs → IsAmong x (xs ++ ys)
among_left x [] ys i = elim i [ ]
among_left x (_ ∷ xs) ys (Here _) = Here (xs ++ ys)
among_left x (y ∷ xs) ys (There _ _ i) = There y (xs ++ ys) (among_left x xs ys i)

among_right : {A : Type 0} (x : A) (xs ys : List A) → IsAmong x ys → IsAmong x (xs ++ ys)
among_right x [] ys i = i
among_right x (y ∷ xs) ys i = There y (xs ++ ys) (among_right x xs ys i)

among_each : {A B : Type 0} (f : A → List B) (a : A) (xs : List A) (y : B) → IsAmong a xs → IsAmong y (f a) → IsAmong y (each f xs)
among_each f a [] y i j = elim i [ ]
among_each f a (_ ∷ xs) y (Here _) j = among_left y (f a) (each f xs) j
among_each f a (x ∷ xs) y (There _ _ i) j = among_right y (f x) (each f xs) (among_each f a xs y i j)

among_map : {A B : Type 0} (f : A → B) (a : A) (xs : List A) → IsAmong a xs → IsAmong (f a) (map f xs)
among_map f a [] i = elim i [ ]
among_map f a (_ ∷ xs) (Here _) = Here (map f xs)
among_map f a (x ∷ xs) (There _ _ i) = There (f x) (map f xs) (among_map f a xs i)

among_below : {A : Type 0} (n p : ℕ) (f : ℕ → List A) (y : A) → p < n → IsAmong y (f p) → IsAmong y (joined_below n f)
among_below zero p f y less i = absurd (omega (arith, less))
among_below (suc n) p f y less i = by (p == n) refl (λ l. among_below n p f y l i)
  where
    before : (p == n) ≡ false → p < n
    before e = elim (cases_lt p n) [ inl l ↦ l | inr le ↦ absurd (let same : p ≡ n = omega (arith, le, less) in let t : (p == n) ≡ true = eq-eqb p n same in cc (e, t)) ]

    by : (b : Bool) → (p == n) ≡ b → (p < n → IsAmong y (joined_below n f)) → IsAmong y (joined_below n f ++ f n)
    by true e on = among_right y (joined_below n f) (f n) (subst (λ (q : ℕ). IsAmong y (f q)) (eqb-true p n e) i)
    by false e on = among_left y (joined_below n f) (f n) (on (before e))

-- of what is among them
of_left : {A : Type 0} (P : A → Type 0) (x : A) (xs ys : List A) → IsAmong x (xs ++ ys) → (IsAmong x xs → P x) → (IsAmong x ys → P x) → P x
of_left P x [] ys i f g = g i
of_left P x (y ∷ xs) ys (Here _) f g = f (Here xs)
of_left P x (y ∷ xs) ys (There _ _ i) f g = of_left P x xs ys i (λ j. f (There y xs j)) g

of_each : {A B : Type 0} (P : B → Type 0) (f : A → List B) (y : B) (xs : List A) → ((x : A) → IsAmong y (f x) → P y) → IsAmong y (each f xs) → P y
of_each P f y [] h i = elim i [ ]
of_each P f y (x ∷ xs) h i = of_left P y (f x) (each f xs) i (h x) (of_each P f y xs h)

-- ---- one system

module _ {S : Type 0} (sys : System S) (steps : ℕ) where
  if_true : (b : Bool) (o : Option (Node S)) (last : Node S) → (if b then o else None) ≡ Some last → (b ≡ true) × (o ≡ Some last)
  if_true true o last e = (refl, e)
  if_true false o last e = absurd (cc)

  below : (s : S) (p : ℕ) → may sys s p ≡ true → p < sys.processes
  unfolding may
  below s p h = ltb-true p sys.processes (first (nat_lt p sys.processes) (if sys.is_pending s then sys.in_line s p else sys.is_ready s p) h)
    where
      first : (a b : Bool) → (a && b) ≡ true → a ≡ true
      first true b h = refl
      first false b h = h

  -- a word that leads to an end is one of a table of so many choices
  pub is_word : (word : List ℕ) (choices : ℕ) (node last : Node S) → length word ≤ choices → node_after sys steps node word ≡ Some last → IsAmong word (words sys.processes choices)
  unfolding words
  is_word [] zero node last le e = Here []
  is_word [] (suc choices) node last le e = Here (joined_below sys.processes (λ p. map (λ w. p ∷ w) (words sys.processes choices)))
  is_word (p ∷ word) zero node last le e = absurd (omega (arith, le))
  is_word (p ∷ word) (suc choices) (Halted kind s) last le e = absurd (cc)
  is_word (p ∷ word) (suc choices) (Choosing s) last le e =
      let m = if_true (may sys s p) (node_after sys steps (chosen sys steps s p) word) last e in
      There [] (joined_below sys.processes (λ q. map (λ w. q ∷ w) (words sys.processes choices)))
      (among_below sys.processes p (λ q. map (λ w. q ∷ w) (words sys.processes choices)) (p ∷ word) (below s p m.0) (among_map (λ w. p ∷ w) word (words sys.processes choices) (is_word word choices (chosen sys steps s p) last (omega (arith, le)) m.1)))

  -- its run ends there, and uses all of it
  pub runs_to : (word : List ℕ) (choices : ℕ) (node : Node S) (kind : OutcomeKind) (s : S) → length word ≤ choices → node_after sys steps node word ≡ Some (Halted kind s) → run_from sys steps choices word node ≡ Ended (record { kind = kind; output = sys.output s }) (length word)
  unfolding run_from
  runs_to [] choices (Halted k t) kind s le e = ap (λ (n : Node S). run_from sys steps choices [] n) (same (Halted k t) (Halted kind s) e)
    where
      same : (x y : Node S) → Some x ≡ Some y → x ≡ y
      same x y e = cc
  runs_to [] choices (Choosing t) kind s le e = absurd (cc)
  runs_to (p ∷ word) choices (Halted k t) kind s le e = absurd (cc)
  runs_to (p ∷ word) zero (Choosing t) kind s le e = absurd (omega (arith, le))
  runs_to (p ∷ word) (suc choices) (Choosing t) kind s le e =
      let m = if_true (may sys t p) (node_after sys steps (chosen sys steps t p) word) (Halted kind s) e in
      ap (λ b. if b then later (run_from sys steps choices word (chosen sys steps t p)) else NotReady 0) m.0 ∙ ap later (runs_to word choices (chosen sys steps t p) kind s (omega (arith, le)) m.1)

  -- and it stops in that state
  pub stops_in : (word : List ℕ) (choices : ℕ) (node : Node S) (kind : OutcomeKind) (s : S) → length word ≤ choices → node_after sys steps node word ≡ Some (Halted kind s) → last_state_from sys steps choices word node ≡ s
  unfolding last_state_from
  stops_in [] choices (Halted k t) kind s le e = same_state k kind t s e
    where
      state_in : Option (Node S) → S
      state_in (Some (Halted k u)) = u
      state_in o = s

      same_state : (j k : OutcomeKind) (t u : S) → Some (Halted j t) ≡ Some (Halted k u) → t ≡ u
      same_state j k t u e = ap state_in e
  stops_in [] choices (Choosing t) kind s le e = absurd (cc)
  stops_in (p ∷ word) choices (Halted k t) kind s le e = absurd (cc)
  stops_in (p ∷ word) zero (Choosing t) kind s le e = absurd (omega (arith, le))
  stops_in (p ∷ word) (suc choices) (Choosing t) kind s le e =
      let m = if_true (may sys t p) (node_after sys steps (chosen sys steps t p) word) (Halted kind s) e in
      ap (λ b. if b then last_state_from sys steps choices word (chosen sys steps t p) else t) m.0 ∙ stops_in word choices (chosen sys steps t p) kind s (omega (arith, le)) m.1

  pub in_table : (choices : ℕ) (word : List ℕ) (kind : OutcomeKind) (s : S) → length word ≤ choices → LeadsTo sys steps word (Halted kind s) → IsAmong (let l : Line = record { word = word; outcome = record { kind = kind; output = sys.output s } } in l) (table sys choices steps)
  unfolding table
  in_table choices word kind s le leads =
      let l : Line = record { word = word; outcome = record { kind = kind; output = sys.output s } } in
      among_each (λ v. lines_of v (run sys choices steps v)) word (words sys.processes choices) l (is_word word choices (opened sys steps) (Halted kind s) le leads)
      (subst (λ (a : Answer). IsAmong l (lines_of word a)) (sym (runs_to word choices (opened sys steps) kind s le leads))
      (subst (λ (b : Bool). IsAmong l (if b then l ∷ [] else [])) (sym (eq-eqb (length word) (length word) refl)) (Here [])))

  -- ---- back from a row

  pub uses : (choices : ℕ) (l : Line) → IsAmong l (table sys choices steps) → run sys choices steps l.word ≡ Ended l.outcome (length l.word)
  unfolding table
  uses choices l i = of_each (λ (m : Line). run sys choices steps m.word ≡ Ended m.outcome (length m.word)) (λ v. lines_of v (run sys choices steps v)) l (words sys.processes choices) (λ v j. of_word v (run sys choices steps v) refl j) i
    where
      of_word : (v : List ℕ) (a : Answer) → run sys choices steps v ≡ a → IsAmong l (lines_of v a) → run sys choices steps l.word ≡ Ended l.outcome (length l.word)
      of_word v (Ended outcome used) e j = by (used == length v) refl j
        where
          one : (m : Line) → IsAmong l (m ∷ []) → l ≡ m
          one m (Here _) = refl
          one m (There _ _ k) = elim k [ ]

          by : (b : Bool) → (used == length v) ≡ b → IsAmong l (if b then record { word = v; outcome = outcome } ∷ [] else []) → run sys choices steps l.word ≡ Ended l.outcome (length l.word)
          by true t k = subst (λ (m : Line). run sys choices steps m.word ≡ Ended m.outcome (length m.word)) (sym (one (record { word = v; outcome = outcome }) k)) (e ∙ ap (Ended outcome) (eqb-true used (length v) t))
          by false t k = elim k [ ]
      of_word v (Wants ready) e j = elim j [ ]
      of_word v (NotReady place) e j = elim j [ ]

  -- where all wait at the end of a run that uses all of its word, the word leads to where it stops
  pub record Leads (word : List ℕ) (choices : ℕ) (node : Node S) (o : Outcome) : Type 0 where
    pub leads : node_after sys steps node word ≡ Some (Halted AllWaiting (last_state_from sys steps choices word node))
    pub output : o.output ≡ sys.output (last_state_from sys steps choices word node)
    pub short : length word ≤ choices

  outcome_in : Outcome → Answer → Outcome
  outcome_in o (Ended p used) = p
  outcome_in o a = o

  used_in : Answer → ℕ
  used_in (Ended p used) = used
  used_in a = 0

  same_outcome : (o p : Outcome) (m n : ℕ) → Ended o m ≡ Ended p n → o ≡ p
  unfolding outcome_in
  same_outcome o p m n e = ap (outcome_in p) e

  same_used : (o p : Outcome) (m n : ℕ) → Ended o m ≡ Ended p n → m ≡ n
  unfolding used_in
  same_used o p m n e = ap used_in e

  no_limit : (o : Outcome) → o.kind ≡ AllWaiting → o.kind ≡ ChoiceLimit → ⊥
  no_limit o k l = absurd (let e : AllWaiting ≡ ChoiceLimit = sym k ∙ l in cc)

  one_back : (a : Answer) (o : Outcome) (n : ℕ) → later a ≡ Ended o (suc n) → a ≡ Ended o n
  one_back (Ended p used) o n e =
      let u = same_used p o (suc used) (suc n) e in
      let used_same : used ≡ n = omega (arith, u) in
      ap (λ (x : Outcome). Ended x used) (same_outcome p o (suc used) (suc n) e) ∙ ap (Ended o) used_same
  one_back (Wants ready) o n e = absurd (cc)
  one_back (NotReady place) o n e = absurd (cc)

  leads_to : (word : List ℕ) (choices : ℕ) (node : Node S) (o : Outcome) → o.kind ≡ AllWaiting → run_from sys steps choices word node ≡ Ended o (length word) → Leads word choices node o
  unfolding run_from last_state_from
  leads_to [] choices (Halted kind s) o k e =
      let same = same_outcome (record { kind = kind; output = sys.output s }) o 0 0 e in
      let here : kind ≡ AllWaiting = ap (λ (x : Outcome). x.kind) same ∙ k in
      record { leads = ap (λ (j : OutcomeKind). Some (Halted j s)) here; output = sym (ap (λ (x : Outcome). x.output) same); short = omega arith }
  leads_to (p ∷ word) choices (Halted kind s) o k e = absurd (let u = same_used (record { kind = kind; output = sys.output s }) o 0 (length (p ∷ word)) e in omega (arith, u))
  leads_to [] zero (Choosing s) o k e = absurd (no_limit o k (sym (ap (λ (x : Outcome). x.kind) (same_outcome (record { kind = ChoiceLimit; output = sys.output s }) o 0 0 e))))
  leads_to (p ∷ word) zero (Choosing s) o k e = absurd (no_limit o k (sym (ap (λ (x : Outcome). x.kind) (same_outcome (record { kind = ChoiceLimit; output = sys.output s }) o 0 (length (p ∷ word)) e))))
  leads_to [] (suc choices) (Choosing s) o k e = absurd (cc)
  leads_to (p ∷ word) (suc choices) (Choosing s) o k e = by (may sys s p) refl e (λ m. ap (λ c. if c then last_state_from sys steps choices word (chosen sys steps s p) else s) m) (λ f. leads_to word choices (chosen sys steps s p) o k f)
    where
      by : (b : Bool) → may sys s p ≡ b → (if b then later (run_from sys steps choices word (chosen sys steps s p)) else NotReady 0) ≡ Ended o (suc (length word)) →
          (may sys s p ≡ true → last_state_from sys steps (suc choices) (p ∷ word) (Choosing s) ≡ last_state_from sys steps choices word (chosen sys steps s p)) →
          (run_from sys steps choices word (chosen sys steps s p) ≡ Ended o (length word) → Leads word choices (chosen sys steps s p) o) → Leads (p ∷ word) (suc choices) (Choosing s) o
      by true m f stop on =
          let x = on (one_back (run_from sys steps choices word (chosen sys steps s p)) o (length word) f) in
          let short = x.short in
          record {
            leads = ap (λ c. if c then node_after sys steps (chosen sys steps s p) word else None) m ∙ x.leads ∙ ap (λ (t : S). Some (Halted AllWaiting t)) (sym (stop m));
            output = x.output ∙ ap sys.output (sym (stop m));
            short = omega (arith, short);
          }
      by false m f stop on = absurd (cc)

  pub row_leads : (choices : ℕ) (l : Line) → IsAmong l (table sys choices steps) → l.outcome.kind ≡ AllWaiting → Leads l.word choices (opened sys steps) l.outcome
  row_leads choices l i k = leads_to l.word choices (opened sys steps) l.outcome k (uses choices l i)
