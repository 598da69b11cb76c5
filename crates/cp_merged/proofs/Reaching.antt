-- Where words lead to, and the rows that they make.
use Rattle.std.proofs.Common.{◌≡◌, ◌⊎◌, inl, inr, ⊎_elim, ◌<◌, ◌≤◌, ℕ, zero, suc, Bool, true, false, ◌&&◌, nat_lt, if◌then◌else◌, List, [], ◌∷◌, ◌++◌, length, map, None, Some, refl, sym, ap, subst, ◌∙◌, arith}
use Rattle.cp_merged.proofs.Words.{Contains, OutcomeKind, ChoiceLimit, System, Line, table, behind, walk, table_walk, node_after, IsEndWithin}
use Rattle.std.proofs.lemmas.Bool.{ltb-true, cases_order}
use Rattle.cp_run.specs.Run.{joined_below, Node, Halted, Choosing, may, chosen, opened}
use Rattle.cp_merged.proofs.Anywhere.{Has, has_left, has_right, has_either, has_map, from_map, has_from_contains, contains_from_has}

some_same : {A : Type 0} (x y : A) → Some x ≡ Some y → x ≡ y
some_same x y e = cc

both_first : (a b : Bool) → (a && b) ≡ true → a ≡ true
both_first true b h = refl
both_first false b h = h

-- who may be chosen is one of the processes
pub may_below : {S : Type 0} (sys : System S) (s : S) (p : ℕ) → may sys s p ≡ true → p < sys.processes
unfolding may
may_below sys s p h = ltb-true p sys.processes (both_first (nat_lt p sys.processes) (if sys.is_pending s then sys.in_line s p else sys.is_ready s p) h)

-- a word's last number
pub snoc : (q : ℕ) (w : List ℕ) → (v : List ℕ) × (p : ℕ) × (q ∷ w ≡ v ++ p ∷ [])
snoc q [] = ([], q, refl)
snoc q (r ∷ w) = let s = snoc r w in (q ∷ s.0, s.1, ap (λ l. q ∷ l) s.2)

module _ {S : Type 0} (sys : System S) (steps : ℕ) where
  -- one number further
  pub step_on : (node : Node S) (w : List ℕ) (s : S) (p : ℕ) → node_after sys steps node w ≡ Some (Choosing s) → may sys s p ≡ true → node_after sys steps node (w ++ p ∷ []) ≡ Some (chosen sys steps s p)
  step_on (Halted kind t) [] s p e m = absurd (cc)
  step_on (Choosing t) [] s p e m =
      let same : t ≡ s = cc in
      ap (λ x. if may sys x p then Some (chosen sys steps x p) else None) same ∙ ap (λ b. if b then Some (chosen sys steps s p) else None) m
  step_on (Halted kind t) (q ∷ w) s p e m = absurd (cc)
  step_on (Choosing t) (q ∷ w) s p e m = by (may sys t q) e (step_on (chosen sys steps t q) w s p)
    where
      by : (b : Bool) → (if b then node_after sys steps (chosen sys steps t q) w else None) ≡ Some (Choosing s) → (node_after sys steps (chosen sys steps t q) w ≡ Some (Choosing s) → may sys s p ≡ true → node_after sys steps (chosen sys steps t q) (w ++ p ∷ []) ≡ Some (chosen sys steps s p)) → (if b then node_after sys steps (chosen sys steps t q) (w ++ p ∷ []) else None) ≡ Some (chosen sys steps s p)
      by true e on = on e m
      by false e on = absurd (cc)

  -- the choice before it
  pub step_back : (node : Node S) (w : List ℕ) (p : ℕ) (last : Node S) → node_after sys steps node (w ++ p ∷ []) ≡ Some last → (s : S) × (node_after sys steps node w ≡ Some (Choosing s)) × (may sys s p ≡ true) × (chosen sys steps s p ≡ last)
  step_back (Halted kind t) [] p last e = absurd (cc)
  step_back (Choosing t) [] p last e = by (may sys t p) refl e
    where
      by : (b : Bool) → may sys t p ≡ b → (if b then Some (chosen sys steps t p) else None) ≡ Some last → (s : S) × (node_after sys steps (Choosing t) [] ≡ Some (Choosing s)) × (may sys s p ≡ true) × (chosen sys steps s p ≡ last)
      by true m e = (t, refl, m, some_same (chosen sys steps t p) last e)
      by false m e = absurd (cc)
  step_back (Halted kind t) (q ∷ w) p last e = absurd (cc)
  step_back (Choosing t) (q ∷ w) p last e = by (may sys t q) e (step_back (chosen sys steps t q) w p last)
    where
      by : (b : Bool) → (if b then node_after sys steps (chosen sys steps t q) (w ++ p ∷ []) else None) ≡ Some last → (node_after sys steps (chosen sys steps t q) (w ++ p ∷ []) ≡ Some last → (s : S) × (node_after sys steps (chosen sys steps t q) w ≡ Some (Choosing s)) × (may sys s p ≡ true) × (chosen sys steps s p ≡ last)) → (s : S) × ((if b then node_after sys steps (chosen sys steps t q) w else None) ≡ Some (Choosing s)) × (may sys s p ≡ true) × (chosen sys steps s p ≡ last)
      by true e on = on e
      by false e on = absurd (cc)

  -- ---- and the rows of a walk

  has_joined : (l : Line) (n p : ℕ) (f : ℕ → List Line) → p < n → Has l (f p) → Has l (joined_below n f)
  has_joined l zero p f lt h = absurd (omega (arith, lt))
  has_joined l (suc n) p f lt h =
      ⊎_elim
      (λ (e : p ≡ n). has_right l (joined_below n f) (f n) (subst (λ q. Has l (f q)) e h))
      (λ (apart : (p < n) ⊎ (n < p)).
      ⊎_elim
      (λ (less : p < n). has_left l (joined_below n f) (f n) (has_joined l n p f less h))
      (λ (more : n < p). absurd (omega (arith, lt, more)))
      apart)
      (cases_order p n)

  from_joined : (l : Line) (n : ℕ) (f : ℕ → List Line) → Has l (joined_below n f) → (p : ℕ) × Has l (f p)
  from_joined l zero f h = absurd h
  from_joined l (suc n) f h = ⊎_elim (λ (a : Has l (joined_below n f)). from_joined l n f a) (λ (b : Has l (f n)). (n, b)) (has_either l (joined_below n f) (f n) h)

  abbrev pub line_at : List ℕ → OutcomeKind → S → Line
  line_at w kind s = record { word = w; outcome = record { kind = kind; output = sys.output s } }

  -- where a word leads to an end, its row is in the walk
  pub row_of_end : (k : ℕ) (w : List ℕ) (node : Node S) (kind : OutcomeKind) (s : S) → length w ≤ k → node_after sys steps node w ≡ Some (Halted kind s) → Has (line_at w kind s) (walk sys steps k node)
  unfolding walk
  row_of_end zero [] (Halted kind2 t) kind s l e = inl (ap end_line (some_same (Halted kind2 t) (Halted kind s) e))
    where
      end_line : Node S → Line
      end_line (Halted k t) = line_at [] k t
      end_line (Choosing t) = line_at [] ChoiceLimit t
  row_of_end (suc k) [] (Halted kind2 t) kind s l e = inl (ap end_line (some_same (Halted kind2 t) (Halted kind s) e))
    where
      end_line : Node S → Line
      end_line (Halted k t) = line_at [] k t
      end_line (Choosing t) = line_at [] ChoiceLimit t
  row_of_end k [] (Choosing t) kind s l e = absurd (cc)
  row_of_end k (p ∷ w) (Halted kind2 t) kind s l e = absurd (cc)
  row_of_end zero (p ∷ w) (Choosing t) kind s l e = absurd (omega (arith, l))
  row_of_end (suc k) (p ∷ w) (Choosing t) kind s l e = by (row_of_end k w (chosen sys steps t p) kind s (omega (arith, l))) (may sys t p) refl e
    where
      f : ℕ → List Line
      f q = if may sys t q then map (behind (q ∷ [])) (walk sys steps k (chosen sys steps t q)) else []

      by : (node_after sys steps (chosen sys steps t p) w ≡ Some (Halted kind s) → Has (line_at w kind s) (walk sys steps k (chosen sys steps t p))) → (b : Bool) → may sys t p ≡ b → (if b then node_after sys steps (chosen sys steps t p) w else None) ≡ Some (Halted kind s) → Has (line_at (p ∷ w) kind s) (joined_below sys.processes f)
      by on true m e = has_joined (line_at (p ∷ w) kind s) sys.processes p f (may_below sys t p m) (subst (λ b. Has (line_at (p ∷ w) kind s) (if b then map (behind (p ∷ [])) (walk sys steps k (chosen sys steps t p)) else [])) (sym m) (has_map (behind (p ∷ [])) (line_at w kind s) (walk sys steps k (chosen sys steps t p)) (on e)))
      by on false m e = absurd (cc)

  -- an end that a word leads to
  abbrev pub IsEnd : Node S → Line → Type 0
  IsEnd node l = (kind : OutcomeKind) × (s : S) × (node_after sys steps node l.word ≡ Some (Halted kind s)) × (l.outcome ≡ record { kind = kind; output = sys.output s })

  -- a row of a walk, of fewer numbers than there are choices, is of a word that leads to an end
  pub end_of_row : (k : ℕ) (node : Node S) (l : Line) → Has l (walk sys steps k node) → length l.word < k → IsEnd node l
  unfolding walk
  end_of_row zero node l h lt = absurd (omega (arith, lt))
  end_of_row (suc k) (Halted kind s) l (inl e) lt = subst (IsEnd (Halted kind s)) e (kind, s, refl, refl)
  end_of_row (suc k) (Halted kind s) l (inr i) lt = absurd i
  end_of_row (suc k) (Choosing s) l h lt =
      let j = from_joined l sys.processes f h in
      by (λ p m. end_of_row k (chosen sys steps s p) m) j.0 (may sys s j.0) refl j.1
    where
      f : ℕ → List Line
      f q = if may sys s q then map (behind (q ∷ [])) (walk sys steps k (chosen sys steps s q)) else []

      further : (p : ℕ) (m : Line) → may sys s p ≡ true → IsEnd (chosen sys steps s p) m → IsEnd (Choosing s) (behind (p ∷ []) m)
      further p m y e = (e.0, e.1, ap (λ b. if b then node_after sys steps (chosen sys steps s p) m.word else None) y ∙ e.2, e.3)

      by : ((p : ℕ) (m : Line) → Has m (walk sys steps k (chosen sys steps s p)) → length m.word < k → IsEnd (chosen sys steps s p) m) → (p : ℕ) (b : Bool) → may sys s p ≡ b → Has l (if b then map (behind (p ∷ [])) (walk sys steps k (chosen sys steps s p)) else []) → IsEnd (Choosing s) l
      by on p true y i =
          let m = from_map (behind (p ∷ [])) l (walk sys steps k (chosen sys steps s p)) i in
          let size = ap (λ (x : Line). length x.word) m.1 in
          subst (IsEnd (Choosing s)) m.1 (further p m.0 y (on p m.0 m.2 (omega (arith, lt, size))))
      by on p false y i = absurd i

  -- no row has more numbers than there are choices
  row_short : (k : ℕ) (node : Node S) (l : Line) → Has l (walk sys steps k node) → length l.word ≤ k
  unfolding walk
  row_short zero (Halted kind s) l (inl e) = subst (λ (x : Line). length x.word ≤ zero) e (omega arith)
  row_short zero (Halted kind s) l (inr i) = absurd i
  row_short zero (Choosing s) l (inl e) = subst (λ (x : Line). length x.word ≤ zero) e (omega arith)
  row_short zero (Choosing s) l (inr i) = absurd i
  row_short (suc k) (Halted kind s) l (inl e) = subst (λ (x : Line). length x.word ≤ suc k) e (omega arith)
  row_short (suc k) (Halted kind s) l (inr i) = absurd i
  row_short (suc k) (Choosing s) l h = let j = from_joined l sys.processes f h in by (λ p m. row_short k (chosen sys steps s p) m) j.0 (may sys s j.0) j.1
    where
      f : ℕ → List Line
      f q = if may sys s q then map (behind (q ∷ [])) (walk sys steps k (chosen sys steps s q)) else []

      by : ((p : ℕ) (m : Line) → Has m (walk sys steps k (chosen sys steps s p)) → length m.word ≤ k) → (p : ℕ) (b : Bool) → Has l (if b then map (behind (p ∷ [])) (walk sys steps k (chosen sys steps s p)) else []) → length l.word ≤ suc k
      by on p true i =
          let m = from_map (behind (p ∷ [])) l (walk sys steps k (chosen sys steps s p)) i in
          let size = ap (λ (x : Line). length x.word) m.1 in
          let short = on p m.0 m.2 in
          omega (arith, size, short)
      by on p false i = absurd i

  pub short_row : (choices : ℕ) (l : Line) → Has l (table sys choices steps) → length l.word ≤ choices
  short_row choices l h = row_short choices (opened sys steps) l (subst (λ ls. Has l ls) (table_walk sys choices steps) h)

  -- the same of a table
  pub end_in_table : (choices d : ℕ) (w : List ℕ) (kind : OutcomeKind) (s : S) → d ≤ choices → length w ≤ d → node_after sys steps (opened sys steps) w ≡ Some (Halted kind s) → IsEndWithin sys choices steps d (record { kind = kind; output = sys.output s })
  end_in_table choices d w kind s le l e =
      (line_at w kind s, subst (λ ls. Contains ls (line_at w kind s)) (sym (table_walk sys choices steps)) (contains_from_has (walk sys steps choices (opened sys steps)) (line_at w kind s) (row_of_end choices w (opened sys steps) kind s (omega (arith, le, l)) e)), l, refl)

  pub table_end : (choices : ℕ) (l : Line) → Contains (table sys choices steps) l → length l.word < choices → IsEnd (opened sys steps) l
  table_end choices l h lt = end_of_row choices (opened sys steps) l (has_from_contains (walk sys steps choices (opened sys steps)) l (subst (λ ls. Contains ls l) (table_walk sys choices steps) h)) lt
