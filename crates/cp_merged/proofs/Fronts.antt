-- What a front has: the states and ends that words lead to, each once.
use Rattle.std.proofs.Common.{◌≡◌, ◌⊎◌, inl, inr, ⊎_elim, ◌+◌, ◌<◌, ◌≤◌, ℕ, zero, suc, Bool, true, false, if◌then◌else◌, List, [], ◌∷◌, ◌++◌, length, Some, refl, sym, ap, subst, ◌∙◌, arith}
use Rattle.std.specs.List.{AllByRecursion as Each}
use Rattle.cp_merged.proofs.Words.{length-append, Outcome, OutcomeKind, System, Node, Halted, Choosing, may, chosen, opened, Tally, Sameness, IsExact, node_after}
use Rattle.std.proofs.lemmas.Bool.{cases_order}
use Rattle.cp_merged.specs.Layers.{up_to, Lead, IsSound, merged_lead, with_lead, merged_tally, with_tally, Front, arrived, after_choice, after_choices, after_layer, front_at}
use Rattle.cp_merged.proofs.Anywhere.{AnyOf}
use Rattle.cp_merged.proofs.Reaching.{may_below, snoc, step_on, step_back, IsEnd}
use Rattle.cp_merged.proofs.Unique.{each_to}

module _ {S : Type 0} (sys : System S) (same : Sameness) (exact : IsExact same) (eq : S → S → Bool) (sound : IsSound eq) (steps : ℕ) where
  -- ---- a front has what has arrived

  abbrev pub StateIn : S → List (Lead S) → Type 0
  StateIn s xs = AnyOf (λ y. y.state ≡ s) xs

  abbrev pub EndIn : Outcome → List Tally → Type 0
  EndIn o ts = AnyOf (λ t. t.first.outcome ≡ o) ts

  abbrev pub NodeIn : Node S → Front S → Type 0
  NodeIn (Halted kind s) f = EndIn (record { kind = kind; output = sys.output s }) f.ended
  NodeIn (Choosing s) f = StateIn s f.layer

  state_new : (xs : List (Lead S)) (x : Lead S) → StateIn x.state (with_lead eq xs x)
  state_new [] x = inl refl
  state_new (y ∷ ys) x = by (eq y.state x.state) refl (state_new ys x)
    where
      by : (b : Bool) → eq y.state x.state ≡ b → StateIn x.state (with_lead eq ys x) → StateIn x.state (if b then merged_lead y x ∷ ys else y ∷ with_lead eq ys x)
      by true e on = inl (sound y.state x.state e)
      by false e on = inr on

  state_stays : (xs : List (Lead S)) (x : Lead S) (s : S) → StateIn s xs → StateIn s (with_lead eq xs x)
  state_stays [] x s h = absurd h
  state_stays (y ∷ ys) x s h = by (eq y.state x.state) h (state_stays ys x s)
    where
      by : (b : Bool) → StateIn s (y ∷ ys) → (StateIn s ys → StateIn s (with_lead eq ys x)) → StateIn s (if b then merged_lead y x ∷ ys else y ∷ with_lead eq ys x)
      by true h on = h
      by false (inl e) on = inl e
      by false (inr i) on = inr (on i)

  end_new : (ts : List Tally) (t : Tally) → EndIn t.first.outcome (with_tally same ts t)
  end_new [] t = inl refl
  end_new (u ∷ us) t = by (same u.first.outcome t.first.outcome) refl (end_new us t)
    where
      by : (b : Bool) → same u.first.outcome t.first.outcome ≡ b → EndIn t.first.outcome (with_tally same us t) → EndIn t.first.outcome (if b then merged_tally u t ∷ us else u ∷ with_tally same us t)
      by true e on = inl (exact.exact u.first.outcome t.first.outcome e)
      by false e on = inr on

  end_stays : (ts : List Tally) (t : Tally) (o : Outcome) → EndIn o ts → EndIn o (with_tally same ts t)
  end_stays [] t o h = absurd h
  end_stays (u ∷ us) t o h = by (same u.first.outcome t.first.outcome) h (end_stays us t o)
    where
      by : (b : Bool) → EndIn o (u ∷ us) → (EndIn o us → EndIn o (with_tally same us t)) → EndIn o (if b then merged_tally u t ∷ us else u ∷ with_tally same us t)
      by true h on = h
      by false (inl e) on = inl e
      by false (inr i) on = inr (on i)

  node_new : (w : List ℕ) (n : ℕ) (node : Node S) (f : Front S) → NodeIn node (arrived sys same eq w n node f)
  node_new w n (Halted kind s) f = end_new f.ended (record { first = record { word = w; outcome = record { kind = kind; output = sys.output s } }; count = n })
  node_new w n (Choosing s) f = state_new f.layer (record { state = s; first = w; count = n })

  node_stays : (w : List ℕ) (n : ℕ) (node : Node S) (f : Front S) (m : Node S) → NodeIn m f → NodeIn m (arrived sys same eq w n node f)
  node_stays w n (Halted kind s) f (Halted kind2 t) h = end_stays f.ended (record { first = record { word = w; outcome = record { kind = kind; output = sys.output s } }; count = n }) (record { kind = kind2; output = sys.output t }) h
  node_stays w n (Halted kind s) f (Choosing t) h = h
  node_stays w n (Choosing s) f (Halted kind2 t) h = h
  node_stays w n (Choosing s) f (Choosing t) h = state_stays f.layer (record { state = s; first = w; count = n }) t h

  choice_new : (x : Lead S) (p : ℕ) (f : Front S) → may sys x.state p ≡ true → NodeIn (chosen sys steps x.state p) (after_choice sys same eq steps x p f)
  choice_new x p f m =
      subst (λ b. NodeIn (chosen sys steps x.state p) (if b then arrived sys same eq (x.first ++ p ∷ []) x.count (chosen sys steps x.state p) f else f)) (sym m) (node_new (x.first ++ p ∷ []) x.count (chosen sys steps x.state p) f)

  choice_stays : (x : Lead S) (p : ℕ) (f : Front S) (m : Node S) → NodeIn m f → NodeIn m (after_choice sys same eq steps x p f)
  choice_stays x p f m h = by (may sys x.state p)
    where
      by : (b : Bool) → NodeIn m (if b then arrived sys same eq (x.first ++ p ∷ []) x.count (chosen sys steps x.state p) f else f)
      by true = node_stays (x.first ++ p ∷ []) x.count (chosen sys steps x.state p) f m h
      by false = h

  choices_stay : (x : Lead S) (n : ℕ) (f : Front S) (m : Node S) → NodeIn m f → NodeIn m (after_choices sys same eq steps x n f)
  choices_stay x zero f m h = h
  choices_stay x (suc n) f m h = choice_stays x n (after_choices sys same eq steps x n f) m (choices_stay x n f m h)

  choices_new : (x : Lead S) (n : ℕ) (f : Front S) (p : ℕ) → p < n → may sys x.state p ≡ true → NodeIn (chosen sys steps x.state p) (after_choices sys same eq steps x n f)
  choices_new x zero f p l m = absurd (omega (arith, l))
  choices_new x (suc n) f p l m =
      let g = after_choices sys same eq steps x n f in
      ⊎_elim
      (λ (e : p ≡ n). subst (λ q. NodeIn (chosen sys steps x.state p) (after_choice sys same eq steps x q g)) e (choice_new x p g m))
      (λ (apart : (p < n) ⊎ (n < p)).
      ⊎_elim
      (λ (less : p < n). choice_stays x n g (chosen sys steps x.state p) (choices_new x n f p less m))
      (λ (more : n < p). absurd (omega (arith, l, more)))
      apart)
      (cases_order p n)

  pub layer_stays : (xs : List (Lead S)) (f : Front S) (m : Node S) → NodeIn m f → NodeIn m (after_layer sys same eq steps xs f)
  layer_stays [] f m h = h
  layer_stays (x ∷ xs) f m h = layer_stays xs (after_choices sys same eq steps x sys.processes f) m (choices_stay x sys.processes f m h)

  layer_new : (xs : List (Lead S)) (f : Front S) (s : S) (p : ℕ) → StateIn s xs → may sys s p ≡ true → NodeIn (chosen sys steps s p) (after_layer sys same eq steps xs f)
  layer_new [] f s p h m = absurd h
  layer_new (x ∷ xs) f s p (inl e) m =
      let g = after_choices sys same eq steps x sys.processes f in
      let n = ap (λ t. may sys t p) e ∙ m in
      layer_stays xs g (chosen sys steps s p) (subst (λ t. NodeIn (chosen sys steps t p) g) e (choices_new x sys.processes f p (may_below sys x.state p n) n))
  layer_new (x ∷ xs) f s p (inr i) m = layer_new xs (after_choices sys same eq steps x sys.processes f) s p i m

  -- where a word of d numbers leads to is in the front after d choices
  pub has_reached : (d : ℕ) (w : List ℕ) (node : Node S) → length w ≡ d → node_after sys steps (opened sys steps) w ≡ Some node → NodeIn node (front_at sys same eq steps d)
  unfolding front_at
  has_reached zero [] node l e = subst (λ n. NodeIn n (arrived sys same eq [] 1 (opened sys steps) (record { ended = []; layer = [] }))) (first e) (node_new [] 1 (opened sys steps) (record { ended = []; layer = [] }))
    where
      first : Some (opened sys steps) ≡ Some node → opened sys steps ≡ node
      first e = cc
  has_reached zero (q ∷ w) node l e = absurd (omega (arith, l))
  has_reached (suc d) [] node l e = absurd (omega (arith, l))
  has_reached (suc d) (q ∷ w) node l e =
      let f = front_at sys same eq steps d in
      let v = snoc q w in
      let back = step_back sys steps (opened sys steps) v.0 v.1 node (subst (λ u. node_after sys steps (opened sys steps) u ≡ Some node) v.2 e) in
      let longer = length-append v.0 (v.1 ∷ []) in
      let size = ap length v.2 in
      let short : length v.0 ≡ d = omega (arith, l, longer, size) in
      subst (λ n. NodeIn n (after_layer sys same eq steps f.layer (record { ended = f.ended; layer = [] }))) back.3 (layer_new f.layer (record { ended = f.ended; layer = [] }) back.0 v.1 (has_reached d v.0 (Choosing back.0) short back.1) back.2)

  -- an end that a word of at most d numbers leads to is in the front after d choices
  pub has_ended : (d : ℕ) (w : List ℕ) (kind : OutcomeKind) (s : S) → length w ≤ d → node_after sys steps (opened sys steps) w ≡ Some (Halted kind s) → EndIn (record { kind = kind; output = sys.output s }) (front_at sys same eq steps d).ended
  unfolding front_at
  has_ended zero w kind s l e = has_reached zero w (Halted kind s) (omega (arith, l)) e
  has_ended (suc d) w kind s l e =
      let f = front_at sys same eq steps d in
      ⊎_elim
      (λ (q : length w ≡ suc d). has_reached (suc d) w (Halted kind s) q e)
      (λ (apart : (length w < suc d) ⊎ (suc d < length w)).
      ⊎_elim
      (λ (less : length w < suc d). layer_stays f.layer (record { ended = f.ended; layer = [] }) (Halted kind s) (has_ended d w kind s (omega (arith, less)) e))
      (λ (more : suc d < length w). absurd (omega (arith, l, more)))
      apart)
      (cases_order (length w) (suc d))

  -- ---- and nothing else

  abbrev pub IsLead : ℕ → Lead S → Type 0
  IsLead d x = (length x.first ≡ d) × (node_after sys steps (opened sys steps) x.first ≡ Some (Choosing x.state))

  abbrev pub IsEndBy : ℕ → Tally → Type 0
  IsEndBy d t = (length t.first.word ≤ d) × IsEnd sys steps (opened sys steps) t.first

  abbrev pub IsFrontOf : ℕ → Front S → Type 0
  IsFrontOf d f = Each (IsEndBy d) f.ended × Each (IsLead d) f.layer

  leads_with : (d : ℕ) (xs : List (Lead S)) (x : Lead S) → Each (IsLead d) xs → IsLead d x → Each (IsLead d) (with_lead eq xs x)
  leads_with d [] x h k = (k, tt)
  leads_with d (y ∷ ys) x h k = by (eq y.state x.state) refl (leads_with d ys x h.1 k)
    where
      lead : (c : Bool) → eq y.state x.state ≡ true → IsLead d (record { state = y.state; first = if c then y.first else x.first; count = y.count + x.count })
      lead true e = h.0
      lead false e = (k.0, k.1 ∙ ap (λ s. Some (Choosing s)) (sym (sound y.state x.state e)))

      by : (b : Bool) → eq y.state x.state ≡ b → Each (IsLead d) (with_lead eq ys x) → Each (IsLead d) (if b then merged_lead y x ∷ ys else y ∷ with_lead eq ys x)
      by true e on = (lead (up_to y.first x.first) e, h.1)
      by false e on = (h.0, on)

  ends_with : (d : ℕ) (ts : List Tally) (t : Tally) → Each (IsEndBy d) ts → IsEndBy d t → Each (IsEndBy d) (with_tally same ts t)
  ends_with d [] t h k = (k, tt)
  ends_with d (u ∷ us) t h k = by (same u.first.outcome t.first.outcome) refl (ends_with d us t h.1 k)
    where
      tally : (c : Bool) → same u.first.outcome t.first.outcome ≡ true → IsEndBy d (record { first = record { word = if c then u.first.word else t.first.word; outcome = u.first.outcome }; count = u.count + t.count })
      tally true e = h.0
      tally false e = (k.0, (k.1.0, k.1.1, k.1.2, exact.exact u.first.outcome t.first.outcome e ∙ k.1.3))

      by : (b : Bool) → same u.first.outcome t.first.outcome ≡ b → Each (IsEndBy d) (with_tally same us t) → Each (IsEndBy d) (if b then merged_tally u t ∷ us else u ∷ with_tally same us t)
      by true e on = (tally (up_to u.first.word t.first.word) e, h.1)
      by false e on = (h.0, on)

  front_arrived : (d : ℕ) (w : List ℕ) (n : ℕ) (node : Node S) (f : Front S) → IsFrontOf d f → length w ≡ d → node_after sys steps (opened sys steps) w ≡ Some node → IsFrontOf d (arrived sys same eq w n node f)
  front_arrived d w n (Halted kind s) f h l e = (ends_with d f.ended (record { first = record { word = w; outcome = record { kind = kind; output = sys.output s } }; count = n }) h.0 (omega (arith, l), (kind, s, e, refl)), h.1)
  front_arrived d w n (Choosing s) f h l e = (h.0, leads_with d f.layer (record { state = s; first = w; count = n }) h.1 (l, e))

  pub front_choices : (d : ℕ) (x : Lead S) (n : ℕ) (f : Front S) → IsLead d x → IsFrontOf (suc d) f → IsFrontOf (suc d) (after_choices sys same eq steps x n f)
  front_choices d x zero f k h = h
  front_choices d x (suc n) f k h = by (may sys x.state n) refl (front_choices d x n f k h)
    where
      g : Front S
      g = after_choices sys same eq steps x n f

      by : (b : Bool) → may sys x.state n ≡ b → IsFrontOf (suc d) g → IsFrontOf (suc d) (if b then arrived sys same eq (x.first ++ n ∷ []) x.count (chosen sys steps x.state n) g else g)
      by true m i = front_arrived (suc d) (x.first ++ n ∷ []) x.count (chosen sys steps x.state n) g i (let a = length-append x.first (n ∷ []) in let q = k.0 in omega (arith, a, q)) (step_on sys steps (opened sys steps) x.first x.state n k.1 m)
      by false m i = i

  pub front_layer : (d : ℕ) (xs : List (Lead S)) (f : Front S) → Each (IsLead d) xs → IsFrontOf (suc d) f → IsFrontOf (suc d) (after_layer sys same eq steps xs f)
  front_layer d [] f k h = h
  front_layer d (x ∷ xs) f k h = front_layer d xs (after_choices sys same eq steps x sys.processes f) k.1 (front_choices d x sys.processes f k.0 h)

  pub ends_later : (d : ℕ) (ts : List Tally) → Each (IsEndBy d) ts → Each (IsEndBy (suc d)) ts
  ends_later d ts h = each_to (IsEndBy d) (IsEndBy (suc d)) ts (λ t e. (let l = e.0 in omega (arith, l), e.1)) h

  pub is_front : (d : ℕ) → IsFrontOf d (front_at sys same eq steps d)
  unfolding front_at
  is_front zero = front_arrived zero [] 1 (opened sys steps) (record { ended = []; layer = [] }) (tt, tt) refl refl
  is_front (suc d) = let f = front_at sys same eq steps d in front_layer d f.layer (record { ended = f.ended; layer = [] }) (is_front d).1 (ends_later d f.ended (is_front d).0, tt)

  -- ---- no state twice

  abbrev pub OneEach : List (Lead S) → Type 0
  OneEach [] = Unit {0}
  OneEach (x ∷ xs) = Each (λ y. eq x.state y.state ≡ false) xs × OneEach xs

  others_with : (s : S) (xs : List (Lead S)) (x : Lead S) → Each (λ y. eq s y.state ≡ false) xs → eq s x.state ≡ false → Each (λ y. eq s y.state ≡ false) (with_lead eq xs x)
  others_with s [] x h e = (e, tt)
  others_with s (y ∷ ys) x h e = by (eq y.state x.state) (others_with s ys x h.1 e)
    where
      by : (b : Bool) → Each (λ z. eq s z.state ≡ false) (with_lead eq ys x) → Each (λ z. eq s z.state ≡ false) (if b then merged_lead y x ∷ ys else y ∷ with_lead eq ys x)
      by true on = h
      by false on = (h.0, on)

  once_with : (xs : List (Lead S)) (x : Lead S) → OneEach xs → OneEach (with_lead eq xs x)
  once_with [] x h = (tt, tt)
  once_with (y ∷ ys) x h = by (eq y.state x.state) refl (once_with ys x h.1)
    where
      by : (b : Bool) → eq y.state x.state ≡ b → OneEach (with_lead eq ys x) → OneEach (if b then merged_lead y x ∷ ys else y ∷ with_lead eq ys x)
      by true e on = h
      by false e on = (others_with y.state ys x h.0 e, on)

  once_arrived : (w : List ℕ) (n : ℕ) (node : Node S) (f : Front S) → OneEach f.layer → OneEach (arrived sys same eq w n node f).layer
  once_arrived w n (Halted kind s) f h = h
  once_arrived w n (Choosing s) f h = once_with f.layer (record { state = s; first = w; count = n }) h

  pub once_choices : (x : Lead S) (n : ℕ) (f : Front S) → OneEach f.layer → OneEach (after_choices sys same eq steps x n f).layer
  once_choices x zero f h = h
  once_choices x (suc n) f h = by (may sys x.state n) (once_choices x n f h)
    where
      g : Front S
      g = after_choices sys same eq steps x n f

      by : (b : Bool) → OneEach g.layer → OneEach (if b then arrived sys same eq (x.first ++ n ∷ []) x.count (chosen sys steps x.state n) g else g).layer
      by true i = once_arrived (x.first ++ n ∷ []) x.count (chosen sys steps x.state n) g i
      by false i = i

  pub once_layer : (xs : List (Lead S)) (f : Front S) → OneEach f.layer → OneEach (after_layer sys same eq steps xs f).layer
  once_layer [] f h = h
  once_layer (x ∷ xs) f h = once_layer xs (after_choices sys same eq steps x sys.processes f) (once_choices x sys.processes f h)

  pub once_at : (d : ℕ) → OneEach (front_at sys same eq steps d).layer
  unfolding front_at
  once_at zero = once_arrived [] 1 (opened sys steps) (record { ended = []; layer = [] }) tt
  once_at (suc d) = once_layer (front_at sys same eq steps d).layer (record { ended = (front_at sys same eq steps d).ended; layer = [] }) tt
