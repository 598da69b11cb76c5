-- What a word meets is recorded, if the edges of the places that shorter words lead to are.
use Rattle.std.proofs.Common.{◌≡◌, ◌⊎◌, inl, inr, ◌<◌, ◌≤◌, ℕ, zero, suc, true, List, [], ◌∷◌, ◌++◌, length, sym, subst, arith}
use Rattle.cp_ends.proofs.Vocabulary.{Contains, All-weaker, same_Some, Arrival, Graph, ArrivesAt, LeadsToPlace, LeadsToEnd, ShowsLast, is_up_to, Findings, Tests}
use Rattle.cp_ends.proofs.Searching.Words.{push_length, up_to_joined, up_to_length, up_to_push}
use Rattle.cp_ends.proofs.Searching.Lists.{Before, before_later}
use Rattle.cp_ends.proofs.Searching.Adding.{IsKept}
use Rattle.cp_ends.proofs.Searching.Arrivals.{arrives_last, last_cases}
use Rattle.cp_ends.proofs.Searching.Going.{IsRecorded}

kept_later : {V : Type 0} (most : ℕ) (found : List (V × List ℕ)) (a : V) (v w : List ℕ) → is_up_to v w ≡ true → IsKept most found a v → IsKept most found a w
kept_later most found a v w le (inl h) = inl (before_later found a v w le h)
kept_later {V} most found a v w le (inr h) = inr (h.0, All-weaker (λ (e : V × List ℕ). is_up_to e.1 v ≡ true) (λ (e : V × List ℕ). is_up_to e.1 w ≡ true) (λ e up. up_to_joined e.1 v w up le) found h.1)

module _ {S E V : Type 0} (g : Graph S E V) (t : Tests S E V) (f : Findings S E V) where
  recorded_later : (a : Arrival S E V) (v w : List ℕ) → is_up_to v w ≡ true → IsRecorded t f v a → IsRecorded t f w a
  recorded_later a v w le h =
      record {
        place = λ s e. before_later f.states s v w le (h.place s e);
        end = λ k e. before_later f.ends k v w le (h.end k e);
        value = λ x c. kept_later t.most f.values x v w le (h.value x c);
      }

  -- the edges of each place that was found with a word of fewer than d numbers are recorded
  abbrev pub IsClosed : ℕ → Type 0
  IsClosed d = (s : S) (word : List ℕ) (p : ℕ) → Contains f.states (s, word) → length word < d → g.may s p ≡ true → IsRecorded t f (word ++ p ∷ []) (g.on s p)

  module _ (d : ℕ) (start : IsRecorded t f [] g.start) (closed : IsClosed d) where
    edge_recorded : (v : List ℕ) (s : S) (p : ℕ) → Before f.states s v → length v < d → g.may s p ≡ true → IsRecorded t f (v ++ p ∷ []) (g.on s p)
    edge_recorded v s p b few may = recorded_later (g.on s p) (b.0 ++ p ∷ []) (v ++ p ∷ []) (up_to_push b.0 v p p b.2 (inr (omega arith))) (closed s b.0 p b.1 (omega (arith, up_to_length b.0 v b.2, few)) may)

    word_recorded : (k : ℕ) (w : List ℕ) (a : Arrival S E V) → length w < k → length w ≤ d → ArrivesAt g w a → IsRecorded t f w a
    word_recorded zero w a few within at = absurd (omega (arith, few))
    word_recorded (suc k) w a few within at = by (last_cases w) (λ v b. word_recorded k v b)
      where
        longer : (v : List ℕ) (p : ℕ) → ArrivesAt g (v ++ p ∷ []) a → length (v ++ p ∷ []) < suc k → length (v ++ p ∷ []) ≤ d → ((b : Arrival S E V) → length v < k → length v ≤ d → ArrivesAt g v b → IsRecorded t f v b) → IsRecorded t f (v ++ p ∷ []) a
        longer v p at few within on =
            let h = arrives_last g v p a at in
            let came : IsRecorded t f v h.1.0 = on h.1.0 (omega (arith, push_length v p, few)) (omega (arith, push_length v p, within)) h.1.1 in
            subst (λ c. IsRecorded t f (v ++ p ∷ []) c) (sym h.3) (edge_recorded v h.0 p (came.place h.0 h.1.2) (omega (arith, push_length v p, within)) h.2)

        by : (w ≡ []) ⊎ ((v : List ℕ) × (p : ℕ) × (w ≡ v ++ p ∷ [])) → ((v : List ℕ) (b : Arrival S E V) → length v < k → length v ≤ d → ArrivesAt g v b → IsRecorded t f v b) → IsRecorded t f w a
        by (inl e) on =
            let same : g.start ≡ a = same_Some g.start a (subst (λ v. ArrivesAt g v a) e at) in
            subst (λ v. IsRecorded t f v a) (sym e) (subst (λ c. IsRecorded t f [] c) same start)
        by (inr (v, p, e)) on = subst (λ u. IsRecorded t f u a) (sym e) (longer v p (subst (λ u. ArrivesAt g u a) e at) (subst (λ u. length u < suc k) e few) (subst (λ u. length u ≤ d) e within) (on v))

    -- each word of at most d numbers
    pub reached : (w : List ℕ) (a : Arrival S E V) → length w ≤ d → ArrivesAt g w a → IsRecorded t f w a
    reached w a within at = word_recorded (suc (length w)) w a (omega arith) within at

    pub reached_place : (s : S) (w : List ℕ) → LeadsToPlace g s w → length w ≤ d → Before f.states s w
    reached_place s w h within = (reached w h.0 within h.1).place s h.2

    pub reached_end : (e : E) (w : List ℕ) → LeadsToEnd g e w → length w ≤ d → Before f.ends e w
    reached_end e w h within = (reached w h.0 within h.1).end e h.2

    pub reached_value : (v : V) (w : List ℕ) → ShowsLast g v w → length w ≤ d → IsKept t.most f.values v w
    reached_value v w h within = (reached w h.0 within h.1).value v h.2
