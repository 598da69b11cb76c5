-- Ends by their kinds, and what a complete answer says of the states: they are settled.
use Rattle.std.proofs.Common.{◌≡◌, ◌⊎◌, inl, inr, ◌∙◌, ◌+◌, ℕ, zero, suc, Bool, true, false, if◌then◌else◌, List, [], ◌∷◌, ◌++◌, map, None, Some, refl, sym, ap, subst, arith}
use Rattle.cp_ends.proofs.Vocabulary.{Contains, OutcomeKind, StepLimit, Turn, System, Node, Halted, Choosing, may, opened, chosen, forgetting_system, node_after}
use Rattle.cp_ends.proofs.Vocabulary.{LeadsTo, EndsAfter, Repeats, repeated_part, after_append, repeating, has_call, EndsSo, AreFirsts, Over, Alone, Spins}
use Rattle.cp_endless_laws.specs.MoreSteps.{CutsAreRounds}
use Rattle.cp_endless_laws.specs.Rounds.{IsCut, IsRound, SetsOut, opening_spot, chosen_spot}
use Rattle.cp_endless_laws.specs.Settled.{IsIn, IsSettled}
use Rattle.cp_endless_laws.proofs.steps.MoreSteps.{more_steps_rounds}
use Rattle.cp_endless_laws.proofs.steps.Nodes.{cut_node}
use Rattle.cp_ends.specs.Named.{kind_of, kinds_of}
use Rattle.cp_ends.specs.declared.end.End as code
use Rattle.cp_ends.proofs.words.Edges.{last_same, not_empty, choosing_same, edge_node, EndsWith, node_edge}
use Rattle.cp_ends.proofs.words.Returns.{ComesToNode, ComesAgain, edge_comes}
use Rattle.cp_ends.proofs.words.Translated.{alone_of, spins_of, plain_end}

-- ---- elements

pub contains_map : {A B : Type 0} (f : A → B) (xs : List A) (x : A) → Contains xs x → Contains (map f xs) (f x)
contains_map f [] x c = let less = c.1 in absurd (omega (arith, less))
contains_map f (y ∷ ys) x (zero, less, at) = (zero, omega arith, ap f at)
contains_map f (y ∷ ys) x (suc k, less, at) = let rest = contains_map f ys x (k, omega (arith, less), at) in let l = rest.1 in (suc rest.0, omega (arith, l), rest.2)

pub contains_unmap : {A B : Type 0} (f : A → B) (xs : List A) (y : B) → Contains (map f xs) y → (x : A) × Contains xs x × (f x ≡ y)
contains_unmap f [] y c = let less = c.1 in absurd (omega (arith, less))
contains_unmap f (x ∷ xs) y (zero, less, at) = (x, (zero, omega arith, refl), at)
contains_unmap f (x ∷ xs) y (suc k, less, at) =
    let rest = contains_unmap f xs y (k, omega (arith, less), at) in
    let l = rest.1.1 in
    (rest.0, (suc rest.1.0, omega (arith, l), rest.1.2), rest.2)

-- ---- kinds

pub no_steps_more : (n : ℕ) → 0 + n ≡ n
no_steps_more n = omega arith

module _ {S : Type 0} (quiet : System S) (steps : ℕ) where
  pub so_over : (end : code.End) (word : List ℕ) → EndsSo quiet steps end word → EndsAfter quiet steps word (kind_of end)
  so_over (Over StepLimit) word so = so.0
  so_over (Alone q) word so = subst (λ n. EndsAfter quiet n word StepLimit) (no_steps_more steps) ((repeating quiet).alone steps word q so 0)
  so_over (Spins q) word so = subst (λ n. EndsAfter quiet n word StepLimit) (no_steps_more steps) ((repeating quiet).spins steps word q so 0)
  so_over _ word so = so

  -- an end that is not at the limit of steps is told by its kind
  pub over_kind : (kind : OutcomeKind) (word : List ℕ) → (kind ≡ StepLimit → ⊥) → EndsAfter quiet steps word kind → EndsSo quiet steps (Over kind) word
  over_kind StepLimit word other ends = absurd (other refl)
  over_kind _ word other ends = ends

module _ {S : Type 0} (sys : System S) (forget : S → S) (eq : S → S → Bool) (steps : ℕ) (same : (s t : S) → eq s t ≡ true → s ≡ t) (self : (s : S) → eq s s ≡ true) where
  abbrev quiet : System S
  quiet = forgetting_system sys forget

  abbrev HasEnd : List ℕ → OutcomeKind → Type 0
  HasEnd word kind = (end : code.End) × (kind_of end ≡ kind) × EndsSo quiet steps end word

  kind_same : (s t : S) (j k : OutcomeKind) → (◌≡◌ {A = Node S}) (Halted j s) (Halted k t) → j ≡ k
  kind_same s t j k e = cc

  -- each word that is over has one of the ends
  pub over_so : (word : List ℕ) (kind : OutcomeKind) → EndsAfter quiet steps word kind → HasEnd word kind
  over_so word kind ends = let e = node_edge quiet steps word (Halted kind ends.0) ends.1 in by e.0 e.1 e.2 (edge_comes sys forget eq steps same self e.0)
    where
      again : (e : S × Turn) → EndsWith quiet steps word e → StepLimit ≡ kind → (x : ComesAgain sys forget eq steps e) (b : Bool) → has_call quiet (repeated_part x.repeats) ≡ b → HasEnd word kind
      again e last is x true calls = (Alone x.repeats.process, is, alone_of sys forget eq steps same self word e last x calls)
      again e last is x false calls = (Spins x.repeats.process, is, spins_of sys forget eq steps same self word e last x calls)

      by : (e : S × Turn) → EndsWith quiet steps word e → Halted kind ends.0 ≡ edge_node quiet steps e → ComesToNode sys forget eq steps e ⊎ ComesAgain sys forget eq steps e → HasEnd word kind
      by e last node (inl x) = (Over kind, refl, plain_end sys forget eq steps same self word e last x (Halted kind ends.0) (sym node) (Over kind) refl)
      by e last node (inr x) = again e last (kind_same x.repeats.state ends.0 StepLimit kind (sym x.cut ∙ sym node)) x (has_call quiet (repeated_part x.repeats)) refl

  -- ---- all states and ends, each with its first word

  module _ (states : List (S × List ℕ)) (ends : List (code.End × List ℕ)) (all_states : AreFirsts (λ s word. LeadsTo quiet steps word (Choosing s)) states) (all_ends : AreFirsts (EndsSo quiet steps) ends) where
    abbrev pub those : List S
    those = map (λ (x : S × List ℕ). x.0) states

    known_state : (word : List ℕ) (s : S) → LeadsTo quiet steps word (Choosing s) → Contains those s
    known_state word s leads = let h = all_states.all s word leads in contains_map (λ (x : S × List ℕ). x.0) states (s, h.0) h.1

    pub known_end : (word : List ℕ) (kind : OutcomeKind) → EndsAfter quiet steps word kind → Contains (kinds_of ends) kind
    known_end word kind e =
        let o = over_so word kind e in
        let h = all_ends.all o.0 word o.2 in
        subst (Contains (kinds_of ends)) o.1 (contains_map (λ (x : code.End × List ℕ). kind_of x.0) ends (o.0, h.0) h.1)

    known_node : (word : List ℕ) (x : Node S) → LeadsTo quiet steps word x → IsIn (Contains those) (Contains (kinds_of ends)) x
    known_node word (Choosing s) leads = known_state word s leads
    known_node word (Halted kind s) leads = known_end word kind (s, leads)

    state_word : (s : S) → Contains those s → (word : List ℕ) × LeadsTo quiet steps word (Choosing s)
    state_word s c =
        let x = contains_unmap (λ (x : S × List ℕ). x.0) states s c in
        let f = all_states.first x.0.0 x.0.1 x.1 in
        (x.0.1, subst (λ u. LeadsTo quiet steps x.0.1 (Choosing u)) x.2 f.is)

    leads_on : (word : List ℕ) (s : S) (p : ℕ) → LeadsTo quiet steps word (Choosing s) → may quiet s p ≡ true → LeadsTo quiet steps (word ++ p ∷ []) (chosen quiet steps s p)
    leads_on word s p leads m =
        after_append quiet steps word (p ∷ []) (opened quiet steps) (Choosing s) leads ∙ ap (λ (b : Bool). if b then Some (chosen quiet steps s p) else None) m

    pub are_settled : IsSettled quiet steps those (kinds_of ends)
    are_settled =
        record {
          closed = record {
            start = known_node [] (opened quiet steps) refl;
            on = λ s p c m. (let w = state_word s c in known_node (w.0 ++ p ∷ []) (chosen quiet steps s p) (leads_on w.0 s p w.1 m));
          };
          reached = λ s c. (let w = state_word s c in record { word = w.0; leads = w.1 });
          possible = λ kind c.
              (let x = contains_unmap (λ (x : code.End × List ℕ). kind_of x.0) ends kind c in
              let f = all_ends.first x.0.0 x.0.1 x.1 in
              let e = subst (EndsAfter quiet steps x.0.1) x.2 (so_over quiet steps x.0.0 x.0.1 f.is) in
              record { word = x.0.1; state = e.0; leads = e.1 });
        }

    -- ---- where each end at the limit of steps goes on for ever

    module _ (no_cut : (word : List ℕ) → Contains ends (Over StepLimit, word) → ⊥) where
      abbrev GoesRound : List ℕ → Type 0
      GoesRound word = (s : S) × (p : ℕ) × SetsOut quiet steps word s p × IsRound quiet s p

      round_of : (s : S) (p : ℕ) → Repeats quiet steps s p → IsRound quiet s p
      round_of s p r = record { before = steps; state = r.state; process = r.process; comes = r.comes; after = r.after; returns = r.returns }

      goes_round : (word : List ℕ) (end : code.End) → kind_of end ≡ StepLimit → EndsSo quiet steps end word → GoesRound word
      goes_round word (Over kind) is so = let h = all_ends.all (Over StepLimit) word (subst (λ k. EndsSo quiet steps (Over k) word) is so) in absurd (no_cut h.0 h.1)
      goes_round word _ is x = (x.begin, x.first, x.sets_out, round_of x.begin x.first x.repeats)

      pub cut_round : (word : List ℕ) (x : Node S) → LeadsTo quiet steps word x → IsCut x → GoesRound word
      cut_round word x leads cut =
          let c = cut_node x cut in
          let o = over_so word StepLimit (c.0, leads ∙ ap (λ (n : Node S). Some n) c.1) in
          goes_round word o.0 o.1 o.2

      first_spot : (s : S) (p : ℕ) → SetsOut quiet steps [] s p → opening_spot quiet ≡ Some (s, p)
      first_spot s p (inl x) = x.1
      first_spot s p (inr x) = absurd (not_empty x.0 x.1 x.3)

      next_spot : (word : List ℕ) (u : S) (c : ℕ) (s : S) (p : ℕ) → LeadsTo quiet steps word (Choosing u) → SetsOut quiet steps (word ++ c ∷ []) s p → chosen_spot quiet u c ≡ Some (s, p)
      next_spot word u c s p leads (inl x) = absurd (not_empty word c (sym x.0))
      next_spot word u c s p leads (inr x) =
          let ends = last_same word x.0 c x.1 x.3 in
          let state = choosing_same u x.2 (sym leads ∙ ap (λ w. node_after quiet steps (opened quiet steps) w) ends.0 ∙ x.4) in
          ap (λ t. chosen_spot quiet t c) state ∙ ap (λ n. chosen_spot quiet x.2 n) ends.1 ∙ x.6

      cuts_are_rounds : CutsAreRounds quiet steps (Contains those)
      cuts_are_rounds =
          record {
            start = λ cut. (let r = cut_round [] (opened quiet steps) refl cut in (r.0, r.1, first_spot r.0 r.1 r.2, r.3));
            on = λ u c among m cut.
                (let w = state_word u among in
                let r = cut_round (w.0 ++ c ∷ []) (chosen quiet steps u c) (leads_on w.0 u c w.1 m) cut in
                (r.0, r.1, next_spot w.0 u c r.0 r.1 w.1 r.2, r.3));
          }

      pub settled_more : (more : ℕ) → IsSettled quiet (more + steps) those (kinds_of ends)
      settled_more more = more_steps_rounds quiet steps more those (kinds_of ends) are_settled cuts_are_rounds
