-- Where each stretch that was cut goes on for ever, a greater limit of steps shows no other values.
use Rattle.std.proofs.Common.{◌≡◌, ◌⊎◌, inl, inr, ⊎_elim, ◌∙◌, ◌+◌, ℕ, zero, suc, Bool, true, if◌then◌else◌, List, [], ◌∷◌, ◌++◌, Option, None, Some, refl, sym, ap, subst, arith}
use Rattle.cp_ends.proofs.Vocabulary.{Contains, append_assoc, Contains-append_cases, Shown, StepLimit, Turn, System, Node, Halted, Choosing, may, turn_after}
use Rattle.cp_ends.proofs.Vocabulary.{stretch, opened, chosen, each, forgetting_system, Moment, AnyOf, moments_by, stretch_moments, node_after, LeadsTo, Repeats}
use Rattle.cp_ends.proofs.Vocabulary.{repeated_part, shown_at, ShowsAfter, after_first, after_append, happens_early, goal_of, ShowsSo, AreFirsts, EndsSo, Over}
use Rattle.cp_ends.proofs.Vocabulary.{each_append}
use Rattle.cp_run.specs.declared.outcome.Turn.TheVariants as turn
use Rattle.cp_endless_laws.specs.Rounds.{IsCut, spot_after, spot_by}
use Rattle.cp_endless_laws.proofs.steps.Alone.{alone}
use Rattle.cp_endless_laws.proofs.steps.Nodes.{cut_node, cut_or_not, chosen_same, opened_same}
use Rattle.cp_ends.specs.Named.{HasNoCut}
use Rattle.cp_ends.specs.declared.end.End as code
use Rattle.cp_ends.proofs.named.Kinds.{cut_round, no_steps_more}
use Rattle.cp_ends.proofs.named.Later.{moments_split, spot_moments}
use Rattle.cp_ends.proofs.words.Edges.{some_same, edge_node, edge_shown, EndsWith, edge_sets_out, shows_edge, edge_shows}
use Rattle.cp_ends.proofs.words.Returns.{ComesToNode, ComesAgain, edge_comes, cut_there}
use Rattle.cp_ends.proofs.words.Translated.{plain_end, value_any, any_value}

module _ {S : Type 0} (sys : System S) where
  -- a stretch that stands still has no more moments
  moments_same : (n m : ℕ) (s : S) (p : ℕ) → spot_after sys n s p ≡ None → stretch_moments sys (n + m) s p ≡ stretch_moments sys n s p
  unfolding stretch_moments
  moments_same zero m s p e = absurd (cc)
  moments_same (suc n) m s p e = ap (λ i. stretch_moments sys i s p) (plus n) ∙ ap (λ ms. record { state = s; mover = p } ∷ ms) (by (turn_after sys (sys.step s p) p (sys.event s p)) e (λ r d. moments_same n m (sys.step s p) r d))
    where
      plus : (n : ℕ) → suc n + m ≡ suc (n + m)
      plus n = omega arith

      by : (u : Turn) → spot_by (sys.step s p) (spot_after sys n (sys.step s p)) u ≡ None →
          ((r : ℕ) → spot_after sys n (sys.step s p) r ≡ None → stretch_moments sys (n + m) (sys.step s p) r ≡ stretch_moments sys n (sys.step s p) r) →
          moments_by (stretch_moments sys (n + m) (sys.step s p)) u ≡ moments_by (stretch_moments sys n (sys.step s p)) u
      by (turn.Goes r) e on = on r e
      by _ e on = refl

  -- what was cut leads on to no choice
  cut_leads_nowhere : (steps : ℕ) (x : Node S) (word : List ℕ) (t : S) → IsCut x → node_after sys steps x word ≡ Some (Choosing t) → ⊥
  cut_leads_nowhere steps x word t cut e = by word (cut_node x cut).0 (ap (λ y. node_after sys steps y word) (sym (cut_node x cut).1) ∙ e)
    where
      by : (word : List ℕ) (s : S) → node_after sys steps (Halted StepLimit s) word ≡ Some (Choosing t) → ⊥
      by [] s e = cc
      by (p ∷ word) s e = cc

  cut_is : (x : Node S) (s : S) → x ≡ Halted StepLimit s → IsCut x
  cut_is x s e = subst (λ (n : Node S). IsCut n) (sym e) tt

module _ {S : Type 0} (sys : System S) (forget : S → S) (eq : S → S → Bool) (steps : ℕ) (same : (s t : S) → eq s t ≡ true → s ≡ t) (self : (s : S) → eq s s ≡ true)
    (states : List (S × List ℕ)) (ends : List (code.End × List ℕ)) (all_states : AreFirsts (λ s word. LeadsTo (forgetting_system sys forget) steps word (Choosing s)) states)
    (all_ends : AreFirsts (EndsSo (forgetting_system sys forget) steps) ends) (no_cut : HasNoCut ends) (more : ℕ) where
  abbrev quiet : System S
  quiet = forgetting_system sys forget

  -- a word that is cut is cut at the greater limit too
  still_cut : (word : List ℕ) (x y : Node S) → LeadsTo quiet steps word x → IsCut x → LeadsTo quiet (more + steps) word y → IsCut y
  still_cut word x y leads cut there =
      let r = cut_round sys forget eq steps same self states ends all_states all_ends no_cut word x leads cut in
      let a = alone quiet steps word r.0 r.1 r.2 r.3 more in
      cut_is quiet y a.0 (some_same y (Halted StepLimit a.0) (sym there ∙ a.1))

  on_leads : (limit : ℕ) (word : List ℕ) (s : S) (p : ℕ) → LeadsTo quiet limit word (Choosing s) → may quiet s p ≡ true → LeadsTo quiet limit (word ++ p ∷ []) (chosen quiet limit s p)
  on_leads limit word s p leads m =
      after_append quiet limit word (p ∷ []) (opened quiet limit) (Choosing s) leads ∙ ap (λ (b : Bool). if b then Some (chosen quiet limit s p) else None) m

  -- from a node to which a word leads at both limits
  leads_less : (word before : List ℕ) (x : Node S) (t : S) → LeadsTo quiet steps before x → LeadsTo quiet (more + steps) before x → node_after quiet (more + steps) x word ≡ Some (Choosing t) → LeadsTo quiet steps (before ++ word) (Choosing t)
  leads_less [] before x t here there e = ap (λ w. node_after quiet steps (opened quiet steps) w) (nothing before) ∙ here ∙ e
    where
      nothing : (w : List ℕ) → w ++ [] ≡ w
      nothing [] = refl
      nothing (p ∷ w) = ap (λ v. p ∷ v) (nothing w)
  leads_less (p ∷ word) before (Halted kind s) t here there e = absurd (cc)
  leads_less (p ∷ word) before (Choosing s) t here there e =
      ap (λ w. node_after quiet steps (opened quiet steps) w) (sym (append_assoc before (p ∷ []) word)) ∙ by (cut_or_not (chosen quiet steps s p)) (λ x l m f. leads_less word (before ++ p ∷ []) x t l m f)
    where
      a : (may quiet s p ≡ true) × (node_after quiet (more + steps) (chosen quiet (more + steps) s p) word ≡ Some (Choosing t))
      a = after_first quiet (more + steps) s p word (Choosing t) e

      by : IsCut (chosen quiet steps s p) ⊎ (IsCut (chosen quiet steps s p) → ⊥) →
          ((x : Node S) → LeadsTo quiet steps (before ++ p ∷ []) x → LeadsTo quiet (more + steps) (before ++ p ∷ []) x → node_after quiet (more + steps) x word ≡ Some (Choosing t) → LeadsTo quiet steps ((before ++ p ∷ []) ++ word) (Choosing t)) →
          LeadsTo quiet steps ((before ++ p ∷ []) ++ word) (Choosing t)
      by (inl cut) on = absurd
          (cut_leads_nowhere quiet (more + steps) (chosen quiet (more + steps) s p) word t
          (still_cut (before ++ p ∷ []) (chosen quiet steps s p) (chosen quiet (more + steps) s p) (on_leads steps before s p here a.0) cut (on_leads (more + steps) before s p there a.0)) a.1)
      by (inr uncut) on =
          let is = chosen_same quiet steps more s p uncut in
          on (chosen quiet steps s p) (on_leads steps before s p here a.0) (on_leads (more + steps) before s p there a.0 ∙ ap (λ (n : Node S). Some n) is)
          (ap (λ (n : Node S). node_after quiet (more + steps) n word) (sym is) ∙ a.1)

  leads_early : (word : List ℕ) (t : S) → LeadsTo quiet (more + steps) word (Choosing t) → LeadsTo quiet steps word (Choosing t)
  leads_early word t e = by (cut_or_not (opened quiet steps))
    where
      by : IsCut (opened quiet steps) ⊎ (IsCut (opened quiet steps) → ⊥) → LeadsTo quiet steps word (Choosing t)
      by (inl cut) = absurd (cut_leads_nowhere quiet (more + steps) (opened quiet (more + steps)) word t (still_cut [] (opened quiet steps) (opened quiet (more + steps)) refl cut refl) e)
      by (inr uncut) =
          let is = opened_same quiet steps more uncut in
          leads_less word [] (opened quiet steps) t refl (ap (λ (n : Node S). Some n) is) (ap (λ (n : Node S). node_after quiet (more + steps) n word) (sym is) ∙ e)

  edge_early : (word : List ℕ) (e : S × Turn) → EndsWith quiet (more + steps) word e → EndsWith quiet steps word e
  edge_early word e (inl x) = inl x
  edge_early word e (inr x) = inr (x.0, x.1, x.2, x.3, leads_early x.0 x.2 x.4, x.5, x.6)

  -- ---- what is shown

  abbrev values_of : List (Moment S) → List Shown
  values_of ms = each (shown_at sys) ms

  other_order : (a b : ℕ) → a + b ≡ b + a
  other_order a b = omega arith

  module _ (v : Shown) (word : List ℕ) where
    -- of a stretch that is not cut
    uncut_shown : (e : S × Turn) → EndsWith quiet steps word e → (IsCut (edge_node quiet steps e) → ⊥) → Contains (edge_shown sys forget (more + steps) e) v → Contains (edge_shown sys forget steps e) v
    uncut_shown (s, turn.Goes p) last uncut c = by (spot_after quiet steps s p) refl
      where
        by : (o : Option (S × ℕ)) → spot_after quiet steps s p ≡ o → Contains (values_of (stretch_moments quiet steps s p)) v
        by None e = subst (λ ms. Contains (values_of ms) v) (ap (λ n. stretch_moments quiet n s p) (other_order more steps) ∙ moments_same quiet steps more s p e) c
        by (Some x) e = absurd (uncut (cut_is quiet (stretch quiet steps s p) x.0 (cut_there quiet steps s p x.0 x.1 e)))
    uncut_shown _ last uncut c = c

    -- of one that repeats
    again_shown_early : (s : S) (p : ℕ) (r : Repeats quiet steps s p) → Contains (values_of (stretch_moments quiet (more + steps) s p)) v → Contains (values_of (stretch_moments quiet steps s p)) v ⊎ Contains (values_of (repeated_part r)) v
    again_shown_early s p r c =
        let before = stretch_moments quiet steps s p in
        let after = stretch_moments quiet more r.state r.process in
        let whole = ap (λ n. stretch_moments quiet n s p) (other_order more steps) ∙ moments_split quiet steps more s p r.state r.process r.comes in
        ⊎_elim
        (λ (l : Contains (values_of before) v). inl l)
        (λ (m : Contains (values_of after) v). inr (in_round m))
        (Contains-append_cases (values_of before) (values_of after) v (subst (λ vs. Contains vs v) (ap values_of whole ∙ each_append (shown_at sys) before after) c))
      where
        P : Moment S → Type 0
        P m = Contains (shown_at sys m) v

        in_round : Contains (values_of (stretch_moments quiet more r.state r.process)) v → Contains (values_of (repeated_part r)) v
        in_round m = any_value sys forget eq steps same self v (repeated_part r)
            (subst (λ n. AnyOf P (stretch_moments quiet n r.state r.process)) (no_steps_more (suc r.after))
            (happens_early quiet r.state r.process (record { before = 0; state = r.state; process = r.process; comes = refl; after = r.after; returns = r.returns }) P more (value_any sys forget eq steps same self v (stretch_moments quiet more r.state r.process) m)))

    pub shows_early : ShowsAfter sys forget (more + steps) word v → ShowsSo sys forget steps v word
    shows_early x = let e = shows_edge sys forget (more + steps) word v x in at e.0 (edge_early word e.0 e.1) e.2
      where
        at : (e : S × Turn) → EndsWith quiet steps word e → Contains (edge_shown sys forget (more + steps) e) v → ShowsSo sys forget steps v word
        at e last c = by (edge_comes sys forget eq steps same self e)
          where
            uncut : ComesToNode sys forget eq steps e → IsCut (edge_node quiet steps e) → ⊥
            uncut plain cut =
                let n = cut_node (edge_node quiet steps e) cut in
                let so = plain_end sys forget eq steps same self word e last plain (edge_node quiet steps e) refl (Over StepLimit) (ap (λ (x : Node S). goal_of x) n.1) in
                let h = all_ends.all (Over StepLimit) word so in
                no_cut h.0 h.1

            by : ComesToNode sys forget eq steps e ⊎ ComesAgain sys forget eq steps e → ShowsSo sys forget steps v word
            by (inl plain) = inl (edge_shows sys forget steps word v e last (uncut_shown e last (uncut plain) c))
            by (inr y) =
                ⊎_elim
                (λ (l : Contains (values_of (stretch_moments quiet steps y.begin y.first)) v). inl (edge_shows sys forget steps word v e last (subst (λ ms. Contains (values_of ms) v) (sym (spot_moments quiet steps e y.begin y.first y.spot)) l)))
                (λ (r : Contains (values_of (repeated_part y.repeats)) v). inr (record { begin = y.begin; first = y.first; sets_out = edge_sets_out quiet steps word e y.begin y.first last y.spot; repeats = y.repeats; shown = r }))
                (again_shown_early y.begin y.first y.repeats (subst (λ ms. Contains (values_of ms) v) (spot_moments quiet (more + steps) e y.begin y.first y.spot) c))
