-- Whoever is left unserved in a machine is so in its graph, and in a machine that is like it.
use Rattle.std.proofs.Common.{◌≡◌, ◌⊎◌, inl, inr, ⊎_elim, ◌∙◌, ◌<◌, ℕ, Bool, true, false, List, [], ◌∷◌, Some, refl, sym, subst, ap}
use Rattle.cp_waits.proofs.Words.{slice_get, Each, System, Node, Choosing, may, chosen, opened, IsServed, LeadsTo, Moment, moments, Edge, Graph, IsChoice, IsEdge, Seen, keeps, has}
use Rattle.cp_endless_laws.specs.WaitsForEver.{WaitsIn}
use Rattle.cp_endless_laws.proofs.names.Together.{ChoicesAlike, after_there, any_alike, choosing_alike, each_alike}
use Rattle.cp_machine_laws.proofs.Alike.{NodesAlike}
use Rattle.cp_waits.specs.Lines.{IsUnservedOn}
use Rattle.cp_waits.specs.MayWait.{IsUnserved}
use Rattle.cp_waits.specs.declared.passing.Keeping.{Keeping}
use Rattle.cp_waits.specs.declared.passing.Keeping.TheVariants.{Waiting, Inside}
use Rattle.cp_waits.proofs.Runs.{doing, edge_goes, keeper}

module _ {S : Type 0} (sys : System S) (inside waiting : S → ℕ → Bool) (steps : ℕ) (states : List (S × List ℕ)) (g : Graph)
    (edges : (i : ℕ) (e : Edge) → IsEdge g i e → (x : S × List ℕ) × (slice_get states i ≡ Some x) × (may sys x.0 e.number ≡ true) × IsChoice sys inside waiting steps states x.0 e)
    (reached : (i : ℕ) (x : S × List ℕ) → slice_get states i ≡ Some x → LeadsTo sys steps x.1 (Choosing x.0)) where
  unless : (b : Bool) → (b ≡ true → ⊥) → b ≡ false
  unless true h = absurd (h refl)
  unless false h = refl

  waits_in : (keeping : Keeping) → keeper keeping < sys.processes → (s : S) (e : Edge) → Seen sys inside waiting (s ∷ []) (moments sys steps s e.number) e.passing → keeps keeping e.passing ≡ true → WaitsIn sys (doing inside waiting keeping) (keeper keeping) steps s e.number
  waits_in (Waiting q) less s e seen k = let h = (seen.wait q less).0 k in (h.0.0, h.1)
  waits_in (Inside q) less s e seen k = let h = (seen.stay q less).0 k in (h.0.0, h.1)

  pub unserved_on : (keeping : Keeping) (p : ℕ) → keeper keeping < sys.processes → p < sys.processes → IsUnserved sys (doing inside waiting keeping) (keeper keeping) p steps → IsUnservedOn g keeping p
  unserved_on keeping p own less unserved = λ i e edge j keeps to.
      (let x = edges i e edge in
      let o = edge_goes sys inside waiting steps states x.0.0 e j x.3 to in
      unless (has e.passing.served p) (λ is. unserved x.0.1 x.0.0 o.to e.number (reached i x.0 x.1) x.2 o.goes (waits_in keeping own x.0.0 e o.seen keeps) ((o.seen.served p less).0 is)))

-- ---- in a machine that is like it

module _ {S T : Type 0} (a : System S) (b : System T) (steps : ℕ) (R : S → T → Type 0) (V : S → T → ℕ → Type 0) (h : ChoicesAlike a b steps R V) (da : S → ℕ → Bool) (db : T → ℕ → Bool) (q p : ℕ) (same : (s : S) (t : T) → R s t → da s q ≡ db t q) where
  pub unserved_back : p < b.processes → IsUnserved b db q p steps → IsUnserved a da q p steps
  unserved_back less unserved = λ word s u number leads can goes waits served.
      (let l = after_there a b steps R V h word (opened a steps) (Choosing s) (opened b steps) h.begins leads in
      let c = choosing_alike R s l.0 l.2 in
      let t = c.0 in
      let r = c.2 in
      let o = choosing_alike R u (chosen b steps t number) (subst (λ x. NodesAlike R x (chosen b steps t number)) goes (h.goes s t number r can)) in
      unserved word t o.0 number (l.1 ∙ ap (λ (n : Node T). Some n) c.1) (sym (h.same s t number r) ∙ can) o.1 (
        sym (same s t r) ∙ waits.0,
        each_alike R (λ (m : Moment S). da m.state q ≡ true) (λ (m : Moment T). db m.state q ≡ true) (moments a steps s number) (moments b steps t number) (λ m n eq k e. sym (same m.state n.state k) ∙ e) (h.happens s t number r can) waits.1,
      )
      (any_alike R (λ (m : Moment S). (m.mover ≡ p) ⊎ (a.is_ready m.state p ≡ false)) (λ (m : Moment T). (m.mover ≡ p) ⊎ (b.is_ready m.state p ≡ false)) (moments a steps s number) (moments b steps t number)
      (λ m n eq k o. ⊎_elim (λ (e : m.mover ≡ p). inl (sym eq ∙ e)) (λ (e : a.is_ready m.state p ≡ false). inr (sym (h.ready m.state n.state p k (subst (λ (i : ℕ). p < i) (sym h.processes) less)) ∙ e)) o)
      (h.happens s t number r can) served))
