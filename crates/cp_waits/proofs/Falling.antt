-- Ranks of the states of a graph are ranks of its machine: whoever has them waits for ever in no fair schedule.
use Rattle.std.proofs.Common.{◌≡◌, ◌⊎◌, inl, inr, ⊎_elim, ◌∙◌, ◌<◌, ◌≤◌, ℕ, zero, suc, Bool, true, false, if◌then◌else◌, List, [], ◌∷◌, map, Option, None, Some, refl, sym, ap, subst, arith}
use Rattle.cp_waits.proofs.Words.{Contains, nat_lt, slice_get, System, Node, Choosing, may, chosen, IsServed, AnyOf, Moment, moments, IsClosedSet, some_same}
use Rattle.cp_waits.proofs.Words.{place_of, Edge, Graph, PassingSets, IsChoice, IsNumber, keeps, Seen, has, IsEdge}
use Rattle.std.proofs.lemmas.Bool.{lt-ltb, ltb-true}
use Rattle.cp_endless_laws.specs.Ranks.{GoesWaiting, RankForbidsWaiting, RankForbidsLingering, WaitsOrIsServed}
use Rattle.cp_endless_laws.specs.WaitsForEver.{MayLinger, NeverWaitsForEver, WaitsIn}
use Rattle.cp_endless_laws.proofs.waiting.Ranks.{no_waiting, no_linger}
use Rattle.cp_ends.proofs.named.Kinds.{contains_unmap}
use Rattle.cp_waits.specs.declared.passing.Keeping.{Keeping}
use Rattle.cp_waits.specs.declared.passing.Keeping.TheVariants.{Waiting, Inside}
use Rattle.cp_waits.specs.Lines.{HasRanks}
use Rattle.cp_waits.specs.Ranks.{IsPassedOver}
use Rattle.cp_waits.proofs.Runs.{doing, edge_at, edge_goes, keeper}

-- ---- the number of a state

pub index_in : {S : Type 0} → (S → S → Bool) → List (S × List ℕ) → S → ℕ
index_in eq [] s = 0
index_in eq (x ∷ xs) s = if eq x.0 s then 0 else suc (index_in eq xs s)

-- no state stands twice
abbrev pub AreApart : {S : Type 0} → List (S × List ℕ) → Type 0
AreApart {S} xs = (i j : ℕ) (x y : S × List ℕ) → i < j → slice_get xs i ≡ Some x → slice_get xs j ≡ Some y → x.0 ≡ y.0 → ⊥

pub index_here : {S : Type 0} (eq : S → S → Bool) (same : (s t : S) → eq s t ≡ true → s ≡ t) (self : (s : S) → eq s s ≡ true) (xs : List (S × List ℕ)) → AreApart xs → (j : ℕ) (y : S × List ℕ) → slice_get xs j ≡ Some y → index_in eq xs y.0 ≡ j
unfolding index_in
index_here eq same self [] apart j y at = absurd (cc)
index_here eq same self (x ∷ xs) apart zero y at = ap (λ (b : Bool). if b then 0 else suc (index_in eq xs y.0)) (subst (λ (z : _ × List ℕ). eq x.0 z.0 ≡ true) (some_same x y at) (self x.0))
index_here {S} eq same self (x ∷ xs) apart (suc j) y at = by (eq x.0 y.0) refl (index_here eq same self xs (λ i k a b less f h. apart (suc i) (suc k) a b (omega (arith, less)) f h) j y at)
  where
    by : (b : Bool) → eq x.0 y.0 ≡ b → index_in eq xs y.0 ≡ j → (if b then 0 else suc (index_in eq xs y.0)) ≡ suc j
    by true e rest = absurd (apart 0 (suc j) x y (omega arith) refl at (same x.0 y.0 e))
    by false e rest = ap suc rest

-- ---- who is passed over

pub who : ℕ → Option ℕ → ℕ
who n None = 0
who n (Some p) = if nat_lt p n then p else 0

pub who_below : (n : ℕ) (o : Option ℕ) → 0 < n → who n o < n
unfolding who
who_below n None some = some
who_below n (Some p) some = by (nat_lt p n) refl
  where
    by : (b : Bool) → nat_lt p n ≡ b → (if b then p else 0) < n
    by true e = ltb-true p n e
    by false e = some

pub who_is : (n p : ℕ) → p < n → who n (Some p) ≡ p
unfolding who
who_is n p less = ap (λ (b : Bool). if b then p else 0) (lt-ltb p n less)

nobody : Option ℕ → Bool
nobody None = true
nobody (Some p) = false

module _ {S : Type 0} (sys : System S) (inside waiting : S → ℕ → Bool) (steps : ℕ) (states : List (S × List ℕ)) (g : Graph) (processes : g.processes ≡ sys.processes)
    (edges : (i : ℕ) (e : Edge) → IsEdge g i e → (x : S × List ℕ) × (slice_get states i ≡ Some x) × (may sys x.0 e.number ≡ true) × IsChoice sys inside waiting steps states x.0 e)
    (choices : (i : ℕ) (x : S × List ℕ) → slice_get states i ≡ Some x → (p : ℕ) → may sys x.0 p ≡ true → (e : Edge) × IsEdge g i e × (e.number ≡ p))
    (eq : S → S → Bool) (same : (s t : S) → eq s t ≡ true → s ≡ t) (self : (s : S) → eq s s ≡ true) (apart : AreApart states) where
  abbrev pub those : List S
  those = map (λ (x : S × List ℕ). x.0) states

  abbrev pub index : S → ℕ
  index s = index_in eq states s

  pub at_of : (s : S) → Contains those s → (x : S × List ℕ) × (slice_get states (index s) ≡ Some x) × (x.0 ≡ s)
  at_of s c =
      let u = contains_unmap (λ (x : S × List ℕ). x.0) states s c in
      let p = place_of states u.0 u.1 in
      (u.0, subst (λ i. slice_get states i ≡ Some u.0) (sym (subst (λ (t : S). index t ≡ p.0) u.2 (index_here eq same self states apart p.0 u.0 p.1))) p.1, u.2)

  -- the edge that a choice goes along
  pub record Along (s t : S) (p : ℕ) : Type 0 where
    pub edge : Edge
    pub own : IsEdge g (index s) edge
    pub to : edge.to ≡ Some (index t)
    pub seen : Seen sys inside waiting (s ∷ []) (moments sys steps s p) edge.passing

  pub along : (s t : S) (p : ℕ) → Contains those s → may sys s p ≡ true → chosen sys steps s p ≡ Choosing t → Along s t p
  along s t p among can goes =
      let x = at_of s among in
      let c = choices (index s) x.0 x.1 p (subst (λ (u : S). may sys u p ≡ true) (sym x.2) can) in
      let e = c.0 in
      let h = subst (λ (u : S). IsChoice sys inside waiting steps states u e) x.2 (edge_at sys inside waiting steps states g processes edges (index s) e x.0 x.1 c.1).1 in
      let number = subst (λ (n : Node S). IsNumber states n e.to) (ap (λ n. chosen sys steps s n) c.2 ∙ goes) h.to in
      let o = edge_goes sys inside waiting steps states s e number.0 h number.2 in
      record {
        edge = e;
        own = c.1;
        to = number.2 ∙ ap (λ i. Some i) (sym (index_here eq same self states apart number.0 (t, number.1) number.3));
        seen = subst (λ n. Seen sys inside waiting (s ∷ []) (moments sys steps s n) e.passing) c.2 o.seen;
      }

  pub keeps_on : (keeping : Keeping) → keeper keeping < sys.processes → (s : S) (p : ℕ) (passing : PassingSets) → Seen sys inside waiting (s ∷ []) (moments sys steps s p) passing →
      WaitsIn sys (doing inside waiting keeping) (keeper keeping) steps s p → keeps keeping passing ≡ true
  keeps_on (Waiting q) less s p passing seen w = (seen.wait q less).1 ((w.0, tt), w.1)
  keeps_on (Inside q) less s p passing seen w = (seen.stay q less).1 ((w.0, tt), w.1)

  module _ (keeping : Keeping) (less : keeper keeping < sys.processes) (ranks : HasRanks g keeping) where
    abbrev rank : S → ℕ
    rank s = ranks.0 (index s)

    abbrev Going : S → S → ℕ → Type 0
    Going s t p = GoesWaiting sys (doing inside waiting keeping) (keeper keeping) steps (Contains those) s t p

    ranked : (s t : S) (p : ℕ) → Going s t p → (a : Along s t p) × (rank t ≤ rank s) × (rank t ≡ rank s → IsPassedOver g.processes keeping (ranks.1 (rank s)) a.edge.passing)
    ranked s t p go =
        let a = along s t p go.among_them go.may_be go.goes in
        let r = ranks.2 (index s) a.edge a.own (index t) (keeps_on keeping less s p a.edge.passing a.seen go.waits) a.to in
        (a, r.0, r.1)

    falling : (s t : S) (p : ℕ) → Going s t p → rank t ≤ rank s
    falling s t p go = (ranked s t p go).1

    -- whom the rank passes over is not served
    not_served : (s : S) (p r : ℕ) (passing : PassingSets) → Seen sys inside waiting (s ∷ []) (moments sys steps s p) passing → r < g.processes → has passing.served r ≡ false →
        IsServed sys (who sys.processes (Some r)) (moments sys steps s p) → ⊥
    not_served s p r passing seen below none served =
        let small = subst (λ (n : ℕ). r < n) processes below in
        let yes = (seen.served r small).1 (subst (λ n. IsServed sys n (moments sys steps s p)) (who_is sys.processes r small) served) in
        let both = sym none ∙ yes in
        absurd (cc)

  some_process : (q : ℕ) → q < sys.processes → 0 < sys.processes
  some_process q less = omega (arith, less)

  module _ (closed : IsClosedSet sys steps (Contains those)) (q : ℕ) (less : q < sys.processes) where
    forbids : (ranks : HasRanks g (Waiting q)) → RankForbidsWaiting sys waiting q steps (Contains those) (λ s. ranks.0 (index s)) (λ n. who sys.processes (ranks.1 n))
    forbids ranks =
        record {
          process = λ n. who_below sys.processes (ranks.1 n) (some_process q less);
          falls = λ s t p go. falling (Waiting q) less ranks s t p go;
          stays = λ s t p go e served. (let r = ranked (Waiting q) less ranks s t p go in by s p r.0.edge.passing r.0.seen (ranks.1 (ranks.0 (index s))) (r.2 e) served);
        }
      where
        by : (s : S) (p : ℕ) (passing : PassingSets) → Seen sys inside waiting (s ∷ []) (moments sys steps s p) passing → (o : Option ℕ) → IsPassedOver g.processes (Waiting q) o passing → IsServed sys (who sys.processes o) (moments sys steps s p) → ⊥
        by s p passing seen None over served = over
        by s p passing seen (Some r) over served = not_served (Waiting q) less ranks s p r passing seen over.0 over.1 served

    -- who has ranks waits for ever in no fair schedule
    pub never_waits : HasRanks g (Waiting q) → NeverWaitsForEver sys waiting q steps
    never_waits ranks = no_waiting sys (Contains those) waiting q steps (λ s. ranks.0 (index s)) (λ n. who sys.processes (ranks.1 n)) closed (forbids ranks)

    forbids_lingering : (ranks : HasRanks g (Inside q)) → RankForbidsLingering sys inside waiting q steps (Contains those) (λ s. ranks.0 (index s)) (λ n. who sys.processes (ranks.1 n)) (λ n. nobody (ranks.1 n))
    unfolding nobody
    forbids_lingering ranks =
        record {
          process = λ n. who_below sys.processes (ranks.1 n) (some_process q less);
          falls = λ s t p go. falling (Inside q) less ranks s t p go;
          stays = λ s t p go e h. (let r = ranked (Inside q) less ranks s t p go in by s p r.0.edge.passing r.0.seen (ranks.1 (ranks.0 (index s))) (r.2 e) h);
        }
      where
        by : (s : S) (p : ℕ) (passing : PassingSets) → Seen sys inside waiting (s ∷ []) (moments sys steps s p) passing → (o : Option ℕ) → IsPassedOver g.processes (Inside q) o passing →
            WaitsOrIsServed sys waiting q steps (who sys.processes o) (nobody o) s p → ⊥
        by s p passing seen (Some r) over served = not_served (Inside q) less ranks s p r passing seen over.0 over.1 served
        by s p passing seen None over waits =
            let P : Moment S → Type 0 = λ (m : Moment S). waiting m.state q ≡ true in
            let D : S → Type 0 = λ (t : S). waiting t q ≡ true in
            let some : AnyOf D (s ∷ []) ⊎ AnyOf P (moments sys steps s p) = ⊎_elim (λ (now : waiting s q ≡ true). inl (inl now)) (λ (later : AnyOf P (moments sys steps s p)). inr later) waits in
            let yes = (seen.wait_once q less).1 some in
            let both = sym over ∙ yes in
            absurd (cc)

    -- and the same in its call
    pub never_lingers : HasRanks g (Inside q) → MayLinger sys inside waiting q steps → ⊥
    never_lingers ranks x = no_linger sys (Contains those) inside waiting q steps (λ s. ranks.0 (index s)) (λ n. who sys.processes (ranks.1 n)) (λ n. nobody (ranks.1 n)) closed (forbids_lingering ranks) x
