-- Traps of a graph are traps of its machine: whoever waits for ever comes to where it waits, whatever is chosen.
use Rattle.std.proofs.Common.{◌≡◌, ◌⊎◌, inl, inr, ⊎_elim, ◌∙◌, ◌+◌, ◌<◌, ◌≤◌, ℕ, zero, suc, Bool, true, false, if◌then◌else◌, List, [], ◌∷◌, length, map, Option, None, Some, refl, sym, ap, subst, arith}
use Rattle.cp_waits.proofs.Words.{Contains, slice_get, Each, cases_order, slice_get_within, Turn, Goes, System, IsClosedSet, IsIn, contains_at, Edge, Graph}
use Rattle.cp_waits.proofs.Words.{Waiting, PassingSets, Halt, IsChoice, IsNumber, keeps, ComesTo, choice_leg, WaitsForGood, Seen, HasTraps, IsStateLed}
use Rattle.cp_waits.proofs.Words.{LeadsToTrap, IsEdge}
use Rattle.cp_run.specs.Run.{Node, Halted, Choosing, may, chosen, settled_turn, turn_after}
use Rattle.cp_run.specs.declared.outcome.Halt.TheVariants as halt
use Rattle.cp_endless_laws.specs.Fair.{IsEndless, IsFair, IsServed}
use Rattle.cp_endless_laws.specs.Moments.{Moment, moments, moments_by, stretch_moments}
use Rattle.cp_endless_laws.specs.Traps.{IsTrap}
use Rattle.cp_endless_laws.specs.WaitsForEver.{WaitsFrom}
use Rattle.cp_endless_laws.proofs.waiting.Traps.{trapped}
use Rattle.cp_ends.proofs.named.Kinds.{contains_map}
use Rattle.cp_waits.specs.Ranks.{IsPassedOver, IsRanked}
use Rattle.cp_waits.proofs.Falling.{AreApart, along, at_of, index_here, index_in, keeps_on, who, who_below, who_is}
use Rattle.cp_waits.proofs.Runs.{edge_at}

-- ---- fewer moments

module _ {S : Type 0} (sys : System S) (P : Moment S → Type 0) where
  fewer_by : (n m : ℕ) (s : S) (u : Turn) → ((q : ℕ) → Each P (stretch_moments sys m s q) → Each P (stretch_moments sys n s q)) → Each P (moments_by (stretch_moments sys m s) u) → Each P (moments_by (stretch_moments sys n s) u)
  fewer_by n m s (Goes q) on e = on q e
  fewer_by n m s _ on e = e

  fewer : (n m : ℕ) → n ≤ m → (s : S) (p : ℕ) → Each P (stretch_moments sys m s p) → Each P (stretch_moments sys n s p)
  unfolding stretch_moments
  fewer zero m le s p e = tt
  fewer (suc n) zero le s p e = absurd (omega (arith, le))
  fewer (suc n) (suc m) le s p e = (e.0, fewer_by n m (sys.step s p) (turn_after sys (sys.step s p) p (sys.event s p)) (λ q f. fewer n m (omega (arith, le)) (sys.step s p) q f) e.1)

  fewer_moments : (n m : ℕ) → n ≤ m → (s : S) (p : ℕ) → Each P (moments sys m s p) → Each P (moments sys n s p)
  unfolding moments
  fewer_moments n m le s p e = by (sys.is_pending s) e
    where
      by : (b : Bool) → Each P (if b then moments_by (stretch_moments sys m (sys.admit s p)) (settled_turn sys (sys.admit s p) true p) else stretch_moments sys m s p) →
          Each P (if b then moments_by (stretch_moments sys n (sys.admit s p)) (settled_turn sys (sys.admit s p) true p) else stretch_moments sys n s p)
      by true e = fewer_by n m (sys.admit s p) (settled_turn sys (sys.admit s p) true p) (λ q f. fewer n m le (sys.admit s p) q f) e
      by false e = fewer n m le s p e

module _ {S : Type 0} (sys : System S) (inside waiting : S → ℕ → Bool) (steps : ℕ) (states : List (S × List ℕ)) (g : Graph) (processes : g.processes ≡ sys.processes) (count : length g.ends.items ≡ length states)
    (edges : (i : ℕ) (e : Edge) → IsEdge g i e → (x : S × List ℕ) × (slice_get states i ≡ Some x) × (may sys x.0 e.number ≡ true) × IsChoice sys inside waiting steps states x.0 e)
    (choices : (i : ℕ) (x : S × List ℕ) → slice_get states i ≡ Some x → (p : ℕ) → may sys x.0 p ≡ true → (e : Edge) × IsEdge g i e × (e.number ≡ p))
    (eq : S → S → Bool) (same : (s t : S) → eq s t ≡ true → s ≡ t) (self : (s : S) → eq s s ≡ true) (apart : AreApart states)
    (closed : IsClosedSet sys steps (Contains (map (λ (x : S × List ℕ). x.0) states))) (q : ℕ) (less : q < sys.processes) (traps : HasTraps g (Waiting q)) where
  abbrev those : List S
  those = map (λ (x : S × List ℕ). x.0) states

  abbrev index : S → ℕ
  index s = index_in eq states s

  abbrev rank : S → ℕ
  rank s = traps.0 (index s)

  abbrev in_trap : S → Bool
  in_trap s = traps.2 (rank s)

  here : (s : S) → Contains those s → (x : S × List ℕ) × (slice_get states (index s) ≡ Some x) × (x.0 ≡ s)
  here s c = at_of sys inside waiting steps states g processes edges choices eq same self apart s c

  led : (s : S) → Contains those s → IsStateLed g (Waiting q) traps.0 traps.1 traps.2 (index s)
  led s c = let x = here s c in let within = slice_get_within states (index s) x.0 x.1 in traps.3 (index s) (omega (arith, within, count))

  choice_of : (s : S) → Contains those s → (e : Edge) → IsEdge g (index s) e → IsChoice sys inside waiting steps states s e
  choice_of s c e edge = let x = here s c in subst (λ (u : S). IsChoice sys inside waiting steps states u e) x.2 (edge_at sys inside waiting steps states g processes edges (index s) e x.0 x.1 edge).1

  edge_of : (s : S) → Contains those s → (p : ℕ) → may sys s p ≡ true → (e : Edge) × IsEdge g (index s) e × (e.number ≡ p)
  edge_of s c p can = let x = here s c in choices (index s) x.0 x.1 p (subst (λ (u : S). may sys u p ≡ true) (sym x.2) can)

  abbrev M : Moment S → Type 0
  M m = waiting m.state q ≡ true

  -- who waits on all of an edge waits at its choice, and at each moment after it
  waits_on : (s : S) (e : Edge) → IsChoice sys inside waiting steps states s e → keeps (Waiting q) e.passing ≡ true → (waiting s q ≡ true) × Each M (moments sys steps s e.number)
  waits_on s e c keep = by c.halt c.seen
    where
      by : (x : Halt (Option PassingSets)) → ComesTo sys inside waiting steps (choice_leg sys steps s e.number) (s ∷ []) e.passing x c.last → (waiting s q ≡ true) × Each M (moments sys steps s e.number)
      by halt.Choice h = let k = (h.1.wait q less).0 keep in (k.0.0, k.1)
      by (halt.Ended None) h = let k = (h.1.wait q less).0 keep in (k.0.0, k.1)
      by (halt.Ended (Some again)) h =
          let k = (h.1.wait q less).0 keep in
          (k.0.0, fewer_moments sys M steps (steps + suc h.0.repeats.after) (omega arith) s e.number k.1)

  -- ---- the trap

  abbrev Trap : S → Type 0
  Trap s = Contains those s × (in_trap s ≡ true)

  stays : (s : S) → Trap s → (e : Edge) → IsEdge g (index s) e → (keeps (Waiting q) e.passing ≡ true) × ((j : ℕ) → e.to ≡ Some j → traps.2 (traps.0 j) ≡ true)
  stays s t e edge = subst (λ (b : Bool). LeadsToTrap g (Waiting q) traps.0 traps.1 traps.2 b (index s) e) t.1 ((led s t.0).1 e edge)

  on_trap : (s : S) (e : Edge) → Trap s → IsEdge g (index s) e → (n : Node S) → chosen sys steps s e.number ≡ n → IsIn Trap (λ kind. Unit {0}) n
  on_trap s e t edge (Halted kind u) is = tt
  on_trap s e t edge (Choosing u) is =
      let number = subst (λ (n : Node S). IsNumber states n e.to) is (choice_of s t.0 e edge).to in
      let at = index_here eq same self states apart number.0 (u, number.1) number.3 in (
        contains_map (λ (x : S × List ℕ). x.0) states (u, number.1) (contains_at states number.0 (u, number.1) number.3),
        ap (λ i. traps.2 (traps.0 i)) at ∙ (stays s t e edge).1 number.0 number.2,
      )

  is_trap : IsTrap sys waiting q steps Trap
  is_trap =
      record {
        waits = λ s t. (let e = (led s t.0).0 t.1 in (waits_on s e.0 (choice_of s t.0 e.0 e.1) (stays s t e.0 e.1).0).0);
        waits_between = λ s p t can.
            (let e = edge_of s t.0 p can in
            subst (λ n. Each M (moments sys steps s n)) e.2 (waits_on s e.0 (choice_of s t.0 e.0 e.1) (stays s t e.0 e.1).0).1);
        on = λ s p t can. (let e = edge_of s t.0 p can in subst (λ n. IsIn Trap (λ kind. Unit {0}) (chosen sys steps s n)) e.2 (on_trap s e.0 t e.1 (chosen sys steps s e.0.number) refl));
      }

  -- ---- each schedule comes to it

  module _ (w : ℕ → ℕ) (state : ℕ → S) (endless : IsEndless sys steps w state) (fair : IsFair sys steps w state) (n : ℕ) (waits : WaitsFrom sys waiting q steps w state n) where
    among : (m : ℕ) → Contains those (state m)
    among zero = subst (IsIn (Contains those) (λ kind. Unit {0})) endless.first closed.start
    among (suc m) = subst (IsIn (Contains those) (λ kind. Unit {0})) (endless.goes m) (closed.on (state m) (w m) (among m) (endless.may_be m))

    abbrev Comes : Type 0
    Comes = (m : ℕ) × (in_trap (state m) ≡ true)

    abbrev Passes : ℕ → Type 0
    Passes m = (rank (state (suc m)) ≤ rank (state m)) × (rank (state (suc m)) ≡ rank (state m) → IsServed sys (who sys.processes (traps.1 (rank (state m)))) (moments sys steps (state m) (w m)) → ⊥)

    -- outside of the trap the rank falls, or somebody is passed over
    passes : (m : ℕ) → n ≤ m → in_trap (state m) ≡ false → Passes m
    passes m le out =
        let a = along sys inside waiting steps states g processes edges choices eq same self apart (state m) (state (suc m)) (w m) (among m) (endless.may_be m) (endless.goes m) in
        let ranked : IsRanked g (Waiting q) traps.0 traps.1 (index (state m)) a.edge = subst (λ (b : Bool). LeadsToTrap g (Waiting q) traps.0 traps.1 traps.2 b (index (state m)) a.edge) out ((led (state m) (among m)).1 a.edge a.own) in
        let keep = keeps_on sys inside waiting steps states g processes edges choices eq same self apart (Waiting q) less (state m) (w m) a.edge.passing a.seen (waits m le) in
        let r = ranked (index (state (suc m))) keep a.to in
        (r.0, λ is served. by a.edge.passing a.seen (traps.1 (rank (state m))) (r.1 is) served)
      where
        by : (passing : PassingSets) → Seen sys inside waiting (state m ∷ []) (moments sys steps (state m) (w m)) passing → (o : Option ℕ) → IsPassedOver g.processes (Waiting q) o passing → IsServed sys (who sys.processes o) (moments sys steps (state m) (w m)) → ⊥
        by passing seen None over served = over
        by passing seen (Some r) over served =
            let small = subst (λ (k : ℕ). r < k) processes over.0 in
            let yes = (seen.served r small).1 (subst (λ k. IsServed sys k (moments sys steps (state m) (w m))) (who_is sys.processes r small) served) in
            let both = sym over.1 ∙ yes in
            absurd (cc)

    falls_or_stays : (m : ℕ) → rank (state (suc m)) ≤ rank (state m) → (rank (state (suc m)) < rank (state m)) ⊎ (rank (state (suc m)) ≡ rank (state m))
    falls_or_stays m down =
        ⊎_elim
        (λ (e : rank (state (suc m)) ≡ rank (state m)). inr e)
        (λ (other : (rank (state (suc m)) < rank (state m)) ⊎ (rank (state m) < rank (state (suc m)))).
        ⊎_elim
        (λ (fewer : rank (state (suc m)) < rank (state m)). inl fewer)
        (λ (more : rank (state m) < rank (state (suc m))). absurd (omega (arith, down, more)))
        other)
        (cases_order (rank (state (suc m))) (rank (state m)))

    -- at one place: it is in the trap, or the next place has a lesser rank, or the same one and nobody is served who is passed over
    abbrev Next : ℕ → Type 0
    Next m = Comes ⊎ ((rank (state (suc m)) < rank (state m)) ⊎ ((rank (state (suc m)) ≡ rank (state m)) × (IsServed sys (who sys.processes (traps.1 (rank (state m)))) (moments sys steps (state m) (w m)) → ⊥)))

    next : (m : ℕ) → n ≤ m → Next m
    next m le = by (in_trap (state m)) refl
      where
        out : Passes m → Next m
        out p = ⊎_elim
            (λ (fewer : rank (state (suc m)) < rank (state m)). inr (inl fewer))
            (λ (is : rank (state (suc m)) ≡ rank (state m)). inr (inr (is, p.1 is)))
            (falls_or_stays m p.0)

        by : (b : Bool) → in_trap (state m) ≡ b → Next m
        by true e = inl (m, e)
        by false e = out (passes m le e)

    until : (r : ℕ) → ((j : ℕ) → n ≤ j → rank (state j) < r → Comes) → (k : ℕ) → IsServed sys (who sys.processes (traps.1 r)) (moments sys steps (state k) (w k)) → (d j : ℕ) → n ≤ j → j + d ≡ k → rank (state j) ≡ r → Comes
    until r below k served zero j le e is =
        let at : j ≡ k = omega (arith, e) in
        let now = subst (λ i. IsServed sys (who sys.processes (traps.1 i)) (moments sys steps (state j) (w j))) (sym is) (subst (λ i. IsServed sys (who sys.processes (traps.1 r)) (moments sys steps (state i) (w i))) (sym at) served) in
        ⊎_elim
        (λ (c : Comes). c)
        (λ (other : (rank (state (suc j)) < rank (state j)) ⊎ ((rank (state (suc j)) ≡ rank (state j)) × (IsServed sys (who sys.processes (traps.1 (rank (state j)))) (moments sys steps (state j) (w j)) → ⊥))).
        ⊎_elim
        (λ (fewer : rank (state (suc j)) < rank (state j)). below (suc j) (omega (arith, le)) (omega (arith, fewer, is)))
        (λ (same : (rank (state (suc j)) ≡ rank (state j)) × (IsServed sys (who sys.processes (traps.1 (rank (state j)))) (moments sys steps (state j) (w j)) → ⊥)). absurd (same.1 now))
        other)
        (next j le)
    until r below k served (suc d) j le e is =
        ⊎_elim
        (λ (c : Comes). c)
        (λ (other : (rank (state (suc j)) < rank (state j)) ⊎ ((rank (state (suc j)) ≡ rank (state j)) × (IsServed sys (who sys.processes (traps.1 (rank (state j)))) (moments sys steps (state j) (w j)) → ⊥))).
        ⊎_elim
        (λ (fewer : rank (state (suc j)) < rank (state j)). below (suc j) (omega (arith, le)) (omega (arith, fewer, is)))
        (λ (same : (rank (state (suc j)) ≡ rank (state j)) × (IsServed sys (who sys.processes (traps.1 (rank (state j)))) (moments sys steps (state j) (w j)) → ⊥)). until r below k served d (suc j) (omega (arith, le)) (omega (arith, e)) (same.0 ∙ is))
        other)
        (next j le)

    distance : (a b : ℕ) → a ≤ b → (d : ℕ) × (a + d ≡ b)
    distance zero b le = (b, omega arith)
    distance (suc a) zero le = absurd (omega (arith, le))
    distance (suc a) (suc b) le = let x = distance a b (omega (arith, le)) in (x.0, (let e = x.1 in omega (arith, e)))

    from_rank : (r : ℕ) → (j : ℕ) → n ≤ j → rank (state j) < r → Comes
    from_rank zero j le lt = absurd (omega (arith, lt))
    from_rank (suc r) j le lt =
        let below : (i : ℕ) → n ≤ i → rank (state i) < rank (state j) → Comes = λ i li fewer. from_rank r i li (omega (arith, fewer, lt)) in
        let f = fair (who sys.processes (traps.1 (rank (state j)))) j (who_below sys.processes (traps.1 (rank (state j))) (omega (arith, less))) in
        let d = distance j f.0 f.1 in
        until (rank (state j)) below f.0 f.2 d.0 j le d.1 refl

    comes : Comes
    comes = from_rank (suc (rank (state n))) n (omega arith) (omega arith)

  -- who has traps waits for good, if it waits for ever
  pub for_good : WaitsForGood sys waiting q steps
  for_good x =
      let c = comes x.word x.state x.endless x.fair x.since x.waits in
      (c.0, trapped sys Trap waiting q steps is_trap (x.state c.0) (among x.word x.state x.endless x.fair x.since x.waits c.0, c.1))
