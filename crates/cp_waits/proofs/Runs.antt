-- A way along the edges of a graph is a run of its machine.
use Rattle.std.proofs.Common.{◌≡◌, ◌⊎◌, inl, inr, ⊎_elim, ◌∙◌, ◌<◌, ℕ, Bool, true, false, if◌then◌else◌, List, [], ◌∷◌, map, length, None, Some, refl, sym, ap, subst, arith}
use Rattle.cp_waits.proofs.Words.{slice_get, Each, System, Node, Halted, Choosing, may, chosen, IsServed, LeadsTo, node_after, some_same, Edge, Graph, Halt, Option, PassingSets}
use Rattle.cp_waits.proofs.Words.{IsChoice, IsNumber, keeps, AreLasso, AreLingeringLasso, Seen, has}
use Rattle.cp_run.specs.declared.outcome.Halt.TheVariants as halt
use Rattle.cp_endless_laws.specs.Lasso.{HasLasso, IsWaitingLoop, WaitsAlong}
use Rattle.cp_endless_laws.specs.Moments.{AnyOf, Moment, moments, moments_along, states_along}
use Rattle.cp_waits.specs.declared.passing.Keeping.{Keeping}
use Rattle.cp_waits.specs.declared.passing.Keeping.TheVariants.{Waiting, Inside}
use Rattle.cp_ends.specs.Legs.{IsHalted, choice_leg}
use Rattle.cp_waits.specs.Legs.{ComesTo}
use Rattle.cp_waits.specs.Walks.{IsEdge, IsWay, IsRound}
use Rattle.cp_endless_laws.proofs.Basics.{any_left, any_right, each_append as each_joined}

-- an edge that leads to the state of this number
pub record Goes {S : Type 0} (sys : System S) (inside waiting : S → ℕ → Bool) (steps : ℕ) (states : List (S × List ℕ)) (s : S) (e : Edge) (j : ℕ) : Type 0 where
  pub to : S
  pub word : List ℕ
  pub there : slice_get states j ≡ Some (to, word)
  pub goes : chosen sys steps s e.number ≡ Choosing to
  pub seen : Seen sys inside waiting (s ∷ []) (moments sys steps s e.number) e.passing

pub edge_goes : {S : Type 0} (sys : System S) (inside waiting : S → ℕ → Bool) (steps : ℕ) (states : List (S × List ℕ)) (s : S) (e : Edge) (j : ℕ) → IsChoice sys inside waiting steps states s e → e.to ≡ Some j → Goes sys inside waiting steps states s e j
edge_goes {S} sys inside waiting steps states s e j c to = by (chosen sys steps s e.number) refl c.to
  where
    seen_by : (t : S) → chosen sys steps s e.number ≡ Choosing t → (x : Halt (Option PassingSets)) → ComesTo sys inside waiting steps (choice_leg sys steps s e.number) (s ∷ []) e.passing x c.last → Seen sys inside waiting (s ∷ []) (moments sys steps s e.number) e.passing
    seen_by t is halt.Choice h = h.1
    seen_by t is (halt.Ended None) h = absurd (subst IsHalted is h.0.halted)
    seen_by t is (halt.Ended (Some again)) h = absurd (subst IsHalted is h.0.halted)

    by : (n : Node S) → chosen sys steps s e.number ≡ n → IsNumber states n e.to → Goes sys inside waiting steps states s e j
    by (Halted kind t) is none = let both = sym none ∙ to in absurd (cc)
    by (Choosing t) is number =
        record {
          to = t;
          word = number.1;
          there = subst (λ i. slice_get states i ≡ Some (t, number.1)) (some_same number.0 j (sym number.2 ∙ to)) number.3;
          goes = is;
          seen = seen_by t is c.halt c.seen;
        }

-- the process that keeps doing something
abbrev pub keeper : Keeping → ℕ
keeper (Waiting q) = q
keeper (Inside q) = q

-- what it keeps doing
abbrev pub doing : {S : Type 0} → (S → ℕ → Bool) → (S → ℕ → Bool) → Keeping → S → ℕ → Bool
doing inside waiting (Waiting q) = waiting
doing inside waiting (Inside q) = inside

module _ {S : Type 0} (sys : System S) (inside waiting : S → ℕ → Bool) (steps : ℕ) (states : List (S × List ℕ)) (g : Graph) (processes : g.processes ≡ sys.processes)
    (edges : (i : ℕ) (e : Edge) → IsEdge g i e → (x : S × List ℕ) × (slice_get states i ≡ Some x) × (may sys x.0 e.number ≡ true) × IsChoice sys inside waiting steps states x.0 e) where
  pub edge_at : (i : ℕ) (e : Edge) (x : S × List ℕ) → slice_get states i ≡ Some x → IsEdge g i e → (may sys x.0 e.number ≡ true) × IsChoice sys inside waiting steps states x.0 e
  edge_at i e x at edge =
      let h = edges i e edge in
      subst (λ (y : S × List ℕ). (may sys y.0 e.number ≡ true) × IsChoice sys inside waiting steps states y.0 e) (some_same h.0 x (sym h.1 ∙ at)) (h.2, h.3)

  abbrev numbers : List Edge → List ℕ
  numbers way = map (λ e. e.number) way

  goes_at : (i : ℕ) (e : Edge) (j : ℕ) (x : S × List ℕ) → slice_get states i ≡ Some x → IsEdge g i e → e.to ≡ Some j → Goes sys inside waiting steps states x.0 e j
  goes_at i e j x at edge to = edge_goes sys inside waiting steps states x.0 e j (edge_at i e x at edge).1 to

  -- ---- where a way leads

  way_to : (i j : ℕ) (way : List Edge) (x : S × List ℕ) → slice_get states i ≡ Some x → IsWay g i way j → (y : S × List ℕ) × (slice_get states j ≡ Some y) × (node_after sys steps (Choosing x.0) (numbers way) ≡ Some (Choosing y.0))
  way_to i j [] x at w = (x, subst (λ n. slice_get states n ≡ Some x) w at, refl)
  way_to i j (e ∷ way) x at w =
      let m = (edge_at i e x at w.1).0 in
      let o = goes_at i e w.0 x at w.1 w.2 in
      let r = way_to w.0 j way (o.to, o.word) o.there w.3 in (
        r.0,
        r.1,
        ap (λ (b : Bool). if b then node_after sys steps (chosen sys steps x.0 e.number) (numbers way) else None) m ∙ ap (λ (n : Node S). node_after sys steps n (numbers way)) o.goes ∙ r.2,
      )

  way_back : (i : ℕ) (way : List Edge) (x : S × List ℕ) → slice_get states i ≡ Some x → IsWay g i way i → node_after sys steps (Choosing x.0) (numbers way) ≡ Some (Choosing x.0)
  way_back i way x at w =
      let r = way_to i i way x at w in
      r.2 ∙ ap (λ (y : S × List ℕ). Some (Choosing y.0)) (some_same r.0 x (sym r.1 ∙ at))

  -- ---- what happens along it

  abbrev SeenOn : S → Edge → Type 0
  SeenOn s e = Seen sys inside waiting (s ∷ []) (moments sys steps s e.number) e.passing

  all_along : (D : S → Type 0) (M : Moment S → Type 0) (K : Edge → Type 0) → ((s : S) (e : Edge) → SeenOn s e → K e → D s × Each M (moments sys steps s e.number)) →
      (i j : ℕ) (way : List Edge) (x : S × List ℕ) → slice_get states i ≡ Some x → IsWay g i way j → Each K way →
      Each D (states_along sys steps (Choosing x.0) (numbers way)) × Each M (moments_along sys steps (Choosing x.0) (numbers way))
  all_along D M K so i j [] x at w all = (tt, tt)
  all_along D M K so i j (e ∷ way) x at w all =
      let o = goes_at i e w.0 x at w.1 w.2 in
      let here = so x.0 e o.seen all.0 in
      let rest = all_along D M K so w.0 j way (o.to, o.word) o.there w.3 all.1 in (
        (here.0, subst (λ (n : Node S). Each D (states_along sys steps n (numbers way))) (sym o.goes) rest.0),
        each_joined M (moments sys steps x.0 e.number) (moments_along sys steps (chosen sys steps x.0 e.number) (numbers way)) here.1
            (subst (λ (n : Node S). Each M (moments_along sys steps n (numbers way))) (sym o.goes) rest.1),
      )

  some_along : (M : Moment S → Type 0) (K : Edge → Type 0) → ((s : S) (e : Edge) → SeenOn s e → K e → AnyOf M (moments sys steps s e.number)) →
      (i j : ℕ) (way : List Edge) (x : S × List ℕ) → slice_get states i ≡ Some x → IsWay g i way j → AnyOf K way → AnyOf M (moments_along sys steps (Choosing x.0) (numbers way))
  some_along M K so i j [] x at w a = absurd a
  some_along M K so i j (e ∷ way) x at w a =
      let o = goes_at i e w.0 x at w.1 w.2 in
      ⊎_elim
      (λ (here : K e). any_left M (moments sys steps x.0 e.number) (moments_along sys steps (chosen sys steps x.0 e.number) (numbers way)) (so x.0 e o.seen here))
      (λ (later : AnyOf K way).
      any_right M (moments sys steps x.0 e.number) (moments_along sys steps (chosen sys steps x.0 e.number) (numbers way))
      (subst (λ (n : Node S). AnyOf M (moments_along sys steps n (numbers way))) (sym o.goes) (some_along M K so w.0 j way (o.to, o.word) o.there w.3 later)))
      a

  waits_along : (q : ℕ) → q < sys.processes → (i j : ℕ) (way : List Edge) (x : S × List ℕ) → slice_get states i ≡ Some x → IsWay g i way j → AnyOf (λ e. has e.passing.wait_once q ≡ true) way → WaitsAlong sys waiting q steps (Choosing x.0) (numbers way)
  waits_along q less i j [] x at w a = absurd a
  waits_along q less i j (e ∷ way) x at w a =
      let o = goes_at i e w.0 x at w.1 w.2 in
      let P : Moment S → Type 0 = λ (m : Moment S). waiting m.state q ≡ true in
      let D : S → Type 0 = λ (t : S). waiting t q ≡ true in
      ⊎_elim
      (λ (here : has e.passing.wait_once q ≡ true).
      ⊎_elim
      (λ (due : AnyOf D (x.0 ∷ [])). inl (⊎_elim (λ (now : D x.0). inl now) (λ (none : ⊥). absurd none) due))
      (λ (between : AnyOf P (moments sys steps x.0 e.number)). inr (any_left P (moments sys steps x.0 e.number) (moments_along sys steps (chosen sys steps x.0 e.number) (numbers way)) between))
      ((o.seen.wait_once q less).0 here))
      (λ (later : AnyOf (λ e. has e.passing.wait_once q ≡ true) way).
      ⊎_elim
      (λ (due : AnyOf D (states_along sys steps (Choosing o.to) (numbers way))). inl (inr (subst (λ (n : Node S). AnyOf D (states_along sys steps n (numbers way))) (sym o.goes) due)))
      (λ (between : AnyOf P (moments_along sys steps (Choosing o.to) (numbers way))).
      inr (any_right P (moments sys steps x.0 e.number) (moments_along sys steps (chosen sys steps x.0 e.number) (numbers way)) (subst (λ (n : Node S). AnyOf P (moments_along sys steps n (numbers way))) (sym o.goes) between)))
      (waits_along q less w.0 j way (o.to, o.word) o.there w.3 later))
      a

  -- ---- rounds

  kept : (keeping : Keeping) → keeper keeping < sys.processes → (s : S) (e : Edge) → SeenOn s e → keeps keeping e.passing ≡ true →
      (doing inside waiting keeping s (keeper keeping) ≡ true) × Each (λ (m : Moment S). doing inside waiting keeping m.state (keeper keeping) ≡ true) (moments sys steps s e.number)
  kept (Waiting q) less s e seen h = let k = (seen.wait q less).0 h in (k.0.0, k.1)
  kept (Inside q) less s e seen h = let k = (seen.stay q less).0 h in (k.0.0, k.1)

  served_on : (way : List Edge) (i : ℕ) (x : S × List ℕ) → slice_get states i ≡ Some x → IsWay g i way i → ((q : ℕ) → q < g.processes → AnyOf (λ e. has e.passing.served q ≡ true) way) →
      (p : ℕ) → p < sys.processes → IsServed sys p (moments_along sys steps (Choosing x.0) (numbers way))
  served_on way i x at w fair p less =
      some_along (λ (m : Moment S). (m.mover ≡ p) ⊎ (sys.is_ready m.state p ≡ false)) (λ e. has e.passing.served p ≡ true) (λ s e seen h. (seen.served p less).0 h) i i way x at w
      (fair p (subst (λ (n : ℕ). p < n) (sym processes) less))

  loop_on : (keeping : Keeping) → keeper keeping < sys.processes → (way : List Edge) (i : ℕ) (x : S × List ℕ) → slice_get states i ≡ Some x → IsWay g i way i → Each (λ e. keeps keeping e.passing ≡ true) way →
      ((q : ℕ) → q < g.processes → AnyOf (λ e. has e.passing.served q ≡ true) way) → IsWaitingLoop sys (doing inside waiting keeping) (keeper keeping) steps x.0 (numbers way)
  loop_on keeping less way i x at w all fair =
      let a = all_along (λ (t : S). doing inside waiting keeping t (keeper keeping) ≡ true) (λ (m : Moment S). doing inside waiting keeping m.state (keeper keeping) ≡ true) (λ e. keeps keeping e.passing ≡ true) (kept keeping less) i i way x at w all in
      record { fair = served_on way i x at w fair; waits = a.0; waits_between = a.1 }

  -- the state of a round
  round_state : (i : ℕ) (way : List Edge) → 0 < length way → IsWay g i way i → (x : S × List ℕ) × (slice_get states i ≡ Some x)
  round_state i [] some w = absurd (omega (arith, some))
  round_state i (e ∷ way) some w = let h = edges i e w.1 in (h.0, h.1)

  module _ (reached : (i : ℕ) (x : S × List ℕ) → slice_get states i ≡ Some x → LeadsTo sys steps x.1 (Choosing x.0)) where
    lasso_by : (keeping : Keeping) → keeper keeping < sys.processes → (way : List Edge) (i : ℕ) (x : S × List ℕ) → slice_get states i ≡ Some x → 0 < length way → IsWay g i way i → Each (λ e. keeps keeping e.passing ≡ true) way →
        ((q : ℕ) → q < g.processes → AnyOf (λ e. has e.passing.served q ≡ true) way) →
        (l : HasLasso sys (doing inside waiting keeping) (keeper keeping) steps) × (l.stem ≡ x.1) × (l.state ≡ x.0) × (l.first ∷ l.more ≡ numbers way)
    lasso_by keeping less [] i x at some w all fair = absurd (omega (arith, some))
    lasso_by keeping less (e ∷ way) i x at some w all fair = (
      record {
        stem = x.1;
        state = x.0;
        first = e.number;
        more = numbers way;
        lasso = record { reached = reached i x at; back = way_back i (e ∷ way) x at w };
        waits = loop_on keeping less (e ∷ way) i x at w all fair;
      },
      refl,
      refl,
      refl,
    )

    -- a round in which the process waits is a lasso
    pub round_waits : (q i : ℕ) (word : List ℕ) → q < sys.processes → IsRound g (Waiting q) i word → (x : S × List ℕ) × (slice_get states i ≡ Some x) × AreLasso sys waiting q steps x.1 word
    round_waits q i word less round =
        let x = round_state i round.way round.some round.back in
        let l = lasso_by (Waiting q) less round.way i x.0 x.1 round.some round.back round.keeps round.fair in
        (x.0, x.1, (l.0, l.1, l.3 ∙ round.numbers))

    -- and one in which it is inside, and waits on some edge, a lingering one
    pub round_lingers : (q i : ℕ) (word : List ℕ) → q < sys.processes → IsRound g (Inside q) i word → (x : S × List ℕ) × (slice_get states i ≡ Some x) × AreLingeringLasso sys inside waiting q steps x.1 word
    round_lingers q i word less round =
        let x = round_state i round.way round.some round.back in
        let l = lasso_by (Inside q) less round.way i x.0 x.1 round.some round.back round.keeps round.fair in
        let w = waits_along q less i i round.way x.0 x.1 round.back round.waits in (
          x.0,
          x.1,
          (
            record { stays = l.0; waits = subst (λ (ws : List ℕ). WaitsAlong sys waiting q steps (Choosing l.0.state) ws) (sym l.3) (subst (λ (s : S). WaitsAlong sys waiting q steps (Choosing s) (numbers round.way)) (sym l.2) w) },
            l.1,
            l.3 ∙ round.numbers,
          ),
        )
