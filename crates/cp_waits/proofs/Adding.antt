-- What is added to a graph, choice by choice and state by state, makes it the graph of the states.
use Rattle.std.proofs.Common.{◌≡◌, ◌⊎◌, inl, inr, ⊎_elim, ◌<◌, ◌≤◌, ◌+◌, ◌∙◌, ℕ, zero, suc, Bool, true, List, [], ◌∷◌, ◌++◌, Option, Some, map, length, get_or, refl, sym, ap, subst, arith, length-append, append_assoc}
use Rattle.cp_waits.proofs.Words.{Contains, slice_get, cases_lt, System, may, chosen, those_below, contains_cases, Origin, Leg, first_leg, choice_leg}
use Rattle.cp_waits.proofs.Words.{ComesTo, first_edge, end_edge, Edge, Graph, Standstill, PassingSets, Halt}
use Rattle.std.proofs.Math.ListN.{get_or-append}
use Rattle.std.proofs.Math.Seq.{get_or-append_seam}
use Rattle.std.proofs.lemmas.List.{append-nil, map-append}
use Rattle.std.proofs.lemmas.List.Elements.{Contains-append_cases}
use Rattle.std.proofs.lemmas.Option.{same_Some, slice_get_within}
use Rattle.cp_ends.specs.declared.origin.Origin.TheVariants.{Start, Choice}
use Rattle.cp_waits.specs.Building.{IsStillOf, AddsStill, AddsChoices, IsGraphTo}
use Rattle.cp_waits.specs.Graphs.{IsNumber, IsChoice, AreChoices, AreEdges, IsLegFrom, LetsWait, IsStill, HasStill, IsGraphOf}
use Rattle.cp_waits.proofs.Graphs.{may_be_those}
use Rattle.cp_endless_laws.proofs.Basics.{each_append}
use Rattle.cp_endless_laws.proofs.waiting.Example.{none_in as no_element}
use Rattle.cp_ends.proofs.Answering.{below as may_below}

-- ---- standstills stay

still_stays : (a b : Graph) (o : Origin) (q : ℕ) → ((s : Standstill) → Contains a.standstills.items s → Contains b.standstills.items s) → HasStill a o q → HasStill b o q
still_stays a b o q keeps h = record { still = h.still; known = keeps h.still h.known; from = h.from; waits = h.waits }

-- ---- where edges end

first_stays : (a b : Graph) (n i : ℕ) → b.ends.items ≡ a.ends.items ++ n ∷ [] → i ≤ length a.ends.items → first_edge a i ≡ first_edge b i
first_stays a b n zero more le = refl
first_stays a b n (suc i) more le = sym (ap (λ l. get_or l i 0) more ∙ get_or-append a.ends.items (n ∷ []) 0 i (omega (arith, le)))

end_stays : (a b : Graph) (n i : ℕ) → b.ends.items ≡ a.ends.items ++ n ∷ [] → i < length a.ends.items → end_edge a i ≡ end_edge b i
end_stays a b n i more lt = sym (ap (λ l. get_or l i 0) more ∙ get_or-append a.ends.items (n ∷ []) 0 i lt)

end_last : (a b : Graph) (n i : ℕ) → b.ends.items ≡ a.ends.items ++ n ∷ [] → i ≡ length a.ends.items → end_edge b i ≡ n
end_last a b n i more last = ap (λ l. get_or l i 0) more ∙ ap (λ k. get_or (a.ends.items ++ n ∷ []) k 0) last ∙ get_or-append_seam a.ends.items n [] 0

-- the edges of a state stay where they are
edges_stay : (a b : Graph) (n i : ℕ) (es more : List Edge) → b.ends.items ≡ a.ends.items ++ n ∷ [] → i < length a.ends.items → b.edges.items ≡ a.edges.items ++ more → AreEdges a i es → AreEdges b i es
edges_stay a b n i es more ends lt all x =
    record {
      before = x.before;
      after = x.after ++ more;
      all = all ∙ ap (λ l. l ++ more) x.all ∙ append_assoc (x.before ++ es) x.after more;
      begin = x.begin ∙ first_stays a b n i ends (omega (arith, lt));
      end = x.end ∙ end_stays a b n i ends lt;
    }

module _ {S : Type 0} (sys : System S) (inside waiting : S → ℕ → Bool) (steps : ℕ) (states : List (S × List ℕ)) where
  -- ---- choices of a state

  pub adds_nothing : (i : ℕ) (s : S) (g : Graph) → AddsChoices sys inside waiting steps states i s [] g g
  adds_nothing i s g =
      record {
        processes = refl;
        ends = refl;
        edges = [];
        more = sym (append-nil g.edges.items);
        numbered = refl;
        choices = tt;
        keeps = λ still h. h;
        is = λ still h. inl h;
        all = λ p q none lt w. absurd (no_element p none);
      }

  pub adds_after : (i : ℕ) (s : S) (ps qs : List ℕ) (a b c : Graph) → AddsChoices sys inside waiting steps states i s ps a b → AddsChoices sys inside waiting steps states i s qs b c → AddsChoices sys inside waiting steps states i s (ps ++ qs) a c
  adds_after i s ps qs a b c x y =
      record {
        processes = y.processes ∙ x.processes;
        ends = y.ends ∙ x.ends;
        edges = x.edges ++ y.edges;
        more = y.more ∙ ap (λ l. l ++ y.edges) x.more ∙ append_assoc a.edges.items x.edges y.edges;
        numbered = map-append (λ (e : Edge). e.number) x.edges y.edges ∙ ap (λ l. l ++ map (λ (e : Edge). e.number) y.edges) x.numbered ∙ ap (λ l. ps ++ l) y.numbered;
        choices = each_append (IsChoice sys inside waiting steps states s) x.edges y.edges x.choices y.choices;
        keeps = λ still h. y.keeps still (x.keeps still h);
        is = λ still h. ⊎_elim (λ (old : Contains b.standstills.items still). x.is still old) (λ (new : IsStill sys inside waiting steps states still). inr new) (y.is still h);
        all = λ p q at lt w.
            ⊎_elim
            (λ (first : Contains ps p). still_stays b c (Choice i p) q y.keeps (x.all p q first lt w))
            (λ (second : Contains qs p). y.all p q second lt w)
            (Contains-append_cases ps qs p at);
      }

  pub adds_one_choice : (i : ℕ) (x : S × List ℕ) (p : ℕ) (to : Option ℕ) (passing : PassingSets) (halt : Halt (Option PassingSets)) (last : S) (a b c : Graph) → slice_get states i ≡ Some x → may sys x.0 p ≡ true → IsNumber states (chosen sys steps x.0 p) to → ComesTo sys inside waiting steps (choice_leg sys steps x.0 p) (x.0 ∷ []) passing halt last → AddsStill sys inside waiting steps (choice_leg sys steps x.0 p) (Choice i p) a b → b.processes ≡ a.processes → b.ends.items ≡ a.ends.items → b.edges.items ≡ a.edges.items → c.processes ≡ b.processes → c.ends.items ≡ b.ends.items → c.standstills.items ≡ b.standstills.items → c.edges.items ≡ b.edges.items ++ record { number = p; to = to; passing = passing } ∷ [] → AddsChoices sys inside waiting steps states i x.0 (p ∷ []) a c
  adds_one_choice i x p to passing halt last a b c at m leads seen still processes ends edges processes_more ends_more stills_more edges_more =
      record {
        processes = processes_more ∙ processes;
        ends = ends_more ∙ ends;
        edges = edge ∷ [];
        more = edges_more ∙ ap (λ l. l ++ edge ∷ []) edges;
        numbered = refl;
        choices = (record { to = leads; halt = halt; last = last; seen = seen }, tt);
        keeps = λ s h. subst (λ l. Contains l s) (sym stills_more) (still.keeps s h);
        is = λ s h. ⊎_elim (λ (old : Contains a.standstills.items s). inl old) (λ (new : IsStillOf sys inside waiting steps (choice_leg sys steps x.0 p) (Choice i p) s). inr (is_still s new)) (still.is s (subst (λ l. Contains l s) stills_more h));
        all = λ k q here lt w. all k q (contains_cases p k [] here) lt w;
      }
    where
      edge : Edge
      edge = record { number = p; to = to; passing = passing }

      is_still : (s : Standstill) → IsStillOf sys inside waiting steps (choice_leg sys steps x.0 p) (Choice i p) s → IsStill sys inside waiting steps states s
      is_still s new =
          record {
            leg = choice_leg sys steps x.0 p;
            from = subst (λ o. IsLegFrom sys steps states o (choice_leg sys steps x.0 p)) (sym new.from) (x, at, m, refl);
            round = new.round;
            fair = new.fair;
          }

      all : (k q : ℕ) → (p ≡ k) ⊎ Contains [] k → q < sys.processes → LetsWait sys waiting steps (choice_leg sys steps x.0 k) q → HasStill c (Choice i k) q
      all k q (inr none) lt w = absurd (no_element k none)
      all k q (inl e) lt w =
          subst (λ j. HasStill c (Choice i j) q) e (still_stays b c (Choice i p) q (λ s h. subst (λ l. Contains l s) (sym stills_more) h) (still.all q lt (subst (λ j. LetsWait sys waiting steps (choice_leg sys steps x.0 j) q) (sym e) w)))

  -- ---- states

  pub graph_next : (n : ℕ) (x : S × List ℕ) (a b c : Graph) → IsGraphTo sys inside waiting steps states n a → slice_get states n ≡ Some x → AddsChoices sys inside waiting steps states n x.0 (those_below sys.processes (may sys x.0)) a b → c.processes ≡ b.processes → c.edges.items ≡ b.edges.items → c.standstills.items ≡ b.standstills.items → c.ends.items ≡ b.ends.items ++ length b.edges.items ∷ [] → IsGraphTo sys inside waiting steps states (suc n) c
  graph_next n x a b c g at new processes edges stills ends =
      record {
        within = let lt = slice_get_within states n x at in omega (arith, lt);
        processes = processes ∙ new.processes ∙ g.processes;
        count = ap length more_ends ∙ length-append a.ends.items (length b.edges.items ∷ []) ∙ ap (λ k. k + 1) g.count ∙ plus n;
        end = ap length edges ∙ sym (end_last a c (length b.edges.items) n more_ends (sym g.count));
        edges = λ i y lt is. edges_of i y is (cases_lt i n) lt;
        stills = λ s h. ⊎_elim (λ (old : Contains a.standstills.items s). g.stills s old) (λ (k : IsStill sys inside waiting steps states s). k) (new.is s (subst (λ l. Contains l s) stills h));
        first = λ q lt w. still_stays a c Start q stay (g.first q lt w);
        all = λ i y p q lt is m below w. all i y p q is m below w (cases_lt i n) lt;
      }
    where
      plus : (n : ℕ) → n + 1 ≡ suc n
      plus n = omega arith

      more_ends : c.ends.items ≡ a.ends.items ++ length b.edges.items ∷ []
      more_ends = ends ∙ ap (λ l. l ++ length b.edges.items ∷ []) new.ends

      more_edges : c.edges.items ≡ a.edges.items ++ new.edges
      more_edges = edges ∙ new.more

      stay : (s : Standstill) → Contains a.standstills.items s → Contains c.standstills.items s
      stay s h = subst (λ l. Contains l s) (sym stills) (new.keeps s h)

      here : (i : ℕ) → i ≡ n → AreEdges c i new.edges
      here i is =
          record {
            before = a.edges.items;
            after = [];
            all = more_edges ∙ sym (append-nil (a.edges.items ++ new.edges));
            begin = g.end ∙ ap (first_edge a) (sym is) ∙ first_stays a c (length b.edges.items) i more_ends (let count = g.count in omega (arith, count, is));
            end = sym (length-append a.edges.items new.edges) ∙ ap length (sym new.more) ∙ sym (end_last a c (length b.edges.items) i more_ends (is ∙ sym g.count));
          }

      same_state : (i : ℕ) (y : S × List ℕ) → slice_get states i ≡ Some y → i ≡ n → x ≡ y
      same_state i y is e = same_Some x y (sym at ∙ ap (slice_get states) (sym e) ∙ is)

      edges_of : (i : ℕ) (y : S × List ℕ) → slice_get states i ≡ Some y → (i < n) ⊎ (n ≤ i) → i < suc n → (es : List Edge) × AreEdges c i es × AreChoices sys inside waiting steps states y.0 es
      edges_of i y is (inl lt) below =
          let old = g.edges i y lt is in
          let count = g.count in
          (old.0, edges_stay a c (length b.edges.items) i old.0 new.edges more_ends (omega (arith, lt, count)) more_edges old.1, old.2)
      edges_of i y is (inr le) below =
          let e : i ≡ n = omega (arith, le, below) in
          (new.edges, here i e, subst (λ (z : S × List ℕ). AreChoices sys inside waiting steps states z.0 new.edges) (same_state i y is e) (record { numbers = new.numbered; choices = new.choices }))

      all : (i : ℕ) (y : S × List ℕ) (p q : ℕ) → slice_get states i ≡ Some y → may sys y.0 p ≡ true → q < sys.processes → LetsWait sys waiting steps (choice_leg sys steps y.0 p) q → (i < n) ⊎ (n ≤ i) → i < suc n → HasStill c (Choice i p) q
      all i y p q is m below w (inl lt) le = still_stays a c (Choice i p) q stay (g.all i y p q lt is m below w)
      all i y p q is m below w (inr past) le =
          let e : i ≡ n = omega (arith, past, le) in
          let same = sym (same_state i y is e) in
          let w_here : LetsWait sys waiting steps (choice_leg sys steps x.0 p) q = subst (λ (z : S × List ℕ). LetsWait sys waiting steps (choice_leg sys steps z.0 p) q) same w in
          let m_here : may sys x.0 p ≡ true = subst (λ (z : S × List ℕ). may sys z.0 p ≡ true) same m in
          subst (λ k. HasStill c (Choice k p) q) (sym e) (still_stays b c (Choice n p) q (λ s h. subst (λ l. Contains l s) (sym stills) h) (new.all p q (may_be_those (may sys x.0) sys.processes p (may_below sys x.0 p m_here) m_here) below w_here))

  -- all states were expanded
  pub graph_done : (n : ℕ) (g : Graph) → IsGraphTo sys inside waiting steps states n g → length states ≤ n → IsGraphOf sys inside waiting steps states g
  graph_done n g x le =
      let within = x.within in
      record {
        processes = x.processes;
        count = x.count ∙ omega (arith, le, within);
        edges = λ i y is. let lt = slice_get_within states i y is in x.edges i y (omega (arith, lt, le)) is;
        stills = x.stills;
        all_stills = all;
      }
    where
      all : (o : Origin) (leg : Leg S) (q : ℕ) → q < sys.processes → IsLegFrom sys steps states o leg → LetsWait sys waiting steps leg q → HasStill g o q
      all Start leg q lt from w = x.first q lt (subst (λ l. LetsWait sys waiting steps l q) from w)
      all (Choice i p) leg q lt from w =
          let within = slice_get_within states i from.0 from.1 in
          x.all i from.0 p q (omega (arith, within, le)) from.1 from.2 lt (subst (λ l. LetsWait sys waiting steps l q) from.3 w)

  -- before the first state
  pub graph_begun : (a g : Graph) → a.standstills.items ≡ [] → a.edges.items ≡ [] → a.ends.items ≡ [] → a.processes ≡ sys.processes → AddsStill sys inside waiting steps (first_leg sys steps) Start a g → g.processes ≡ a.processes → g.ends.items ≡ a.ends.items → g.edges.items ≡ a.edges.items → IsGraphTo sys inside waiting steps states 0 g
  graph_begun a g none no_edges no_ends count still processes ends edges =
      record {
        within = omega arith;
        processes = processes ∙ count;
        count = ap length (ends ∙ no_ends);
        end = ap length (edges ∙ no_edges);
        edges = λ i x lt is. absurd (omega (arith, lt));
        stills = λ s h. ⊎_elim (λ (old : Contains a.standstills.items s). absurd (no_element s (subst (λ l. Contains l s) none old))) (λ (new : IsStillOf sys inside waiting steps (first_leg sys steps) Start s). is_still s new) (still.is s h);
        first = still.all;
        all = λ i x p q lt is m below w. absurd (omega (arith, lt));
      }
    where
      is_still : (s : Standstill) → IsStillOf sys inside waiting steps (first_leg sys steps) Start s → IsStill sys inside waiting steps states s
      is_still s new =
          record {
            leg = first_leg sys steps;
            from = subst (λ o. IsLegFrom sys steps states o (first_leg sys steps)) (sym new.from) refl;
            round = new.round;
            fair = new.fair;
          }
