-- What the words of the graph lead to is what they lead to in the machine that shows nothing.
use Rattle.std.proofs.Common.{◌≡◌, ◌⊎◌, inl, inr, ⊎_elim, ◌∙◌, ◌+◌, ℕ, suc, Bool, true, false, if◌then◌else◌, List, [], ◌∷◌, ◌++◌, Option, None, Some, refl, sym, ap, subst, arith}
use Rattle.cp_ends.proofs.Vocabulary.{Contains, Contains-append_left, Contains-append_right, Contains-append_cases, Shown, OutcomeKind, Turn, System, Node, Halted}
use Rattle.cp_ends.proofs.Vocabulary.{Choosing, may, settled_turn, opened, chosen, each, forgetting_system, Moment, AnyOf, stretch_moments, node_after, LeadsTo}
use Rattle.cp_ends.proofs.Vocabulary.{EndsAfter, SetsOut, spot_after, shown_at, after_first, repeating, happens_early, EndsSo, ShowsSo, Over, Alone, Spins}
use Rattle.cp_run.specs.declared.outcome.OutcomeKind.TheVariants.{Finished, AllWaiting, RunError, ChoiceLimit, StepLimit, OutputLimit}
use Rattle.cp_endless_laws.specs.Repeats.{Repeats, repeated_part, IsAloneAfter, SpinsAfter}
use Rattle.cp_ends.specs.Graph.{Goal, Place, End, Arrival, Graph, further, arrival_from, ArrivesAt, LeadsToPlace, LeadsToEnd, ShowsLast}
use Rattle.cp_ends.specs.Arrivals.{arrival_by, goal_of, has_call, stretch_arrival, first_arrival, next_arrival, ends_graph}
use Rattle.cp_ends.specs.declared.end.End as code
use Rattle.cp_ends.proofs.words.Edges.{some_same, first_edge, first_node, edge_by, next_edge, next_node, edge_node, edge_spot, edge_shown, EndsWith, edge_once, node_edge, edge_leads, spot_edge, edge_sets_out, shows_edge, edge_shows}
use Rattle.cp_ends.proofs.words.Returns.{alone_or_spins, edge_arrival, ComesToNode, ComesAgain, edge_comes, has_calls, has_no_calls}
use Rattle.cp_ends.proofs.Searching.Arrivals.{last_cases as last_of}

-- ---- words of a graph, the last number apart

module _ {S E V : Type 0} (g : Graph S E V) where
  further_on : (next : Arrival S E V → Option (Arrival S E V)) (goal : Goal S E) (p : ℕ) (b : Arrival S E V) → further g next goal p ≡ Some b →
      (s : S) × (goal ≡ Place s) × (g.may s p ≡ true) × (next (g.on s p) ≡ Some b)
  further_on next (End e) p b h = absurd (cc)
  further_on next (Place s) p b h = by (g.may s p) refl h
    where
      by : (m : Bool) → g.may s p ≡ m → (if m then next (g.on s p) else None) ≡ Some b → (t : S) × ((◌≡◌ {A = Goal S E}) (Place s) (Place t)) × (g.may t p ≡ true) × (next (g.on t p) ≡ Some b)
      by true m h = (s, refl, m, h)
      by false m h = absurd (cc)

  pub further_so : (next : Arrival S E V → Option (Arrival S E V)) (goal : Goal S E) (p : ℕ) (s : S) → goal ≡ Place s → g.may s p ≡ true → further g next goal p ≡ next (g.on s p)
  further_so next goal p s e m = ap (λ x. further g next x p) e ∙ ap (λ (b : Bool). if b then next (g.on s p) else None) m

  pub arrival_last : (stem : List ℕ) (c : ℕ) (a b : Arrival S E V) → arrival_from g a (stem ++ c ∷ []) ≡ Some b →
      (t : S) × (x : Arrival S E V) × (arrival_from g a stem ≡ Some x) × (x.goal ≡ Place t) × (g.may t c ≡ true) × (b ≡ g.on t c)
  arrival_last [] c a b h =
      let f = further_on (λ x. Some x) a.goal c b h in
      (f.0, a, refl, f.1, f.2, sym (some_same (g.on f.0 c) b f.3))
  arrival_last (p ∷ stem) c a b h =
      let f = further_on (λ x. arrival_from g x (stem ++ c ∷ [])) a.goal p b h in
      let l = arrival_last stem c (g.on f.0 p) b f.3 in
      (l.0, l.1, further_so (λ x. arrival_from g x stem) a.goal p f.0 f.1 f.2 ∙ l.2, l.3, l.4, l.5)

  pub arrival_on : (stem : List ℕ) (c : ℕ) (a x : Arrival S E V) (t : S) → arrival_from g a stem ≡ Some x → x.goal ≡ Place t → g.may t c ≡ true → arrival_from g a (stem ++ c ∷ []) ≡ Some (g.on t c)
  arrival_on [] c a x t h goal m = further_so (λ y. Some y) a.goal c t (ap (λ (y : Arrival S E V). y.goal) (some_same a x h) ∙ goal) m
  arrival_on (p ∷ stem) c a x t h goal m =
      let f = further_on (λ y. arrival_from g y stem) a.goal p x h in
      further_so (λ y. arrival_from g y (stem ++ c ∷ [])) a.goal p f.0 f.1 f.2 ∙ arrival_on stem c (g.on f.0 p) x t f.3 goal m

-- ---- places

abbrev place_of : {S E : Type 0} → Goal S E → Option S
place_of (Place s) = Some s
place_of (End e) = None

abbrev due_of : {S : Type 0} → Node S → Option S
due_of (Choosing s) = Some s
due_of (Halted kind s) = None

place_is : {S E : Type 0} (goal : Goal S E) (s : S) → place_of goal ≡ Some s → goal ≡ Place s
place_is (Place t) s e = ap (λ u. Place u) (some_same t s e)
place_is (End x) s e = absurd (cc)

due_is : {S : Type 0} (x : Node S) (s : S) → due_of x ≡ Some s → x ≡ Choosing s
due_is (Choosing t) s e = ap (λ u. Choosing u) (some_same t s e)
due_is (Halted kind t) s e = absurd (cc)

goal_due : {S : Type 0} (x : Node S) → place_of (goal_of x) ≡ due_of x
goal_due (Choosing s) = refl
goal_due (Halted kind s) = refl

module _ {S : Type 0} (sys : System S) (forget : S → S) (eq : S → S → Bool) (steps : ℕ) (same : (s t : S) → eq s t ≡ true → s ≡ t) (self : (s : S) → eq s s ≡ true) where
  abbrev quiet : System S
  quiet = forgetting_system sys forget

  abbrev g : Graph S code.End Shown
  g = ends_graph sys forget eq steps

  abbrev arrival : S × Turn → Arrival S code.End Shown
  arrival e = edge_arrival sys forget eq steps e

  start_arrival : g.start ≡ arrival (first_edge quiet)
  unfolding first_arrival
  start_arrival = refl

  on_arrival : (s : S) (p : ℕ) → g.on s p ≡ arrival (next_edge quiet s p)
  unfolding next_arrival
  on_arrival s p = by (sys.is_pending s)
    where
      by : (b : Bool) → (if b then arrival_by (sys.admit s p) (stretch_arrival sys forget eq steps (sys.admit s p)) (settled_turn quiet (sys.admit s p) true p) else stretch_arrival sys forget eq steps s p) ≡ arrival (edge_by quiet s p b)
      by true = refl
      by false = refl

  may_same : (s : S) (p : ℕ) → may sys s p ≡ may quiet s p
  unfolding may
  may_same s p = refl

  edge_due : (e : S × Turn) → place_of (arrival e).goal ≡ due_of (edge_node quiet steps e)
  edge_due e = by (edge_comes sys forget eq steps same self e)
    where
      by : ComesToNode sys forget eq steps e ⊎ ComesAgain sys forget eq steps e → place_of (arrival e).goal ≡ due_of (edge_node quiet steps e)
      by (inl x) = ap (λ (y : Goal S code.End). place_of y) x.goal ∙ goal_due (edge_node quiet steps e)
      by (inr x) = ap (λ (y : Goal S code.End). place_of y) x.goal ∙ ap (λ (n : Node S). due_of n) (sym x.cut)

  start_due : place_of g.start.goal ≡ due_of (opened quiet steps)
  start_due = ap (λ (a : Arrival S code.End Shown). place_of a.goal) start_arrival ∙ edge_due (first_edge quiet) ∙ ap (λ (n : Node S). due_of n) (first_node quiet steps)

  on_due : (s : S) (p : ℕ) → place_of (g.on s p).goal ≡ due_of (chosen quiet steps s p)
  on_due s p = ap (λ (a : Arrival S code.End Shown). place_of a.goal) (on_arrival s p) ∙ edge_due (next_edge quiet s p) ∙ ap (λ (n : Node S). due_of n) (next_node quiet steps s p)

  from_there : (word : List ℕ) (a b : Arrival S code.End Shown) (x : Node S) (s : S) → place_of a.goal ≡ due_of x → arrival_from g a word ≡ Some b → b.goal ≡ Place s → node_after quiet steps x word ≡ Some (Choosing s)
  from_there [] a b x s due h goal =
      ap (λ (n : Node S). Some n) (due_is x s (sym due ∙ ap (λ (y : Arrival S code.End Shown). place_of y.goal) (some_same a b h) ∙ ap (λ (y : Goal S code.End). place_of y) goal))
  from_there (p ∷ word) a b x s due h goal =
      let f = further_on g (λ y. arrival_from g y word) a.goal p b h in
      let here = due_is x f.0 (sym due ∙ ap (λ (y : Goal S code.End). place_of y) f.1) in
      ap (λ (n : Node S). node_after quiet steps n (p ∷ word)) here ∙ ap (λ (m : Bool). if m then node_after quiet steps (chosen quiet steps f.0 p) word else None) (sym (may_same f.0 p) ∙ f.2) ∙
      from_there word (g.on f.0 p) b (chosen quiet steps f.0 p) s (on_due f.0 p) f.3 goal

  from_back : (word : List ℕ) (a : Arrival S code.End Shown) (x : Node S) (s : S) → place_of a.goal ≡ due_of x → node_after quiet steps x word ≡ Some (Choosing s) → (b : Arrival S code.End Shown) × (arrival_from g a word ≡ Some b) × (b.goal ≡ Place s)
  from_back [] a x s due h = (a, refl, place_is a.goal s (due ∙ ap (λ (n : Node S). due_of n) (some_same x (Choosing s) h)))
  from_back (p ∷ word) a (Halted kind t) s due h = absurd (cc)
  from_back (p ∷ word) a (Choosing t) s due h =
      let m = after_first quiet steps t p word (Choosing s) h in
      let rest = from_back word (g.on t p) (chosen quiet steps t p) s (on_due t p) m.1 in
      (rest.0, further_so g (λ y. arrival_from g y word) a.goal p t (place_is a.goal t due) (may_same t p ∙ m.0) ∙ rest.1, rest.2)

  -- a word leads to a place exactly where it leads to a due choice in this state
  pub place_there : (s : S) (word : List ℕ) → LeadsToPlace g s word → LeadsTo quiet steps word (Choosing s)
  place_there s word (a, arrives, goal) = from_there word g.start a (opened quiet steps) s start_due arrives goal

  pub place_back : (s : S) (word : List ℕ) → LeadsTo quiet steps word (Choosing s) → LeadsToPlace g s word
  place_back s word leads = from_back word g.start (opened quiet steps) s start_due leads

  -- ---- the last edge of a word

  abbrev Last : List ℕ → S × Turn → Type 0
  Last word e = EndsWith quiet steps word e

  arrives_edge : (word : List ℕ) (a : Arrival S code.End Shown) → ArrivesAt g word a → (e : S × Turn) × Last word e × (a ≡ arrival e)
  arrives_edge word a arrives = by (last_of word)
    where
      by : (word ≡ []) ⊎ ((stem : List ℕ) × (c : ℕ) × (word ≡ stem ++ c ∷ [])) → (e : S × Turn) × Last word e × (a ≡ arrival e)
      by (inl none) = (first_edge quiet, inl (none, refl), sym (some_same g.start a (ap (λ w. arrival_from g g.start w) (sym none) ∙ arrives)) ∙ start_arrival)
      by (inr y) =
          let l = arrival_last g y.0 y.1 g.start a (ap (λ w. arrival_from g g.start w) (sym y.2) ∙ arrives) in
          (next_edge quiet l.0 y.1, inr (y.0, y.1, l.0, y.2, place_there l.0 y.0 (l.1, l.2, l.3), sym (may_same l.0 y.1) ∙ l.4, refl), l.5 ∙ on_arrival l.0 y.1)

  edge_arrives : (word : List ℕ) (e : S × Turn) → Last word e → ArrivesAt g word (arrival e)
  edge_arrives word e (inl x) = ap (λ w. arrival_from g g.start w) x.0 ∙ ap (λ (a : Arrival S code.End Shown). Some a) (start_arrival ∙ ap arrival (sym x.1))
  edge_arrives word e (inr x) =
      let place = place_back x.2 x.0 x.4 in
      ap (λ w. arrival_from g g.start w) x.3 ∙ arrival_on g x.0 x.1 g.start place.0 x.2 place.1 place.2 (may_same x.2 x.1 ∙ x.5) ∙
      ap (λ (a : Arrival S code.End Shown). Some a) (on_arrival x.2 x.1 ∙ ap arrival (sym x.6))

  -- ---- ends

  pub alone_of : (word : List ℕ) (e : S × Turn) → Last word e → (x : ComesAgain sys forget eq steps e) → has_call quiet (repeated_part x.repeats) ≡ true → IsAloneAfter quiet steps word x.repeats.process
  alone_of word e last x calls =
      record { begin = x.begin; first = x.first; sets_out = edge_sets_out quiet steps word e x.begin x.first last x.spot; repeats = x.repeats; is = refl; calls = has_calls quiet (repeated_part x.repeats) calls }

  pub spins_of : (word : List ℕ) (e : S × Turn) → Last word e → (x : ComesAgain sys forget eq steps e) → has_call quiet (repeated_part x.repeats) ≡ false → SpinsAfter quiet steps word x.repeats.process
  spins_of word e last x calls =
      record { begin = x.begin; first = x.first; sets_out = edge_sets_out quiet steps word e x.begin x.first last x.spot; repeats = x.repeats; is = refl; calls_none = has_no_calls quiet (repeated_part x.repeats) calls }

  -- a stretch that repeats is one that comes again
  repeats_again : (word : List ℕ) (e : S × Turn) (s : S) (p : ℕ) → Last word e → SetsOut quiet steps word s p → Repeats quiet steps s p → ComesToNode sys forget eq steps e → ⊥
  repeats_again word e s p last out r x =
      let there = spot_edge quiet steps word s p out in
      x.repeats_none s p (ap (edge_spot quiet) (edge_once quiet steps word e there.0 last there.1) ∙ there.2) r

  end_same : (a b : code.End) → (◌≡◌ {A = Goal S code.End}) (End a) (End b) → a ≡ b
  end_same a b e = cc

  pub plain_end : (word : List ℕ) (e : S × Turn) → Last word e → ComesToNode sys forget eq steps e → (x : Node S) → edge_node quiet steps e ≡ x → (end : code.End) → goal_of x ≡ End end → EndsSo quiet steps end word
  plain_end word e last plain (Choosing s) is end goal = absurd (cc)
  plain_end word e last plain (Halted kind s) is end goal = subst (λ (y : code.End). EndsSo quiet steps y word) (end_same (Over kind) end goal) (by kind (s, edge_leads quiet steps word e last ∙ ap (λ (n : Node S). Some n) is))
    where
      by : (kind : OutcomeKind) → EndsAfter quiet steps word kind → EndsSo quiet steps (Over kind) word
      by StepLimit ends = (
        ends,
        λ q a. repeats_again word e a.begin a.first last a.sets_out a.repeats plain,
        λ q a. repeats_again word e a.begin a.first last a.sets_out a.repeats plain,
      )
      by Finished ends = ends
      by AllWaiting ends = ends
      by (RunError name process line) ends = ends
      by ChoiceLimit ends = ends
      by OutputLimit ends = ends

  end_of : (word : List ℕ) (e : S × Turn) → Last word e → (end : code.End) → (arrival e).goal ≡ End end → EndsSo quiet steps end word
  end_of word e last end goal = by (edge_comes sys forget eq steps same self e)
    where
      again : (x : ComesAgain sys forget eq steps e) (b : Bool) → has_call quiet (repeated_part x.repeats) ≡ b → (◌≡◌ {A = Goal S code.End}) (End (alone_or_spins b x.repeats.process)) (End end) → EndsSo quiet steps end word
      again x true calls is = subst (λ (y : code.End). EndsSo quiet steps y word) (end_same (Alone x.repeats.process) end is) (alone_of word e last x calls)
      again x false calls is = subst (λ (y : code.End). EndsSo quiet steps y word) (end_same (Spins x.repeats.process) end is) (spins_of word e last x calls)

      by : ComesToNode sys forget eq steps e ⊎ ComesAgain sys forget eq steps e → EndsSo quiet steps end word
      by (inl x) = plain_end word e last x (edge_node quiet steps e) refl end (sym x.goal ∙ goal)
      by (inr x) = again x (has_call quiet (repeated_part x.repeats)) refl (sym x.goal ∙ goal)

  -- a word leads to an end of the graph exactly where it ends so
  pub end_there : (end : code.End) (word : List ℕ) → LeadsToEnd g end word → EndsSo quiet steps end word
  end_there end word (a, arrives, goal) =
      let e = arrives_edge word a arrives in
      end_of word e.0 e.1 end (ap (λ (x : Arrival S code.End Shown). x.goal) (sym e.2) ∙ goal)

  over_same : (s t : S) (kind : OutcomeKind) → (◌≡◌ {A = Node S}) (Halted StepLimit s) (Halted kind t) → StepLimit ≡ kind
  over_same s t kind e = cc

  goal_here : (word : List ℕ) (e : S × Turn) → Last word e → (end : code.End) → (arrival e).goal ≡ End end → LeadsToEnd g end word
  goal_here word e last end goal = (arrival e, edge_arrives word e last, goal)

  module _ (word : List ℕ) (e : S × Turn) (last : Last word e) where
    -- an end that is not the limit of steps, or that is not seen to repeat
    over_back : (kind : OutcomeKind) → EndsAfter quiet steps word kind → (ComesAgain sys forget eq steps e → StepLimit ≡ kind → ⊥) → LeadsToEnd g (Over kind) word
    over_back kind ends never = by (edge_comes sys forget eq steps same self e)
      where
        halted : edge_node quiet steps e ≡ Halted kind ends.0
        halted = some_same (edge_node quiet steps e) (Halted kind ends.0) (sym (edge_leads quiet steps word e last) ∙ ends.1)

        by : ComesToNode sys forget eq steps e ⊎ ComesAgain sys forget eq steps e → LeadsToEnd g (Over kind) word
        by (inl x) = goal_here word e last (Over kind) (x.goal ∙ ap (λ (n : Node S). goal_of n) halted)
        by (inr x) = absurd (never x (over_same x.repeats.state ends.0 kind (sym x.cut ∙ halted)))

    again_either : ComesAgain sys forget eq steps e → ((q : ℕ) → IsAloneAfter quiet steps word q → ⊥) → ((q : ℕ) → SpinsAfter quiet steps word q → ⊥) → ⊥
    again_either x alone_none spins_none = by (has_call quiet (repeated_part x.repeats)) refl
      where
        by : (b : Bool) → has_call quiet (repeated_part x.repeats) ≡ b → ⊥
        by true calls = alone_none x.repeats.process (alone_of word e last x calls)
        by false calls = spins_none x.repeats.process (spins_of word e last x calls)

    alone_back : (q : ℕ) → IsAloneAfter quiet steps word q → LeadsToEnd g (Alone q) word
    alone_back q a = by (edge_comes sys forget eq steps same self e)
      where
        again : (x : ComesAgain sys forget eq steps e) (b : Bool) → has_call quiet (repeated_part x.repeats) ≡ b → LeadsToEnd g (Alone q) word
        again x true calls = goal_here word e last (Alone q)
            (x.goal ∙ ap (λ b. End (alone_or_spins b x.repeats.process)) calls ∙ ap (λ r. End (Alone r)) ((repeating quiet).one_alone steps word x.repeats.process q (alone_of word e last x calls) a))
        again x false calls = absurd ((repeating quiet).not_both steps word q x.repeats.process a (spins_of word e last x calls))

        by : ComesToNode sys forget eq steps e ⊎ ComesAgain sys forget eq steps e → LeadsToEnd g (Alone q) word
        by (inl x) = absurd (repeats_again word e a.begin a.first last a.sets_out a.repeats x)
        by (inr x) = again x (has_call quiet (repeated_part x.repeats)) refl

    spins_back : (q : ℕ) → SpinsAfter quiet steps word q → LeadsToEnd g (Spins q) word
    spins_back q a = by (edge_comes sys forget eq steps same self e)
      where
        again : (x : ComesAgain sys forget eq steps e) (b : Bool) → has_call quiet (repeated_part x.repeats) ≡ b → LeadsToEnd g (Spins q) word
        again x true calls = absurd ((repeating quiet).not_both steps word x.repeats.process q (alone_of word e last x calls) a)
        again x false calls = goal_here word e last (Spins q)
            (x.goal ∙ ap (λ b. End (alone_or_spins b x.repeats.process)) calls ∙ ap (λ r. End (Spins r)) ((repeating quiet).one_spins steps word x.repeats.process q (spins_of word e last x calls) a))

        by : ComesToNode sys forget eq steps e ⊎ ComesAgain sys forget eq steps e → LeadsToEnd g (Spins q) word
        by (inl x) = absurd (repeats_again word e a.begin a.first last a.sets_out a.repeats x)
        by (inr x) = again x (has_call quiet (repeated_part x.repeats)) refl

  kind_back : (kind : OutcomeKind) (word : List ℕ) → EndsAfter quiet steps word kind → (StepLimit ≡ kind → ⊥) → LeadsToEnd g (Over kind) word
  kind_back kind word ends other = let e = node_edge quiet steps word (Halted kind ends.0) ends.1 in over_back word e.0 e.1 kind ends (λ x is. other is)

  pub end_back : (end : code.End) (word : List ℕ) → EndsSo quiet steps end word → LeadsToEnd g end word
  end_back (Over StepLimit) word (ends, alone_none, spins_none) =
      let e = node_edge quiet steps word (Halted StepLimit ends.0) ends.1 in
      over_back word e.0 e.1 StepLimit ends (λ x is. again_either word e.0 e.1 x alone_none spins_none)
  end_back (Over Finished) word ends = kind_back Finished word ends (λ is. cc)
  end_back (Over AllWaiting) word ends = kind_back AllWaiting word ends (λ is. cc)
  end_back (Over (RunError name process line)) word ends = kind_back (RunError name process line) word ends (λ is. cc)
  end_back (Over ChoiceLimit) word ends = kind_back ChoiceLimit word ends (λ is. cc)
  end_back (Over OutputLimit) word ends = kind_back OutputLimit word ends (λ is. cc)
  end_back (Alone q) word a = let e = spot_edge quiet steps word a.begin a.first a.sets_out in alone_back word e.0 e.1 q a
  end_back (Spins q) word a = let e = spot_edge quiet steps word a.begin a.first a.sets_out in spins_back word e.0 e.1 q a

  -- ---- values

  pub value_any : (v : Shown) (ms : List (Moment S)) → Contains (each (shown_at sys) ms) v → AnyOf (λ m. Contains (shown_at sys m) v) ms
  value_any v [] c = let less = c.1 in absurd (omega (arith, less))
  value_any v (m ∷ ms) c = ⊎_elim (λ (l : Contains (shown_at sys m) v). inl l) (λ (r : Contains (each (shown_at sys) ms) v). inr (value_any v ms r)) (Contains-append_cases (shown_at sys m) (each (shown_at sys) ms) v c)

  pub any_value : (v : Shown) (ms : List (Moment S)) → AnyOf (λ m. Contains (shown_at sys m) v) ms → Contains (each (shown_at sys) ms) v
  any_value v [] a = absurd a
  any_value v (m ∷ ms) (inl now) = Contains-append_left (shown_at sys m) (each (shown_at sys) ms) v now
  any_value v (m ∷ ms) (inr rest) = Contains-append_right (shown_at sys m) (each (shown_at sys) ms) v (any_value v ms rest)

  -- what one part that repeats shows, every other shows
  part_shows : (s t : S) (p q : ℕ) → (◌≡◌ {A = S × ℕ}) (s, p) (t, q) → (a : Repeats quiet steps s p) (b : Repeats quiet steps t q) (v : Shown) → Contains (each (shown_at sys) (repeated_part a)) v → Contains (each (shown_at sys) (repeated_part b)) v
  part_shows s t p q e a b v c =
      let P : Moment S → Type 0 = λ (m : Moment S). Contains (shown_at sys m) v in
      let spot = some_same (a.state, a.process) (b.state, b.process) (sym a.comes ∙ ap (λ (x : S × ℕ). spot_after quiet steps x.0 x.1) e ∙ b.comes) in
      let there = subst (λ (x : S × ℕ). AnyOf P (stretch_moments quiet (suc a.after) x.0 x.1)) spot (value_any v (repeated_part a) c) in
      any_value v (repeated_part b)
      (subst (λ n. AnyOf P (stretch_moments quiet n b.state b.process)) (none (suc b.after))
      (happens_early quiet b.state b.process (record { before = 0; state = b.state; process = b.process; comes = refl; after = b.after; returns = b.returns }) P (suc a.after) there))
    where
      none : (n : ℕ) → 0 + n ≡ n
      none n = omega arith

  module _ (v : Shown) (word : List ℕ) where
    -- the last edge of a word shows a value exactly where the word shows it so
    pub shows_there : ShowsLast g v word → ShowsSo sys forget steps v word
    shows_there (a, arrives, c) =
        let e = arrives_edge word a arrives in
        by e.0 e.1 (edge_comes sys forget eq steps same self e.0) (subst (λ (x : Arrival S code.End Shown). Contains x.shown v) e.2 c)
      where
        by : (e : S × Turn) → Last word e → ComesToNode sys forget eq steps e ⊎ ComesAgain sys forget eq steps e → Contains (arrival e).shown v → ShowsSo sys forget steps v word
        by e last (inl x) c = inl (edge_shows sys forget steps word v e last (subst (λ xs. Contains xs v) x.shown c))
        by e last (inr x) c = ⊎_elim
            (λ (l : Contains (edge_shown sys forget steps e) v). inl (edge_shows sys forget steps word v e last l))
            (λ (r : Contains (each (shown_at sys) (repeated_part x.repeats)) v). inr (record { begin = x.begin; first = x.first; sets_out = edge_sets_out quiet steps word e x.begin x.first last x.spot; repeats = x.repeats; shown = r }))
            (Contains-append_cases (edge_shown sys forget steps e) (each (shown_at sys) (repeated_part x.repeats)) v (subst (λ xs. Contains xs v) x.shown c))

    shown_here : (e : S × Turn) → Last word e → Contains (arrival e).shown v → ShowsLast g v word
    shown_here e last c = (arrival e, edge_arrives word e last, c)

    pub shows_back : ShowsSo sys forget steps v word → ShowsLast g v word
    shows_back (inl x) = let e = shows_edge sys forget steps word v x in by e.0 e.1 e.2 (edge_comes sys forget eq steps same self e.0)
      where
        by : (e : S × Turn) → Last word e → Contains (edge_shown sys forget steps e) v → ComesToNode sys forget eq steps e ⊎ ComesAgain sys forget eq steps e → ShowsLast g v word
        by e last c (inl y) = shown_here e last (subst (λ xs. Contains xs v) (sym y.shown) c)
        by e last c (inr y) = shown_here e last (subst (λ xs. Contains xs v) (sym y.shown) (Contains-append_left (edge_shown sys forget steps e) (each (shown_at sys) (repeated_part y.repeats)) v c))
    shows_back (inr x) = let e = spot_edge quiet steps word x.begin x.first x.sets_out in by e.0 e.1 e.2 (edge_comes sys forget eq steps same self e.0)
      where
        by : (e : S × Turn) → Last word e → edge_spot quiet e ≡ Some (x.begin, x.first) → ComesToNode sys forget eq steps e ⊎ ComesAgain sys forget eq steps e → ShowsLast g v word
        by e last spot (inl y) = absurd (repeats_again word e x.begin x.first last x.sets_out x.repeats y)
        by e last spot (inr y) = shown_here e last (subst (λ xs. Contains xs v) (sym y.shown)
            (Contains-append_right (edge_shown sys forget steps e) (each (shown_at sys) (repeated_part y.repeats)) v
            (part_shows x.begin y.begin x.first y.first (some_same (x.begin, x.first) (y.begin, y.first) (sym spot ∙ y.spot)) x.repeats y.repeats v x.shown)))
