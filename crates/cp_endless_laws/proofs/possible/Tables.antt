-- What is closed where nothing is shown bounds the ends of the tables of the machine that shows, and its words are schedules of that machine.
use Rattle.std.proofs.Common.{◌≡◌, ◌⊎◌, inl, inr, ⊎_elim, ◌∙◌, ℕ, zero, suc, Bool, true, false, ◌&&◌, nat_lt, ◌==◌, if◌then◌else◌, List, [], ◌∷◌, ◌++◌, length, Option, None, Some, ◌≤◌, arith, refl, sym, ap, subst}
use Rattle.cp_endless_laws.proofs.Words.{Contains, Each, Event, OutcomeKind, Turn, Over, Due, Goes, System, node_after, IsClosed, IsIn, Line, lines_of, each, words, table}
use Rattle.std.proofs.lemmas.List.Elements.{All-from_recursion}
use Rattle.cp_machine.specs.declared.event.Event.TheVariants.{Local, Fault, OutputFull}
use Rattle.cp_run.specs.declared.outcome.OutcomeKind.TheVariants.{Finished, AllWaiting, ChoiceLimit, OutputLimit}
use Rattle.cp_run.specs.declared.outcome.Outcome.{Outcome}
use Rattle.cp_run.specs.Run.{those_below, Node, Halted, Choosing, node_at, turn_among, settled_turn, turn_at, turn_after, stretch, opened, may, chosen, Answer, Ended as HasEnded, NotReady, later, run_from, run}
use Rattle.cp_endless_laws.specs.Forgetting.{OutputDecidesNothing, forgetting_system}
use Rattle.cp_endless_laws.specs.Tables.{IsKnownEnd, TablesLaw, WitnessLaw}
use Rattle.cp_endless_laws.proofs.Basics.{each_append}

known_of : (ends : List OutcomeKind) (kind : OutcomeKind) → Contains ends kind → IsKnownEnd ends kind
known_of ends ChoiceLimit k = tt
known_of ends OutputLimit k = tt
known_of ends _ k = k

-- a row that each of some lists has is one of the whole
each_of_all : {A B : Type 0} (P : B → Type 0) (f : A → List B) (xs : List A) → ((x : A) → Each P (f x)) → Each P (each f xs)
each_of_all P f [] h = tt
each_of_all P f (x ∷ xs) h = each_append P (f x) (each f xs) (h x) (each_of_all P f xs h)

same_those : (n : ℕ) (f g : ℕ → Bool) → ((p : ℕ) → f p ≡ g p) → those_below n f ≡ those_below n g
same_those zero f g h = refl
same_those (suc n) f g h = ap (λ l. l ++ (if f n then n ∷ [] else [])) (same_those n f g h) ∙ ap (λ b. those_below n g ++ (if b then n ∷ [] else [])) (h n)

-- the kind of an end
abbrev kind_in : {S : Type 0} → OutcomeKind → Option (Node S) → OutcomeKind
kind_in d (Some (Halted k s)) = k
kind_in d _ = d

same_kind : {S : Type 0} (j k : OutcomeKind) (s t : S) → Some (Halted j s) ≡ Some (Halted k t) → j ≡ k
same_kind j k s t e = ap (kind_in j) e

-- what a system has in common with one that displays less, but where its output is full
pub record Follows {S : Type 0} (a b : System S) (R : S → S → Type 0) : Type 0 where
  pub processes : a.processes ≡ b.processes
  pub ready : (s t : S) (p : ℕ) → R s t → a.is_ready s p ≡ b.is_ready t p
  pub pending : (s t : S) → R s t → a.is_pending s ≡ b.is_pending t
  pub lined : (s t : S) (p : ℕ) → R s t → a.in_line s p ≡ b.in_line t p
  pub waits : (s t : S) → R s t → a.waits s ≡ b.waits t
  pub admit : (s t : S) (p : ℕ) → R s t → R (a.admit s p) (b.admit t p)
  pub step : (s t : S) (p : ℕ) → R s t → (a.event s p ≡ OutputFull) ⊎ ((a.event s p ≡ b.event t p) × R (a.step s p) (b.step t p))

module _ {S : Type 0} (a b : System S) (R : S → S → Type 0) (f : Follows a b R) where
  -- a node, and one with less of what was displayed: the same, but where the output was full
  abbrev pub Near : Node S → Node S → Type 0
  Near (Halted k s) (Halted j t) = (k ≡ OutputLimit) ⊎ (k ≡ j)
  Near (Halted k s) (Choosing t) = k ≡ OutputLimit
  Near (Choosing s) (Halted j t) = ⊥
  Near (Choosing s) (Choosing t) = R s t

  full_near : (s : S) (y : Node S) → Near (Halted OutputLimit s) y
  full_near s (Halted j t) = inl refl
  full_near s (Choosing t) = refl

  among_same : (s t : S) (kernel : Bool) (p : ℕ) (ready : List ℕ) → R s t → turn_among a s kernel p ready ≡ turn_among b t kernel p ready
  among_same s t kernel p [] r = ap (λ c. if c then Over AllWaiting else Over Finished) (f.waits s t r)
  among_same s t kernel p _ r = refl

  settled_same : (s t : S) (kernel : Bool) (p : ℕ) → R s t → settled_turn a s kernel p ≡ settled_turn b t kernel p
  settled_same s t kernel p r =
      ap (turn_among a s kernel p) (same_those a.processes (a.is_ready s) (b.is_ready t) (λ q. f.ready s t q r) ∙ ap (λ n. those_below n (b.is_ready t)) f.processes) ∙ among_same s t kernel p (those_below b.processes (b.is_ready t)) r

  at_same : (s t : S) (kernel : Bool) (p : ℕ) → R s t → turn_at a s kernel p ≡ turn_at b t kernel p
  at_same s t kernel p r = ap (λ c. if c then Due else settled_turn a s kernel p) (f.pending s t r) ∙ ap (λ turn. if b.is_pending t then Due else turn) (settled_same s t kernel p r)

  after_same : (s t : S) (p : ℕ) (e : Event) → R s t → turn_after a s p e ≡ turn_after b t p e
  after_same s t p Local r = at_same s t false p r
  after_same s t p (Fault x) r = refl
  after_same s t p OutputFull r = refl
  after_same s t p _ r = at_same s t true p r

  node_near : (s t : S) (on other : ℕ → Node S) (turn : Turn) → R s t → ((q : ℕ) → Near (on q) (other q)) → Near (node_at s on turn) (node_at t other turn)
  node_near s t on other (Over kind) r h = inr refl
  node_near s t on other Due r h = r
  node_near s t on other (Goes q) r h = h q

  nodes_near : (s t : S) (on other : ℕ → Node S) (turn later : Turn) → turn ≡ later → R s t → ((q : ℕ) → Near (on q) (other q)) → Near (node_at s on turn) (node_at t other later)
  nodes_near s t on other turn later e r h = subst (λ x. Near (node_at s on turn) (node_at t other x)) e (node_near s t on other turn r h)

  stretch_near : (left : ℕ) (s t : S) (p : ℕ) → R s t → Near (stretch a left s p) (stretch b left t p)
  unfolding stretch
  stretch_near zero s t p r = inr refl
  stretch_near (suc left) s t p r =
      ⊎_elim
      (λ (full : a.event s p ≡ OutputFull). subst (λ e. Near (node_at (a.step s p) (stretch a left (a.step s p)) (turn_after a (a.step s p) p e)) (node_at (b.step t p) (stretch b left (b.step t p)) (turn_after b (b.step t p) p (b.event t p)))) (sym full) (full_near (a.step s p) (node_at (b.step t p) (stretch b left (b.step t p)) (turn_after b (b.step t p) p (b.event t p)))))
      (λ (both : (a.event s p ≡ b.event t p) × R (a.step s p) (b.step t p)).
      nodes_near (a.step s p) (b.step t p) (stretch a left (a.step s p)) (stretch b left (b.step t p)) (turn_after a (a.step s p) p (a.event s p)) (turn_after b (b.step t p) p (b.event t p))
      (ap (turn_after a (a.step s p) p) both.0 ∙ after_same (a.step s p) (b.step t p) p (b.event t p) both.1)
      both.1
      (λ q. stretch_near left (a.step s p) (b.step t p) q both.1))
      (f.step s t p r)

  pub may_same : (s t : S) (p : ℕ) → R s t → may a s p ≡ may b t p
  unfolding may
  may_same s t p r =
      ap (λ n. nat_lt p n && (if a.is_pending s then a.in_line s p else a.is_ready s p)) f.processes
      ∙ ap (λ c. nat_lt p b.processes && (if c then a.in_line s p else a.is_ready s p)) (f.pending s t r)
      ∙ ap (λ c. nat_lt p b.processes && (if b.is_pending t then c else a.is_ready s p)) (f.lined s t p r)
      ∙ ap (λ c. nat_lt p b.processes && (if b.is_pending t then b.in_line t p else c)) (f.ready s t p r)

  chosen_near : (steps : ℕ) (s t : S) (p : ℕ) → R s t → Near (chosen a steps s p) (chosen b steps t p)
  unfolding chosen
  chosen_near steps s t p r = by _ _ _ _ (a.is_pending s) (b.is_pending t) (f.pending s t r) (stretch_near steps s t p r)
      (nodes_near (a.admit s p) (b.admit t p) (stretch a steps (a.admit s p)) (stretch b steps (b.admit t p)) (settled_turn a (a.admit s p) true p) (settled_turn b (b.admit t p) true p) (settled_same (a.admit s p) (b.admit t p) true p (f.admit s t p r)) (f.admit s t p r) (λ q. stretch_near steps (a.admit s p) (b.admit t p) q (f.admit s t p r)))
    where
      by : (x y u v : Node S) (c d : Bool) → c ≡ d → Near x y → Near u v → Near (if c then u else x) (if d then v else y)
      by x y u v true true e n m = m
      by x y u v false false e n m = n
      by x y u v true false e n m = absurd (cc)
      by x y u v false true e n m = absurd (cc)

  pub opened_near : R a.start b.start → (steps : ℕ) → Near (opened a steps) (opened b steps)
  unfolding opened
  opened_near start steps = nodes_near a.start b.start (stretch a steps a.start) (stretch b steps b.start) (turn_at a a.start false 0) (turn_at b b.start false 0) (at_same a.start b.start false 0 start) start (λ q. stretch_near steps a.start b.start q start)

  -- ---- the ends of a table

  module _ (steps : ℕ) (among : S → Type 0) (ends : List OutcomeKind) (closed : IsClosed b steps among (Contains ends)) where
    -- the run stops short of an end, or ends so
    abbrev EndsKnown : Answer → Type 0
    EndsKnown (HasEnded o used) = IsKnownEnd ends o.kind
    EndsKnown _ = Unit {0}

    known_later : (x : Answer) → EndsKnown x → EndsKnown (later x)
    known_later (HasEnded o used) h = h
    known_later _ h = h

    halted_known : (k : OutcomeKind) (s : S) (y : Node S) → Near (Halted k s) y → IsIn among (Contains ends) y → IsKnownEnd ends k
    halted_known k s (Halted j t) n i = ⊎_elim (λ (e : k ≡ OutputLimit). subst (IsKnownEnd ends) (sym e) tt) (λ (e : k ≡ j). subst (IsKnownEnd ends) (sym e) (known_of ends j i)) n
    halted_known k s (Choosing t) n i = subst (IsKnownEnd ends) (sym n) tt

    run_known : (word : List ℕ) (choices : ℕ) (x y : Node S) → Near x y → IsIn among (Contains ends) y → EndsKnown (run_from a steps choices word x)
    unfolding run_from
    run_known word choices (Halted k s) y n i = halted_known k s y n i
    run_known word choices (Choosing s) (Halted j t) n i = absurd n
    run_known word zero (Choosing s) (Choosing t) n i = tt
    run_known [] (suc choices) (Choosing s) (Choosing t) n i = tt
    run_known (p ∷ word) (suc choices) (Choosing s) (Choosing t) n i =
        by (may a s p) refl (λ m. run_known word choices (chosen a steps s p) (chosen b steps t p) (chosen_near steps s t p n) (closed.on t p i (sym (may_same s t p n) ∙ m)))
      where
        by : (c : Bool) → may a s p ≡ c → (may a s p ≡ true → EndsKnown (run_from a steps choices word (chosen a steps s p))) → EndsKnown (if c then later (run_from a steps choices word (chosen a steps s p)) else NotReady 0)
        by true m on = known_later (run_from a steps choices word (chosen a steps s p)) (on m)
        by false m on = tt

    line_known : (word : List ℕ) (x : Answer) → EndsKnown x → Each (λ l. IsKnownEnd ends l.outcome.kind) (lines_of word x)
    line_known word (HasEnded o used) h = by (used == length word)
      where
        by : (c : Bool) → Each (λ (l : Line). IsKnownEnd ends l.outcome.kind) (if c then record { word = word; outcome = o } ∷ [] else [])
        by true = (h, tt)
        by false = tt
    line_known word _ h = tt

    pub table_known : R a.start b.start → (choices : ℕ) → Each (λ l. IsKnownEnd ends l.outcome.kind) (table a choices steps)
    unfolding table
    table_known start choices =
        each_of_all (λ (l : Line). IsKnownEnd ends l.outcome.kind) (λ word. lines_of word (run a choices steps word)) (words a.processes choices)
        (λ word. line_known word (run a choices steps word) (run_known word choices (opened a steps) (opened b steps) (opened_near start steps) closed.start))

  -- ---- the run of a word

  EndsSo : OutcomeKind → List ℕ → Answer → Type 0
  EndsSo kind word answer = (o : Outcome) × (used : ℕ) × (answer ≡ HasEnded o used) × (((used ≡ length word) × (o.kind ≡ kind)) ⊎ (o.kind ≡ OutputLimit))

  module _ (steps : ℕ) (kind : OutcomeKind) (last : S) where
    halted_so : (k : OutcomeKind) (s : S) (y : Node S) (word : List ℕ) → Near (Halted k s) y → node_after b steps y word ≡ Some (Halted kind last) → EndsSo kind word (HasEnded (record { kind = k; output = a.output s }) 0)
    unfolding EndsSo
    halted_so k s (Choosing t) word n e = (record { kind = k; output = a.output s }, 0, refl, inr n)
    halted_so k s (Halted j t) (p ∷ word) n e = absurd (cc)
    halted_so k s (Halted j t) [] n e =
        (record { kind = k; output = a.output s }, 0, refl, ⊎_elim (λ (full : k ≡ OutputLimit). inr full) (λ (is : k ≡ j). inl (refl, is ∙ same_kind j kind t last e)) n)

    one_later : (p : ℕ) (word : List ℕ) (x : Answer) → EndsSo kind word x → EndsSo kind (p ∷ word) (later x)
    unfolding EndsSo
    one_later p word x h = (h.0, suc h.1, ap later h.2, ⊎_elim (λ (e : (h.1 ≡ length word) × (h.0.kind ≡ kind)). inl (ap suc e.0, e.1)) (λ (e : h.0.kind ≡ OutputLimit). inr e) h.3)

    run_so : (word : List ℕ) (choices : ℕ) (x y : Node S) → Near x y → length word ≤ choices → node_after b steps y word ≡ Some (Halted kind last) → EndsSo kind word (run_from a steps choices word x)
    unfolding run_from
    run_so word choices (Halted k s) y n le e = halted_so k s y word n e
    run_so word choices (Choosing s) (Halted j t) n le e = absurd n
    run_so [] choices (Choosing s) (Choosing t) n le e = absurd (cc)
    run_so (p ∷ word) zero (Choosing s) (Choosing t) n le e = absurd (omega (arith, le))
    run_so (p ∷ word) (suc choices) (Choosing s) (Choosing t) n le e = by (may a s p) (may b t p) (may_same s t p n) e (λ d. run_so word choices (chosen a steps s p) (chosen b steps t p) (chosen_near steps s t p n) (omega (arith, le)) d)
      where
        by : (c d : Bool) → c ≡ d → (if d then node_after b steps (chosen b steps t p) word else None) ≡ Some (Halted kind last) → (node_after b steps (chosen b steps t p) word ≡ Some (Halted kind last) → EndsSo kind word (run_from a steps choices word (chosen a steps s p))) → EndsSo kind (p ∷ word) (if c then later (run_from a steps choices word (chosen a steps s p)) else NotReady 0)
        by true true i e on = one_later p word (run_from a steps choices word (chosen a steps s p)) (on e)
        by true false i e on = absurd (cc)
        by false true i e on = absurd (cc)
        by false false i e on = absurd (cc)

    witness : R a.start b.start → (word : List ℕ) → node_after b steps (opened b steps) word ≡ Some (Halted kind last) → (choices : ℕ) → length word ≤ choices → EndsSo kind word (run a choices steps word)
    witness start word e choices le = run_so word choices (opened a steps) (opened b steps) (opened_near start steps) le e

-- ---- the machine that shows nothing

silent_follows : {S : Type 0} (sys : System S) (forget : S → S) (R : S → S → Type 0) → OutputDecidesNothing sys forget R → Follows sys (forgetting_system sys forget) R
silent_follows sys forget R f = record {
  processes = refl;
  ready = f.ready;
  pending = f.pending;
  lined = f.lined;
  waits = f.waits;
  admit = f.admit;
  step = λ s t p r. ⊎_elim (λ (full : sys.event s p ≡ OutputFull). inl full) (λ (both : (sys.event s p ≡ sys.event t p) × R (sys.step s p) (sys.step t p)). inr (both.0, f.forgets (sys.step s p) (sys.step t p) both.1)) (f.step s t p r);
}

pub tables_known : {S : Type 0} (sys : System S) (forget : S → S) (R : S → S → Type 0) → OutputDecidesNothing sys forget R → (among : S → Type 0) → TablesLaw sys forget among
tables_known sys forget R f among steps ends closed choices =
    All-from_recursion (λ (l : Line). IsKnownEnd ends l.outcome.kind) (table sys choices steps)
    (table_known sys (forgetting_system sys forget) R (silent_follows sys forget R f) steps among ends closed (f.forgets sys.start sys.start f.start) choices)

pub witnesses : {S : Type 0} (sys : System S) (forget : S → S) (R : S → S → Type 0) → OutputDecidesNothing sys forget R → WitnessLaw sys forget
unfolding EndsSo
witnesses sys forget R f steps word kind e choices le = witness sys (forgetting_system sys forget) R (silent_follows sys forget R f) steps kind e.0 (f.forgets sys.start sys.start f.start) word e.1 choices le
