-- A stretch that displays nothing is that of a machine that displayed something before, with the values appended, as long as there is room for them.
use Rattle.std.proofs.Common.{◌≡◌, ◌∙◌, ◌+◌, ◌≤◌, ℕ, zero, suc, Bool, true, false, if◌then◌else◌, List, [], ◌∷◌, ◌++◌, length, Option, None, Some, ap, append-nil, arith, refl, sym, subst}
use Rattle.std.specs.Prelude.{◌==◌}
use Rattle.std.proofs.lemmas.Bool.{ne_eqb}
use Rattle.std.proofs.lemmas.List.{append_assoc, length-append}
use Rattle.cp_slots.specs.Tables.{Tables}
use Rattle.cp_machine.specs.declared.discipline.Discipline.{Discipline}
use Rattle.cp_machine.specs.declared.event.Event.{Event}
use Rattle.cp_machine.specs.declared.event.Event.TheVariants.{Local, Kernel, Ended, Fault, OutputFull}
use Rattle.cp_machine.specs.declared.event.Kernel.TheVariants as call
use Rattle.cp_machine.specs.declared.process.Entry.{Entry}
use Rattle.cp_machine.specs.declared.shown.Shown.{Shown}
use Rattle.cp_machine.specs.declared.state.TheConstants.{MOST_SHOWN}
use Rattle.cp_machine.specs.Machine.{Machine, is_pending, is_ready, with_output, with_stack}
use Rattle.cp_machine.specs.Opening.{admit_at, admit_waiting}
use Rattle.cp_machine.specs.Statements.{Stepped, show}
use Rattle.cp_machine.specs.Step.{step_at}
use Rattle.cp_machine.proofs.StepKeeps.{step_keeps, step_twins}
use Rattle.cp_run.specs.declared.outcome.Halt.{Halt}
use Rattle.cp_run.specs.declared.outcome.Halt.TheVariants.{Choice, Ended as HasEnded}
use Rattle.cp_run.specs.declared.outcome.OutcomeKind.{OutcomeKind}
use Rattle.cp_run.specs.declared.outcome.Turn.{Turn}
use Rattle.cp_run.specs.declared.outcome.Turn.TheVariants.{Due, Goes, Over}
use Rattle.cp_run.specs.Code.{halt_at, node_of}
use Rattle.cp_run.specs.Fold.{fold_chosen, fold_stretch, fold_turn, walked, walked_chosen}
use Rattle.cp_run.specs.Run.{Choosing, Halted, Node, chosen, node_at, opened, settled_turn, stretch, those_below, turn_after, turn_among, turn_at}
use Rattle.cp_run.specs.Silent.{silent_slots, without_output}
use Rattle.cp_run.specs.Slots.{slots}
use Rattle.cp_run.specs.System.{System}
use Rattle.cp_run.proofs.Walking.{halts_so}
use Rattle.cp_stretches.specs.Stretching.{shower, turn_of}

-- ---- a step

abbrev stepped : Machine → Event → Stepped
stepped m event = record { machine = m; event = event }

-- the second step is the first of a machine that displayed this before, if there is room for what it displays
abbrev Louder : List Shown → Stepped → Stepped → Type 0
Louder o x y = length o + length x.machine.output ≤ MOST_SHOWN → y ≡ stepped (with_output x.machine (o ++ x.machine.output)) x.event

module _ (o : List Shown) (m : Machine) (quiet : m.output ≡ []) where
  still : (k : Machine) (event : Event) → k.output ≡ m.output → Louder o (stepped k event) (stepped (with_output k o) event)
  still k event e room = ap (λ out. stepped (with_output k out) event) (sym (ap (λ out. o ++ out) (e ∙ quiet) ∙ append-nil o))

  module _ (pid : ℕ) (rest : List Entry) (v : Shown) where
    abbrev more : List Shown → Machine
    more out = with_output (with_stack m pid rest) (out ++ v ∷ [])

    empty : (length m.output == MOST_SHOWN) ≡ false
    empty = ne_eqb (length m.output) MOST_SHOWN (λ e. omega (arith, e, ap length quiet))

    not_full : length o + length (m.output ++ v ∷ []) ≤ MOST_SHOWN → (length o == MOST_SHOWN) ≡ false
    not_full l = ne_eqb (length o) MOST_SHOWN (λ e. omega (arith, e, l, length-append m.output (v ∷ [])))

    second : (c : Bool) → c ≡ false → (if c then stepped (with_output m o) OutputFull else stepped (more o) (Kernel call.Display)) ≡ stepped (with_output (more m.output) (o ++ (m.output ++ v ∷ []))) (Kernel call.Display)
    second true e = absurd (cc)
    second false e = ap (λ out. stepped (with_output (with_stack m pid rest) (o ++ out)) (Kernel call.Display)) (sym (ap (λ out. out ++ v ∷ []) quiet))

    both : (b c : Bool) → b ≡ false → (length o + length (m.output ++ v ∷ []) ≤ MOST_SHOWN → c ≡ false) →
        Louder o (if b then stepped m OutputFull else stepped (more m.output) (Kernel call.Display)) (if c then stepped (with_output m o) OutputFull else stepped (more o) (Kernel call.Display))
    both true c e f = absurd (cc)
    both false c e f = λ room. second c (f room)

    shows : Louder o (show m pid rest v) (show (with_output m o) pid rest v)
    shows = both (length m.output == MOST_SHOWN) (length o == MOST_SHOWN) empty not_full

  pub step_louder : (r : Tables) (pid : ℕ) → Louder o (step_at r m pid) (step_at r (with_output m o) pid)
  step_louder r pid = step_twins o (Louder o) r m pid still (shows pid)

-- who is let in
module _ (m : Machine) (p : ℕ) where
  admitted_louder : (o : List Shown) → admit_waiting (with_output m o) p ≡ with_output (admit_waiting m p) o
  admitted_louder o = by m.pending
    where
      by : (w : Option ℕ) → admit_at w (with_output m o) p ≡ with_output (admit_at w m p) o
      by None = refl
      by (Some monitor) = refl

  admitted_output : (admit_waiting m p).output ≡ m.output
  admitted_output = by m.pending
    where
      by : (w : Option ℕ) → (admit_at w m p).output ≡ m.output
      by None = refl
      by (Some monitor) = refl

  admitted_ruled : (admit_waiting m p).discipline ≡ m.discipline
  admitted_ruled = by m.pending
    where
      by : (w : Option ℕ) → (admit_at w m p).discipline ≡ m.discipline
      by None = refl
      by (Some monitor) = refl

-- ---- a stretch

module _ (r : Tables) (discipline : Discipline) where
  abbrev loud : System Machine
  loud = slots r discipline

  abbrev quiet : System Machine
  quiet = silent_slots r discipline

  -- what comes next does not depend on what was displayed
  among_louder : (m : Machine) (o : List Shown) (kernel : Bool) (p : ℕ) (ready : List ℕ) → turn_among loud (with_output m o) kernel p ready ≡ turn_among quiet m kernel p ready
  among_louder m o kernel p [] = refl
  among_louder m o kernel p (q ∷ []) = refl
  among_louder m o kernel p (q ∷ u ∷ qs) = refl

  settled_louder : (m : Machine) (o : List Shown) (kernel : Bool) (p : ℕ) → settled_turn loud (with_output m o) kernel p ≡ settled_turn quiet m kernel p
  settled_louder m o kernel p = among_louder m o kernel p (those_below loud.processes (is_ready m))

  at_louder : (m : Machine) (o : List Shown) (kernel : Bool) (p : ℕ) → turn_at loud (with_output m o) kernel p ≡ turn_at quiet m kernel p
  at_louder m o kernel p = ap (λ t. if is_pending m then Due else t) (settled_louder m o kernel p)

  after_louder : (m : Machine) (o : List Shown) (p : ℕ) (event : Event) → turn_after loud (with_output m o) p event ≡ turn_after quiet m p event
  after_louder m o p Local = at_louder m o false p
  after_louder m o p (Kernel k) = at_louder m o true p
  after_louder m o p Ended = at_louder m o true p
  after_louder m o p (Fault e) = refl
  after_louder m o p OutputFull = refl

  -- values are appended alone
  more_turn : (n : ℕ) (m : Machine) (turn : Turn) (x : List Shown) → ((p : ℕ) (y : List Shown) → length y ≤ length (fold_stretch quiet (shower r) n m p y)) → length x ≤ length (fold_turn (fold_stretch quiet (shower r) n m) turn x)
  more_turn n m (Goes p) x on = on p x
  more_turn n m (Over kind) x on = omega arith
  more_turn n m Due x on = omega arith

  more_stretch : (n : ℕ) (m : Machine) (p : ℕ) (x : List Shown) → length x ≤ length (fold_stretch quiet (shower r) n m p x)
  unfolding fold_stretch
  more_stretch zero m p x = omega arith
  more_stretch (suc n) m p x =
      let t : Machine = quiet.step m p in
      let out : List Shown = (step_at r m p).machine.output in
      let on : length (x ++ out) ≤ length (fold_turn (fold_stretch quiet (shower r) n t) (turn_after quiet t p (quiet.event m p)) (x ++ out)) = more_turn n t (turn_after quiet t p (quiet.event m p)) (x ++ out) (more_stretch n t) in
      omega (arith, on, length-append x out)

  module _ (base : List Shown) where
    -- where both stand, when these values were displayed on the way
    abbrev Stands : ℕ → Machine → Turn → List Shown → Machine → Turn → List Shown → Type 0
    Stands n m turn x after next shown = walked loud n (with_output m (base ++ x)) turn ≡ (with_output after (base ++ shown), next)

    here : (m : Machine) (turn : Turn) (x : List Shown) (after : Machine) (next : Turn) (shown : List Shown) → (◌≡◌ {A = Machine × Turn}) (m, turn) (after, next) → x ≡ shown → (◌≡◌ {A = Machine × Turn}) (with_output m (base ++ x), turn) (with_output after (base ++ shown), next)
    here m turn x after next shown is told =
        ap (λ (w : Machine × Turn). let z : Machine × Turn = (with_output w.0 (base ++ x), w.1) in z) is ∙ ap (λ y. let z : Machine × Turn = (with_output after (base ++ y), next) in z) told

    pub walked_louder : (n : ℕ) (m : Machine) (turn : Turn) (x : List Shown) (after : Machine) (next : Turn) (shown : List Shown) → m.output ≡ [] →
        walked quiet n m turn ≡ (after, next) → fold_turn (fold_stretch quiet (shower r) n m) turn x ≡ shown → length base + length shown ≤ MOST_SHOWN → Stands n m turn x after next shown
    unfolding walked fold_stretch
    walked_louder zero m (Over kind) x after next shown none is told room = here m (Over kind) x after next shown is told
    walked_louder zero m Due x after next shown none is told room = here m Due x after next shown is told
    walked_louder zero m (Goes p) x after next shown none is told room = here m (Goes p) x after next shown is told
    walked_louder (suc n) m (Over kind) x after next shown none is told room = here m (Over kind) x after next shown is told
    walked_louder (suc n) m Due x after next shown none is told room = here m Due x after next shown is told
    walked_louder (suc n) m (Goes p) x after next shown none is told room =
        let s : Stepped = step_at r m p in
        let t : Machine = without_output s.machine in
        let out : List Shown = s.machine.output in
        let turn : Turn = turn_after quiet t p s.event in
        let on : length (x ++ out) ≤ length shown = subst (λ l. length (x ++ out) ≤ length l) told (more_turn n t turn (x ++ out) (more_stretch n t)) in
        let few : length (base ++ x) + length out ≤ MOST_SHOWN = omega (arith, on, room, length-append x out, length-append base x) in
        let step : step_at r (with_output m (base ++ x)) p ≡ stepped (with_output s.machine ((base ++ x) ++ out)) s.event = step_louder (base ++ x) m none r p few in
        ap (λ (y : Stepped). walked loud n y.machine (turn_after loud y.machine p y.event)) step
        ∙ ap (λ o. walked loud n (with_output s.machine o) (turn_after loud (with_output s.machine o) p s.event)) (append_assoc base x out)
        ∙ ap (walked loud n (with_output s.machine (base ++ (x ++ out)))) (after_louder t (base ++ (x ++ out)) p s.event)
        ∙ walked_louder n t turn (x ++ out) after next shown refl is told room

    halted : (halt : Halt OutcomeKind) → halt_at (turn_of halt) ≡ halt
    halted Choice = refl
    halted (HasEnded kind) = refl

    stands_louder : (n : ℕ) (m : Machine) (turn : Turn) (after : Machine) (halt : Halt OutcomeKind) (shown : List Shown) → m.output ≡ [] →
        walked quiet n m turn ≡ (after, turn_of halt) → fold_turn (fold_stretch quiet (shower r) n m) turn [] ≡ shown → length base + length shown ≤ MOST_SHOWN →
        node_at (with_output m base) (stretch loud n (with_output m base)) turn ≡ node_of halt (with_output after (base ++ shown))
    stands_louder n m turn after halt shown none is told room =
        let so : walked loud n (with_output m base) turn ≡ (with_output after (base ++ shown), turn_of halt) = ap (λ o. walked loud n (with_output m o) turn) (sym (append-nil base)) ∙ walked_louder n m turn [] after (turn_of halt) shown none is told room in
        halts_so loud n (with_output m base) turn (with_output after (base ++ shown)) (turn_of halt) so ∙ ap (λ h. node_of h (with_output after (base ++ shown))) (halted halt)

    -- where a choice leads to, and what it displays
    pub chosen_louder : (steps : ℕ) (m : Machine) (p : ℕ) (after : Machine) (halt : Halt OutcomeKind) (shown : List Shown) → m.output ≡ [] →
        walked_chosen quiet steps m p ≡ (after, turn_of halt) → fold_chosen quiet (shower r) steps m p [] ≡ shown → length base + length shown ≤ MOST_SHOWN →
        chosen loud steps (with_output m base) p ≡ node_of halt (with_output after (base ++ shown))
    unfolding chosen walked_chosen fold_chosen
    chosen_louder steps m p after halt shown none is told room = by (is_pending m) is told
      where
        a : Machine
        a = admit_waiting m p

        b : Machine
        b = admit_waiting (with_output m base) p

        by : (c : Bool) → (if c then walked quiet steps a (settled_turn quiet a true p) else walked quiet steps m (Goes p)) ≡ (after, turn_of halt) →
            (if c then fold_turn (fold_stretch quiet (shower r) steps a) (settled_turn quiet a true p) [] else fold_stretch quiet (shower r) steps m p []) ≡ shown →
            (if c then node_at b (stretch loud steps b) (settled_turn loud b true p) else stretch loud steps (with_output m base) p) ≡ node_of halt (with_output after (base ++ shown))
        by true is told =
            ap (λ k. node_at k (stretch loud steps k) (settled_turn loud k true p)) (admitted_louder m p base)
            ∙ ap (node_at (with_output a base) (stretch loud steps (with_output a base))) (settled_louder a base true p)
            ∙ stands_louder steps a (settled_turn quiet a true p) after halt shown (admitted_output m p ∙ none) is told room
        by false is told = stands_louder steps m (Goes p) after halt shown none is told room

-- ---- a machine keeps its discipline

abbrev machine_in : Node Machine → Machine
machine_in (Halted kind m) = m
machine_in (Choosing m) = m

pub machine_of_node : (halt : Halt OutcomeKind) (m : Machine) → machine_in (node_of halt m) ≡ m
machine_of_node Choice m = refl
machine_of_node (HasEnded kind) m = refl

step_ruled : (r : Tables) (m : Machine) (p : ℕ) → (step_at r m p).machine.discipline ≡ m.discipline
step_ruled r m p =
    step_keeps (λ discipline pending ts. discipline ≡ m.discipline) p (λ discipline pending ts x h. h) (λ discipline pending ts q h. h) (λ discipline pending ts q cell monitor at h. h) (λ discipline pending ts monitor any h. h) r m refl

module _ (r : Tables) (discipline : Discipline) where
  abbrev sys : System Machine
  sys = slots r discipline

  node_ruled : (m : Machine) (on : ℕ → Node Machine) (turn : Turn) → ((q : ℕ) → (machine_in (on q)).discipline ≡ m.discipline) → (machine_in (node_at m on turn)).discipline ≡ m.discipline
  node_ruled m on (Over kind) h = refl
  node_ruled m on Due h = refl
  node_ruled m on (Goes q) h = h q

  stretch_ruled : (n : ℕ) (m : Machine) (p : ℕ) → (machine_in (stretch sys n m p)).discipline ≡ m.discipline
  unfolding stretch
  stretch_ruled zero m p = refl
  stretch_ruled (suc n) m p =
      let t : Machine = (step_at r m p).machine in
      node_ruled t (stretch sys n t) (turn_after sys t p (step_at r m p).event) (stretch_ruled n t) ∙ step_ruled r m p

  pub opened_ruled : (steps : ℕ) (halt : Halt OutcomeKind) (m : Machine) → opened sys steps ≡ node_of halt m → m.discipline ≡ discipline
  unfolding opened
  opened_ruled steps halt m is =
      sym (ap (λ (k : Machine). k.discipline) (machine_of_node halt m)) ∙ sym (ap (λ (n : Node Machine). (machine_in n).discipline) is) ∙ node_ruled sys.start (stretch sys steps sys.start) (turn_at sys sys.start false 0) (stretch_ruled steps sys.start)

  pub chosen_ruled : (steps : ℕ) (m : Machine) (p : ℕ) (halt : Halt OutcomeKind) (n : Machine) → chosen sys steps m p ≡ node_of halt n → n.discipline ≡ m.discipline
  unfolding chosen
  chosen_ruled steps m p halt n is = sym (ap (λ (k : Machine). k.discipline) (machine_of_node halt n)) ∙ sym (ap (λ (k : Node Machine). (machine_in k).discipline) is) ∙ by (is_pending m)
    where
      a : Machine
      a = admit_waiting m p

      by : (c : Bool) → (machine_in (if c then node_at a (stretch sys steps a) (settled_turn sys a true p) else stretch sys steps m p)).discipline ≡ m.discipline
      by true = node_ruled a (stretch sys steps a) (settled_turn sys a true p) (stretch_ruled steps a) ∙ admitted_ruled m p
      by false = stretch_ruled steps m p
