-- Of every program whose names are written and whose annotations call nothing: its runs are those without annotations, until an annotation or the limit of steps ends them.
use Rattle.cp_meaning.specs.Systems.{system_of}
use Rattle.std.proofs.Common.{◌≡◌, ◌∙◌, inl, inr, ℕ, zero, suc, ◌<◌, ◌==◌, Bool, true, false, List, [], ◌∷◌, ◌++◌, length, slice_set, slice_index, Option, Some, None, Ok, Err, ap, sym, refl, subst, arith}
use Rattle.cp_tree.specs.Read.{IsRead}
use Rattle.cp_tree.specs.Syntax.{Program, Tree}
use Rattle.cp_meaning_laws.specs.Accepted.{IsAccepted}
use Rattle.cp_meaning_laws.proofs.Accepting.{well_formed}
use Rattle.cp_machine.specs.declared.event.Event.TheVariants.{Local}
use Rattle.cp_meaning.specs.Outcome.{Outcome}
use Rattle.cp_meaning.specs.State.{Environment, Component, Call, Item, Status, unstarted, ready, at_gate, delayed, ended, Process, process_at, Discipline, Shown, State, local_routine, return}
use Rattle.cp_meaning.specs.Move.{Move, Doing, stays, enters, leaves, delays, continues, starts, shows, ends}
use Rattle.cp_meaning.specs.Kernel.{local_event, Stepped, output_room, moved_to, starting_as, starting, displaying, kernel_step}
use Rattle.cp_meaning.specs.LocalRules.{takes}
use Rattle.cp_meaning.specs.Readings.{is_ready}
use Rattle.cp_meaning.specs.Steps.{IsReached, at_first, by_step, by_admission, settled, step_of, view_of, line_at, admitted, admitted_to}
use Rattle.cp_meaning.proofs.Frames.{frames, Descends, ItemsFit as FramesFit}
use Rattle.cp_meaning.proofs.OwnershipLemmas.{reached}
use Rattle.cp_run.specs.System.{System}
use Rattle.cp_resolved.specs.Layouts.{Layouts}
use Rattle.cp_resolved.specs.TreeLayouts.{layouts_of}
use Rattle.cp_machine_laws.specs.InStep.{CanGo, CanEnter}
use Rattle.cp_machine_laws.specs.Named.{named, event_of, is_some, in_line_of}
use Rattle.cp_machine_laws.specs.RoutinesKnown.{Traits, CallsFit, CallFits, ItemsFit, RoutinesKnown, StandsInBodies}
use Rattle.cp_machine_laws.proofs.HoldsInReached.{holds_in_reached}
use Rattle.cp_machine_laws.proofs.reached.BodiesInReached.{reached_in_bodies}
use Rattle.cp_machine_laws.proofs.reached.BodiesKept.{OutcomeFits, takes_fits, SystemsKept}
use Rattle.cp_machine_laws.proofs.reached.KnownRoutines.{traits, routines_known}
use Rattle.cp_annotation_laws.specs.Annotations.{IsBroken, MeansTheSameBut}
use Rattle.cp_annotation_laws.specs.Plain.{plain_program, plain_tree}
use Rattle.cp_annotation_laws.proofs.annotations.Following.{Follows, IsEarly, Stepping}
use Rattle.cp_annotation_laws.proofs.annotations.Schedules.{same_but}
use Rattle.cp_annotation_laws.proofs.annotations.Spoken.{AreFine}
use Rattle.cp_annotation_laws.proofs.annotations.Views.{plain_calls}
use Rattle.cp_annotation_laws.proofs.annotations.Doings.{bare, plain_result}
use Rattle.cp_annotation_laws.proofs.annotations.States.{StandsFor, AllStandFor, StateStandsFor, at_stands, one_stands, AreSaid}
use Rattle.cp_annotation_laws.proofs.annotations.Kernels.{with_others, there, BodiesFine, SteppedStandsFor, kernel_stands, admitted_stands}
use Rattle.cp_annotation_laws.proofs.annotations.Facts.{Facts}
use Rattle.cp_annotation_laws.proofs.annotations.Stepping as stepping
use Rattle.cp_annotation_laws.proofs.annotations.Stepping.{EndsHere, StepsAlone, StepsBoth, outside_steps, check_goes_on, call_of}
use Rattle.cp_annotation_laws.proofs.annotations.Beginning.{first_fine, opening_stands, same_processes, first_goes, alike}

-- ---- who is ready

there_ready : (ps : List Process) (q : ℕ) → is_ready (process_at ps q).status ≡ true → q < length ps
there_ready [] q e = absurd (let bad : false ≡ true = e in cc)
there_ready (x ∷ ps) zero e = omega arith
there_ready (x ∷ ps) (suc q) e = let less = there_ready ps q e in omega (arith, less)

is_ready_so : (s : Status) → is_ready s ≡ true → s ≡ ready
is_ready_so ready e = refl
is_ready_so _ e = absurd (let bad : false ≡ true = e in cc)

set_there : (ps : List Process) (q : ℕ) (x : Process) → q < length ps → process_at (slice_set ps q x) q ≡ x
set_there [] q x less = absurd (omega (arith, less))
set_there (a ∷ ps) zero x less = refl
set_there (a ∷ ps) (suc q) x less = set_there ps q x (omega (arith, less))

none_pending : (o : Option ℕ) → is_some o ≡ false → o ≡ None
none_pending None e = refl
none_pending (Some n) e = absurd (cc)

some_pending : (o : Option ℕ) → is_some o ≡ true → (n : ℕ) × (o ≡ Some n)
some_pending (Some n) e = (n, refl)
some_pending None e = absurd (cc)

-- ---- after a local step its process is ready

module _ (p : Program) (s : State) (q : ℕ) (less : q < length s.processes) (line : ℕ) (d : Doing) where
  abbrev Ready : Stepped → Type 0
  Ready x = event_of q line x.event ≡ Local → is_ready (process_at x.state.processes q).status ≡ true

  moved_ready : is_ready (process_at (moved_to ready s q d).processes q).status ≡ true
  moved_ready = ap (λ (x : Process). is_ready x.status) (set_there s.processes q _ less)

  starting_as_ready : (r : ℕ) (u : Status) (c : ℕ) (e : Environment) → Ready (starting_as p s q d r u c e)
  starting_as_ready r unstarted c e k = absurd (cc)
  starting_as_ready r ready c e k = absurd (cc)
  starting_as_ready r (at_gate m) c e k = absurd (cc)
  starting_as_ready r (delayed m) c e k = absurd (cc)
  starting_as_ready r ended c e k = absurd (cc)

  starting_ready : (o : Option ℕ) (c : ℕ) (e : Environment) → Ready (starting p s q d o c e)
  starting_ready None c e k = absurd (cc)
  starting_ready (Some r) c e k = starting_as_ready r _ c e k

  displaying_ready : (b : Bool) (x : Shown) → Ready (displaying b s q d x)
  displaying_ready true x k = absurd (cc)
  displaying_ready false x k = absurd (cc)

  pub kernel_ready : (m : Move) → Ready (kernel_step p s q d m)
  kernel_ready stays k = moved_ready
  kernel_ready (enters m) k = absurd (cc)
  kernel_ready (leaves m) k = absurd (cc)
  kernel_ready (delays m) k = absurd (cc)
  kernel_ready (continues m o calls items) k = absurd (cc)
  kernel_ready (starts c e) k = starting_ready _ c e k
  kernel_ready (shows x) k = displaying_ready (length s.output == output_room) x k
  kernel_ready ends k = absurd (cc)

settled_ready : (p : Program) (s : State) (q : ℕ) → q < length s.processes → (line : ℕ) (o : Outcome Doing) → event_of q line (settled p s q o).event ≡ Local → is_ready (process_at (settled p s q o).state.processes q).status ≡ true
settled_ready p s q less line (Ok d) k = kernel_ready p s q less line d d.move k
settled_ready p s q less line (Err e) k = absurd (cc)

module _ (t : Tree) (g : Discipline) (read : IsRead t.program) (ok : IsAccepted t) (facts : Facts t.program) where
  abbrev p : Program
  p = t.program

  abbrev a : System State
  a = named t g

  abbrev b : System State
  b = named (plain_tree t) g

  abbrev l : Layouts
  l = layouts_of t

  abbrev f : Traits
  f = traits t

  known : RoutinesKnown p l f
  known = routines_known t read ok

  pub record Together (s u : State) : Type 0 where
    pub before : IsReached p g s
    pub stands : StateStandsFor s u

  fine_kept : (cs : List Component) → SystemsKept p cs → BodiesFine p cs
  fine_kept cs kept n = subst (λ (k : ℕ). AreFine (system_of p k).scope (system_of p k).body) (sym (kept n)) (first_fine t g read ok facts n)

  module _ (s : State) (before : IsReached p g s) (q : ℕ) (c : CanGo a s q) where
    less : q < length s.processes
    less = there_ready s.processes q c.ready

    was : (process_at s.processes q).status ≡ ready
    was = is_ready_so (process_at s.processes q).status c.ready

    next : IsReached p g (step_of p s q).state
    next = by_step s q before (none_pending s.pending c.free) less was

    begun : (process_at s.processes q).status ≡ unstarted → ⊥
    begun e = let bad : ready ≡ unstarted = sym was ∙ e in cc

    here_fine : BodiesFine p s.components
    here_fine = fine_kept s.components (holds_in_reached p (well_formed t ok) g s before).system

    -- ---- what the process does next

    abbrev Goes : List Call → List Item → List Call → List Item → Type 0
    Goes calls items other_calls other_items = stepping.Stepped p s.components q calls items other_calls other_items

    named_call : (c : Call) (n : ℕ) → CallFits l f c n → c ≡ call_of t read ok facts s.components here_fine q c.component c.kind c.environment n
    named_call c n h = ap (λ sc. (let d : Call = record { component = c.component; kind = c.kind; scope = sc; environment = c.environment } in d)) h.scope

    outside_goes : (c : Call) (below : List Call) (ns : List ℕ) (items : List Item) → CallsFit l f (c ∷ below) ns → ItemsFit l ns items → FramesFit (frames (c ∷ below)) items → Goes (c ∷ below) items (plain_calls (c ∷ below)) (bare (c ∷ below) items)
    outside_goes c below [] items fits rest fit = absurd fits
    outside_goes c below (n ∷ ns) items fits rest fit =
        subst (λ (d : Call). Goes (d ∷ below) items (plain_calls (d ∷ below)) (bare (d ∷ below) items)) (sym (named_call c n fits.0))
        (outside_steps t read ok facts s.components here_fine q c.component c.kind c.environment below n ns items rest fit)

    check_goes : (c : Call) (below : List Call) (ns : List ℕ) (said rest : List Item) → c.kind ≡ local_routine → AreSaid said → CallsFit l f (c ∷ below) ns → ItemsFit l ns (said ++ return None ∷ rest) →
        Goes (c ∷ below) (said ++ return None ∷ rest) (plain_calls below) (bare below rest)
    check_goes c below [] said rest local says fits h = absurd fits
    check_goes c below (n ∷ ns) said rest local says fits h =
        subst (λ (d : Call). Goes (d ∷ below) (said ++ return None ∷ rest) (plain_calls below) (bare below rest)) (sym (named_call c n fits.0))
        (check_goes_on t read ok facts s.components here_fine q c.component c.kind c.environment below n ns said rest local says h)

    goes : (calls : List Call) (items : List Item) (other_calls : List Call) (other_items : List Item) → StandsFor calls items other_calls other_items → (ns : List ℕ) → CallsFit l f calls ns → ItemsFit l ns items → FramesFit (frames calls) items → (c : Call) × (below : List Call) × (calls ≡ c ∷ below) → Goes calls items other_calls other_items
    goes calls items other_calls other_items (inl k) ns fits rest fit w =
        subst (λ (cs : List Call). Goes calls items cs other_items) (sym k.other_calls_are)
        (subst (λ (is : List Item). Goes calls items (plain_calls calls) is) (sym k.other_items_are)
        (subst (λ (cs : List Call). Goes cs items (plain_calls cs) (bare cs items)) (sym w.2)
        (outside_goes w.0 w.1 ns items (subst (λ (cs : List Call). CallsFit l f cs ns) w.2 fits) rest (subst (λ (cs : List Call). FramesFit (frames cs) items) w.2 fit))))
    goes calls items other_calls other_items (inr k) ns fits rest fit w =
        subst (λ (cs : List Call). Goes calls items cs other_items) (sym k.other_calls_are)
        (subst (λ (is : List Item). Goes calls items (plain_calls k.below) is) (sym k.other_items_are)
        (subst (λ (cs : List Call). Goes cs items (plain_calls k.below) (bare k.below k.rest)) (sym k.calls_are)
        (subst (λ (is : List Item). Goes (k.call ∷ k.below) is (plain_calls k.below) (bare k.below k.rest)) (sym k.items_are)
        (check_goes k.call k.below ns k.said k.rest k.local k.says (subst (λ (cs : List Call). CallsFit l f cs ns) k.calls_are fits) (subst (ItemsFit l ns) k.items_are rest)))))

    what_goes : (ys : List Process) → AllStandFor s.processes ys → Goes (process_at s.processes q).calls (process_at s.processes q).items (process_at ys q).calls (process_at ys q).items
    what_goes ys h =
        let body = (reached_in_bodies p l f known (well_formed t ok) g s before q less).stands in
        goes (process_at s.processes q).calls (process_at s.processes q).items (process_at ys q).calls (process_at ys q).items (at_stands s.processes ys q h).stack body.numbers body.executes body.remains ((reached p (well_formed t ok) g s before).1.orderly.processes q less).fits
        ((holds_in_reached p (well_formed t ok) g s before).open_call q less begun)

    -- ---- system types are kept

    kept_so : (o : Outcome Doing) → OutcomeFits p l f o → (d : Doing) → o ≡ Ok d → BodiesFine p d.components
    kept_so (Ok y) h d e = fine_kept d.components (subst (λ (o : Outcome Doing). SystemsOf o) e h.systems)
      where
        SystemsOf : Outcome Doing → Type 0
        SystemsOf (Ok z) = SystemsKept p z.components
        SystemsOf (Err e) = Unit {0}
    kept_so (Err y) h d e = absurd (cc)

    does_fit : OutcomeFits p l f (takes (view_of p s q) q (process_at s.processes q).items)
    does_fit = go ((holds_in_reached p (well_formed t ok) g s before).open_call q less begun) body.numbers body.executes body.remains
      where
        body : StandsInBodies l f (process_at s.processes q).calls (process_at s.processes q).items
        body = (reached_in_bodies p l f known (well_formed t ok) g s before q less).stands

        go : (c : Call) × (below : List Call) × ((process_at s.processes q).calls ≡ c ∷ below) → (ns : List ℕ) → CallsFit l f (process_at s.processes q).calls ns → ItemsFit l ns (process_at s.processes q).items → OutcomeFits p l f (takes (view_of p s q) q (process_at s.processes q).items)
        go w [] fits rest = absurd (subst (λ (cs : List Call). CallsFit l f cs []) w.2 fits)
        go w (n ∷ ns) fits rest =
            let orderly = (reached p (well_formed t ok) g s before).1.orderly.processes q less in
            let holds = holds_in_reached p (well_formed t ok) g s before in
            subst (λ (cs : List Call). OutcomeFits p l f (takes (record { program = p; calls = cs; components = s.components }) q (process_at s.processes q).items)) (sym w.2)
            (takes_fits p l f known w.0 w.1 s.components q n ns (subst (λ (cs : List Call). CallsFit l f cs (n ∷ ns)) w.2 fits) holds.system (subst (λ (cs : List Call). Descends s.components (frames cs)) w.2 orderly.order) (process_at s.processes q).items
            (subst (λ (cs : List Call). FramesFit (frames cs) (process_at s.processes q).items) w.2 orderly.fits) rest)

    -- ---- the step

    module _ (ys : List Process) (h : AllStandFor s.processes ys) where
      abbrev u : State
      u = with_others s ys

      abbrev Steps : Type 0
      Steps = Stepping a b Together IsBroken s u q

      ends_here : EndsHere p s.components q (process_at s.processes q).calls (process_at s.processes q).items → Steps
      ends_here k = inl (subst (λ (x : Stepped). IsEarly IsBroken x.state (event_of q (line_at t s q) x.event)) (sym (ap (settled p s q) k.fails)) k.annotation)

      steps_alone : StepsAlone p s.components q (process_at s.processes q).calls (process_at s.processes q).items (process_at ys q).calls (process_at ys q).items → Steps
      steps_alone k =
          let same : step_of p s q ≡ record { state = moved_to ready s q k.doing; event = local_event } = ap (settled p s q) k.does_so ∙ ap (kernel_step p s q k.doing) k.local in
          inr (inl (record {
            local = ap (λ (x : Stepped). event_of q (line_at t s q) x.event) same;
            stays = record {
              before = next;
              stands = subst (λ (x : Stepped). StateStandsFor x.state u) (sym same)
                  (record {
                    processes = ys;
                    all = one_stands s.processes ys q _ h (record { component = (at_stands s.processes ys q h).component; status = (at_stands s.processes ys q h).status ∙ was; stack = k.stack });
                    same = ap (λ (cs : List Component). (let z : State = record { processes = ys; components = cs; output = s.output; discipline = s.discipline; pending = s.pending } in z)) (sym k.components);
                  });
            };
            can = subst (λ (x : Stepped). CanGo a x.state q) (sym same) (record { below = c.below; ready = ap (λ (x : Process). is_ready x.status) (set_there s.processes q _ less); free = c.free });
          }))

      settled_stands : (o : Outcome Doing) → ((d : Doing) → o ≡ Ok d → BodiesFine p d.components) → SteppedStandsFor (settled p s q o) (settled (plain_program p) u q (plain_result o))
      settled_stands (Ok d) fine = kernel_stands p facts.spoken s ys h q d (fine d refl) d.move
      settled_stands (Err e) fine = record { state = there s ys h; event = refl }

      steps_both : StepsBoth p s.components q (process_at s.processes q).calls (process_at s.processes q).items (process_at ys q).calls (process_at ys q).items → Steps
      steps_both k =
          let o = takes (view_of p s q) q (process_at s.processes q).items in
          let w = settled_stands o (kept_so o does_fit) in
          let same : step_of (plain_program p) u q ≡ settled (plain_program p) u q (plain_result o) = ap (settled (plain_program p) u q) k.same in
          let v : SteppedStandsFor (step_of p s q) (step_of (plain_program p) u q) = subst (SteppedStandsFor (step_of p s q)) (sym same) w in
          inr (inr (record {
            event = ap (λ (n : ℕ). event_of q (slice_index t.lines n) (step_of p s q).event) (sym k.at) ∙ ap (event_of q (line_at (plain_tree t) u q)) (sym v.event);
            steps = record { before = next; stands = v.state };
            ready = settled_ready p s q less (line_at t s q) o;
          }))

      pub steps_with : Steps
      steps_with = go (what_goes ys h)
        where
          go : Goes (process_at s.processes q).calls (process_at s.processes q).items (process_at ys q).calls (process_at ys q).items → Steps
          go (inl k) = ends_here k
          go (inr (inl k)) = steps_alone k
          go (inr (inr k)) = steps_both k

  one_step : (s u : State) (q : ℕ) → Together s u → CanGo a s q → Stepping a b Together IsBroken s u q
  one_step s u q r c = subst (λ (z : State). Stepping a b Together IsBroken s z q) (sym r.stands.same) (steps_with s r.before q c r.stands.processes r.stands.all)

  admission : (s u : State) (q : ℕ) → Together s u → CanEnter a s q → Together (a.admit s q) (b.admit u q)
  admission s u q r c =
      let pending = some_pending s.pending c.due in
      record { before = by_admission s pending.0 q r.before pending.1 (ap (λ (o : Option ℕ). in_line_of o s q) (sym pending.1) ∙ c.lined); stands = admitted_stands s u q r.stands }

  none_after : (s : State) (q : ℕ) → CanEnter a s q → is_some (admitted s q).pending ≡ false
  none_after s q c = ap (λ (o : Option ℕ). is_some (admitted_to o s q).pending) (some_pending s.pending c.due).1

  follows : Follows a b Together IsBroken
  follows =
      record {
        processes = same_processes t g read ok facts;
        start = record { before = at_first; stands = opening_stands t g read ok facts };
        begins = λ e. first_goes t g read ok facts;
        alike = λ s u r. alike t g read ok facts s u r.stands;
        step = one_step;
        admit = admission;
        admitted = λ s u q r c. none_after s q c;
        cut = λ s. tt;
      }

  pub means_the_same_but : MeansTheSameBut a b
  means_the_same_but = same_but a b Together follows
