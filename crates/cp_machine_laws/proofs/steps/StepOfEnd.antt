-- The steps with which a call, an initial statement or a process ends: each goes on slots as on names.
use Rattle.cp_machine_laws.proofs.Words.{◌≡◌, ℕ, List, [], ◌∷◌, Option, subst, Tree, Program, Tables, component_at, Frame, Entry, Return, InitEnd, MachineFits}
use Rattle.cp_machine_laws.proofs.Words.{Machine, thread_at, step_at, entry_routine, Call, State, step_of, Layouts, Ground, ground_of, Prepared, StackIs}
use Rattle.cp_slots.specs.declared.tables.ComponentKind.TheVariants as kind
use Rattle.cp_meaning.specs.State as named
use Rattle.cp_machine_laws.proofs.control.Control.{StepIs}
use Rattle.cp_machine_laws.proofs.control.Ending.{end_step}
use Rattle.cp_machine_laws.proofs.steps.Executed.{few_cells}
use Rattle.cp_machine_laws.proofs.steps.Going.{Going}
use Rattle.cp_machine_laws.proofs.starts.InitialEnding.{initial_end_step}
use Rattle.cp_machine_laws.proofs.reached.ReadyInReached.{ReadyInReached}
use Rattle.cp_machine_laws.proofs.calls.Returning.{Returns, MayLeave, call, calls_around, calls_were, return_step}

module _ (t : Tree) (r : Tables) (l : Layouts) (prepared : Prepared t r l) (s : State) (m : Machine) (ready : ReadyInReached (ground_of t r) t.program s m) (fits : MachineFits r m) (q : ℕ) (k : Going (ground_of t r) t.program l s m q) where
  abbrev g : Ground
  g = ground_of t r

  abbrev p : Program
  p = t.program

  -- ---- a call

  module _ (caller : Frame) (slot monitor : Option ℕ) (es : List Entry) (e : (thread_at m.threads q).stack ≡ Return caller slot monitor ∷ es) where
    returning : Returns g p l s m q caller slot monitor es
    returning =
        record {
          rep = k.rep;
          there = k.there;
          was = k.was;
          was_slot = k.was_slot;
          stack = e;
          fits = fits.each q k.many;
          few = few_cells t r l prepared m q fits k.many;
          routines = prepared.stands.routines;
          simple = prepared.program.results;
        }

    abbrev top : Call
    top = call g p l s m q caller slot monitor es returning

    abbrev around : List Call
    around = calls_around g p l s m q caller slot monitor es returning

    calls_are : (named.process_at s.processes q).calls ≡ top ∷ around
    calls_are = calls_were g p l s m q caller slot monitor es returning

    leaves : top.kind ≡ entry_routine → (j : ℕ) → (component_at r top.component).kind ≡ kind.Monitor j → MayLeave g s m q top.component
    leaves entry j is = ready.leave q top around j k.there k.was calls_are entry is

    pub return_so : (line : ℕ) → StepIs g p l q line (step_of p s q) (step_at r m q)
    return_so line = return_step g p l s m q caller slot monitor es returning line ready.kinds leaves

  -- ---- an initial statement

  module _ (caller : Frame) (n : ℕ) (es : List Entry) (e : (thread_at m.threads q).stack ≡ InitEnd caller n ∷ es) where
    stack_is : StackIs g p l (thread_at m.threads q).frame (named.process_at s.processes q).calls (named.process_at s.processes q).items (InitEnd caller n ∷ es)
    stack_is = subst (λ us. StackIs g p l (thread_at m.threads q).frame (named.process_at s.processes q).calls (named.process_at s.processes q).items us) e k.stack

    pub initial_end_so : (line : ℕ) → StepIs g p l q line (step_of p s q) (step_at r m q)
    initial_end_so line =
        let ends = ready.ends q n stack_is.2 k.there stack_is.4 in
        initial_end_step g p l s m q caller n es
        (record {
          rep = k.rep;
          there = k.there;
          was = k.was;
          was_slot = k.was_slot;
          stack = e;
          fits = fits.each q k.many;
          few = few_cells t r l prepared m q fits k.many;
          routines = prepared.stands.routines;
          component = ends.0;
          phases = ends.1;
          class = ends.2;
          begun = ends.3;
        }) line

  -- ---- the process itself

  pub end_so : (line : ℕ) → (thread_at m.threads q).stack ≡ [] → StepIs g p l q line (step_of p s q) (step_at r m q)
  end_so line e = end_step g p l s m q k.rep k.there k.was k.was_slot e line
