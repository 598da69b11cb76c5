-- A process that begins: its initial statement stands on its control stack, and its frame holds what an open call without variables has.
use Rattle.std.proofs.Common.{◌≡◌, ◌∙◌, ℕ, ◌+◌, ◌<◌, Bool, false, if◌then◌else◌, List, [], ◌∷◌, ◌++◌, append-nil, None, ap, sym, refl, subst, arith, length, get_or}
use Rattle.cp_machine_laws.proofs.Words.{ℤ, pos, Program, component_at, routine_at, Address, Local, Frame, Thread, unstarted_thread, Ty, Value, RoutineMeaning}
use Rattle.cp_machine_laws.proofs.Words.{system_of, Call, own_statement, end, begun, items_of_all, content_of, value_held, Layouts, here, cell_named, look, encode}
use Rattle.cp_machine_laws.proofs.Words.{HasType, Ground, ItemsAre, parameter_variables, LiesAt, CallIs, CallHolds, CallsHold, own_memory, Runs}
use Rattle.cp_slots.specs.declared.tables.Process as slot_process
use Rattle.cp_meaning.specs.Calls.{last_checks}
use Rattle.cp_meaning.specs.Lifting.{has_invariants, check_statement}
use Rattle.cp_meaning.specs.State.{Item, statement_item}
use Rattle.cp_machine.specs.declared.process.Status.TheVariants as status
use Rattle.cp_resolved.specs.Resolved.{StandsAt, RoutineIs, SystemIs, first_value, initial_meaning}
use Rattle.cp_machine_laws.proofs.control.Lists.{body_items, stack_rest, frames_rest}
use Rattle.cp_machine_laws.proofs.expressions.Parts.{encode_length}

-- a block of an image lies in the cells that begin with it
image_lies : (permanents cells : List ℤ) (refs : List Address) (t : Ty) (w : Value) (slot : ℕ) → HasType t w → StandsAt cells slot (encode w) → LiesAt (record { permanents = permanents; cells = cells; references = refs }) t w (Local (0 + slot))
image_lies permanents cells refs t w slot h s =
    let n = encode_length t w h in
    record {
      typed = h;
      cells = (let a = s.inside in omega (arith, a, n));
      block = λ k less. (let e : (0 + slot) + k ≡ slot + k = omega arith in ap (λ j. get_or cells j (pos 0)) e ∙ s.same k less);
    }

-- the facts on a process that is to begin
pub record CanBegin (g : Ground) (p : Program) (l : Layouts) (d k : ℕ) (x : slot_process.Process) : Type 0 where
  pub routine_is : RoutineIs g p l x.routine
  pub system_is : SystemIs g p l k
  pub component : x.component ≡ d
  pub routine : x.routine ≡ (l.systems k).initial
  pub there : d < length g.tables.components
  pub of : (component_at g.tables d).system ≡ k
  pub plain : (routine_at g.tables x.routine).references ≡ 0
  -- it is a process
  pub unsaid : has_invariants (system_of p k).scope ≡ false

module _ (g : Ground) (p : Program) (l : Layouts) (d k : ℕ) (x : slot_process.Process) (can : CanBegin g p l d k x) where
  begins : Thread
  begins = record (unstarted_thread g.tables x) { status = status.Ready }

  meaning : l.meanings x.routine ≡ initial_meaning (system_of p k)
  meaning = ap l.meanings can.routine ∙ can.system_is.statement

  begun_call : Call
  begun_call = record { component = d; kind = own_statement; scope = (system_of p k).scope; environment = [] }

  pub begun_runs : Runs g p l (begun d (system_of p k)) (record (unstarted_thread g.tables x) { status = status.Ready })
  unfolding begins begun_call
  begun_runs =
      record {
        stack = stack_rest g p l frame (begun_call ∷ []) (routine_at g.tables x.routine).body (items_of_all (system_of p k).scope (system_of p k).body) (end ∷ []) [] items (begun_call, refl, refl, refl);
        calls = subst (λ fs. CallsHold g.tables l (own_memory begins) (begun_call ∷ []) fs) (sym (frames_rest frame (routine_at g.tables x.routine).body [])) (call, holds, tt);
      }
    where
      frame : Frame
      frame = record { routine = x.routine; component = x.component; own = (component_at g.tables x.component).base; base = 0; references = 0 }

      -- it has no invariants, so that nothing is looked at as it ends
      checked : items_of_all (l.meanings x.routine).scope (l.meanings x.routine).body ++ last_checks (l.meanings x.routine).checks (l.meanings x.routine).scope ≡ items_of_all (system_of p k).scope (system_of p k).body
      checked =
          ap (λ (y : RoutineMeaning). items_of_all y.scope y.body ++ last_checks y.checks y.scope) meaning
          ∙ (ap (λ (b : Bool). items_of_all (system_of p k).scope (system_of p k).body ++ (if b then statement_item (check_statement 0) ∷ [] else [])) can.unsaid ∙ append-nil (items_of_all (system_of p k).scope (system_of p k).body))

      items : ItemsAre g (here p l x.routine) (routine_at g.tables x.routine).body (items_of_all (system_of p k).scope (system_of p k).body) None
      items =
          subst (λ (is : List Item). ItemsAre g (here p l x.routine) (routine_at g.tables x.routine).body is None) checked
          (body_items g (here p l x.routine) (routine_at g.tables x.routine).body (l.meanings x.routine).body (l.meanings x.routine).checks can.routine_is.body)

      call : CallIs g.tables l begun_call frame
      call =
          record {
            routine = subst (λ n. n < length g.tables.routines) (sym can.routine) can.system_is.initial;
            component = sym can.component;
            there = subst (λ n. n < length g.tables.components) (sym can.component) can.there;
            own = refl;
            owner = ap l.owners can.routine ∙ (can.system_is.owner ∙ (sym can.of ∙ ap (λ n. (component_at g.tables n).system) (sym can.component)));
            scope = ap (λ (y : RoutineMeaning). y.scope) (sym meaning);
          }

      holds : CallHolds g.tables l (own_memory begins) begun_call frame []
      holds =
          record {
            variables = λ y u e.
                (let w = subst (λ (z : RoutineMeaning). first_value z y ≡ value_held (content_of y [])) (sym meaning) refl in
                let none : look y (parameter_variables (l.meanings x.routine).parameters) ≡ None = ap (λ (z : RoutineMeaning). look y (parameter_variables z.parameters)) meaning in
                subst (λ (v : Value). LiesAt (own_memory begins) u v (Local (0 + cell_named (l.frames x.routine) y))) w
                (image_lies [] (routine_at g.tables x.routine).image (own_memory begins).references u (first_value (l.meanings x.routine) y) (cell_named (l.frames x.routine) y) (can.routine_is.frame.typed y u e none) (can.routine_is.frame.first y u e none)));
            plain = λ y u q e h. cc;
            references = λ y u e. absurd (let n = (can.routine_is.frame.numbered y u e).0 in let z = can.plain in omega (arith, n, z));
          }
