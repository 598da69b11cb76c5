-- A step keeps each process inside what was reserved for it.
use Rattle.std.proofs.Common.{◌≡◌, ℕ, ◌+◌, ◌-◌, ◌<◌, ◌≤◌, ◌∙◌, ◌⊎◌, inl, inr, List, [], ◌∷◌, length, take, Option, Some, None, Result, Ok, Err, Bool, true, false, sym, refl, subst, arith, length-append, if◌then◌else◌}
use Rattle.cp_machine.proofs.Words.{ℤ, pos, slice_index_or, replicate, cases_lt, IsSound, ListFits, InnerFits, CallFits, KindFits, Argument, Bound, ErrorName, Frame}
use Rattle.cp_machine.proofs.Words.{Memory, nowhere, onward, Entry, Rest, Successor, Return, InitEnd, Phase, memory_at, with_memory, add_frame, parameters_bound}
use Rattle.cp_machine.proofs.Words.{rest_of, from_end, Stepped, with_value, Shown, FrameFits, Follows, StackFits, ThreadFits, MachineFits}
use Rattle.std.proofs.lemmas.List.{get_or_past, length-set, length-take-le, length-replicate}
use Rattle.cp_slots.specs.Tables.{Tables, item_at, routine_at, component_at, no_component}
use Rattle.cp_slots.specs.declared.tables.Component.{Component}
use Rattle.cp_machine.specs.Calls.{frame_behind, with_result, give_up_frame, leave_frame}
use Rattle.cp_machine.specs.Machine.{Machine, Thread, thread_at, with_bindings, with_phase, with_stack, with_output}
use Rattle.cp_machine.proofs.rooms.KernelFits.{thread_fits, permanents_fit}
use Rattle.cp_machine.proofs.StoreLemmas.{Kept, kept_component, length-bindings}

-- ---- control stacks

pub frame_fits : (r : Tables) (f : Frame) (es : List Entry) → StackFits r f es → FrameFits r f
frame_fits r f [] h = h
frame_fits r f (Rest at ∷ es) h = frame_fits r f es h.1
frame_fits r f (Successor at value last ∷ es) h = frame_fits r f es h.1
frame_fits r f _ h = h.0.fits

pub rest_fits : (r : Tables) (f : Frame) (list : Option ℕ) (need : ℕ) (es : List Entry) → ListFits r f.routine need list → length es + 1 + need ≤ r.depth → StackFits r f es → StackFits r f (rest_of list es)
rest_fits r f None need es n d h = h
rest_fits r f (Some at) need es n d h =
    let same : (item_at r at).need ≤ (item_at r at).need = omega arith in
    let fits : (item_at r at).need ≤ need = n.fits in
    (record { nests = record { place = n.place; same = n.same; fits = same }; deep = omega arith }, h)

pub length_rest : (list : Option ℕ) (es : List Entry) → length (rest_of list es) ≤ length es + 1
length_rest None es = omega arith
length_rest (Some at) es = omega arith

-- a list inside an item, above at most one more entry
pub inner_fits : (r : Tables) (f : Frame) (list : Option ℕ) (need n : ℕ) (es : List Entry) → InnerFits r f.routine need list → length es ≤ n + 1 → n + 1 + need ≤ r.depth → StackFits r f es → StackFits r f (rest_of list es)
inner_fits r f None need n es i l d h = h
inner_fits r f (Some at) need n es i l d h = rest_fits r f (Some at) (need - 1) es i.1 (let some : 1 ≤ need = i.0 in omega arith) h

pub end_fits : (r : Tables) (f : Frame) (es : List Entry) → StackFits r f es → StackFits r f (from_end es)
end_fits r f (Rest at ∷ es) h = end_fits r f es h.1
end_fits r f (Successor at value last ∷ es) h = end_fits r f es h.1
end_fits r f _ h = h

-- a control stack has at most the entries that were reserved
pub stack_within : (r : Tables) (f : Frame) (es : List Entry) → StackFits r f es → length es ≤ r.depth
stack_within r f [] h = omega arith
stack_within r f (Return caller slot monitor ∷ es) h = omega (arith, h.1)
stack_within r f (InitEnd caller component ∷ es) h = omega (arith, h.1)
stack_within r f _ h = omega (arith, h.0.deep)

-- ---- parts of a machine

abbrev pub Fit : Tables → Stepped → Type 0
Fit r x = MachineFits r x.machine

pub value_fits : {A : Type 0} (r : Tables) (o : Result A ErrorName) (failed : ErrorName → Stepped) (go : A → Stepped) → ((e : ErrorName) → Fit r (failed e)) → ((v : A) → Fit r (go v)) → Fit r (with_value o failed go)
value_fits r (Ok v) failed go f g = g v
value_fits r (Err e) failed go f g = f e

pub either_fits : (r : Tables) (b : Bool) (x y : Stepped) → Fit r x → Fit r y → Fit r (if b then x else y)
either_fits r true x y h k = h
either_fits r false x y h k = k

pub either_machine : (r : Tables) (b : Bool) (m n : Machine) → MachineFits r m → MachineFits r n → MachineFits r (if b then m else n)
either_machine r true m n h k = h
either_machine r false m n h k = k

pub either_stack : (r : Tables) (f : Frame) (b : Bool) (es fs : List Entry) → StackFits r f es → StackFits r f fs → StackFits r f (if b then es else fs)
either_stack r f true es fs h k = h
either_stack r f false es fs h k = k

pub stack_fits : (r : Tables) (m : Machine) (pid : ℕ) (stack : List Entry) → StackFits r (thread_at m.threads pid).frame stack → MachineFits r m → MachineFits r (with_stack m pid stack)
stack_fits r m pid stack fit h = thread_fits r m pid _ (λ lt. record { stack = fit; cells = (h.each pid lt).cells; references = (h.each pid lt).references }) h

bindings_fit : (r : Tables) (m : Machine) (bindings : List ℕ) → length bindings ≡ length m.bindings → MachineFits r m → MachineFits r (with_bindings m bindings)
bindings_fit r m bindings same h = record { threads = h.threads; permanents = h.permanents; bindings = same ∙ h.bindings; phases = h.phases; monitors = h.monitors; pending = h.pending; each = h.each }

pub phase_fits : (r : Tables) (m : Machine) (component : ℕ) (phase : Phase) → MachineFits r m → MachineFits r (with_phase m component phase)
phase_fits r m component phase h = record { threads = h.threads; permanents = h.permanents; bindings = h.bindings; phases = length-set m.phases component phase ∙ h.phases; monitors = h.monitors; pending = h.pending; each = h.each }

pub output_fits : (r : Tables) (m : Machine) (output : List Shown) → MachineFits r m → MachineFits r (with_output m output)
output_fits r m output h = record { threads = h.threads; permanents = h.permanents; bindings = h.bindings; phases = h.phases; monitors = h.monitors; pending = h.pending; each = h.each }

-- what a process writes keeps its cells and references
pub memory_fits : (r : Tables) (m : Machine) (pid : ℕ) (x : Memory) → Kept x (memory_at m pid) → MachineFits r m → MachineFits r (with_memory m pid x)
memory_fits r m pid x k h =
    let p = permanents_fit r m x.permanents k.permanents h in
    thread_fits r _ pid _ (λ lt. record { stack = (h.each pid lt).stack; cells = omega (arith, k.cells, (h.each pid lt).cells); references = omega (arith, k.references, (h.each pid lt).references) }) p

pub parameters_fit : (r : Tables) (m : Machine) (pid base : ℕ) (arguments : List Argument) (bounds : List Bound) → MachineFits r m → MachineFits r (parameters_bound m pid base arguments bounds)
parameters_fit r m pid base arguments bounds h =
    bindings_fit r _ _ (length-bindings m.bindings base arguments bounds) (memory_fits r m pid _ (kept_component (memory_at m pid) base arguments bounds) h)

-- ---- frames

-- the kind of a component, also of one that is not there
pub kind_fits : (r : Tables) (component : ℕ) → IsSound r → KindFits r (component_at r component).kind
kind_fits r component sound = go (cases_lt component (length r.components))
  where
    go : (component < length r.components) ⊎ (length r.components ≤ component) → KindFits r (component_at r component).kind
    go (inl lt) = sound.components component lt
    go (inr ge) =
        let P : Component → Type 0 = λ c. KindFits r c.kind in
        subst P (sym (get_or_past r.components component no_component ge)) tt

module _ (r : Tables) (t : Thread) (h : ThreadFits r t) (routine component : ℕ) (need : ℕ) (arguments : List Argument) (c : CallFits r t.frame.routine need routine arguments) where
  pub behind_follows : Follows r (frame_behind r t routine component) t.frame
  behind_follows =
      let f = frame_fits r t.frame t.stack h.stack in
      record {
        fits = record {
          routine = c.routine;
          cells = omega (arith, h.cells, c.cells, f.cells);
          references = omega (arith, h.references, c.references, f.references);
        };
        cells = h.cells;
        references = h.references;
      }

  -- the frame is opened, and its end stands above the rest of the caller
  pub opened_thread : (end : Entry) (rest : List Entry) (n : ℕ) → length rest ≤ n + 1 → n + 1 + need ≤ r.depth → StackFits r (frame_behind r t routine component) (end ∷ rest) → ThreadFits r (add_frame (record t { frame = frame_behind r t routine component; stack = rest_of (routine_at r routine).body (end ∷ rest) }) (routine_at r routine))
  opened_thread end rest n few deep s =
      let two : 2 ≤ need = c.deep in
      record {
        stack = rest_fits r (frame_behind r t routine component) (routine_at r routine).body (need - 2) (end ∷ rest) c.body (omega arith) s;
        cells = omega (arith, length-append t.cells (routine_at r routine).image);
        references = omega (arith, length-append t.references (replicate (routine_at r routine).references nowhere), length-replicate (routine_at r routine).references nowhere);
      }

result_length : (slot : Option ℕ) (z : ℤ) (caller : Frame) (cells : List ℤ) → length (with_result slot z caller cells) ≡ length cells
result_length None z caller cells = refl
result_length (Some slot) z caller cells = length-set cells _ z

given_up_fits : (r : Tables) (t : Thread) (caller : Frame) (slot : Option ℕ) (es : List Entry) → ThreadFits r t → Follows r t.frame caller → StackFits r caller es → ThreadFits r (give_up_frame r t caller slot es)
given_up_fits r t caller slot es h f s =
    let z = slice_index_or t.cells (onward t.frame.base (routine_at r t.frame.routine).result) (pos 0) in
    record {
      stack = s;
      cells = omega (arith, result_length slot z caller (take t.frame.base t.cells), length-take-le t.frame.base t.cells (omega (arith, h.cells)), f.cells);
      references = omega (arith, length-take-le t.frame.references t.references (omega (arith, h.references)), f.references);
    }

pub left_fits : (r : Tables) (m : Machine) (pid : ℕ) (caller : Frame) (slot : Option ℕ) (es : List Entry) → Follows r (thread_at m.threads pid).frame caller → StackFits r caller es → MachineFits r m → MachineFits r (leave_frame r m pid caller slot es)
left_fits r m pid caller slot es f s h = thread_fits r m pid _ (λ lt. given_up_fits r (thread_at m.threads pid) caller slot es (h.each pid lt) f s) h
