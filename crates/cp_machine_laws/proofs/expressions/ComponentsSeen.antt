-- What names of components stand for in a state for which a machine stands.
use Rattle.std.proofs.Common.{◌≡◌, ◌∙◌, ℕ, ◌+◌, ◌*◌, ◌^◌, ◌<◌, true, false, List, [], ◌∷◌, Option, Some, None, ap, sym, refl, subst, arith, length}
use Rattle.cp_machine_laws.proofs.Words.{slice_index_or, Program, Tables, component_at, Frame, Memory, onward, Machine, Path, step_down, Name, Ty, component_of, array_over}
use Rattle.cp_machine_laws.proofs.Words.{permanent_variable, find, Call, current, knows, State, first_components, system_of, View, content_of, this_component, component_with}
use Rattle.cp_machine_laws.proofs.Words.{Layouts, here, is_parameter, look, Ground, NamesKnown, CallIs, CallsHold, HasBegun, Represents}
use Rattle.cp_meaning.specs.State as named
use Rattle.cp_resolved.specs.Resolved as resolved
use Rattle.cp_machine_laws.proofs.expressions.ComponentPlaces.{own_component, ComponentsKnown}

-- the innermost call is that of the innermost frame
pub top_call : (r : Tables) (l : Layouts) (m : Memory) (cs : List Call) (f : Frame) (fs : List Frame) → CallsHold r l m cs (f ∷ fs) → CallIs r l (current cs) f
top_call r l m [] f fs h = absurd h
top_call r l m (c ∷ cs) f fs h = h.0

module _ (g : Ground) (p : Program) (l : Layouts) (s : State) (m : Machine) (rep : Represents g p l s m) (cs : List Call) (f : Frame) (fs : List Frame) (own : Memory) (calls : CallsHold g.tables l own cs (f ∷ fs))
    (stands : resolved.ComponentIs g p l f.component)
    -- no step changes the tree of components
    (tree : (path : Path) → component_with path s.components ≡ component_with path (first_components p)) (same_path : (named.component_at s.components f.component).path ≡ (named.component_at (first_components p) f.component).path)
    (few : length s.components < 2 ^ 64) (few_slots : (x : Name) (u : Ty) → look x (l.systems (component_at g.tables f.component).system).parts ≡ Some u → f.own + (l.systems (component_at g.tables f.component).system).slots x < 2 ^ 64)
    (begun : HasBegun s (component_at g.tables f.component).kind (named.component_at s.components f.component).status)
    (names : NamesKnown p l f.routine (component_at g.tables f.component).system) where
  abbrev view : View
  view = record { program = p; calls = cs; components = s.components }

  abbrev system : ℕ
  system = (component_at g.tables f.component).system

  call : CallIs g.tables l (current cs) f
  call = top_call g.tables l own cs f fs calls

  own_is : this_component view ≡ f.component
  own_is = call.component

  there : f.component < length s.components
  there = let e = rep.component_count in let b = call.there in omega (arith, e, b)

  parameter_known : (x : Name) (k : ℕ) → find x (l.meanings f.routine).scope ≡ Some (permanent_variable (component_of k)) → is_parameter x (system_of p system).parameters ≡ true → content_of x (own_component view).environment ≡ Some (knows (slice_index_or m.bindings (onward f.own ((l.systems system).slots x)) 0))
  parameter_known x k e d =
      let at : onward f.own ((l.systems system).slots x) ≡ (component_at g.tables f.component).base + (l.systems system).slots x = (let less = few_slots x (component_of k) (names.parameter x k e d) in let same : f.own + (l.systems system).slots x ≡ (component_at g.tables f.component).base + (l.systems system).slots x = ap (λ n. n + (l.systems system).slots x) call.own in omega (arith, less, same)) in
      ap (λ c. content_of x (named.component_at s.components c).environment) own_is ∙ ((rep.components f.component there).parts x (component_of k) (names.parameter x k e d) begun ∙ ap (λ n. Some (knows (slice_index_or m.bindings n 0))) (sym at))

  no_content : (x : Name) → (look x (l.systems system).variables ≡ None) × (look x (l.systems system).parts ≡ None) → content_of x (own_component view).environment ≡ None
  no_content x w = ap (λ c. content_of x (named.component_at s.components c).environment) own_is ∙ (rep.components f.component there).others x w.0 w.1

  number_is : (x : Name) (o : Option ℕ) → component_with (step_down (own_component view).path x o) s.components ≡ component_with (step_down (named.component_at (first_components p) f.component).path x o) (first_components p)
  number_is x o =
      ap (λ c. component_with (step_down (named.component_at s.components c).path x o) s.components) own_is ∙ (ap (λ (path : Path). component_with (step_down path x o) s.components) same_path ∙ tree (step_down (named.component_at (first_components p) f.component).path x o))

  pub components_known : ComponentsKnown view f (here p l f.routine) m.bindings
  components_known =
      record {
        few = few;
        parameters = λ x k e d. subst (λ n. content_of x (own_component view).environment ≡ Some (knows (slice_index_or m.bindings (onward f.own ((l.systems n).slots x)) 0))) (sym call.owner) (parameter_known x k e (subst (λ n. is_parameter x (system_of p n).parameters ≡ true) call.owner d));
        variables = λ x k e d.
            (let w = names.variable x k e (subst (λ n. is_parameter x (system_of p n).parameters ≡ false) call.owner d) in
            (no_content x w, subst (λ n. component_with (step_down (own_component view).path x None) s.components ≡ f.component + (l.systems n).firsts x) (sym call.owner) (number_is x None ∙ stands.contained x (component_of k) (names.scope x (component_of k) e refl) w.1)));
        arrays = λ x q k e.
            (let w = names.array x q k e in
            (no_content x w, λ j less. subst (λ n. component_with (step_down (own_component view).path x (Some j)) s.components ≡ f.component + (l.systems n).firsts x + j * (l.systems k).count) (sym call.owner) (number_is x (Some j) ∙ stands.contained x (array_over q (component_of k)) (names.scope x (array_over q (component_of k)) e refl) w.1 j less)));
      }
