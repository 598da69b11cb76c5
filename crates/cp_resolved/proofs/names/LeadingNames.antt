-- The visible names of components lead, in each component of the system type, to one of theirs.
use Rattle.std.proofs.Common.{◌≡◌, ◌+◌, ◌*◌, ◌<◌, ◌≤◌, ℕ, suc, true, false, List, [], ◌∷◌, ◌++◌, length, Some, None, slice_get, refl, sym, ap, ap₂, subst, ◌∙◌, ◌⊎◌, inl, inr, arith}
use Rattle.cp_resolved.proofs.Words.{length-map, slice_get_within, Program, Tree, plain, laid, Tables, component_at, Name, permanent_variable, find, Variable, Parameter}
use Rattle.cp_resolved.proofs.Words.{SystemMeaning, program_system, system_of, component_with, parameter_variables, first_component, first_components, ground_of}
use Rattle.cp_resolved.proofs.Words.{system_variables, IsFramed, is_parameter, look, IsPlaced, place_of, meaning_at, Stands, layouts_of}
use Rattle.cp_slots.specs.declared.place.ComponentPlace.TheVariants as place_in
use Rattle.cp_slots.specs.Systems.{IsOf, Names}
use Rattle.cp_meaning_laws.proofs.Earlier.{TyBelow, VariablesBelow, ParametersBelow, systems_below}
use Rattle.cp_meaning.specs.Types.{Ty, Range, array_over, component_of, length_of_range}
use Rattle.cp_meaning.specs.Components.{Path, Listed, step_down, listed_elements, listed_variable, listed_variables, listed, components_of}
use Rattle.cp_meaning.specs.State as named
use Rattle.cp_meaning.specs.WellFormed.{IsWellFormed}
use Rattle.cp_resolved.specs.ItemsInside.{ComponentsLead}
use Rattle.cp_resolved.proofs.components.ComponentsOfTree.{low}
use Rattle.cp_resolved.proofs.components.ComponentsStand.{map_there}
use Rattle.cp_resolved.proofs.components.Contained.{skipped, listed_first, elements_first, found_by_path}
use Rattle.cp_resolved.proofs.names.Entries.{there, still_there, entry_at}
use Rattle.cp_resolved.proofs.systems.HandedComponents.{handed_count}
use Rattle.cp_resolved.proofs.systems.HandedOfTrees.{PartOf, part_of}
use Rattle.cp_resolved.proofs.agreeing.ScopeVariables.{Among}
use Rattle.cp_resolved.proofs.components.Subtrees.{Subtree, subtree_of, listed_even}
use Rattle.cp_resolved.proofs.systems.SystemKnown.{among_either}
use Rattle.cp_resolved.proofs.components.VisibleComponents.{as_parameter, as_variable, visible_among, names_scope, names_variable, owner_below, array_variable, names_array}

-- ---- what a system type declares is of earlier ones

variable_below : (k : ℕ) (x : Name) (u : Ty) (vs : List Variable) → VariablesBelow k vs → Among x u vs → TyBelow k u
variable_below k x u [] h a = absurd a
variable_below k x u (v ∷ vs) h (inl e) = subst (λ w. TyBelow k w) e.1 h.0
variable_below k x u (v ∷ vs) h (inr a) = variable_below k x u vs h.1 a

parameter_below : (k : ℕ) (x : Name) (u : Ty) (qs : List Parameter) → ParametersBelow k qs → Among x u (parameter_variables qs) → TyBelow k u
parameter_below k x u [] h a = absurd a
parameter_below k x u (q ∷ qs) h (inl e) = subst (λ w. TyBelow k w) e.1 h.0
parameter_below k x u (q ∷ qs) h (inr a) = parameter_below k x u qs h.1 a

pub declared_below : (p : Program) (k : ℕ) (x : Name) (u : Ty) → Among x u (system_variables (system_of p k)) → TyBelow k u
declared_below p k x u a = go (among_either x u (parameter_variables (system_of p k).parameters) (system_of p k).variables a)
  where
    go : Among x u (parameter_variables (system_of p k).parameters) ⊎ Among x u (system_of p k).variables → TyBelow k u
    go (inl b) = parameter_below k x u (system_of p k).parameters (systems_below p k).0 b
    go (inr b) = variable_below k x u (system_of p k).variables (systems_below p k).1 b

-- ---- where the components of a variable are listed

-- those of one variable are among those of all
listed_among : (inner : ℕ → Path → List Listed) (above : Path) (x : Name) (u : Ty) (vs : List Variable) (i : ℕ) (z : Listed) → Among x u vs → slice_get (listed_variable inner above x u) i ≡ Some z → (j : ℕ) × (slice_get (listed_variables inner above vs) j ≡ Some z)
listed_among inner above x u [] i z a e = absurd a
listed_among inner above x u (v ∷ vs) i z (inl f) e =
    let same : listed_variable inner above v.name v.ty ≡ listed_variable inner above x u = ap₂ (λ y w. listed_variable inner above y w) f.0 f.1 in
    (i, still_there (listed_variable inner above v.name v.ty) (listed_variables inner above vs) i z (ap (λ (zs : List Listed). slice_get zs i) same ∙ e))
listed_among inner above x u (v ∷ vs) i z (inr a) e =
    let rest = listed_among inner above x u vs i z a e in
    (length (listed_variable inner above v.name v.ty) + rest.0, skipped (listed_variable inner above v.name v.ty) (listed_variables inner above vs) rest.0 ∙ rest.1)

module _ (t : Tree) (r : Tables) (place : IsPlaced t) (formed : IsWellFormed t.program) (s : Stands (ground_of r t) t (layouts_of t)) where
  abbrev p : Program
  p = t.program

  many : length r.components ≡ length (components_of p)
  many = s.count ∙ length-map (components_of p) (first_component p)

  first_is : (n : ℕ) (y : Listed) → slice_get (components_of p) n ≡ Some y → named.component_at (first_components p) n ≡ first_component p y
  first_is n y e = entry_at (first_components p) n named.no_component (first_component p y) (map_there (first_component p) (components_of p) n y e)

  -- a component of the tables, as it is listed
  record ListedAt (n : ℕ) : Type 0 where
    listed : Listed
    is : slice_get (components_of p) n ≡ Some listed
    path : (named.component_at (first_components p) n).path ≡ listed.path
    system : (component_at r n).system ≡ listed.system

  listed_at : (n : ℕ) → n < length r.components → ListedAt n
  listed_at n lt =
      let m = many in
      let y = there (components_of p) n (omega (arith, lt, m)) in
      let f = first_is n y.0 y.1 in
      record { listed = y.0; is = y.1; path = ap (λ (c : named.Component). c.path) f; system = (s.components n lt).system ∙ ap (λ (c : named.Component). c.system) f }

  -- what is listed with a path is the component that is found by it
  found_of : (number k : ℕ) (z : Listed) (m : ℕ) → slice_get (components_of p) m ≡ Some z → z.system ≡ k → component_with z.path (first_components p) ≡ number → IsOf r k number
  found_of number k z m e system f =
      let at : m ≡ number = sym (found_by_path p formed.paths m z e) ∙ f in
      let here : slice_get (components_of p) number ≡ Some z = subst (λ j. slice_get (components_of p) j ≡ Some z) at e in
      let low : number < length (components_of p) = slice_get_within (components_of p) number z here in
      let same = many in
      let lt : number < length r.components = omega (arith, low, same) in
      (lt, (s.components number lt).system ∙ ap (λ (c : named.Component). c.system) (first_is number z here) ∙ system)

  -- the components of a variable of it are listed
  inside_listed : (n : ℕ) (y : Listed) (x : Name) (u : Ty) → slice_get (components_of p) n ≡ Some y → Among x u (system_of p y.system).variables →
      (depth : ℕ) × (y.system ≤ depth) × ((i : ℕ) (z : Listed) → slice_get (listed_variable (listed p depth) y.path x u) i ≡ Some z → (m : ℕ) × (slice_get (components_of p) m ≡ Some z))
  inside_listed n y x u e a =
      let b : Subtree p (low t place.plain) (components_of p) n y = subtree_of p (low t place.plain) (suc (program_system p)) (program_system p) (omega arith) [] n y e in
      let vs : List Variable = (system_of p y.system).variables in
      let all : List Listed = listed_variables (listed p b.depth) y.path vs in (
        b.depth,
        b.deep,
        λ i z f.
            let w = listed_among (listed p b.depth) y.path x u vs i z a f in
            let inner : slice_get ((y ∷ all) ++ b.after) (suc w.0) ≡ Some z = still_there (y ∷ all) b.after (suc w.0) z w.1 in
            (length b.before + suc w.0, ap (λ (zs : List Listed). slice_get zs (length b.before + suc w.0)) b.is ∙ skipped b.before ((y ∷ all) ++ b.after) (suc w.0) ∙ inner),
      )

  -- ---- the component of a variable, and the elements of an array of them

  module _ (c : ℕ) (lt : c < length r.components) (x : Name) where
    abbrev k : ℕ
    k = (component_at r c).system

    abbrev first : ℕ
    first = ((layouts_of t).systems k).firsts x

    pub one_leads : (j : ℕ) → Among x (component_of j) (system_of p k).variables → find x (system_of p k).scope ≡ Some (permanent_variable (component_of j)) → look x ((layouts_of t).systems k).parts ≡ None → IsOf r j (c + first)
    one_leads j a e none =
        let y = listed_at c lt in
        let below : j < k = variable_below k x (component_of j) (system_of p k).variables (systems_below p k).1 a in
        let b = inside_listed c y.listed x (component_of j) y.is (subst (λ i. Among x (component_of j) (system_of p i).variables) y.system a) in
        let deep = b.1 in
        let same : k ≡ y.listed.system = y.system in
        let z : Listed = record { path = step_down y.listed.path x None; system = j } in
        let w = b.2 0 z (listed_first p b.0 j (step_down y.listed.path x None) (omega (arith, below, deep, same))) in
        let number : component_with (step_down (named.component_at (first_components p) c).path x None) (first_components p) ≡ c + first = (s.components c lt).contained x (component_of j) e none in
        found_of (c + first) j z w.0 w.1 refl (ap (λ q. component_with (step_down q x None) (first_components p)) (sym y.path) ∙ number)

    pub each_leads : (q : Range) (j i : ℕ) → i < length_of_range q → Among x (array_over q (component_of j)) (system_of p k).variables → find x (system_of p k).scope ≡ Some (permanent_variable (array_over q (component_of j))) → look x ((layouts_of t).systems k).parts ≡ None → IsOf r j (c + first + i * ((layouts_of t).systems j).count)
    each_leads q j i within a e none =
        let y = listed_at c lt in
        let below : j < k = variable_below k x (array_over q (component_of j)) (system_of p k).variables (systems_below p k).1 a in
        let b = inside_listed c y.listed x (array_over q (component_of j)) y.is (subst (λ i. Among x (array_over q (component_of j)) (system_of p i).variables) y.system a) in
        let deep = b.1 in
        let same : k ≡ y.listed.system = y.system in
        let less : j < b.0 = omega (arith, below, deep, same) in
        let z : Listed = record { path = step_down y.listed.path x (Some i); system = j } in
        let f : 0 + i ≡ i = omega arith in
        let there_it_is : slice_get (listed_elements (listed p b.0 j) y.listed.path x (length_of_range q) 0) (i * length (listed p b.0 j y.listed.path)) ≡ Some z =
        elements_first p b.0 j less (listed_even p (low t place.plain) b.0 j less) y.listed.path y.listed.path x (length_of_range q) 0 i within ∙ ap (λ m. Some (record { path = step_down y.listed.path x (Some m); system = j })) f in
        let w = b.2 (i * length (listed p b.0 j y.listed.path)) z there_it_is in
        let number : component_with (step_down (named.component_at (first_components p) c).path x (Some i)) (first_components p) ≡ c + first + i * ((layouts_of t).systems j).count = (s.components c lt).contained x (array_over q (component_of j)) e none i within in
        found_of (c + first + i * ((layouts_of t).systems j).count) j z w.0 w.1 refl (ap (λ g. component_with (step_down g x (Some i)) (first_components p)) (sym y.path) ∙ number)

-- ---- in a routine

module _ (t : Tree) (r : Tables) (same : plain r ≡ laid t) (place : IsPlaced t) (framed : IsFramed t) (formed : IsWellFormed t.program) (s : Stands (ground_of r t) t (layouts_of t)) (n : ℕ) (lt : n < length r.routines) where
  abbrev owner : ℕ
  owner = (layouts_of t).owners n

  abbrev m : SystemMeaning
  m = system_of t.program owner

  abbrev Seen : Name → Ty → Type 0
  Seen x u = find x (meaning_at t.program n).scope ≡ Some (permanent_variable u)

  among : (x : Name) (u : Ty) → Seen x u → Among x u (system_variables m)
  among x u e = visible_among t place framed n x u e

  bound : (x : Name) (k : ℕ) → Seen x (component_of k) → is_parameter x m.parameters ≡ true → Names r owner (place_in.Parameter (((layouts_of t).systems owner).slots x)) k
  bound x k e is =
      let w : PartOf t r same place.plain framed owner (owner_below t place framed n r s lt) x k = part_of t r same place.plain framed owner (owner_below t place framed n r s lt) x k (as_parameter m (framed.permanents owner) x (component_of k) (among x (component_of k) e) is) in
      (handed_count w.before, w.at.within, sym w.at.slot, w.at.system)

  one : (x : Name) (k : ℕ) → Seen x (component_of k) → is_parameter x m.parameters ≡ false → (c : ℕ) → IsOf r owner c → IsOf r k (c + ((layouts_of t).systems owner).firsts x)
  one x k e is c of =
      let a : Among x (component_of k) m.variables = as_variable m (framed.permanents owner) x (component_of k) (among x (component_of k) e) is in
      let f : find x m.scope ≡ Some (permanent_variable (component_of k)) = names_scope t place framed n x (component_of k) e in
      let none : look x ((layouts_of t).systems owner).parts ≡ None = (names_variable t place framed n x k e is).1 in
      subst (λ j. IsOf r k (c + ((layouts_of t).systems j).firsts x)) of.1
      (one_leads t r place formed s c of.0 x k (subst (λ j. Among x (component_of k) (system_of t.program j).variables) (sym of.1) a) (subst (λ j. find x (system_of t.program j).scope ≡ Some (permanent_variable (component_of k))) (sym of.1) f) (subst (λ j. look x ((layouts_of t).systems j).parts ≡ None) (sym of.1) none))

  each : (x : Name) (q : Range) (k : ℕ) → Seen x (array_over q (component_of k)) → (c i : ℕ) → IsOf r owner c → i < length_of_range q → IsOf r k (c + ((layouts_of t).systems owner).firsts x + i * ((layouts_of t).systems k).count)
  each x q k e c i of within =
      let u : Ty = array_over q (component_of k) in
      let a : Among x u m.variables = as_variable m (framed.permanents owner) x u (among x u e) (array_variable t place framed n r s lt x q k e) in
      let f : find x m.scope ≡ Some (permanent_variable u) = names_scope t place framed n x u e in
      let none : look x ((layouts_of t).systems owner).parts ≡ None = (names_array t place framed n r s lt x q k e).1 in
      subst (λ j. IsOf r k (c + ((layouts_of t).systems j).firsts x + i * ((layouts_of t).systems k).count)) of.1
      (each_leads t r place formed s c of.0 x q k i within (subst (λ j. Among x u (system_of t.program j).variables) (sym of.1) a) (subst (λ j. find x (system_of t.program j).scope ≡ Some (permanent_variable u)) (sym of.1) f) (subst (λ j. look x ((layouts_of t).systems j).parts ≡ None) (sym of.1) none))

  below_one : (x : Name) (k : ℕ) → Seen x (component_of k) → k ≤ program_system t.program
  below_one x k e =
      let a : k < owner = declared_below t.program owner x (component_of k) (among x (component_of k) e) in
      let b = owner_below t place framed n r s lt in
      omega (arith, a, b)

  below_each : (x : Name) (q : Range) (k : ℕ) → Seen x (array_over q (component_of k)) → k ≤ program_system t.program
  below_each x q k e =
      let a : k < owner = declared_below t.program owner x (array_over q (component_of k)) (among x (array_over q (component_of k)) e) in
      let b = owner_below t place framed n r s lt in
      omega (arith, a, b)

  pub components_lead : ComponentsLead r (place_of t n)
  components_lead = record { bound = bound; contained = one; elements = each; one = below_one; each = below_each }
