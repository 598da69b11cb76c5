-- That each item of the tables of a tree is inside what it names, and that the components which it names are of the types that it wants, as a law.
use Rattle.std.specs.Prelude.{IsTrue, ◌≡◌, ℕ, ◌+◌, ◌*◌, ◌<◌, ◌≤◌, true, false, length, Some, slice_get}
use Rattle.cp_tree.specs.Syntax.{Tree}
use Rattle.cp_slots.specs.declared.place.ComponentPlace.TheVariants.{Contained, Parameter}
use Rattle.cp_slots.specs.Inside.{action_inside}
use Rattle.cp_symbols.specs.Kinds.{most}
use Rattle.cp_layout.specs.Laid.{plain, laid}
use Rattle.cp_layout.specs.Layers.{Layer}
use Rattle.cp_slots.specs.Systems.{IsOf, Names, ActionNames}
use Rattle.cp_slots.specs.Tables.{Tables, item_at, routine_at}
use Rattle.cp_meaning.specs.Names.{Name}
use Rattle.cp_meaning.specs.Types.{Range, array_over, component_of, length_of_range}
use Rattle.cp_meaning.specs.Scopes.{permanent_variable, find}
use Rattle.cp_meaning.specs.Systems.{system_of, program_system}
use Rattle.cp_resolved.specs.Begun.{all_begun}
use Rattle.cp_resolved.specs.BodiesStand.{ground_of, BodyFormed}
use Rattle.cp_resolved.specs.Headed.{HeadingFits, EntranceFits}
use Rattle.cp_resolved.specs.Layouts.{Here, system_here, is_parameter}
use Rattle.cp_resolved.specs.LayoutsKnow.{IsPlaced, place_of}
use Rattle.cp_resolved.specs.Openings.{meaning_at}
use Rattle.cp_resolved.specs.Resolved.{Stands}
use Rattle.cp_resolved.specs.TreeLayouts.{layouts_of}

-- In each component of the system type, what a visible name of a component stands for is one of its system type, by the layouts.
pub record ComponentsLead (t : Tables) (h : Here) : Type 0 where
  pub bound : (x : Name) (k : ℕ) → find x h.scope ≡ Some (permanent_variable (component_of k)) → is_parameter x (system_of h.program h.system).parameters ≡ true → Names t h.system (Parameter ((system_here h).slots x)) k
  pub contained : (x : Name) (k : ℕ) → find x h.scope ≡ Some (permanent_variable (component_of k)) → is_parameter x (system_of h.program h.system).parameters ≡ false → Names t h.system (Contained ((system_here h).firsts x)) k
  pub elements : (x : Name) (r : Range) (k : ℕ) → find x h.scope ≡ Some (permanent_variable (array_over r (component_of k))) →
      (c n : ℕ) → IsOf t h.system c → n < length_of_range r → IsOf t k (c + (system_here h).firsts x + n * (h.layouts.systems k).count)
  -- and the system type is one of the program
  pub one : (x : Name) (k : ℕ) → find x h.scope ≡ Some (permanent_variable (component_of k)) → k ≤ program_system h.program
  pub each : (x : Name) (r : Range) (k : ℕ) → find x h.scope ≡ Some (permanent_variable (array_over r (component_of k))) → k ≤ program_system h.program

-- what is wanted of the tree, and of the numbers of its parameters and components
pub record CanHold (t : Tree) (r : Tables) : Type 0 where
  pub placed : IsPlaced t
  pub bodies : (n : ℕ) (l : Layer) → slice_get (all_begun t) n ≡ Some l → BodyFormed t n l
  pub headings : (n : ℕ) → n < length r.routines → HeadingFits ((layouts_of t).frames n) (routine_at r n) (meaning_at t.program n)
  pub entrances : (k : ℕ) → k ≤ program_system t.program → EntranceFits r k ((layouts_of t).systems k).slots (system_of t.program k).parameters
  pub components : (n : ℕ) → n < length r.routines → ComponentsLead r (place_of t n)

pub record ItemsInside (t : Tables) : Type 0 where
  pub inside : (at : ℕ) → at < length t.items → IsTrue (action_inside t (routine_at t (item_at t at).routine) (item_at t at).action)
  pub actions : (at : ℕ) → at < length t.items → ActionNames t (routine_at t (item_at t at).routine).system (item_at t at).action

-- of tables that stand for the tree
abbrev pub InsideLaw : Type 0
InsideLaw = (t : Tree) (r : Tables) → plain r ≡ laid t → length r.items ≤ most → Stands (ground_of r t) t (layouts_of t) → CanHold t r → ItemsInside r
