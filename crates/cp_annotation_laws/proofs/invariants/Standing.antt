-- What stands before the items of a process: its checks, and what they have found.
use Rattle.std.proofs.Common.{◌≡◌, ◌⊎◌, ℕ, true, false, List, [], ◌∷◌, Option, Some, None, Ok, sym, refl, subst}
use Rattle.cp_tree.specs.Syntax.{Expression, nameless, Statement, invariants, Program}
use Rattle.cp_meaning.specs.Expressions.{value}
use Rattle.cp_meaning.specs.Lifting.{is_routine_meant, has_invariants, expression_calls}
use Rattle.cp_meaning.specs.Operations.{Typed, is_true}
use Rattle.cp_meaning.specs.Scopes.{Meaning, routine_meaning, Scope, find, since}
use Rattle.cp_meaning.specs.State.{Component, component_at, Call, current, Item, statement_item, return, Status, ready}
use Rattle.cp_meaning.specs.Systems.{system_of}
use Rattle.cp_resolved.proofs.declarations.Nameless.{IsSaid, IsNameless}
use Rattle.cp_annotation_laws.specs.Invariants.{asks_empty, said, invariants_meant, invariants_in, check_call, IsTrueIn, AreTrueIn, invariants_at, InvariantsHold}
use Rattle.cp_annotation_laws.proofs.invariants.Cleared.{environment_cleared}
use Rattle.cp_annotation_laws.proofs.invariants.Guarded.{outlines, Guarded}
use Rattle.cp_annotation_laws.proofs.invariants.SameTruth.{value_same, truth_kept}

-- ---- the invariants of system types

-- they call nothing
abbrev pub AreQuiet : Scope → List Expression → Type 0
AreQuiet s [] = Unit {0}
AreQuiet s (e ∷ es) = (expression_calls s e ≡ []) × AreQuiet s es

-- the routine without a name in the scope of an initial statement
abbrev pub SaysInvariants : Option Meaning → Type 0
SaysInvariants (Some (routine_meaning r)) = (r.kind ≡ invariants) × IsNameless r
SaysInvariants m = Unit {0}

pub record BlocksKnown (p : Program) : Type 0 where
  pub routine : (k : ℕ) → SaysInvariants (find nameless (system_of p k).scope)
  pub quiet : (k : ℕ) → AreQuiet (invariants_in (system_of p k).scope).scope (invariants_in (system_of p k).scope).expressions

-- the scope is one of the block: its checks call the same routine
pub record IsOfBlock (p : Program) (cs : List Component) (n : ℕ) (s : Scope) : Type 0 where
  pub found : find nameless s ≡ find nameless (system_of p (component_at cs n).system).scope
  pub from : since nameless s ≡ since nameless (system_of p (component_at cs n).system).scope

-- ---- where invariants hold

module _ (p : Program) where
  -- one of a component is true where the component has the same variables but for queues
  true_kept : (cs ds : List Component) (n : ℕ) (s : Scope) (e : Expression) → environment_cleared (component_at cs n).environment ≡ environment_cleared (component_at ds n).environment → expression_calls s e ≡ [] → asks_empty s e ≡ false → IsTrueIn p cs n s e → IsTrueIn p ds n s e
  true_kept cs ds n s e same quiet asks h =
      truth_kept (value (record { program = p; calls = check_call n s ∷ []; components = cs }) e) (value (record { program = p; calls = check_call n s ∷ []; components = ds }) e) (value_same p (check_call n s) refl [] [] cs ds same e quiet asks) h.0 h.1 h.2

  pub all_kept : (cs ds : List Component) (n : ℕ) (s : Scope) (es : List Expression) → environment_cleared (component_at cs n).environment ≡ environment_cleared (component_at ds n).environment → AreQuiet s es → AreTrueIn p cs n s es → AreTrueIn p ds n s es
  all_kept cs ds n s [] same quiet h = tt
  all_kept cs ds n s (e ∷ es) same quiet h = ((λ asks. true_kept cs ds n s e same quiet.0 asks (h.0 asks)), all_kept cs ds n s es same quiet.1 h.1)

  -- what a check has found is true of the component alone
  pub found_true : (cs : List Component) (n : ℕ) (s : Scope) (around : List Call) (e : Expression) (x : Typed) → expression_calls s e ≡ [] → value (record { program = p; calls = check_call n s ∷ around; components = cs }) e ≡ Ok x → is_true x ≡ true → asks_empty s e ≡ false → IsTrueIn p cs n s e
  found_true cs n s around e x quiet is truth asks =
      truth_kept (value (record { program = p; calls = check_call n s ∷ around; components = cs }) e) (value (record { program = p; calls = check_call n s ∷ []; components = cs }) e) (value_same p (check_call n s) refl around [] cs cs refl e quiet asks) x is truth

  module _ (known : BlocksKnown p) where
    pub holds_kept : (cs ds : List Component) (n : ℕ) → (component_at ds n).system ≡ (component_at cs n).system → environment_cleared (component_at cs n).environment ≡ environment_cleared (component_at ds n).environment → InvariantsHold p cs n → InvariantsHold p ds n
    holds_kept cs ds n system same h =
        subst (λ k. AreTrueIn p ds n (invariants_in (system_of p k).scope).scope (invariants_in (system_of p k).scope).expressions) (sym system)
        (all_kept cs ds n (invariants_at p cs n).scope (invariants_at p cs n).expressions same (known.quiet (component_at cs n).system) h)

  none_meant : (cs : List Component) (n : ℕ) (m : Option Meaning) (s : Scope) → is_routine_meant m ≡ false → AreTrueIn p cs n (invariants_meant m s).scope (invariants_meant m s).expressions
  none_meant cs n (Some (routine_meaning r)) s h = absurd (let bad : true ≡ false = h in cc)
  none_meant cs n m s h = tt

  -- a block without invariants
  pub none_hold : (cs : List Component) (n : ℕ) → has_invariants (system_of p (component_at cs n).system).scope ≡ false → InvariantsHold p cs n
  none_hold cs n h = none_meant cs n (find nameless (system_of p (component_at cs n).system).scope) (since nameless (system_of p (component_at cs n).system).scope) h

  -- ---- what stands before the items

  -- the component that is executed has just been checked
  abbrev pub IsChecked : List Component → List Call → List Item → Type 0
  IsChecked cs calls items = Guarded true (outlines calls) items × InvariantsHold p cs (current calls).component

  -- the check is going on: what was said so far is true
  abbrev pub SaysNext : List Component → ℕ → List Item → List Item → Type 0
  SaysNext cs n items after =
      ((t : Statement) × IsSaid t × AreQuiet (invariants_at p cs n).scope (said t) × (AreTrueIn p cs n (invariants_at p cs n).scope (said t) → InvariantsHold p cs n) × (items ≡ statement_item t ∷ return None ∷ after))
      ⊎ (InvariantsHold p cs n × (items ≡ return None ∷ after))

  pub record InCheck (cs : List Component) (calls : List Call) (items : List Item) : Type 0 where
    pub component : ℕ
    pub around : List Call
    pub after : List Item
    pub calls_are : calls ≡ check_call component (invariants_at p cs component).scope ∷ around
    pub top : (current around).component ≡ component
    pub guarded : Guarded true (outlines around) after
    pub next : SaysNext cs component items after

  abbrev pub Standing : Status → List Component → List Call → List Item → Type 0
  Standing u cs calls items = Guarded false (outlines calls) items ⊎ ((u ≡ ready) × (IsChecked cs calls items ⊎ InCheck cs calls items))
