-- What stands before the items of a process stands there still, where the component that it executes is as it was.
use Rattle.std.proofs.Common.{◌≡◌, ◌∙◌, ◌⊎◌, inl, inr, ℕ, true, List, ◌∷◌, ap, sym, subst}
use Rattle.cp_tree.specs.Syntax.{Statement, Program}
use Rattle.cp_meaning.specs.State.{Component, component_at, Call, current, Item, Status, ready}
use Rattle.cp_meaning.specs.Systems.{system_of}
use Rattle.cp_annotation_laws.specs.Invariants.{invariants_in, said, check_call, AreTrueIn, invariants_at, InvariantsHold}
use Rattle.cp_annotation_laws.proofs.invariants.Cleared.{environment_cleared}
use Rattle.cp_annotation_laws.proofs.invariants.Guarded.{outlines, Guarded}
use Rattle.cp_annotation_laws.proofs.invariants.Standing.{AreQuiet, BlocksKnown, all_kept, holds_kept, SaysNext, InCheck, Standing}

-- the component is as it was but for queues, or its invariants hold whatever it is
pub record IsCarried (p : Program) (cs ds : List Component) (n : ℕ) : Type 0 where
  pub system : (component_at ds n).system ≡ (component_at cs n).system
  pub variables : (environment_cleared (component_at cs n).environment ≡ environment_cleared (component_at ds n).environment) ⊎ InvariantsHold p ds n

module _ (p : Program) (known : BlocksKnown p) (cs ds : List Component) where
  pub holds_carried : (n : ℕ) → IsCarried p cs ds n → InvariantsHold p cs n → InvariantsHold p ds n
  holds_carried n k h = go k.variables
    where
      go : (environment_cleared (component_at cs n).environment ≡ environment_cleared (component_at ds n).environment) ⊎ InvariantsHold p ds n → InvariantsHold p ds n
      go (inl e) = holds_kept p known cs ds n k.system e h
      go (inr x) = x

  module _ (n : ℕ) (k : IsCarried p cs ds n) where
    same : invariants_at p ds n ≡ invariants_at p cs n
    same = ap (λ j. invariants_in (system_of p j).scope) k.system

    rest_carried : (t : Statement) → AreQuiet (invariants_at p cs n).scope (said t) → (AreTrueIn p cs n (invariants_at p cs n).scope (said t) → InvariantsHold p cs n) → AreTrueIn p ds n (invariants_at p ds n).scope (said t) → InvariantsHold p ds n
    rest_carried t quiet rest h = go k.variables
      where
        go : (environment_cleared (component_at cs n).environment ≡ environment_cleared (component_at ds n).environment) ⊎ InvariantsHold p ds n → InvariantsHold p ds n
        go (inl e) = holds_kept p known cs ds n k.system e (rest (all_kept p ds cs n (invariants_at p cs n).scope (said t) (sym e) quiet (subst (λ i. AreTrueIn p ds n i.scope (said t)) same h)))
        go (inr x) = x

    next_carried : (items after : List Item) → SaysNext p cs n items after → SaysNext p ds n items after
    next_carried items after (inl x) = inl (x.0, x.1, subst (λ i. AreQuiet i.scope (said x.0)) (sym same) x.2, rest_carried x.0 x.2 x.3, x.4)
    next_carried items after (inr x) = inr (holds_carried n k x.0, x.1)

    check_carried : (calls around : List Call) (items after : List Item) → calls ≡ check_call n (invariants_at p cs n).scope ∷ around → (current around).component ≡ n → Guarded true (outlines around) after → SaysNext p cs n items after → InCheck p ds calls items
    check_carried calls around items after e top guarded next =
        record { component = n; around = around; after = after; calls_are = e ∙ ap (λ i. check_call n i.scope ∷ around) (sym same); top = top; guarded = guarded; next = next_carried items after next }

  pub standing_carried : (u w : Status) (calls : List Call) (items : List Item) → (u ≡ ready → w ≡ ready) → (u ≡ ready → IsCarried p cs ds (current calls).component) → Standing p u cs calls items → Standing p w ds calls items
  standing_carried u w calls items still carried (inl g) = inl g
  standing_carried u w calls items still carried (inr (e, inl x)) = inr (still e, inl (x.0, holds_carried (current calls).component (carried e) x.1))
  standing_carried u w calls items still carried (inr (e, inr x)) =
      inr (still e, inr (check_carried x.component (subst (IsCarried p cs ds) (ap (λ ks. (current ks).component) x.calls_are) (carried e)) calls x.around items x.after x.calls_are x.top x.guarded x.next))
