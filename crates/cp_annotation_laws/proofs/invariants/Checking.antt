-- A check that is going on: each item of it says one invariant, and at its end all have been found true.
use Rattle.std.proofs.Common.{◌≡◌, inl, inr, ℕ, true, List, [], ◌∷◌, ◌++◌, None, Ok, ap, sym, refl, subst}
use Rattle.cp_tree.specs.Syntax.{Statement, empty, asserted, Program}
use Rattle.cp_meaning.specs.Scopes.{Scope}
use Rattle.cp_meaning.specs.State.{Component, Call, current, Item, statement_item, return}
use Rattle.cp_meaning.specs.Places.{View}
use Rattle.cp_meaning.specs.Operations.{is_true}
use Rattle.cp_meaning.specs.Expressions.{value}
use Rattle.cp_meaning.specs.Lifting.{items_of}
use Rattle.cp_meaning.specs.Calls.{with_items}
use Rattle.cp_meaning.specs.LocalRules.{returned, does, takes}
use Rattle.cp_meaning.proofs.Frames.{Frame, frames, entry_in}
use Rattle.cp_meaning.proofs.Taken.{AllOf, bind_known, if_all}
use Rattle.cp_resolved.proofs.declarations.Nameless.{IsSaid}
use Rattle.cp_annotation_laws.specs.Invariants.{said, check_call, AreTrueIn, invariants_at, InvariantsHold}
use Rattle.cp_annotation_laws.proofs.invariants.Guarded.{outlines, Guarded}
use Rattle.cp_annotation_laws.proofs.invariants.Standing.{AreQuiet, found_true, SaysNext}
use Rattle.cp_annotation_laws.proofs.invariants.Stepping.{Steps, told, never_both}

said_items : (s : Scope) (t : Statement) → IsSaid t → AreQuiet s (said t) → items_of s t ≡ statement_item t ∷ []
said_items s (empty at) h q = refl
said_items s (asserted at a e t) h q = ap (λ (xs : List Item). xs ++ statement_item (asserted at a e t) ∷ []) q.0
said_items s _ h q = absurd h

module _ (p : Program) (cs : List Component) (pid n : ℕ) (around : List Call) (after : List Item) (top : (current around).component ≡ n) (guarded : Guarded true (outlines around) after) where
  abbrev s : Scope
  s = (invariants_at p cs n).scope

  abbrev v : View
  v = record { program = p; calls = check_call n s ∷ around; components = cs }

  abbrev fs : List Frame
  fs = frames (check_call n s ∷ around)

  still : (items : List Item) → SaysNext p cs n items after → Steps p cs fs (with_items v items)
  still items next =
      record {
        stands = inr (refl, inr (record { component = n; around = around; after = after; calls_are = refl; top = top; guarded = guarded; next = next }));
        left = λ m h e. never_both (entry_in m fs) h e;
        ended = λ m h. inl h;
        move = tt;
      }

  says : (t : Statement) → IsSaid t → AreQuiet s (said t) → (AreTrueIn p cs n s (said t) → InvariantsHold p cs n) → AllOf (Steps p cs fs) (does v pid t (return None ∷ after))
  says (empty at) h quiet rest = still (return None ∷ after) (inr (rest tt, refl))
  says (asserted at a e t) h quiet rest =
      bind_known (λ x. value v e ≡ Ok x) (Steps p cs fs) (value v e) _ (told (value v e)) (λ x is.
      if_all (Steps p cs fs) (is_true x) _ _ (λ truth. still (items_of s t ++ return None ∷ after) (inl (
        t,
        h,
        quiet.1,
        (λ more. rest ((λ asks. found_true p cs n s around e x quiet.0 is truth asks), more)),
        ap (λ (xs : List Item). xs ++ return None ∷ after) (said_items s t h quiet.1),
      ))) tt)
  says _ h quiet rest = absurd h

  ends_well : InvariantsHold p cs n → Steps p cs fs (returned v None after)
  ends_well holds =
      record {
        stands = inr (refl, inl (guarded, subst (InvariantsHold p cs) (sym top) holds));
        left = λ m h e. never_both (entry_in m (frames around)) h e;
        ended = λ m h. inl h;
        move = tt;
      }

  pub check_goes_on : (items : List Item) → SaysNext p cs n items after → AllOf (Steps p cs fs) (takes v pid items)
  check_goes_on items (inl x) = subst (λ is. AllOf (Steps p cs fs) (takes v pid is)) (sym x.4) (says x.0 x.1 x.2 x.3)
  check_goes_on items (inr x) = subst (λ is. AllOf (Steps p cs fs) (takes v pid is)) (sym x.1) (ends_well x.0)
