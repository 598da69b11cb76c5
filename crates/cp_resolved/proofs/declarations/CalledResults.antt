-- In a tree that was read and breaks no rule each function has an ordinal result (C5), and so has each function call.
use Rattle.std.proofs.Common.{◌≡◌, ℕ, List, [], ◌∷◌, Option, Some, None, refl, subst}
use Rattle.cp_resolved.proofs.Words.{IsAccepted, Ty, RoutineMeaning}
use Rattle.cp_resolved.proofs.Words.{result_type, all_calls_laid, IsRead, Each}
use Rattle.cp_resolved.proofs.Words.{call_variables, routine_called, result_called}
use Rattle.cp_tree.specs.Syntax.{Designator, Tree}
use Rattle.cp_meaning.specs.Scopes.{find}
use Rattle.cp_meaning.specs.State.{Item, function_call}
use Rattle.cp_resolved.specs.Framed.{IsOrdinal, IsOrdinalResult}
use Rattle.cp_resolved.specs.Openings.{meaning_at}
use Rattle.cp_resolved.proofs.statements.CalleesKnown.{At, at_number, CalleeKnown}
use Rattle.cp_resolved.proofs.statements.CallsKnown.{a, s, w, f, scope, calls_said, function_callee}
use Rattle.cp_resolved.proofs.statements.ExpressionsJudged.{FunctionSaid, AllSaid}
use Rattle.cp_resolved.proofs.Words.{name_of, sym}

-- ---- results of routines

pub accepted_result : (t : Tree) → IsRead t.program → IsAccepted t → (n : ℕ) → IsOrdinalResult (meaning_at t.program n).result
accepted_result t read accepted n =
    let a : At t n = at_number t read accepted n in
    subst (λ (m : RoutineMeaning). IsOrdinalResult m.result) (sym a.means) a.agreed.result

-- ---- calls

result_ordinal : (o : Option Ty) → IsOrdinalResult o → IsOrdinal (result_type o)
result_ordinal None h = refl
result_ordinal (Some t) h = h

module _ (t : Tree) (read : IsRead t.program) (accepted : IsAccepted t) (n : ℕ) where
  -- what is called is a routine of some number
  called : (d : Designator) → FunctionSaid (s t read accepted n) (w t read accepted n) (f t read accepted n) (scope t read accepted n) d → IsOrdinal (result_called (routine_called t.program (scope t read accepted n) d))
  called d said = go (routine_called t.program (scope t read accepted n) d) refl
    where
      go : (o : Option RoutineMeaning) → routine_called t.program (scope t read accepted n) d ≡ o → IsOrdinal (result_called o)
      go None e = refl
      go (Some r) e =
          let k : CalleeKnown t.program n (find (name_of d) (scope t read accepted n)) r = (function_callee t read accepted n d r said e).0 in
          subst (λ (m : RoutineMeaning). IsOrdinal (result_type m.result)) (sym k.same) (result_ordinal (meaning_at t.program k.number).result (accepted_result t read accepted k.number))

  all_called : (is : List Item) → AllSaid (s t read accepted n) (w t read accepted n) (f t read accepted n) (scope t read accepted n) is → Each (λ v. IsOrdinal v.ty) (call_variables t.program (scope t read accepted n) is)
  all_called [] h = tt
  all_called (function_call at d es ∷ is) h = (called d h.0, all_called is h.1)
  all_called _ h = absurd h

  pub accepted_calls : Each (λ v. IsOrdinal v.ty) (call_variables t.program (meaning_at t.program n).scope (all_calls_laid (meaning_at t.program n).scope (meaning_at t.program n).body))
  accepted_calls =
      subst (λ (m : RoutineMeaning). Each (λ v. IsOrdinal v.ty) (call_variables t.program m.scope (all_calls_laid m.scope m.body))) (sym (a t read accepted n).means)
      (all_called (all_calls_laid (scope t read accepted n) (a t read accepted n).opening.meaning.body) (calls_said t read accepted n))
