-- The layouts of the routines of a tree: names, results and parameters have the types that the rules of the language give them.
use Rattle.std.proofs.Common.{◌≡◌, ℕ, zero, suc, Bool, true, false, if◌then◌else◌, List, [], ◌∷◌, ◌++◌, Option, Some, None, inl, inr, refl, subst}
use Rattle.std.specs.Prelude.{slice_get}
use Rattle.cp_machine_laws.proofs.Words.{Tree, Program, Variable, Parameter, Name, parameter_variables, declared, own_meaning, program_system, Range, Ty, ordinal, look}
use Rattle.cp_machine_laws.proofs.Words.{initial_meaning, Each, AreDifferent, HaveValues}
use Rattle.cp_meaning.specs.Scopes.{predeclared, find}
use Rattle.cp_resolved.specs.Framed as framed
use Rattle.cp_resolved.specs.Framed.{IsFramed, IsOrdinalResult}
use Rattle.cp_resolved.specs.Judging.{Place, AreAgreed, tokens_of, places_of, ScopesAre}
use Rattle.cp_resolved.specs.Openings.{Opening, openings_of, parts_openings, routine_openings, initial_opening, meaning_in, meaning_at}
use Rattle.cp_resolved.specs.Standing.{IsFit, IsFreeVariable, IsFreeResult}
use Rattle.cp_resolved.specs.TreeLayouts.{parameters_by, layouts_of}
use Rattle.cp_resolved.specs.Typed.{Tokens}
use Rattle.cp_resolved.proofs.agreeing.ScopeVariables.{Among, look_among, among_look}
use Rattle.cp_machine_laws.proofs.trees.SystemsOfTree.{different_left, parameters_different}

-- ---- names

abbrev HasFit : Opening → Type 0
HasFit o = (x : Name) → IsFit (find x o.meaning.scope)

all_fit : (k : Tokens) (p : Program) (xs : List Place) (os : List Opening) → AreAgreed k p xs os → Each HasFit os
all_fit k p [] [] h = tt
all_fit k p (x ∷ xs) (o ∷ os) h = (h.0.fit, all_fit k p xs os h.1)
all_fit k p _ _ h = absurd h

each_at : (P : Opening → Type 0) (os : List Opening) (n : ℕ) (o : Opening) → Each P os → slice_get os n ≡ Some o → P o
each_at P [] n o h e = absurd (let bad : None ≡ Some o = e in cc)
each_at P (a ∷ os) zero o h e = subst P (let same : a ≡ o = cc in same) h.0
each_at P (a ∷ os) (suc n) o h e = each_at P os n o h.1 e

each_after : (P : Opening → Type 0) (os us : List Opening) → Each P (os ++ us) → Each P us
each_after P [] us h = h
each_after P (o ∷ os) us h = each_after P os us h.1

pub fit_so : (t : Tree) → ScopesAre t.program → (n : ℕ) (x : Name) → IsFit (find x (meaning_at t.program n).scope)
fit_so t scopes n x = go (slice_get (openings_of t.program) n) refl
  where
    p : Program
    p = t.program

    all : Each HasFit (openings_of p)
    all = all_fit (tokens_of p) p (places_of p) (openings_of p) scopes.places

    last : HasFit (initial_opening (program_system p) (own_meaning (declared p) p))
    last = (each_after HasFit (routine_openings (program_system p) (declared p).scope p.routines) (initial_opening (program_system p) (own_meaning (declared p) p) ∷ []) (each_after HasFit (parts_openings (record { systems = []; variables = []; scope = predeclared }) p.parts) (routine_openings (program_system p) (declared p).scope p.routines ++ initial_opening (program_system p) (own_meaning (declared p) p) ∷ []) all)).0

    go : (o : Option Opening) → slice_get (openings_of p) n ≡ o → IsFit (find x (meaning_in (initial_meaning (own_meaning (declared p) p)) o).scope)
    go None e = last x
    go (Some o) e = each_at HasFit (openings_of p) n o all e x

-- ---- results

free_result : (o : Option Ty) → IsOrdinalResult o → IsFreeResult o
free_result None h = tt
free_result (Some (ordinal r)) h = h
free_result (Some u) h = absurd h

ordinal_result : (o : Option Ty) (u : Ty) → IsOrdinalResult o → o ≡ Some u → (r : Range) × (u ≡ ordinal r)
ordinal_result None u h e = absurd (let bad : None ≡ Some u = e in cc)
ordinal_result (Some (ordinal r)) u h e = (r, cc)
ordinal_result (Some w) u h e = absurd h

-- ---- parameters

values_left : (qs : List Parameter) (vs : List Variable) → Each IsFreeVariable (parameter_variables qs ++ vs) → HaveValues qs
values_left [] vs h = tt
values_left (q ∷ qs) vs h = (h.0, values_left qs vs h.1)

among_parameters : (x : Name) (u : Ty) (qs : List Parameter) → Among x u (parameters_by true qs) → Among x u (parameter_variables qs)
among_parameters x u [] h = absurd h
among_parameters x u (q ∷ qs) h = go q.is_var h (among_parameters x u qs)
  where
    go : (b : Bool) → Among x u (if b then (let v : Variable = record { name = q.name; ty = q.ty } in v) ∷ parameters_by true qs else parameters_by true qs) → (Among x u (parameters_by true qs) → Among x u (parameter_variables qs)) → Among x u (parameter_variables (q ∷ qs))
    go true (inl i) rest = inl i
    go true (inr i) rest = inr (rest i)
    go false i rest = inr (rest i)

module _ (t : Tree) (good : IsFramed t) (n : ℕ) where
  abbrev p : Program
  p = t.program

  abbrev parameters : List Parameter
  parameters = (meaning_at p n).parameters

  names_different : framed.AreDifferent (parameter_variables parameters)
  names_different = different_left (parameter_variables parameters) (meaning_at p n).variables (good.locals n).different

  pub result_free : IsFreeResult (meaning_at p n).result
  result_free = free_result (meaning_at p n).result (good.result n)

  pub result_simple : (u : Ty) → (meaning_at p n).result ≡ Some u → (r : Range) × (u ≡ ordinal r)
  result_simple u e = ordinal_result (meaning_at p n).result u (good.result n) e

  pub parameters_have_values : HaveValues parameters
  parameters_have_values = values_left parameters (meaning_at p n).variables (good.free n)

  pub names_of_parameters : AreDifferent parameters
  names_of_parameters = parameters_different parameters names_different

  -- each `var` parameter of the frame is one of them
  pub references_closed : (x : Name) (u : Ty) → look x ((layouts_of t).frames n).references ≡ Some u → look x (parameter_variables parameters) ≡ Some u
  references_closed x u e = among_look x u (parameter_variables parameters) names_different (among_parameters x u parameters (look_among x u (parameters_by true parameters) e))
