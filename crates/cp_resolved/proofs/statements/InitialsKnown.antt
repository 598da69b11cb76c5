-- What is known of the starts of an accepted tree: where they stand no local variable is visible, and their arguments use names as the rules want it.
use Rattle.cp_resolved.proofs.Words.{◌≡◌, ℕ, [], ◌++◌, ap, subst, ◌∙◌, Some, IsAccepted, Name, Ty, local_variable, find, RoutineMeaning, parameter_variables, system_of}
use Rattle.cp_resolved.proofs.Words.{StatementFormed, AllFormed, ArmsFormed, routine_variables, system_variables, Here, place_of, meaning_at, layouts_of, IsRead}
use Rattle.cp_tree.specs.Syntax.{Statement, block, if_then, if_else, case_of, while_do, repeat_until, for_do, cycle, asserted, Statements, no_statements, more_statements, Arms, no_arms, more_arms, arm, Program, Tree}
use Rattle.cp_resolved.proofs.statements.EachStatement.{EachIn, EachOf, EachArm}
use Rattle.cp_resolved.proofs.forms.FormedOfTrees.{formed_law}
use Rattle.cp_resolved.proofs.statements.KnownOfTrees.{some_opening}
use Rattle.cp_resolved.proofs.declarations.Placed.{placed_law}
use Rattle.cp_resolved.proofs.agreeing.ScopeVariables.{AreOf, of_local}
use Rattle.cp_resolved.proofs.components.VisibleComponents.{visible}

-- ---- each statement has its forms

module _ (h : Here) where
  mutual
    formed_in : (t : Statement) → StatementFormed h t → EachIn (StatementFormed h) t
    formed_in (block at ss) f = (f, formed_of ss f)
    formed_in (if_then at e t) f = (f, formed_in t f.1)
    formed_in (if_else at e t u) f = (f, formed_in t f.1, formed_in u f.2)
    formed_in (case_of at e as' b) f = (f, formed_arms as' f.1)
    formed_in (while_do at e t) f = (f, formed_in t f.1)
    formed_in (repeat_until at ss e) f = (f, formed_of ss f.0)
    formed_in (for_do at i e d b t) f = (f, formed_in t f.1)
    formed_in (cycle at ss) f = (f, formed_of ss f)
    formed_in (asserted at k e t) f = (f, formed_in t f.1)
    formed_in _ f = f

    pub formed_of : (ss : Statements) → AllFormed h ss → EachOf (StatementFormed h) ss
    formed_of no_statements f = tt
    formed_of (more_statements t ts) f = (formed_in t f.0, formed_of ts f.1)

    formed_arms : (as' : Arms) → ArmsFormed h as' → EachArm (StatementFormed h) as'
    formed_arms no_arms f = tt
    formed_arms (more_arms (arm cs t) as') f = (formed_in t f.0.1, formed_arms as' f.1)

-- ---- of the routine or initial statement of a number

-- a place with its scope, at which its statements have their forms
pub record FormedSomewhere (t : Tree) (n : ℕ) : Type 0 where
  pub place : Here
  pub scope : place.scope ≡ (meaning_at t.program n).scope
  pub each : EachOf (StatementFormed place) (meaning_at t.program n).body

module _ (t : Tree) (read : IsRead t.program) (ok : IsAccepted t) (n : ℕ) where
  abbrev p : Program
  p = t.program

  pub formed_somewhere : FormedSomewhere t n
  formed_somewhere =
      let w = some_opening t read ok n in
      record {
        place = place_of t w.0;
        scope = ap (λ (m : RoutineMeaning). m.scope) w.2;
        each = subst (λ (m : RoutineMeaning). EachOf (StatementFormed (place_of t w.0)) m.body) w.2 (formed_of (place_of t w.0) (meaning_at p w.0).body (formed_law t read ok w.0 w.1).formed);
      }

  -- without parameters and variables none is visible
  pub no_local : (meaning_at p n).parameters ≡ [] → (meaning_at p n).variables ≡ [] → (x : Name) (u : Ty) → find x (meaning_at p n).scope ≡ Some (local_variable u) → ⊥
  no_local none alone x u e =
      let m : RoutineMeaning = meaning_at p n in
      let empty : routine_variables m ≡ [] = ap (λ qs. parameter_variables qs ++ m.variables) none ∙ alone in
      of_local x u [] (system_variables (system_of p ((layouts_of t).owners n))) m.scope (subst (λ vs. AreOf vs (system_variables (system_of p ((layouts_of t).owners n))) m.scope) empty (visible t (placed_law t read ok) n)) e
