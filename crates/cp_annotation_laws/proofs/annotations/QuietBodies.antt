-- The facts of each program that was read and breaks no rule.
use Rattle.std.proofs.Common.{◌≡◌, ℕ, false, [], Ok, sym, refl, subst}
use Rattle.cp_tree.specs.Read.{IsRead}
use Rattle.cp_tree.specs.View.{expression_at}
use Rattle.cp_tree.specs.Syntax.{Expression, Statement, empty, assign, invoke, block, if_then, if_else, case_of, while_do, repeat_until, for_do, cycle, init, asserted, Statements, no_statements, more_statements, Arms, no_arms, more_arms, arm, Tree}
use Rattle.cp_meaning_laws.specs.Accepted.{IsAccepted}
use Rattle.cp_scope.specs.Counts.{no_use}
use Rattle.cp_scope.specs.Judged.{both}
use Rattle.cp_scope.specs.Scopes.{Scopes}
use Rattle.cp_scope.specs.declared.count.Use.{Use}
use Rattle.cp_check.specs.declared.operand.Context.{Context}
use Rattle.cp_check.specs.declared.operand.Operand.{Operand}
use Rattle.cp_check.specs.Expressions.{expression}
use Rattle.cp_check.specs.Operands.{quiet}
use Rattle.cp_check.specs.Statements as statements
use Rattle.cp_check.specs.Statements.{statement}
use Rattle.cp_meaning.specs.Declarations.{RoutineMeaning}
use Rattle.cp_meaning.specs.Lifting.{expression_calls}
use Rattle.cp_meaning.specs.Scopes.{Scope}
use Rattle.cp_resolved.specs.Layouts.{Here}
use Rattle.cp_resolved.specs.Openings.{meaning_at}
use Rattle.cp_resolved.specs.Judging.{tokens_of}
use Rattle.cp_resolved.specs.TreeLayouts.{layouts_of}
use Rattle.cp_resolved.specs.Typed.{Tokens, ScopesAgree, IsSmallExpression}
use Rattle.cp_resolved.proofs.agreeing.WithoutFaults.{Then, then_of, both_of}
use Rattle.cp_resolved.proofs.statements.CallsKnown as calls_known
use Rattle.cp_resolved.proofs.statements.EachStatement.{EachIn, EachOf, EachArm, each_of, IsSound, sound_of}
use Rattle.cp_annotation_laws.proofs.annotations.Spoken.{SpokenStatement, SpokenStatements, SpokenArms, IsFine, AreFine, AreFineArms}
use Rattle.cp_annotation_laws.proofs.annotations.Facts.{Facts}
use Rattle.cp_annotation_laws.proofs.annotations.SilentCalls.{expression_silent}
use Rattle.cp_annotation_laws.proofs.annotations.SpokenPrograms.{read_spoken, bodies_spoken}
use Rattle.cp_annotation_laws.proofs.annotations.SpokenScopes.{scopes_spoken, systems_spoken}

-- an annotation calls nothing
abbrev IsSilent : Scope → Statement → Type 0
IsSilent s (asserted at k e t) = expression_calls s e ≡ []
IsSilent s t = Unit {0}

-- ---- written and silent: fine

module _ (s : Scope) where
  mutual
    fine_in : (t : Statement) → SpokenStatement t → EachIn (IsSilent s) t → IsFine s t
    fine_in (empty at) h q = tt
    fine_in (assign at d e) h q = h
    fine_in (invoke at d es) h q = h
    fine_in (block at ss) h q = fine_of ss h q.1
    fine_in (if_then at e t) h q = (h.0, fine_in t h.1 q.1)
    fine_in (if_else at e t u) h q = (h.0, fine_in t h.1 q.1, fine_in u h.2 q.2)
    fine_in (case_of at e as' b) h q = (h.0, fine_arms as' h.1 q.1)
    fine_in (while_do at e t) h q = (h.0, fine_in t h.1 q.1)
    fine_in (repeat_until at ss e) h q = (fine_of ss h.0 q.1, h.1)
    fine_in (for_do at i e d f t) h q = (h.0, h.1, h.2, fine_in t h.3 q.1)
    fine_in (cycle at ss) h q = fine_of ss h q.1
    fine_in (init at ts) h q = h
    fine_in (asserted at k e t) h q = (h.0, q.0, fine_in t h.1 q.1)

    fine_of : (ts : Statements) → SpokenStatements ts → EachOf (IsSilent s) ts → AreFine s ts
    fine_of no_statements h q = tt
    fine_of (more_statements t ts) h q = (fine_in t h.0 q.0, fine_of ts h.1 q.1)

    fine_arms : (as' : Arms) → SpokenArms as' → EachArm (IsSilent s) as' → AreFineArms s as'
    fine_arms no_arms h q = tt
    fine_arms (more_arms (arm cs t) as') h q = ((h.0.0, fine_in t h.0.1 q.0), fine_arms as' h.1 q.1)

-- ---- of each routine and initial statement

module _ (t : Tree) (read : IsRead t.program) (ok : IsAccepted t) (n : ℕ) where
  abbrev own : RoutineMeaning
  own = (calls_known.a t read ok n).opening.meaning

  abbrev s : Scopes
  s = calls_known.s t read ok n

  abbrev w : Context
  w = calls_known.w t read ok n

  abbrev tokens : Tokens
  tokens = tokens_of t.program

  abbrev h : Here
  h = record { program = t.program; layouts = layouts_of t; system = (layouts_of t).owners n; routine = n; scope = own.scope }

  agrees : ScopesAgree tokens s h
  agrees = (calls_known.a t read ok n).agreed.scopes (layouts_of t) ((layouts_of t).owners n) n

  silent_annotation : (e : Expression) (r : Use) → IsSmallExpression e → statements.assertion s w e ≡ Ok r → expression_calls own.scope e ≡ []
  unfolding statements.assertion
  silent_annotation e r small is =
      let k : Then (expression s (quiet w) false e) (λ (o : Operand). statements.check_test (expression_at e) o o.uses) r = then_of (expression s (quiet w) false e) (λ (o : Operand). statements.check_test (expression_at e) o o.uses) r is in
      expression_silent s (quiet w) refl tokens h agrees e small k.value k.is

  silent_one : (x : Statement) → IsSound s w x → IsSilent own.scope x
  unfolding statement
  silent_one (asserted at k e x) i =
      let j : Then (both (statements.assertion s w e) (statement s w x)) statements.together i.use_of = then_of (both (statements.assertion s w e) (statement s w x)) statements.together i.use_of i.is in
      silent_annotation e j.value.0 i.small.0 (both_of (statements.assertion s w e) (statement s w x) j.value j.is).first
  silent_one _ i = tt

  silent_body : EachOf (IsSilent own.scope) own.body
  silent_body =
      let right = calls_known.judged t read ok n in
      each_of (IsSound s w) (IsSilent own.scope) silent_one own.body (sound_of s w own.body (calls_known.a t read ok n).small (Ok no_use) right.value right.is).rest

  fine_body : AreFine (meaning_at t.program n).scope (meaning_at t.program n).body
  fine_body = fine_of (meaning_at t.program n).scope (meaning_at t.program n).body (bodies_spoken t.program read n) (subst (λ (m : RoutineMeaning). EachOf (IsSilent m.scope) m.body) (sym (calls_known.a t read ok n).means) silent_body)

pub facts_of : (t : Tree) → IsRead t.program → IsAccepted t → Facts t.program
facts_of t read ok =
    record {
      spoken = read_spoken t.program read;
      visible = systems_spoken t.program (read_spoken t.program read);
      scopes = scopes_spoken t.program (read_spoken t.program read);
      bodies = λ n. fine_body t read ok n;
    }
