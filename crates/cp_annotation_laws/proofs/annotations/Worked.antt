-- A program with an annotation that is false, and the same without it: what is said of both.
use Rattle.std.proofs.Common.{◌≡◌, refl, [], ◌∷◌, None}
use Rattle.std.specs.Prelude.{codes, pos}
use Rattle.cp_machine.specs.declared.shown.Shown.TheVariants as shown
use Rattle.cp_meaning.specs.State.{book_discipline}
use Rattle.cp_machine_laws.specs.Named.{named}
use Rattle.cp_run.specs.declared.outcome.OutcomeKind.TheVariants.{Finished, RunError}
use Rattle.cp_run.specs.Run.{Ended, stretch, opened, run_from, run}
use Rattle.cp_store.specs.declared.error.ErrorName.TheVariants as error
use Rattle.cp_tree.specs.declared.expression.Relation.TheVariants as relation
use Rattle.cp_tree.specs.declared.statement.AssertionKind.TheVariants as said
use Rattle.cp_tree.specs.Syntax.{alone, related, sum, no_terms, term, no_factors, number, no_expressions, more_expressions, designator, no_selectors, invoke, asserted, no_statements, more_statements, Statement, Tree}
use Rattle.cp_annotation_laws.specs.Plain.{plain_tree}

abbrev display_one : Statement
display_one = invoke 6 (designator (record { at = 6; name = codes "display" }) no_selectors) (more_expressions (alone 8 (sum 8 None (term 8 (number 8 1) no_factors) no_terms)) no_expressions)

abbrev program_of : Statement → Tree
program_of s = record { program = record { parts = []; routines = []; body = record { at = 0; statements = more_statements s no_statements }; period = 11 }; lines = 1 ∷ 2 ∷ 2 ∷ 2 ∷ 2 ∷ 2 ∷ 3 ∷ 3 ∷ 3 ∷ 3 ∷ 3 ∷ 3 ∷ [] }

-- begin\n"(* assert 1 = 2 *)"\ndisplay(1) end.
abbrev false_assertion : Tree
false_assertion = program_of (asserted 2 said.Assertion (related 2 (sum 2 None (term 2 (number 2 1) no_factors) no_terms) relation.Equal (sum 4 None (term 4 (number 4 2) no_factors) no_terms)) display_one)

-- without it: the statement alone, with the numbers and lines of its tokens
pub false_assertion-plain : plain_tree false_assertion ≡ program_of display_one
false_assertion-plain = refl

-- the one schedule is ended by the assertion, on its line
pub false_assertion-ends : run (named false_assertion book_discipline) 5 100 [] ≡ Ended (record { kind = RunError error.Assertion 0 2; output = [] }) 0
unfolding run_from opened stretch
false_assertion-ends = refl

-- and without it goes on to the end of the program
pub plain-ends : run (named (plain_tree false_assertion) book_discipline) 5 100 [] ≡ Ended (record { kind = Finished; output = shown.Integer (pos 1) ∷ [] }) 0
unfolding run_from opened stretch
plain-ends = refl
