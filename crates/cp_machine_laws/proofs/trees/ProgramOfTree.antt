-- What steps ask of a program, of the layouts of its tree: from what its declarations are.
use Rattle.cp_machine_laws.proofs.Words.{◌≡◌, false, List, [], ◌∷◌, ◌++◌, IsRead, Tree, plain, laid, Tables, IsAccepted, Variable, Parameter, parameter_variables, system_of}
use Rattle.cp_machine_laws.proofs.Words.{IsFramed, Each, layouts_of, placed_law, IsStandingVariable, resolving_law, HaveTypes}
use Rattle.cp_resolved.proofs.declarations.FramedOfTrees.{accepted_framed}
use Rattle.cp_resolved.proofs.systems.PartCells.{accepted_parts, accepted_parts_apart}
use Rattle.cp_resolved.proofs.agreeing.ScopesOfTrees.{scopes_law}
use Rattle.cp_resolved.proofs.statements.ChecksKnown.{no_invariants}
use Rattle.cp_resolved.proofs.declarations.SystemParameters.{accepted_values, accepted_free}
use Rattle.cp_machine_laws.specs.Prepared.{ProgramKnown, Prepared}
use Rattle.cp_machine_laws.proofs.trees.NamesOfTree.{components_below, names_known}
use Rattle.cp_machine_laws.proofs.trees.RoutinesOfTree.{fit_so, result_free, result_simple, parameters_have_values, names_of_parameters, references_closed}
use Rattle.cp_machine_laws.proofs.trees.SystemsOfTree.{standing_so, apart_so, closed_so, different_so, silent_so}

have_types : (qs : List Parameter) (vs : List Variable) → Each (λ (q : Parameter). q.is_var ≡ false) qs → Each IsStandingVariable (parameter_variables qs ++ vs) → HaveTypes qs
have_types [] vs plain standing = tt
have_types (q ∷ qs) vs plain standing = (plain.0, standing.0, have_types qs vs plain.1 standing.1)

module _ (t : Tree) (r : Tables) (read : IsRead t.program) (ok : IsAccepted t) (same : plain r ≡ laid t) where
  framed : IsFramed t
  framed = accepted_framed t read ok

  pub program_known : ProgramKnown t r (layouts_of t)
  program_known =
      record {
        below = components_below t r (resolving_law t r read ok same).stands;
        routines = λ n less. record {
          fit = fit_so t (scopes_law t read ok) n;
          result = result_free t framed n;
          parameters = parameters_have_values t framed n;
          different = names_of_parameters t framed n;
          closed = references_closed t framed n;
          components = names_known t r (resolving_law t r read ok same).stands (placed_law t read ok) framed n less;
        };
        results = result_simple t framed;
        unsaid = no_invariants t read ok;
        systems = record {
          standing = standing_so t framed;
          parts = accepted_parts t r same read ok;
          apart = apart_so t framed;
          parts_apart = accepted_parts_apart t r same read ok;
          silent = λ k x less e f. silent_so t framed k x e;
          different = different_so t framed;
          typed = λ k. have_types (system_of t.program k).parameters (system_of t.program k).variables (accepted_values t read ok k) (framed.standing k);
          closed = closed_so t framed;
          free = accepted_free t read ok;
        };
      }

  pub prepared_of_tree : Prepared t r (layouts_of t)
  prepared_of_tree = record { stands = (resolving_law t r read ok same).stands; sound = (resolving_law t r read ok same).sound; program = program_known }
