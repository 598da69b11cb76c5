-- What is wanted of the variables and parameters of the system types of an accepted tree that was read, so that its components stand.
use Rattle.cp_resolved.proofs.Words.{ℕ, List, [], ◌∷◌, Tree, IsAccepted, Parameter, permanent_variable, parameter_variables, system_of, AreDeclared, system_variables}
use Rattle.cp_resolved.proofs.Words.{ScopesAre, IsRead, Each, IsStandingVariable, IsStandingParameter, well_formed}
use Rattle.cp_resolved.specs.ComponentsAre.{HasComponents}
use Rattle.cp_resolved.specs.Declared.{AreOwn}
use Rattle.cp_resolved.proofs.frames.FrameCells.{each_both}
use Rattle.cp_resolved.proofs.declarations.OwnVariables.{accepted_declares}
use Rattle.cp_resolved.proofs.declarations.Plain.{plain_law}
use Rattle.cp_resolved.proofs.agreeing.ScopesOfTrees.{scopes_law}

-- `permanents` of `IsFramed`
pub accepted_permanents : (t : Tree) → IsAccepted t → (k : ℕ) → AreDeclared permanent_variable (system_of t.program k).scope (system_variables (system_of t.program k))
accepted_permanents t accepted k = accepted_declares t accepted k

parameters_stand : (qs : List Parameter) → Each IsStandingParameter qs → Each IsStandingVariable (parameter_variables qs)
parameters_stand [] h = tt
parameters_stand (q ∷ qs) h = (h.0, parameters_stand qs h.1)

-- and `standing`
pub accepted_standing : (t : Tree) → IsRead t.program → IsAccepted t → (k : ℕ) → Each IsStandingVariable (system_variables (system_of t.program k))
accepted_standing t read accepted k =
    let s : ScopesAre t.program = scopes_law t read accepted in
    each_both IsStandingVariable (parameter_variables (system_of t.program k).parameters) (system_of t.program k).variables (parameters_stand (system_of t.program k).parameters (s.parameters k)) (s.variables k)

pub accepted_own : (t : Tree) → IsRead t.program → IsAccepted t → AreOwn t.program
accepted_own t read accepted = record { visible = λ k. (accepted_permanents t accepted k).visible; standing = λ k. accepted_standing t read accepted k }

pub accepted_components : (t : Tree) → IsRead t.program → IsAccepted t → HasComponents t
accepted_components t read accepted = record { plain = plain_law t read accepted; formed = well_formed t accepted; own = accepted_own t read accepted }
