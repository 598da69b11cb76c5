-- The checker's scopes agree at all statements of a tree that was read and breaks no rule.
use Rattle.cp_resolved.proofs.Words.{ℕ, zero, suc, List, [], ◌∷◌, slice_get, refl, Program, Tree, SystemMeaning, declared, own_meaning}
use Rattle.cp_resolved.proofs.Words.{or_own, system_of, enumerations_of, Each, IsStandingVariable, IsStandingParameter, IsSystemParameter}
use Rattle.cp_resolved.specs.Judging.{tokens_of, ScopesLaw}
use Rattle.cp_resolved.proofs.Words.{IsRead, IsAccepted}
use Rattle.cp_resolved.specs.Tokens.{token_of_type}
use Rattle.cp_resolved.proofs.agreeing.AgreeingProgram.{ProgramResult, program_agrees}
use Rattle.cp_resolved.proofs.agreeing.DifferentIndexed.{tokens_different}
use Rattle.cp_resolved.proofs.agreeing.DifferentTokens.{all_numbered, all_few}
use Rattle.cp_resolved.proofs.declarations.EnumerationsRead.{read_few, read_different}
use Rattle.cp_resolved.proofs.declarations.SmallTexts.{read_small}

abbrev IsStandingSystem : SystemMeaning → Type 0
IsStandingSystem m = Each IsStandingVariable m.variables × Each IsStandingParameter m.parameters × Each IsSystemParameter m.parameters

-- a system type by its number, the program's own after all others
system_at : (ms : List SystemMeaning) (k : ℕ) (own : SystemMeaning) → Each IsStandingSystem ms → IsStandingSystem own → IsStandingSystem (or_own own (slice_get ms k))
system_at [] k own h g = g
system_at (m ∷ ms) zero own h g = h.0
system_at (m ∷ ms) (suc k) own h g = system_at ms k own h.1 g

pub agreed_program : (t : Tree) → IsRead t.program → IsAccepted t → ProgramResult (tokens_of t.program) t.program
agreed_program t read accepted =
    let p : Program = t.program in
    let different = tokens_different p read.proper.indexed in
    program_agrees (tokens_of p) p t refl accepted (all_numbered p different) (read_small p read) (all_few (token_of_type p) (λ k. (system_of p k).kind) (enumerations_of p) (read_few p read) (read_different p read)) different

pub scopes_law : ScopesLaw
scopes_law t read accepted =
    let r : ProgramResult (tokens_of t.program) t.program = agreed_program t read accepted in
    let own : SystemMeaning = own_meaning (declared t.program) t.program in
    record {
      places = r.places;
      variables = λ k. (system_at (declared t.program).systems k own r.types (r.variables, tt, tt)).0;
      parameters = λ k. (system_at (declared t.program).systems k own r.types (r.variables, tt, tt)).1;
      handed = λ k. (system_at (declared t.program).systems k own r.types (r.variables, tt, tt)).2;
    }
