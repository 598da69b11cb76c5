-- The smallest program stands for itself: layouts for it exist.
use Rattle.std.proofs.Common.{◌≡◌, ℕ, ◌<◌, ◌≤◌, Bool, true, false, if◌then◌else◌, [], ◌∷◌, Some, None, refl, subst, arith}
use Rattle.cp_resolved.proofs.Words.{empty, no_statements, more_statements, Tree, Local, Tables, Name, same_name, system_of, Layouts, Ground}
use Rattle.cp_slots.specs.declared.item.Action.TheVariants as action
use Rattle.cp_slots.specs.declared.tables.ComponentKind.TheVariants as kind
use Rattle.cp_meaning.specs.Scopes.{Meaning, local_variable, permanent_variable, Scope, find, predeclared}
use Rattle.cp_resolved.specs.Resolved.{initial_meaning, RoutineIs, SystemIs, ComponentIs, ProcessIs, Stands}

-- begin end.
abbrev pub smallest : Tree
smallest = record { program = record { parts = []; routines = []; body = record { at = 0; statements = more_statements (empty 1) no_statements }; period = 2 }; lines = 1 ∷ 1 ∷ 1 ∷ [] }

abbrev pub tables : Tables
tables =
    record {
      items = record { action = action.Empty; next = None; line = 1; routine = 0; need = 0 } ∷ [];
      routines = record { body = Some 0; image = []; references = 0; result = 0; room = 0; reference_room = 0; own = 0; extents = []; system = 0 } ∷ [];
      systems = record { own = 0; parameters = [] } ∷ [];
      components = record { kind = kind.Process 0; base = 0; system = 0 } ∷ [];
      processes = record { component = 0; routine = 0 } ∷ [];
      monitors = 0;
      permanents = [];
      depth = 1;
      cells = 0;
      references = 0;
      arguments = 0;
      names = [];
    }

abbrev pub layouts : Layouts
layouts =
    record {
      systems = λ k. record { slots = λ x. 0; variables = []; parts = []; firsts = λ x. 0; initial = 0; count = 1 };
      frames = λ n. record { origins = λ x. Local 0; variables = []; references = [] };
      meanings = λ n. initial_meaning (system_of smallest.program 0);
      owners = λ n. 0;
      names = λ n. None;
    }

-- no predeclared name is a variable
abbrev IsNoVariable : Meaning → Type 0
IsNoVariable (local_variable t) = ⊥
IsNoVariable (permanent_variable t) = ⊥
IsNoVariable m = Unit {0}

abbrev NoVariables : Scope → Type 0
NoVariables [] = Unit {0}
NoVariables (d ∷ ds) = IsNoVariable d.1 × NoVariables ds

found : (x : Name) (s : Scope) (m : Meaning) → NoVariables s → find x s ≡ Some m → IsNoVariable m
found x [] m h e = absurd (cc)
found x (d ∷ ds) m h e = go (same_name x d.0) (λ k. found x ds m h.1 k) e
  where
    go : (b : Bool) → (find x ds ≡ Some m → IsNoVariable m) → (if b then Some d.1 else find x ds) ≡ Some m → IsNoVariable m
    go true ih e = subst IsNoVariable (let w : d.1 ≡ m = cc in w) h.0
    go false ih e = ih e

none_declared : NoVariables predeclared
none_declared = (tt, (tt, (tt, (tt, (tt, (tt, (tt, (tt, (tt, (tt, (tt, (tt, (tt, (tt, (tt, tt)))))))))))))))

abbrev pub ground : Ground
ground = record { tables = tables; lines = 1 ∷ 1 ∷ 1 ∷ []; firsts = λ n. 0 }

routine_stands : RoutineIs ground smallest.program layouts 0
routine_stands =
    record {
      frame = record {
        local = λ x t e. cc;
        cells = λ x t e. absurd (cc);
        typed = λ x t e. absurd (cc);
        first = λ x t e. absurd (cc);
        apart = λ x y t u d e. absurd (cc);
        reference = λ x t e. cc;
        numbered = λ x t e. absurd (cc);
        different = λ x y t u d e. absurd (cc);
        locals = λ x t e. absurd (found x predeclared (local_variable t) none_declared e);
        parameters = tt;
        result = tt;
      };
      body = (None, (None, (0, refl, record { place = omega arith; action = refl; follows = refl; line = refl }), refl), refl);
      system = refl;
      owner = omega arith;
      own = λ x y e. absurd (cc);
      own_result = λ x e. absurd (cc);
      permanents = λ x t e. absurd (found x predeclared (permanent_variable t) none_declared e);
    }

system_stands : SystemIs ground smallest.program layouts 0
system_stands =
    record {
      initial = omega arith;
      statement = refl;
      owner = refl;
      cells = λ x t e. absurd (cc);
      apart = λ x y t u d e. absurd (cc);
      typed = λ x t e. absurd (cc);
      parameters = tt;
    }

component_stands : ComponentIs ground smallest.program layouts 0
component_stands = record { system = refl; kind = refl; first = λ x t e. absurd (cc); contained = λ x t e. absurd (found x predeclared (permanent_variable t) none_declared e) }

process_stands : ProcessIs ground smallest.program layouts 0
process_stands = record { component = refl; routine = refl }

none_below : (n : ℕ) → n < 1 → 0 ≡ n
none_below n h = omega arith

none_up : (n : ℕ) → n ≤ 0 → 0 ≡ n
none_up n h = omega arith

pub smallest_stands : Stands ground smallest layouts
smallest_stands =
    record {
      lines = refl;
      routines = λ n h. subst (RoutineIs ground smallest.program layouts) (none_below n h) routine_stands;
      systems = λ k h. subst (SystemIs ground smallest.program layouts) (none_up k h) system_stands;
      components = λ n h. subst (ComponentIs ground smallest.program layouts) (none_below n h) component_stands;
      processes = λ q h. subst (ProcessIs ground smallest.program layouts) (none_below q h) process_stands;
      names = refl;
      count = refl;
      process_count = refl;
      monitor_count = refl;
    }
