-- In the program around its system types stand constants, types and permanent variables alone.
use Rattle.cp_resolved.proofs.Words.{ℕ, suc, List, [], ◌∷◌, ◌++◌, Name, Scope, permanent_variable, AreOuter}
use Rattle.cp_tree.specs.Syntax as syntax
use Rattle.cp_meaning.specs.Types.{Base, enumerated, Ty}
use Rattle.cp_meaning.specs.Declarations.{with_constants, simple_in, type_in, fields_in, names_of, constants_in, with_names, Block, named_variables, variables_in}

outer_counted : (b : Base) (n : ℕ) (xs : List Name) (s : Scope) → AreOuter s → AreOuter (with_constants b n xs s)
outer_counted b n [] s h = h
outer_counted b n (x ∷ xs) s h = outer_counted b (suc n) xs (_ ∷ s) (tt, h)

outer_simple : (s : Scope) (t : syntax.Simple) → AreOuter s → AreOuter (simple_in s t).1
outer_simple s (syntax.enumeration at is) h = outer_counted (enumerated at (names_of is)) 0 (names_of is) s h
outer_simple s _ h = h

mutual
  pub outer_type : (s : Scope) (t : syntax.TypeTerm) → AreOuter s → AreOuter (type_in s t).1
  outer_type s (syntax.simple at t) h = outer_simple s t h
  outer_type s (syntax.array_of at t u) h = outer_type (simple_in s t).1 u (outer_simple s t h)
  outer_type s (syntax.set_type at t) h = outer_simple s t h
  outer_type s (syntax.record_of at gs b) h = outer_fields s gs h

  outer_fields : (s : Scope) (gs : syntax.FieldGroups) → AreOuter s → AreOuter (fields_in s gs).1
  outer_fields s syntax.no_fields h = h
  outer_fields s (syntax.more_fields (syntax.fields is t) gs) h = outer_fields (type_in s t).1 gs (outer_type s t h)

pub outer_constants : (s : Scope) (ds : List syntax.ConstantDefinition) → AreOuter s → AreOuter (constants_in s ds)
outer_constants s [] h = h
outer_constants s (d ∷ ds) h = outer_constants (_ ∷ s) ds (tt, h)

outer_names : (xs : List Name) (t : Ty) (s : Scope) → AreOuter s → AreOuter (with_names xs (permanent_variable t) s)
outer_names [] t s h = h
outer_names (x ∷ xs) t s h = outer_names xs t (_ ∷ s) (tt, h)

pub outer_variables : (b : Block) (gs : List syntax.VariableGroup) → AreOuter b.scope → AreOuter (variables_in permanent_variable b gs).scope
outer_variables b [] h = h
outer_variables b (g ∷ gs) h = outer_variables (record { variables = b.variables ++ named_variables (names_of g.names) (type_in b.scope g.variable_type).0; scope = with_names (names_of g.names) (permanent_variable (type_in b.scope g.variable_type).0) (type_in b.scope g.variable_type).1 }) gs (outer_names (names_of g.names) (type_in b.scope g.variable_type).0 (type_in b.scope g.variable_type).1 (outer_type b.scope g.variable_type h))
