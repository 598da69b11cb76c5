-- The names of the variables of a program that was read have letters, and so have the steps of all paths.
use Rattle.std.proofs.Common.{ℕ, zero, suc, ◌+◌, ◌<◌, List, [], ◌∷◌, ◌++◌, Option, Some, None, arith, length, sym, subst}
use Rattle.std.specs.Prelude.{slice_get}
use Rattle.cp_text.specs.declared.piece.Shape.{Shape}
use Rattle.cp_text.specs.declared.piece.Shape.TheVariants as shape
use Rattle.cp_text.specs.declared.token.Kind.{Kind}
use Rattle.cp_text.specs.declared.token.Kind.TheVariants as kind
use Rattle.cp_text.specs.declared.token.Mark.{Mark}
use Rattle.cp_text.specs.declared.token.Mark.TheVariants as mark
use Rattle.cp_text.specs.declared.token.Spot.{Spot}
use Rattle.cp_text.specs.declared.token.Token.{Token}
use Rattle.cp_text.specs.Kinds.{kinds}
use Rattle.cp_text.specs.Reading.{Has, AreCut, IsLexeme, IsWord, Part, AreLexemes, no_lexeme, between, one_lexeme, token_at, closing_spot, AreTokens, no_more, blank, lexeme, annotated}
use Rattle.cp_text.specs.Spots.{after, beginning}
use Rattle.cp_text.specs.Values as values
use Rattle.cp_text.specs.Values.{lower_case}
use Rattle.cp_text.specs.Words.{reserved}
use Rattle.cp_tree.specs.declared.constant.Identifier.{Identifier}
use Rattle.cp_tree.specs.Read.{IsRead}
use Rattle.cp_tree.specs.Spelling.{put_all, put_behind, put_body, put_definition, put_group, put_identifier, put_names, put_optional, put_part, put_program_part, put_routine, put_system, put_system_definition, put_type, put_variable_group, spell}
use Rattle.cp_tree.specs.Syntax as syntax
use Rattle.cp_tree.specs.Syntax.{VariableGroup, System, SystemDefinition, Definition, type_definition, system_definition, ProgramPart, program_constants, program_types, program_variables, Program}
use Rattle.cp_meaning.specs.Components.{Listed, Path, PathStep, components_of}
use Rattle.cp_meaning.specs.Declarations.{Block, Variable, named_variables, names_of, part_in, parts_in, type_in, variables_in, with_groups, with_names}
use Rattle.cp_meaning.specs.Names.{Name}
use Rattle.cp_meaning.specs.Scopes.{Scope, permanent_variable, seen_inside}
use Rattle.cp_meaning.specs.Systems.{Declared, SystemMeaning, declared, definition_in, definitions_in, or_own, own_meaning, program_part_in, program_parts_in, program_system, system_in, system_of}
use Rattle.cp_meaning.specs.Types.{Ty}
use Rattle.cp_resolved.specs.Small.{Each}
use Rattle.cp_resolved.proofs.frames.FrameCells.{each_both}
use Rattle.cp_legend_laws.proofs.MonitorsAround.{HasBelow, children_have, listed_each}
use Rattle.cp_story_laws.proofs.changes.NamesInside.{IsSome}
use Rattle.cp_story_laws.proofs.changes.TokensAfter as after

-- ---- tokens

abbrev pub HasLetters : Name → Type 0
HasLetters x = 0 < length x

-- a name has letters
abbrev IsLettered : Kind → Type 0
IsLettered (kind.Name x) = HasLetters x
IsLettered k = Unit {0}

abbrev AreLettered : List Kind → Type 0
AreLettered ks = Each IsLettered ks

word_lettered : (o : Option Mark) (spelling : List ℕ) → HasLetters spelling → IsLettered (values.named o spelling)
word_lettered (Some m) spelling h = tt
word_lettered None spelling h = h

piece_lettered : (piece : List ℕ) → IsWord piece → HasLetters (lower_case piece)
piece_lettered piece h = subst (λ (cs : List ℕ). HasLetters (lower_case cs)) (sym h.is) (omega arith)

lexeme_lettered : (s : Shape) (piece : List ℕ) (k : Kind) → Has s piece → IsLexeme s piece k → IsLettered k
lexeme_lettered shape.Number piece k g h = subst IsLettered (sym h.1) tt
lexeme_lettered shape.Name piece k g h = subst IsLettered (sym h.1) (word_lettered (reserved (lower_case piece)) (lower_case piece) (piece_lettered piece g))
lexeme_lettered shape.Character piece k g h = subst IsLettered (sym h.kind) tt
lexeme_lettered (shape.Sign m) piece k g h = subst IsLettered (sym h) tt
lexeme_lettered s piece k g h = absurd h

lexemes_lettered : (spot : Spot) (ps : List Part) (ts : List Token) → AreCut ps [] → AreLexemes spot ps ts → AreLettered (kinds ts)
lexemes_lettered spot [] [] c no_lexeme = tt
lexemes_lettered spot [] (t ∷ ts) c x = elim x [ ]
lexemes_lettered spot (p ∷ ps) ts c (between none h) = lexemes_lettered (after spot p.text) ps ts c.1 h
lexemes_lettered spot (p ∷ ps) (t ∷ ts) c (one_lexeme is placed h) = (lexeme_lettered p.shape p.text t.kind c.0.shaped is, lexemes_lettered (after spot p.text) ps ts c.1 h)

both_lettered : (us ts : List Token) → AreLettered (kinds us) → AreLettered (kinds ts) → AreLettered (kinds (us ++ ts))
both_lettered [] ts h g = g
both_lettered (u ∷ us) ts h g = (h.0, both_lettered us ts h.1 g)

tokens_lettered : (spot : Spot) (ps : List Part) (ts : List Token) → AreCut ps [] → AreTokens spot ps ts → AreLettered (kinds ts)
tokens_lettered spot [] [] c no_more = tt
tokens_lettered spot [] (t ∷ ts) c x = elim x [ ]
tokens_lettered spot (p ∷ ps) ts c (blank none plain h) = tokens_lettered (after spot p.text) ps ts c.1 h
tokens_lettered spot (p ∷ ps) (t ∷ ts) c (lexeme is placed h) = (lexeme_lettered p.shape p.text t.kind c.0.shaped is, tokens_lettered (after spot p.text) ps ts c.1 h)
tokens_lettered spot (p ∷ ps) _ c (annotated a qs us ts is whole cut inner h) =
    (tt, both_lettered us (token_at (closing_spot spot a) a.closing mark.Closes ∷ ts) (lexemes_lettered (after spot a.before) qs us cut inner) (tt, tokens_lettered (after spot p.text) ps ts c.1 h))

read_lettered : (p : Program) → IsRead p → AreLettered (spell p)
read_lettered p h = subst AreLettered h.spelled (tokens_lettered beginning h.text.reads.parts h.tokens h.text.reads.reads.cut h.text.reads.reads.tokens)

-- ---- variables

more_named : (is : List Identifier) (r : List Kind) → AreLettered (put_all (put_behind mark.Comma put_identifier) is r) → Each HasLetters (names_of is)
more_named [] r e = tt
more_named (i ∷ is) r e = (e.1.0, more_named is r e.1.1)

names_named : (is : List Identifier) (r : List Kind) → AreLettered (put_names is r) → Each HasLetters (names_of is)
names_named [] r e = tt
names_named (i ∷ is) r e = (e.0, more_named is r e.1)

abbrev pub IsNamed : Variable → Type 0
IsNamed v = HasLetters v.name

of_names : (xs : List Name) (t : Ty) → Each HasLetters xs → Each IsNamed (named_variables xs t)
of_names [] t h = tt
of_names (x ∷ xs) t h = (h.0, of_names xs t h.1)

groups_named : (b : Block) (gs : List VariableGroup) (r : List Kind) → AreLettered (put_all put_variable_group gs r) → Each IsNamed b.variables → Each IsNamed (variables_in permanent_variable b gs).variables
groups_named b [] r e h = h
groups_named b (g ∷ gs) r e h =
    let t : Ty × Scope = type_in b.scope g.variable_type in
    let more : List Kind = put_all put_variable_group gs r in
    groups_named (record { variables = b.variables ++ named_variables (names_of g.names) t.0; scope = with_names (names_of g.names) (permanent_variable t.0) t.1 }) gs r (after.variable_group_after IsLettered g more e)
    (each_both IsNamed b.variables (named_variables (names_of g.names) t.0) h (of_names (names_of g.names) t.0 (names_named g.names (kind.Mark mark.Colon ∷ put_type g.variable_type (kind.Mark mark.Semicolon ∷ more)) e)))

part_named : (b : Block) (q : syntax.Part) (r : List Kind) → AreLettered (put_part q r) → Each IsNamed b.variables → Each IsNamed (part_in permanent_variable b q).variables
part_named b (syntax.constants at ds) r e h = h
part_named b (syntax.types at ds) r e h = h
part_named b (syntax.variables at gs) r e h = groups_named b gs r e.1 h

parts_named : (b : Block) (qs : List syntax.Part) (r : List Kind) → AreLettered (put_all put_part qs r) → Each IsNamed b.variables → Each IsNamed (parts_in permanent_variable b qs).variables
parts_named b [] r e h = h
parts_named b (q ∷ qs) r e h = parts_named (part_in permanent_variable b q) qs r (after.part_after IsLettered q (put_all put_part qs r) e) (part_named b q (put_all put_part qs r) e h)

-- ---- system types

abbrev pub AreNamed : SystemMeaning → Type 0
AreNamed m = Each IsNamed m.variables

-- its variables, and what comes after it
system_named : (s : Scope) (y : System) (r : List Kind) → AreLettered (put_system y r) → AreNamed (system_in s y) × AreLettered r
system_named s y r e =
    let last : List Kind = put_body y.body r in
    let routines : List Kind = put_all put_routine y.routines last in
    let parts : List Kind = put_all put_part y.parts routines in
    let begun : AreLettered parts = after.optional_after IsLettered mark.Semicolon y.has_semicolon parts (after.parameters_after IsLettered put_group (after.group_after IsLettered) y.parameters (put_optional mark.Semicolon y.has_semicolon parts) e.1) in
    let scope : Scope = (with_groups permanent_variable (record { parameters = []; scope = s }) y.parameters).scope in (
      parts_named (record { variables = []; scope = scope }) y.parts routines begun tt,
      after.body_after IsLettered y.body r (after.all_after IsLettered put_routine (after.routine_after IsLettered) y.routines last (after.all_after IsLettered put_part (after.part_after IsLettered) y.parts routines begun)),
    )

abbrev IsDeclaredNamed : Declared → Type 0
IsDeclaredNamed d = Each AreNamed d.systems × Each IsNamed d.variables

definition_named : (d : Declared) (n : SystemDefinition) (v : Definition) (r : List Kind) → AreLettered (put_definition v r) → IsDeclaredNamed d → IsDeclaredNamed (definition_in d n v) × AreLettered r
definition_named d n (type_definition t) r e h = (h, after.type_after IsLettered t r e)
definition_named d n (system_definition y) r e h =
    let own = system_named (seen_inside d.scope) y r e in
    ((each_both AreNamed d.systems (system_in (seen_inside d.scope) y ∷ []) h.0 (own.0, tt), h.1), own.1)

definitions_named : (d : Declared) (ns : List SystemDefinition) (r : List Kind) → AreLettered (put_all put_system_definition ns r) → IsDeclaredNamed d → IsDeclaredNamed (definitions_in d ns) × AreLettered r
definitions_named d [] r e h = (h, e)
definitions_named d (n ∷ ns) r e h =
    let more : List Kind = put_all put_system_definition ns r in
    let first = definition_named d n n.value (kind.Mark mark.Semicolon ∷ more) e.1.1 h in
    definitions_named (definition_in d n n.value) ns r first.1.1 first.0

program_part_named : (d : Declared) (q : ProgramPart) (r : List Kind) → AreLettered (put_program_part q r) → IsDeclaredNamed d → IsDeclaredNamed (program_part_in d q) × AreLettered r
program_part_named d (program_constants at ds) r e h = (h, after.constants_after IsLettered ds r e.1)
program_part_named d (program_types at ns) r e h = definitions_named d ns r e.1 h
program_part_named d (program_variables at gs) r e h = ((h.0, groups_named (record { variables = d.variables; scope = d.scope }) gs r e.1 h.1), after.all_after IsLettered put_variable_group (after.variable_group_after IsLettered) gs r e.1)

program_parts_named : (d : Declared) (qs : List ProgramPart) (r : List Kind) → AreLettered (put_all put_program_part qs r) → IsDeclaredNamed d → IsDeclaredNamed (program_parts_in d qs)
program_parts_named d [] r e h = h
program_parts_named d (q ∷ qs) r e h = (let one = program_part_named d q (put_all put_program_part qs r) e h in program_parts_named (program_part_in d q) qs r one.1 one.0)

declared_named : (p : Program) → IsRead p → IsDeclaredNamed (declared p)
declared_named p read = program_parts_named _ p.parts (put_all put_routine p.routines (put_body p.body (kind.Mark mark.Period ∷ []))) (read_lettered p read) (tt, tt)

pub variables_named : (p : Program) → IsRead p → (k : ℕ) → AreNamed (system_of p k)
variables_named p read k = pick (declared p).systems k (declared_named p read).0
  where
    pick : (ms : List SystemMeaning) (k : ℕ) → Each AreNamed ms → AreNamed (or_own (own_meaning (declared p) p) (slice_get ms k))
    pick [] k h = (declared_named p read).1
    pick (m ∷ ms) zero h = h.0
    pick (m ∷ ms) (suc k) h = pick ms k h.1

-- ---- paths

below_named : (path : Path) (vs : List Variable) → Each IsSome path → Each IsNamed vs → Each (HasBelow (λ (q : Listed). Each IsSome q.path) path) vs
below_named path [] some h = tt
below_named path (v ∷ vs) some h = ((λ o j. each_both IsSome path ((let s : PathStep = record { name = v.name; element = o } in s) ∷ []) some (h.0, tt)), below_named path vs some h.1)

pub paths_named : (p : Program) → IsRead p → Each (λ (q : Listed). Each IsSome q.path) (components_of p)
paths_named p read =
    listed_each p (λ (q : Listed). Each IsSome q.path) (λ path n some. children_have (λ (q : Listed). Each IsSome q.path) path (system_of p n).variables (below_named path (system_of p n).variables some (variables_named p read n)))
    (suc (program_system p)) (program_system p) [] tt
