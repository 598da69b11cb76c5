-- In a program that was read, a routine without a name is that of the invariants of a block: it says each before the empty statement, and it says one at least.
use Rattle.cp_resolved.proofs.Words.{◌≡◌, refl, ℕ, ap, Identifier, Bool, true, false, List, [], ◌∷◌, length, Kind, Each}
use Rattle.cp_text.specs.declared.token.Kind.TheVariants as kind
use Rattle.cp_text.specs.declared.token.Mark.TheVariants as mark
use Rattle.cp_tree.specs.Syntax.{Statement, empty, asserted, Statements, no_statements, more_statements, nameless, RoutineKind, procedure, function, invariants, Routine, Definition, type_definition, system_definition, SystemDefinition, ProgramPart, program_types, Program}
use Rattle.cp_tree.specs.Spelling.{is_nameless, put_routine_kind, put_all, put_routine, put_body, put_system_definition, put_program_part, spell}
use Rattle.cp_tree.specs.SpellingIndexed.{AreAllIndexed, AreSomeIndexed, AreIndexedInvariants, IsIndexedInvariantBody, IsIndexedRoutineBy, IsIndexedRoutine, IsIndexedDefinition, IsIndexedSystemDefinition, IsIndexedProgramPart, IsIndexed}

abbrev pub IsSaid : Statement → Type 0
IsSaid (empty at) = Unit {0}
IsSaid (asserted at k e t) = IsSaid t
IsSaid t = ⊥

abbrev pub SaysSome : Statements → Type 0
SaysSome (more_statements (asserted at k e t) no_statements) = IsSaid t
SaysSome ss = ⊥

pub record IsNameless (r : Routine) : Type 0 where
  pub name : r.name.name ≡ nameless
  pub no_entry : r.is_entry ≡ false
  pub no_parts : r.parts ≡ []
  pub says : SaysSome r.body.statements

abbrev pub IsKnownBy : Bool → Routine → Type 0
IsKnownBy true r = IsNameless r
IsKnownBy false r = Unit {0}

abbrev pub IsKnown : Routine → Type 0
IsKnown r = IsKnownBy (is_nameless r.kind) r

-- its heading is spelled by nothing
pub nameless_kind : (k : RoutineKind) (rest : List Kind) → is_nameless k ≡ true → put_routine_kind k rest ≡ rest
nameless_kind (procedure gs) rest h = absurd (let bad : false ≡ true = h in cc)
nameless_kind (function gs i) rest h = absurd (let bad : false ≡ true = h in cc)
nameless_kind invariants rest h = refl

-- ---- of each routine of a program

module _ (T : Routine → Type 0) where
  abbrev pub EachIn : Definition → Type 0
  EachIn (type_definition t) = Unit {0}
  EachIn (system_definition y) = Each T y.routines

  abbrev pub EachInPart : ProgramPart → Type 0
  EachInPart (program_types at ds) = Each (λ d. EachIn d.value) ds
  EachInPart _ = Unit {0}

  abbrev pub EachRoutine : Program → Type 0
  EachRoutine p = Each EachInPart p.parts × Each T p.routines

-- ---- programs that were read

pub each_indexed : {A : Type 0} (put : A → List Kind → List Kind) (indexed : A → List Kind → Type 0) (P : A → Type 0) → ((x : A) (rest : List Kind) → indexed x rest → P x) → (xs : List A) (rest : List Kind) → AreAllIndexed put indexed xs rest → Each P xs
each_indexed put indexed P one [] rest h = tt
each_indexed put indexed P one (x ∷ xs) rest h = (one x (put_all put xs rest) h.0, each_indexed put indexed P one xs rest h.1)

pub some_indexed : {A : Type 0} (put : A → List Kind → List Kind) (indexed : A → List Kind → Type 0) (P : A → Type 0) → ((x : A) (rest : List Kind) → indexed x rest → P x) → (xs : List A) (rest : List Kind) → AreSomeIndexed put indexed xs rest → Each P xs
some_indexed put indexed P one [] rest h = absurd h
some_indexed put indexed P one (x ∷ xs) rest h = (one x (put_all put xs rest) h.0, each_indexed put indexed P one xs rest h.1)

module _ (total : ℕ) where
  said_indexed : (t : Statement) (rest : List Kind) → AreIndexedInvariants total t rest → IsSaid t
  said_indexed (empty at) rest h = tt
  said_indexed (asserted at k e t) rest h = said_indexed t rest h.3
  said_indexed _ rest h = absurd h

  says_indexed : (ss : Statements) (rest : List Kind) → IsIndexedInvariantBody total ss rest → SaysSome ss
  says_indexed (more_statements (asserted at k e t) no_statements) rest h = said_indexed t rest h.3
  says_indexed _ rest h = absurd h

  routine_by : (b : Bool) (r : Routine) (rest : List Kind) → IsIndexedRoutineBy total b r rest → IsKnownBy b r
  routine_by true r rest h = record { name = ap (λ (i : Identifier). i.name) h.name; no_entry = h.not_entry; no_parts = h.no_parts; says = says_indexed r.body.statements rest h.said }
  routine_by false r rest h = tt

  routine_known : (r : Routine) (rest : List Kind) → IsIndexedRoutine total r rest → IsKnown r
  routine_known r rest h = routine_by (is_nameless r.kind) r rest h

  definition_known : (v : Definition) (rest : List Kind) → IsIndexedDefinition total v rest → EachIn IsKnown v
  definition_known (type_definition t) rest h = tt
  definition_known (system_definition y) rest h = each_indexed put_routine (IsIndexedRoutine total) IsKnown routine_known y.routines (put_body y.body rest) h.3

  named_known : (d : SystemDefinition) (rest : List Kind) → IsIndexedSystemDefinition total d rest → EachIn IsKnown d.value
  named_known d rest h = definition_known d.value (kind.Mark mark.Semicolon ∷ rest) h.1

  part_known : (q : ProgramPart) (rest : List Kind) → IsIndexedProgramPart total q rest → EachInPart IsKnown q
  part_known (program_types at ds) rest h = some_indexed put_system_definition (IsIndexedSystemDefinition total) (λ (d : SystemDefinition). EachIn IsKnown d.value) named_known ds rest h.1
  part_known _ rest h = tt

pub indexed_known : (p : Program) → IsIndexed p → EachRoutine IsKnown p
indexed_known p h =
    let total : ℕ = length (spell p) in
    let last : List Kind = put_body p.body (kind.Mark mark.Period ∷ []) in (
      each_indexed put_program_part (IsIndexedProgramPart total) (EachInPart IsKnown) (part_known total) p.parts (put_all put_routine p.routines last) h.0,
      each_indexed put_routine (IsIndexedRoutine total) IsKnown (routine_known total) p.routines last h.1,
    )
