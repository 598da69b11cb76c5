-- The routine without a name that a check calls: it is no entry, nobody waits in it, and no process has one.
use Rattle.std.proofs.Common.{◌≡◌, ◌∙◌, ◌⊎◌, inl, inr, ℕ, zero, suc, Bool, true, false, ◌&&◌, if◌then◌else◌, List, [], ◌∷◌, length, Option, Some, None, refl, sym, ap, subst}
use Rattle.cp_resolved.proofs.Words.{Kind, Name, same_name, find, since, routine_meaning, RoutineMeaning, routine_in, SystemMeaning, system_in, with_routines, nothing_declared}
use Rattle.cp_resolved.proofs.Words.{declared, own_meaning, or_own, system_of, Declared, definition_in, program_part_in, IsAccepted, IsRead, Each, tokens_of, meaning_at, slice_get}
use Rattle.cp_text.specs.declared.token.Kind.TheVariants as kind
use Rattle.cp_text.specs.declared.token.Mark.TheVariants as mark
use Rattle.cp_tree.specs.declared.declaration.SystemKind.{SystemKind}
use Rattle.cp_tree.specs.declared.declaration.SystemKind.TheVariants as system_kind
use Rattle.cp_tree.specs.Syntax.{nameless, invariants, Routine, Definition, type_definition, system_definition, SystemDefinition, ProgramPart, program_constants, program_types, program_variables, Program, Tree}
use Rattle.cp_tree.specs.Spelling.{is_nameless, put_all, put_routine, put_body, put_system_definition, put_program_part, spell}
use Rattle.cp_tree.specs.SpellingIndexed.{IsIndexedDefinition, IsIndexedSystemDefinition, IsIndexedProgramPart, AreNamed, AreNamedBy, may_say}
use Rattle.cp_meaning.specs.Lifting.{is_routine_meant, has_invariants}
use Rattle.cp_meaning.specs.Scopes as scopes
use Rattle.cp_meaning.specs.Systems.{definitions_in, program_parts_in}
use Rattle.cp_resolved.specs.Openings.{parts_scope}
use Rattle.cp_resolved.specs.Typed.{is_entry_in}
use Rattle.cp_resolved.proofs.agreeing.AgreeingProgram.{none_definition, none_part, none_predeclared, none_parts}
use Rattle.cp_resolved.proofs.declarations.Nameless.{IsNameless, SaysSome, each_indexed, some_indexed}
use Rattle.cp_resolved.proofs.declarations.WordsOfTrees.{read_checks, read_nameless}
use Rattle.cp_resolved.proofs.frames.FrameCells.{each_both}
use Rattle.cp_resolved.proofs.statements.CalleesKnown.{At, at_number, numbered, routine_entry, CalleeKnown}
use Rattle.cp_resolved.proofs.statements.Calm.{never_delays}
use Rattle.cp_resolved.proofs.statements.RoutinesNoted.{is_monitor, entry_with, waits_at, InitialNumbered, AreNoRoutines, none_inside, none_found, IsOwner, Done}

-- ---- what a check calls

no_entry_with : (x : Option Name) (b : Bool) → b ≡ false → entry_with x b ≡ false
no_entry_with None b e = refl
no_entry_with (Some y) b e = e

never_waits : (b c d : Bool) → d ≡ false → (b && (c && d)) ≡ false
never_waits true true d e = e
never_waits true false d e = refl
never_waits false c d e = refl

module _ (t : Tree) (read : IsRead t.program) (accepted : IsAccepted t) where
  abbrev p : Program
  p = t.program

  -- nobody waits in the routine of a number that says invariants
  quiet_number : (n : ℕ) (k : scopes.Scope) (r : Routine) → meaning_at p n ≡ routine_in k r → SaysSome r.body.statements → waits_at p n ≡ false
  quiet_number n k r means says =
      let a : At t n = at_number t read accepted n in
      let body : a.opening.meaning.body ≡ r.body.statements = ap (λ (m : RoutineMeaning). m.body) (sym a.means ∙ means) in
      a.waits ∙ never_waits (is_monitor a.place.context.owner) _ _ (never_delays a.place.scopes a.place.context a.opening.meaning.body (subst SaysSome (sym body) says))

  -- of the routine that is found by no name in the scope of a number
  module _ (n : ℕ) (r : Routine) (found : find nameless (meaning_at p n).scope ≡ Some (routine_meaning r)) where
    a : At t n
    a = at_number t read accepted n

    known : IsNameless r
    known = read_nameless p read n r found

    scope_is : (meaning_at p n).scope ≡ a.opening.meaning.scope
    scope_is = ap (λ (m : RoutineMeaning). m.scope) a.means

    there : find nameless a.opening.meaning.scope ≡ Some (routine_meaning r)
    there = sym (ap (find nameless) scope_is) ∙ found

    abbrev called : RoutineMeaning
    called = routine_in (since nameless a.opening.meaning.scope) r

    pub check_callee : CalleeKnown p n (Some (routine_meaning r)) (routine_in (since nameless (meaning_at p n).scope) r)
    check_callee = subst (λ (s : scopes.Scope). CalleeKnown p n (Some (routine_meaning r)) (routine_in (since nameless s) r)) (sym scope_is) (go (a.noted nameless r there))
      where
        go : IsOwner p a.place a.opening (since nameless a.opening.meaning.scope) r ⊎ Done p a.place.context.owner a.place.scopes.shapes (since nameless a.opening.meaning.scope) r → CalleeKnown p n (Some (routine_meaning r)) called
        go (inl self) =
            let entry : is_entry_in a.opening.meaning.scope ≡ false = ap (λ (m : RoutineMeaning). is_entry_in m.scope) self.1 ∙ (routine_entry nameless a.opening.meaning.scope r there ∙ known.no_entry) in
            record { number = n; same = sym (a.means ∙ self.1); called = (a.entry ∙ no_entry_with a.opening.name (is_entry_in a.opening.meaning.scope) entry, λ quiet. quiet) }
        go (inr d) = record { number = d.number; same = sym d.means; called = (d.entry ∙ known.no_entry, λ quiet. quiet_number d.number (since nameless a.opening.meaning.scope) r d.means known.says) }

-- ---- a process says no invariants

abbrev IsNamedFound : scopes.Scope → Type 0
IsNamedFound s = (r : Routine) → find nameless s ≡ Some (routine_meaning r) → is_nameless r.kind ≡ false

named_found : (total : ℕ) (s : scopes.Scope) (rs : List Routine) → IsNamedFound s → AreNamed total rs → IsNamedFound (with_routines s rs)
named_found total s [] h named = h
named_found total s (q ∷ rs) h named = named_found total ((q.name.name, routine_meaning q) ∷ s) rs (λ r e. go r (same_name nameless q.name.name) e) named.1
  where
    go : (r : Routine) (b : Bool) → (if b then Some (routine_meaning q) else find nameless s) ≡ Some (routine_meaning r) → is_nameless r.kind ≡ false
    go r true e = (let same : q ≡ r = cc in subst (λ (z : Routine). is_nameless z.kind ≡ false) same named.0)
    go r false e = h r e

abbrev IsUnsaid : SystemMeaning → Type 0
IsUnsaid m = m.kind ≡ system_kind.Process → IsNamedFound m.scope

module _ (total : ℕ) (p : Program) where
  abbrev IsNamedIn : Definition → Type 0
  IsNamedIn (type_definition d) = Unit {0}
  IsNamedIn (system_definition y) = AreNamedBy total (may_say total y.kind) y.routines

  abbrev IsNamedInPart : ProgramPart → Type 0
  IsNamedInPart (program_types at ds) = Each (λ (d : SystemDefinition). IsNamedIn d.value) ds
  IsNamedInPart q = Unit {0}

  definition_unsaid : (d : Declared) (n : SystemDefinition) (v : Definition) → IsNamedIn v → AreNoRoutines d.scope → Each IsUnsaid d.systems → Each IsUnsaid (definition_in d n v).systems
  definition_unsaid d n (type_definition u) h none old = old
  definition_unsaid d n (system_definition y) h none old =
      each_both IsUnsaid d.systems (system_in (scopes.seen_inside d.scope) y ∷ []) old
      ((λ process. named_found total (parts_scope (scopes.seen_inside d.scope) y) y.routines (λ r e. absurd (none_found nameless r (parts_scope (scopes.seen_inside d.scope) y) (none_inside d.scope y none) e)) (subst (λ (k : SystemKind). AreNamedBy total (may_say total k) y.routines) process h)), tt)

  definitions_unsaid : (d : Declared) (ns : List SystemDefinition) → Each (λ (n : SystemDefinition). IsNamedIn n.value) ns → AreNoRoutines d.scope → Each IsUnsaid d.systems → Each IsUnsaid (definitions_in d ns).systems
  definitions_unsaid d [] h none old = old
  definitions_unsaid d (n ∷ ns) h none old = definitions_unsaid (definition_in d n n.value) ns h.1 (none_definition (tokens_of p) p d n n.value none) (definition_unsaid d n n.value h.0 none old)

  part_unsaid : (d : Declared) (q : ProgramPart) → IsNamedInPart q → AreNoRoutines d.scope → Each IsUnsaid d.systems → Each IsUnsaid (program_part_in d q).systems
  part_unsaid d (program_constants at ds) h none old = old
  part_unsaid d (program_types at ns) h none old = definitions_unsaid d ns h none old
  part_unsaid d (program_variables at gs) h none old = old

  parts_unsaid : (d : Declared) (qs : List ProgramPart) → Each IsNamedInPart qs → AreNoRoutines d.scope → Each IsUnsaid d.systems → Each IsUnsaid (program_parts_in d qs).systems
  parts_unsaid d [] h none old = old
  parts_unsaid d (q ∷ qs) h none old = parts_unsaid (program_part_in d q) qs h.1 (none_part (tokens_of p) p d q none) (part_unsaid d q h.0 none old)

  -- ---- as it was read

  definition_named : (v : Definition) (rest : List Kind) → IsIndexedDefinition total v rest → IsNamedIn v
  definition_named (type_definition u) rest h = tt
  definition_named (system_definition y) rest h = h.4

  system_named : (d : SystemDefinition) (rest : List Kind) → IsIndexedSystemDefinition total d rest → IsNamedIn d.value
  system_named d rest h = definition_named d.value (kind.Mark mark.Semicolon ∷ rest) h.1

  part_named : (q : ProgramPart) (rest : List Kind) → IsIndexedProgramPart total q rest → IsNamedInPart q
  part_named (program_types at ds) rest h = some_indexed put_system_definition (IsIndexedSystemDefinition total) (λ (d : SystemDefinition). IsNamedIn d.value) system_named ds rest h.1
  part_named _ rest h = tt

-- a system type by its number
unsaid_at : (ms : List SystemMeaning) (k : ℕ) (own : SystemMeaning) → Each IsUnsaid ms → IsUnsaid own → IsUnsaid (or_own own (slice_get ms k))
unsaid_at [] k own h g = g
unsaid_at (m ∷ ms) zero own h g = h.0
unsaid_at (m ∷ ms) (suc k) own h g = unsaid_at ms k own h.1 g

processes_unsaid : (p : Program) → IsRead p → (k : ℕ) → IsUnsaid (system_of p k)
processes_unsaid p read k =
    let total : ℕ = length (spell p) in
    let last : List Kind = put_body p.body (kind.Mark mark.Period ∷ []) in
    let parts : Each (IsNamedInPart total p) p.parts = each_indexed put_program_part (IsIndexedProgramPart total) (IsNamedInPart total p) (part_named total p) p.parts (put_all put_routine p.routines last) read.proper.indexed.0 in
    let none : AreNoRoutines (declared p).scope = none_parts (tokens_of p) p nothing_declared p.parts (none_predeclared (tokens_of p) p) in
    unsaid_at (declared p).systems k (own_meaning (declared p) p) (parts_unsaid total p nothing_declared p.parts parts (none_predeclared (tokens_of p) p) tt)
    (λ process. named_found total (declared p).scope p.routines (λ r e. absurd (none_found nameless r (declared p).scope none e)) read.proper.indexed.2)

pub no_invariants : (t : Tree) → IsRead t.program → IsAccepted t → (k : ℕ) → (system_of t.program k).kind ≡ system_kind.Process → has_invariants (system_of t.program k).scope ≡ false
no_invariants t read accepted k process = go (find nameless (system_of p k).scope) refl
  where
    p : Program
    p = t.program

    initial : InitialNumbered p (tokens_of p) (system_of p k)
    initial = (numbered t read accepted k).initial

    never : (r : Routine) → find nameless (system_of p k).scope ≡ Some (routine_meaning r) → ⊥
    never r e =
        let is : r.kind ≡ invariants = read_checks p read initial.number r (ap (λ (m : RoutineMeaning). find nameless m.scope) initial.means ∙ e) in
        let bad : false ≡ true = sym (processes_unsaid p read k process r e) ∙ ap is_nameless is in
        cc

    go : (m : Option scopes.Meaning) → find nameless (system_of p k).scope ≡ m → is_routine_meant m ≡ false
    go (Some (routine_meaning r)) e = absurd (never r e)
    go _ e = refl
