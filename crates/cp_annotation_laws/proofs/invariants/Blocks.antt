-- In the scope of each routine of a block the name of invariants stands for the same as in the scope of its initial statement.
use Rattle.std.proofs.Common.{◌≡◌, ◌∙◌, ℕ, zero, suc, ◌<◌, Bool, true, false, if◌then◌else◌, List, [], ◌∷◌, ◌++◌, length, Some, None, slice_get, ap, sym, refl, subst, arith}
use Rattle.std.proofs.lemmas.Slice.Eq.{bytes_eq-Decides}
use Rattle.cp_text.specs.declared.token.Kind.{Kind}
use Rattle.cp_text.specs.declared.token.Kind.TheVariants as kind
use Rattle.cp_text.specs.declared.token.Mark.TheVariants as mark
use Rattle.cp_tree.specs.Read.{IsRead}
use Rattle.cp_tree.specs.Syntax.{nameless, Routine, Definition, type_definition, system_definition, SystemDefinition, ProgramPart, program_constants, program_types, program_variables, Program}
use Rattle.cp_tree.specs.Spelling.{is_nameless, put_all, put_routine, put_body, put_system_definition, put_program_part, spell}
use Rattle.cp_tree.specs.SpellingIndexed.{IsIndexedDefinition, IsIndexedSystemDefinition, IsIndexedProgramPart, AreNamed, AreNamedBy, may_say}
use Rattle.cp_meaning.specs.Names.{Name, same_name}
use Rattle.cp_meaning.specs.Scopes.{Meaning, routine_meaning, Scope, find, since, seen_inside, predeclared}
use Rattle.cp_meaning.specs.Declarations.{routine_in}
use Rattle.cp_meaning.specs.Systems.{SystemMeaning, system_in, with_routines, Declared, definition_in, program_part_in, declared, program_system, own_meaning, or_own, system_of}
use Rattle.cp_resolved.specs.Judging.{tokens_of}
use Rattle.cp_resolved.specs.Openings.{Opening, with_routine, routine_openings, initial_opening, parts_scope, definition_openings, definitions_openings, part_openings, parts_openings, openings_of}
use Rattle.cp_resolved.specs.Small.{Each}
use Rattle.cp_resolved.proofs.agreeing.AgreeingProgram.{IsNumberedDefinition, AreNumberedDefinitions, IsNumberedPart, AreNumberedParts}
use Rattle.cp_resolved.proofs.agreeing.AgreeingWritten.{each_left, each_right}
use Rattle.cp_resolved.proofs.agreeing.DifferentIndexed.{tokens_different}
use Rattle.cp_resolved.proofs.agreeing.DifferentTokens.{all_numbered}
use Rattle.cp_resolved.proofs.agreeing.RoutinesSeen.{IsNoRoutine, in_body}
use Rattle.cp_resolved.proofs.declarations.Nameless.{each_indexed, some_indexed, indexed_known}
use Rattle.cp_resolved.proofs.declarations.SmallTexts.{read_scanned}
use Rattle.cp_resolved.proofs.declarations.WordsOfTrees.{IsInvariants, AreSpelled, AreWordsOf, ProgramWords, program_words}
use Rattle.cp_resolved.proofs.frames.FrameCells.{each_both}

-- ---- two scopes with the same routine of invariants

pub record SameChecks (c d : Scope) : Type 0 where
  pub found : find nameless c ≡ find nameless d
  pub from : since nameless c ≡ since nameless d

same_itself : (c : Scope) → SameChecks c c
same_itself c = record { found = refl; from = refl }

same_after : (c d e : Scope) → SameChecks c d → SameChecks d e → SameChecks c e
same_after c d e h k = record { found = h.found ∙ k.found; from = h.from ∙ k.from }

same_back : (c d : Scope) → SameChecks c d → SameChecks d c
same_back c d h = record { found = sym h.found; from = sym h.from }

-- another name in front
other_name : (x : Name) (m : Meaning) (c d : Scope) → (x ≡ nameless → ⊥) → SameChecks c d → SameChecks ((x, m) ∷ c) d
other_name x m c d never h = go (same_name nameless x) refl
  where
    go : (b : Bool) → same_name nameless x ≡ b → SameChecks ((x, m) ∷ c) d
    go true e = absurd (never (sym ((bytes_eq-Decides nameless x).0 e)))
    go false e = record { found = ap (λ (b : Bool). if b then Some m else find nameless c) e ∙ h.found; from = ap (λ (b : Bool). if b then (x, m) ∷ c else since nameless c) e ∙ h.from }

no_invariants : (m : Meaning) → IsNoRoutine m → IsInvariants m → ⊥
no_invariants (routine_meaning r) h k = h
no_invariants m h k = k

-- what a routine declares has names
body_step : (k : Scope) (x : Name) (m : Meaning) (z : Scope) → IsNoRoutine m → (AreSpelled z → SameChecks z k) → AreSpelled ((x, m) ∷ z) → SameChecks ((x, m) ∷ z) k
body_step k x m z free h w = other_name x m z k (λ e. no_invariants m free (w.0.1 e)) (h w.1)

body_same : (k : Scope) (r : Routine) → AreSpelled (routine_in k r).scope → SameChecks (routine_in k r).scope k
body_same k r w = in_body (λ z. AreSpelled z → SameChecks z k) (body_step k) k r (λ v. same_itself k) w

-- ---- routines

spelled_before : (k : Scope) (rs : List Routine) → AreSpelled (with_routines k rs) → AreSpelled k
spelled_before k [] w = w
spelled_before k (r ∷ rs) w = (spelled_before ((r.name.name, routine_meaning r) ∷ k) rs w).1

named_other : (r : Routine) → is_nameless r.kind ≡ false → (r.name.name ≡ nameless → IsInvariants (routine_meaning r)) → r.name.name ≡ nameless → ⊥
named_other r named h e = (let bad : true ≡ false = sym (ap is_nameless (h e).0) ∙ named in absurd cc)

module _ (total : ℕ) where
  named_same : (k : Scope) (rs : List Routine) → AreNamed total rs → AreSpelled (with_routines k rs) → SameChecks (with_routines k rs) k
  named_same k [] named w = same_itself k
  named_same k (r ∷ rs) named w =
      let before : AreSpelled (with_routine k r) = spelled_before (with_routine k r) rs w in
      same_after (with_routines (with_routine k r) rs) (with_routine k r) k (named_same (with_routine k r) rs named.1 w) (other_name r.name.name (routine_meaning r) k k (named_other r named.0 before.0.1) (same_itself k))

  -- the openings of the routines that have names
  module _ (w : ℕ) (s : Scope) where
    abbrev IsSame : Opening → Type 0
    IsSame o = (o.owner ≡ w) × SameChecks o.meaning.scope s

    rest_same : (k : Scope) (rs : List Routine) → AreNamed total rs → AreSpelled (with_routines k rs) → Each AreWordsOf (routine_openings w k rs) → SameChecks k s → Each IsSame (routine_openings w k rs)
    rest_same k [] named v words h = tt
    rest_same k (r ∷ rs) named v words h =
        let before : AreSpelled (with_routine k r) = spelled_before (with_routine k r) rs v in
        let now : SameChecks (with_routine k r) s = other_name r.name.name (routine_meaning r) k s (named_other r named.0 before.0.1) h in
        ((refl, same_after (routine_in (with_routine k r) r).scope (with_routine k r) s (body_same (with_routine k r) r words.0) now), rest_same (with_routine k r) rs named.1 v words.1 now)

  block_same : (w : ℕ) (b : Bool) (k : Scope) (rs : List Routine) → AreNamedBy total b rs → AreSpelled (with_routines k rs) → Each AreWordsOf (routine_openings w k rs) → Each (IsSame w (with_routines k rs)) (routine_openings w k rs)
  block_same w false k rs named v words = rest_same w (with_routines k rs) k rs named v words (same_back (with_routines k rs) k (named_same k rs named v))
  block_same w true k [] named v words = tt
  block_same w true k (r ∷ rs) named v words =
      let now : SameChecks (with_routine k r) (with_routines (with_routine k r) rs) = same_back (with_routines (with_routine k r) rs) (with_routine k r) (named_same (with_routine k r) rs named v) in
      ((refl, same_after (routine_in (with_routine k r) r).scope (with_routine k r) (with_routines (with_routine k r) rs) (body_same (with_routine k r) r words.0) now), rest_same w (with_routines (with_routine k r) rs) (with_routine k r) rs named v words.1 now)

-- ---- the openings of a program

-- the scope of an opening is one of the block of its system type
abbrev pub IsInBlock : Program → Opening → Type 0
IsInBlock p o = SameChecks o.meaning.scope (system_of p o.owner).scope

module _ (p : Program) where
  in_block : (w : ℕ) (s : Scope) → (system_of p w).scope ≡ s → (os : List Opening) → Each (IsSame 0 w s) os → Each (IsInBlock p) os
  in_block w s e [] h = tt
  in_block w s e (o ∷ os) h = (subst (λ j. SameChecks o.meaning.scope (system_of p j).scope) (sym h.0.0) (subst (SameChecks o.meaning.scope) (sym e) h.0.1), in_block w s e os h.1)

  module _ (total : ℕ) where
    abbrev IsNamedIn : Definition → Type 0
    IsNamedIn (type_definition d) = Unit {0}
    IsNamedIn (system_definition y) = AreNamedBy total (may_say total y.kind) y.routines

    abbrev IsNamedInPart : ProgramPart → Type 0
    IsNamedInPart (program_types at ds) = Each (λ (d : SystemDefinition). IsNamedIn d.value) ds
    IsNamedInPart q = Unit {0}

    definition_named : (v : Definition) (rest : List Kind) → IsIndexedDefinition total v rest → IsNamedIn v
    definition_named (type_definition u) rest h = tt
    definition_named (system_definition y) rest h = h.4

    system_named : (d : SystemDefinition) (rest : List Kind) → IsIndexedSystemDefinition total d rest → IsNamedIn d.value
    system_named d rest h = definition_named d.value (kind.Mark mark.Semicolon ∷ rest) h.1

    part_named : (q : ProgramPart) (rest : List Kind) → IsIndexedProgramPart total q rest → IsNamedInPart q
    part_named (program_types at ds) rest h = some_indexed put_system_definition (IsIndexedSystemDefinition total) (λ (d : SystemDefinition). IsNamedIn d.value) system_named ds rest h.1
    part_named _ rest h = tt

    block_in : (w : ℕ) (b : Bool) (k : Scope) (rs : List Routine) (m : SystemMeaning) → system_of p w ≡ m → m.scope ≡ with_routines k rs → AreNamedBy total b rs → Each AreWordsOf (routine_openings w k rs ++ initial_opening w m ∷ []) → Each (IsInBlock p) (routine_openings w k rs ++ initial_opening w m ∷ [])
    block_in w b k rs m is e named words =
        let v : AreSpelled (with_routines k rs) = subst AreSpelled e (each_right AreWordsOf (routine_openings w k rs) (initial_opening w m ∷ []) words).0 in
        each_both (IsInBlock p) (routine_openings w k rs) (initial_opening w m ∷ [])
        (in_block w (with_routines k rs) (ap (λ (x : SystemMeaning). x.scope) is ∙ e) (routine_openings w k rs) (block_same total w b k rs named v (each_left AreWordsOf (routine_openings w k rs) (initial_opening w m ∷ []) words)))
        (subst (λ (x : SystemMeaning). SameChecks m.scope x.scope) (sym is) (same_itself m.scope), tt)

    definition_in_blocks : (d : Declared) (v : Definition) → IsNumberedDefinition (tokens_of p) p d v → IsNamedIn v → Each AreWordsOf (definition_openings d v) → Each (IsInBlock p) (definition_openings d v)
    definition_in_blocks d (type_definition t) numbered named words = tt
    definition_in_blocks d (system_definition y) numbered named words = block_in (length d.systems) (may_say total y.kind) (parts_scope (seen_inside d.scope) y) y.routines (system_in (seen_inside d.scope) y) numbered.meaning refl named words

    definitions_in_blocks : (d : Declared) (ns : List SystemDefinition) → AreNumberedDefinitions (tokens_of p) p d ns → Each (λ (n : SystemDefinition). IsNamedIn n.value) ns → Each AreWordsOf (definitions_openings d ns) → Each (IsInBlock p) (definitions_openings d ns)
    definitions_in_blocks d [] numbered named words = tt
    definitions_in_blocks d (n ∷ ns) numbered named words =
        let c : Declared = definition_in d n n.value in
        each_both (IsInBlock p) (definition_openings d n.value) (definitions_openings c ns)
        (definition_in_blocks d n.value numbered.0 named.0 (each_left AreWordsOf (definition_openings d n.value) (definitions_openings c ns) words))
        (definitions_in_blocks c ns numbered.1 named.1 (each_right AreWordsOf (definition_openings d n.value) (definitions_openings c ns) words))

    part_in_blocks : (d : Declared) (q : ProgramPart) → IsNumberedPart (tokens_of p) p d q → IsNamedInPart q → Each AreWordsOf (part_openings d q) → Each (IsInBlock p) (part_openings d q)
    part_in_blocks d (program_constants at ds) numbered named words = tt
    part_in_blocks d (program_types at ns) numbered named words = definitions_in_blocks d ns numbered named words
    part_in_blocks d (program_variables at gs) numbered named words = tt

    parts_in_blocks : (d : Declared) (qs : List ProgramPart) → AreNumberedParts (tokens_of p) p d qs → Each IsNamedInPart qs → Each AreWordsOf (parts_openings d qs) → Each (IsInBlock p) (parts_openings d qs)
    parts_in_blocks d [] numbered named words = tt
    parts_in_blocks d (q ∷ qs) numbered named words =
        let c : Declared = program_part_in d q in
        each_both (IsInBlock p) (part_openings d q) (parts_openings c qs)
        (part_in_blocks d q numbered.0 named.0 (each_left AreWordsOf (part_openings d q) (parts_openings c qs) words))
        (parts_in_blocks c qs numbered.1 named.1 (each_right AreWordsOf (part_openings d q) (parts_openings c qs) words))

  get_past : {A : Type 0} (xs : List A) → slice_get xs (length xs) ≡ None
  get_past [] = refl
  get_past (x ∷ xs) = get_past xs

  own_is : system_of p (program_system p) ≡ own_meaning (declared p) p
  own_is = ap (or_own (own_meaning (declared p) p)) (get_past (declared p).systems)

  pub all_in_blocks : IsRead p → Each (IsInBlock p) (openings_of p)
  all_in_blocks read =
      let total : ℕ = length (spell p) in
      let last : List Kind = put_body p.body (kind.Mark mark.Period ∷ []) in
      let d : Declared = declared p in
      let outer : Declared = record { systems = []; variables = []; scope = predeclared } in
      let words : ProgramWords p = program_words p (indexed_known p read.proper.indexed) (read_scanned p read) in
      let own : List Opening = routine_openings (program_system p) d.scope p.routines ++ initial_opening (program_system p) (own_meaning d p) ∷ [] in
      let named : Each (IsNamedInPart total) p.parts = each_indexed put_program_part (IsIndexedProgramPart total) (IsNamedInPart total) (part_named total) p.parts (put_all put_routine p.routines last) read.proper.indexed.0 in
      each_both (IsInBlock p) (parts_openings outer p.parts) own
      (parts_in_blocks total outer p.parts (all_numbered p (tokens_different p read.proper.indexed)) named (each_left AreWordsOf (parts_openings outer p.parts) own words.openings))
      (block_in total (program_system p) false d.scope p.routines (own_meaning d p) own_is refl read.proper.indexed.2 (each_right AreWordsOf (parts_openings outer p.parts) own words.openings))

-- one of a list
pub each_at : {A : Type 0} (P : A → Type 0) (xs : List A) (n : ℕ) → Each P xs → n < length xs → (x : A) × (slice_get xs n ≡ Some x) × P x
each_at P [] n h less = absurd (omega (arith, less))
each_at P (x ∷ xs) zero h less = (x, refl, h.0)
each_at P (x ∷ xs) (suc n) h less = each_at P xs n h.1 (omega (arith, less))
