-- System types and enumerations by their tokens, where these are different.
use Rattle.std.proofs.Common.{◌≡◌, ℕ, zero, suc, Bool, if◌then◌else◌, List, [], ◌∷◌, ◌++◌, length, Some, slice_get, refl, sym, ap, subst, ◌∙◌, arith, append_assoc, length-append}
use Rattle.std.proofs.lemmas.List.{append-nil}
use Rattle.cp_resolved.proofs.Words.{SystemKind, names_of, seen_inside, Enumerated, nothing_declared, Each, tokens_of}
use Rattle.cp_tree.specs.Syntax.{array_of, record_of, no_fields, more_fields, fields, TypeDefinition, VariableGroup, constants, types, variables, System, Definition, type_definition, system_definition, SystemDefinition, ProgramPart, program_constants, program_types, program_variables, Program}
use Rattle.cp_meaning.specs.Systems.{SystemMeaning, system_in, Declared, definition_in, definitions_in, program_part_in, program_parts_in, declared, own_meaning, or_own}
use Rattle.cp_resolved.specs.Tokens.{all_tokens, type_tokens, groups_tokens, part_tokens, routine_tokens, definition_tokens, program_part_tokens, program_tokens, IsOther, AreDifferent, definition_types, program_part_types, token_in, tokens_of_enumerations, HasFew, constants_among}
use Rattle.cp_resolved.proofs.agreeing.Agreeing.{same_number, other_number}
use Rattle.cp_resolved.proofs.agreeing.AgreeingTypes.{IsFew}
use Rattle.cp_resolved.proofs.agreeing.AgreeingSystems.{IsNumbered}
use Rattle.cp_resolved.proofs.agreeing.AgreeingProgram.{IsNumberedDefinition, AreNumberedDefinitions, IsNumberedPart, AreNumberedParts}
use Rattle.cp_resolved.proofs.names.Entries.{last_entry as slice_end, still_there as slice_more}

-- ---- some of the tokens of a list, in their order

record Among (xs ys : List ℕ) : Type 0 where
  pub other : (k : ℕ) → IsOther k ys → IsOther k xs
  pub different : AreDifferent ys → AreDifferent xs

all_same : (xs : List ℕ) → Among xs xs
all_same xs = record { other = λ k h. h; different = λ h. h }

left_out : (xs ys : List ℕ) (k : ℕ) → Among xs ys → Among xs (k ∷ ys)
left_out xs ys k s = record { other = λ j h. s.other j h.1; different = λ h. s.different h.1 }

with_first : (xs ys : List ℕ) (k : ℕ) → Among xs ys → Among (k ∷ xs) (k ∷ ys)
with_first xs ys k s = record { other = λ j h. (h.0, s.other j h.1); different = λ h. (s.other k h.0, s.different h.1) }

-- more tokens before them
abbrev Leaves : {A : Type 0} → (A → List ℕ → List ℕ) → Type 0
Leaves {A} f = (x : A) (xs ys : List ℕ) → Among xs ys → Among xs (f x ys)

all_left : {A : Type 0} (f : A → List ℕ → List ℕ) → Leaves f → (as' : List A) (xs ys : List ℕ) → Among xs ys → Among xs (all_tokens f as' ys)
all_left f one [] xs ys s = s
all_left f one (a ∷ as') xs ys s = one a xs (all_tokens f as' ys) (all_left f one as' xs ys s)

mutual
  type_left : Leaves type_tokens
  type_left (array_of at i t) xs ys s = type_left t xs (at ∷ ys) (left_out xs ys at s)
  type_left (record_of at gs b) xs ys s = groups_left gs xs (at ∷ ys) (left_out xs ys at s)
  type_left _ xs ys s = s

  groups_left : Leaves groups_tokens
  groups_left no_fields xs ys s = s
  groups_left (more_fields (fields is t) gs) xs ys s = type_left t xs (groups_tokens gs ys) (groups_left gs xs ys s)

part_left : Leaves part_tokens
part_left (constants at ds) xs ys s = s
part_left (types at ds) xs ys s = all_left (λ (d : TypeDefinition). type_tokens d.value) (λ d. type_left d.value) ds xs ys s
part_left (variables at gs) xs ys s = all_left (λ (g : VariableGroup). type_tokens g.variable_type) (λ g. type_left g.variable_type) gs xs ys s

routine_left : Leaves routine_tokens
routine_left r xs ys s = left_out xs (all_tokens part_tokens r.parts (r.body.at ∷ ys)) r.name.at (all_left part_tokens part_left r.parts xs (r.body.at ∷ ys) (left_out xs ys r.body.at s))

-- the same of those of system types
definition_some : (v : Definition) (xs ys : List ℕ) → Among xs ys → Among (definition_types v xs) (definition_tokens v ys)
definition_some (type_definition t) xs ys s = type_left t xs ys s
definition_some (system_definition y) xs ys s =
    all_left part_tokens part_left y.parts (y.at ∷ xs) (all_tokens routine_tokens y.routines (y.at ∷ ys)) (all_left routine_tokens routine_left y.routines (y.at ∷ xs) (y.at ∷ ys) (with_first xs ys y.at s))

definitions_some : (ds : List SystemDefinition) (xs ys : List ℕ) → Among xs ys → Among (all_tokens (λ (d : SystemDefinition). definition_types d.value) ds xs) (all_tokens (λ (d : SystemDefinition). definition_tokens d.value) ds ys)
definitions_some [] xs ys s = s
definitions_some (d ∷ ds) xs ys s =
    definition_some d.value (all_tokens (λ (c : SystemDefinition). definition_types c.value) ds xs) (all_tokens (λ (c : SystemDefinition). definition_tokens c.value) ds ys) (definitions_some ds xs ys s)

program_part_some : (q : ProgramPart) (xs ys : List ℕ) → Among xs ys → Among (program_part_types q xs) (program_part_tokens q ys)
program_part_some (program_constants at ds) xs ys s = s
program_part_some (program_types at ds) xs ys s = definitions_some ds xs ys s
program_part_some (program_variables at gs) xs ys s = all_left (λ (g : VariableGroup). type_tokens g.variable_type) (λ g. type_left g.variable_type) gs xs ys s

parts_some : (qs : List ProgramPart) (xs ys : List ℕ) → Among xs ys → Among (all_tokens program_part_types qs xs) (all_tokens program_part_tokens qs ys)
parts_some [] xs ys s = s
parts_some (q ∷ qs) xs ys s = program_part_some q (all_tokens program_part_types qs xs) (all_tokens program_part_tokens qs ys) (parts_some qs xs ys s)

types_different : (p : Program) → AreDifferent (program_tokens p) → AreDifferent (all_tokens program_part_types p.parts (p.period ∷ []))
types_different p h =
    (parts_some p.parts (p.period ∷ []) (all_tokens routine_tokens p.routines (p.period ∷ [])) (all_left routine_tokens routine_left p.routines (p.period ∷ []) (p.period ∷ []) (all_same (p.period ∷ [])))).different h

-- ---- a list by its places

token_there : (other x : ℕ) (before rest : List ℕ) → token_in other (before ++ x ∷ rest) (length before) ≡ x
token_there other x [] rest = refl
token_there other x (b ∷ before) rest = token_there other x before rest

token_other : (other x : ℕ) (rest : List ℕ) (k : ℕ) → (other ≡ x → ⊥) → IsOther x rest → token_in other rest k ≡ x → ⊥
token_other other x [] k h i e = h e
token_other other x (r ∷ rest) zero h i e = i.0 e
token_other other x (r ∷ rest) (suc k) h i e = token_other other x rest k h i.1 e

is_other : (b x : ℕ) (before rest : List ℕ) → IsOther b (before ++ x ∷ rest) → x ≡ b → ⊥
is_other b x [] rest h e = h.0 e
is_other b x (c ∷ before) rest h e = is_other b x before rest h.1 e

token_only : (other x : ℕ) (before rest : List ℕ) (k : ℕ) → (other ≡ x → ⊥) → AreDifferent (before ++ x ∷ rest) → token_in other (before ++ x ∷ rest) k ≡ x → k ≡ length before
token_only other x [] rest zero h d e = refl
token_only other x [] rest (suc k) h d e = absurd (token_other other x rest k h d.0 e)
token_only other x (b ∷ before) rest zero h d e = absurd (is_other b x before rest d.0 (sym e))
token_only other x (b ∷ before) rest (suc k) h d e = ap suc (token_only other x before rest k h d.1 e)

different_after : (before rest : List ℕ) → AreDifferent (before ++ rest) → AreDifferent rest
different_after [] rest h = h
different_after (b ∷ before) rest h = different_after before rest h.1

types_left : (v : Definition) (xs ys : List ℕ) → Among xs ys → Among xs (definition_types v ys)
types_left (type_definition t) xs ys s = s
types_left (system_definition y) xs ys s = left_out xs ys y.at s

part_types_left : Leaves program_part_types
part_types_left (program_types at ds) xs ys s = all_left (λ (d : SystemDefinition). definition_types d.value) (λ d. types_left d.value) ds xs ys s
part_types_left _ xs ys s = s

-- ---- the system types of a program

record Extends (xs ys : List SystemMeaning) : Type 0 where
  pub rest : List SystemMeaning
  pub is : ys ≡ xs ++ rest

extends_same : (xs : List SystemMeaning) → Extends xs xs
extends_same xs = record { rest = []; is = sym (append-nil xs) }

extends_trans : (xs ys zs : List SystemMeaning) → Extends xs ys → Extends ys zs → Extends xs zs
extends_trans xs ys zs h g = record { rest = h.rest ++ g.rest; is = g.is ∙ ap (λ us. us ++ g.rest) h.is ∙ append_assoc xs h.rest g.rest }

definition_extends : (d : Declared) (n : SystemDefinition) (v : Definition) → Extends d.systems (definition_in d n v).systems
definition_extends d n (type_definition t) = extends_same d.systems
definition_extends d n (system_definition y) = record { rest = system_in (seen_inside d.scope) y ∷ []; is = refl }

definitions_extend : (d : Declared) (ns : List SystemDefinition) → Extends d.systems (definitions_in d ns).systems
definitions_extend d [] = extends_same d.systems
definitions_extend d (n ∷ ns) = extends_trans d.systems (definition_in d n n.value).systems (definitions_in (definition_in d n n.value) ns).systems (definition_extends d n n.value) (definitions_extend (definition_in d n n.value) ns)

part_extends : (d : Declared) (q : ProgramPart) → Extends d.systems (program_part_in d q).systems
part_extends d (program_types at ns) = definitions_extend d ns
part_extends d _ = extends_same d.systems

parts_extend : (d : Declared) (qs : List ProgramPart) → Extends d.systems (program_parts_in d qs).systems
parts_extend d [] = extends_same d.systems
parts_extend d (q ∷ qs) = extends_trans d.systems (program_part_in d q).systems (program_parts_in (program_part_in d q) qs).systems (part_extends d q) (parts_extend (program_part_in d q) qs)

module _ (p : Program) where
  abbrev type_list : List ℕ
  type_list = all_tokens program_part_types p.parts (p.period ∷ [])

  abbrev Numbered : Declared → System → Type 0
  Numbered d y = IsNumbered (tokens_of p) p (length d.systems) (seen_inside d.scope) y

  -- with the tokens before it and after it
  system_numbered : (d : Declared) (n : SystemDefinition) (y : System) (before rest : List ℕ) → Extends (definition_in d n (system_definition y)).systems (declared p).systems → length before ≡ length d.systems → type_list ≡ before ++ y.at ∷ rest → Among (p.period ∷ []) rest → AreDifferent type_list → Numbered d y
  system_numbered d n y before rest ext count is last different =
      let sys : SystemMeaning = system_in (seen_inside d.scope) y in
      let found : slice_get (declared p).systems (length d.systems) ≡ Some sys = ap (λ (ss : List SystemMeaning). slice_get ss (length d.systems)) ext.is ∙ slice_more (d.systems ++ sys ∷ []) ext.rest (length d.systems) sys (slice_end d.systems sys) in
      let apart : AreDifferent (before ++ y.at ∷ rest) = subst AreDifferent is different in
      let other : p.period ≡ y.at → ⊥ = (last.other y.at (different_after before (y.at ∷ rest) apart).0).0 in
      record {
        meaning = ap (or_own (own_meaning (declared p) p)) found;
        kind = ap (λ (m : SystemMeaning). m.kind) (ap (or_own (own_meaning (declared p) p)) found);
        token = ap (token_in p.period type_list) (sym count) ∙ ap (λ (ks : List ℕ). token_in p.period ks (length before)) is ∙ token_there p.period y.at before rest;
        only = λ k e. token_only p.period y.at before rest k other apart (ap (λ (ks : List ℕ). token_in p.period ks k) (sym is) ∙ e) ∙ count;
      }

  abbrev types_then : List SystemDefinition → List ℕ → List ℕ
  types_then ns rest = all_tokens (λ (c : SystemDefinition). definition_types c.value) ns rest

  record Stage (d : Declared) (rest : List ℕ) : Type 0 where
    pub before : List ℕ
    pub count : length before ≡ length d.systems
    pub is : type_list ≡ before ++ rest

  one_longer : {A : Type 0} (xs : List A) (x : A) → length (xs ++ x ∷ []) ≡ suc (length xs)
  one_longer xs x = omega (arith, length-append xs (x ∷ []))

  definition_stage : (d : Declared) (n : SystemDefinition) (v : Definition) (rest : List ℕ) → Stage d (definition_types v rest) → Stage (definition_in d n v) rest
  definition_stage d n (type_definition t) rest s = record { before = s.before; count = s.count; is = s.is }
  definition_stage d n (system_definition y) rest s =
      record { before = s.before ++ y.at ∷ []; count = one_longer s.before y.at ∙ ap suc s.count ∙ sym (one_longer d.systems (system_in (seen_inside d.scope) y)); is = s.is ∙ sym (append_assoc s.before (y.at ∷ []) rest) }

  definition_numbered : (d : Declared) (n : SystemDefinition) (v : Definition) (rest : List ℕ) → Stage d (definition_types v rest) → Extends (definition_in d n v).systems (declared p).systems → Among (p.period ∷ []) rest → AreDifferent type_list → IsNumberedDefinition (tokens_of p) p d v
  definition_numbered d n (type_definition t) rest s ext last different = tt
  definition_numbered d n (system_definition y) rest s ext last different = system_numbered d n y s.before rest ext s.count s.is last different

  definitions_stage : (d : Declared) (ns : List SystemDefinition) (rest : List ℕ) → Stage d (types_then ns rest) → Stage (definitions_in d ns) rest
  definitions_stage d [] rest s = s
  definitions_stage d (n ∷ ns) rest s = definitions_stage (definition_in d n n.value) ns rest (definition_stage d n n.value (types_then ns rest) s)

  definitions_numbered : (d : Declared) (ns : List SystemDefinition) (rest : List ℕ) → Stage d (types_then ns rest) → Extends (definitions_in d ns).systems (declared p).systems → Among (p.period ∷ []) rest → AreDifferent type_list → AreNumberedDefinitions (tokens_of p) p d ns
  definitions_numbered d [] rest s ext last different = tt
  definitions_numbered d (n ∷ ns) rest s ext last different =
      let k : Declared = definition_in d n n.value in (
        definition_numbered d n n.value (types_then ns rest) s (extends_trans k.systems (definitions_in k ns).systems (declared p).systems (definitions_extend k ns) ext) (all_left (λ (c : SystemDefinition). definition_types c.value) (λ c. types_left c.value) ns (p.period ∷ []) rest last) different,
        definitions_numbered k ns rest (definition_stage d n n.value (types_then ns rest) s) ext last different,
      )

  part_stage : (d : Declared) (q : ProgramPart) (rest : List ℕ) → Stage d (program_part_types q rest) → Stage (program_part_in d q) rest
  part_stage d (program_types at ns) rest s = definitions_stage d ns rest s
  part_stage d _ rest s = record { before = s.before; count = s.count; is = s.is }

  part_numbered : (d : Declared) (q : ProgramPart) (rest : List ℕ) → Stage d (program_part_types q rest) → Extends (program_part_in d q).systems (declared p).systems → Among (p.period ∷ []) rest → AreDifferent type_list → IsNumberedPart (tokens_of p) p d q
  part_numbered d (program_types at ns) rest s ext last different = definitions_numbered d ns rest s ext last different
  part_numbered d _ rest s ext last different = tt

  parts_numbered : (d : Declared) (qs : List ProgramPart) → Stage d (all_tokens program_part_types qs (p.period ∷ [])) → Extends (program_parts_in d qs).systems (declared p).systems → AreDifferent type_list → AreNumberedParts (tokens_of p) p d qs
  parts_numbered d [] s ext different = tt
  parts_numbered d (q ∷ qs) s ext different =
      let k : Declared = program_part_in d q in
      let rest : List ℕ = all_tokens program_part_types qs (p.period ∷ []) in (
        part_numbered d q rest s (extends_trans k.systems (program_parts_in k qs).systems (declared p).systems (parts_extend k qs) ext) (all_left program_part_types part_types_left qs (p.period ∷ []) (p.period ∷ []) (all_same (p.period ∷ []))) different,
        parts_numbered k qs (part_stage d q rest s) ext different,
      )

  pub all_numbered : AreDifferent (program_tokens p) → AreNumberedParts (tokens_of p) p nothing_declared p.parts
  all_numbered h = parts_numbered nothing_declared p.parts (record { before = []; count = refl; is = refl }) (extends_same (declared p).systems) (types_different p h)

-- ---- enumerations

other_enumeration : (e : Enumerated) (es : List Enumerated) (at : ℕ) → (e.at ≡ at → ⊥) → constants_among at (e ∷ es) ≡ constants_among at es
other_enumeration e es at h = ap (λ (b : Bool). if b then names_of e.names else constants_among at es) (other_number at e.at (λ i. h (sym i)))

same_enumeration : (e : Enumerated) (es : List Enumerated) → constants_among e.at (e ∷ es) ≡ names_of e.names
same_enumeration e es = ap (λ (b : Bool). if b then names_of e.names else constants_among e.at es) (same_number e.at)

few_after : (systems : ℕ → ℕ) (kinds : ℕ → SystemKind) (e : Enumerated) (all es : List Enumerated) → IsOther e.at (tokens_of_enumerations es) → Each (IsFew (record { systems = systems; kinds = kinds; constants = λ at. constants_among at all })) es → Each (IsFew (record { systems = systems; kinds = kinds; constants = λ at. constants_among at (e ∷ all) })) es
few_after systems kinds e all [] o h = tt
few_after systems kinds e all (d ∷ es) o h = (record { some = h.0.some; few = h.0.few; listed = h.0.listed ∙ sym (other_enumeration e all d.at (λ i. o.0 (sym i))) }, few_after systems kinds e all es o.1 h.1)

pub all_few : (systems : ℕ → ℕ) (kinds : ℕ → SystemKind) (es : List Enumerated) → Each HasFew es → AreDifferent (tokens_of_enumerations es) → Each (IsFew (record { systems = systems; kinds = kinds; constants = λ at. constants_among at es })) es
all_few systems kinds [] h d = tt
all_few systems kinds (e ∷ es) h d = (record { some = h.0.some; few = h.0.few; listed = sym (same_enumeration e es) }, few_after systems kinds e es es d.0 (all_few systems kinds es h.1 d.1))
