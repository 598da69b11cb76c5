-- In a program that spells tokens the checker keeps what is written at different tokens.
use Rattle.cp_resolved.proofs.Words.{Identifier, Bool, true, false, sym, subst, ◌≡◌, ℕ, ◌+◌, ◌<◌, ◌≤◌, List, [], ◌∷◌, length, inl, inr, arith, ◌⊎◌, Kind}
use Rattle.cp_text.specs.declared.token.Kind.TheVariants as kind
use Rattle.cp_text.specs.declared.token.Mark.TheVariants as mark
use Rattle.cp_tree.specs.Syntax.{asserted, Statements, no_statements, more_statements, Part, Routine, simple, array_of, set_type, record_of, no_fields, more_fields, fields, constants, types, variables, type_definition, system_definition, SystemDefinition, TypeDefinition, VariableGroup, program_constants, program_types, program_variables, Program}
use Rattle.cp_tree.specs.Spelling.{is_nameless, put_expression, put_statement, put_statements, put_named_routine, put_routine_by, put_optional, put_all, put_identifier, put_simple, put_type, put_field_groups, put_more_field_groups, put_field_group, put_type_definition, put_variable_group, put_part, put_group, put_body, put_routine_kind, put_routine, put_system, put_definition, put_system_definition, put_program_part, spell}
use Rattle.cp_tree.specs.SpellingIndexed.{IsIndexedInvariantBody, IsIndexedRoutineBy, AreAllIndexed, AreSomeIndexed, IsIndexedType, AreIndexedFieldGroups, AreIndexedMoreFieldGroups, IsIndexedFieldGroup, IsIndexedTypeDefinition, IsIndexedVariableGroup, IsIndexedPart, IsIndexedRoutine, IsIndexedSystem, IsIndexedDefinition, IsIndexedSystemDefinition, IsIndexedProgramPart, IsIndexedProgram, IsIndexed}
use Rattle.cp_tree.proofs.Grows.{grows_expression, grows_statement, grows_optional, grows_all, grows_names, grows_simple, grows_type, grows_field_groups, grows_more_field_groups, grows_field_group, grows_type_definition, grows_variable_group, grows_group, grows_body, grows_parameters, grows_routine_kind, grows_part, grows_routine, grows_system_definition, grows_program_part}
use Rattle.cp_resolved.specs.Tokens.{all_tokens, type_tokens, groups_tokens, group_tokens, part_tokens, routine_tokens, system_tokens, definition_tokens, program_part_tokens, program_tokens, IsOther, AreDifferent}

-- Tokens are told by the number of tokens from them on.

-- a token that does not stand between two places
pub record IsOut (total low high k : ℕ) : Type 0 where
  pub here : ℕ
  pub begins : k + here ≡ total
  pub out : (here ≤ low) ⊎ (high < here)

abbrev pub AllOut : (total low high : ℕ) → List ℕ → Type 0
AllOut total low high [] = Unit {0}
AllOut total low high (k ∷ ks) = IsOut total low high k × AllOut total low high ks

module _ (total : ℕ) where
  one_narrow : (low high lower higher k : ℕ) → low ≤ lower → higher ≤ high → IsOut total low high k → IsOut total lower higher k
  one_narrow low high lower higher k a b h = record { here = h.here; begins = h.begins; out = go h.out }
    where
      go : (h.here ≤ low) ⊎ (high < h.here) → (h.here ≤ lower) ⊎ (higher < h.here)
      go (inl e) = inl (omega (arith, e, a))
      go (inr e) = inr (omega (arith, e, b))

  narrow : (low high lower higher : ℕ) (ks : List ℕ) → low ≤ lower → higher ≤ high → AllOut total low high ks → AllOut total lower higher ks
  narrow low high lower higher [] a b h = tt
  narrow low high lower higher (k ∷ ks) a b h = (one_narrow low high lower higher k a b h.0, narrow low high lower higher ks a b h.1)

  one_other : (low high at here k : ℕ) → at + here ≡ total → low < here → here ≤ high → IsOut total low high k → k ≡ at → ⊥
  one_other low high at here k begins above below h e = go h.out
    where
      same : h.here ≡ here
      same = let g = h.begins in omega (arith, g, begins, e)

      go : (h.here ≤ low) ⊎ (high < h.here) → ⊥
      go (inl f) = absurd (omega (arith, f, same, above))
      go (inr f) = absurd (omega (arith, f, same, below))

  all_other : (low high at here : ℕ) (ks : List ℕ) → at + here ≡ total → low < here → here ≤ high → AllOut total low high ks → IsOther at ks
  all_other low high at here [] begins above below h = tt
  all_other low high at here (k ∷ ks) begins above below h = (one_other low high at here k begins above below h.0, all_other low high at here ks begins above below h.1)

  -- more tokens between two places: they are different from those that are not there
  pub record Between (low high : ℕ) (ks xs : List ℕ) : Type 0 where
    pub different : AreDifferent xs
    pub out : (l h : ℕ) → (h ≤ low) ⊎ (high ≤ l) → AllOut total l h ks → AllOut total l h xs

  none_between : (low high : ℕ) (ks : List ℕ) → AreDifferent ks → Between low high ks ks
  none_between low high ks d = record { different = d; out = λ l h e o. o }

  one_between : (low high at : ℕ) (ks : List ℕ) → at + high ≡ total → low < high → AreDifferent ks → AllOut total low high ks → Between low high ks (at ∷ ks)
  one_between low high at ks begins less d o =
      record {
        different = (all_other low high at high ks begins less (omega arith) o, d);
        out = λ l h e k. (record { here = high; begins = begins; out = go l h e }, k);
      }
    where
      go : (l h : ℕ) → (h ≤ low) ⊎ (high ≤ l) → (high ≤ l) ⊎ (h < high)
      go l h (inl e) = inr (omega (arith, e, less))
      go l h (inr e) = inl e

  both_between : (low high a b c d : ℕ) (ks js xs : List ℕ) → low ≤ a → b ≤ high → low ≤ c → d ≤ high → Between a b ks js → Between c d js xs → Between low high ks xs
  both_between low high a b c d ks js xs p q r s h g =
      record { different = g.different; out = λ l u e o. g.out l u (second l u e) (h.out l u (first l u e) o) }
    where
      first : (l u : ℕ) → (u ≤ low) ⊎ (high ≤ l) → (u ≤ a) ⊎ (b ≤ l)
      first l u (inl e) = inl (omega (arith, e, p))
      first l u (inr e) = inr (omega (arith, e, q))

      second : (l u : ℕ) → (u ≤ low) ⊎ (high ≤ l) → (u ≤ c) ⊎ (d ≤ l)
      second l u (inl e) = inl (omega (arith, e, r))
      second l u (inr e) = inr (omega (arith, e, s))

  wider : (low high a b : ℕ) (ks xs : List ℕ) → low ≤ a → b ≤ high → Between a b ks xs → Between low high ks xs
  wider low high a b ks xs p q h = record { different = h.different; out = λ l u e o. h.out l u (first l u e) o }
    where
      first : (l u : ℕ) → (u ≤ low) ⊎ (high ≤ l) → (u ≤ a) ⊎ (b ≤ l)
      first l u (inl e) = inl (omega (arith, e, p))
      first l u (inr e) = inr (omega (arith, e, q))

  abbrev Walks : {A : Type 0} → (A → List Kind → List Kind) → (A → List Kind → Type 0) → (A → List ℕ → List ℕ) → Type 0
  Walks {A} put indexed f = (x : A) (rest : List Kind) (ks : List ℕ) → indexed x rest → AreDifferent ks → AllOut total (length rest) (length (put x rest)) ks → Between (length rest) (length (put x rest)) ks (f x ks)

  abbrev Grows : {A : Type 0} → (A → List Kind → List Kind) → Type 0
  Grows {A} put = (x : A) (rest : List Kind) → length rest ≤ length (put x rest)

  all_walk : {A : Type 0} (put : A → List Kind → List Kind) (indexed : A → List Kind → Type 0) (f : A → List ℕ → List ℕ) → Grows put → Walks put indexed f → (xs : List A) (rest : List Kind) (ks : List ℕ) → AreAllIndexed put indexed xs rest → AreDifferent ks → AllOut total (length rest) (length (put_all put xs rest)) ks → Between (length rest) (length (put_all put xs rest)) ks (all_tokens f xs ks)
  all_walk put indexed f grows one [] rest ks h d o = none_between (length rest) (length rest) ks d
  all_walk put indexed f grows one (x ∷ xs) rest ks h d o =
      let after : List Kind = put_all put xs rest in
      let a : length rest ≤ length after = grows_all put grows xs rest in
      let b : length after ≤ length (put x after) = grows x after in
      let r = all_walk put indexed f grows one xs rest ks h.1 d (narrow (length rest) (length (put x after)) (length rest) (length after) ks (omega arith) b o) in
      both_between (length rest) (length (put x after)) (length rest) (length after) (length after) (length (put x after)) ks (all_tokens f xs ks) (f x (all_tokens f xs ks)) (omega arith) b a (omega arith) r
      (one x after (all_tokens f xs ks) h.0 r.different (r.out (length after) (length (put x after)) (inr (omega arith)) (narrow (length rest) (length (put x after)) (length after) (length (put x after)) ks a (omega arith) o)))

  some_all : {A : Type 0} (put : A → List Kind → List Kind) (indexed : A → List Kind → Type 0) (xs : List A) (rest : List Kind) → AreSomeIndexed put indexed xs rest → AreAllIndexed put indexed xs rest
  some_all put indexed [] rest h = tt
  some_all put indexed (x ∷ xs) rest h = h

  -- what stands inside a longer piece
  inside : (low high a b : ℕ) (ks xs : List ℕ) → low ≤ a → b ≤ high → AllOut total low high ks → (AllOut total a b ks → Between a b ks xs) → Between low high ks xs
  inside low high a b ks xs p q o k = wider low high a b ks xs p q (k (narrow low high a b ks p q o))

  -- a token, and what stands after it
  before : (low high b at : ℕ) (ks xs : List ℕ) → at + high ≡ total → low ≤ b → b < high → AreDifferent ks → AllOut total low high ks → (AreDifferent (at ∷ ks) → AllOut total low b (at ∷ ks) → Between low b (at ∷ ks) xs) → Between low high ks xs
  before low high b at ks xs begins p q d o k =
      let first : Between b high ks (at ∷ ks) = one_between b high at ks begins q d (narrow low high b high ks p (omega arith) o) in
      both_between low high b high low b ks (at ∷ ks) xs p (omega arith) (omega arith) (omega (arith, q)) first
      (k first.different (first.out low b (inl (omega arith)) (narrow low high low b ks (omega arith) (omega (arith, q)) o)))

  -- ---- types

  mutual
    type_walk : Walks put_type (IsIndexedType total) type_tokens
    type_walk (simple at s) rest ks h d o = none_between (length rest) (length (put_type (simple at s) rest)) ks d
    type_walk (array_of at s t) rest ks h d o =
        let after : List Kind = kind.Mark mark.CloseBracket ∷ kind.Mark mark.Of ∷ put_type t rest in
        let a : length after ≤ length (put_simple s after) = grows_simple s after in
        let b : length rest ≤ length (put_type t rest) = grows_type t rest in
        before (length rest) (length (put_type (array_of at s t) rest)) (length (put_type t rest)) at ks (type_tokens t (at ∷ ks)) h.0 b (omega (arith, a)) d o (λ e u. type_walk t rest (at ∷ ks) h.2 e u)
    type_walk (set_type at s) rest ks h d o = none_between (length rest) (length (put_type (set_type at s) rest)) ks d
    type_walk (record_of at gs b) rest ks h d o =
        let last : List Kind = kind.Mark mark.End ∷ rest in
        let after : List Kind = put_optional mark.Semicolon b last in
        let a : length last ≤ length after = grows_optional mark.Semicolon b last in
        let c : length after ≤ length (put_field_groups gs after) = grows_field_groups gs after in
        before (length rest) (length (put_type (record_of at gs b) rest)) (length (put_field_groups gs after)) at ks (groups_tokens gs (at ∷ ks)) h.0 (omega (arith, a, c)) (omega arith) d o
        (λ e u. inside (length rest) (length (put_field_groups gs after)) (length after) (length (put_field_groups gs after)) (at ∷ ks) (groups_tokens gs (at ∷ ks)) (omega (arith, a)) (omega arith) u (λ v. groups_walk gs after (at ∷ ks) h.1 e v))

    groups_walk : Walks put_field_groups (AreIndexedFieldGroups total) groups_tokens
    groups_walk no_fields rest ks h d o = absurd h
    groups_walk (more_fields g gs) rest ks h d o =
        let after : List Kind = put_more_field_groups gs rest in
        let a : length rest ≤ length after = grows_more_field_groups gs rest in
        let b : length after ≤ length (put_field_group g after) = grows_field_group g after in
        let r = more_walk gs rest ks h.1 d (narrow (length rest) (length (put_field_group g after)) (length rest) (length after) ks (omega arith) b o) in
        both_between (length rest) (length (put_field_group g after)) (length rest) (length after) (length after) (length (put_field_group g after)) ks (groups_tokens gs ks) (group_tokens g (groups_tokens gs ks)) (omega arith) b a (omega arith) r
        (group_walk g after (groups_tokens gs ks) h.0 r.different (r.out (length after) (length (put_field_group g after)) (inr (omega arith)) (narrow (length rest) (length (put_field_group g after)) (length after) (length (put_field_group g after)) ks a (omega arith) o)))

    more_walk : Walks put_more_field_groups (AreIndexedMoreFieldGroups total) groups_tokens
    more_walk no_fields rest ks h d o = none_between (length rest) (length rest) ks d
    more_walk (more_fields g gs) rest ks h d o =
        let after : List Kind = put_more_field_groups gs rest in
        let a : length rest ≤ length after = grows_more_field_groups gs rest in
        let b : length after ≤ length (put_field_group g after) = grows_field_group g after in
        let high : ℕ = length (put_more_field_groups (more_fields g gs) rest) in
        let r = more_walk gs rest ks h.1 d (narrow (length rest) high (length rest) (length after) ks (omega arith) (omega (arith, b)) o) in
        both_between (length rest) high (length rest) (length after) (length after) (length (put_field_group g after)) ks (groups_tokens gs ks) (group_tokens g (groups_tokens gs ks)) (omega arith) (omega (arith, b)) a (omega arith) r
        (group_walk g after (groups_tokens gs ks) h.0 r.different (r.out (length after) (length (put_field_group g after)) (inr (omega arith)) (narrow (length rest) high (length after) (length (put_field_group g after)) ks a (omega arith) o)))

    group_walk : Walks put_field_group (IsIndexedFieldGroup total) group_tokens
    group_walk (fields is t) rest ks h d o =
        let a = grows_names is (kind.Mark mark.Colon ∷ put_type t rest) in
        inside (length rest) (length (put_field_group (fields is t) rest)) (length rest) (length (put_type t rest)) ks (type_tokens t ks) (omega arith) (omega (arith, a)) o (λ u. type_walk t rest ks h.1 d u)

  -- ---- declarations

  type_definition_walk : Walks put_type_definition (IsIndexedTypeDefinition total) (λ c. type_tokens c.value)
  type_definition_walk c rest ks h d o =
      let after : List Kind = kind.Mark mark.Semicolon ∷ rest in
      inside (length rest) (length (put_type_definition c rest)) (length after) (length (put_type c.value after)) ks (type_tokens c.value ks) (omega arith) (omega arith) o (λ u. type_walk c.value after ks h.1 d u)

  variable_group_walk : Walks put_variable_group (IsIndexedVariableGroup total) (λ g. type_tokens g.variable_type)
  variable_group_walk g rest ks h d o =
      let after : List Kind = kind.Mark mark.Semicolon ∷ rest in
      let a = grows_names g.names (kind.Mark mark.Colon ∷ put_type g.variable_type after) in
      inside (length rest) (length (put_variable_group g rest)) (length after) (length (put_type g.variable_type after)) ks (type_tokens g.variable_type ks) (omega arith) (omega (arith, a)) o (λ u. type_walk g.variable_type after ks h.1 d u)

  part_walk : Walks put_part (IsIndexedPart total) part_tokens
  part_walk (constants at ds) rest ks h d o = none_between (length rest) (length (put_part (constants at ds) rest)) ks d
  part_walk (types at ds) rest ks h d o =
      inside (length rest) (length (put_part (types at ds) rest)) (length rest) (length (put_all put_type_definition ds rest)) ks (part_tokens (types at ds) ks) (omega arith) (omega arith) o
      (λ u. all_walk put_type_definition (IsIndexedTypeDefinition total) (λ (c : TypeDefinition). type_tokens c.value) grows_type_definition type_definition_walk ds rest ks (some_all put_type_definition (IsIndexedTypeDefinition total) ds rest h.1) d u)
  part_walk (variables at gs) rest ks h d o =
      inside (length rest) (length (put_part (variables at gs) rest)) (length rest) (length (put_all put_variable_group gs rest)) ks (part_tokens (variables at gs) ks) (omega arith) (omega arith) o
      (λ u. all_walk put_variable_group (IsIndexedVariableGroup total) (λ (g : VariableGroup). type_tokens g.variable_type) grows_variable_group variable_group_walk gs rest ks (some_all put_variable_group (IsIndexedVariableGroup total) gs rest h.1) d u)

  -- a token, and then what stands before it
  after_it : (low b high at here : ℕ) (ks xs : List ℕ) → at + here ≡ total → low < here → here ≤ b → b ≤ high → AreDifferent ks → AllOut total low high ks → (AreDifferent (at ∷ ks) → AllOut total here high (at ∷ ks) → Between here high (at ∷ ks) xs) → Between low high ks xs
  after_it low b high at here ks xs begins p q r d o k =
      let first : Between low here ks (at ∷ ks) = one_between low here at ks begins p d (narrow low high low here ks (omega arith) (omega (arith, q, r)) o) in
      both_between low high low here here high ks (at ∷ ks) xs (omega arith) (omega (arith, q, r)) (omega (arith, p)) (omega arith) first
      (k first.different (first.out here high (inr (omega arith)) (narrow low high here high ks (omega (arith, p)) (omega arith) o)))

  -- the routine without a name is at the first token of what it says, and its body at the next
  says_walk : (at : ℕ) (ss : Statements) (rest : List Kind) (ks : List ℕ) → at + length (put_statements ss rest) ≡ total → IsIndexedInvariantBody total ss rest → AreDifferent ks → AllOut total (length rest) (length (put_statements ss rest)) ks → Between (length rest) (length (put_statements ss rest)) ks (at ∷ (at + 1) ∷ ks)
  says_walk at (more_statements (asserted n k e s) no_statements) rest ks begins h d o =
      let after : List Kind = kind.Mark mark.Closes ∷ put_statement s rest in
      let here : ℕ = length (put_expression e after) in
      let high : ℕ = length (put_statements (more_statements (asserted n k e s) no_statements) rest) in
      let a : length rest ≤ length (put_statement s rest) = grows_statement s rest in
      let b : length after ≤ here = grows_expression e after in
      let next : (at + 1) + here ≡ total = omega (arith, begins) in
      after_it (length rest) here high (at + 1) here ks (at ∷ (at + 1) ∷ ks) next (omega (arith, a, b)) (omega arith) (omega arith) d o
      (λ f u. one_between here high at ((at + 1) ∷ ks) begins (omega arith) f u)
  says_walk at _ rest ks begins h d o = absurd h

  routine_by : (b : Bool) (r : Routine) (rest : List Kind) (ks : List ℕ) → IsIndexedRoutineBy total b r rest → AreDifferent ks → AllOut total (length rest) (length (put_routine_by b r rest)) ks → Between (length rest) (length (put_routine_by b r rest)) ks (routine_tokens r ks)
  routine_by true r rest ks h d o =
      let walk : Between (length rest) (length (put_statements r.body.statements rest)) ks (r.at ∷ (r.at + 1) ∷ ks) = says_walk r.at r.body.statements rest ks h.begins h.said d o in
      let first : Between (length rest) (length (put_statements r.body.statements rest)) ks (r.name.at ∷ (r.at + 1) ∷ ks) = subst (λ (i : Identifier). Between (length rest) (length (put_statements r.body.statements rest)) ks (i.at ∷ (r.at + 1) ∷ ks)) (sym h.name) walk in
      let second : Between (length rest) (length (put_statements r.body.statements rest)) ks (r.name.at ∷ r.body.at ∷ ks) = subst (λ (n : ℕ). Between (length rest) (length (put_statements r.body.statements rest)) ks (r.name.at ∷ n ∷ ks)) (sym h.body) first in
      subst (λ (ps : List Part). Between (length rest) (length (put_statements r.body.statements rest)) ks (r.name.at ∷ all_tokens part_tokens ps (r.body.at ∷ ks))) (sym h.no_parts) second
  routine_by false r rest ks h d o =
      let last : List Kind = kind.Mark mark.Semicolon ∷ rest in
      let body : List Kind = put_body r.body last in
      let within : List Kind = put_all put_part r.parts body in
      let named : List Kind = put_identifier r.name (put_routine_kind r.kind (kind.Mark mark.Semicolon ∷ within)) in
      let a : length last ≤ length body = grows_body r.body last in
      let b : length (kind.Mark mark.Semicolon ∷ within) ≤ length (put_routine_kind r.kind (kind.Mark mark.Semicolon ∷ within)) = grows_routine_kind r.kind (kind.Mark mark.Semicolon ∷ within) in
      let c : length named ≤ length (put_optional mark.Entry r.is_entry named) = grows_optional mark.Entry r.is_entry named in
      let e : length body ≤ length within = grows_all put_part grows_part r.parts body in
      let high : ℕ = length (put_named_routine r rest) in
      after_it (length rest) (length within) high r.body.at (length body) ks (routine_tokens r ks) h.4.0 (omega (arith, a)) e (omega (arith, b, c)) d o
      (λ f u. (
      let parts = all_walk put_part (IsIndexedPart total) part_tokens grows_part part_walk r.parts body (r.body.at ∷ ks) h.3 f (narrow (length body) high (length body) (length within) (r.body.at ∷ ks) (omega arith) (omega (arith, b, c)) u) in
      let js : List ℕ = all_tokens part_tokens r.parts (r.body.at ∷ ks) in
      let name = one_between (length within) (length named) r.name.at js h.1 (omega (arith, b)) parts.different (parts.out (length within) (length named) (inr (omega arith)) (narrow (length body) high (length within) (length named) (r.body.at ∷ ks) e (omega (arith, c)) u)) in
      both_between (length body) high (length body) (length within) (length within) (length named) (r.body.at ∷ ks) js (r.name.at ∷ js) (omega arith) (omega (arith, b, c)) e (omega (arith, c)) parts name
      ))

  routine_walk : Walks put_routine (IsIndexedRoutine total) routine_tokens
  routine_walk r rest ks h d o = routine_by (is_nameless r.kind) r rest ks h d o

  system_walk : Walks put_system (IsIndexedSystem total) system_tokens
  system_walk s rest ks h d o =
      let body : List Kind = put_body s.body rest in
      let routines : List Kind = put_all put_routine s.routines body in
      let within : List Kind = put_all put_part s.parts routines in
      let a : length rest ≤ length body = grows_body s.body rest in
      let b : length within ≤ length (put_optional mark.Semicolon s.has_semicolon within) = grows_optional mark.Semicolon s.has_semicolon within in
      let c = grows_parameters put_group grows_group s.parameters (put_optional mark.Semicolon s.has_semicolon within) in
      let e : length body ≤ length routines = grows_all put_routine grows_routine s.routines body in
      let f : length routines ≤ length within = grows_all put_part grows_part s.parts routines in
      before (length rest) (length (put_system s rest)) (length within) s.at ks (system_tokens s ks) h.0 (omega (arith, a, e, f)) (omega (arith, b, c)) d o
      (λ g u. (
      let rs : List ℕ = all_tokens routine_tokens s.routines (s.at ∷ ks) in
      let first = all_walk put_routine (IsIndexedRoutine total) routine_tokens grows_routine routine_walk s.routines body (s.at ∷ ks) h.3 g (narrow (length rest) (length within) (length body) (length routines) (s.at ∷ ks) a f u) in
      let second = all_walk put_part (IsIndexedPart total) part_tokens grows_part part_walk s.parts routines rs h.2 first.different (first.out (length routines) (length within) (inr (omega arith)) (narrow (length rest) (length within) (length routines) (length within) (s.at ∷ ks) (omega (arith, a, e)) (omega arith) u)) in
      both_between (length rest) (length within) (length body) (length routines) (length routines) (length within) (s.at ∷ ks) rs (system_tokens s ks) a f (omega (arith, a, e)) (omega arith) first second
      ))

  definition_walk : Walks put_definition (IsIndexedDefinition total) definition_tokens
  definition_walk (type_definition t) rest ks h d o = type_walk t rest ks h d o
  definition_walk (system_definition s) rest ks h d o = system_walk s rest ks h d o

  named_walk : Walks put_system_definition (IsIndexedSystemDefinition total) (λ c. definition_tokens c.value)
  named_walk c rest ks h d o =
      let after : List Kind = kind.Mark mark.Semicolon ∷ rest in
      inside (length rest) (length (put_system_definition c rest)) (length after) (length (put_definition c.value after)) ks (definition_tokens c.value ks) (omega arith) (omega arith) o (λ u. definition_walk c.value after ks h.1 d u)

  program_part_walk : Walks put_program_part (IsIndexedProgramPart total) program_part_tokens
  program_part_walk (program_constants at ds) rest ks h d o = none_between (length rest) (length (put_program_part (program_constants at ds) rest)) ks d
  program_part_walk (program_types at ns) rest ks h d o =
      inside (length rest) (length (put_program_part (program_types at ns) rest)) (length rest) (length (put_all put_system_definition ns rest)) ks (program_part_tokens (program_types at ns) ks) (omega arith) (omega arith) o
      (λ u. all_walk put_system_definition (IsIndexedSystemDefinition total) (λ (c : SystemDefinition). definition_tokens c.value) grows_system_definition named_walk ns rest ks (some_all put_system_definition (IsIndexedSystemDefinition total) ns rest h.1) d u)
  program_part_walk (program_variables at gs) rest ks h d o =
      inside (length rest) (length (put_program_part (program_variables at gs) rest)) (length rest) (length (put_all put_variable_group gs rest)) ks (program_part_tokens (program_variables at gs) ks) (omega arith) (omega arith) o
      (λ u. all_walk put_variable_group (IsIndexedVariableGroup total) (λ (g : VariableGroup). type_tokens g.variable_type) grows_variable_group variable_group_walk gs rest ks (some_all put_variable_group (IsIndexedVariableGroup total) gs rest h.1) d u)

  program_different : (p : Program) → IsIndexedProgram total p → AreDifferent (program_tokens p)
  program_different p h =
      let last : List Kind = put_body p.body (kind.Mark mark.Period ∷ []) in
      let routines : List Kind = put_all put_routine p.routines last in
      let a : 1 ≤ length last = grows_body p.body (kind.Mark mark.Period ∷ []) in
      let period : (l u : ℕ) → 1 ≤ l → AllOut total l u (p.period ∷ []) = (λ l u e. (record { here = 1; begins = h.4; out = inl e }, tt)) in
      let b : length last ≤ length routines = grows_all put_routine grows_routine p.routines last in
      let first = all_walk put_routine (IsIndexedRoutine total) routine_tokens grows_routine routine_walk p.routines last (p.period ∷ []) h.1 (tt, tt) (period (length last) (length routines) a) in
      (all_walk put_program_part (IsIndexedProgramPart total) program_part_tokens grows_program_part program_part_walk p.parts routines (all_tokens routine_tokens p.routines (p.period ∷ [])) h.0 first.different
      (first.out (length routines) (length (spell p)) (inr (omega arith)) (period (length routines) (length (spell p)) (omega (arith, a, b))))).different

pub tokens_different : (p : Program) → IsIndexed p → AreDifferent (program_tokens p)
tokens_different p h = program_different (length (spell p)) p h
