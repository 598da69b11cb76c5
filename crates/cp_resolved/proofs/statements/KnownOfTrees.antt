-- What the rules say of all statements of a tree that was read and breaks none, in any routine with their scope.
use Rattle.std.proofs.Common.{◌≡◌, ◌∙◌, ℕ, zero, suc, ◌+◌, ◌-◌, ◌<◌, ◌≤◌, ◌==◌, Bool, true, false, if◌then◌else◌, List, [], ◌∷◌, ◌++◌, length, Option, Some, None, Ok, slice_get, ap, sym, refl, subst, arith, append_assoc, length-append}
use Rattle.cp_resolved.proofs.Words.{length-map, eqb-true, eqb-false, leb-true, leb-false, Use, no_use, Judged, IsAccepted, Heard, statements_loud, spell, Scope}
use Rattle.cp_resolved.proofs.Words.{RoutineMeaning, names_of, seen_inside, nothing_declared, Place, IsAgreed, AreAgreed, places_of, tokens_of, Here, IsRead}
use Rattle.cp_resolved.proofs.Words.{initial_meaning, Each, layouts_of, nat_eq, nat_le, Enumerated, enumerations_of, before_among, constants_before}
use Rattle.cp_check.specs.Statements.{statements}
use Rattle.cp_tree.specs.Syntax.{Definition, type_definition, system_definition, SystemDefinition, ProgramPart, program_types, Program, Tree}
use Rattle.cp_meaning.specs.Systems.{system_in, Declared, definition_in, definitions_in, program_part_in, program_parts_in, declared, program_system, own_meaning}
use Rattle.cp_resolved.specs.Openings.{Opening, openings_of, meaning_in, meaning_at, parts_openings, routine_openings, initial_opening}
use Rattle.cp_resolved.specs.Tokens.{all_tokens, definition_types, program_part_types, token_in, constants_among}
use Rattle.cp_resolved.proofs.agreeing.DifferentTokens.{all_numbered}
use Rattle.cp_resolved.proofs.statements.EachStatement.{EachOf, each_of, IsSound, Inside, sound_of}
use Rattle.cp_resolved.proofs.forms.FormedStatements.{Right, right_of}
use Rattle.cp_resolved.proofs.forms.FormsOfTrees.{all_heard}
use Rattle.cp_resolved.proofs.statements.KnownStatements.{StatementKnown, statement_known}
use Rattle.cp_resolved.proofs.declarations.Numbered.{AreInOrder, program_ordered}
use Rattle.cp_resolved.proofs.statements.OwnersKnown.{IsOwned, AreOwned, all_owned}
use Rattle.cp_resolved.proofs.agreeing.ScopesOfTrees.{scopes_law}
use Rattle.cp_resolved.proofs.declarations.SmallBodies.{IsSmallOpening, read_opens}
use Rattle.cp_resolved.proofs.declarations.SmallTexts.{read_few}
use Rattle.cp_resolved.proofs.agreeing.DifferentIndexed.{tokens_different}
use Rattle.cp_resolved.proofs.names.Entries.{last_entry as slice_end}

-- in a routine of a system type with a scope
abbrev pub here_in : Tree → (system routine : ℕ) → Scope → Here
here_in t k n s = record { program = t.program; layouts = layouts_of t; system = k; routine = n; scope = s }

-- the place at which the statements of a routine or of an initial statement are judged, with what is known of them
pub record KnownFor (t : Tree) (m : RoutineMeaning) : Type 0 where
  pub place : Place
  pub opening : Opening
  pub same : opening.meaning ≡ m
  pub owned : IsOwned t.program place opening
  pub each : (k n : ℕ) → EachOf (StatementKnown (tokens_of t.program) (here_in t k n m.scope) place.context) m.body

module _ (t : Tree) (read : IsRead t.program) (accepted : IsAccepted t) where
  abbrev p : Program
  p = t.program

  one_known : (x : Place) (o : Opening) → IsAgreed (tokens_of p) p x o → IsSmallOpening o → IsOwned p x o → KnownFor t o.meaning
  one_known x o agreed small owned =
      record {
        place = x;
        opening = o;
        same = refl;
        owned = owned;
        each = λ k n. (
            let h : Here = here_in t k n o.meaning.scope in
            let heard : Heard x.scopes = all_heard x.scopes agreed.known in
            let j : Judged Use = statements x.scopes x.context (Ok no_use) o.meaning.body in
            let r : Right j = right_of j (statements_loud x.scopes x.context heard o.meaning.body (Ok no_use) tt) agreed.sound in
            let sound : Inside {A = Use} (Ok no_use) (EachOf (IsSound x.scopes x.context) o.meaning.body) = sound_of x.scopes x.context o.meaning.body small (Ok no_use) r.value r.is in
            each_of (IsSound x.scopes x.context) (StatementKnown (tokens_of p) h x.context) (statement_known (tokens_of p) x.scopes h x.context (agreed.scopes (layouts_of t) k n) heard) o.meaning.body sound.rest
            );
      }

  -- the one of a number
  pub record KnownAmong (os : List Opening) (n : ℕ) : Type 0 where
    pub opening : Opening
    pub is : slice_get os n ≡ Some opening
    pub known : KnownFor t opening.meaning
    pub owner : known.opening.owner ≡ opening.owner

  among : (xs : List Place) (os : List Opening) (n : ℕ) → AreAgreed (tokens_of p) p xs os → Each IsSmallOpening os → AreOwned p xs os → n < length os → KnownAmong os n
  unfolding one_known
  among (x ∷ xs) (o ∷ os) zero h small owned less = record { opening = o; is = refl; known = one_known x o h.0 small.0 owned.0; owner = refl }
  among (x ∷ xs) (o ∷ os) (suc n) h small owned less =
      let r : KnownAmong os n = among xs os n h.1 small.1 owned.1 (omega (arith, less)) in
      record { opening = r.opening; is = r.is; known = r.known; owner = r.owner }
  among [] [] n h small owned less = absurd (omega (arith, less))
  among _ _ n h small owned less = absurd h

  pub all_among : (n : ℕ) → n < length (openings_of p) → KnownAmong (openings_of p) n
  all_among n less = among (places_of p) (openings_of p) n (scopes_law t read accepted).places (read_opens p read) (all_owned p (all_numbered p (tokens_different p read.proper.indexed))) less

  -- the statements of the program itself are those of each number that is none
  before_own : List Opening
  before_own = parts_openings nothing_declared p.parts ++ routine_openings (program_system p) (declared p).scope p.routines

  own_last : (length before_own < length (openings_of p)) × (meaning_at p (length before_own) ≡ initial_meaning (own_meaning (declared p) p))
  unfolding before_own
  own_last =
      let xs : List Opening = parts_openings nothing_declared p.parts in
      let ys : List Opening = routine_openings (program_system p) (declared p).scope p.routines in
      let o : Opening = initial_opening (program_system p) (own_meaning (declared p) p) in
      let same : (xs ++ ys) ++ o ∷ [] ≡ openings_of p = append_assoc xs ys (o ∷ []) in
      let x = length-append (xs ++ ys) (o ∷ []) in
      let less : length (xs ++ ys) < length ((xs ++ ys) ++ o ∷ []) = omega (arith, x) in
      (subst (λ (os : List Opening). length (xs ++ ys) < length os) same less, ap (meaning_in (initial_meaning (own_meaning (declared p) p))) (subst (λ (os : List Opening). slice_get os (length (xs ++ ys)) ≡ Some o) same (slice_end (xs ++ ys) o)))

  get_less : (os : List Opening) (n : ℕ) (o : Opening) → slice_get os n ≡ Some o → n < length os
  get_less (q ∷ os) zero o e = omega arith
  get_less (q ∷ os) (suc n) o e = let h = get_less os n o e in omega (arith, h)
  get_less [] n o e = absurd (cc)

  -- the meaning of each number is that of one of the openings
  pub some_opening : (n : ℕ) → (k : ℕ) × (k < length (openings_of p)) × (meaning_at p k ≡ meaning_at p n)
  some_opening n = go (slice_get (openings_of p) n) refl
    where
      go : (q : Option Opening) → slice_get (openings_of p) n ≡ q → (k : ℕ) × (k < length (openings_of p)) × (meaning_at p k ≡ meaning_at p n)
      go (Some o) e = (n, get_less (openings_of p) n o e, refl)
      go None e = (length before_own, own_last.0, own_last.1 ∙ sym (ap (meaning_in (initial_meaning (own_meaning (declared p) p))) e))

  pub known_law : (n : ℕ) → KnownFor t (meaning_at p n)
  known_law n =
      let w = some_opening n in
      let r : KnownAmong (openings_of p) w.0 = all_among w.0 w.1 in
      subst (KnownFor t) (sym (ap (meaning_in (initial_meaning (own_meaning (declared p) p))) r.is) ∙ w.2) r.known

  -- ---- numbers of system types

  definition_count : (d : Declared) (n : SystemDefinition) (v : Definition) (rest : List ℕ) → length (definition_in d n v).systems + length rest ≡ length d.systems + length (definition_types v rest)
  definition_count d n (type_definition t) rest = refl
  definition_count d n (system_definition y) rest = (let e = length-append d.systems (system_in (seen_inside d.scope) y ∷ []) in omega (arith, e))

  definitions_count : (d : Declared) (ns : List SystemDefinition) (rest : List ℕ) → length (definitions_in d ns).systems + length rest ≡ length d.systems + length (all_tokens (λ (c : SystemDefinition). definition_types c.value) ns rest)
  definitions_count d [] rest = refl
  definitions_count d (n ∷ ns) rest = definitions_count (definition_in d n n.value) ns rest ∙ definition_count d n n.value (all_tokens (λ (c : SystemDefinition). definition_types c.value) ns rest)

  part_count : (d : Declared) (q : ProgramPart) (rest : List ℕ) → length (program_part_in d q).systems + length rest ≡ length d.systems + length (program_part_types q rest)
  part_count d (program_types at ns) rest = definitions_count d ns rest
  part_count d _ rest = refl

  parts_count : (d : Declared) (qs : List ProgramPart) (rest : List ℕ) → length (program_parts_in d qs).systems + length rest ≡ length d.systems + length (all_tokens program_part_types qs rest)
  parts_count d [] rest = refl
  parts_count d (q ∷ qs) rest = parts_count (program_part_in d q) qs rest ∙ part_count d q (all_tokens program_part_types qs rest)

  token_past : (other : ℕ) (ks : List ℕ) (n : ℕ) → length ks ≤ n → token_in other ks n ≡ other
  token_past other [] n le = refl
  token_past other (k ∷ ks) zero le = absurd (omega (arith, le))
  token_past other (k ∷ ks) (suc n) le = token_past other ks n (omega (arith, le))

  -- what is written at a token of its own is a system type
  pub number_below : (n : ℕ) → ((j : ℕ) → (tokens_of p).systems j ≡ (tokens_of p).systems n → j ≡ n) → n ≤ program_system p
  number_below n only = go (nat_le n (program_system p)) refl
    where
      ks : List ℕ
      ks = all_tokens program_part_types p.parts (p.period ∷ [])

      count : length ks ≡ suc (program_system p)
      count = (let e = parts_count nothing_declared p.parts (p.period ∷ []) in let z : length (p.period ∷ []) ≡ 1 = refl in let a : length nothing_declared.systems ≡ 0 = refl in omega (arith, e, z, a))

      go : (b : Bool) → nat_le n (program_system p) ≡ b → n ≤ program_system p
      go true e = leb-true n (program_system p) e
      go false e =
          let more = leb-false n (program_system p) e in
          let far : length ks ≤ n = (let c = count in omega (arith, more, c)) in
          let bad : suc n ≡ n = only (suc n) (token_past p.period ks (suc n) (omega (arith, far)) ∙ sym (token_past p.period ks n far)) in
          absurd (omega (arith, bad))

  -- ---- constants of enumerations

  names_length : (e : Enumerated) → length (names_of e.names) ≡ length e.names
  names_length e = length-map e.names (λ i. i.name)

  -- the constants up to those of an enumeration are no more than the tokens
  enough : (total high : ℕ) (es : List Enumerated) (at : ℕ) → AreInOrder total high es 0 → before_among at es + length (constants_among at es) ≤ high
  enough total high [] at h = omega arith
  enough total high (e ∷ es) at h = go (e.at == at) refl (nat_eq at e.at) refl (enough total h.after es at h.others)
    where
      below : h.here ≤ high
      below = h.below

      room : h.after + length e.names < h.here
      room = h.names

      go : (b : Bool) → (e.at == at) ≡ b → (c : Bool) → nat_eq at e.at ≡ c → before_among at es + length (constants_among at es) ≤ h.after → (if b then 0 else length e.names + before_among at es) + length (if c then names_of e.names else constants_among at es) ≤ high
      go true f true g rest = (let n = names_length e in omega (arith, n, below, room))
      go false f false g rest = omega (arith, rest, below, room)
      go true f false g rest = absurd (eqb-false at e.at g (sym (eqb-true e.at at f)))
      go false f true g rest = absurd (eqb-false e.at at f (sym (eqb-true at e.at g)))

  pub few_constants : (at : ℕ) → constants_before p at + (length ((tokens_of p).constants at) - 1) < 65536
  few_constants at =
      let total : ℕ = length (spell p) in
      let few : total ≤ 20000 = read_few p read in
      let h = enough total total (enumerations_of p) at (program_ordered total p read.proper.indexed) in
      omega (arith, few, h)
