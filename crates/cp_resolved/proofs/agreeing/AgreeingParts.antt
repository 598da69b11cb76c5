-- Declarations that break no rule: what they leave agrees with the scope that they leave.
use Rattle.std.proofs.Common.{◌≡◌, ℕ, Bool, true, false, ◌&&◌, List, [], ◌∷◌, ◌++◌, Option, Some, None, Ok, is_some, refl, sym, ap, subst, ◌∙◌}
use Rattle.cp_resolved.proofs.Words.{Identifier, SystemKind, Program, ConstantDefinition, TypeDefinition, VariableGroup, Part, ValueType, Meaning, Judged, ◌>>=◌, faults}
use Rattle.cp_resolved.proofs.Words.{ConstantNumber, Spot, Typed, typed, Name, Ty, FieldTypes, is_seen, Block, in_type, in_part, each_in, Each, IsSmallConstant}
use Rattle.cp_resolved.proofs.Words.{IsSmallType, IsSmallPart, cells_in, are_few, is_indexed, is_free, are_free, is_standing, all_tokens, type_tokens, part_tokens}
use Rattle.cp_resolved.proofs.Words.{none_first, Tokens, TypeIs, is_plain, are_plain, MayStand}
use Rattle.cp_tree.specs.Syntax as syntax
use Rattle.cp_scope.specs.declared.types.Meaning.TheVariants as meaning
use Rattle.cp_scope.specs.Types.{is_open}
use Rattle.cp_scope.specs.Scopes.{Scope, Scopes, Shapes, is_among, add, settle}
use Rattle.cp_scope.specs.Scopes as checker
use Rattle.cp_check.specs.declared.types.Spot.TheVariants as spot
use Rattle.cp_check.specs.Constants.{constant}
use Rattle.cp_check.specs.Records.{reserve_field, reserve_fields, with_fields}
use Rattle.cp_check.specs.Declarations.{meaning_or_none, reserve_name, reserve_names, add_names, add_all, add_one, to_constant, to_kind, to_variable, constant_step, constant_steps, type_step, type_steps, variable_step, variable_steps, part_step, part_steps}
use Rattle.cp_meaning.specs.Types as named
use Rattle.cp_meaning.specs.Scopes as scopes
use Rattle.cp_meaning.specs.Declarations as meant
use Rattle.cp_resolved.proofs.agreeing.Agreeing.{Appends, appends_none, appends_same, appends_then, Sound, good_sound, none_left, none_right, More, more_same, more_trans}
use Rattle.cp_resolved.proofs.agreeing.AgreeingNames.{W, New, Agree, sees, agree_same, agree_settled, agree_added}
use Rattle.cp_resolved.proofs.agreeing.AgreeingConstants.{NumberIs, constant_number_of}
use Rattle.cp_resolved.proofs.agreeing.AgreeingTypes.{standing_at, IsFew, TypedAs}
use Rattle.cp_resolved.proofs.agreeing.AgreeingWritten.{each_left, each_right, type_agrees}
use Rattle.cp_resolved.proofs.declarations.Reserving.{named_all, all_filled, Pends, ReservedIn, AreAmong, AreFresh, AreOthers, one_reserved, all_reserved, pending_fresh, fresh_after, with_inner, NameReserved, name_reserved, NamesReserved, names_reserved}
use Rattle.cp_resolved.proofs.agreeing.Agreeing as agreeing
use Rattle.cp_resolved.proofs.frames.LeastCells.{right_true}

-- ---- types that are plain

two_true : (a b c d : Bool) → (a && b) ≡ true → (a ≡ true → c ≡ true) → (b ≡ true → d ≡ true) → (c && d) ≡ true
two_true true true c d h f g = ap (λ e. e && d) (f refl) ∙ g refl
two_true x y c d h f g = absurd (let bad : false ≡ true = h in cc)

mutual
  pub free_plain : (t : Ty) → is_free t ≡ true → is_plain t ≡ true
  free_plain (named.array_over r t) h = free_plain t (right_true (is_indexed r t) (is_free t) h)
  free_plain (named.record_with ts) h = all_plain ts (right_true (are_few (cells_in ts)) (are_free ts) h)
  free_plain (named.component_of n) h = h
  free_plain _ h = refl

  all_plain : (ts : FieldTypes) → are_free ts ≡ true → are_plain ts ≡ true
  all_plain named.no_field_types h = refl
  all_plain (named.more_field_types x t ts) h = two_true (is_free t) (are_free ts) (is_plain t) (are_plain ts) h (free_plain t) (all_plain ts)

pub standing_may : (t : Ty) → is_standing t ≡ true → MayStand t
standing_may (named.record_with ts) h = free_plain (named.record_with ts) h
standing_may (named.component_of n) h = tt
standing_may (named.array_over r (named.component_of n)) h = tt
standing_may (named.array_over r (named.array_over q t)) h = free_plain (named.array_over q t) (right_true (is_indexed r (named.array_over q t)) (is_free (named.array_over q t)) h)
standing_may (named.array_over r (named.record_with ts)) h = free_plain (named.record_with ts) (right_true (is_indexed r (named.record_with ts)) (is_free (named.record_with ts)) h)
standing_may _ h = refl

module _ (tokens : Tokens) (p : Program) where
  -- from scopes to those after declarations
  pub record StepResult (b : Bool) (but : Option Name) (s t : Scopes) (m below : scopes.Scope) (ks : List ℕ) : Type 0 where
    pub agree : Agree tokens p b but t m below ks
    pub outer : t.outer ≡ s.outer
    pub settled : t.inner.pending ≡ []
    pub more : More s.shapes t.shapes
    pub appends : Appends s.inner.names t.inner.names

  pub step_same : (b : Bool) (but : Option Name) (s : Scopes) (m below : scopes.Scope) (ks : List ℕ) → s.inner.pending ≡ [] → Agree tokens p b but s m below ks → StepResult b but s s m below ks
  step_same b but s m below ks e h = record { agree = h; outer = refl; settled = e; more = more_same s.shapes; appends = appends_same s.inner.names }

  pub step_then : (b : Bool) (but : Option Name) (s t u : Scopes) (m k below : scopes.Scope) (js ks : List ℕ) → StepResult b but s t m below js → StepResult b but t u k below ks → StepResult b but s u k below ks
  step_then b but s t u m k below js ks h g = record { agree = g.agree; outer = g.outer ∙ h.outer; settled = g.settled; more = more_trans s.shapes t.shapes u.shapes h.more g.more; appends = appends_then s.inner.names t.inner.names u.inner.names h.appends g.appends }

  -- ---- names that are being declared

  pub record NamesResult (b : Bool) (but : Option Name) (s t : Scopes) (ns : List Identifier) (m below : scopes.Scope) (ks : List ℕ) : Type 0 where
    pub agree : Agree tokens p b but t m below ks
    pub outer : t.outer ≡ s.outer
    pub shapes : t.shapes ≡ s.shapes
    pub reserved : ReservedIn s.inner t.inner ns

  no_pending : (c : Scope) → c.pending ≡ [] → Pends c
  no_pending c h x e = absurd (let bad : false ≡ true = sym (ap (is_among x) h) ∙ e in cc)

  inner_result : (b : Bool) (but : Option Name) (s : Scopes) (c : Scope) (ns : List Identifier) (m below : scopes.Scope) (ks : List ℕ) → ReservedIn s.inner c ns → Agree tokens p b but s m below ks → NamesResult b but s (with_inner s c) ns m below ks
  inner_result b but s c ns m below ks r h = record { agree = agree_same tokens p b but s (with_inner s c) m below ks refl r.names r.sealed refl h; outer = refl; shapes = refl; reserved = r }

  pub name_result : (b : Bool) (but : Option Name) (s : Scopes) (n : Identifier) (m below : scopes.Scope) (ks : List ℕ) → (reserve_name s n).faults ≡ [] → s.inner.pending ≡ [] → Agree tokens p b but s m below ks → NamesResult b but s (reserve_name s n).scopes (n ∷ []) m below ks
  name_result b but s n m below ks e empty h =
      let r : NameReserved s n = name_reserved s n e in
      subst (λ (t : Scopes). NamesResult b but s t (n ∷ []) m below ks) (sym r.is) (inner_result b but s (reserve_field s.inner n).fields (n ∷ []) m below ks (one_reserved s.inner n r.faults (no_pending s.inner empty)) h)

  pub names_result : (b : Bool) (but : Option Name) (s : Scopes) (ns : List Identifier) (m below : scopes.Scope) (ks : List ℕ) → (reserve_names s ns).faults ≡ [] → s.inner.pending ≡ [] → Agree tokens p b but s m below ks → NamesResult b but s (reserve_names s ns).scopes ns m below ks
  names_result b but s ns m below ks e empty h =
      let r : NamesReserved s ns = names_reserved s ns e in
      subst (λ (t : Scopes). NamesResult b but s t ns m below ks) (sym r.is) (inner_result b but s (reserve_fields s.inner ns).fields ns m below ks (all_reserved s.inner ns r.faults (no_pending s.inner empty)) h)

  -- ---- names that are declared

  pub one_declared : (b : Bool) (but : Option Name) (s t : Scopes) (n : Identifier) (m below : scopes.Scope) (ks : List ℕ) (c : Meaning) (d : scopes.Meaning) → is_some (checker.find n.name t.inner.names) ≡ false → (b ≡ true → is_open c ≡ is_seen d) → New tokens (add t n.name (Some c)) n.name c d →
      t.outer ≡ s.outer → More s.shapes t.shapes → Appends s.inner.names t.inner.names → Agree tokens p b but t m below ks → StepResult b but s (add_one t n (Some c)) ((n.name, d) ∷ m) below ks
  unfolding add_one settle add
  one_declared b but s t n m below ks c d fresh same new outer more longer h =
      record { agree = agree_settled tokens p b but (add t n.name (Some c)) ((n.name, d) ∷ m) below ks (agree_added tokens p b but t m below ks n.name c d fresh same new h); outer = outer; settled = refl; more = more; appends = appends_then s.inner.names t.inner.names (add t n.name (Some c)).inner.names longer ((n.name, Some c) ∷ [], ap (λ (e : Scope). e.names) (agreeing.new_names t.inner n.name (Some c) fresh)) }

  record Added (b : Bool) (but : Option Name) (t u : Scopes) (m below : scopes.Scope) (ks : List ℕ) : Type 0 where
    pub agree : Agree tokens p b but u m below ks
    pub outer : u.outer ≡ t.outer
    pub shapes : u.shapes ≡ t.shapes

  names_of_add : (t : Scopes) (n : Name) (o : Option Meaning) → is_some (checker.find n t.inner.names) ≡ false → (add t n o).inner.names ≡ t.inner.names ++ (n, o) ∷ []
  unfolding add
  names_of_add t n o h = ap (λ (c : Scope). c.names) (agreeing.new_names t.inner n o h)

  names_added : (b : Bool) (but : Option Name) (t : Scopes) (ns : List Identifier) (m below : scopes.Scope) (ks : List ℕ) (c : Meaning) (d : scopes.Meaning) → AreFresh ns t.inner.names → AreOthers ns → (b ≡ true → is_open c ≡ is_seen d) → ((u : Scopes) → u.shapes ≡ t.shapes → (n : Name) → New tokens u n c d) →
      Agree tokens p b but t m below ks → Added b but t (add_names t ns (Some c)) (meant.with_names (meant.names_of ns) d m) below ks
  unfolding add_names add
  names_added b but t [] m below ks c d fresh others same new h = record { agree = h; outer = refl; shapes = refl }
  names_added b but t (n ∷ ns) m below ks c d fresh others same new h =
      let u : Scopes = add t n.name (Some c) in
      let later : AreFresh ns u.inner.names = subst (AreFresh ns) (sym (names_of_add t n.name (Some c) fresh.0)) (fresh_after ns n.name t.inner.names (Some c) others.0 fresh.1) in
      let r : Added b but u (add_names u ns (Some c)) (meant.with_names (meant.names_of ns) d ((n.name, d) ∷ m)) below ks =
      names_added b but u ns ((n.name, d) ∷ m) below ks c d later others.1 same new (agree_added tokens p b but t m below ks n.name c d fresh.0 same (new u refl n.name) h) in
      record { agree = r.agree; outer = r.outer; shapes = r.shapes }

  filled_names : (t : Scopes) (ns : List Identifier) (o : Option Meaning) → (add_names t ns o).inner ≡ with_fields t.inner ns o
  unfolding add_names add with_fields
  filled_names t [] o = refl
  filled_names t (n ∷ ns) o = filled_names (add t n.name o) ns o

  pub all_named : (t : Scopes) (ns : List Identifier) (o : Option Meaning) → AreFresh ns t.inner.names → AreOthers ns → (add_names t ns o).inner.names ≡ t.inner.names ++ named_all ns o
  all_named t ns o fresh others = ap (λ (c : Scope). c.names) (filled_names t ns o) ∙ (all_filled t.inner ns o fresh others).names

  pub all_declared : (b : Bool) (but : Option Name) (s t : Scopes) (ns : List Identifier) (m below : scopes.Scope) (ks : List ℕ) (c : Meaning) (d : scopes.Meaning) → AreFresh ns t.inner.names → AreOthers ns → (b ≡ true → is_open c ≡ is_seen d) → ((u : Scopes) → u.shapes ≡ t.shapes → (n : Name) → New tokens u n c d) →
      t.outer ≡ s.outer → More s.shapes t.shapes → Appends s.inner.names t.inner.names → Agree tokens p b but t m below ks → StepResult b but s (add_all t ns (Some c)) (meant.with_names (meant.names_of ns) d m) below ks
  unfolding add_all settle
  all_declared b but s t ns m below ks c d fresh others same new outer more longer h =
      let r : Added b but t (add_names t ns (Some c)) (meant.with_names (meant.names_of ns) d m) below ks = names_added b but t ns m below ks c d fresh others same new h in
      record {
        agree = agree_settled tokens p b but (add_names t ns (Some c)) (meant.with_names (meant.names_of ns) d m) below ks r.agree;
        outer = r.outer ∙ outer;
        settled = refl;
        more = λ k e g. ap (checker.shape_in k) r.shapes ∙ more k e g;
        appends = appends_then s.inner.names t.inner.names (add_names t ns (Some c)).inner.names longer (named_all ns (Some c), all_named t ns (Some c) fresh others);
      }

  -- ---- constants

  constant_new : (u : Scopes) (n : Name) (q : named.Base × _) (k : ConstantNumber) → NumberIs tokens q k → New tokens u n (meaning.Constant k.base k.value) (scopes.constant_meaning q.0 q.1)
  constant_new u n q k h = record { means = λ r. (h.base, h.value, h.within); marked = tt; there = tt; fit = h.small }

  one_fresh : (t : Scopes) (n : Identifier) (ms : List Name) → t.inner.pending ≡ ms → Pends t.inner → AreAmong (n ∷ []) ms → is_some (checker.find n.name t.inner.names) ≡ false
  one_fresh t n ms e h a = h n.name (ap (is_among n.name) e ∙ a.0)

  constant_agrees : (b : Bool) (s : Scopes) (m below : scopes.Scope) (ks : List ℕ) (d : ConstantDefinition) → (constant_step s d).faults ≡ [] → IsSmallConstant d.value.kind → s.inner.pending ≡ [] → Agree tokens p b None s m below ks →
      StepResult b None s (constant_step s d).scopes ((d.name.name, scopes.constant_meaning (meant.constant_of m d.value).0 (meant.constant_of m d.value).1) ∷ m) below ks
  unfolding constant_step
  constant_agrees b s m below ks d e small empty h =
      let t : Scopes = (reserve_name s d.name).scopes in
      let r : NamesResult b None s t (d.name ∷ []) m below ks = name_result b None s d.name m below ks (none_left (reserve_name s d.name).faults (faults (constant t d.value >>= to_constant)) e) empty h in
      let n : Sound (NumberIs tokens (meant.constant_of m d.value)) (constant t d.value) =
      good_sound (NumberIs tokens (meant.constant_of m d.value)) (constant t d.value) (constant_number_of tokens t m d.value small (λ x. sees tokens p b None t m below ks r.agree x tt)) (none_first (constant t d.value) to_constant (none_right (reserve_name s d.name).faults (faults (constant t d.value >>= to_constant)) e)) in
      subst (λ (j : Judged ConstantNumber). StepResult b None s (add_one t d.name (meaning_or_none (j >>= to_constant))) ((d.name.name, scopes.constant_meaning (meant.constant_of m d.value).0 (meant.constant_of m d.value).1) ∷ m) below ks) (sym n.is)
      (one_declared b None s t d.name m below ks (meaning.Constant n.value.base n.value.value) (scopes.constant_meaning (meant.constant_of m d.value).0 (meant.constant_of m d.value).1)
      (one_fresh t d.name t.inner.pending refl r.reserved.pends r.reserved.all) (λ g. refl) (constant_new (add t d.name.name (Some (meaning.Constant n.value.base n.value.value))) d.name.name (meant.constant_of m d.value) n.value n.holds)
      r.outer (λ k g i. ap (checker.shape_in k) r.shapes ∙ i) (appends_none s.inner.names t.inner.names r.reserved.names) r.agree)

  pub constants_agree : (b : Bool) (s : Scopes) (m below : scopes.Scope) (ks : List ℕ) (ds : List ConstantDefinition) → (constant_steps s ds).faults ≡ [] → Each (λ d. IsSmallConstant d.value.kind) ds → s.inner.pending ≡ [] → Agree tokens p b None s m below ks →
      StepResult b None s (constant_steps s ds).scopes (meant.constants_in m ds) below ks
  unfolding constant_steps
  constants_agree b s m below ks [] e small empty h = step_same b None s m below ks empty h
  constants_agree b s m below ks (d ∷ ds) e small empty h =
      let t : Scopes = (constant_step s d).scopes in
      let k : scopes.Scope = (d.name.name, scopes.constant_meaning (meant.constant_of m d.value).0 (meant.constant_of m d.value).1) ∷ m in
      let r : StepResult b None s t k below ks = constant_agrees b s m below ks d (none_left (constant_step s d).faults (constant_steps t ds).faults e) small.0 empty h in
      step_then b None s t (constant_steps t ds).scopes k (meant.constants_in k ds) below ks ks r (constants_agree b t k below ks ds (none_right (constant_step s d).faults (constant_steps t ds).faults e) small.1 r.settled r.agree)

  -- ---- types

  -- after the names that are being declared a type is written
  pub record Reached (b : Bool) (s : Scopes) (ns : List Identifier) (m below : scopes.Scope) (ks : List ℕ) (q : Spot) (t : Typed) (u : Ty × scopes.Scope) : Type 0 where
    pub value : ValueType
    pub is : t.type ≡ Ok value
    pub typed : TypedAs tokens t.scopes.shapes q u.0 value
    pub agree : Agree tokens p b None t.scopes u.1 below ks
    pub outer : t.scopes.outer ≡ s.outer
    pub more : More s.shapes t.scopes.shapes
    pub appends : Appends s.inner.names t.scopes.inner.names
    pub fresh : AreFresh ns t.scopes.inner.names
    pub others : AreOthers ns

  pub type_reached : (b : Bool) (s a : Scopes) (ns : List Identifier) (m below : scopes.Scope) (ks : List ℕ) (q : Spot) (t : syntax.TypeTerm) → NamesResult b None s a ns m below (type_tokens t ks) → faults (typed a q t).type ≡ [] → IsSmallType t → Each (IsFew tokens) (in_type t) → Reached b s ns m below ks q (typed a q t) (meant.type_in m t)
  type_reached b s a ns m below ks q t n e small few =
      let r = type_agrees tokens p b a m below ks q t e small few n.reserved.pends n.agree in
      record {
        value = r.value;
        is = r.is;
        typed = r.typed;
        agree = r.agree;
        outer = r.outer ∙ n.outer;
        more = λ k d g. r.more k d (ap (checker.shape_in k) n.shapes ∙ g);
        appends = appends_then s.inner.names a.inner.names (typed a q t).scopes.inner.names (appends_none s.inner.names a.inner.names n.reserved.names) r.appends;
        fresh = pending_fresh (typed a q t).scopes.inner ns a.inner.pending (λ x g. r.pends x (ap (is_among x) r.pending ∙ g)) n.reserved.all;
        others = n.reserved.others;
      }

  kind_new : (u : Scopes) (n : Name) (t : Ty) (v : ValueType) → TypeIs (W tokens u.shapes) t v → is_standing t ≡ true → New tokens u n (meaning.Kind v) (scopes.type_meaning t)
  kind_new u n t v h g = record { means = λ r. h; marked = tt; there = tt; fit = g }

  -- a name for a type that was written
  pub kind_declared : (b : Bool) (s : Scopes) (n : Identifier) (t : Typed) (m below : scopes.Scope) (ks : List ℕ) (u : Ty) (v : ValueType) → t.type ≡ Ok v → TypeIs (W tokens t.scopes.shapes) u v → is_standing u ≡ true → is_some (checker.find n.name t.scopes.inner.names) ≡ false →
      t.scopes.outer ≡ s.outer → More s.shapes t.scopes.shapes → Appends s.inner.names t.scopes.inner.names → Agree tokens p b None t.scopes m below ks → StepResult b None s (add_one t.scopes n (meaning_or_none (t.type >>= to_kind))) ((n.name, scopes.type_meaning u) ∷ m) below ks
  unfolding add
  kind_declared b s n t m below ks u v is h g fresh outer more longer agree =
      subst (λ (j : Judged ValueType). StepResult b None s (add_one t.scopes n (meaning_or_none (j >>= to_kind))) ((n.name, scopes.type_meaning u) ∷ m) below ks) (sym is)
      (one_declared b None s t.scopes n m below ks (meaning.Kind v) (scopes.type_meaning u) fresh (λ e. refl) (kind_new (add t.scopes n.name (Some (meaning.Kind v))) n.name u v h g) outer more longer agree)

  type_step_agrees : (b : Bool) (s : Scopes) (m below : scopes.Scope) (ks : List ℕ) (d : TypeDefinition) → (type_step s d).faults ≡ [] → IsSmallType d.value → Each (IsFew tokens) (in_type d.value) → s.inner.pending ≡ [] → Agree tokens p b None s m below (type_tokens d.value ks) →
      StepResult b None s (type_step s d).scopes ((d.name.name, scopes.type_meaning (meant.type_in m d.value).0) ∷ (meant.type_in m d.value).1) below ks
  unfolding type_step
  type_step_agrees b s m below ks d e small few empty h =
      let a : Scopes = (reserve_name s d.name).scopes in
      let t : Typed = typed a spot.Definition d.value in
      let r = type_reached b s a (d.name ∷ []) m below ks spot.Definition d.value (name_result b None s d.name m below (type_tokens d.value ks) (none_left (reserve_name s d.name).faults (faults (t.type >>= to_kind)) e) empty h)
      (none_first t.type to_kind (none_right (reserve_name s d.name).faults (faults (t.type >>= to_kind)) e)) small few in
      kind_declared b s d.name t (meant.type_in m d.value).1 below ks (meant.type_in m d.value).0 r.value r.is r.typed.belongs (standing_at spot.Definition (meant.type_in m d.value).0 r.typed.stands) r.fresh.0 r.outer r.more r.appends r.agree

  pub types_agree : (b : Bool) (s : Scopes) (m below : scopes.Scope) (ks : List ℕ) (ds : List TypeDefinition) → (type_steps s ds).faults ≡ [] → Each (λ d. IsSmallType d.value) ds → Each (IsFew tokens) (each_in (λ d. in_type d.value) ds) → s.inner.pending ≡ [] → Agree tokens p b None s m below (all_tokens (λ d. type_tokens d.value) ds ks) →
      StepResult b None s (type_steps s ds).scopes (meant.types_in m ds) below ks
  unfolding type_steps
  types_agree b s m below ks [] e small few empty h = step_same b None s m below ks empty h
  types_agree b s m below ks (d ∷ ds) e small few empty h =
      let t : Scopes = (type_step s d).scopes in
      let js : List ℕ = all_tokens (λ (c : TypeDefinition). type_tokens c.value) ds ks in
      let k : scopes.Scope = (d.name.name, scopes.type_meaning (meant.type_in m d.value).0) ∷ (meant.type_in m d.value).1 in
      let r : StepResult b None s t k below js = type_step_agrees b s m below js d (none_left (type_step s d).faults (type_steps t ds).faults e) small.0 (each_left (IsFew tokens) (in_type d.value) (each_in (λ (c : TypeDefinition). in_type c.value) ds) few) empty h in
      step_then b None s t (type_steps t ds).scopes k (meant.types_in k ds) below js ks r
      (types_agree b t k below ks ds (none_right (type_step s d).faults (type_steps t ds).faults e) small.1 (each_right (IsFew tokens) (in_type d.value) (each_in (λ (c : TypeDefinition). in_type c.value) ds) few) r.settled r.agree)

  -- ---- variables

  -- what a variable of a type means where it stands
  pub record Kind (b : Bool) (q : Spot) (kind : Ty → scopes.Meaning) : Type 0 where
    pub new : (u : Scopes) (t : Ty) (v : ValueType) → TypedAs tokens u.shapes q t v → (n : Name) → New tokens u n (meaning.Variable v) (kind t)
    pub hidden : b ≡ true → (t : Ty) → false ≡ is_seen (kind t)

  pub permanent_kind : (b : Bool) (o : Option SystemKind) → Kind b (spot.Permanent o) scopes.permanent_variable
  permanent_kind b o = record { new = λ u t v h n. record { means = λ r. (h.belongs, standing_may t h.stands); marked = tt; there = tt; fit = h.stands }; hidden = λ e t. refl }

  pub local_kind : Kind false spot.Other scopes.local_variable
  local_kind = record { new = λ u t v h n. record { means = λ r. (h.belongs, free_plain t h.stands); marked = tt; there = tt; fit = h.stands }; hidden = λ e. absurd (cc) }

  typed_moved : (ss ts : Shapes) (q : Spot) (t : Ty) (v : ValueType) → ts ≡ ss → TypedAs tokens ss q t v → TypedAs tokens ts q t v
  typed_moved ss ts q t v e h = subst (λ us. TypedAs tokens us q t v) (sym e) h

  pub variable_agrees : (b : Bool) (q : Spot) (kind : Ty → scopes.Meaning) → Kind b q kind → (s : Scopes) (m below : scopes.Scope) (ks : List ℕ) (g : VariableGroup) → (variable_step q s g).faults ≡ [] → IsSmallType g.variable_type → Each (IsFew tokens) (in_type g.variable_type) → s.inner.pending ≡ [] → Agree tokens p b None s m below (type_tokens g.variable_type ks) →
      StepResult b None s (variable_step q s g).scopes (meant.with_names (meant.names_of g.names) (kind (meant.type_in m g.variable_type).0) (meant.type_in m g.variable_type).1) below ks
  unfolding variable_step
  variable_agrees b q kind how s m below ks g e small few empty h =
      let a : Scopes = (reserve_names s g.names).scopes in
      let t : Typed = typed a q g.variable_type in
      let u : Ty × scopes.Scope = meant.type_in m g.variable_type in
      let r = type_reached b s a g.names m below ks q g.variable_type (names_result b None s g.names m below (type_tokens g.variable_type ks) (none_left (reserve_names s g.names).faults (faults (t.type >>= to_variable)) e) empty h)
      (none_first t.type to_variable (none_right (reserve_names s g.names).faults (faults (t.type >>= to_variable)) e)) small few in
      subst (λ (j : Judged ValueType). StepResult b None s (add_all t.scopes g.names (meaning_or_none (j >>= to_variable))) (meant.with_names (meant.names_of g.names) (kind u.0) u.1) below ks) (sym r.is)
      (all_declared b None s t.scopes g.names u.1 below ks (meaning.Variable r.value) (kind u.0) r.fresh r.others (λ i. how.hidden i u.0) (λ w i n. how.new w u.0 r.value (typed_moved t.scopes.shapes w.shapes q u.0 r.value i r.typed) n) r.outer r.more r.appends r.agree)

  pub variables_agree : (b : Bool) (q : Spot) (kind : Ty → scopes.Meaning) → Kind b q kind → (s : Scopes) (o : Block) (below : scopes.Scope) (ks : List ℕ) (gs : List VariableGroup) → (variable_steps q s gs).faults ≡ [] → Each (λ g. IsSmallType g.variable_type) gs → Each (IsFew tokens) (each_in (λ g. in_type g.variable_type) gs) → s.inner.pending ≡ [] → Agree tokens p b None s o.scope below (all_tokens (λ g. type_tokens g.variable_type) gs ks) →
      StepResult b None s (variable_steps q s gs).scopes (meant.variables_in kind o gs).scope below ks
  unfolding variable_steps
  variables_agree b q kind how s o below ks [] e small few empty h = step_same b None s o.scope below ks empty h
  variables_agree b q kind how s o below ks (g ∷ gs) e small few empty h =
      let t : Scopes = (variable_step q s g).scopes in
      let js : List ℕ = all_tokens (λ (c : VariableGroup). type_tokens c.variable_type) gs ks in
      let u : Ty × scopes.Scope = meant.type_in o.scope g.variable_type in
      let k : Block = record { variables = o.variables ++ meant.named_variables (meant.names_of g.names) u.0; scope = meant.with_names (meant.names_of g.names) (kind u.0) u.1 } in
      let r : StepResult b None s t k.scope below js = variable_agrees b q kind how s o.scope below js g (none_left (variable_step q s g).faults (variable_steps q t gs).faults e) small.0 (each_left (IsFew tokens) (in_type g.variable_type) (each_in (λ (c : VariableGroup). in_type c.variable_type) gs) few) empty h in
      step_then b None s t (variable_steps q t gs).scopes k.scope (meant.variables_in kind k gs).scope below js ks r
      (variables_agree b q kind how t k below ks gs (none_right (variable_step q s g).faults (variable_steps q t gs).faults e) small.1 (each_right (IsFew tokens) (in_type g.variable_type) (each_in (λ (c : VariableGroup). in_type c.variable_type) gs) few) r.settled r.agree)

  -- ---- parts

  pub part_agrees : (b : Bool) (q : Spot) (kind : Ty → scopes.Meaning) → Kind b q kind → (s : Scopes) (o : Block) (below : scopes.Scope) (ks : List ℕ) (d : Part) → (part_step q s d).faults ≡ [] → IsSmallPart d → Each (IsFew tokens) (in_part d) → s.inner.pending ≡ [] → Agree tokens p b None s o.scope below (part_tokens d ks) →
      StepResult b None s (part_step q s d).scopes (meant.part_in kind o d).scope below ks
  unfolding part_step
  part_agrees b q kind how s o below ks (syntax.constants at ds) e small few empty h = constants_agree b s o.scope below ks ds e small empty h
  part_agrees b q kind how s o below ks (syntax.types at ds) e small few empty h = types_agree b s o.scope below ks ds e small few empty h
  part_agrees b q kind how s o below ks (syntax.variables at gs) e small few empty h = variables_agree b q kind how s o below ks gs e small few empty h

  pub parts_agree : (b : Bool) (q : Spot) (kind : Ty → scopes.Meaning) → Kind b q kind → (s : Scopes) (o : Block) (below : scopes.Scope) (ks : List ℕ) (ds : List Part) → (part_steps q s ds).faults ≡ [] → Each IsSmallPart ds → Each (IsFew tokens) (each_in in_part ds) → s.inner.pending ≡ [] → Agree tokens p b None s o.scope below (all_tokens part_tokens ds ks) →
      StepResult b None s (part_steps q s ds).scopes (meant.parts_in kind o ds).scope below ks
  unfolding part_steps
  parts_agree b q kind how s o below ks [] e small few empty h = step_same b None s o.scope below ks empty h
  parts_agree b q kind how s o below ks (d ∷ ds) e small few empty h =
      let t : Scopes = (part_step q s d).scopes in
      let js : List ℕ = all_tokens part_tokens ds ks in
      let k : Block = meant.part_in kind o d in
      let r : StepResult b None s t k.scope below js = part_agrees b q kind how s o below js d (none_left (part_step q s d).faults (part_steps q t ds).faults e) small.0 (each_left (IsFew tokens) (in_part d) (each_in in_part ds) few) empty h in
      step_then b None s t (part_steps q t ds).scopes k.scope (meant.parts_in kind k ds).scope below js ks r
      (parts_agree b q kind how t k below ks ds (none_right (part_step q s d).faults (part_steps q t ds).faults e) small.1 (each_right (IsFew tokens) (in_part d) (each_in in_part ds) few) r.settled r.agree)
