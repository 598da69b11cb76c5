-- Names stay in step as constants and types are declared, and a written type is laid out as the type that it stands for.
use Rattle.std.proofs.Common.{◌≡◌, ◌+◌, ◌-◌, ◌<◌, ◌≤◌, ℕ, zero, suc, ℤ, pos, negsuc, neg_ℤ, Bool, true, false, if◌then◌else◌, List, [], ◌∷◌, ◌++◌, length, map, Option, Some, None, refl, sym, ap, subst, ◌∙◌, arith, append_assoc, length-append, inl, inr}
use Rattle.cp_resolved.proofs.Words.{◌⊎◌, nat_le, bytes_eq, le-leb, Identifier, Sign, Constant, ConstantKind, CellBase, CellType, LayoutMeaning, Names, Layer, as_integer}
use Rattle.cp_resolved.proofs.Words.{Ty, Scope, Enumerated, in_simple, in_type, in_groups, names_among, CellRange}
use Rattle.std.proofs.lemmas.Bool.Decides.{leb_tells}
use Rattle.std.proofs.lemmas.List.{append-nil, length-map}
use Rattle.cp_tree.specs.declared.constant.Sign.TheVariants as sign
use Rattle.cp_tree.specs.declared.constant.ConstantKind.TheVariants as constant_kind
use Rattle.cp_tree.specs.Syntax as syntax
use Rattle.cp_slots.specs.declared.place.PlaceOrigin.TheVariants as origin
use Rattle.cp_symbols.specs.declared.kinds.CellBase.TheVariants as base
use Rattle.cp_symbols.specs.declared.kinds.CellType.TheVariants as types
use Rattle.cp_symbols.specs.declared.names.LayoutMeaning.TheVariants as meaning
use Rattle.cp_symbols.specs.Kinds as symbol_kinds
use Rattle.cp_layout.specs.Kinds as kinds
use Rattle.cp_symbols.specs.Kinds.{Compounds, Compound, Field, array, record_with, cells_of, plus, times, count_of}
use Rattle.cp_layout.specs.Kinds.{Fields, array_type}
use Rattle.cp_layout.specs.Layers as layers
use Rattle.cp_layout.specs.LaidTypes as laid
use Rattle.cp_layout.specs.LaidTypes.{opposite_number, number_with_sign, with_constant, enumerate, enumeration_base, first_constant, simple_type, written_type, field_groups, field_group, fields_of_type}
use Rattle.cp_meaning.specs.Types as named
use Rattle.cp_meaning.specs.Scopes as scopes
use Rattle.cp_meaning.specs.Declarations as meant
use Rattle.cp_resolved.specs.InStep.{Numbering, base_of, range_on, TypeIs, FieldsAre, IsSmall, CellsAre, PartsAre, BoundIs, MeaningIs, InStep, FoundIs, predeclared_as}
use Rattle.cp_resolved.specs.Small.{IsSmallConstant, IsSmallSimple, IsSmallType, AreSmallGroups, AreNumbered}
use Rattle.cp_resolved.proofs.laid.Declares.{Declares, groups_declare}
use Rattle.cp_resolved.proofs.names.Steps.{bytes_turned, found_in, cells_grown, type_grown, fields_grown, names_grown}
use Rattle.cp_resolved.proofs.names.Entries.{last_entry as slice_end}

-- ---- numbers

small_natural : (n : ℕ) → n ≤ 32767 → as_integer n ≡ pos n
small_natural n h = rw (le-leb n 32767 h) refl

not_least : (n : ℕ) → n < 32767 → nat_le 32767 n ≡ false
not_least n h = go (leb_tells 32767 n)
  where
    go : ((nat_le 32767 n ≡ true) × (32767 ≤ n)) ⊎ ((nat_le 32767 n ≡ false) × (n < 32767)) → nat_le 32767 n ≡ false
    go (inl w) = absurd (omega (arith, w.1, h))
    go (inr w) = w.0

opposite : (z : ℤ) → IsSmall z → (opposite_number z ≡ neg_ℤ z) × IsSmall (neg_ℤ z)
opposite (pos zero) h = (refl, h)
opposite (pos (suc n)) h = (refl, omega (arith, h))
opposite (negsuc n) h = (rw (not_least n h) refl, omega (arith, h))

zero_signed : (o : Option Sign) → meant.signed o (pos 0) ≡ pos 0
zero_signed (Some sign.Plus) = refl
zero_signed _ = refl

sign_same : (o : Option Sign) (z : ℤ) → IsSmall z → (number_with_sign o z ≡ meant.signed o z) × IsSmall (meant.signed o z)
sign_same (Some sign.Minus) z h = opposite z h
sign_same _ z h = (refl, h)

module _ (k : Numbering) where
  -- ---- constants

  abbrev pub ConstantIs : CellBase × ℤ → named.Base × ℤ → Type 0
  ConstantIs c d = (c ≡ (base_of k d.0, d.1)) × IsSmall d.1

  no_constant : (o : Option Sign) → ConstantIs (base.Integer, pos 0) (named.integers, meant.signed o (pos 0))
  no_constant o = rw (zero_signed o) (refl, omega arith)

  no_permanent : (ts : Compounds) (o : Option Sign) (m : LayoutMeaning) (t : Ty) → CellsAre k ts t m ⊎ (PartsAre k ts t m ⊎ BoundIs t m) → laid.constant_meant o (Some m) ≡ (base.Integer, pos 0)
  no_permanent ts o m t (inl h) = ap (λ n. laid.constant_meant o (Some n)) h.is
  no_permanent ts o m t (inr (inl h)) = ap (λ n. laid.constant_meant o (Some n)) h.is
  no_permanent ts o m t (inr (inr h)) = ap (λ n. laid.constant_meant o (Some n)) h.is

  other_constant : (o : Option Sign) (m : LayoutMeaning) → laid.constant_meant o (Some m) ≡ (base.Integer, pos 0) → ConstantIs (laid.constant_meant o (Some m)) (named.integers, meant.signed o (pos 0))
  other_constant o m h = subst (λ c. ConstantIs c (named.integers, meant.signed o (pos 0))) (sym h) (no_constant o)

  name_same : (ts : Compounds) (o : Option Sign) (p : Option LayoutMeaning) (q : Option scopes.Meaning) (s : Scope) → FoundIs k ts p q s → ConstantIs (laid.constant_meant o p) ((meant.constant_meant q).0, meant.signed o (meant.constant_meant q).1)
  name_same ts o None None s h = no_constant o
  name_same ts o (Some m) (Some (scopes.constant_meaning b z)) s h =
      (ap (λ n. laid.constant_meant o (Some n)) h.0 ∙ ap (λ w. (base_of k b, w)) (sign_same o z h.1).0, (sign_same o z h.1).1)
  name_same ts o (Some m) (Some (scopes.type_meaning t)) s h = other_constant o m (ap (λ n. laid.constant_meant o (Some n)) h.1)
  name_same ts o (Some m) (Some (scopes.local_variable t)) s h = other_constant o m (ap (λ n. laid.constant_meant o (Some n)) h.is)
  name_same ts o (Some m) (Some (scopes.permanent_variable t)) s h = other_constant o m (no_permanent ts o m t h)
  name_same ts o (Some m) (Some (scopes.routine_meaning r)) s h = other_constant o m (ap (λ n. laid.constant_meant o (Some n)) h.1)
  name_same ts o (Some m) (Some (scopes.standard_meaning q)) s h = other_constant o m (ap (λ n. laid.constant_meant o (Some n)) h)
  name_same ts o _ _ s h = absurd h

  kind_same : (ts : Compounds) (ds : Names) (s : Scope) (c : ConstantKind) → IsSmallConstant c → InStep k ts ds s → ConstantIs (laid.constant_of_kind ds c) (meant.constant_of_kind s c)
  kind_same ts ds s (constant_kind.Number o n) h i =
      (ap (λ z. (base.Integer, number_with_sign o z)) (small_natural n h) ∙ ap (λ z. (base.Integer, z)) (sign_same o (pos n) h).0, (sign_same o (pos n) h).1)
  kind_same ts ds s (constant_kind.Name o x) h i = name_same ts o (layers.find x.name ds) (scopes.find x.name s) (scopes.since x.name s) (found_in k ts x.name ds s i)
  kind_same ts ds s (constant_kind.Character c) h i = (refl, omega (arith, h))

  pub constant_same : (ts : Compounds) (ds : Names) (s : Scope) (c : Constant) → IsSmallConstant c.kind → InStep k ts ds s → ConstantIs (laid.constant_of ds c) (meant.constant_of s c)
  constant_same ts ds s c h i = kind_same ts ds s c.kind h i

  -- ---- names of types

  -- the latest types of a name, so far
  abbrev Latest : Compounds → Scope → List ℕ → Option CellType → Type 0
  Latest ts s x o = TypeIs k ts (meant.type_named s x) (laid.type_meant o)

  either_type : (b : Bool) (ts : Compounds) (t u : Ty) (v : CellType) (o : Option CellType) → TypeIs k ts t v → TypeIs k ts u (laid.type_meant o) → TypeIs k ts (if b then t else u) (laid.type_meant (if b then Some v else o))
  either_type true ts t u v o h i = h
  either_type false ts t u v o h i = i

  -- what is no type is passed over
  passed : (ts : Compounds) (s : Scope) (x n : List ℕ) (m p : LayoutMeaning) (ds : Names) → m ≡ p → layers.find_type x ((n, p) ∷ ds) ≡ layers.find_type x ds → Latest ts s x (layers.find_type x ds) → Latest ts s x (layers.find_type x ((n, m) ∷ ds))
  passed ts s x n m p ds e same h = subst (Latest ts s x) (sym (ap (λ q. layers.find_type x ((n, q) ∷ ds)) e ∙ same)) h

  passed_permanent : (ts : Compounds) (s : Scope) (x n : List ℕ) (m : LayoutMeaning) (t : Ty) (ds : Names) → CellsAre k ts t m ⊎ (PartsAre k ts t m ⊎ BoundIs t m) → Latest ts s x (layers.find_type x ds) → Latest ts s x (layers.find_type x ((n, m) ∷ ds))
  passed_permanent ts s x n m t ds (inl h) rest = passed ts s x n m (meaning.Variable (origin.Permanent h.slot) h.value_type) ds h.is refl rest
  passed_permanent ts s x n m t ds (inr (inl h)) rest = passed ts s x n m (meaning.Contained h.first h.value_type) ds h.is refl rest
  passed_permanent ts s x n m t ds (inr (inr h)) rest = passed ts s x n m (meaning.Bound h.slot h.system) ds h.is refl rest

  latest_same : (ts : Compounds) (x : List ℕ) (ds : Names) (s : Scope) → InStep k ts ds s → Latest ts s x (layers.find_type x ds)
  latest_same ts x [] [] h = refl
  latest_same ts x [] (e ∷ es) h = absurd h
  latest_same ts x (d ∷ ds) [] h = absurd h
  latest_same ts x ((n, m) ∷ ds) ((y, scopes.constant_meaning b z) ∷ es) h = passed ts es x n m (meaning.Constant (base_of k b) z) ds h.1.0 refl (latest_same ts x ds es h.2)
  latest_same ts x ((n, m) ∷ ds) ((y, scopes.type_meaning t) ∷ es) h =
      let w : bytes_eq n x ≡ bytes_eq x y = bytes_turned n x ∙ ap (bytes_eq x) h.0 in
      let there : layers.find_type x ((n, m) ∷ ds) ≡ (if bytes_eq x y then Some h.1.0 else layers.find_type x ds) = ap (λ q. layers.find_type x ((n, q) ∷ ds)) h.1.1 ∙ ap (λ b. if b then Some h.1.0 else layers.find_type x ds) w in
      subst (Latest ts ((y, scopes.type_meaning t) ∷ es) x) (sym there) (either_type (bytes_eq x y) ts t (meant.type_named es x) h.1.0 (layers.find_type x ds) h.1.2 (latest_same ts x ds es h.2))
  latest_same ts x ((n, m) ∷ ds) ((y, scopes.local_variable t) ∷ es) h = passed ts es x n m (meaning.Variable h.1.origin h.1.value_type) ds h.1.is refl (latest_same ts x ds es h.2)
  latest_same ts x ((n, m) ∷ ds) ((y, scopes.permanent_variable t) ∷ es) h = passed_permanent ts es x n m t ds h.1 (latest_same ts x ds es h.2)
  latest_same ts x ((n, m) ∷ ds) ((y, scopes.routine_meaning r) ∷ es) h = passed ts es x n m (meaning.Routine h.1.0) ds h.1.1 refl (latest_same ts x ds es h.2)
  latest_same ts x ((n, m) ∷ ds) ((y, scopes.standard_meaning q) ∷ es) h = passed ts es x n m (meaning.Predeclared (predeclared_as q)) ds h.1 refl (latest_same ts x ds es h.2)

  pub named_type_same : (l : Layer) (s : Scope) (x : List ℕ) → InStep k l.types l.names s → TypeIs k l.types (meant.type_named s x) (laid.type_of_name l x)
  named_type_same l s x h = latest_same l.types x l.names s h

  -- ---- enumerations

  -- the constants have the numbers from n on
  record Counted (l : Layer) (b : CellBase) (n : ℕ) (is : List Identifier) (s : Scope) : Type 0 where
    names : InStep k l.types (enumerate l b n is).names s
    types : (enumerate l b n is).types ≡ l.types
    constants : (enumerate l b n is).constants ≡ l.constants ++ map (λ i. i.name) is

  counted : (l : Layer) (s : Scope) (c : named.Base) (n : ℕ) (is : List Identifier) → n + length is ≤ 32768 → InStep k l.types l.names s → Counted l (base_of k c) n is (meant.with_constants c n (map (λ i. i.name) is) s)
  unfolding enumerate
  counted l s c n [] h i = record { names = i; types = refl; constants = sym (append-nil l.constants) }
  counted l s c n (x ∷ xs) h i =
      let m : Layer = with_constant l x.name (meaning.Constant (base_of k c) (as_integer n)) in
      let small : n ≤ 32767 = omega (arith, h) in
      let means : MeaningIs k l.types (meaning.Constant (base_of k c) (as_integer n)) (scopes.constant_meaning c (pos n)) ((x.name, scopes.constant_meaning c (pos n)) ∷ s) = (ap (λ z. meaning.Constant (base_of k c) z) (small_natural n small), small) in
      let rest : Counted m (base_of k c) (suc n) xs (meant.with_constants c (suc n) (map (λ i. i.name) xs) ((x.name, scopes.constant_meaning c (pos n)) ∷ s)) = counted m ((x.name, scopes.constant_meaning c (pos n)) ∷ s) c (suc n) xs (omega (arith, h)) (refl, means, i) in
      let e : suc n ≡ n + 1 = omega arith in
      let all : Counted m (base_of k c) (n + 1) xs (meant.with_constants c (suc n) (map (λ i. i.name) xs) ((x.name, scopes.constant_meaning c (pos n)) ∷ s)) = subst (λ j. Counted m (base_of k c) j xs (meant.with_constants c (suc n) (map (λ i. i.name) xs) ((x.name, scopes.constant_meaning c (pos n)) ∷ s))) e rest in
      record { names = all.names; types = all.types; constants = all.constants ∙ append_assoc l.constants (x.name ∷ []) (map (λ i. i.name) xs) }

  -- ---- types: what is laid out of one is the type, and the names after it are in step

  pub record Written (l : Layer) (x : CellType × Layer) (y : Ty × Scope) (es : List Enumerated) : Type 0 where
    pub belongs : TypeIs k x.1.types y.0 x.0
    pub names : InStep k x.1.types x.1.names y.1
    pub constants : x.1.constants ≡ l.constants ++ names_among es

  range_same : (ts : Compounds) (t : Ty) (v : CellType) → TypeIs k ts t v → laid.range_of v ≡ range_on k (named.range_of t)
  range_same ts (named.array_over s t) v h = ap laid.range_of h.is
  range_same ts (named.record_with us) v h = ap laid.range_of h.is
  range_same ts _ v h = ap laid.range_of h

  first_kept : (n : ℕ) → n ≤ 65535 → first_constant n ≡ n
  first_kept n h = rw (le-leb n 65535 h) refl

  enumeration_same : (l : Layer) (at : ℕ) (is : List Identifier) → k.firsts at ≡ length l.constants → length l.constants ≤ 65535 → length is ≤ 32768 →
      enumeration_base (length l.constants) (length is) ≡ base_of k (named.enumerated at (map (λ i. i.name) is))
  enumeration_same l at is h i j =
      let small : length is - 1 ≤ 32767 = omega (arith, j) in
      ap (λ n. base.Enumeration n (as_integer (length is - 1))) (first_kept (length l.constants) i ∙ sym h)
      ∙ ap (λ z. base.Enumeration (k.firsts at) z) (small_natural (length is - 1) small)
      ∙ ap (λ n. base.Enumeration (k.firsts at) (pos (n - 1))) (sym (length-map is (λ i. i.name)))

  enumeration_written : (l : Layer) (s : Scope) (at : ℕ) (is : List Identifier) (b : CellBase) → b ≡ base_of k (named.enumerated at (map (λ i. i.name) is)) → length is ≤ 32768 → InStep k l.types l.names s →
      Written l (symbol_kinds.values_of b, enumerate l b 0 is) (meant.simple_in s (syntax.enumeration at is)) ((let e : Enumerated = record { at = at; names = is } in e) ∷ [])
  enumeration_written l s at is b e j h =
      let c : named.Base = named.enumerated at (map (λ i. i.name) is) in
      let w : Counted l (base_of k c) 0 is (meant.with_constants c 0 (map (λ i. i.name) is) s) = counted l s c 0 is (let z : 0 + length is ≤ 32768 = omega (arith, j) in z) h in
      subst (λ b. Written l (symbol_kinds.values_of b, enumerate l b 0 is) (meant.simple_in s (syntax.enumeration at is)) ((let e : Enumerated = record { at = at; names = is } in e) ∷ [])) (sym e)
      (record {
        belongs = ap (λ n. types.Ordinal (record { base = base_of k c; low = pos 0; high = pos (n - 1) })) (length-map is (λ i. i.name));
        names = subst (λ ts. InStep k ts (enumerate l (base_of k c) 0 is).names (meant.with_constants c 0 (map (λ i. i.name) is) s)) (sym w.types) w.names;
        constants = w.constants ∙ ap (λ xs. l.constants ++ xs) (sym (append-nil (map (λ i. i.name) is)));
      })

  pub simple_written : (l : Layer) (s : Scope) (t : syntax.Simple) → IsSmallSimple t → AreNumbered k.firsts (length l.constants) (in_simple t) → InStep k l.types l.names s → Written l (simple_type l t) (meant.simple_in s t) (in_simple t)
  unfolding simple_type
  simple_written l s (syntax.type_name at x) h n i = record { belongs = named_type_same l s x i; names = i; constants = sym (append-nil l.constants) }
  simple_written l s (syntax.enumeration at is) h n i = enumeration_written l s at is (enumeration_base (length l.constants) (length is)) (enumeration_same l at is n.0 n.1 n.2) n.2 i
  simple_written l s (syntax.subrange at c d) h n i =
      let low : ConstantIs (laid.constant_of l.names c) (meant.constant_of s c) = constant_same l.types l.names s c h.0 i in
      let high : ConstantIs (laid.constant_of l.names d) (meant.constant_of s d) = constant_same l.types l.names s d h.1 i in
      record {
        belongs = ap (λ x. laid.subrange x (laid.constant_of l.names d)) low.0 ∙ ap (λ x. laid.subrange (base_of k (meant.constant_of s c).0, (meant.constant_of s c).1) x) high.0;
        names = i;
        constants = sym (append-nil l.constants);
      }

  -- ---- numbers of enumerations that follow one another

  among_append : (es fs : List Enumerated) → names_among (es ++ fs) ≡ names_among es ++ names_among fs
  among_append [] fs = refl
  among_append (e ∷ es) fs = ap (λ xs. map (λ i. i.name) e.names ++ xs) (among_append es fs) ∙ sym (append_assoc (map (λ i. i.name) e.names) (names_among es) (names_among fs))

  pub constants_trans : (a b c : List (List ℕ)) (es fs : List Enumerated) → b ≡ a ++ names_among es → c ≡ b ++ names_among fs → c ≡ a ++ names_among (es ++ fs)
  constants_trans a b c es fs h i = i ∙ ap (λ xs. xs ++ names_among fs) h ∙ append_assoc a (names_among es) (names_among fs) ∙ ap (λ xs. a ++ xs) (sym (among_append es fs))

  pub numbered_left : (n : ℕ) (es fs : List Enumerated) → AreNumbered k.firsts n (es ++ fs) → AreNumbered k.firsts n es
  numbered_left n [] fs h = tt
  numbered_left n (e ∷ es) fs h = (h.0, h.1, h.2, numbered_left (n + length e.names) es fs h.3)

  numbered_past : (n : ℕ) (es fs : List Enumerated) → AreNumbered k.firsts n (es ++ fs) → AreNumbered k.firsts (n + length (names_among es)) fs
  numbered_past n [] fs h =
      let e : n ≡ n + 0 = omega arith in
      subst (λ m. AreNumbered k.firsts m fs) e h
  numbered_past n (e ∷ es) fs h =
      let w : n + length (map (λ i. i.name) e.names ++ names_among es) ≡ n + length e.names + length (names_among es) = omega (arith, length-append (map (λ i. i.name) e.names) (names_among es), length-map e.names (λ i. i.name)) in
      subst (λ m. AreNumbered k.firsts m fs) (sym w) (numbered_past (n + length e.names) es fs h.3)

  pub numbered_after : (a b : List (List ℕ)) (es fs : List Enumerated) → b ≡ a ++ names_among es → AreNumbered k.firsts (length a) (es ++ fs) → AreNumbered k.firsts (length b) fs
  numbered_after a b es fs h i = subst (λ m. AreNumbered k.firsts m fs) (sym (ap length h ∙ length-append a (names_among es))) (numbered_past (length a) es fs i)

  -- ---- fields

  record Fielded (ts : Compounds) (r q : Fields) (us : named.FieldTypes) (tail : List Field) (end : ℕ) : Type 0 where
    new : List Field
    fields : q.fields ≡ r.fields ++ new
    each : FieldsAre k ts us (new ++ tail) r.cells end

  of_type : (ts : Compounds) (is : List Identifier) (t : Ty) (v : CellType) (n : ℕ) (r : Fields) (us : named.FieldTypes) (tail : List Field) (end : ℕ) → TypeIs k ts t v → cells_of ts v ≡ n →
      FieldsAre k ts us tail (fields_of_type r is v n).cells end → Fielded ts r (fields_of_type r is v n) (meant.more_of_type is t us) tail end
  unfolding fields_of_type
  of_type ts [] t v n r us tail end h c i = record { new = []; fields = sym (append-nil r.fields); each = i }
  of_type ts (x ∷ xs) t v n r us tail end h c i =
      let q : Fields = kinds.with_field r x.name v n in
      let f : Field = record { name = x.name; value_type = v; offset = r.cells } in
      let w : Fielded ts q (fields_of_type q xs v n) (meant.more_of_type xs t us) tail end = of_type ts xs t v n q us tail end h c i in
      record {
        new = f ∷ w.new;
        fields = w.fields ∙ append_assoc r.fields (f ∷ []) w.new;
        each = record { value_type = v; rest = w.new ++ tail; first = refl; belongs = h; others = subst (λ m. FieldsAre k ts (meant.more_of_type xs t us) (w.new ++ tail) (plus r.cells m) end) (sym c) w.each };
      }

  -- ---- all types

  record Grouped (l : Layer) (r : Fields) (x : Fields × Layer) (y : named.FieldTypes × Scope) (es : List Enumerated) : Type 0 where
    new : List Field
    fields : x.0.fields ≡ r.fields ++ new
    each : FieldsAre k x.1.types y.0 new r.cells x.0.cells
    names : InStep k x.1.types x.1.names y.1
    constants : x.1.constants ≡ l.constants ++ names_among es

  abbrev array_shape : CellType → CellRange → ℕ → Option Compound
  array_shape v r n = Some (array (record { index = r; element = v; element_cells = n; cells = times n (count_of r) }))

  array_written : (l : Layer) (s : Scope) (y : CellType × Layer) (r : CellRange) (index : named.Range) (t : Ty) (es : List Enumerated) → r ≡ range_on k index → Written l y (t, s) es → Written l (laid.with_array_type y.1 r y.0) (named.array_over index t, s) es
  array_written l s y r index t es h w =
      let more : Compounds = array (array_type y.1.types r y.0) ∷ [] in
      record {
        belongs = record {
          number = length y.1.types;
          is = refl;
          element = y.0;
          there = slice_end y.1.types (array (array_type y.1.types r y.0)) ∙ ap (λ q. array_shape y.0 q (cells_of y.1.types y.0)) h ∙ ap (array_shape y.0 (range_on k index)) (sym (cells_grown k y.1.types more t y.0 w.belongs));
          belongs = type_grown k y.1.types more t y.0 w.belongs;
        };
        names = names_grown k y.1.types more y.1.names s w.names;
        constants = w.constants;
      }

  record_written : (l : Layer) (x : Fields × Layer) (y : named.FieldTypes × Scope) (es : List Enumerated) → Grouped l kinds.no_fields x y es → Written l (laid.with_record_type x.1 x.0) (named.record_with y.0, y.1) es
  record_written l x y es w =
      let more : Compounds = record_with x.0.fields x.0.cells ∷ [] in
      record {
        belongs = record {
          number = length x.1.types;
          is = refl;
          fields = x.0.fields;
          cells = x.0.cells;
          there = slice_end x.1.types (record_with x.0.fields x.0.cells);
          each = fields_grown k x.1.types more y.0 x.0.fields 0 x.0.cells (subst (λ fs. FieldsAre k x.1.types y.0 fs 0 x.0.cells) (sym w.fields) w.each);
        };
        names = names_grown k x.1.types more x.1.names y.1 w.names;
        constants = w.constants;
      }

  -- one more group, before others
  with_group : (l : Layer) (s : Scope) (r : Fields) (is : List Identifier) (t : syntax.TypeTerm) (gs : syntax.FieldGroups) → Written l (written_type l t) (meant.type_in s t) (in_type t) →
      Grouped (written_type l t).1 (fields_of_type r is (written_type l t).0 (cells_of (written_type l t).1.types (written_type l t).0)) (field_groups (written_type l t).1 (fields_of_type r is (written_type l t).0 (cells_of (written_type l t).1.types (written_type l t).0)) gs) (meant.fields_in (meant.type_in s t).1 gs) (in_groups gs) →
      Grouped l r (field_groups (written_type l t).1 (fields_of_type r is (written_type l t).0 (cells_of (written_type l t).1.types (written_type l t).0)) gs) (meant.fields_in s (syntax.more_fields (syntax.fields is t) gs)) (in_type t ++ in_groups gs)
  with_group l s r is t gs w v =
      let y : CellType × Layer = written_type l t in
      let n : ℕ = cells_of y.1.types y.0 in
      let q : Fields = fields_of_type r is y.0 n in
      let z : Fields × Layer = field_groups y.1 q gs in
      let d : Declares y.1 z.1 = groups_declare y.1 q gs in
      let e : z.1.types ≡ y.1.types ++ d.types = ap (λ (j : Layer). j.types) d.same in
      let b : TypeIs k z.1.types (meant.type_in s t).0 y.0 = subst (λ ts. TypeIs k ts (meant.type_in s t).0 y.0) (sym e) (type_grown k y.1.types d.types (meant.type_in s t).0 y.0 w.belongs) in
      let c : cells_of z.1.types y.0 ≡ n = ap (λ ts. cells_of ts y.0) e ∙ cells_grown k y.1.types d.types (meant.type_in s t).0 y.0 w.belongs in
      let f : Fielded z.1.types r q (meant.more_of_type is (meant.type_in s t).0 (meant.fields_in (meant.type_in s t).1 gs).0) v.new z.0.cells = of_type z.1.types is (meant.type_in s t).0 y.0 n r (meant.fields_in (meant.type_in s t).1 gs).0 v.new z.0.cells b c v.each in
      record {
        new = f.new ++ v.new;
        fields = v.fields ∙ ap (λ fs. fs ++ v.new) f.fields ∙ append_assoc r.fields f.new v.new;
        each = f.each;
        names = v.names;
        constants = constants_trans l.constants y.1.constants z.1.constants (in_type t) (in_groups gs) w.constants v.constants;
      }

  mutual
    unfolding written_type field_groups field_group

    pub type_written : (l : Layer) (s : Scope) (t : syntax.TypeTerm) → IsSmallType t → AreNumbered k.firsts (length l.constants) (in_type t) → InStep k l.types l.names s → Written l (written_type l t) (meant.type_in s t) (in_type t)
    type_written l s (syntax.simple at t) h n i = simple_written l s t h n i
    type_written l s (syntax.array_of at t u) h n i =
        let x : CellType × Layer = simple_type l t in
        let w : Written l x (meant.simple_in s t) (in_simple t) = simple_written l s t h.0 (numbered_left (length l.constants) (in_simple t) (in_type u) n) i in
        let y : CellType × Layer = written_type x.1 u in
        let v : Written x.1 y (meant.type_in (meant.simple_in s t).1 u) (in_type u) = type_written x.1 (meant.simple_in s t).1 u h.1 (numbered_after l.constants x.1.constants (in_simple t) (in_type u) w.constants n) w.names in
        array_written l (meant.type_in (meant.simple_in s t).1 u).1 y (laid.range_of x.0) (named.range_of (meant.simple_in s t).0) (meant.type_in (meant.simple_in s t).1 u).0 (in_simple t ++ in_type u) (range_same x.1.types (meant.simple_in s t).0 x.0 w.belongs)
        (record { belongs = v.belongs; names = v.names; constants = constants_trans l.constants x.1.constants y.1.constants (in_simple t) (in_type u) w.constants v.constants })
    type_written l s (syntax.set_type at t) h n i =
        let x : CellType × Layer = simple_type l t in
        let w : Written l x (meant.simple_in s t) (in_simple t) = simple_written l s t h n i in
        record { belongs = ap types.Set (range_same x.1.types (meant.simple_in s t).0 x.0 w.belongs); names = w.names; constants = w.constants }
    type_written l s (syntax.record_of at gs b) h n i = record_written l (field_groups l kinds.no_fields gs) (meant.fields_in s gs) (in_groups gs) (groups_written l s kinds.no_fields gs h n i)

    groups_written : (l : Layer) (s : Scope) (r : Fields) (gs : syntax.FieldGroups) → AreSmallGroups gs → AreNumbered k.firsts (length l.constants) (in_groups gs) → InStep k l.types l.names s → Grouped l r (field_groups l r gs) (meant.fields_in s gs) (in_groups gs)
    groups_written l s r syntax.no_fields h n i = record { new = []; fields = sym (append-nil r.fields); each = (refl, refl); names = i; constants = sym (append-nil l.constants) }
    groups_written l s r (syntax.more_fields (syntax.fields is t) gs) h n i =
        let y : CellType × Layer = written_type l t in
        let w : Written l y (meant.type_in s t) (in_type t) = type_written l s t h.0 (numbered_left (length l.constants) (in_type t) (in_groups gs) n) i in
        let q : Fields = fields_of_type r is y.0 (cells_of y.1.types y.0) in
        with_group l s r is t gs w (groups_written y.1 (meant.type_in s t).1 q gs h.1 (numbered_after l.constants y.1.constants (in_type t) (in_groups gs) w.constants n) w.names)
