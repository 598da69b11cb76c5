-- Where names are in step with a scope of limited types, each variable begins with at most 8,192 cells. It does so where fewer names stand too.
use Rattle.std.proofs.Common.{ℕ, ◌≤◌, Bool, true, false, if◌then◌else◌, List, [], ◌∷◌, ◌++◌, length, Some, sym, ap, subst, ◌⊎◌, inl, inr, arith, le_trans}
use Rattle.cp_resolved.proofs.Words.{bytes_eq, CellType, LayoutMeaning, Compounds, least, Names, Layer, find_type, type_of_name, type_meant, Ty, Scope, Each}
use Rattle.cp_symbols.specs.declared.names.LayoutMeaning.TheVariants as meaning
use Rattle.cp_meaning.specs.Scopes as scopes
use Rattle.cp_resolved.specs.InStep.{Numbering, TypeIs, CellsAre, PartsAre, BoundIs, MeaningIs, InStep}
use Rattle.cp_resolved.specs.Limited.{IsLimited, IsLimitedMeaning, AreLimited}
use Rattle.cp_resolved.proofs.agreeing.AgreeingWritten.{each_right}
use Rattle.cp_resolved.proofs.laid.Declares.{Declares}
use Rattle.cp_resolved.proofs.counts.FewReferences.{each_weaker}
use Rattle.cp_resolved.proofs.frames.LeastLengths.{least_cells, least_more}

abbrev pub IsSmallIn : Compounds → CellType → Type 0
IsSmallIn ts v = length (least ts v) ≤ 8192

abbrev pub IsSmallMeaning : Compounds → LayoutMeaning → Type 0
IsSmallMeaning ts (meaning.Kind v) = IsSmallIn ts v
IsSmallMeaning ts (meaning.Variable o v) = IsSmallIn ts v
IsSmallMeaning ts m = Unit {0}

abbrev pub AreSmallNames : Compounds → Names → Type 0
AreSmallNames ts ns = Each (λ d. IsSmallMeaning ts d.1) ns

abbrev pub SmallNames : Layer → Type 0
SmallNames l = AreSmallNames l.types l.names

module _ (k : Numbering) (ts : Compounds) where
  small_type : (t : Ty) (v : CellType) → TypeIs k ts t v → IsLimited t → IsSmallIn ts v
  small_type t v h le = le_trans (least_cells k ts t v h) le

  permanent_small : (m : LayoutMeaning) (t : Ty) → CellsAre k ts t m ⊎ (PartsAre k ts t m ⊎ BoundIs t m) → IsLimited t → IsSmallMeaning ts m
  permanent_small m t (inl c) le = subst (IsSmallMeaning ts) (sym c.is) (small_type t c.value_type c.belongs le)
  permanent_small m t (inr (inl p)) le = subst (IsSmallMeaning ts) (sym p.is) tt
  permanent_small m t (inr (inr b)) le = subst (IsSmallMeaning ts) (sym b.is) tt

  meaning_small : (m : LayoutMeaning) (n : scopes.Meaning) (s : Scope) → MeaningIs k ts m n s → IsLimitedMeaning n → IsSmallMeaning ts m
  meaning_small m (scopes.constant_meaning b z) s h le = subst (IsSmallMeaning ts) (sym h.0) tt
  meaning_small m (scopes.type_meaning t) s h le = subst (IsSmallMeaning ts) (sym h.1) (small_type t h.0 h.2 le)
  meaning_small m (scopes.local_variable t) s h le = subst (IsSmallMeaning ts) (sym h.is) (small_type t h.value_type h.belongs le)
  meaning_small m (scopes.permanent_variable t) s h le = permanent_small m t h le
  meaning_small m (scopes.routine_meaning r) s h le = subst (IsSmallMeaning ts) (sym h.1) tt
  meaning_small m (scopes.standard_meaning q) s h le = subst (IsSmallMeaning ts) (sym h) tt

  pub small_names : (ns : Names) (s : Scope) → InStep k ts ns s → AreLimited s → AreSmallNames ts ns
  small_names [] [] h le = tt
  small_names (d ∷ ds) (e ∷ es) h le = (meaning_small d.1 e.1 (e ∷ es) h.1 le.0, small_names ds es h.2 le.1)
  small_names _ _ h le = absurd h

-- ---- fewer names

meaning_earlier : (ts more : Compounds) (m : LayoutMeaning) → IsSmallMeaning (ts ++ more) m → IsSmallMeaning ts m
meaning_earlier ts more (meaning.Kind v) h = le_trans (least_more ts more v) h
meaning_earlier ts more (meaning.Variable o v) h = le_trans (least_more ts more v) h
meaning_earlier ts more _ h = tt

pub names_earlier : (ts more : Compounds) (before ns : Names) → AreSmallNames (ts ++ more) (before ++ ns) → AreSmallNames ts ns
names_earlier ts more before ns h =
    each_weaker (λ (d : List ℕ × LayoutMeaning). IsSmallMeaning (ts ++ more) d.1) (λ (d : List ℕ × LayoutMeaning). IsSmallMeaning ts d.1) (λ d e. meaning_earlier ts more d.1 e) ns
    (each_right (λ (d : List ℕ × LayoutMeaning). IsSmallMeaning (ts ++ more) d.1) before ns h)

pub earlier : (l m : Layer) → Declares l m → SmallNames m → SmallNames l
earlier l m d h =
    names_earlier l.types d.types d.names l.names
    (subst (λ ns. AreSmallNames (l.types ++ d.types) ns) (ap (λ (j : Layer). j.names) d.same) (subst (λ ts. AreSmallNames ts m.names) (ap (λ (j : Layer). j.types) d.same) h))

-- ---- a type by its name

type_small : (ts : Compounds) (x : List ℕ) (ns : Names) → AreSmallNames ts ns → IsSmallIn ts (type_meant (find_type x ns))
unfolding least
type_small ts x [] h = omega arith
type_small ts x ((n, meaning.Kind t) ∷ ds) h = go (bytes_eq n x) (type_small ts x ds h.1)
  where
    go : (b : Bool) → IsSmallIn ts (type_meant (find_type x ds)) → IsSmallIn ts (type_meant (if b then Some t else find_type x ds))
    go true rest = h.0
    go false rest = rest
type_small ts x ((n, meaning.Constant b z) ∷ ds) h = type_small ts x ds h.1
type_small ts x ((n, meaning.Variable o v) ∷ ds) h = type_small ts x ds h.1
type_small ts x ((n, meaning.Contained i v) ∷ ds) h = type_small ts x ds h.1
type_small ts x ((n, meaning.Bound i s) ∷ ds) h = type_small ts x ds h.1
type_small ts x ((n, meaning.Routine i) ∷ ds) h = type_small ts x ds h.1
type_small ts x ((n, meaning.Predeclared q) ∷ ds) h = type_small ts x ds h.1

pub named_small : (l : Layer) (x : List ℕ) → SmallNames l → IsSmallIn l.types (type_of_name l x)
named_small l x h = type_small l.types x l.names h
