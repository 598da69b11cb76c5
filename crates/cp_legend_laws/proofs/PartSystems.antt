-- The system types of the parts of a system type are those of the components that it contains, each as often as it is contained.
use Rattle.std.proofs.Common.{◌≡◌, ℕ, zero, suc, ◌<◌, Bool, true, false, if◌then◌else◌, List, [], ◌∷◌, ◌++◌, length, map, Option, Some, None, slice_get, ◌==◌, refl, sym, ap, ◌∙◌, append_assoc, append-nil, arith}
use Rattle.cp_legend_laws.proofs.Words.{flat_map, eq-eqb, eqb-true, map-append, CellType, Contained, LayoutMeaning, Noted, array_components, components_in, components_of}
use Rattle.cp_symbols.specs.declared.kinds.ArrayType.{ArrayType}
use Rattle.cp_symbols.specs.declared.kinds.CellRange.{CellRange}
use Rattle.cp_symbols.specs.declared.kinds.CellType.TheVariants as types
use Rattle.cp_symbols.specs.declared.names.LayoutMeaning.TheVariants as meaning
use Rattle.cp_layout.specs.Kinds as kinds
use Rattle.cp_symbols.specs.Kinds.{Compound, array, count_of}
use Rattle.cp_legend.specs.Values as values
use Rattle.cp_legend.specs.Names.{Source, Part, home, elements_below, elements_of, array_parts, parts_of_type, parts_meant, parts_named, parts_of}
use Rattle.cp_legend_laws.proofs.Noting.{as_list, contents_of, all_contents}
use Rattle.cp_legend_laws.proofs.Lined.{same_home, of_home, IsBelow, AreBelow, home_contents}

-- one number again and again
unfoldable pub repeated : (count system : ℕ) → List ℕ
repeated zero n = []
repeated (suc count) n = repeated count n ++ n ∷ []

abbrev pub spread : List Contained → List ℕ
spread [] = []
spread (c ∷ cs) = repeated c.count c.system ++ spread cs

abbrev pub systems_of : List Part → List ℕ
systems_of ps = map (λ (p : Part). p.system) ps

spread_append : (cs ds : List Contained) → spread (cs ++ ds) ≡ spread cs ++ spread ds
spread_append [] ds = refl
spread_append (c ∷ cs) ds = ap (λ ns. repeated c.count c.system ++ ns) (spread_append cs ds) ∙ sym (append_assoc (repeated c.count c.system) (spread cs) (spread ds))

spread_one : (c : Contained) → spread (c ∷ []) ≡ repeated c.count c.system
spread_one c = append-nil (repeated c.count c.system)

once : (n : ℕ) → repeated 1 n ≡ n ∷ []
unfolding repeated
once n = refl

elements_systems : (names : List (List ℕ)) (x : List ℕ) (r : CellRange) (system n : ℕ) → systems_of (elements_below names x r system n) ≡ repeated n system
unfolding elements_below repeated
elements_systems names x r system zero = refl
elements_systems names x r system (suc n) = map-append (λ (p : Part). p.system) (elements_below names x r system n) _ ∙ ap (λ ns. ns ++ system ∷ []) (elements_systems names x r system n)

element_systems : (names : List (List ℕ)) (x : List ℕ) (a : ArrayType) (t : CellType) → systems_of (elements_of names x a.index t) ≡ spread (as_list (array_components a t))
element_systems names x a (types.System k) = elements_systems names x a.index k (count_of a.index) ∙ sym (spread_one (record { system = k; count = count_of a.index }))
element_systems names x a _ = refl

array_systems : (names : List (List ℕ)) (x : List ℕ) (o : Option Compound) → systems_of (array_parts names x (values.as_array o)) ≡ spread (as_list (components_in (kinds.as_array o)))
array_systems names x (Some (array a)) = element_systems names x a a.element
array_systems names x _ = refl

type_systems : (s : Source) (x : List ℕ) (t : CellType) → systems_of (parts_of_type s x t) ≡ spread (as_list (components_of s.types t))
type_systems s x (types.System k) = sym (spread_one (record { system = k; count = 1 }) ∙ once k)
type_systems s x (types.Array n) = array_systems s.constants x (slice_get s.types n)
type_systems s x _ = refl

meant_systems : (s : Source) (x : List ℕ) (m : LayoutMeaning) → systems_of (parts_meant s x m) ≡ spread (contents_of s.types m)
meant_systems s x (meaning.Contained n t) = type_systems s x t
meant_systems s x _ = refl

-- a number of a system type, or that of the program, which is behind them
pub record IsHome (s : Source) (n : ℕ) (o : Option ℕ) : Type 0 where
  pub same : (d : Noted) → IsBelow (length s.systems) d.system → (home s d == n) ≡ same_home d.system o

module _ (s : Source) (n : ℕ) (o : Option ℕ) (same : IsHome s n o) where
  named_either : (b : Bool) (d : Noted) (ds : List Noted) → systems_of (if b then parts_meant s d.name d.meaning else []) ++ spread (home_contents s.types o ds) ≡ spread (all_contents s.types (if b then d ∷ of_home o ds else of_home o ds))
  named_either true d ds = ap (λ ns. ns ++ spread (home_contents s.types o ds)) (meant_systems s d.name d.meaning) ∙ sym (spread_append (contents_of s.types d.meaning) (home_contents s.types o ds))
  named_either false d ds = refl

  each_system : (ds : List Noted) → AreBelow (length s.systems) ds → systems_of (flat_map (parts_named s n) ds) ≡ spread (home_contents s.types o ds)
  each_system [] h = refl
  each_system (d ∷ ds) h =
      map-append (λ (p : Part). p.system) (parts_named s n d) (flat_map (parts_named s n) ds)
      ∙ ap (λ ns. systems_of (parts_named s n d) ++ ns) (each_system ds h.1)
      ∙ ap (λ b. systems_of (if b then parts_meant s d.name d.meaning else []) ++ spread (home_contents s.types o ds)) (same.same d h.0)
      ∙ named_either (same_home d.system o) d ds

  pub parts_systems : AreBelow (length s.systems) s.declared → systems_of (parts_of s n) ≡ spread (home_contents s.types o s.declared)
  parts_systems h = each_system s.declared h

not_same : (m n : ℕ) → m < n → (b : Bool) → (m == n) ≡ b → b ≡ false
not_same m n h false e = refl
not_same m n h true e = absurd (let same = eqb-true m n e in omega (arith, h, same))

not_same_later : (m n : ℕ) → m < n → (b : Bool) → (n == m) ≡ b → b ≡ false
not_same_later m n h false e = refl
not_same_later m n h true e = absurd (let same = eqb-true n m e in omega (arith, h, same))

pub type_home : (s : Source) (n : ℕ) → n < length s.systems → IsHome s n (Some n)
type_home s n h = record { same = λ d below. go d d.system refl }
  where
    go : (d : Noted) (q : Option ℕ) → d.system ≡ q → (home s d == n) ≡ same_home d.system (Some n)
    go d None e = rw e (not_same_later n (length s.systems) h (length s.systems == n) refl)
    go d (Some m) e = rw e refl

pub program_home : (s : Source) → IsHome s (length s.systems) None
program_home s = record { same = λ d below. go d d.system refl below }
  where
    go : (d : Noted) (q : Option ℕ) → d.system ≡ q → IsBelow (length s.systems) q → (home s d == length s.systems) ≡ same_home d.system None
    go d None e h = rw e (eq-eqb (length s.systems) (length s.systems) refl)
    go d (Some m) e h = rw e (not_same m (length s.systems) h (m == length s.systems) refl)
