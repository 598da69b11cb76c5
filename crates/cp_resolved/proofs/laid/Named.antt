-- What names, types and system types lead to is there: the numbers of system types and routines are below how many there are.
use Rattle.std.proofs.Common.{◌≡◌, ℕ, suc, ◌+◌, ◌<◌, ◌≤◌, Bool, true, false, if◌then◌else◌, ◌&&◌, nat_le, nat_lt, List, [], ◌∷◌, drop, length, Option, Some, None, slice_get, refl, sym, subst, arith, rules}
use Rattle.cp_resolved.proofs.Words.{bytes_eq, Each, CellType, ArrayType, LayoutMeaning, initial_in, initial_of}
use Rattle.cp_symbols.specs.declared.kinds.CellType.TheVariants as types
use Rattle.cp_symbols.specs.declared.names.LayoutMeaning.TheVariants as meaning
use Rattle.cp_slots.specs.Code.{ComponentPlace, OrdinalExpression, Place}
use Rattle.cp_symbols.specs.Kinds.{Compound, array, record_with, Compounds, Field}
use Rattle.cp_layout.specs.Kinds.{array_of, as_array, field_of}
use Rattle.cp_layout.specs.Values.{Designated, a_variable, a_contained, a_component, a_routine, an_entry}
use Rattle.cp_layout.specs.Layers.{Names, find, seen_inside, with_open, is_open, Layer, Heading, System}
use Rattle.cp_layout.specs.LaidExpressions.{meaning_of, name_meaning, entry_among, entry_in, entry_of, entry_found, field_found, field_of_designated, element_found, component_of_array, component_found, element_of_designated}
use Rattle.cp_resolved.proofs.names.Entries.{there}

-- ---- this many system types and routines

-- a system type among the first
abbrev pub IsType : (systems : ℕ) → CellType → Type 0
IsType s (types.System k) = k < s
IsType s t = Unit {0}

-- a routine may be named within itself
abbrev pub IsMeaning : (systems routines : ℕ) → LayoutMeaning → Type 0
IsMeaning s r (meaning.Kind t) = IsType s t
IsMeaning s r (meaning.Contained n t) = IsType s t
IsMeaning s r (meaning.Bound n k) = k < s
IsMeaning s r (meaning.Routine n) = n ≤ r
IsMeaning s r m = Unit {0}

abbrev pub AreNames : (systems routines : ℕ) → Names → Type 0
AreNames s r ds = Each (λ d. IsMeaning s r d.1) ds

abbrev pub IsCompound : (systems : ℕ) → Compound → Type 0
IsCompound s (array a) = IsType s a.element
IsCompound s (record_with fs n) = Unit {0}

abbrev pub AreTypes : (systems : ℕ) → Compounds → Type 0
AreTypes s ts = (n : ℕ) (c : Compound) → slice_get ts n ≡ Some c → IsCompound s c

-- the initial statement of each system type is a routine
abbrev pub AreSystems : (routines : ℕ) → List System → Type 0
AreSystems r ss = (k : ℕ) (s : System) → slice_get ss k ≡ Some s → s.initial < r

pub record Named (l : Layer) : Type 0 where
  pub names : AreNames (length l.systems) (length l.routines) l.names
  pub types : AreTypes (length l.systems) l.types
  pub systems : AreSystems (length l.routines) l.systems

-- what a designator leads to
abbrev pub IsDesignated : (systems routines : ℕ) → Designated → Type 0
IsDesignated s r (a_contained n t) = IsType s t
IsDesignated s r (a_component c k) = k < s
IsDesignated s r (a_routine n) = n ≤ r
IsDesignated s r (an_entry c n) = n < r
IsDesignated s r d = Unit {0}

-- ---- more of them

pub type_more : (s t : ℕ) (v : CellType) → s ≤ t → IsType s v → IsType t v
type_more s t (types.System k) le h = omega arith
type_more s t _ le h = tt

meaning_more : (s t r q : ℕ) (m : LayoutMeaning) → s ≤ t → r ≤ q → IsMeaning s r m → IsMeaning t q m
meaning_more s t r q (meaning.Kind v) le lr h = type_more s t v le h
meaning_more s t r q (meaning.Contained n v) le lr h = type_more s t v le h
meaning_more s t r q (meaning.Bound n k) le lr h = omega arith
meaning_more s t r q (meaning.Routine n) le lr h = omega arith
meaning_more s t r q _ le lr h = tt

pub names_more : (s t r q : ℕ) (ds : Names) → s ≤ t → r ≤ q → AreNames s r ds → AreNames t q ds
names_more s t r q [] le lr h = tt
names_more s t r q (d ∷ ds) le lr h = (meaning_more s t r q d.1 le lr h.0, names_more s t r q ds le lr h.1)

compound_more : (s t : ℕ) (c : Compound) → s ≤ t → IsCompound s c → IsCompound t c
compound_more s t (array a) le h = type_more s t a.element le h
compound_more s t (record_with fs n) le h = tt

pub types_more : (s t : ℕ) (ts : Compounds) → s ≤ t → AreTypes s ts → AreTypes t ts
types_more s t ts le h n c e = compound_more s t c le (h n c e)

pub systems_more : (r q : ℕ) (ss : List System) → r ≤ q → AreSystems r ss → AreSystems q ss
systems_more r q ss le h k s e = let lt : s.initial < r = h k s e in omega (arith, lt)

-- ---- fewer names

pub names_dropped : (s r n : ℕ) (ds : Names) → AreNames s r ds → AreNames s r (drop n ds)
names_dropped s r ℕ.zero ds h = h
names_dropped s r (suc n) [] h = tt
names_dropped s r (suc n) (d ∷ ds) h = names_dropped s r n ds h.1

open_more : (s r : ℕ) (d : List ℕ × LayoutMeaning) (ds : Names) → IsMeaning s r d.1 → AreNames s r ds → AreNames s r (with_open d ds)
open_more s r d ds h g = go (is_open d.1)
  where
    go : (b : Bool) → AreNames s r (if b then d ∷ ds else ds)
    go true = (h, g)
    go false = g

pub names_inside : (s r : ℕ) (ds : Names) → AreNames s r ds → AreNames s r (seen_inside ds)
names_inside s r [] h = tt
names_inside s r (d ∷ ds) h = open_more s r d (seen_inside ds) h.0 (names_inside s r ds h.1)

-- ---- designators

abbrev pub IsFound : (systems routines : ℕ) → Option LayoutMeaning → Type 0
IsFound s r None = Unit {0}
IsFound s r (Some m) = IsMeaning s r m

pub found : (s r : ℕ) (x : List ℕ) (ds : Names) → AreNames s r ds → IsFound s r (find x ds)
found s r x [] h = tt
found s r x (d ∷ ds) h = go (bytes_eq d.0 x) (found s r x ds h.1)
  where
    go : (b : Bool) → IsFound s r (find x ds) → IsFound s r (if b then Some d.1 else find x ds)
    go true rest = h.0
    go false rest = rest

begun_contained : (s r n : ℕ) (t : CellType) → IsType s t → IsDesignated s r (meaning_of (Some (meaning.Contained n t)))
begun_contained s r n (types.System k) h = h
begun_contained s r n _ h = tt

begun_named : (s r : ℕ) (o : Option LayoutMeaning) → IsFound s r o → IsDesignated s r (meaning_of o)
begun_named s r (Some (meaning.Contained n t)) h = begun_contained s r n t h
begun_named s r (Some (meaning.Bound n k)) h = h
begun_named s r (Some (meaning.Routine n)) h = h
begun_named s r _ h = tt

abbrev pub DesignatedIn : Layer → Designated → Type 0
DesignatedIn l d = IsDesignated (length l.systems) (length l.routines) d

pub begun_there : (l : Layer) (x : List ℕ) → Named l → DesignatedIn l (name_meaning l x)
begun_there l x h = begun_named (length l.systems) (length l.routines) (find x l.names) (found (length l.systems) (length l.routines) x l.names h.names)

-- ---- selectors

abbrev pub IsEntry : (routines : ℕ) → Option ℕ → Type 0
IsEntry r None = Unit {0}
IsEntry r (Some n) = n < r

entry_below : (s : System) (hs : List Heading) (n : ℕ) (x : List ℕ) → IsEntry s.initial (entry_among s hs n x)
entry_below s [] n x = tt
entry_below s (h ∷ hs) n x = go (nat_le s.first n) (nat_lt n s.initial) (bytes_eq h.name x) refl (entry_below s hs (n + 1) x)
  where
    go : (a b c : Bool) → nat_lt n s.initial ≡ b → IsEntry s.initial (entry_among s hs (n + 1) x) → IsEntry s.initial (if a && (b && c) then Some n else entry_among s hs (n + 1) x)
    go true true true e rest = search (rules, e)
    go true true false e rest = rest
    go true false c e rest = rest
    go false b c e rest = rest

entry_more : (r q : ℕ) (o : Option ℕ) → r < q → IsEntry r o → IsEntry q o
entry_more r q None lt h = tt
entry_more r q (Some n) lt h = omega arith

entry_there : (r : ℕ) (o : Option System) (hs : List Heading) (x : List ℕ) → ((s : System) → o ≡ Some s → s.initial < r) → IsEntry r (entry_in o hs x)
entry_there r None hs x h = tt
entry_there r (Some s) hs x h = entry_more s.initial r (entry_among s hs 0 x) (h s refl) (entry_below s hs 0 x)

entry_designated : (s r : ℕ) (c : ComponentPlace) (o : Option ℕ) → IsEntry r o → IsDesignated s r (entry_found c o)
entry_designated s r c None h = tt
entry_designated s r c (Some n) h = h

field_designated : (s r : ℕ) (p : Place) (o : Option Field) → IsDesignated s r (field_found p o)
field_designated s r p None = tt
field_designated s r p (Some f) = tt

pub field_there : (l : Layer) (d : Designated) (x : List ℕ) → Named l → DesignatedIn l (field_of_designated l d x)
field_there l (a_variable p t) x h = field_designated (length l.systems) (length l.routines) p (field_of l.types t x)
field_there l (a_component c k) x h = entry_designated (length l.systems) (length l.routines) c (entry_of l k x) (entry_there (length l.routines) (slice_get l.systems k) l.headings x (h.systems k))
field_there l _ x h = tt

IsElement : (systems : ℕ) → Option ArrayType → Type 0
IsElement s None = Unit {0}
IsElement s (Some a) = IsType s a.element

as_array_there : (s : ℕ) (o : Option Compound) → ((c : Compound) → o ≡ Some c → IsCompound s c) → IsElement s (as_array o)
unfolding IsElement
as_array_there s (Some (array a)) h = h (array a) refl
as_array_there s _ h = tt

array_there : (s : ℕ) (ts : Compounds) (t : CellType) → AreTypes s ts → IsElement s (array_of ts t)
unfolding IsElement
array_there s ts (types.Array n) h = as_array_there s (slice_get ts n) (h n)
array_there s ts _ h = tt

component_there : (l : Layer) (n : ℕ) (a : ArrayType) (t : CellType) (e : OrdinalExpression) → IsType (length l.systems) t → DesignatedIn l (component_of_array l n a t e)
component_there l n a (types.System k) e h = h
component_there l n a _ e h = tt

component_found_there : (l : Layer) (n : ℕ) (o : Option ArrayType) (e : OrdinalExpression) → IsElement (length l.systems) o → DesignatedIn l (component_found l n o e)
unfolding IsElement
component_found_there l n None e h = tt
component_found_there l n (Some a) e h = component_there l n a a.element e h

element_designated : (s r : ℕ) (p : Place) (o : Option ArrayType) (e : OrdinalExpression) → IsDesignated s r (element_found p o e)
element_designated s r p None e = tt
element_designated s r p (Some a) e = tt

pub element_there : (l : Layer) (d : Designated) (e : OrdinalExpression) → Named l → DesignatedIn l (element_of_designated l d e)
element_there l (a_variable p t) e h = element_designated (length l.systems) (length l.routines) p (array_of l.types t) e
element_there l (a_contained n t) e h = component_found_there l n (array_of l.types t) e (array_there (length l.systems) l.types t h.types)
element_there l _ e h = tt

-- ---- starts

pub initial_below : (l : Layer) (k : ℕ) → Named l → k < length l.systems → initial_of l k < length l.routines
initial_below l k h lt =
    let s : (s : System) × (slice_get l.systems k ≡ Some s) = there l.systems k lt in
    subst (λ o. initial_in o < length l.routines) (sym s.1) (h.systems k s.0 s.1)
