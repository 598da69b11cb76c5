-- What is laid out of the permanent variables so far: the cells of each, and how many components come before those that each is.
use Rattle.std.proofs.Common.{◌≡◌, ℕ, ◌<◌, true, List, [], ◌∷◌, ◌++◌, length, Some, slice_get, refl, sym, ap, subst, ◌∙◌, ◌⊎◌, inl, inr, append_assoc, append-nil, arith, length-append}
use Rattle.cp_resolved.proofs.Words.{bytes_eq, bytes_eq-Decides, Permanent, CellType, Contained, Content, LayoutMeaning, count_in, component_cell, Name, Ty}
use Rattle.cp_resolved.proofs.Words.{array_over, component_of, length_of_range, Variable, Each}
use Rattle.cp_layout.specs.declared.layer.Content.TheVariants as content
use Rattle.cp_symbols.specs.declared.names.LayoutMeaning.TheVariants as meaning
use Rattle.cp_symbols.specs.Kinds.{Compounds, cells_of, plus, times}
use Rattle.cp_layout.specs.Layers.{Names, Layer, Owned, System, find}
use Rattle.cp_resolved.specs.InStep.{Numbering, TypeIs}
use Rattle.cp_resolved.proofs.names.Entries.{there, still_there}
use Rattle.cp_resolved.proofs.names.PermanentNames.{found_cases, Under}
use Rattle.cp_resolved.proofs.names.Steps.{cells_grown, type_grown}
use Rattle.cp_resolved.proofs.agreeing.AgreeingWritten.{each_left}

-- ---- components

-- those of a variable
abbrev pub contained_of : Ty → List Contained
contained_of (component_of j) = record { system = j; count = 1 } ∷ []
contained_of (array_over r (component_of j)) = record { system = j; count = length_of_range r } ∷ []
contained_of t = []

abbrev pub all_contained : List Variable → List Contained
all_contained [] = []
all_contained (v ∷ vs) = contained_of v.ty ++ all_contained vs

-- how many components there are after some more
abbrev pub count_after : List System → ℕ → List Contained → ℕ
count_after ss n [] = n
count_after ss n (c ∷ cs) = count_after ss (plus n (times (count_in (slice_get ss c.system)) c.count)) cs

-- ---- cells

abbrev pub content_cells : Compounds → Content → ℕ
content_cells ts (content.Variable v) = cells_of ts v
content_cells ts content.Component = 1

abbrev pub cells_after : Compounds → ℕ → List Content → ℕ
cells_after ts n [] = n
cells_after ts n (c ∷ cs) = cells_after ts (plus n (content_cells ts c)) cs

-- ---- what names lead to

-- a variable lies at a cell
pub record SlotIs (ts : Compounds) (cs : List Content) (n : ℕ) (v : CellType) : Type 0 where
  pub before : List Content
  pub after : List Content
  pub is : cs ≡ before ++ content.Variable v ∷ after
  pub slot : n ≡ cells_after ts 0 before

-- the components of a variable begin at a number
pub record FirstIs (ss : List System) (vs : List Variable) (x : Name) (n : ℕ) : Type 0 where
  pub before : List Variable
  pub variable : Variable
  pub after : List Variable
  pub is : vs ≡ before ++ variable ∷ after
  pub name : variable.name ≡ x
  pub first : n ≡ count_after ss 1 (all_contained before)

abbrev pub SlotsAre : Compounds → List Content → Names → Type 0
SlotsAre ts cs ns = (x : Name) (n : ℕ) (v : CellType) → find x ns ≡ Some (meaning.Variable (Permanent n) v) → SlotIs ts cs n v

abbrev pub FirstsAre : List System → List Variable → Names → Type 0
FirstsAre ss vs ns = (x : Name) (n : ℕ) (v : CellType) → find x ns ≡ Some (meaning.Contained n v) → FirstIs ss vs x n

abbrev pub AreLow : ℕ → List Contained → Type 0
AreLow s cs = Each (λ (c : Contained). c.system < s) cs

-- ---- more types and system types

each_last : {A : Type 0} (P : A → Type 0) (xs : List A) (y : A) → Each P xs → P y → Each P (xs ++ y ∷ [])
each_last P [] y h i = (i, tt)
each_last P (x ∷ xs) y h i = (h.0, each_last P xs y h.1 i)

pub contained_append : (vs ws : List Variable) → all_contained (vs ++ ws) ≡ all_contained vs ++ all_contained ws
contained_append [] ws = refl
contained_append (v ∷ vs) ws = ap (λ cs. contained_of v.ty ++ cs) (contained_append vs ws) ∙ sym (append_assoc (contained_of v.ty) (all_contained vs) (all_contained ws))

count_grown : (ss more : List System) (n : ℕ) (cs : List Contained) → AreLow (length ss) cs → count_after (ss ++ more) n cs ≡ count_after ss n cs
count_grown ss more n [] h = refl
count_grown ss more n (c ∷ cs) h =
    let s = there ss c.system h.0 in
    let e : slice_get (ss ++ more) c.system ≡ slice_get ss c.system = still_there ss more c.system s.0 s.1 ∙ sym s.1 in
    ap (λ o. count_after (ss ++ more) (plus n (times (count_in o) c.count)) cs) e ∙ count_grown ss more (plus n (times (count_in (slice_get ss c.system)) c.count)) cs h.1

count_last : (ss : List System) (n : ℕ) (cs : List Contained) (c : Contained) → count_after ss n (cs ++ c ∷ []) ≡ plus (count_after ss n cs) (times (count_in (slice_get ss c.system)) c.count)
count_last ss n [] c = refl
count_last ss n (d ∷ cs) c = count_last ss (plus n (times (count_in (slice_get ss d.system)) d.count)) cs c

cells_last : (ts : Compounds) (n : ℕ) (cs : List Content) (c : Content) → cells_after ts n (cs ++ c ∷ []) ≡ plus (cells_after ts n cs) (content_cells ts c)
cells_last ts n [] c = refl
cells_last ts n (d ∷ cs) c = cells_last ts (plus n (content_cells ts d)) cs c

module _ (k : Numbering) where
  -- a variable of some type
  abbrev pub ContentIs : Compounds → Content → Type 0
  ContentIs ts (content.Variable v) = (t : Ty) × TypeIs k ts t v
  ContentIs ts content.Component = Unit {0}

  pub record Owns (ts : Compounds) (ss : List System) (ns : Names) (o : Owned) (vs : List Variable) : Type 0 where
    pub contained : o.contained ≡ all_contained vs
    pub low : AreLow (length ss) (all_contained vs)
    pub count : o.count ≡ count_after ss 1 (all_contained vs)
    pub contents : Each (ContentIs ts) o.contents
    pub cells : o.cells ≡ cells_after ts 0 o.contents
    pub slots : SlotsAre ts o.contents ns
    pub firsts : FirstsAre ss vs ns

  abbrev pub OwnsAt : Layer → List Variable → Type 0
  OwnsAt l vs = Owns l.types l.systems l.names l.owned vs

  content_grown : (ts more : Compounds) (c : Content) → ContentIs ts c → ContentIs (ts ++ more) c
  content_grown ts more (content.Variable v) h = (h.0, type_grown k ts more h.0 v h.1)
  content_grown ts more content.Component h = tt

  contents_grown : (ts more : Compounds) (cs : List Content) → Each (ContentIs ts) cs → Each (ContentIs (ts ++ more)) cs
  contents_grown ts more [] h = tt
  contents_grown ts more (c ∷ cs) h = (content_grown ts more c h.0, contents_grown ts more cs h.1)

  one_cells : (ts more : Compounds) (c : Content) → ContentIs ts c → content_cells (ts ++ more) c ≡ content_cells ts c
  one_cells ts more (content.Variable v) h = cells_grown k ts more h.0 v h.1
  one_cells ts more content.Component h = refl

  pub all_cells : (ts more : Compounds) (n : ℕ) (cs : List Content) → Each (ContentIs ts) cs → cells_after (ts ++ more) n cs ≡ cells_after ts n cs
  all_cells ts more n [] h = refl
  all_cells ts more n (c ∷ cs) h = ap (λ m. cells_after (ts ++ more) (plus n m) cs) (one_cells ts more c h.0) ∙ all_cells ts more (plus n (content_cells ts c)) cs h.1

  low_left : (s : ℕ) (vs before : List Variable) (w : Variable) (after : List Variable) → vs ≡ before ++ w ∷ after → AreLow s (all_contained vs) → AreLow s (all_contained before)
  low_left s vs before w after e h =
      each_left (λ (c : Contained). c.system < s) (all_contained before) (all_contained (w ∷ after)) (subst (AreLow s) (ap all_contained e ∙ contained_append before (w ∷ after)) h)

  -- other names, that lead to no more; more types and more system types
  pub owns_grown : (ts more : Compounds) (ss extra : List System) (ns ms : Names) (o : Owned) (vs : List Variable) → Under ns ms → Owns ts ss ns o vs → Owns (ts ++ more) (ss ++ extra) ms o vs
  owns_grown ts more ss extra ns ms o vs u h =
      record {
        contained = h.contained;
        low = higher (all_contained vs) h.low;
        count = h.count ∙ sym (count_grown ss extra 1 (all_contained vs) h.low);
        contents = contents_grown ts more o.contents h.contents;
        cells = h.cells ∙ sym (all_cells ts more 0 o.contents h.contents);
        slots = λ x n v e. slot_grown n v (h.slots x n v (u x (meaning.Variable (Permanent n) v) tt e));
        firsts = λ x n v e. first_grown x n (h.firsts x n v (u x (meaning.Contained n v) tt e));
      }
    where
      higher : (cs : List Contained) → AreLow (length ss) cs → AreLow (length (ss ++ extra)) cs
      higher [] g = tt
      higher (c ∷ cs) g = (let lt : c.system < length ss = g.0 in let e = length-append ss extra in omega (arith, lt, e), higher cs g.1)

      slot_grown : (n : ℕ) (v : CellType) → SlotIs ts o.contents n v → SlotIs (ts ++ more) o.contents n v
      slot_grown n v g =
          record {
            before = g.before;
            after = g.after;
            is = g.is;
            slot = g.slot ∙ sym (all_cells ts more 0 g.before (each_left (ContentIs ts) g.before (content.Variable v ∷ g.after) (subst (Each (ContentIs ts)) g.is h.contents)));
          }

      first_grown : (x : Name) (n : ℕ) → FirstIs ss vs x n → FirstIs (ss ++ extra) vs x n
      first_grown x n g =
          record {
            before = g.before;
            variable = g.variable;
            after = g.after;
            is = g.is;
            name = g.name;
            first = g.first ∙ sym (count_grown ss extra 1 (all_contained g.before) (low_left (length ss) vs g.before g.variable g.after g.is h.low));
          }

  module _ (ts : Compounds) (ss : List System) (ns : Names) (o : Owned) (vs : List Variable) (h : Owns ts ss ns o vs) where
    abbrev more_cells : Content → Owned
    more_cells c = record o { cells = plus o.cells (content_cells ts c); contents = o.contents ++ c ∷ [] }

    slot_before : (c : Content) (n : ℕ) (v : CellType) → SlotIs ts o.contents n v → SlotIs ts (o.contents ++ c ∷ []) n v
    slot_before c n v g =
        record { before = g.before; after = g.after ++ c ∷ []; is = ap (λ cs. cs ++ c ∷ []) g.is ∙ append_assoc g.before (content.Variable v ∷ g.after) (c ∷ []); slot = g.slot }

    -- a name with other cells
    other_cells : (x : Name) (m : LayoutMeaning) (c : Content) → ContentIs ts c → ((n : ℕ) (v : CellType) → m ≡ meaning.Variable (Permanent n) v → SlotIs ts (o.contents ++ c ∷ []) n v) → ((n : ℕ) (v : CellType) → m ≡ meaning.Contained n v → ⊥) → Owns ts ss ((x, m) ∷ ns) (more_cells c) vs
    other_cells x m c i f g =
        record {
          contained = h.contained;
          low = h.low;
          count = h.count;
          contents = each_last (ContentIs ts) o.contents c h.contents i;
          cells = ap (λ n. plus n (content_cells ts c)) h.cells ∙ sym (cells_last ts 0 o.contents c);
          slots = λ y n v e. slot n v y (found_cases (x, m) ns y (meaning.Variable (Permanent n) v) e);
          firsts = λ y n v e. first n v y (found_cases (x, m) ns y (meaning.Contained n v) e);
        }
      where
        slot : (n : ℕ) (v : CellType) (y : Name) → ((bytes_eq x y ≡ true) × (m ≡ meaning.Variable (Permanent n) v)) ⊎ (find y ns ≡ Some (meaning.Variable (Permanent n) v)) → SlotIs ts (o.contents ++ c ∷ []) n v
        slot n v y (inl w) = f n v w.1
        slot n v y (inr e) = slot_before c n v (h.slots y n v e)

        first : (n : ℕ) (v : CellType) (y : Name) → ((bytes_eq x y ≡ true) × (m ≡ meaning.Contained n v)) ⊎ (find y ns ≡ Some (meaning.Contained n v)) → FirstIs ss vs y n
        first n v y (inl w) = absurd (g n v w.1)
        first n v y (inr e) = h.firsts y n v e

    own_slot : (v : CellType) (n : ℕ) (u : CellType) → meaning.Variable (Permanent o.cells) v ≡ meaning.Variable (Permanent n) u → SlotIs ts (o.contents ++ content.Variable v ∷ []) n u
    own_slot v n u e =
        let a : o.cells ≡ n = (let w : meaning.Variable (Permanent o.cells) v ≡ meaning.Variable (Permanent n) u = e in cc) in
        let b : v ≡ u = (let w : meaning.Variable (Permanent o.cells) v ≡ meaning.Variable (Permanent n) u = e in cc) in
        record { before = o.contents; after = []; is = ap (λ w. o.contents ++ content.Variable w ∷ []) b; slot = sym a ∙ h.cells }

    -- one more variable or parameter with cells
    pub owns_cells : (x : Name) (t : Ty) (v : CellType) → TypeIs k ts t v → Owns ts ss ((x, meaning.Variable (Permanent o.cells) v) ∷ ns) (more_cells (content.Variable v)) vs
    owns_cells x t v i = other_cells x (meaning.Variable (Permanent o.cells) v) (content.Variable v) (t, i) (own_slot v) (λ n u e. cc)

    -- a parameter that is a component
    pub owns_bound : (x : Name) (j : ℕ) → Owns ts ss ((x, meaning.Bound o.cells j) ∷ ns) (let p : Owned = record o { cells = plus o.cells 1; contents = o.contents ++ content.Component ∷ []; parameters = o.parameters ++ component_cell o.cells j ∷ [] } in p) vs
    owns_bound x j =
        let g : Owns ts ss ((x, meaning.Bound o.cells j) ∷ ns) (more_cells content.Component) vs = other_cells x (meaning.Bound o.cells j) content.Component tt (λ n u e. absurd (cc)) (λ n u e. cc) in
        record { contained = g.contained; low = g.low; count = g.count; contents = g.contents; cells = g.cells; slots = g.slots; firsts = g.firsts }

    first_before : (w : Variable) (x : Name) (n : ℕ) → FirstIs ss vs x n → FirstIs ss (vs ++ w ∷ []) x n
    first_before w x n g =
        record { before = g.before; variable = g.variable; after = g.after ++ w ∷ []; is = ap (λ ws. ws ++ w ∷ []) g.is ∙ append_assoc g.before (g.variable ∷ g.after) (w ∷ []); name = g.name; first = g.first }

    one_contained : (w : Variable) → all_contained (vs ++ w ∷ []) ≡ all_contained vs ++ contained_of w.ty
    one_contained w = contained_append vs (w ∷ []) ∙ ap (λ cs. all_contained vs ++ cs) (append-nil (contained_of w.ty))

    -- one more variable that is no component
    pub owns_variable : (w : Variable) → contained_of w.ty ≡ [] → Owns ts ss ns o (vs ++ w ∷ [])
    owns_variable w e =
        let same : all_contained (vs ++ w ∷ []) ≡ all_contained vs = one_contained w ∙ ap (λ cs. all_contained vs ++ cs) e ∙ append-nil (all_contained vs) in
        record {
          contained = h.contained ∙ sym same;
          low = subst (AreLow (length ss)) (sym same) h.low;
          count = h.count ∙ ap (count_after ss 1) (sym same);
          contents = h.contents;
          cells = h.cells;
          slots = h.slots;
          firsts = λ y n v f. first_before w y n (h.firsts y n v f);
        }

    -- one more that is
    pub owns_components : (w : Variable) (v : CellType) (c : Contained) → contained_of w.ty ≡ c ∷ [] → c.system < length ss →
        Owns ts ss ((w.name, meaning.Contained o.count v) ∷ ns) (let p : Owned = record o { count = plus o.count (times (count_in (slice_get ss c.system)) c.count); contained = o.contained ++ c ∷ [] } in p) (vs ++ w ∷ [])
    owns_components w v c e lt =
        let more : all_contained (vs ++ w ∷ []) ≡ all_contained vs ++ c ∷ [] = one_contained w ∙ ap (λ cs. all_contained vs ++ cs) e in
        record {
          contained = ap (λ cs. cs ++ c ∷ []) h.contained ∙ sym more;
          low = subst (AreLow (length ss)) (sym more) (each_last (λ (d : Contained). d.system < length ss) (all_contained vs) c h.low lt);
          count = ap (λ n. plus n (times (count_in (slice_get ss c.system)) c.count)) h.count ∙ sym (count_last ss 1 (all_contained vs) c) ∙ ap (count_after ss 1) (sym more);
          contents = h.contents;
          cells = h.cells;
          slots = λ y n u f. slot n u y (found_cases (w.name, meaning.Contained o.count v) ns y (meaning.Variable (Permanent n) u) f);
          firsts = λ y n u f. first n u y (found_cases (w.name, meaning.Contained o.count v) ns y (meaning.Contained n u) f);
        }
      where
        slot : (n : ℕ) (u : CellType) (y : Name) → ((bytes_eq w.name y ≡ true) × (meaning.Contained o.count v ≡ meaning.Variable (Permanent n) u)) ⊎ (find y ns ≡ Some (meaning.Variable (Permanent n) u)) → SlotIs ts o.contents n u
        slot n u y (inl f) = absurd (let g : meaning.Contained o.count v ≡ meaning.Variable (Permanent n) u = f.1 in cc)
        slot n u y (inr f) = h.slots y n u f

        first : (n : ℕ) (u : CellType) (y : Name) → ((bytes_eq w.name y ≡ true) × (meaning.Contained o.count v ≡ meaning.Contained n u)) ⊎ (find y ns ≡ Some (meaning.Contained n u)) → FirstIs ss (vs ++ w ∷ []) y n
        first n u y (inl f) =
            let a : o.count ≡ n = (let g : meaning.Contained o.count v ≡ meaning.Contained n u = f.1 in cc) in
            record { before = vs; variable = w; after = []; is = refl; name = (bytes_eq-Decides w.name y).0 f.0; first = sym a ∙ h.count }
        first n u y (inr f) = first_before w y n (h.firsts y n u f)
