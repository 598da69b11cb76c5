-- The permanent cells that are counted are no more than those of the types that are declared.
use Rattle.std.proofs.Common.{◌≡◌, ℕ, ◌≤◌, List, [], ◌∷◌, ◌++◌, Some, slice_get, refl, sym, ap, ◌∙◌, append_assoc, append-nil, arith}
use Rattle.cp_resolved.proofs.Words.{Identifier, CellType, Layer, Owned, System, fields_of_type}
use Rattle.cp_layout.specs.declared.layer.Content.TheVariants as content
use Rattle.cp_symbols.specs.Kinds.{Field, Compound, Compounds, cells_of, plus}
use Rattle.cp_layout.specs.Kinds.{Fields, with_field}
use Rattle.cp_resolved.proofs.systems.Sizes.{Counts, Counted, counted_more, fields_cells, fields_more, fields_last, contents_cells, contents_more, contents_last, contents_component}

abbrev pub SizedBy : Compounds → Owned → Type 0
SizedBy ts o = o.cells ≤ contents_cells ts o.contents

pub record Sized (l : Layer) : Type 0 where
  pub types : Counted l.types
  pub owned : SizedBy l.types l.owned
  pub systems : (k : ℕ) (s : System) → slice_get l.systems k ≡ Some s → SizedBy l.types s.owned

pub by_more : (ts more : Compounds) (o : Owned) → SizedBy ts o → SizedBy (ts ++ more) o
by_more ts more o h = let a = contents_more ts more o.contents in omega (arith, a, h)

pub sized_same : (l m : Layer) → m.types ≡ l.types → m.owned.cells ≡ l.owned.cells → m.owned.contents ≡ l.owned.contents → m.systems ≡ l.systems → Sized l → Sized m
sized_same l m e f g i h =
    record {
      types = rw e h.types;
      owned = rw (e, f, g) h.owned;
      systems = λ k s j. rw e (h.systems k s (ap (λ (ss : List System). slice_get ss k) (sym i) ∙ j));
    }

pub record Resized (l m : Layer) : Type 0 where
  pub more : Compounds
  pub types : m.types ≡ l.types ++ more
  pub sized : Sized l → Sized m

pub resized_same : (l m : Layer) → m.types ≡ l.types → m.owned.cells ≡ l.owned.cells → m.owned.contents ≡ l.owned.contents → m.systems ≡ l.systems → Resized l m
resized_same l m e f g i = record { more = []; types = e ∙ sym (append-nil l.types); sized = sized_same l m e f g i }

pub resized_trans : (l k m : Layer) → Resized l k → Resized k m → Resized l m
resized_trans l k m h i =
    record {
      more = h.more ++ i.more;
      types = i.types ∙ ap (λ (ts : Compounds). ts ++ i.more) h.types ∙ append_assoc l.types h.more i.more;
      sized = λ s. i.sized (h.sized s);
    }

-- one more permanent variable
pub resized_cells : (l m : Layer) (t : CellType) → m.types ≡ l.types → m.owned.cells ≡ plus l.owned.cells (cells_of l.types t) → m.owned.contents ≡ l.owned.contents ++ content.Variable t ∷ [] → m.systems ≡ l.systems → Resized l m
resized_cells l m t e f g i =
    record {
      more = [];
      types = e ∙ sym (append-nil l.types);
      sized = λ h. record {
        types = rw e h.types;
        owned = (let a : l.owned.cells ≤ contents_cells l.types l.owned.contents = h.owned in let b = contents_last l.types l.owned.contents t in rw (e, f, g) (omega (arith, a, b)));
        systems = λ k s j. rw e (h.systems k s (ap (λ (ss : List System). slice_get ss k) (sym i) ∙ j));
      };
    }

-- one more parameter that is a component
pub resized_component : (l m : Layer) → m.types ≡ l.types → m.owned.cells ≡ plus l.owned.cells 1 → m.owned.contents ≡ l.owned.contents ++ content.Component ∷ [] → m.systems ≡ l.systems → Resized l m
resized_component l m e f g i =
    record {
      more = [];
      types = e ∙ sym (append-nil l.types);
      sized = λ h. record {
        types = rw e h.types;
        owned = (let a : l.owned.cells ≤ contents_cells l.types l.owned.contents = h.owned in let b = contents_component l.types l.owned.contents in rw (e, f, g) (omega (arith, a, b)));
        systems = λ k s j. rw e (h.systems k s (ap (λ (ss : List System). slice_get ss k) (sym i) ∙ j));
      };
    }

-- one more type
pub resized_type : (l : Layer) (c : Compound) → Counts l.types c → Resized l (let m : Layer = record l { types = l.types ++ c ∷ [] } in m)
resized_type l c h =
    record {
      more = c ∷ [];
      types = refl;
      sized = λ s. record { types = counted_more l.types c h s.types; owned = by_more l.types (c ∷ []) l.owned s.owned; systems = λ k t e. by_more l.types (c ∷ []) t.owned (s.systems k t e) };
    }

-- ---- records

abbrev pub FieldsFit : Layer → Fields → Type 0
FieldsFit l r = r.cells ≤ fields_cells l.types r.fields

pub fields_resized : (l m : Layer) (r : Fields) → Resized l m → FieldsFit l r → FieldsFit m r
fields_resized l m r h f = let a = fields_more l.types h.more r.fields in rw h.types (omega (arith, a, f))

pub fields_of_fit : (l : Layer) (r : Fields) (is : List Identifier) (t : CellType) → FieldsFit l r → FieldsFit l (fields_of_type r is t (cells_of l.types t))
unfolding fields_of_type
fields_of_fit l r [] t h = h
fields_of_fit l r (i ∷ is) t h =
    let f : Field = record { name = i.name; value_type = t; offset = r.cells } in
    let a = fields_last l.types r.fields f in
    fields_of_fit l (with_field r i.name t (cells_of l.types t)) is t (omega (arith, a, h))
