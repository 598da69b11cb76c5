-- What is laid out notes names, and each component variable among them is a component that is contained.
use Rattle.std.proofs.Common.{◌≡◌, ℕ, if◌then◌else◌, List, [], ◌∷◌, ◌++◌, length, Option, Some, None, slice_get, refl, sym, ap, ◌∙◌, append_assoc, append-nil}
use Rattle.cp_legend_laws.proofs.Words.{none-some, still_there, Each, CellType, Contained, LayoutMeaning, Compound, Compounds, Noted, components_in, components_of}
use Rattle.cp_symbols.specs.declared.kinds.CellType.TheVariants as types
use Rattle.cp_symbols.specs.declared.names.LayoutMeaning.TheVariants as meaning
use Rattle.cp_layout.specs.Kinds.{as_array}
use Rattle.cp_layout.specs.Layers.{Layer, Owned, Frame, own_system}

-- ---- what names stand for

abbrev pub as_list : Option Contained → List Contained
as_list None = []
as_list (Some c) = c ∷ []

-- the components of what a name stands for
abbrev pub contents_of : Compounds → LayoutMeaning → List Contained
contents_of ts (meaning.Contained n t) = as_list (components_of ts t)
contents_of ts _ = []

abbrev pub all_contents : Compounds → List Noted → List Contained
all_contents ts [] = []
all_contents ts (d ∷ ds) = contents_of ts d.meaning ++ all_contents ts ds

pub contents_append : (ts : Compounds) (ds es : List Noted) → all_contents ts (ds ++ es) ≡ all_contents ts ds ++ all_contents ts es
contents_append ts [] es = refl
contents_append ts (d ∷ ds) es = ap (λ cs. contents_of ts d.meaning ++ cs) (contents_append ts ds es) ∙ sym (append_assoc (contents_of ts d.meaning) (all_contents ts ds) (all_contents ts es))

array_grown : (ts later : Compounds) (n : ℕ) (c : Contained) (o : Option Compound) → slice_get ts n ≡ o → components_in (as_array o) ≡ Some c → components_in (as_array (slice_get (ts ++ later) n)) ≡ Some c
array_grown ts later n c None e h = absurd (none-some c h)
array_grown ts later n c (Some x) e h = ap (λ o. components_in (as_array o)) (still_there ts later n x e) ∙ h

-- the components of a type stay as they are
pub components_grown : (ts later : Compounds) (t : CellType) (c : Contained) → components_of ts t ≡ Some c → components_of (ts ++ later) t ≡ Some c
components_grown ts later (types.Array n) c h = array_grown ts later n c (slice_get ts n) refl h
components_grown ts later _ c h = h

-- ---- steps of laying out that leave the system types as they are

pub record Noting (l m : Layer) : Type 0 where
  pub types : Compounds
  pub grown : m.types ≡ l.types ++ types
  pub names : List Noted
  pub noted : m.noted ≡ l.noted ++ names
  pub own : Each (λ (d : Noted). d.system ≡ own_system l) names
  pub contained : (later : Compounds) → m.owned.contained ≡ l.owned.contained ++ all_contents (m.types ++ later) names
  pub systems : m.systems ≡ l.systems
  pub inside : m.is_inside ≡ l.is_inside

pub each_both : {X : Type 0} (P : X → Type 0) (xs ys : List X) → Each P xs → Each P ys → Each P (xs ++ ys)
each_both P [] ys h i = i
each_both P (x ∷ xs) ys h i = (h.0, each_both P xs ys h.1 i)

pub each_turned : (o q : Option ℕ) → o ≡ q → (ds : List Noted) → Each (λ (d : Noted). d.system ≡ o) ds → Each (λ (d : Noted). d.system ≡ q) ds
each_turned o q e [] h = tt
each_turned o q e (d ∷ ds) h = (h.0 ∙ e, each_turned o q e ds h.1)

pub same_own : (l m : Layer) → m.systems ≡ l.systems → m.is_inside ≡ l.is_inside → own_system m ≡ own_system l
same_own l m e f = ap (λ b. if b then Some (length m.systems) else None) f ∙ ap (λ ss. if l.is_inside then Some (length ss) else None) e

unfoldable pub noting_trans : (l k m : Layer) → Noting l k → Noting k m → Noting l m
noting_trans l k m h i =
    record {
      types = h.types ++ i.types;
      grown = i.grown ∙ ap (λ (ts : Compounds). ts ++ i.types) h.grown ∙ append_assoc l.types h.types i.types;
      names = h.names ++ i.names;
      noted = i.noted ∙ ap (λ (ds : List Noted). ds ++ i.names) h.noted ∙ append_assoc l.noted h.names i.names;
      own = each_both (λ (d : Noted). d.system ≡ own_system l) h.names i.names h.own (each_turned (own_system k) (own_system l) (same_own l k h.systems h.inside) i.names i.own);
      contained = λ later. (
          let first : k.owned.contained ≡ l.owned.contained ++ all_contents (m.types ++ later) h.names =
          h.contained (i.types ++ later) ∙ ap (λ ts. l.owned.contained ++ all_contents ts h.names) (sym (append_assoc k.types i.types later) ∙ ap (λ ts. ts ++ later) (sym i.grown)) in
          i.contained later ∙ ap (λ cs. cs ++ all_contents (m.types ++ later) i.names) first
          ∙ append_assoc l.owned.contained (all_contents (m.types ++ later) h.names) (all_contents (m.types ++ later) i.names)
          ∙ ap (λ cs. l.owned.contained ++ cs) (sym (contents_append (m.types ++ later) h.names i.names)));
      systems = i.systems ∙ h.systems;
      inside = i.inside ∙ h.inside;
    }

-- nothing of all this changes
pub noting_same : (l m : Layer) → m.types ≡ l.types → m.noted ≡ l.noted → m.owned.contained ≡ l.owned.contained → m.systems ≡ l.systems → m.is_inside ≡ l.is_inside → Noting l m
noting_same l m ts ds cs ss b =
    record {
      types = [];
      grown = ts ∙ sym (append-nil l.types);
      names = [];
      noted = ds ∙ sym (append-nil l.noted);
      own = tt;
      contained = λ later. cs ∙ sym (append-nil l.owned.contained);
      systems = ss;
      inside = b;
    }

pub noting_none : (l : Layer) → Noting l l
noting_none l = noting_same l l refl refl refl refl refl

abbrev pub note : Layer → List ℕ → LayoutMeaning → Noted
note l x n = record { name = x; meaning = n; routine = length l.routines; system = own_system l }

abbrev pub with_note : Layer → List ℕ → LayoutMeaning → Owned → Frame → Layer
with_note l x n o f = record l { names = (x, n) ∷ l.names; owned = o; frame = f; noted = l.noted ++ note l x n ∷ [] }

-- a name that is no component
unfoldable pub noting_name : (l : Layer) (x : List ℕ) (n : LayoutMeaning) (o : Owned) (f : Frame) → ((ts : Compounds) → contents_of ts n ≡ []) → o.contained ≡ l.owned.contained → Noting l (with_note l x n o f)
noting_name l x n o f none same =
    record {
      types = [];
      grown = sym (append-nil l.types);
      names = note l x n ∷ [];
      noted = refl;
      own = (refl, tt);
      contained = λ later. same ∙ sym (append-nil l.owned.contained) ∙ ap (λ cs. l.owned.contained ++ (cs ++ [])) (sym (none (l.types ++ later)));
      systems = refl;
      inside = refl;
    }

-- a component variable
unfoldable pub noting_component : (l : Layer) (x : List ℕ) (n : ℕ) (t : CellType) (o : Owned) (c : Contained) → components_of l.types t ≡ Some c → o.contained ≡ l.owned.contained ++ c ∷ [] → Noting l (with_note l x (meaning.Contained n t) o l.frame)
noting_component l x n t o c is more =
    record {
      types = [];
      grown = sym (append-nil l.types);
      names = note l x (meaning.Contained n t) ∷ [];
      noted = refl;
      own = (refl, tt);
      contained = λ later. more ∙ ap (λ q. l.owned.contained ++ (as_list q ++ [])) (sym (components_grown l.types later t c is));
      systems = refl;
      inside = refl;
    }

pub noting_types : (l : Layer) (ts : Compounds) → Noting l (record l { types = l.types ++ ts })
noting_types l ts = record { types = ts; grown = refl; names = []; noted = sym (append-nil l.noted); own = tt; contained = λ later. sym (append-nil l.owned.contained); systems = refl; inside = refl }
