-- One more variable of a routine has its cells after those before it, and no other declaration moves any.
use Rattle.std.proofs.Common.{◌≡◌, ◌+◌, ◌≤◌, true, if◌then◌else◌, List, [], ◌∷◌, ◌++◌, length, take, Option, Some, None, slice_get, refl, sym, ap, subst, ◌∙◌, ◌⊎◌, inl, inr, arith, append_assoc, append-nil}
use Rattle.cp_resolved.proofs.Words.{bytes_eq, none-some, slice_get_within, PlaceOrigin, CellType, LayoutMeaning, Compounds, most, written_type, Name}
use Rattle.cp_resolved.proofs.Words.{same_name, Ty, Variable, encode, cells_of, look, Each, is_free, IsFreeVariable, IsFull}
use Rattle.cp_tree.specs.Syntax as syntax
use Rattle.cp_slots.specs.declared.place.PlaceOrigin.TheVariants as origin
use Rattle.cp_symbols.specs.declared.names.LayoutMeaning.TheVariants as meaning
use Rattle.cp_symbols.specs.Kinds as symbol_kinds
use Rattle.cp_layout.specs.Kinds as kinds
use Rattle.cp_layout.specs.Layers.{Names, find, Layer}
use Rattle.cp_layout.specs.LaidDeclarations.{constants, type_definitions, with_local, local, Parameters, var_parameter}
use Rattle.cp_meaning.specs.Values.{least}
use Rattle.cp_resolved.specs.InStep.{Numbering, TypeIs}
use Rattle.cp_resolved.proofs.frames.Cells.{cells_same}
use Rattle.cp_resolved.proofs.names.Entries.{still_there}
use Rattle.cp_resolved.proofs.laid.Extends.{Longer}
use Rattle.cp_resolved.proofs.frames.FrameCells.{look_left, look_right, each_both, images, total, cells_before, images_length, images_append, before_left, before_right, extents, number_among, extents_append, number_left, number_right, extents_length, same_is}
use Rattle.cp_resolved.proofs.frames.FrameKept.{cells, constants_cells, definitions_cells, type_cells, frame_same}
use Rattle.cp_resolved.proofs.names.KeptNames as kept
use Rattle.cp_resolved.proofs.frames.LeastCells.{least_laid}
use Rattle.cp_resolved.proofs.names.PermanentNames.{found_cases}
use Rattle.cp_resolved.proofs.names.Steps.{bytes_turned}
use Rattle.cp_resolved.proofs.systems.Sizes.{Counts, Counted, take_more}

-- ---- types that are among later ones

pub counted_first : (ts all : Compounds) → Longer ts all → Counted all → Counted ts
counted_first ts all x h n c e =
    let low = slice_get_within ts n c e in
    let there : slice_get all n ≡ Some c = ap (λ us. slice_get us n) x.1 ∙ still_there ts x.0 n c e in
    subst (λ us. Counts us c) (ap (λ us. take n us) x.1 ∙ take_more ts x.0 n (omega (arith, low))) (h n c there)

-- ---- variables that may be added

-- a type whose values have few cells, and neither queues nor components
pub record HasCells (t : Ty) : Type 0 where
  pub free : is_free t ≡ true
  pub few : cells_of t ≤ most
  pub full : IsFull t

pub record IsNew (vs : List Variable) (v : Variable) : Type 0 where
  pub other : look v.name vs ≡ None
  pub has : HasCells v.ty

-- each after those before it
abbrev pub Fits : List Variable → List Variable → Type 0
Fits vs [] = Unit {0}
Fits vs (w ∷ ws) = IsNew vs w × Fits (vs ++ w ∷ []) ws

pub fits_left : (vs ws xs : List Variable) → Fits vs (ws ++ xs) → Fits vs ws
fits_left vs [] xs h = tt
fits_left vs (w ∷ ws) xs h = (h.0, fits_left (vs ++ w ∷ []) ws xs h.1)

pub fits_right : (vs ws xs : List Variable) → Fits vs (ws ++ xs) → Fits (vs ++ ws) xs
fits_right vs [] xs h = subst (λ us. Fits us xs) (sym (append-nil vs)) h
fits_right vs (w ∷ ws) xs h = subst (λ us. Fits us xs) (append_assoc vs (w ∷ []) ws) (fits_right (vs ++ w ∷ []) ws xs h.1)

-- fewer names before them
pub fits_fewer : (us vs ws : List Variable) → ((x : Name) → look x us ≡ None → look x vs ≡ None) → Fits us ws → Fits vs ws
fits_fewer us vs [] f h = tt
fits_fewer us vs (w ∷ ws) f h = (record { other = f w.name h.0.other; has = h.0.has }, fits_fewer (us ++ w ∷ []) (vs ++ w ∷ []) ws more h.1)
  where
    more : (x : Name) → look x (us ++ w ∷ []) ≡ None → look x (vs ++ w ∷ []) ≡ None
    more x e = go (look x us) refl
      where
        go : (o : Option Ty) → look x us ≡ o → look x (vs ++ w ∷ []) ≡ None
        go None i = look_right x vs (w ∷ []) (f x i) ∙ sym (look_right x us (w ∷ []) i) ∙ e
        go (Some t) i = absurd (none-some t (sym e ∙ look_left x t us (w ∷ []) i))

-- ---- where variables lie

abbrev pub Lies : (vs rs : List Variable) → Name → PlaceOrigin → Type 0
Lies vs rs x (origin.Local n) = (t : Ty) × (look x vs ≡ Some t) × (n ≡ cells_before x vs)
Lies vs rs x (origin.Reference n) = (t : Ty) × (look x rs ≡ Some t) × (n ≡ number_among x rs)
Lies vs rs x (origin.Permanent n) = Unit {0}

-- what stands for a variable of the frame stands for one of these
abbrev pub AreLying : (vs rs : List Variable) → Names → Type 0
AreLying vs rs ns = (x : Name) (o : PlaceOrigin) (v : CellType) → find x ns ≡ Some (meaning.Variable o v) → Lies vs rs x o

pub lies_more : (vs rs ws qs : List Variable) (x : Name) (o : PlaceOrigin) → Lies vs rs x o → Lies (vs ++ ws) (rs ++ qs) x o
lies_more vs rs ws qs x (origin.Local n) h = (h.0, look_left x h.0 vs ws h.1, h.2 ∙ sym (before_left cells_of x h.0 vs ws h.1))
lies_more vs rs ws qs x (origin.Reference n) h = (h.0, look_left x h.0 rs qs h.1, h.2 ∙ sym (number_left x h.0 rs qs h.1))
lies_more vs rs ws qs x (origin.Permanent n) h = tt

abbrev IsNoVariable : LayoutMeaning → Type 0
IsNoVariable (meaning.Variable o v) = ⊥
IsNoVariable m = Unit {0}

lying_added : (vs rs : List Variable) (x : Name) (m : LayoutMeaning) (ns : Names) → IsNoVariable m → AreLying vs rs ns → AreLying vs rs ((x, m) ∷ ns)
lying_added vs rs x m ns i h y o v e = go (found_cases (x, m) ns y (meaning.Variable o v) e)
  where
    go : ((bytes_eq x y ≡ true) × (m ≡ meaning.Variable o v)) ⊎ (find y ns ≡ Some (meaning.Variable o v)) → Lies vs rs y o
    go (inl w) = absurd (subst IsNoVariable w.1 i)
    go (inr f) = h y o v f

same_origin : (o p : PlaceOrigin) (v w : CellType) → meaning.Variable o v ≡ meaning.Variable p w → o ≡ p
same_origin o p v w e = cc

-- one more variable, at its place
lying_variable : (vs rs : List Variable) (x : Name) (p : PlaceOrigin) (w : CellType) (ns : Names) → ((y : Name) → bytes_eq x y ≡ true → Lies vs rs y p) → AreLying vs rs ns → AreLying vs rs ((x, meaning.Variable p w) ∷ ns)
lying_variable vs rs x p w ns l h y o v e = go (found_cases (x, meaning.Variable p w) ns y (meaning.Variable o v) e)
  where
    go : ((bytes_eq x y ≡ true) × (meaning.Variable p w ≡ meaning.Variable o v)) ⊎ (find y ns ≡ Some (meaning.Variable o v)) → Lies vs rs y o
    go (inl f) = subst (λ q. Lies vs rs y q) (same_origin p o w v f.1) (l y f.0)
    go (inr f) = h y o v f

-- the frame of a routine: its cells, the cells behind each `var` parameter, and its names
pub record Frames (l : Layer) (vs rs : List Variable) : Type 0 where
  pub free : Each IsFreeVariable vs
  pub image : l.frame.image ≡ images vs
  pub extents : l.frame.extents ≡ extents rs
  pub lying : AreLying vs rs l.names

-- ---- constants and types

same_framed : (l m : Layer) (vs rs : List Variable) → cells m ≡ cells l → AreLying vs rs m.names → Frames l vs rs → Frames m vs rs
same_framed l m vs rs e lying h = record { free = h.free; image = ap (λ f. f.image) (frame_same l m e) ∙ h.image; extents = ap (λ f. f.extents) (frame_same l m e) ∙ h.extents; lying = lying }

pub constants_framed : (l : Layer) (ds : List syntax.ConstantDefinition) (vs rs : List Variable) → Frames l vs rs → Frames (constants l ds) vs rs
constants_framed l ds vs rs h = same_framed l (constants l ds) vs rs (constants_cells l ds) (kept.constants_keep (AreLying vs rs) IsNoVariable (lying_added vs rs) (λ b z. tt) (λ v. tt) l ds h.lying) h

pub definitions_framed : (l : Layer) (ds : List syntax.TypeDefinition) (vs rs : List Variable) → Frames l vs rs → Frames (type_definitions l ds) vs rs
definitions_framed l ds vs rs h = same_framed l (type_definitions l ds) vs rs (definitions_cells l ds) (kept.definitions_keep (AreLying vs rs) IsNoVariable (lying_added vs rs) (λ b z. tt) (λ v. tt) l ds h.lying) h

pub type_framed : (l : Layer) (t : syntax.TypeTerm) (vs rs : List Variable) → Frames l vs rs → Frames (written_type l t).1 vs rs
type_framed l t vs rs h = same_framed l (written_type l t).1 vs rs (type_cells l t) (kept.type_keep (AreLying vs rs) IsNoVariable (lying_added vs rs) (λ b z. tt) (λ v. tt) l t h.lying) h

-- ---- one more variable

abbrev pub one_variable : Name → Ty → Variable
one_variable x t = record { name = x; ty = t }

module _ (k : Numbering) where
  image_more : (l : Layer) (x : Name) (t : Ty) (v : CellType) (vs : List Variable) → TypeIs k l.types t v → Counted l.types → HasCells t → l.frame.image ≡ images vs → l.frame.image ++ kinds.least l.types v ≡ images (vs ++ one_variable x t ∷ [])
  image_more l x t v vs i c has e =
      ap (λ zs. zs ++ kinds.least l.types v) e
      ∙ ap (λ zs. images vs ++ zs) (least_laid k l.types c t v i has.free has.few has.full ∙ sym (append-nil (encode (least t))))
      ∙ sym (images_append vs (one_variable x t ∷ []))

  -- the cells of a result, without a name
  pub result_framed : (l : Layer) (x : Name) (t : Ty) (v : CellType) (vs rs : List Variable) → TypeIs k l.types t v → Counted l.types → HasCells t → Frames l vs rs → Frames (with_local l v).1 (vs ++ one_variable x t ∷ []) rs
  result_framed l x t v vs rs i c has h =
      record {
        free = each_both IsFreeVariable vs (one_variable x t ∷ []) h.free (has.free, tt);
        image = image_more l x t v vs i c has h.image;
        extents = h.extents;
        lying = λ y o u e. subst (λ qs. Lies (vs ++ one_variable x t ∷ []) qs y o) (append-nil rs) (lies_more vs rs (one_variable x t ∷ []) [] y o (h.lying y o u e));
      }

  local_lies : (l : Layer) (x : Name) (t : Ty) (vs rs : List Variable) → look x vs ≡ None → Frames l vs rs → (y : Name) → bytes_eq x y ≡ true → Lies (vs ++ one_variable x t ∷ []) rs y (origin.Local (length l.frame.image))
  local_lies l x t vs rs new h y same =
      let turned : same_name y x ≡ true = bytes_turned y x ∙ same in
      let absent : look y vs ≡ None = ap (λ z. look z vs) (same_is y x turned) ∙ new in
      let first : look y (one_variable x t ∷ []) ≡ Some t = ap (λ b. if b then Some t else None) turned in
      let none : cells_before y (one_variable x t ∷ []) ≡ 0 = ap (λ b. if b then 0 else cells_of t + 0) turned in
      let long : length l.frame.image ≡ total vs = ap (λ zs. length zs) h.image ∙ images_length vs h.free in
      let place = before_right cells_of y vs (one_variable x t ∷ []) absent in
      (t, look_right y vs (one_variable x t ∷ []) absent ∙ first, omega (arith, long, place, none))

  pub local_framed : (l : Layer) (x : Name) (t : Ty) (v : CellType) (vs rs : List Variable) → TypeIs k l.types t v → Counted l.types → IsNew vs (one_variable x t) → Frames l vs rs → Frames (local l x v) (vs ++ one_variable x t ∷ []) rs
  local_framed l x t v vs rs i c new h =
      let j : Frames (with_local l v).1 (vs ++ one_variable x t ∷ []) rs = result_framed l x t v vs rs i c new.has h in
      record {
        free = j.free;
        image = j.image;
        extents = j.extents;
        lying = lying_variable (vs ++ one_variable x t ∷ []) rs x (origin.Local (length l.frame.image)) v l.names (local_lies l x t vs rs new.other h) j.lying;
      }

  reference_lies : (l : Layer) (x : Name) (t : Ty) (vs rs : List Variable) → look x rs ≡ None → Frames l vs rs → (y : Name) → bytes_eq x y ≡ true → Lies vs (rs ++ one_variable x t ∷ []) y (origin.Reference (length l.frame.extents))
  reference_lies l x t vs rs new h y same =
      let turned : same_name y x ≡ true = bytes_turned y x ∙ same in
      let absent : look y rs ≡ None = ap (λ z. look z rs) (same_is y x turned) ∙ new in
      let first : look y (one_variable x t ∷ []) ≡ Some t = ap (λ b. if b then Some t else None) turned in
      let none : number_among y (one_variable x t ∷ []) ≡ 0 = ap (λ b. if b then 0 else 1) turned in
      let long : length l.frame.extents ≡ length rs = ap (λ zs. length zs) h.extents ∙ extents_length rs in
      let place = number_right y rs (one_variable x t ∷ []) absent in
      (t, look_right y rs (one_variable x t ∷ []) absent ∙ first, omega (arith, long, place, none))

  pub reference_framed : (l : Layer) (ps : Parameters) (x : Name) (t : Ty) (v : CellType) (vs rs : List Variable) → TypeIs k l.types t v → IsNew rs (one_variable x t) → Frames l vs rs → Frames (var_parameter l ps x v).1 vs (rs ++ one_variable x t ∷ [])
  reference_framed l ps x t v vs rs i new h =
      let more : (y : Name) (o : PlaceOrigin) (u : CellType) → find y l.names ≡ Some (meaning.Variable o u) → Lies vs (rs ++ one_variable x t ∷ []) y o = λ y o u e. subst (λ ws. Lies ws (rs ++ one_variable x t ∷ []) y o) (append-nil vs) (lies_more vs rs [] (one_variable x t ∷ []) y o (h.lying y o u e)) in
      record {
        free = h.free;
        image = h.image;
        extents = ap (λ zs. zs ++ symbol_kinds.cells_of l.types v ∷ []) h.extents ∙ ap (λ n. extents rs ++ n ∷ []) (cells_same k l.types t v i new.has.few) ∙ sym (extents_append rs (one_variable x t ∷ []));
        lying = lying_variable vs (rs ++ one_variable x t ∷ []) x (origin.Reference (length l.frame.extents)) v l.names (reference_lies l x t vs rs new.other h) more;
      }
