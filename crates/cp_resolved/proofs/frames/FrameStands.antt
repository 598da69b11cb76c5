-- The frame of a routine has what its layout says: cells, first values, and the numbers of `var` parameters.
use Rattle.std.proofs.Common.{◌≡◌, ◌+◌, ◌≤◌, ◌⊎◌, inl, inr, ℕ, zero, suc, pos, Bool, true, false, if◌then◌else◌, List, ◌++◌, length, Option, Some, None, refl, sym, ap, subst, ◌∙◌, arith}
use Rattle.cp_resolved.proofs.Words.{none-some, PlaceOrigin, LayoutMeaning, Layer, own_result, Name, same_name, temporary, result_name, Ty, number_value, Scope}
use Rattle.cp_resolved.proofs.Words.{local_variable, find, Variable, RoutineMeaning, Item, parameter_variables, all_calls_laid, calls_before, HasType, AreDeclared}
use Rattle.cp_resolved.proofs.Words.{routine_variables, IsOrdinal, Numbering, IsInFrame, InStep, FoundIs, cells_of, look, FrameLayout, cell_named, slot_of, IsWord}
use Rattle.cp_resolved.proofs.Words.{AreWords, Each, call_variables, result_variables, parameters_by, frame_layout, hidden_origin, origin_in}
use Rattle.cp_tree.specs.Syntax as syntax
use Rattle.cp_slots.specs.declared.place.PlaceOrigin.TheVariants as origin
use Rattle.cp_symbols.specs.declared.names.LayoutMeaning.TheVariants as meaning
use Rattle.cp_layout.specs.Layers as layers
use Rattle.cp_meaning.specs.Types as named
use Rattle.cp_meaning.specs.Scopes as scopes
use Rattle.cp_resolved.specs.Calls as calls
use Rattle.cp_resolved.specs.Resolved.{AreApart}
use Rattle.cp_resolved.proofs.frames.FrameCells.{itself, same_is, look_left, look_right, look_either, look_each, none_left, none_both, total, cells_before, images_length, before_inside, before_apart, number_among}
use Rattle.cp_resolved.proofs.frames.FrameSteps.{Lies, Frames}
use Rattle.cp_resolved.proofs.frames.FramesBegun.{no_parameter}
use Rattle.cp_resolved.proofs.frames.LeastCells.{zero_typed}
use Rattle.cp_resolved.proofs.agreeing.ScopeVariables.{Among, among_left, among_right, look_among, never_missing, among_look}
use Rattle.cp_resolved.proofs.names.Steps.{found_in}
use Rattle.cp_resolved.proofs.names.TreeKnown.{undeclared_name}
use Rattle.cp_resolved.proofs.frames.FrameKnown.{no_word, by_all, missing_all, never_both, IsTemporary, temporary_of, before_all, before_other}

differ : (a b : ℕ) → (a ≡ b → ⊥) → (a + 1 ≤ b) ⊎ (b + 1 ≤ a)
differ zero zero h = absurd (h refl)
differ zero (suc b) h = inl (omega arith)
differ (suc a) zero h = inr (omega arith)
differ (suc a) (suc b) h = go (differ a b (λ e. h (ap suc e)))
  where
    go : (a + 1 ≤ b) ⊎ (b + 1 ≤ a) → (suc a + 1 ≤ suc b) ⊎ (suc b + 1 ≤ suc a)
    go (inl i) = inl (omega (arith, i))
    go (inr i) = inr (omega (arith, i))

one_cell : (t : Ty) → IsOrdinal t → cells_of t ≡ 1
one_cell (named.ordinal r) h = refl
one_cell _ h = absurd h

pub zero_has : (t : Ty) → IsOrdinal t → HasType t (number_value (pos 0))
zero_has (named.ordinal r) h = zero_typed r
zero_has _ h = absurd h

pub is_result : (x : Name) (t : Ty) (o : Option Ty) → look x (result_variables o) ≡ Some t → x ≡ result_name
is_result x t None e = absurd (none-some t e)
is_result x t (Some u) e = go (same_name x result_name) refl e
  where
    go : (b : Bool) → same_name x result_name ≡ b → (if b then Some u else None) ≡ Some t → x ≡ result_name
    go true w f = same_is x result_name w
    go false w f = absurd (none-some t f)

module _ (k : Numbering) (p : syntax.Program) (m : RoutineMeaning) (l : Layer) (declared : AreDeclared local_variable m.scope (routine_variables m)) (words : AreWords m.scope) (steps : InStep k l.types l.names m.scope) where
  abbrev pub cs : List Item
  cs = all_calls_laid m.scope m.body

  abbrev pub f : FrameLayout
  f = frame_layout p m l

  abbrev pub first : List Variable
  first = parameters_by false m.parameters

  -- in the order in which they have their cells
  abbrev pub all : List Variable
  all = (first ++ result_variables m.result) ++ m.variables

  abbrev pub refs : List Variable
  refs = parameters_by true m.parameters

  no_local : (x : Name) → (IsWord x → ⊥) → look x (routine_variables m) ≡ None
  no_local x bad = no_word x m.scope (routine_variables m) bad words declared.visible

  no_first : (x : Name) → (IsWord x → ⊥) → look x first ≡ None
  no_first x bad = no_parameter false x m.parameters (none_left x (parameter_variables m.parameters) m.variables (no_local x bad))

  -- in the layout the result stands before the parameters
  turned : (x : Name) (t : Ty) → look x (result_variables m.result ++ (first ++ m.variables)) ≡ Some t → look x all ≡ Some t
  turned x t e = go (look_either x t (result_variables m.result) (first ++ m.variables) e)
    where
      after : (look x first ≡ Some t) ⊎ ((look x first ≡ None) × (look x m.variables ≡ Some t)) → look x (result_variables m.result) ≡ None → look x all ≡ Some t
      after (inl g) none = look_left x t (first ++ result_variables m.result) m.variables (look_left x t first (result_variables m.result) g)
      after (inr g) none = look_right x (first ++ result_variables m.result) m.variables (none_both x first (result_variables m.result) g.0 none) ∙ g.1

      go : (look x (result_variables m.result) ≡ Some t) ⊎ ((look x (result_variables m.result) ≡ None) × (look x (first ++ m.variables) ≡ Some t)) → look x all ≡ Some t
      go (inl g) =
          let same : x ≡ result_name = is_result x t m.result g in
          let none : look x first ≡ None = subst (λ y. look y first ≡ None) (sym same) (no_first result_name (λ i. i)) in
          look_left x t (first ++ result_variables m.result) m.variables (look_right x first (result_variables m.result) none ∙ g)
      go (inr g) = after (look_either x t first m.variables g.1) g.0

  -- a variable that has cells is the result, or is declared
  declared_or : (x : Name) (t : Ty) → look x all ≡ Some t → (x ≡ result_name) ⊎ Among x t (first ++ m.variables)
  declared_or x t e = go (look_either x t (first ++ result_variables m.result) m.variables e)
    where
      inner : (look x first ≡ Some t) ⊎ ((look x first ≡ None) × (look x (result_variables m.result) ≡ Some t)) → (x ≡ result_name) ⊎ Among x t (first ++ m.variables)
      inner (inl g) = inr (among_left x t first m.variables (look_among x t first g))
      inner (inr g) = inl (is_result x t m.result g.1)

      go : (look x (first ++ result_variables m.result) ≡ Some t) ⊎ ((look x (first ++ result_variables m.result) ≡ None) × (look x m.variables ≡ Some t)) → (x ≡ result_name) ⊎ Among x t (first ++ m.variables)
      go (inl g) = inner (look_either x t first (result_variables m.result) g)
      go (inr g) = inr (among_right x t first m.variables (look_among x t m.variables g.1))

  -- ---- where names lie

  not_found : (q : Option LayoutMeaning) (s : Scope) → FoundIs k l.types q None s → q ≡ None
  not_found None s h = refl
  not_found (Some n) s h = absurd h

  hidden : (x : Name) → (IsWord x → ⊥) → f.origins x ≡ hidden_origin l cs x
  hidden x bad =
      let none : find x m.scope ≡ None = undeclared_name x m.scope bad words in
      ap (origin_in (hidden_origin l cs x)) (not_found (layers.find x l.names) (scopes.since x m.scope) (subst (λ q. FoundIs k l.types (layers.find x l.names) q (scopes.since x m.scope)) none (found_in k l.types x l.names m.scope steps)))

  seen : (x : Name) (t : Ty) → Among x t (routine_variables m) → find x m.scope ≡ Some (local_variable t)
  seen x t a = look_each (λ v. find v.name m.scope ≡ Some (local_variable v.ty)) x t (routine_variables m) declared.visible (among_look x t (routine_variables m) declared.different a)

  module _ (frames : Frames l all refs) where
    lies_at : (x : Name) (t : Ty) → find x m.scope ≡ Some (local_variable t) → (o : PlaceOrigin) × (f.origins x ≡ o) × IsInFrame o × Lies all refs x o
    lies_at x t e = go (layers.find x l.names) refl (subst (λ q. FoundIs k l.types (layers.find x l.names) q (scopes.since x m.scope)) e (found_in k l.types x l.names m.scope steps))
      where
        go : (q : Option LayoutMeaning) → layers.find x l.names ≡ q → FoundIs k l.types q (Some (local_variable t)) (scopes.since x m.scope) → (o : PlaceOrigin) × (f.origins x ≡ o) × IsInFrame o × Lies all refs x o
        go None g h = absurd h
        go (Some n) g h =
            let there : layers.find x l.names ≡ Some (meaning.Variable h.origin h.value_type) = g ∙ ap (λ y. Some y) h.is in
            (h.origin, ap (origin_in (hidden_origin l cs x)) there, h.in_frame, frames.lying x h.origin h.value_type there)

    declared_origin : (x : Name) (t : Ty) → Among x t (first ++ m.variables) → f.origins x ≡ origin.Local (cells_before x all)
    declared_origin x t a = let w = lies_at x t (seen x t (missing_all x t m.parameters m.variables a)) in go w.0 w.1 w.2 w.3
      where
        go : (o : PlaceOrigin) → f.origins x ≡ o → IsInFrame o → Lies all refs x o → f.origins x ≡ origin.Local (cells_before x all)
        go (origin.Local n) e i h = e ∙ ap origin.Local h.2
        go (origin.Reference n) e i h = absurd (never_both x t h.0 m.parameters m.variables declared.different a (look_among x h.0 refs h.1))
        go (origin.Permanent n) e i h = absurd i

    pub reference_origin : (x : Name) (t : Ty) → look x refs ≡ Some t → f.origins x ≡ origin.Reference (number_among x refs)
    reference_origin x t e = let w = lies_at x t (seen x t inside) in go w.0 w.1 w.2 w.3
      where
        inside : Among x t (routine_variables m)
        inside = among_left x t (parameter_variables m.parameters) m.variables (by_all true x t m.parameters (look_among x t refs e))

        bad : (u : Ty) → (x ≡ result_name) ⊎ Among x u (first ++ m.variables) → ⊥
        bad u (inl same) = never_missing x t (routine_variables m) inside (subst (λ y. look y (routine_variables m) ≡ None) (sym same) (no_local result_name (λ i. i)))
        bad u (inr a) = never_both x u t m.parameters m.variables declared.different a (look_among x t refs e)

        go : (o : PlaceOrigin) → f.origins x ≡ o → IsInFrame o → Lies all refs x o → f.origins x ≡ origin.Reference (number_among x refs)
        go (origin.Local n) g i h = absurd (bad h.0 (declared_or x h.0 h.1))
        go (origin.Reference n) g i h = g ∙ ap origin.Reference h.2
        go (origin.Permanent n) g i h = absurd i

    module _ (slot : (t : Ty) → look result_name all ≡ Some t → own_result l ≡ cells_before result_name all) (apart : calls.AreApart cs) (ordinal : Each (λ v. IsOrdinal v.ty) (call_variables p m.scope cs)) where
      all_origin : (x : Name) (t : Ty) → look x all ≡ Some t → f.origins x ≡ origin.Local (cells_before x all)
      all_origin x t e = go (declared_or x t e)
        where
          go : (x ≡ result_name) ⊎ Among x t (first ++ m.variables) → f.origins x ≡ origin.Local (cells_before x all)
          go (inl same) =
              let own : own_result l ≡ cells_before result_name all = slot t (subst (λ y. look y all ≡ Some t) same e) in
              subst (λ y. f.origins y ≡ origin.Local (cells_before y all)) (sym same) (hidden result_name (λ i. i) ∙ ap origin.Local own)
          go (inr a) = declared_origin x t a

      abbrev Case : Name → Ty → Type 0
      Case x t = IsTemporary x t cs ⊎ (look x all ≡ Some t)

      pub case_of : (x : Name) (t : Ty) → look x f.variables ≡ Some t → Case x t
      case_of x t e = go (look_either x t (call_variables p m.scope cs) (result_variables m.result ++ (first ++ m.variables)) e)
        where
          go : (look x (call_variables p m.scope cs) ≡ Some t) ⊎ ((look x (call_variables p m.scope cs) ≡ None) × (look x (result_variables m.result ++ (first ++ m.variables)) ≡ Some t)) → Case x t
          go (inl g) = inl (temporary_of p m.scope x t cs apart ordinal g)
          go (inr g) = inr (turned x t g.1)

      abbrev pub place : (x : Name) (t : Ty) → Case x t → ℕ
      place x t (inl e) = length l.frame.image + calls_before e.at cs
      place x t (inr e) = cells_before x all

      pub origin_is : (x : Name) (t : Ty) (c : Case x t) → f.origins x ≡ origin.Local (place x t c)
      origin_is x t (inl e) = subst (λ y. f.origins y ≡ origin.Local (length l.frame.image + calls_before e.at cs)) (sym e.is) (hidden (temporary e.at) (λ i. i))
      origin_is x t (inr e) = all_origin x t e

      pub cell_is : (x : Name) (t : Ty) (c : Case x t) → cell_named f x ≡ place x t c
      cell_is x t c = ap slot_of (origin_is x t c)

      image_total : length l.frame.image ≡ total all
      image_total = ap (λ zs. length zs) frames.image ∙ images_length all frames.free

      pub inside_all : (x : Name) (t : Ty) (c : Case x t) → place x t c + cells_of t ≤ length l.frame.image + length cs
      inside_all x t (inl e) = let a = before_all e.at cs e.among in let b = one_cell t e.ordinal in omega (arith, a, b)
      inside_all x t (inr e) = let a = before_inside cells_of x t all e in omega (arith, a, image_total)

      pub apart_all : (x y : Name) (t u : Ty) → same_name x y ≡ false → (c : Case x t) (d : Case y u) → (place x t c + cells_of t ≤ place y u d) ⊎ (place y u d + cells_of u ≤ place x t c)
      apart_all x y t u o (inr e) (inr g) = before_apart cells_of x y t u all o e g
      apart_all x y t u o (inl e) (inr g) = inr (let a = before_inside cells_of y u all g in omega (arith, a, image_total))
      apart_all x y t u o (inr e) (inl g) = inl (let a = before_inside cells_of x t all e in omega (arith, a, image_total))
      apart_all x y t u o (inl e) (inl g) = go (differ (calls_before e.at cs) (calls_before g.at cs) (λ s. never (before_other e.at g.at cs apart e.among g.among s)))
        where
          never : e.at ≡ g.at → ⊥
          never s = absurd (let bad : true ≡ false = sym (itself x) ∙ subst (λ z. same_name x z ≡ false) (g.is ∙ ap temporary (sym s) ∙ sym e.is) o in cc)

          go : (calls_before e.at cs + 1 ≤ calls_before g.at cs) ⊎ (calls_before g.at cs + 1 ≤ calls_before e.at cs) →
              (length l.frame.image + calls_before e.at cs + cells_of t ≤ length l.frame.image + calls_before g.at cs) ⊎ (length l.frame.image + calls_before g.at cs + cells_of u ≤ length l.frame.image + calls_before e.at cs)
          go (inl i) = inl (let b = one_cell t e.ordinal in omega (arith, i, b))
          go (inr i) = inr (let b = one_cell u g.ordinal in omega (arith, i, b))

      pub apart_cells : AreApart (cell_named f) f.variables
      apart_cells x y t u o e g =
          let c : Case x t = case_of x t e in
          let d : Case y u = case_of y u g in
          subst (λ b. (cell_named f x + cells_of t ≤ b) ⊎ (b + cells_of u ≤ cell_named f x)) (sym (cell_is y u d)) (subst (λ a. (a + cells_of t ≤ place y u d) ⊎ (place y u d + cells_of u ≤ a)) (sym (cell_is x t c)) (apart_all x y t u o c d))
