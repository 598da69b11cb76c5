-- The layouts of a tree know the headings of routines and of initial statements where the statements of each begin.
use Rattle.std.proofs.Common.{◌≡◌, ◌+◌, ◌<◌, ◌≤◌, ℕ, zero, suc, Bool, true, false, ◌&&◌, if◌then◌else◌, nat_le, nat_lt, List, [], ◌∷◌, ◌++◌, length, Option, Some, None, slice_get, refl, sym, ap, subst, ◌∙◌, inl, inr, arith}
use Rattle.cp_resolved.proofs.Words.{bytes_eq, leb-true, ltb-true, none-some, same_Some, PlaceOrigin, Compounds, Parameters, entry_among, entry_in, entry_of, Name, Ty}
use Rattle.cp_resolved.proofs.Words.{Parameter, RoutineMeaning, system_of, routine_of_type, all_begun, all_calls_laid, Chosen, field_chosen, Numbering, Here, slot_of}
use Rattle.cp_resolved.proofs.Words.{is_parameter, is_own, IsPlaced, place_of, Opening, openings_of, meaning_in, meaning_at, numbering_of, initial_in, initial_of}
use Rattle.cp_resolved.proofs.Words.{IsDistinct, StartIs, KnowsStarts}
use Rattle.cp_tree.specs.Syntax as syntax
use Rattle.cp_symbols.specs.declared.names.LayoutMeaning.TheVariants as meaning
use Rattle.cp_slots.specs.Code as code
use Rattle.cp_layout.specs.Layers as layers
use Rattle.cp_layout.specs.Layers.{Names, Layer, Heading, System, nothing_laid}
use Rattle.cp_meaning.specs.Types as named
use Rattle.cp_meaning.specs.Scopes as scopes
use Rattle.cp_resolved.specs.Compiled.{Designated, a_variable, some_components, a_component, component_begun, result_begun, begun_form, with_field_form, field_of_form, part_of_form, element_of_form, with_element_form, ordinal_form, with_index_form, expression_form, selected_form, chosen_form}
use Rattle.cp_resolved.specs.FormedParts.{ParametersAre, parameters_in, HeadingIs, KnowsHeadings}
use Rattle.cp_resolved.specs.HeadingsKnow.{HeadingsLaw}
use Rattle.cp_resolved.specs.TreeLayouts.{all_parts, layer_or, parts_at, begun_at, whole_laid, origin_in, hidden_origin, initial_or, owner_in}
use Rattle.cp_resolved.specs.Used.{system_type}
use Rattle.cp_resolved.proofs.names.Chained.{chain_between, all_chain}
use Rattle.cp_resolved.proofs.names.Entries.{there, still_there}
use Rattle.cp_resolved.proofs.items.Expressions.{inside}
use Rattle.cp_resolved.proofs.laid.Extends.{Extends}
use Rattle.cp_resolved.proofs.names.Headed.{IsRoutine, OwnedBy, AreOwned, OwnParameters, Headed, AreHeaded, found_owned}
use Rattle.cp_resolved.proofs.names.HeadedPrograms.{Spans, span_at, TreeHeaded, all_headed}
use Rattle.cp_resolved.proofs.names.HeadingsFound.{AreFound}
use Rattle.cp_resolved.proofs.names.Knowing.{IsThere}
use Rattle.cp_resolved.proofs.names.Opened.{opened_all}
use Rattle.cp_resolved.proofs.names.SystemsFound.{slots_in, parameters_grown}
use Rattle.cp_resolved.proofs.names.TreeKnown.{owner_is, found_known, LowBy, variable_low, Opens, opens_of}

-- ---- slots of parameters that are found

found_are : (k : Numbering) (ts : Compounds) (ns : Names) (other : Name → PlaceOrigin) (qs : List Parameter) (ps : Parameters) → AreFound k ts ns qs ps → ParametersAre k ts (λ x. slot_of (origin_in (other x) (layers.find x ns))) qs ps
found_are k ts ns other [] [] h = tt
found_are k ts ns other (q ∷ qs) (p ∷ ps) h = (h.0.slot ∙ sym (ap (λ o. slot_of (origin_in (other q.name) o)) h.0.there), h.0.passed, found_are k ts ns other qs ps h.1)
found_are k ts ns other _ _ h = absurd h

-- the entries of a system type lie between its numbers
entry_bounds : (s : System) (hs : List Heading) (n : ℕ) (x : List ℕ) (i : ℕ) → entry_among s hs n x ≡ Some i → (s.first ≤ i) × (i < s.initial)
entry_bounds s [] n x i e = absurd (none-some i e)
entry_bounds s (h ∷ hs) n x i e = go (nat_le s.first n) (nat_lt n s.initial) (bytes_eq h.name x) refl refl (entry_bounds s hs (n + 1) x i) e
  where
    go : (a b c : Bool) → nat_le s.first n ≡ a → nat_lt n s.initial ≡ b → (entry_among s hs (n + 1) x ≡ Some i → (s.first ≤ i) × (i < s.initial)) → (if a && (b && c) then Some n else entry_among s hs (n + 1) x) ≡ Some i → (s.first ≤ i) × (i < s.initial)
    go true true true f g rest w =
        let same : n ≡ i = same_Some n i w in
        (subst (λ m. s.first ≤ m) same (leb-true s.first n f), subst (λ m. m < s.initial) same (ltb-true n s.initial g))
    go true true false f g rest w = rest w
    go true false c f g rest w = rest w
    go false b c f g rest w = rest w

module _ (t : syntax.Tree) (place : IsPlaced t) (distinct : IsDistinct t.program) where
  abbrev k : Numbering
  k = numbering_of t.program

  abbrev os : List Opening
  os = openings_of t.program

  abbrev OneHeaded : Layer → Opening → Type 0
  OneHeaded l o = Headed k t.program os (all_parts t) distinct.values l o

  abbrev Owned : ℕ → ℕ → Type 0
  Owned w i = OwnedBy k t.program os (all_parts t) distinct.values w i

  heads : TreeHeaded k t distinct.values
  heads = all_headed k t distinct.values place.plain.small place.plain.fit distinct place.plain.numbered (opened_all t.program)

  record HeadIn (m : ℕ) (ls : List Layer) (i : ℕ) (o : Opening) : Type 0 where
    pub layer : Layer
    pub there : slice_get ls i ≡ Some layer
    pub number : length layer.routines ≡ m + i
    pub headed : OneHeaded layer o

  head_in : (m : ℕ) (ls : List Layer) (qs : List Opening) (i : ℕ) (o : Opening) → AreHeaded k t.program os (all_parts t) distinct.values m ls qs → slice_get qs i ≡ Some o → HeadIn m ls i o
  head_in m [] [] i o h e = absurd (none-some o e)
  head_in m (l ∷ ls) (q ∷ qs) zero o h e = record { layer = l; there = refl; number = omega (arith, h.0); headed = subst (OneHeaded l) (same_Some q o e) h.1 }
  head_in m (l ∷ ls) (q ∷ qs) (suc i) o h e =
      let w : HeadIn (suc m) ls i o = head_in (suc m) ls qs i o h.2 e in
      let c : length w.layer.routines ≡ suc m + i = w.number in
      record { layer = w.layer; there = w.there; number = omega (arith, c); headed = w.headed }
  head_in m _ _ i o h e = absurd h

  record HeadAt (i : ℕ) (o : Opening) : Type 0 where
    pub layer : Layer
    pub there : slice_get (all_begun t) i ≡ Some layer
    pub number : length layer.routines ≡ i
    pub headed : OneHeaded layer o

  head_at : (i : ℕ) (o : Opening) → slice_get os i ≡ Some o → HeadAt i o
  head_at i o e =
      let w : HeadIn 0 (all_begun t) i o = head_in 0 (all_begun t) os i o heads.headed e in
      let c : length w.layer.routines ≡ 0 + i = w.number in
      record { layer = w.layer; there = w.there; number = omega (arith, c); headed = w.headed }

  module _ (n : ℕ) (l : Layer) (e : slice_get (all_begun t) n ≡ Some l) where
    abbrev h : Here
    h = place_of t n

    w : Opens k t place.once os n l
    w = opens_of t place n l e

    own_head : HeadAt n w.opening
    own_head = head_at n w.opening w.there

    same_layer : own_head.layer ≡ l
    same_layer = same_Some own_head.layer l (sym own_head.there ∙ e)

    many : length l.routines ≡ n
    many = ap (λ (x : Layer). length x.routines) (sym same_layer) ∙ own_head.number

    -- ---- a heading that is laid out so far

    record Earlier (i : ℕ) (o : Opening) : Type 0 where
      pub layer : Layer
      pub there : slice_get (all_begun t) i ≡ Some layer
      pub headed : OneHeaded layer o
      pub more : Compounds
      pub types : l.types ≡ layer.types ++ more
      pub parameters : parameters_in (slice_get l.headings i) ≡ headed.own.parameters

    earlier : (i : ℕ) (o : Opening) → i ≤ n → slice_get os i ≡ Some o → Earlier i o
    earlier i o le f =
        let x : HeadAt i o = head_at i o f in
        let d : Extends x.layer l = chain_between (nothing_laid t.lines) (all_begun t) (whole_laid t) i n x.layer l (all_chain t) le x.there e in
        let first : slice_get x.layer.headings i ≡ Some x.headed.own = ap (slice_get x.layer.headings) (sym x.number) ∙ x.headed.there in
        record {
          layer = x.layer;
          there = x.there;
          headed = x.headed;
          more = d.types.0;
          types = d.types.1;
          parameters = ap parameters_in (ap (λ hs. slice_get hs i) d.headings.1 ∙ still_there x.layer.headings d.headings.0 i x.headed.own first);
        }

    begun_same : (i : ℕ) (m : Layer) → slice_get (all_begun t) i ≡ Some m → begun_at t i ≡ m
    begun_same i m f = ap (layer_or (nothing_laid t.lines)) f

    abbrev cells_at : (i : ℕ) (b : Layer) → Name → ℕ
    cells_at i b x = slot_of (origin_in (hidden_origin b (all_calls_laid (meaning_at t.program i).scope (meaning_at t.program i).body) x) (layers.find x b.names))

    -- of a routine
    heading_is : (i : ℕ) (o : Opening) → i ≤ n → slice_get os i ≡ Some o → IsRoutine o.name → HeadingIs k h l i (k.routines i)
    heading_is i o le f routine =
        let x : Earlier i o = earlier i o le f in
        let found : AreFound k x.layer.types x.layer.names o.meaning.parameters x.headed.own.parameters = go o.name routine x.headed.own x.layer x.headed.fits in
        let a : ParametersAre k x.layer.types (cells_at i x.layer) o.meaning.parameters x.headed.own.parameters =
        found_are k x.layer.types x.layer.names (λ y. hidden_origin x.layer (all_calls_laid (meaning_at t.program i).scope (meaning_at t.program i).body) y) o.meaning.parameters x.headed.own.parameters found in
        let b : ParametersAre k l.types (cells_at i x.layer) o.meaning.parameters x.headed.own.parameters =
        subst (λ ts. ParametersAre k ts (cells_at i x.layer) o.meaning.parameters x.headed.own.parameters) (sym x.types) (parameters_grown k x.layer.types x.more (cells_at i x.layer) o.meaning.parameters x.headed.own.parameters a) in
        let c : ParametersAre k l.types (cells_at i (begun_at t i)) o.meaning.parameters x.headed.own.parameters = subst (λ m. ParametersAre k l.types (cells_at i m) o.meaning.parameters x.headed.own.parameters) (sym (begun_same i x.layer x.there)) b in
        let d : ParametersAre k l.types (cells_at i (begun_at t i)) (meaning_at t.program i).parameters x.headed.own.parameters =
        subst (λ (m : RoutineMeaning). ParametersAre k l.types (cells_at i (begun_at t i)) m.parameters x.headed.own.parameters) (sym (ap (meaning_in _) f)) c in
        record { same = refl; parameters = subst (ParametersAre k l.types (cells_at i (begun_at t i)) (meaning_at t.program i).parameters) (sym x.parameters) d }
      where
        go : (q : Option Name) → IsRoutine q → (g : Heading) (m : Layer) → OwnParameters k t.program os (all_parts t) distinct.values q m o g → AreFound k m.types m.names o.meaning.parameters g.parameters
        go None i g m f = absurd i
        go (Some y) i g m f = f

    owned_is : (v i : ℕ) → i ≤ n → Owned v i → (h.layouts.owners i ≡ v) × HeadingIs k h l i (k.routines i)
    owned_is v i le x = (ap (owner_in _) x.there ∙ x.owner, heading_is i x.opening le x.there x.routine)

    -- ---- routines that are visible

    visible : (x : Name) (i : ℕ) → layers.find x l.names ≡ Some (meaning.Routine i) → (h.layouts.owners i ≡ h.system) × HeadingIs k h l i (k.routines i)
    visible x i f =
        let o : Opening = w.opening in
        let low : i ≤ length l.routines = found_known t place n l o e w.there w.begins x (meaning.Routine i) f in
        let owned : Owned o.owner i = found_owned k t.program os (all_parts t) distinct.values o.owner x i l.names (subst (λ (m : Layer). AreOwned k t.program os (all_parts t) distinct.values o.owner m.names) same_layer own_head.headed.names) f in
        let r = owned_is o.owner i (omega (arith, low, many)) owned in
        (r.0 ∙ sym (owner_is t place n l o e w.there w.begins), r.1)

    -- ---- system types

    record Whole (j : ℕ) : Type 0 where
      pub system : System
      pub there : slice_get l.systems j ≡ Some system
      pub whole : slice_get (whole_laid t).systems j ≡ Some system
      pub spans : Spans k t.program os (all_parts t) distinct.values j system

    whole_at : (j : ℕ) → j < length l.systems → Whole j
    whole_at j low =
        let s : (s : System) × (slice_get l.systems j ≡ Some s) = there l.systems j low in
        let f : slice_get (whole_laid t).systems j ≡ Some s.0 = ap (λ ss. slice_get ss j) w.begins.systems.1 ∙ still_there l.systems w.begins.systems.0 j s.0 s.1 in
        let z : 0 + j ≡ j = omega arith in
        record { system = s.0; there = s.1; whole = f; spans = subst (λ i. Spans k t.program os (all_parts t) distinct.values i s.0) z (span_at k t.program os (all_parts t) distinct.values 0 (whole_laid t).systems j s.0 heads.spans f) }

    entry_is : (j : ℕ) (y : Name) (r : RoutineMeaning) (i : ℕ) → j < length l.systems → routine_of_type t.program (named.component_of j) y ≡ Some r → entry_of l j y ≡ Some i → (h.layouts.owners i ≡ j) × HeadingIs k h l i r
    entry_is j y r i low f g =
        let x : IsThere k t.program l j y r = w.begins.knowing.entries j y r low f in
        let same : x.number ≡ i = same_Some x.number i (sym x.there ∙ g) in
        let s : Whole j = whole_at j low in
        let between = entry_bounds s.system l.headings 0 y i (sym (ap (λ o. entry_in o l.headings y) s.there) ∙ g) in
        let below : x.number < length l.headings = x.below in
        let count : length l.headings ≡ suc (length l.routines) = w.begins.count in
        let owned = owned_is j i (omega (arith, below, same, count, many)) (s.spans.routines i between.0 between.1) in
        (owned.0, subst (HeadingIs k h l i) (ap k.routines (sym same) ∙ x.same) owned.1)

    entry_known : (u : Ty) (y : Name) (r : RoutineMeaning) (i : ℕ) → LowBy t place n l w.opening e w.there w.begins u → routine_of_type t.program u y ≡ Some r → entry_of l (system_type u) y ≡ Some i → (h.layouts.owners i ≡ system_type u) × HeadingIs k h l i r
    entry_known (named.component_of j) y r i low f g = entry_is j y r i (low j (inl refl)) f g
    entry_known (named.array_over s (named.component_of j)) y r i low f g = entry_is j y r i (low j (inr (s, refl))) f g
    entry_known _ y r i low f g = absurd (none-some r f)

    headings_known : KnowsHeadings k h l
    headings_known = record { own = visible; entry = λ x y u r i f g v. entry_known u y r i (variable_low t place n l w.opening e w.there w.begins x u f) g v }

    -- ---- initial statements

    start_is : (j : ℕ) → j < length l.systems → StartIs k h l j
    start_is j low =
        let s : Whole j = whole_at j low in
        let i : ℕ = s.system.initial in
        let less : i < length l.routines = w.begins.knowing.named.systems j s.system s.there in
        let first : initial_of l j ≡ i = ap initial_in s.there in
        let o : Opening = s.spans.opening in
        let x : Earlier i o = earlier i o (omega (arith, less, many)) s.spans.there in
        let f : (q : Layer) × (slice_get (all_parts t) o.owner ≡ Some q) × ParametersAre k x.layer.types (slots_in q.names) (system_of t.program o.owner).parameters x.headed.own.parameters =
        subst (λ (y : Option Name). OwnParameters k t.program os (all_parts t) distinct.values y x.layer o x.headed.own) s.spans.name x.headed.fits in
        let q : Layer = f.0 in
        let around : parts_at t j ≡ q = ap (parts_at t) (sym s.spans.owner) ∙ ap (layer_or (nothing_laid t.lines)) f.1 in
        let a : ParametersAre k x.layer.types (slots_in q.names) (system_of t.program j).parameters x.headed.own.parameters = subst (λ c. ParametersAre k x.layer.types (slots_in q.names) (system_of t.program c).parameters x.headed.own.parameters) s.spans.owner f.2 in
        let b : ParametersAre k l.types (slots_in q.names) (system_of t.program j).parameters x.headed.own.parameters =
        subst (λ ts. ParametersAre k ts (slots_in q.names) (system_of t.program j).parameters x.headed.own.parameters) (sym x.types) (parameters_grown k x.layer.types x.more (slots_in q.names) (system_of t.program j).parameters x.headed.own.parameters a) in
        let c : ParametersAre k l.types (slots_in (parts_at t j).names) (system_of t.program j).parameters x.headed.own.parameters = subst (λ (m : Layer). ParametersAre k l.types (slots_in m.names) (system_of t.program j).parameters x.headed.own.parameters) (sym around) b in
        let d : ParametersAre k l.types (slots_in (parts_at t j).names) (system_of t.program j).parameters (parameters_in (slice_get l.headings i)) = subst (ParametersAre k l.types (slots_in (parts_at t j).names) (system_of t.program j).parameters) (sym x.parameters) c in
        record {
          initial = first ∙ sym (ap (initial_or _) s.whole);
          parameters = subst (λ m. ParametersAre k l.types (slots_in (parts_at t j).names) (system_of t.program j).parameters (parameters_in (slice_get l.headings m))) (sym first) d;
        }

    -- ---- what a designator can be

    abbrev IsLow : Designated → Type 0
    IsLow (a_variable q u) = Unit {0}
    IsLow (some_components first r j) = j < length l.systems
    IsLow (a_component c j) = j < length l.systems

    chosen_same : (c d : Designated) → Some c ≡ Some d → IsLow c → IsLow d
    chosen_same c d f = subst IsLow (same_Some c d f)

    component_low : (x : Name) (j : ℕ) (b : Bool) → j < length l.systems → IsLow (component_begun h x j b)
    component_low x j true low = low
    component_low x j false low = low

    permanent_low : (x : Name) (u : Ty) (d : Designated) → LowBy t place n l w.opening e w.there w.begins u → begun_form h x (Some (scopes.permanent_variable u)) ≡ Some d → IsLow d
    permanent_low x (named.component_of j) d low f = chosen_same _ d f (component_low x j (is_parameter x (system_of t.program h.system).parameters) (low j (inl refl)))
    permanent_low x (named.array_over r (named.component_of j)) d low f = chosen_same _ d f (low j (inr (r, refl)))
    permanent_low x _ d low f = chosen_same _ d f tt

    result_low : (b : Bool) (d : Designated) → result_begun h b ≡ Some d → IsLow d
    result_low true d f = chosen_same _ d f tt
    result_low false d f = absurd (none-some d f)

    begun_low : (x : Name) (o : Option scopes.Meaning) (d : Designated) → scopes.find x h.scope ≡ o → begun_form h x o ≡ Some d → IsLow d
    begun_low x (Some (scopes.permanent_variable u)) d g f = permanent_low x u d (variable_low t place n l w.opening e w.there w.begins x u g) f
    begun_low x (Some (scopes.local_variable u)) d g f = chosen_same _ d f tt
    begun_low x (Some (scopes.routine_meaning r)) d g f = result_low (is_own h x) d f
    begun_low x _ d g f = absurd (none-some d f)

    part_low : (q : code.Place) (c : Chosen) (d : Designated) → Some (part_of_form q c) ≡ Some d → IsLow d
    part_low (code.place o offset is) c d f = chosen_same _ d f tt

    field_low : (u : Ty) (q : code.Place) (x : Name) (d : Designated) → field_of_form u q x ≡ Some d → IsLow d
    field_low (named.record_with us) q x d f = let v = inside (field_chosen us x) (λ c. Some (part_of_form q c)) d f in part_low q v.0 d v.2
    field_low _ q x d f = absurd (none-some d f)

    named_low : (c : Designated) (x : Name) (d : Designated) → IsLow c → with_field_form c x ≡ Some d → IsLow d
    named_low (a_variable q u) x d low f = field_low u q x d f
    named_low (a_component c j) x d low f = chosen_same (a_component c j) d f low
    named_low (some_components first r j) x d low f = absurd (none-some d f)

    element_low : (u : Ty) (q : code.Place) (i : code.OrdinalExpression) (d : Designated) → element_of_form u q i ≡ Some d → IsLow d
    element_low (named.array_over r u) (code.place o offset is) i d f = chosen_same _ d f tt
    element_low _ q i d f = absurd (none-some d f)

    index_low : (c : Designated) (i : code.OrdinalExpression) (d : Designated) → IsLow c → with_element_form h c i ≡ Some d → IsLow d
    index_low (a_variable q u) i d low f = element_low u q i d f
    index_low (some_components first r j) i d low f = chosen_same _ d f low
    index_low (a_component c j) i d low f = absurd (none-some d f)

    chosen_low : (s : syntax.Selector) (c d : Designated) → IsLow c → chosen_form h s c ≡ Some d → IsLow d
    chosen_low (syntax.field x) c d low f = named_low c x.name d low f
    chosen_low (syntax.index a) c d low f =
        let v = inside (expression_form h a) (with_index_form h c) d f in
        let u = inside (ordinal_form v.0.form) (with_element_form h c) d v.2 in
        index_low c u.0 d low u.2

    selected_low : (ss : syntax.Selectors) (c d : Designated) → IsLow c → selected_form h ss c ≡ Some d → IsLow d
    selected_low syntax.no_selectors c d low f = chosen_same c d f low
    selected_low (syntax.more_selectors s ss) c d low f =
        let v = inside (chosen_form h s c) (selected_form h ss) d f in
        selected_low ss v.0 d (chosen_low s c v.0 low v.1) v.2

    starts_known : KnowsStarts k h l
    starts_known (syntax.designator x ss) c j f =
        let v = inside (begun_form h x.name (scopes.find x.name h.scope)) (selected_form h ss) (a_component c j) f in
        start_is j (selected_low ss v.0 (a_component c j) (begun_low x.name (scopes.find x.name h.scope) v.0 refl v.1) v.2)

pub headings_law : HeadingsLaw
headings_law t place distinct n l e = record { headings = headings_known t place distinct n l e; starts = starts_known t place distinct n l e }
