-- The parameters of each routine of the tables: none is a component, the `var` parameters have their numbers in order, and a result is an ordinal.
use Rattle.std.proofs.Common.{◌≡◌, ◌+◌, ◌<◌, ℕ, suc, Bool, true, false, if◌then◌else◌, List, [], ◌∷◌, ◌++◌, length, Option, Some, None, slice_get, refl, sym, ap, subst, ◌∙◌, append_assoc, append-nil, arith, length-append}
use Rattle.cp_resolved.proofs.Words.{Program, Tree, PlainTables, plain, laid, Layer, nothing_laid, routine_of, Tables, RoutineView, routine_at, no_routine}
use Rattle.cp_resolved.proofs.Words.{Name, local_variable, Variable, Parameter, RoutineMeaning, parameter_variables, all_begun, AreDifferent, AreDeclared}
use Rattle.cp_resolved.proofs.Words.{routine_variables, IsFramed, InStep, cell_named, slot_of, look, IsPlaced, Opening, openings_of, meaning_in, meaning_at, numbering_of}
use Rattle.cp_resolved.proofs.Words.{Each, IsFreeVariable, layer_or, begun_at, parameters_by, frame_layout, layouts_of, whole_laid}
use Rattle.cp_meaning.specs.Types.{Ty, ordinal, queue_type, set_over, array_over, record_with, component_of}
use Rattle.cp_resolved.specs.Framed as framed_specs
use Rattle.cp_resolved.specs.Headed.{IsNoComponent, IsOrdinalResult, NumberedBy, AreNumbered, HeadingFits}
use Rattle.cp_resolved.proofs.items.BodiesStand.{laid_routines, EndsAt, ends_at}
use Rattle.cp_resolved.proofs.items.Ended.{all_end}
use Rattle.cp_resolved.proofs.names.Entries.{there, entry_at}
use Rattle.cp_resolved.proofs.frames.FrameCells.{itself, look_right, extents_length, number_among, number_right}
use Rattle.cp_resolved.proofs.frames.FrameFits.{routine_fits}
use Rattle.cp_resolved.proofs.frames.FrameStands.{reference_origin}
use Rattle.cp_resolved.proofs.frames.FrameSteps.{Frames, one_variable}
use Rattle.cp_resolved.proofs.frames.FramesBegun.{RoutineFits, all_locals, variables_append, by_append, no_parameter}
use Rattle.cp_resolved.proofs.names.Opened.{opened_all}
use Rattle.cp_resolved.proofs.counts.RoutinesCounted.{Many, all_many}
use Rattle.cp_resolved.proofs.systems.SystemKnown.{later_new}
use Rattle.cp_resolved.proofs.names.TreeKnown.{layouts_law}
use Rattle.cp_resolved.proofs.components.VisibleComponents.{counted, begun_there, seated_there}
use Rattle.cp_resolved.proofs.laid.ZeroCells.{body_zeroed}
use Rattle.cp_resolved.specs.ItemsStand.{body_items}
use Rattle.cp_resolved.proofs.agreeing.AgreeingWritten.{each_left}

-- ---- types

free_no_component : (v : Variable) → IsFreeVariable v → IsNoComponent v.ty
free_no_component v h = go v.ty h
  where
    go : (u : Ty) → IsFreeVariable (record { name = v.name; ty = u }) → IsNoComponent u
    go (ordinal s) i = tt
    go queue_type i = tt
    go (set_over s) i = tt
    go (array_over s u) i = tt
    go (record_with us) i = tt
    go (component_of k) i = absurd (let bad : false ≡ true = i in cc)

no_components : (qs : List Parameter) → Each IsFreeVariable (parameter_variables qs) → Each (λ (q : Parameter). IsNoComponent q.ty) qs
no_components [] h = tt
no_components (q ∷ qs) h = (free_no_component (one_variable q.name q.ty) h.0, no_components qs h.1)

ordinal_result : (o : Option Ty) → framed_specs.IsOrdinalResult o → IsOrdinalResult o
ordinal_result None h = tt
ordinal_result (Some (ordinal s)) h = tt
ordinal_result _ h = absurd h

-- ---- `var` parameters in their order

-- one of them, by whether it is a `var` parameter
by_one : (q : Parameter) (post : List Parameter) (b : Bool) → q.is_var ≡ b → parameters_by true (q ∷ post) ≡ (if b then one_variable q.name q.ty ∷ parameters_by true post else parameters_by true post)
by_one q post b e = ap (λ c. if c then one_variable q.name q.ty ∷ parameters_by true post else parameters_by true post) e

module _ (slots : Name → ℕ) (qs : List Parameter) (vs : List Variable) (different : AreDifferent (parameter_variables qs ++ vs)) (slot : (x : Name) (u : Ty) → look x (parameters_by true qs) ≡ Some u → slots x ≡ number_among x (parameters_by true qs)) where
  abbrev Rest : ℕ → List Parameter → Type 0
  Rest n post = AreNumbered slots n (length (parameters_by true qs)) post

  new_one : (pre : List Parameter) (q : Parameter) (post : List Parameter) → qs ≡ pre ++ q ∷ post → look q.name (parameters_by true pre) ≡ None
  new_one pre q post e =
      let split : parameter_variables qs ++ vs ≡ parameter_variables pre ++ (one_variable q.name q.ty ∷ (parameter_variables post ++ vs)) =
      ap (λ ps. parameter_variables ps ++ vs) e ∙ ap (λ us. us ++ vs) (variables_append pre (q ∷ post)) ∙ append_assoc (parameter_variables pre) (one_variable q.name q.ty ∷ parameter_variables post) vs in
      no_parameter true q.name pre (later_new (parameter_variables pre) (parameter_variables post ++ vs) (one_variable q.name q.ty) (subst AreDifferent split different))

  one_numbered : (pre : List Parameter) (q : Parameter) (post : List Parameter) (b : Bool) → qs ≡ pre ++ q ∷ post → q.is_var ≡ b → Rest (length (parameters_by true (pre ++ q ∷ []))) post → NumberedBy b (slots q.name) (length (parameters_by true pre)) (λ n. Rest n post)
  one_numbered pre q post false e is rest =
      let same : parameters_by true (pre ++ q ∷ []) ≡ parameters_by true pre = by_append true pre (q ∷ []) ∙ ap (λ us. parameters_by true pre ++ us) (by_one q [] false is) ∙ append-nil (parameters_by true pre) in
      subst (λ us. Rest (length us) post) same rest
  one_numbered pre q post true e is rest =
      let v : Variable = one_variable q.name q.ty in
      let before : List Variable = parameters_by true pre in
      let after : List Variable = parameters_by true post in
      let all : parameters_by true qs ≡ before ++ v ∷ after = ap (λ ps. parameters_by true ps) e ∙ by_append true pre (q ∷ post) ∙ ap (λ us. before ++ us) (by_one q post true is) in
      let none : look q.name before ≡ None = new_one pre q post e in
      let found : look q.name (parameters_by true qs) ≡ Some q.ty = ap (look q.name) all ∙ look_right q.name before (v ∷ after) none ∙ ap (λ c. if c then Some q.ty else look q.name after) (itself q.name) in
      let first : number_among q.name (v ∷ after) ≡ 0 = ap (λ c. if c then 0 else suc (number_among q.name after)) (itself q.name) in
      let place = number_right q.name before (v ∷ after) none in
      let number : slots q.name ≡ number_among q.name (before ++ v ∷ after) = slot q.name q.ty found ∙ ap (λ us. number_among q.name us) all in
      let same : length (parameters_by true (pre ++ q ∷ [])) ≡ length (before ++ v ∷ []) = ap (λ us. length us) (by_append true pre (q ∷ []) ∙ ap (λ us. before ++ us) (by_one q [] true is)) in
      let one = length-append before (v ∷ []) in
      let next : length (parameters_by true (pre ++ q ∷ [])) ≡ length before + 1 = same ∙ one in
      (omega (arith, number, place, first), subst (λ n. Rest n post) next rest)

  numbered_from : (pre post : List Parameter) → qs ≡ pre ++ post → Rest (length (parameters_by true pre)) post
  numbered_from pre [] e = ap (λ ps. length (parameters_by true ps)) (sym (append-nil pre) ∙ sym e)
  numbered_from pre (q ∷ post) e = one_numbered pre q post q.is_var e refl (numbered_from (pre ++ q ∷ []) post (e ∙ sym (append_assoc pre (q ∷ []) post)))

  pub all_numbered : Rest 0 qs
  all_numbered = numbered_from [] qs refl

-- ---- a routine

module _ (t : Tree) (r : Tables) (same : plain r ≡ laid t) (place : IsPlaced t) (framed : IsFramed t) (n : ℕ) (lt : n < length r.routines) where
  abbrev p : Program
  p = t.program

  abbrev m : RoutineMeaning
  m = meaning_at p n

  -- its opening, and where its statements begin
  opened : (o : Opening) × (slice_get (openings_of p) n ≡ Some o)
  opened =
      let many : Many t = all_many (numbering_of p) t place.plain.small place.plain.fit place.plain.numbered (opened_all p) in
      let rs : length r.routines ≡ length (whole_laid t).routines = ap (λ (q : PlainTables). length q.routines) same ∙ ap (λ vs. length vs) (laid_routines t) in
      there (openings_of p) n (omega (arith, lt, rs, many.routines))

  meant : m ≡ opened.0.meaning
  meant = ap (meaning_in _) opened.1

  abbrev l : Layer
  l = (begun_there t place n opened.0 opened.1).0

  at : slice_get (all_begun t) n ≡ Some l
  at = (begun_there t place n opened.0 opened.1).1

  declared : AreDeclared local_variable m.scope (routine_variables m)
  declared = framed.locals n

  steps : InStep (numbering_of p) l.types l.names m.scope
  steps = (layouts_law t place n l at).names.names

  fits : RoutineFits (numbering_of p) (whole_laid t).types (counted t place) m
  fits = routine_fits (numbering_of p) (whole_laid t).types (counted t place) m (framed.locals n) (place.words n) (place.sized n) (framed.free n) (framed.result n)

  frames : Frames l (all_locals (numbering_of p) (whole_laid t).types (counted t place) m) (parameters_by true m.parameters)
  frames =
      subst (λ (q : RoutineMeaning). RoutineFits (numbering_of p) (whole_laid t).types (counted t place) q → Frames l (all_locals (numbering_of p) (whole_laid t).types (counted t place) q) (parameters_by true q.parameters)) (sym meant)
      (seated_there t place n opened.0 opened.1).framed fits

  -- the tables have as many extents as there are `var` parameters
  extents_there : length (routine_at r n).extents ≡ length (parameters_by true m.parameters)
  extents_there =
      let w : EndsAt t (openings_of p) 0 n l = ends_at t 0 (all_begun t) (openings_of p) n l (all_end (numbering_of p) t) at in
      let x = body_items l w.opening.meaning.body w.opening.meaning.checks in
      let v : RoutineView = routine_of x.1 x.0 in
      let zero_more : 0 + n ≡ n = omega arith in
      let routine : slice_get (whole_laid t).routines n ≡ Some v = subst (λ j. slice_get (whole_laid t).routines j ≡ Some v) zero_more w.ends.there in
      let is : routine_at r n ≡ v = entry_at r.routines n no_routine v (ap (λ rs. slice_get rs n) (ap (λ (q : PlainTables). q.routines) same ∙ laid_routines t) ∙ routine) in
      ap (λ (q : RoutineView). length q.extents) is ∙ ap (λ (es : List ℕ). length es) ((body_zeroed l w.opening.meaning.body w.opening.meaning.checks).extents ∙ frames.extents) ∙ extents_length (parameters_by true m.parameters)

  slot_is : (x : Name) (u : Ty) → look x (parameters_by true m.parameters) ≡ Some u → cell_named ((layouts_of t).frames n) x ≡ number_among x (parameters_by true m.parameters)
  slot_is x u e =
      let begun : begun_at t n ≡ l = ap (layer_or (nothing_laid t.lines)) at in
      ap (λ (q : Layer). cell_named (frame_layout p m q) x) begun ∙ ap slot_of (reference_origin (numbering_of p) p m l declared (place.words n) steps frames x u e)

  pub heading_fits : HeadingFits ((layouts_of t).frames n) (routine_at r n) m
  heading_fits =
      record {
        parameters = no_components m.parameters (each_left IsFreeVariable (parameter_variables m.parameters) m.variables (framed.free n));
        numbered = subst (λ c. AreNumbered (cell_named ((layouts_of t).frames n)) 0 c m.parameters) (sym extents_there) (all_numbered (cell_named ((layouts_of t).frames n)) m.parameters m.variables declared.different slot_is);
        result = ordinal_result m.result (framed.result n);
      }
