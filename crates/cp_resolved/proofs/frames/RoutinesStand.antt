-- The routines and initial statements of the tables of a tree stand for those of the tree.
use Rattle.std.proofs.Common.{◌≡◌, ◌+◌, ◌<◌, ◌≤◌, ℕ, true, false, List, ◌++◌, length, Option, Some, None, slice_get, refl, sym, ap, subst, ◌∙◌, arith, length-append}
use Rattle.cp_tree.specs.Syntax as syntax
use Rattle.cp_resolved.proofs.Words.{LayoutMeaning, most, PlainTables, plain, laid, Layer, System, nothing_laid, own_result, routine_of, Tables, RoutineView}
use Rattle.cp_resolved.proofs.Words.{routine_at, no_routine, Name, result_name, Ty, has_components, permanent_variable, find, Variable, RoutineMeaning, routine_in}
use Rattle.cp_resolved.proofs.Words.{result_type, program_system, system_of, all_begun, ground_of, BodyFormed, all_calls_laid, routine_variables, system_variables}
use Rattle.cp_resolved.proofs.Words.{IsFramed, Numbering, InStep, FoundIs, look, is_named, IsPlaced, place_of, openings_of, meaning_in, meaning_at, numbering_of}
use Rattle.cp_layout.specs.Layers as layers
use Rattle.cp_meaning.specs.Scopes as scopes
use Rattle.cp_resolved.specs.ItemsStand.{AreLaid}
use Rattle.cp_resolved.specs.Resolved.{FrameIs, RoutineIs}
use Rattle.cp_resolved.specs.RoutinesStand.{RoutinesLaw}
use Rattle.cp_resolved.specs.TreeLayouts.{whole_laid, layer_or, call_variables, result_variables, parameters_by, frame_layout, components_among, owner_in, name_with, name_in, layouts_of}
use Rattle.cp_resolved.proofs.items.BodiesStand.{laid_routines, BegunAt, begun_at, bodies_law}
use Rattle.cp_resolved.proofs.names.Entries.{there, entry_at}
use Rattle.cp_resolved.proofs.frames.FrameCells.{look_right, cells_before}
use Rattle.cp_resolved.proofs.frames.FrameFits.{routine_fits}
use Rattle.cp_resolved.proofs.frames.FrameOfTables.{last_result, no_call, result_found, slot_before, IsLeft, frame_there}
use Rattle.cp_resolved.proofs.frames.FrameSteps.{Frames}
use Rattle.cp_resolved.proofs.frames.FramesBegun.{RoutineFits, SlotIs, all_locals}
use Rattle.cp_resolved.proofs.laid.Grown.{body_grew}
use Rattle.cp_resolved.proofs.names.Opened.{opened_all}
use Rattle.cp_resolved.proofs.names.ResultKnown.{with_own_name}
use Rattle.cp_resolved.proofs.counts.RoutinesCounted.{Many, all_many}
use Rattle.cp_resolved.proofs.agreeing.ScopeVariables.{Among, AreOf, of_permanent, among_all, among_some}
use Rattle.cp_resolved.proofs.frames.SeatsOfProgram.{all_seated}
use Rattle.cp_resolved.proofs.systems.Sizes.{Counted}
use Rattle.cp_resolved.proofs.items.StatementsStand.{statements_law}
use Rattle.cp_resolved.proofs.names.Steps.{found_in}
use Rattle.cp_resolved.proofs.systems.SystemKnown.{found_among}
use Rattle.cp_resolved.proofs.systems.SystemsStand.{SeatAt, seat_at, seats_many}
use Rattle.cp_resolved.proofs.names.TreeKnown.{Opens, opens_of, layouts_law}
use Rattle.cp_resolved.proofs.laid.Whole.{program_laid}
use Rattle.cp_resolved.proofs.laid.ZeroCells.{Zeros, body_zeroed}
use Rattle.cp_resolved.specs.ItemsStand.{body_items}

-- only a function has a name of its own
result_of_name : (x : Name) (y : Option Name) (o : Option Ty) → is_named x (name_with y o) ≡ true → o ≡ Some (result_type o)
result_of_name x y None h = absurd (let bad : false ≡ true = h in cc)
result_of_name x y (Some t) h = refl

-- where the statements of routine n begin
module _ (t : syntax.Tree) (r : Tables) (same : plain r ≡ laid t) (few : length r.items ≤ most) (place : IsPlaced t) (framed : IsFramed t) (n : ℕ) (l : Layer) (e : slice_get (all_begun t) n ≡ Some l) (formed : BodyFormed t n l) where
  abbrev k : Numbering
  k = numbering_of t.program

  abbrev p : syntax.Program
  p = t.program

  abbrev m : RoutineMeaning
  m = meaning_at t.program n

  abbrev end : Layer
  end = whole_laid t

  counted : Counted end.types
  counted = (program_laid t.lines p).whole.sized.types

  seat : SeatAt k p end counted (openings_of p) n l
  seat = seat_at k p end counted (all_begun t) (openings_of p) n l (all_seated k t counted place.plain.small place.plain.fit place.plain.numbered (opened_all p)).0 e

  opens : Opens k t place.once (openings_of p) n l
  opens = opens_of t place n l e

  begun : BegunAt t r n l
  begun = begun_at t r place n l e formed

  meant : m ≡ seat.opening.meaning
  meant = ap (meaning_in _) seat.there

  owner_is : owner_in (program_system p) (slice_get (openings_of p) n) ≡ seat.opening.owner
  owner_is = ap (owner_in (program_system p)) seat.there

  steps : InStep k l.types l.names m.scope
  steps = (layouts_law t place n l e).names.names

  -- ---- the routine of the tables

  abbrev done : Option ℕ × Layer
  done = body_items l m.body m.checks

  abbrev view : RoutineView
  view = routine_of done.1 done.0

  view_there : routine_at r n ≡ view
  view_there =
      let routine : slice_get end.routines n ≡ Some view = subst (λ (q : RoutineMeaning). slice_get end.routines n ≡ Some (routine_of (body_items l q.body q.checks).1 (body_items l q.body q.checks).0)) (sym (ap (meaning_in _) begun.opened)) begun.ends.there in
      entry_at r.routines n no_routine view (ap (λ rs. slice_get rs n) (ap (λ (q : PlainTables). q.routines) same ∙ laid_routines t) ∙ routine)

  left : IsLeft m l view
  left =
      let z : Zeros l done.1 = body_zeroed l m.body m.checks in
      let laid_out : AreLaid k (place_of t n) (ground_of r t) l m.body m.checks = statements_law k (place_of t n) (ground_of r t) l m.body m.checks few (λ at. refl) begun.around begun.can in
      record {
        zeros = z.zeros;
        are = z.are;
        image = z.image;
        cells = laid_out.cells;
        extents = z.extents;
        references = refl;
        result = ap own_result (body_grew l m.body m.checks).1;
      }

  -- ---- its frame

  fits : RoutineFits k end.types counted m
  fits = routine_fits k end.types counted m (framed.locals n) (place.words n) (place.sized n) (framed.free n) (framed.result n)

  frames : Frames l (all_locals k end.types counted m) (parameters_by true m.parameters)
  frames = subst (λ (q : RoutineMeaning). RoutineFits k end.types counted q → Frames l (all_locals k end.types counted q) (parameters_by true q.parameters)) (sym meant) seat.seated.framed fits

  slot : (u : Ty) → look result_name (all_locals k end.types counted m) ≡ Some u → own_result l ≡ cells_before result_name (all_locals k end.types counted m)
  slot u f =
      let s : SlotIs k end.types counted (parameters_by false m.parameters) m.result seat.seated.heading.result = subst (λ (q : RoutineMeaning). RoutineFits k end.types counted q → SlotIs k end.types counted (parameters_by false q.parameters) q.result seat.seated.heading.result) (sym meant) seat.seated.slot fits in
      last_result l seat.seated.before seat.seated.heading seat.seated.headings opens.begins.count ∙ slot_before k end.types counted m (framed.locals n) (place.words n) m.result seat.seated.heading.result s u f

  visible : AreOf (routine_variables m) (system_variables (system_of p seat.opening.owner)) m.scope
  visible = subst (λ (q : RoutineMeaning). AreOf (routine_variables q) (system_variables (system_of p seat.opening.owner)) q.scope) (sym meant) seat.seated.visible

  frame_is : FrameIs ((layouts_of t).frames n) (routine_at r n) m
  frame_is =
      let a : FrameIs (frame_layout p m l) view m = frame_there k p m l (framed.locals n) (place.words n) steps frames slot (place.apart n) (framed.calls n) view left (system_variables (system_of p seat.opening.owner)) visible in
      let b : FrameIs (frame_layout p m l) (routine_at r n) m = subst (λ v. FrameIs (frame_layout p m l) v m) (sym view_there) a in
      subst (λ (q : Layer). FrameIs (frame_layout p m q) (routine_at r n) m) (sym (ap (layer_or (nothing_laid t.lines)) e)) b

  -- ---- its system type

  system_is : (routine_at r n).system ≡ (layouts_of t).owners n
  system_is = ap (λ (v : RoutineView). v.system) view_there ∙ ap (λ (q : Layer). length q.systems) (body_grew l m.body m.checks).1 ∙ seat.seated.system ∙ sym owner_is

  owner_below : Many t → (layouts_of t).owners n ≤ program_system p
  owner_below many =
      let x = opens.begins.systems in
      let a : length end.systems ≡ length l.systems + length x.0 = ap (λ (ss : List System). length ss) x.1 ∙ length-append l.systems x.0 in
      let b : length end.systems ≡ program_system p = many.systems in
      let c : length l.systems ≡ seat.opening.owner = seat.seated.system in
      let d : (layouts_of t).owners n ≡ seat.opening.owner = owner_is in
      omega (arith, a, b, c, d)

  permanent_there : (x : Name) (u : Ty) → find x m.scope ≡ Some (permanent_variable u) → has_components u ≡ false → look x ((layouts_of t).systems ((layouts_of t).owners n)).variables ≡ Some u
  permanent_there x u f plain_type =
      let vs : List Variable = system_variables (system_of p seat.opening.owner) in
      let a : Among x u vs = of_permanent x u (routine_variables m) vs m.scope visible f in
      let b : look x (components_among false vs) ≡ Some u = found_among x u (components_among false vs) vs (framed.permanents seat.opening.owner).different (λ w h. (among_all false x w vs h).0) (among_some false x u vs plain_type a) in
      subst (λ j. look x ((layouts_of t).systems j).variables ≡ Some u) (sym owner_is) b

  -- ---- its own name

  name_is : (layouts_of t).names n ≡ name_with opens.opening.name opens.opening.meaning.result
  name_is = ap name_in opens.there

  result_meant : opens.opening.meaning.result ≡ m.result
  result_meant = sym (ap (λ (q : RoutineMeaning). q.result) (ap (meaning_in _) opens.there))

  own_result_there : (x : Name) → is_named x ((layouts_of t).names n) ≡ true → look result_name ((layouts_of t).frames n).variables ≡ Some (result_type m.result)
  own_result_there x h =
      let some : opens.opening.meaning.result ≡ Some (result_type opens.opening.meaning.result) = result_of_name x opens.opening.name opens.opening.meaning.result (sym (ap (is_named x) name_is) ∙ h) in
      let whole : m.result ≡ Some (result_type m.result) = subst (λ o. o ≡ Some (result_type o)) result_meant some in
      let rest : List Variable = parameters_by false m.parameters ++ m.variables in
      look_right result_name (call_variables p m.scope (all_calls_laid m.scope m.body)) (result_variables m.result ++ rest) (no_call p m.scope (all_calls_laid m.scope m.body))
      ∙ ap (λ o. look result_name (result_variables o ++ rest)) whole
      ∙ result_found (result_type m.result) rest

  own_there : (x : Name) (y : syntax.Routine) → is_named x ((layouts_of t).names n) ≡ true → find x m.scope ≡ Some (scopes.routine_meaning y) → (routine_in (scopes.since x m.scope) y).result ≡ m.result
  own_there x y h f =
      let own : is_named x opens.opening.name ≡ true = with_own_name x opens.opening.name opens.opening.meaning.result (sym (ap (is_named x) name_is) ∙ h) in
      go own (layers.find x l.names) refl (subst (λ o. FoundIs k l.types (layers.find x l.names) o (scopes.since x m.scope)) f (found_in k l.types x l.names m.scope steps))
    where
      go : is_named x opens.opening.name ≡ true → (o : Option LayoutMeaning) → layers.find x l.names ≡ o → FoundIs k l.types o (Some (scopes.routine_meaning y)) (scopes.since x m.scope) → (routine_in (scopes.since x m.scope) y).result ≡ m.result
      go own None g i = absurd i
      go own (Some q) g i =
          let last : i.0 ≡ n = opens.begins.own x own i.0 (g ∙ ap (λ z. Some z) i.1) ∙ begun.ends.number in
          ap (λ (q : RoutineMeaning). q.result) (sym i.2 ∙ ap (meaning_at p) last)

  pub routine_there : Many t → RoutineIs (ground_of r t) p (layouts_of t) n
  routine_there many =
      record {
        frame = frame_is;
        body = bodies_law t r same few place n l e formed;
        system = system_is;
        owner = owner_below many;
        own = own_there;
        own_result = own_result_there;
        permanents = permanent_there;
      }

pub routines_law : RoutinesLaw
routines_law t r same few place framed formed n below =
    let k : Numbering = numbering_of t.program in
    let end : Layer = whole_laid t in
    let counted : Counted end.types = (program_laid t.lines t.program).whole.sized.types in
    let all = all_seated k t counted place.plain.small place.plain.fit place.plain.numbered (opened_all t.program) in
    let many : Many t = all_many k t place.plain.small place.plain.fit place.plain.numbered (opened_all t.program) in
    let inside : n < length end.routines = subst (λ rs. n < length rs) (ap (λ (q : PlainTables). q.routines) same ∙ laid_routines t) below in
    let at : (l : Layer) × (slice_get (all_begun t) n ≡ Some l) = there (all_begun t) n (omega (arith, inside, seats_many k t.program end counted (all_begun t) (openings_of t.program) all.0, many.routines)) in
    routine_there t r same few place framed n at.0 at.1 (formed n at.0 at.1) many
