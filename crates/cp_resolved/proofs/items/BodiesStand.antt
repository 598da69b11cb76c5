-- The items of each routine and of each initial statement of a tree stand for its statements.
use Rattle.std.proofs.Common.{◌≡◌, ◌+◌, ◌==◌, ℕ, zero, suc, Bool, true, false, if◌then◌else◌, List, [], ◌∷◌, ◌++◌, length, map, Option, Some, slice_get, refl, sym, ap, subst, ◌∙◌, inl, inr, arith}
use Rattle.cp_resolved.proofs.Words.{none-some, same_Some, slice_get_within, bytes_eq-Decides, Tables, RoutineView, item_at, no_item, routine_at, no_routine, Layer}
use Rattle.cp_resolved.proofs.Words.{nothing_laid, routine_of, PlainTables, laid, tables_laid, routines, program_parts, program, same_name, temporary, Ty}
use Rattle.cp_resolved.proofs.Words.{Scope, Variable, RoutineMeaning, Item, function_call, statement_item, result_called, routine_called, all_begun, AreReady, Here}
use Rattle.cp_resolved.proofs.Words.{frame_here, look, IsPlaced, place_of, KnowsAt, Opening, openings_of, meaning_in, meaning_at, numbering_of, call_variables}
use Rattle.cp_resolved.proofs.Words.{result_variables, parameters_by, whole_laid, AreNext, all_calls_laid, IsAmong, IsApart, AreApart}
use Rattle.cp_tree.specs.Syntax as syntax
use Rattle.cp_slots.specs.declared.item.Item as code_item
use Rattle.cp_slots.specs.Code as code
use Rattle.cp_resolved.specs.BodiesStand.{ground_of, CallsFormed, BodyFormed, BodiesLaw}
use Rattle.cp_resolved.specs.ItemsStand.{AreItems, Surroundings, CanStand, AreLaid, body_items}
use Rattle.cp_resolved.specs.Stands.{BodyIs}
use Rattle.cp_meaning.specs.Calls.{last_checks}
use Rattle.cp_resolved.proofs.items.Ended.{Ends, AreEnded, all_end}
use Rattle.cp_resolved.proofs.names.Entries.{still_there, entry_at}
use Rattle.cp_resolved.proofs.laid.Extends.{Longer, routines_extend, initial_extends, program_parts_extend}
use Rattle.cp_resolved.proofs.names.ResultKnown.{result_known}
use Rattle.cp_resolved.proofs.items.StatementsStand.{statements_law}
use Rattle.cp_resolved.proofs.names.TreeKnown.{layouts_law}
use Rattle.cp_resolved.proofs.frames.LeastCells.{same_number as same_token}
use Rattle.cp_resolved.proofs.frames.FrameCells.{itself}

-- ---- temporary names are variables of the frame

abbrev second : List ℕ → ℕ
second (c ∷ at ∷ cs) = at
second _ = 0

other_temporary : (n at : ℕ) → (n == at) ≡ false → same_name (temporary at) (temporary n) ≡ false
other_temporary n at h = go (same_name (temporary at) (temporary n)) refl
  where
    go : (b : Bool) → same_name (temporary at) (temporary n) ≡ b → b ≡ false
    go false e = refl
    go true e =
        let same : at ≡ n = ap second ((bytes_eq-Decides (temporary at) (temporary n)).0 e) in
        let t : (n == n) ≡ false = subst (λ m. (n == m) ≡ false) same h in
        absurd (let w : true ≡ false = sym (same_token n) ∙ t in cc)

module _ (p : syntax.Program) (s : Scope) (rest : List Variable) where
  -- the variables of calls, before others
  abbrev calls_and : List Item → List Variable
  calls_and is = call_variables p s is ++ rest

  -- each call that is left has in a list what it has among the variables of those that are left
  abbrev Shows : List Variable → List Item → Type 0
  Shows vs is = (at : ℕ) → IsAmong at is → look (temporary at) vs ≡ look (temporary at) (calls_and is)

  abbrev ResultOf : syntax.Designator → Option Ty
  ResultOf d = Some (result_called (routine_called p s d))

  first_held : (vs : List Variable) (n : ℕ) (d : syntax.Designator) (es : syntax.Expressions) (is : List Item) → Shows vs (function_call n d es ∷ is) → look (temporary n) vs ≡ ResultOf d
  first_held vs n d es is h = h n (inl (same_token n)) ∙ ap (λ b. if b then ResultOf d else look (temporary n) (calls_and is)) (itself (temporary n))

  shows_rest : (vs : List Variable) (n : ℕ) (d : syntax.Designator) (es : syntax.Expressions) (is : List Item) → IsApart (function_call n d es) is → Shows vs (function_call n d es ∷ is) → Shows vs is
  shows_rest vs n d es is a h at i = h at (inr i) ∙ ap (λ b. if b then ResultOf d else look (temporary at) (calls_and is)) (other_temporary n at (a at i))

module _ (h : Here) (rest : List Variable) where
  ready : (n : ℕ) (is : List Item) → AreApart is → AreNext h n is → CallsFormed h is → Shows h.program h.scope rest (frame_here h).variables is → AreReady h n is
  ready n [] a x c v = tt
  ready n (function_call at d es ∷ is) a x c v = (
    record { cell = x.0; held = first_held h.program h.scope rest (frame_here h).variables at d es is v; formed = c.0 },
    ready (suc n) is a.1 x.1 c.1 (shows_rest h.program h.scope rest (frame_here h).variables at d es is a.0 v),
  )
  ready n (statement_item t ∷ is) a x c v = absurd c
  ready n _ a x c v = absurd c

-- ---- items of the tables

seen_at : (xs : List code_item.Item) (n : ℕ) (i : code.Item) → slice_get (map code.item_seen xs) n ≡ Some i → (x : code_item.Item) × (slice_get xs n ≡ Some x) × (code.item_seen x ≡ i)
seen_at [] n i e = absurd (none-some i e)
seen_at (x ∷ xs) zero i e = (x, refl, same_Some (code.item_seen x) i e)
seen_at (x ∷ xs) (suc n) i e = seen_at xs n i e

items_are : (r : Tables) (t : syntax.Tree) (is more : List code.Item) → map code.item_seen r.items ≡ is ++ more → AreItems (ground_of r t) is
items_are r t is more e n i f =
    let w : (x : code_item.Item) × (slice_get r.items n ≡ Some x) × (code.item_seen x ≡ i) = seen_at r.items n i (ap (λ xs. slice_get xs n) e ∙ still_there is more n i f) in
    let there_it_is : item_at r n ≡ w.0 = entry_at r.items n no_item w.0 w.1 in
    record {
      inside = slice_get_within r.items n w.0 w.1;
      action = ap (λ (x : code_item.Item). code.action_seen x.action) there_it_is ∙ ap (λ (x : code.Item). x.action) w.2;
      follows = ap (λ (x : code_item.Item). x.next) there_it_is ∙ ap (λ (x : code.Item). x.next) w.2;
      line = ap (λ (x : code_item.Item). x.line) there_it_is ∙ ap (λ (x : code.Item). x.line) w.2;
    }

pub laid_items : (t : syntax.Tree) → (laid t).items ≡ (whole_laid t).items
unfolding laid tables_laid
laid_items t = refl

pub laid_routines : (t : syntax.Tree) → (laid t).routines ≡ (whole_laid t).routines
unfolding laid tables_laid
laid_routines t = refl

whole_lines : (t : syntax.Tree) → (whole_laid t).lines ≡ t.lines
unfolding program
whole_lines t =
    let m : Layer = program_parts (nothing_laid t.lines) t.program.parts in
    let b : Layer = routines m t.program.routines in
    (initial_extends b [] t.program.body).lines ∙ (routines_extend m t.program.routines).lines ∙ (program_parts_extend (nothing_laid t.lines) t.program.parts).lines

-- ---- routines by their numbers

pub record EndsAt (t : syntax.Tree) (os : List Opening) (m n : ℕ) (l : Layer) : Type 0 where
  pub opening : Opening
  pub there : slice_get os n ≡ Some opening
  pub ends : Ends (whole_laid t) (m + n) l opening

pub ends_at : (t : syntax.Tree) (m : ℕ) (ls : List Layer) (os : List Opening) (n : ℕ) (l : Layer) → AreEnded (whole_laid t) m ls os → slice_get ls n ≡ Some l → EndsAt t os m n l
ends_at t m [] os n l h e = absurd (none-some l e)
ends_at t m (x ∷ ls) [] n l h e = absurd h
ends_at t m (x ∷ ls) (o ∷ os) zero l h e =
    let z : m ≡ m + 0 = omega arith in
    record { opening = o; there = refl; ends = subst (λ j. Ends (whole_laid t) j l o) z (subst (λ j. Ends (whole_laid t) m j o) (same_Some x l e) h.0) }
ends_at t m (x ∷ ls) (o ∷ os) (suc n) l h e =
    let w : EndsAt t os (suc m) n l = ends_at t (suc m) ls os n l h.1 e in
    let z : suc m + n ≡ m + suc n = omega arith in
    record { opening = w.opening; there = w.there; ends = subst (λ j. Ends (whole_laid t) j l w.opening) z w.ends }

-- what is known where the statements of routine n begin
pub record BegunAt (t : syntax.Tree) (r : Tables) (n : ℕ) (l : Layer) : Type 0 where
  pub opening : Opening
  pub opened : slice_get (openings_of t.program) n ≡ Some opening
  pub ends : Ends (whole_laid t) n l opening
  pub around : Surroundings (numbering_of t.program) (place_of t n) (ground_of r t) l
  pub can : CanStand (place_of t n) l (meaning_at t.program n).body

pub begun_at : (t : syntax.Tree) (r : Tables) → IsPlaced t → (n : ℕ) (l : Layer) → slice_get (all_begun t) n ≡ Some l → BodyFormed t n l → BegunAt t r n l
begun_at t r place n l e f =
    let k = numbering_of t.program in
    let m : RoutineMeaning = meaning_at t.program n in
    let calls : List Item = all_calls_laid m.scope m.body in
    let known : KnowsAt t n l = layouts_law t place n l e in
    let w : EndsAt t (openings_of t.program) 0 n l = ends_at t 0 (all_begun t) (openings_of t.program) n l (all_end k t) e in
    let zero_more : 0 + n ≡ n = omega arith in
    let ends : Ends (whole_laid t) n l w.opening = subst (λ j. Ends (whole_laid t) j l w.opening) zero_more w.ends in
    let rest : List Variable = result_variables m.result ++ (parameters_by false m.parameters ++ m.variables) in
    record {
      opening = w.opening;
      opened = w.there;
      ends = ends;
      around = record {
        names = known.names;
        calls = known.calls;
        headings = f.headings;
        result = result_known t place n l e ends.number;
        starts = f.starts;
        lines = ends.lines ∙ whole_lines t;
        checks = place.checks n;
      };
      can = record {
        pending = ends.pending;
        formed = f.formed;
        calls = ready (place_of t n) rest (length l.frame.image) calls (place.apart n) known.next f.calls (λ at i. refl);
      };
    }

pub bodies_law : BodiesLaw
bodies_law t r same few place n l e f =
    let k = numbering_of t.program in
    let h : Here = place_of t n in
    let m : RoutineMeaning = meaning_at t.program n in
    let w : BegunAt t r n l = begun_at t r place n l e f in
    let opened : m ≡ w.opening.meaning = ap (meaning_in _) w.opened in
    let x : Option ℕ × Layer = body_items l m.body m.checks in
    let items : Longer x.1.items (whole_laid t).items = subst (λ (q : RoutineMeaning). Longer (body_items l q.body q.checks).1.items (whole_laid t).items) (sym opened) w.ends.items in
    let routine : slice_get (whole_laid t).routines n ≡ Some (routine_of x.1 x.0) = subst (λ (q : RoutineMeaning). slice_get (whole_laid t).routines n ≡ Some (routine_of (body_items l q.body q.checks).1 (body_items l q.body q.checks).0)) (sym opened) w.ends.there in
    let all_items : map code.item_seen r.items ≡ x.1.items ++ items.0 = ap (λ (q : PlainTables). q.items) same ∙ laid_items t ∙ items.1 in
    let all_routines : r.routines ≡ (whole_laid t).routines = ap (λ (q : PlainTables). q.routines) same ∙ laid_routines t in
    let there_it_is : routine_at r n ≡ routine_of x.1 x.0 = entry_at r.routines n no_routine (routine_of x.1 x.0) (ap (λ rs. slice_get rs n) all_routines ∙ routine) in
    let there_all : AreLaid k h (ground_of r t) l m.body m.checks = statements_law k h (ground_of r t) l m.body m.checks few (λ at. refl) w.around w.can in
    subst (λ (v : RoutineView). BodyIs (ground_of r t) h m.body (last_checks m.checks m.scope) v.body) (sym there_it_is) (there_all.stand (items_are r t x.1.items items.0 all_items))
