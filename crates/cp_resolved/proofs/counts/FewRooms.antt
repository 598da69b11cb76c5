-- The cells of open calls stay few, where the variables have few: each routine calls earlier ones alone, and each of its cells stands for a token.
use Rattle.std.proofs.Common.{Bool, true, false, ◌≡◌, ℕ, ◌+◌, ◌*◌, ◌≤◌, List, [], ◌∷◌, length, Option, Some, None, slice_get, refl, sym, ap, subst, ◌∙◌, arith, length-append}
use Rattle.cp_resolved.proofs.Words.{Kind, Process, Action, RoutineView, room_for, room_from, with_count, Each}
use Rattle.cp_text.specs.declared.token.Kind.TheVariants as kind
use Rattle.cp_text.specs.declared.token.Mark.TheVariants as mark
use Rattle.cp_tree.specs.Syntax as syntax
use Rattle.cp_tree.specs.Spelling.{is_nameless, put_statements, put_named_routine, put_routine_by, put_all, put_identifier, put_part, put_body, put_routine_kind, put_routine, spell}
use Rattle.cp_tree.proofs.Grows.{grows_optional, grows_body, grows_statements, grows_named_routine}
use Rattle.cp_layout.specs.Layers.{Layer, frame_with, with_cell, with_room, settle_items, without_pending, add_item, routine_of, nothing_laid}
use Rattle.cp_layout.specs.LaidDeclarations.{Parameters, body, heading, heading_with, with_heading, with_new_frame, open_routine, local_parts, routine, initial_statement, program}
use Rattle.cp_resolved.specs.Begun.{routine_begun, all_begun}
use Rattle.cp_resolved.proofs.laid.Declares.{local_parts_declare, heading_declares}
use Rattle.cp_resolved.proofs.counts.FewItems.{count, added_one, settled_same, body_few, said_body_few}
use Rattle.cp_resolved.proofs.counts.FewLocals.{heading_extended, parts_extended}
use Rattle.cp_resolved.proofs.counts.FewReferences.{each_entry, each_weaker}
use Rattle.cp_resolved.proofs.laid.Grown.{settled_grew}
use Rattle.cp_resolved.proofs.counts.Rooms.{Room}
use Rattle.cp_resolved.proofs.counts.SpentTokens.{program_spent}
use Rattle.cp_resolved.proofs.declarations.Nameless.{nameless_kind, IsKnownBy, IsKnown, EachRoutine}
use Rattle.cp_resolved.proofs.laid.SettledItems.{all_frame}
use Rattle.cp_resolved.proofs.names.SmallNames.{SmallNames, earlier}
use Rattle.cp_resolved.proofs.laid.Walked.{any_calls, any_items, any_lists, never, body_walked}
use Rattle.cp_resolved.proofs.frames.FrameCells.{each_both as each_append}
use Rattle.cp_resolved.specs.ItemsStand.{body_items}

-- ---- statements

-- a room that leaves 8,192 cells for each of these tokens, out of this many tokens
abbrev pub Fits : (total low : ℕ) → RoutineView → Type 0
Fits total low r = r.room + 8192 * low ≤ 8192 * total

-- the whole routines, with this many tokens still to come of this many
abbrev pub Level : (total low : ℕ) → Layer → Type 0
Level total low l = Each (Fits total low) l.routines

-- since the frame had these cells, and there were this many items
record Within (total low cells items : ℕ) (l : Layer) : Type 0 where
  routines : Level total low l
  frame : l.frame.room + 8192 * low ≤ 8192 * total
  image : length l.frame.image + items ≤ cells + count l

module _ (total low cells items : ℕ) where
  abbrev In : Layer → Type 0
  In l = Within total low cells items l

  within_count : (l : Layer) (n : ℕ) → In l → In (with_count l n)
  within_count l n h = record { routines = h.routines; frame = h.frame; image = h.image }

  within_added : (l : Layer) (at : ℕ) (a : Action) (need : ℕ) → In l → In (add_item l at a need)
  within_added l at a need h = let e = added_one l at a need in let i = h.image in record { routines = h.routines; frame = h.frame; image = omega (arith, e, i) }

  room_fits : (l : Layer) (r : ℕ) → Level total low l → l.frame.room + 8192 * low ≤ 8192 * total → (with_room l r).frame.room + 8192 * low ≤ 8192 * total
  room_fits l r h f = go (slice_get l.routines r) refl
    where
      go : (o : Option RoutineView) → slice_get l.routines r ≡ o → (frame_with l.frame o).room + 8192 * low ≤ 8192 * total
      go None e = f
      go (Some v) e = let b : v.room + 8192 * low ≤ 8192 * total = each_entry (Fits total low) l.routines r v e h in omega (arith, f, b)

  room_image : (l : Layer) (r : ℕ) → (with_room l r).frame.image ≡ l.frame.image
  room_image l r = go (slice_get l.routines r)
    where
      go : (o : Option RoutineView) → (frame_with l.frame o).image ≡ l.frame.image
      go None = refl
      go (Some v) = refl

  within_room : (l : Layer) (r : ℕ) → In l → In (with_room l r)
  within_room l r h =
      let e : length (with_room l r).frame.image ≡ length l.frame.image = ap (λ zs. length zs) (room_image l r) in
      let i = h.image in
      record { routines = h.routines; frame = room_fits l r h.routines h.frame; image = omega (arith, e, i) }

  within_call : (l : Layer) (r at : ℕ) (a : Action) (need : ℕ) → In l → In (add_item (with_room (with_cell l) r) at a need)
  within_call l r at a need h =
      let m : Layer = with_room (with_cell l) r in
      let e = added_one m at a need in
      let f : length m.frame.image ≡ length (with_cell l).frame.image = ap (λ zs. length zs) (room_image (with_cell l) r) in
      let g : length (with_cell l).frame.image ≡ length l.frame.image + 1 = length-append l.frame.image _ in
      let i = h.image in
      record { routines = h.routines; frame = room_fits (with_cell l) r h.routines h.frame; image = omega (arith, e, f, g, i) }

  within_settled : (l : Layer) (next : Option ℕ) → In l → In (settle_items l next).1
  within_settled l next h =
      let e : (settle_items l next).1.frame ≡ l.frame = all_frame (without_pending l) l.pending next in
      let rs : (settle_items l next).1.routines ≡ l.routines = ap (λ (j : Layer). j.routines) (settled_grew l next).1 in
      let c = settled_same l next in
      let i = h.image in
      record {
        routines = subst (Each (Fits total low)) (sym rs) h.routines;
        frame = subst (λ f. f.room + 8192 * low ≤ 8192 * total) (sym e) h.frame;
        image = subst (λ f. length f.image + items ≤ cells + count (settle_items l next).1) (sym e) (omega (arith, i, c));
      }

-- the routine of a body, once its variables are counted
level_of : (total high size : ℕ) (l : Layer) (b : syntax.Body) (c : Bool) (rest : List Kind) → count (body l b c) + length rest ≤ count l + size → length rest ≤ size → Level total high l → l.frame.room + 8192 * high ≤ 8192 * total → length l.frame.image + 8192 * size ≤ 8192 * high → Level total (length rest) (body l b c)
level_of total high size l b c rest few le h room image =
    let x : Option ℕ × Layer = body_items l b.statements c in
    let items : ℕ = count l in
    let cells : ℕ = length l.frame.image in
    let f : Within total high cells items x.1 =
    body_walked (any_calls (Within total high cells items) (within_count total high cells items) (within_call total high cells items)) (any_items (Within total high cells items) (within_room total high cells items) (within_added total high cells items))
    (any_lists (Within total high cells items) (within_added total high cells items) (within_settled total high cells items)) l b.statements c (record { routines = h; frame = room; image = omega arith }) never in
    let a : x.1.frame.room + 8192 * high ≤ 8192 * total = f.frame in
    let d : length x.1.frame.image + items ≤ cells + count x.1 = f.image in
    let new : Fits total (length rest) (routine_of x.1 x.0) = omega (arith, a, d, few, le, image) in
    each_append (Fits total (length rest)) x.1.routines (routine_of x.1 x.0 ∷ []) (each_weaker (Fits total high) (Fits total (length rest)) (λ r e. omega (arith, e, le, image)) x.1.routines f.routines) (new, tt)

body_level : (total high : ℕ) (l : Layer) (b : syntax.Body) (c : Bool) (rest : List Kind) → Level total high l → l.frame.room + 8192 * high ≤ 8192 * total → length l.frame.image + 8192 * length (put_body b rest) ≤ 8192 * high → Level total (length rest) (body l b c)
body_level total high l b c rest h room image = level_of total high (length (put_body b rest)) l b c rest (body_few l b c rest) (grows_body b rest) h room image

-- ---- declarations

-- with this many tokens still to come, of all
abbrev Levels : (total low : ℕ) → Layer → Type 0
Levels total low l = (low ≤ total) × Level total low l

module _ (total : ℕ) where
  lower : (high low : ℕ) (l : Layer) → low ≤ high → Levels total high l → Levels total low l
  lower high low l le h = (let a = h.0 in omega (arith, le, a), each_weaker (Fits total high) (Fits total low) (λ r e. omega (arith, e, le)) l.routines h.1)

  same : (n : ℕ) (l m : Layer) → m.items ≡ l.items → m.pending ≡ l.pending → m.routines ≡ l.routines → Levels total n l → Levels total n m
  same n l m i p r h = (h.0, subst (Each (Fits total n)) (sym r) h.1)

  routine_by : (b : Bool) (l : Layer) (r : syntax.Routine) (rest : List Kind) → is_nameless r.kind ≡ b → IsKnownBy b r → SmallNames (routine_begun l r) → Levels total (length (put_routine_by b r rest)) l → Levels total (length rest) (routine l r)
  routine_by true l r rest is known s h =
      let high : ℕ = length (put_statements r.body.statements rest) in
      let x : Layer = (open_routine l r.name.name).1 in
      let g = heading x r.name.name r.kind in
      let k : Layer = with_heading g.1 g.0 in
      let m : Layer = local_parts k r.parts in
      let e = heading_extended x r.name.name r.kind rest in
      let f = parts_extended k r.parts rest in
      let a = e.image (earlier k m (local_parts_declare k r.parts) s) in
      let c = f.image s in
      let room : m.frame.room ≡ 0 = f.room ∙ e.room in
      let kind_none : length (put_routine_kind r.kind rest) ≡ length rest = ap (λ (ks : List Kind). length ks) (nameless_kind r.kind rest is) in
      let parts_none : length (put_all put_part r.parts rest) ≡ length rest = ap (λ (ps : List syntax.Part). length (put_all put_part ps rest)) known.no_parts in
      let j = grows_statements r.body.statements rest in
      let le = h.0 in
      let begun : m.routines ≡ l.routines = ap (λ (z : Layer). z.routines) (local_parts_declare k r.parts).same ∙ ap (λ (z : Layer). z.routines) (heading_declares x r.name.name r.kind).same in
      let d : Level total (length rest) (body m r.body r.is_entry) = level_of total high high m r.body r.is_entry rest (said_body_few m r.body r.is_entry rest known.no_entry known.says) j (subst (Each (Fits total high)) (sym begun) h.1) (omega (arith, room, le)) (omega (arith, a, c, kind_none, parts_none)) in
      (omega (arith, j, le), d)
  routine_by false l r rest is known s h =
      let last : List Kind = kind.Mark mark.Semicolon ∷ rest in
      let b : List Kind = put_body r.body last in
      let inside : List Kind = put_all put_part r.parts b in
      let high : ℕ = length (put_named_routine r rest) in
      let x : Layer = (open_routine l r.name.name).1 in
      let g = heading x r.name.name r.kind in
      let k : Layer = with_heading g.1 g.0 in
      let m : Layer = local_parts k r.parts in
      let e = heading_extended x r.name.name r.kind (kind.Mark mark.Semicolon ∷ inside) in
      let f = parts_extended k r.parts b in
      let a = e.image (earlier k m (local_parts_declare k r.parts) s) in
      let c = f.image s in
      let room : m.frame.room ≡ 0 = f.room ∙ e.room in
      let n = grows_optional mark.Entry r.is_entry (put_identifier r.name (put_routine_kind r.kind (kind.Mark mark.Semicolon ∷ inside))) in
      let j = grows_named_routine r rest in
      let le = h.0 in
      let begun : m.routines ≡ l.routines = ap (λ (z : Layer). z.routines) (local_parts_declare k r.parts).same ∙ ap (λ (z : Layer). z.routines) (heading_declares x r.name.name r.kind).same in
      let d : Level total (length last) (body m r.body r.is_entry) = body_level total high m r.body r.is_entry last (subst (Each (Fits total high)) (sym begun) h.1) (omega (arith, room, le)) (omega (arith, a, c, n)) in
      (omega (arith, j, le), each_weaker (Fits total (length last)) (Fits total (length rest)) (λ v i. omega (arith, i)) (body m r.body r.is_entry).routines d)

  routine_levels : (l : Layer) (r : syntax.Routine) (rest : List Kind) → IsKnown r → SmallNames (routine_begun l r) → Levels total (length (put_routine r rest)) l → Levels total (length rest) (routine l r)
  routine_levels l r rest known s h = routine_by (is_nameless r.kind) l r rest refl known s h

  initial_levels : (l : Layer) (ps : Parameters) (b : syntax.Body) (rest : List Kind) → Levels total (length (put_body b rest)) l → Levels total (length rest) (initial_statement l ps b)
  initial_levels l ps b rest h =
      let le = h.0 in
      let a = grows_body b rest in
      (omega (arith, a, le), body_level total (length (put_body b rest)) (with_heading (with_new_frame l) (heading_with [] ps None)) b true rest h.1 (omega (arith, le)) (omega arith))

pub program_level : (t : syntax.Tree) → EachRoutine IsKnown t.program → Each SmallNames (all_begun t) → Level (length (spell t.program)) 0 (program (nothing_laid t.lines) t.program)
program_level t known s = let n : ℕ = length (spell t.program) in (program_spent (Levels n) SmallNames (lower n) (same n) (routine_levels n) (initial_levels n) t known s (omega arith, tt)).1

-- ---- what all processes need

pub cells_few : (l : Layer) (bound : ℕ) (r : Room) (ps : List Process) → Each (λ (v : RoutineView). v.room ≤ bound) l.routines → r.cells ≤ bound → (room_from l r ps).cells ≤ bound
unfolding room_from
cells_few l bound r [] h le = le
cells_few l bound r (p ∷ ps) h le = cells_few l bound (room_for l r (slice_get l.routines p.routine)) ps h (go (slice_get l.routines p.routine) refl)
  where
    go : (o : Option RoutineView) → slice_get l.routines p.routine ≡ o → (room_for l r o).cells ≤ bound
    go None e = le
    go (Some v) e = let b : v.room ≤ bound = each_entry (λ (q : RoutineView). q.room ≤ bound) l.routines p.routine v e h in omega (arith, le, b)
