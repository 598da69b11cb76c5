-- In a program that breaks no rule no routine calls itself.
use Rattle.std.proofs.Common.{◌≡◌, ℕ, ◌+◌, ◌≤◌, ◌∙◌, Bool, true, false, if◌then◌else◌, List, [], ◌∷◌, ◌++◌, length, Option, Some, None, Ok, Err, is_some, refl, sym, ap, subst, arith}
use Rattle.cp_resolved.proofs.Words.{bytes_eq, bytes_eq-Decides, SystemKind, Identifier, ValueType, Use, no_use, Judged, ◌>>=◌, faults, Context, Step, meaning_or_none}
use Rattle.cp_resolved.proofs.Words.{to_kind, reserve_name, part_steps, Loud, Heard, Each, parts_kept, written_kept, last_is}
use Rattle.cp_tree.specs.Syntax as syntax
use Rattle.cp_tree.specs.Syntax.{Routine, Body, System, Definition, SystemDefinition, ProgramPart, Tree}
use Rattle.cp_scope.specs.declared.types.Meaning as checked
use Rattle.cp_scope.specs.declared.types.Meaning.TheVariants as checked_meaning
use Rattle.cp_scope.specs.Scopes as scopes
use Rattle.cp_scope.specs.Scopes.{Scope, Scopes, look, look_in, look_outer, or_else, through_seal, with_name, sealed, Around, last_of, add_around, enter, keep, start}
use Rattle.cp_check.specs.declared.types.Spot.TheVariants as spot
use Rattle.cp_check.specs.Headings as headings
use Rattle.cp_check.specs.Routines as routines
use Rattle.cp_check.specs.Systems as systems
use Rattle.cp_check.specs.Statements.{statements}
use Rattle.cp_check.specs.Faults.{declarations, program_context, declarations_and_body as checked_opened, faults_of}
use Rattle.cp_meaning_laws.proofs.Classes as classes
use Rattle.cp_meaning_laws.proofs.Once.{no_left, no_right, no_first, none_before, inside_sound, defined_sound, declarations_sound, parts_sound, uses_sound as limits_sound}
use Rattle.cp_meaning_laws.proofs.Told as told
use Rattle.cp_meaning_laws.proofs.Told.{Told, heard}
use Rattle.cp_symbols.specs.declared.names.LayoutMeaning as laid_meaning
use Rattle.cp_symbols.specs.declared.names.LayoutMeaning.TheVariants as meaning
use Rattle.cp_layout.specs.Layers as layers
use Rattle.cp_layout.specs.Layers.{Layer, Pending, find, seen_inside, with_open, nothing_laid}
use Rattle.cp_layout.specs.LaidDeclarations as lays
use Rattle.cp_layout.specs.LaidDeclarations.{body, Parameters, heading, heading_with, with_heading, with_new_frame, open_routine, local_parts, permanent_parts, system_groups, enter_system, initial_statement, definition, system, system_definition, system_definitions, program_part, program_parts, program}
use Rattle.cp_tree.specs.Spelling.{is_nameless}
use Rattle.cp_resolved.proofs.declarations.NamedRoutines.{IsApartBy, IsRoutine}
use Rattle.cp_resolved.proofs.declarations.Nameless.{IsKnownBy, EachIn, EachInPart, EachRoutine}
use Rattle.cp_resolved.proofs.laid.Avoiding.{AvoidStatements, statements_avoid, says_avoid}
use Rattle.cp_resolved.proofs.laid.Declared.{Declared, then_declared, heading_declared, local_parts_declared, permanent_declared, system_groups_declared, constants_declared, variables_declared, written_typed}
use Rattle.cp_resolved.proofs.laid.Extends.{routine_names, system_names}
use Rattle.cp_resolved.proofs.laid.Foreign.{IsForeign, AreForeign, Fine, body_fine}
use Rattle.cp_resolved.proofs.laid.Named.{IsFound, found}
use Rattle.cp_resolved.proofs.systems.Owning.{Outside}
use Rattle.cp_resolved.proofs.agreeing.OwnNames.{Inside, moved, one_inside, constants_inside, variables_inside, type_inside, local_parts_inside, permanent_parts_inside, heading_inside, system_groups_inside}
use Rattle.cp_resolved.proofs.laid.Whole.{Whole, whole_declared, heading_added, frame_new, routine_opened, routine_laid, routines_laid, body_count, system_entered, definition_laid, named_laid, part_laid, nothing_whole}

-- ---- names that stand for no routine to come

-- no name stands for the routine that comes next
abbrev IsNew : Layer → Type 0
IsNew l = (y : List ℕ) → find y l.names ≡ Some (meaning.Routine (length l.routines)) → ⊥

abbrev nobody : List ℕ → Type 0
nobody y = ⊥

-- no name stands for a routine
abbrev NoneInside : layers.Names → Scopes → Type 0
NoneInside ns s = (n : ℕ) → Inside nobody n ns s

if_other : (b : Bool) (m : laid_meaning.LayoutMeaning) (o : Option laid_meaning.LayoutMeaning) (n : ℕ) → (Some m ≡ Some (meaning.Routine n) → ⊥) → (o ≡ Some (meaning.Routine n) → ⊥) → (if b then Some m else o) ≡ Some (meaning.Routine n) → ⊥
if_other true m o n h g e = h e
if_other false m o n h g e = g e

open_no_routine : (y x : List ℕ) (m : laid_meaning.LayoutMeaning) (ds : layers.Names) (n : ℕ) → (find y (seen_inside ds) ≡ Some (meaning.Routine n) → ⊥) → find y (with_open (x, m) (seen_inside ds)) ≡ Some (meaning.Routine n) → ⊥
open_no_routine y x (meaning.Constant b z) ds n h e = if_other (bytes_eq x y) (meaning.Constant b z) (find y (seen_inside ds)) n (λ f. cc) h e
open_no_routine y x (meaning.Kind t) ds n h e = if_other (bytes_eq x y) (meaning.Kind t) (find y (seen_inside ds)) n (λ f. cc) h e
open_no_routine y x (meaning.Predeclared p) ds n h e = if_other (bytes_eq x y) (meaning.Predeclared p) (find y (seen_inside ds)) n (λ f. cc) h e
open_no_routine y x _ ds n h e = h e

seen_no_routine : (y : List ℕ) (ds : layers.Names) (n : ℕ) → find y (seen_inside ds) ≡ Some (meaning.Routine n) → ⊥
seen_no_routine y [] n e = absurd (let bad : None ≡ Some (meaning.Routine n) = e in cc)
seen_no_routine y (d ∷ ds) n e = open_no_routine y d.0 d.1 ds n (seen_no_routine y ds n) e

-- ---- bodies

-- the names that stand for the routine that is laid out
abbrev Own : Layer → List ℕ → Type 0
Own l x = find x l.names ≡ Some (meaning.Routine (length l.routines))

body_foreign : (l : Layer) (b : Body) (checks : Bool) → Whole l → AreForeign l.items → AvoidStatements (Own l) b.statements → (checks ≡ true → Own l syntax.nameless → ⊥) → AreForeign (body l b checks).items
body_foreign l b checks whole foreign avoids none =
    let fine : Fine (Own l) (length l.routines) l = record { number = refl; own = λ x e. e; named = whole.ground.named; pending = subst (λ (ps : List Pending). Each (λ (p : Pending). IsForeign (length l.routines) p.action) ps) (sym whole.pending) tt; items = foreign } in
    (body_fine (Own l) (length l.routines) l b.statements checks fine avoids none).items

initial_foreign : (l : Layer) (ps : Parameters) (b : Body) (s : Scopes) (w : Context) → Whole l → IsNew l → AreForeign l.items → Heard s → faults (statements s w (Ok no_use) b.statements) ≡ [] → AreForeign (initial_statement l ps b).items
initial_foreign l ps b s w whole new foreign hears none =
    let m : Layer = with_new_frame l in
    let k : Layer = with_heading m (heading_with [] ps None) in
    let d : Declared l k = then_declared l m k (frame_new l whole.ground.named) (heading_added m (heading_with [] ps None)) in
    let never : Own k syntax.nameless → ⊥ = new syntax.nameless in
    body_foreign k b true (whole_declared l k d whole) foreign (statements_avoid s w hears (Own k) (λ x e. absurd (new x e)) never b.statements (Ok no_use) none).1 (λ c. never)

-- ---- routines

look_new : (c : Scope) (x : List ℕ) (m : Option checked.Meaning) → c.is_sealed ≡ false → is_some (scopes.find x c.names) ≡ false → look_in x (with_name c x m) ≡ Some m
look_new c x m unsealed new = go (is_some (scopes.find x c.names)) new
  where
    seen : (b : Bool) → b ≡ false → (if b then through_seal (scopes.find x (c.names ++ (x, m) ∷ [])) else scopes.find x (c.names ++ (x, m) ∷ [])) ≡ Some m
    seen true e = absurd (let bad : true ≡ false = e in cc)
    seen false e = classes.last_found x c.names m new

    go : (b : Bool) → b ≡ false → look_in x (if b then c else record { names = c.names ++ (x, m) ∷ []; pending = c.pending; is_sealed = c.is_sealed }) ≡ Some m
    go true e = absurd (let bad : true ≡ false = e in cc)
    go false e = seen c.is_sealed unsealed

not_inside : (x : List ℕ) (c : Scope) → scopes.find x c.names ≡ None → look_in x c ≡ None
not_inside x c e = go c.is_sealed
  where
    go : (b : Bool) → (if b then through_seal (scopes.find x c.names) else scopes.find x c.names) ≡ None
    go true = ap through_seal e
    go false = e

-- a routine's name in the scope around
known_outside : (r : Routine) (j : Judged (Option ValueType)) (s before : Scopes) → Loud j → faults j ≡ [] → s.outer ≡ before.outer ++ sealed false before.inner ∷ [] → is_some (scopes.find r.name.name before.inner.names) ≡ false → look_outer r.name.name (headings.announce_judged r j s).outer ≡ Some (Some (checked_meaning.Routine r.name.at))
unfolding headings.announce add_around keep
known_outside r (Ok t) s before loud none outer new =
    let m : Option checked.Meaning = Some (checked_meaning.Routine r.name.at) in
    let around : last_of s.outer ≡ (let a : Around = record { outer = before.outer; inner = sealed false before.inner } in a) = ap last_of outer ∙ last_is before.outer (sealed false before.inner) in
    ap (λ (a : Around). look_outer r.name.name (a.outer ++ with_name a.inner r.name.name m ∷ [])) around
    ∙ classes.outer_last r.name.name before.outer (with_name (sealed false before.inner) r.name.name m) m (look_new (sealed false before.inner) r.name.name m refl new)
known_outside r (Err []) s before loud none outer new = absurd loud
known_outside r (Err (f ∷ fs)) s before loud none outer new = absurd (let bad : f ∷ fs ≡ [] = none in cc)

pub announced_names : (r : Routine) (j : Judged (Option ValueType)) (s : Scopes) → (headings.announce_judged r j s).inner.names ≡ s.inner.names
unfolding headings.announce add_around keep
announced_names r (Ok t) s = refl
announced_names r (Err fs) s = refl

entered_outer : (s : Scopes) → (enter false s).outer ≡ s.outer ++ sealed false s.inner ∷ []
unfolding enter
entered_outer s = refl

heading_scopes : (k : Option SystemKind) (r : Routine) (d : Step) → (headings.heading k r d).scopes ≡ (headings.parameters_and_result (enter false d.scopes) r.kind).scopes
unfolding headings.heading
heading_scopes k r d = refl

name_sound : (k : Option SystemKind) (r : Routine) (d : Step) → faults (headings.heading k r d).result ≡ [] → d.faults ≡ []
unfolding headings.heading
name_sound k r d e = none_before d.faults (headings.parameters_and_result (enter false d.scopes) r.kind).result (no_first (headings.after_faults d.faults (headings.parameters_and_result (enter false d.scopes) r.kind).result) (headings.check_heading k r) e)

nothing_entered : (s : Scopes) (y : List ℕ) → scopes.find y (enter false s).inner.names ≡ None
unfolding enter
nothing_entered s y = refl

-- under its own name alone the routine is known in its statements
own_named : (k : Option SystemKind) (l : Layer) (s : Scopes) (r : Routine) → IsNew l →
    (y : List ℕ) → find y (local_parts (with_heading (heading (open_routine l r.name.name).1 r.name.name r.kind).1 (heading (open_routine l r.name.name).1 r.name.name r.kind).0) r.parts).names ≡ Some (meaning.Routine (length l.routines)) → y ≡ r.name.name
own_named k l s r new y e =
    let n : ℕ = length l.routines in
    let d : Step = reserve_name s r.name in
    let g : headings.Headed = headings.heading k r d in
    let known : Scopes = headings.announce_judged r g.result g.scopes in
    let after : Scopes = (part_steps spot.Other known r.parts).scopes in
    let Q : List ℕ → Type 0 = λ z. z ≡ r.name.name in
    let x : Layer = (open_routine l r.name.name).1 in
    let h = heading x r.name.name r.kind in
    let begun : Inside Q n x.names (enter false d.scopes) = λ z. first z in
    let headed : Inside Q n h.1.names (headings.parameters_and_result (enter false d.scopes) r.kind).scopes = heading_inside Q n x (enter false d.scopes) r.name.name r.kind begun in
    let there : Inside Q n h.1.names known = moved Q n h.1.names (headings.parameters_and_result (enter false d.scopes) r.kind).scopes known (announced_names r g.result g.scopes ∙ ap (λ (u : Scopes). u.inner.names) (heading_scopes k r d)) headed in
    let last : Inside Q n (local_parts (with_heading h.1 h.0) r.parts).names after = local_parts_inside Q n spot.Other (with_heading h.1 h.0) known r.parts there in
    (last y e).0
  where
    first : (z : List ℕ) → find z ((r.name.name, meaning.Routine (length l.routines)) ∷ l.names) ≡ Some (meaning.Routine (length l.routines)) → (z ≡ r.name.name) × (scopes.find z (enter false (reserve_name s r.name).scopes).inner.names ≡ None)
    first z = go (bytes_eq r.name.name z) refl
      where
        go : (b : Bool) → bytes_eq r.name.name z ≡ b → (if b then Some (meaning.Routine (length l.routines)) else find z l.names) ≡ Some (meaning.Routine (length l.routines)) → (z ≡ r.name.name) × (scopes.find z (enter false (reserve_name s r.name).scopes).inner.names ≡ None)
        go true same f = (sym ((bytes_eq-Decides r.name.name z).0 same), nothing_entered (reserve_name s r.name).scopes z)
        go false same f = absurd (new z f)

-- and there it is the one that is checked
seen_as : (k : Option SystemKind) (l : Layer) (s : Scopes) (r : Routine) → IsNew l → Told s → faults (headings.heading k r (reserve_name s r.name)).result ≡ [] →
    (y : List ℕ) → find y (local_parts (with_heading (heading (open_routine l r.name.name).1 r.name.name r.kind).1 (heading (open_routine l r.name.name).1 r.name.name r.kind).0) r.parts).names ≡ Some (meaning.Routine (length l.routines)) →
    look y (part_steps spot.Other (headings.announce_judged r (headings.heading k r (reserve_name s r.name)).result (headings.heading k r (reserve_name s r.name)).scopes) r.parts).scopes ≡ Some (Some (checked_meaning.Routine r.name.at))
seen_as k l s r new tells none y e =
    let n : ℕ = length l.routines in
    let d : Step = reserve_name s r.name in
    let g : headings.Headed = headings.heading k r d in
    let known : Scopes = headings.announce_judged r g.result g.scopes in
    let after : Scopes = (part_steps spot.Other known r.parts).scopes in
    let Q : List ℕ → Type 0 = λ z. z ≡ r.name.name in
    let x : Layer = (open_routine l r.name.name).1 in
    let h = heading x r.name.name r.kind in
    let begun : Inside Q n x.names (enter false d.scopes) = λ z. first z in
    let headed : Inside Q n h.1.names (headings.parameters_and_result (enter false d.scopes) r.kind).scopes = heading_inside Q n x (enter false d.scopes) r.name.name r.kind begun in
    let there : Inside Q n h.1.names known = moved Q n h.1.names (headings.parameters_and_result (enter false d.scopes) r.kind).scopes known (announced_names r g.result g.scopes ∙ ap (λ (u : Scopes). u.inner.names) (heading_scopes k r d)) headed in
    let last : Inside Q n (local_parts (with_heading h.1 h.0) r.parts).names after = local_parts_inside Q n spot.Other (with_heading h.1 h.0) known r.parts there in
    let mine = last y e in
    let loud : Loud g.result = told.heading_loud k r d (told.name_reserved_told s r.name tells) in
    let new_name : is_some (scopes.find r.name.name d.scopes.inner.names) ≡ false = ap (λ ds. is_some (scopes.find r.name.name ds)) (classes.reserved_names s r.name) ∙ classes.reserved_new s r.name (name_sound k r d none) in
    let outer : g.scopes.outer ≡ d.scopes.outer ++ sealed false d.scopes.inner ∷ [] = ap (λ (u : Scopes). u.outer) (heading_scopes k r d) ∙ ((written_kept (enter false d.scopes) r.kind).outer ∙ entered_outer d.scopes) in
    let outside : look_outer r.name.name after.outer ≡ Some (Some (checked_meaning.Routine r.name.at)) = ap (look_outer r.name.name) (parts_kept spot.Other known r.parts).outer ∙ known_outside r g.result g.scopes d.scopes loud none outer new_name in
    ap (λ o. or_else o (look_outer y after.outer)) (not_inside y after.inner mine.1) ∙ subst (λ (z : List ℕ). look_outer z after.outer ≡ Some (Some (checked_meaning.Routine r.name.at))) (sym mine.0) outside
  where
    first : (z : List ℕ) → find z ((r.name.name, meaning.Routine (length l.routines)) ∷ l.names) ≡ Some (meaning.Routine (length l.routines)) → (z ≡ r.name.name) × (scopes.find z (enter false (reserve_name s r.name).scopes).inner.names ≡ None)
    first z = go (bytes_eq r.name.name z) refl
      where
        go : (b : Bool) → bytes_eq r.name.name z ≡ b → (if b then Some (meaning.Routine (length l.routines)) else find z l.names) ≡ Some (meaning.Routine (length l.routines)) → (z ≡ r.name.name) × (scopes.find z (enter false (reserve_name s r.name).scopes).inner.names ≡ None)
        go true same f = (sym ((bytes_eq-Decides r.name.name z).0 same), nothing_entered (reserve_name s r.name).scopes z)
        go false same f = absurd (new z f)

routine_sound : (k : Option SystemKind) (s : Scopes) (r : Routine) → (routines.routine_step k s r).faults ≡ [] → (faults (headings.heading k r (reserve_name s r.name)).result ≡ []) × (faults (routines.enter_routine k r (headings.announce_judged r (headings.heading k r (reserve_name s r.name)).result (headings.heading k r (reserve_name s r.name)).scopes)).uses ≡ [])
unfolding routines.routine_step
routine_sound k s r e =
    let g : headings.Headed = headings.heading k r (reserve_name s r.name) in
    (no_left (faults g.result) (faults (routines.enter_routine k r (headings.announce_judged r g.result g.scopes)).uses) e, no_right (faults g.result) (faults (routines.enter_routine k r (headings.announce_judged r g.result g.scopes)).uses) e)

uses_sound : (k : Option SystemKind) (r : Routine) (s : Scopes) → faults (routines.enter_routine k r s).uses ≡ [] → ((part_steps spot.Other s r.parts).faults ≡ []) × (faults (statements (part_steps spot.Other s r.parts).scopes (routines.routine_context k r) (Ok no_use) r.body.statements) ≡ [])
unfolding routines.enter_routine
uses_sound k r s e =
    let d : Step = part_steps spot.Other s r.parts in
    let j : Judged Use = statements d.scopes (routines.routine_context k r) (Ok no_use) r.body.statements in
    (none_before d.faults j e, told.none_after d.faults j e)

-- its statements call it neither by its name nor by a check
calm_body : (b : Bool) (r : Routine) (m : Layer) (s : Scopes) (w : Context) → IsKnownBy b r → IsApartBy b r → Heard s → ((y : List ℕ) → Own m y → (n : ℕ) × ((w.routine ≡ Some n) × (look y s ≡ Some (Some (checked_meaning.Routine n))))) → ((r.name.name ≡ syntax.nameless → ⊥) → Own m syntax.nameless → ⊥) → faults (statements s w (Ok no_use) r.body.statements) ≡ [] →
    AvoidStatements (Own m) r.body.statements × (r.is_entry ≡ true → Own m syntax.nameless → ⊥)
calm_body true r m s w known other hears own apart none = (says_avoid s w hears (Own m) own r.body.statements (Ok no_use) known.says none, λ e. absurd (let bad : true ≡ false = sym e ∙ known.no_entry in cc))
calm_body false r m s w known other hears own apart none = ((statements_avoid s w hears (Own m) own (apart other) r.body.statements (Ok no_use) none).1, λ e. apart other)

routine_foreign : (k : Option SystemKind) (l : Layer) (s : Scopes) (r : Routine) → IsRoutine r → Whole l → IsNew l → Told s → (routines.routine_step k s r).faults ≡ [] → AreForeign l.items → AreForeign (lays.routine l r).items
routine_foreign k l s r is whole new tells e foreign =
    let d : Step = reserve_name s r.name in
    let g : headings.Headed = headings.heading k r d in
    let known : Scopes = headings.announce_judged r g.result g.scopes in
    let after : Step = part_steps spot.Other known r.parts in
    let sound = routine_sound k s r e in
    let uses = uses_sound k r known sound.1 in
    let x : Layer = (open_routine l r.name.name).1 in
    let h = heading x r.name.name r.kind in
    let m : Layer = local_parts (with_heading h.1 h.0) r.parts in
    let begun : Whole x = whole_declared l x (routine_opened l r.name.name whole.ground.named) whole in
    let a : Declared x h.1 = heading_declared x r.name.name r.kind begun.ground.named in
    let b : Declared x (with_heading h.1 h.0) = then_declared x h.1 (with_heading h.1 h.0) a (heading_added h.1 h.0) in
    let c : Declared x m = then_declared x (with_heading h.1 h.0) m b (local_parts_declared (with_heading h.1 h.0) r.parts) in
    let same_items : m.items ≡ l.items = ap (λ (j : Layer). j.items) c.same in
    let same_count : length m.routines ≡ length l.routines = ap (λ (j : Layer). length j.routines) c.same in
    let named : Told d.scopes = told.name_reserved_told s r.name tells in
    let before : Told known = told.announced_told r g.result g.scopes (told.heading_loud k r d named) sound.0 (told.heading_told k r d sound.0 named) in
    let inside : Told after.scopes = told.parts_told spot.Other known r.parts uses.0 before in
    let mine : (y : List ℕ) → Own m y → find y m.names ≡ Some (meaning.Routine (length l.routines)) = λ y f. subst (λ (n : ℕ). find y m.names ≡ Some (meaning.Routine n)) same_count f in
    let own : (y : List ℕ) → Own m y → (n : ℕ) × (((routines.routine_context k r).routine ≡ Some n) × (look y after.scopes ≡ Some (Some (checked_meaning.Routine n)))) = λ y f. (r.name.at, (refl, seen_as k l s r new tells sound.0 y (mine y f))) in
    let apart : (r.name.name ≡ syntax.nameless → ⊥) → Own m syntax.nameless → ⊥ = λ other f. other (sym (own_named k l s r new syntax.nameless (mine syntax.nameless f))) in
    let calm = calm_body (is_nameless r.kind) r m after.scopes (routines.routine_context k r) is.known is.apart (heard after.scopes inside) own apart uses.1 in
    body_foreign m r.body r.is_entry (whole_declared x m c begun) (subst AreForeign (sym same_items) foreign) calm.0 calm.1

routine_count : (l : Layer) (r : Routine) → Whole l → length (lays.routine l r).routines ≡ length l.routines + 1
routine_count l r whole =
    let x : Layer = (open_routine l r.name.name).1 in
    let h = heading x r.name.name r.kind in
    let m : Layer = local_parts (with_heading h.1 h.0) r.parts in
    let begun : Whole x = whole_declared l x (routine_opened l r.name.name whole.ground.named) whole in
    let a : Declared x h.1 = heading_declared x r.name.name r.kind begun.ground.named in
    let b : Declared x (with_heading h.1 h.0) = then_declared x h.1 (with_heading h.1 h.0) a (heading_added h.1 h.0) in
    let c : Declared x m = then_declared x (with_heading h.1 h.0) m b (local_parts_declared (with_heading h.1 h.0) r.parts) in
    body_count m r.body r.is_entry (whole_declared x m c begun) ∙ ap (λ (j : Layer). length j.routines + 1) c.same

same_routine : (n m : ℕ) → Some (meaning.Routine n) ≡ Some (meaning.Routine m) → n ≡ m
same_routine n m e = cc

routine_new : (l : Layer) (r : Routine) → Whole l → IsNew (lays.routine l r)
routine_new l r whole y e =
    let f : find y ((r.name.name, meaning.Routine (length l.routines)) ∷ l.names) ≡ Some (meaning.Routine (length l.routines + 1)) = ap (find y) (sym (routine_names l r)) ∙ (e ∙ ap (λ (n : ℕ). Some (meaning.Routine n)) (routine_count l r whole)) in
    go (bytes_eq r.name.name y) f
  where
    go : (b : Bool) → (if b then Some (meaning.Routine (length l.routines)) else find y l.names) ≡ Some (meaning.Routine (length l.routines + 1)) → ⊥
    go true f = let bad = same_routine (length l.routines) (length l.routines + 1) f in omega (arith, bad)
    go false f =
        let le : length l.routines + 1 ≤ length l.routines = subst (IsFound (length l.systems) (length l.routines)) f (found (length l.systems) (length l.routines) y l.names whole.ground.named.names) in
        omega (arith, le)

routines_foreign : (k : Option SystemKind) (l : Layer) (s : Scopes) (rs : List Routine) → Each IsRoutine rs → Whole l → IsNew l → Told s → (routines.routine_steps k s rs).faults ≡ [] → AreForeign l.items → AreForeign (lays.routines l rs).items × IsNew (lays.routines l rs)
unfolding lays.routines routines.routine_steps
routines_foreign k l s [] is whole new tells e foreign = (foreign, new)
routines_foreign k l s (r ∷ rs) is whole new tells e foreign =
    let middle : Scopes = (routines.routine_step k s r).scopes in
    let first : (routines.routine_step k s r).faults ≡ [] = no_left (routines.routine_step k s r).faults (routines.routine_steps k middle rs).faults e in
    routines_foreign k (lays.routine l r) middle rs is.1 (routine_laid l r whole).whole (routine_new l r whole) (told.routine_told k s r first tells) (no_right (routines.routine_step k s r).faults (routines.routine_steps k middle rs).faults e) (routine_foreign k l s r is.0 whole new tells first foreign)

-- ---- system types

initial_sound : (s : Scopes) (y : System) → faults (systems.system_type s y).type ≡ [] → faults (statements (systems.inside (enter true s) y).scopes (systems.initial_context y.kind) (Ok no_use) y.body.statements) ≡ []
unfolding systems.system_type systems.enter_system
initial_sound s y h =
    let d : Step = systems.inside (enter true s) y in
    told.none_after d.faults (statements d.scopes (systems.initial_context y.kind) (Ok no_use) y.body.statements) (no_first (systems.enter_system (enter true s) y).uses (systems.to_component y.kind y.at) h)

entered_nobody : (l : Layer) (s : Scopes) (n : ℕ) → Inside nobody n (enter_system l).1.names (enter true s)
entered_nobody l s n y e = absurd (seen_no_routine y l.names n e)

record SystemForeign (l : Layer) (s : Scopes) (y : System) : Type 0 where
  inside : AreForeign (lays.system_inside (system_groups (enter_system l).1 [] y.parameters).1 y).items
  new : IsNew (lays.system_inside (system_groups (enter_system l).1 [] y.parameters).1 y)
  whole : Whole (lays.system_inside (system_groups (enter_system l).1 [] y.parameters).1 y)

inside_foreign : (l : Layer) (s : Scopes) (y : System) → Each IsRoutine y.routines → Whole l → Outside l → Told s → (systems.inside (enter true s) y).faults ≡ [] → AreForeign l.items → SystemForeign l s y
unfolding systems.inside
inside_foreign l s y is whole outside tells e foreign =
    let k : SystemKind = y.kind in
    let before : Scopes = enter true s in
    let given : Step = systems.group_steps k before y.parameters in
    let parts : Step = part_steps (spot.Permanent (Some k)) given.scopes y.parts in
    let later = no_right given.faults _ e in
    let given_none : given.faults ≡ [] = no_left given.faults _ e in
    let parts_none : parts.faults ≡ [] = no_left parts.faults (routines.routine_steps (Some k) parts.scopes y.routines).faults later in
    let o : Layer = (enter_system l).1 in
    let whole_o : Whole o = (system_entered l outside whole).whole in
    let x = system_groups o [] y.parameters in
    let p : Layer = permanent_parts x.1 y.parts in
    let a : Declared o x.1 = system_groups_declared o [] y.parameters whole_o.ground.named in
    let b : Declared o p = then_declared o x.1 p a (permanent_declared x.1 y.parts) in
    let whole_p : Whole p = whole_declared o p b whole_o in
    let n : ℕ = length p.routines in
    let nobody_given : Inside nobody n x.1.names given.scopes = system_groups_inside nobody n k o [] before y.parameters (entered_nobody l s n) in
    let nobody_parts : Inside nobody n p.names parts.scopes = permanent_parts_inside nobody n (spot.Permanent (Some k)) x.1 given.scopes y.parts nobody_given in
    let told_given : Told given.scopes = told.system_groups_told k before y.parameters given_none (told.enter_told true s tells) in
    let told_parts : Told parts.scopes = told.parts_told (spot.Permanent (Some k)) given.scopes y.parts parts_none told_given in
    let same_items : p.items ≡ l.items = ap (λ (j : Layer). j.items) b.same in
    let done = routines_foreign (Some k) p parts.scopes y.routines is whole_p (λ z f. (nobody_parts z f).0) told_parts (no_right parts.faults (routines.routine_steps (Some k) parts.scopes y.routines).faults later) (subst AreForeign (sym same_items) foreign) in
    record { inside = done.0; new = done.1; whole = (routines_laid p y.routines whole_p).whole }

defined_is : (s : Scopes) (y : System) → faults (systems.system_type s y).type ≡ [] → faults (systems.type_of_definition s (syntax.system_definition y)).type ≡ []
unfolding systems.type_of_definition
defined_is s y h = h

system_foreign : (l : Layer) (s : Scopes) (y : System) → Each IsRoutine y.routines → Whole l → Outside l → Told s → faults (systems.system_type s y).type ≡ [] → AreForeign l.items → AreForeign (system l y).1.items
unfolding system
system_foreign l s y is whole outside tells e foreign =
    let sound : (systems.inside (enter true s) y).faults ≡ [] = inside_sound s y (defined_is s y e) in
    let inside : SystemForeign l s y = inside_foreign l s y is whole outside tells sound foreign in
    let x = system_groups (enter_system l).1 [] y.parameters in
    let hears : Heard (systems.inside (enter true s) y).scopes = heard (systems.inside (enter true s) y).scopes (told.inside_told (enter true s) y sound (told.enter_told true s tells)) in
    initial_foreign (lays.system_inside x.1 y) x.0 y.body (systems.inside (enter true s) y).scopes (systems.initial_context y.kind) inside.whole inside.new inside.inside hears (initial_sound s y e)

-- ---- the program

record Outer (l : Layer) (s : Scopes) : Type 0 where
  whole : Whole l
  outside : Outside l
  tells : Told s
  foreign : AreForeign l.items
  none : NoneInside l.names s

defined_foreign : (l : Layer) (s : Scopes) (v : Definition) → EachIn IsRoutine v → Outer l s → faults (systems.type_of_definition s v).type ≡ [] → AreForeign (definition l v).1.items × NoneInside (definition l v).1.names (systems.type_of_definition s v).scopes
unfolding systems.type_of_definition
defined_foreign l s (syntax.type_definition t) is h e = (subst AreForeign (sym (ap (λ (j : Layer). j.items) (written_typed l t h.whole.ground.named).declared.same)) h.foreign, λ n. type_inside nobody n l s spot.Definition t (h.none n))
defined_foreign l s (syntax.system_definition y) is h e = (
  system_foreign l s y is h.whole h.outside h.tells e h.foreign,
  λ n. subst (λ (ns : layers.Names). Inside nobody n ns (systems.system_type s y).scopes) (sym (system_names l y)) (moved nobody n l.names s (systems.system_type s y).scopes (told.system_names s y) (h.none n)),
)

outer_reserved : (l : Layer) (s : Scopes) (i : Identifier) → Outer l s → Outer l (reserve_name s i).scopes
outer_reserved l s i h = record { whole = h.whole; outside = h.outside; tells = told.name_reserved_told s i h.tells; foreign = h.foreign; none = λ n. moved nobody n l.names s (reserve_name s i).scopes (classes.reserved_names s i) (h.none n) }

definition_outer : (l : Layer) (s : Scopes) (d : SystemDefinition) → EachIn IsRoutine d.value → Outer l s → (systems.definition_step s d).faults ≡ [] → Outer (system_definition l d) (systems.definition_step s d).scopes
unfolding systems.definition_step
definition_outer l s d is h e =
    let named : Scopes = (reserve_name s d.name).scopes in
    let begun : Outer l named = outer_reserved l s d.name h in
    let done = defined_foreign l named d.value is begun (defined_sound s d e) in
    let laid_here = named_laid d.name.name (definition l d.value) (definition_laid l d.value h.whole h.outside) in
    record {
      whole = laid_here.0;
      outside = laid_here.1;
      tells = told.definition_told s d e h.tells;
      foreign = done.0;
      none = λ n. one_inside nobody n (definition l d.value).1.names (systems.type_of_definition named d.value).scopes d.name (meaning.Kind (definition l d.value).0) (meaning_or_none ((systems.type_of_definition named d.value).type >>= to_kind)) tt (done.1 n);
    }

definitions_outer : (l : Layer) (s : Scopes) (ds : List SystemDefinition) → Each (λ (d : SystemDefinition). EachIn IsRoutine d.value) ds → Outer l s → (systems.definition_steps s ds).faults ≡ [] → Outer (system_definitions l ds) (systems.definition_steps s ds).scopes
unfolding systems.definition_steps system_definitions
definitions_outer l s [] is h e = h
definitions_outer l s (d ∷ ds) is h e =
    let middle : Scopes = (systems.definition_step s d).scopes in
    definitions_outer (system_definition l d) middle ds is.1 (definition_outer l s d is.0 h (no_left (systems.definition_step s d).faults (systems.definition_steps middle ds).faults e)) (no_right (systems.definition_step s d).faults (systems.definition_steps middle ds).faults e)

part_outer : (l : Layer) (s : Scopes) (q : ProgramPart) → EachInPart IsRoutine q → Outer l s → (systems.program_part_step s q).faults ≡ [] → Outer (program_part l q) (systems.program_part_step s q).scopes
unfolding systems.program_part_step
part_outer l s (syntax.program_constants at ds) is h e =
    let laid_here = part_laid l (syntax.program_constants at ds) h.whole h.outside in
    record {
      whole = laid_here.0;
      outside = laid_here.1;
      tells = told.constants_told s ds e h.tells;
      foreign = subst AreForeign (sym (ap (λ (j : Layer). j.items) (constants_declared l ds h.whole.ground.named).same)) h.foreign;
      none = λ n. constants_inside nobody n l s ds (h.none n);
    }
part_outer l s (syntax.program_types at ds) is h e = definitions_outer l s ds is h e
part_outer l s (syntax.program_variables at gs) is h e =
    let laid_here = part_laid l (syntax.program_variables at gs) h.whole h.outside in
    record {
      whole = laid_here.0;
      outside = laid_here.1;
      tells = told.variables_told (spot.Permanent None) s gs e h.tells;
      foreign = subst AreForeign (sym (ap (λ (j : Layer). j.items) (variables_declared l gs h.whole.ground.named).same)) h.foreign;
      none = λ n. variables_inside nobody n (spot.Permanent None) l s gs (h.none n);
    }

parts_outer : (l : Layer) (s : Scopes) (qs : List ProgramPart) → Each (EachInPart IsRoutine) qs → Outer l s → (systems.program_part_steps s qs).faults ≡ [] → Outer (program_parts l qs) (systems.program_part_steps s qs).scopes
unfolding systems.program_part_steps program_parts
parts_outer l s [] is h e = h
parts_outer l s (q ∷ qs) is h e =
    let middle : Scopes = (systems.program_part_step s q).scopes in
    parts_outer (program_part l q) middle qs is.1 (part_outer l s q is.0 h (no_left (systems.program_part_step s q).faults (systems.program_part_steps middle qs).faults e)) (no_right (systems.program_part_step s q).faults (systems.program_part_steps middle qs).faults e)

-- whether a meaning is that of a routine
abbrev is_routine : Option laid_meaning.LayoutMeaning → Bool
is_routine (Some (meaning.Routine n)) = true
is_routine o = false

if_not_routine : (b : Bool) (m o : Option laid_meaning.LayoutMeaning) → is_routine m ≡ false → is_routine o ≡ false → is_routine (if b then m else o) ≡ false
if_not_routine true m o h g = h
if_not_routine false m o h g = g

abbrev AreNoRoutines : layers.Names → Type 0
AreNoRoutines [] = Unit {0}
AreNoRoutines (d ∷ ds) = (is_routine (Some d.1) ≡ false) × AreNoRoutines ds

find_no_routine : (y : List ℕ) (ds : layers.Names) → AreNoRoutines ds → is_routine (find y ds) ≡ false
find_no_routine y [] h = refl
find_no_routine y (d ∷ ds) h = if_not_routine (bytes_eq d.0 y) (Some d.1) (find y ds) h.0 (find_no_routine y ds h.1)

outermost_none : (y : List ℕ) (n : ℕ) → find y layers.outermost ≡ Some (meaning.Routine n) → ⊥
outermost_none y n e =
    let none : is_routine (find y layers.outermost) ≡ false = find_no_routine y layers.outermost (refl, (refl, (refl, (refl, (refl, (refl, (refl, (refl, (refl, (refl, (refl, (refl, (refl, (refl, (refl, tt))))))))))))))) in
    let bad : true ≡ false = sym (ap is_routine e) ∙ none in
    cc

body_sound : (t : Tree) → faults_of t ≡ [] → faults (statements (routines.routine_steps None (systems.program_part_steps start t.program.parts).scopes t.program.routines).scopes program_context (Ok no_use) t.program.body.statements) ≡ []
unfolding faults_of checked_opened declarations
body_sound t h = told.none_after (declarations start t.program).faults (statements (declarations start t.program).scopes program_context (Ok no_use) t.program.body.statements) (limits_sound t.program.period (checked_opened start t.program).scopes (checked_opened start t.program).uses h)

nothing_foreign : (lines : List ℕ) → Outer (nothing_laid lines) start
nothing_foreign lines = record { whole = nothing_whole lines; outside = λ n r e. absurd cc; tells = told.start_told; foreign = tt; none = λ n y e. absurd (outermost_none y n e) }

routines_sound : (t : Tree) → faults_of t ≡ [] → (routines.routine_steps None (systems.program_part_steps start t.program.parts).scopes t.program.routines).faults ≡ []
unfolding declarations
routines_sound t h = no_right (systems.program_part_steps start t.program.parts).faults (routines.routine_steps None (systems.program_part_steps start t.program.parts).scopes t.program.routines).faults (declarations_sound t h)

-- in what is laid out of a program no item calls the routine that it stands in
pub program_foreign : (t : Tree) → EachRoutine IsRoutine t.program → faults_of t ≡ [] → AreForeign (program (nothing_laid t.lines) t.program).items
unfolding program
program_foreign t is h =
    let l : Layer = nothing_laid t.lines in
    let k : Layer = program_parts l t.program.parts in
    let s : Scopes = (systems.program_part_steps start t.program.parts).scopes in
    let o : Outer k s = parts_outer l start t.program.parts is.0 (nothing_foreign t.lines) (parts_sound t h) in
    let none : (routines.routine_steps None s t.program.routines).faults ≡ [] = routines_sound t h in
    let done = routines_foreign None k s t.program.routines is.1 o.whole (λ y e. (o.none (length k.routines) y e).0) o.tells none o.foreign in
    let m : Layer = lays.routines k t.program.routines in
    let u : Scopes = (routines.routine_steps None s t.program.routines).scopes in
    initial_foreign m [] t.program.body u program_context (routines_laid k t.program.routines o.whole).whole done.1 done.0 (heard u (told.routines_told None s t.program.routines none o.tells)) (body_sound t h)
