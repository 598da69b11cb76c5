-- Names stay in step through routines, system types and the program, and stand in step where the statements of each begin.
use Rattle.std.proofs.Common.{◌≡◌, ◌+◌, ℕ, suc, List, [], ◌∷◌, ◌++◌, length, Option, None, refl, sym, ap, subst, ◌∙◌, arith, length-append}
use Rattle.std.proofs.lemmas.List.{append-nil}
use Rattle.cp_tree.specs.Syntax as syntax
use Rattle.cp_symbols.specs.declared.names.LayoutMeaning.TheVariants as meaning
use Rattle.cp_layout.specs.Layers.{Names, Layer, Heading, routine_of}
use Rattle.cp_resolved.proofs.Words.{Scope, routine_in, with_routines, system_in, Enumerated, each_in, in_part, in_routine, in_system, names_among, Numbering, Bool, true}
use Rattle.cp_resolved.proofs.Words.{InStep, AreOuter, Opening, with_routine, routine_openings, parts_scope, AreOpened, routine_begun, parts_begun, system_begun}
use Rattle.cp_layout.specs.LaidDeclarations.{heading, heading_with, body, with_new_frame, with_heading, open_routine, routine, routines, enter_system, system_groups, permanent_parts, system}
use Rattle.cp_meaning.specs.Scopes as scopes
use Rattle.cp_meaning.specs.Declarations as meant
use Rattle.cp_resolved.specs.Small.{Each, IsSmallPart, IsSmallRoutine, IsSmallSystem, AreNumbered, AreParameters}
use Rattle.cp_resolved.proofs.laid.Grown.{body_grew}
use Rattle.cp_resolved.proofs.laid.Declares.{heading_declares, local_parts_declare, permanent_parts_declare, system_groups_declare}
use Rattle.cp_resolved.proofs.laid.Extends.{Extends, routine_extends, routine_names, system_extends}
use Rattle.cp_resolved.proofs.names.Steps.{names_grown, all_inside}
use Rattle.cp_resolved.proofs.names.StepsOfTypes.{constants_trans, numbered_left, numbered_after}
use Rattle.cp_resolved.proofs.names.StepsOfParts.{Reached, reached_same, reached_trans, heading_reached, local_parts_reached, permanent_parts_reached, system_groups_reached}
use Rattle.cp_resolved.specs.ItemsStand.{body_items}

-- ---- how many routines and system types there are

pub begun_routines : (l : Layer) (r : syntax.Routine) → (routine_begun l r).routines ≡ l.routines
begun_routines l r =
    let x : Layer = (open_routine l r.name.name).1 in
    let h : Heading × Layer = heading x r.name.name r.kind in
    ap (λ (j : Layer). j.routines) (local_parts_declare (with_heading h.1 h.0) r.parts).same ∙ ap (λ (j : Layer). j.routines) (heading_declares x r.name.name r.kind).same

pub begun_systems : (l : Layer) (r : syntax.Routine) → (routine_begun l r).systems ≡ l.systems
begun_systems l r =
    let x : Layer = (open_routine l r.name.name).1 in
    let h : Heading × Layer = heading x r.name.name r.kind in
    ap (λ (j : Layer). j.systems) (local_parts_declare (with_heading h.1 h.0) r.parts).same ∙ ap (λ (j : Layer). j.systems) (heading_declares x r.name.name r.kind).same

pub body_count : (l : Layer) (b : syntax.Body) (c : Bool) → length (body l b c).routines ≡ suc (length l.routines)
body_count l b c =
    let x : Option ℕ × Layer = body_items l b.statements c in
    let e : x.1.routines ≡ l.routines = ap (λ (j : Layer). j.routines) (body_grew l b.statements c).1 in
    length-append x.1.routines (routine_of x.1 x.0 ∷ []) ∙ ap (λ rs. length rs + 1) e ∙ (let w : length l.routines + 1 ≡ suc (length l.routines) = omega arith in w)

pub body_systems : (l : Layer) (b : syntax.Body) (c : Bool) → (body l b c).systems ≡ l.systems
body_systems l b c = ap (λ (j : Layer). j.systems) (body_grew l b.statements c).1

pub body_constants : (l : Layer) (b : syntax.Body) (c : Bool) → (body l b c).constants ≡ l.constants
body_constants l b c = ap (λ (j : Layer). j.constants) (body_grew l b.statements c).1

pub routine_count : (l : Layer) (r : syntax.Routine) → length (routine l r).routines ≡ suc (length l.routines)
routine_count l r = body_count (routine_begun l r) r.body r.is_entry ∙ ap (λ rs. suc (length rs)) (begun_routines l r)

pub routine_systems : (l : Layer) (r : syntax.Routine) → (routine l r).systems ≡ l.systems
routine_systems l r = body_systems (routine_begun l r) r.body r.is_entry ∙ begun_systems l r

pub routines_systems : (l : Layer) (rs : List syntax.Routine) → (routines l rs).systems ≡ l.systems
unfolding routines
routines_systems l [] = refl
routines_systems l (r ∷ rs) = routines_systems (routine l r) rs ∙ routine_systems l r

pub routines_count : (l : Layer) (rs : List syntax.Routine) → length (routines l rs).routines ≡ length l.routines + length rs
unfolding routines
routines_count l [] =
    let e : length l.routines ≡ length l.routines + 0 = omega arith in
    e
routines_count l (r ∷ rs) =
    let e : length (routine l r).routines + length rs ≡ length l.routines + suc (length rs) = omega (arith, routine_count l r) in
    routines_count (routine l r) rs ∙ e

pub openings_count : (k : ℕ) (s : Scope) (rs : List syntax.Routine) → length (routine_openings k s rs) ≡ length rs
openings_count k s [] = refl
openings_count k s (r ∷ rs) = ap suc (openings_count k (with_routine s r) rs)

pub opened_left : (f : ℕ → meant.RoutineMeaning) (n : ℕ) (os ps : List Opening) → AreOpened f n (os ++ ps) → AreOpened f n os
opened_left f n [] ps h = tt
opened_left f n (o ∷ os) ps h = (h.0, opened_left f (suc n) os ps h.1)

pub opened_right : (f : ℕ → meant.RoutineMeaning) (n : ℕ) (os ps : List Opening) → AreOpened f n (os ++ ps) → AreOpened f (n + length os) ps
opened_right f n [] ps h =
    let e : n ≡ n + 0 = omega arith in
    subst (λ m. AreOpened f m ps) e h
opened_right f n (o ∷ os) ps h =
    let e : suc n + length os ≡ n + suc (length os) = omega arith in
    subst (λ m. AreOpened f m ps) e (opened_right f (suc n) os ps h.1)

pub groups_routines : (l : Layer) (s : syntax.System) → (permanent_parts (system_groups (enter_system l).1 [] s.parameters).1 s.parts).routines ≡ l.routines
groups_routines l s =
    let y : Layer = (system_groups (enter_system l).1 [] s.parameters).1 in
    ap (λ (j : Layer). j.routines) (permanent_parts_declare y s.parts).same ∙ ap (λ (j : Layer). j.routines) (system_groups_declare (enter_system l).1 [] s.parameters).same

pub groups_systems : (l : Layer) (s : syntax.System) → (permanent_parts (system_groups (enter_system l).1 [] s.parameters).1 s.parts).systems ≡ l.systems
groups_systems l s =
    let y : Layer = (system_groups (enter_system l).1 [] s.parameters).1 in
    ap (λ (j : Layer). j.systems) (permanent_parts_declare y s.parts).same ∙ ap (λ (j : Layer). j.systems) (system_groups_declare (enter_system l).1 [] s.parameters).same

-- ---- routines

module _ (k : Numbering) where
  -- where the statements of a routine begin, its names are in step with its scope
  pub begun_reached : (l : Layer) (s : Scope) (r : syntax.Routine) → IsSmallRoutine r → AreNumbered k.firsts (length l.constants) (in_routine r) → k.routines (length l.routines) ≡ routine_in (with_routine s r) r → InStep k l.types l.names s →
      Reached k l (routine_begun l r) (routine_in (with_routine s r) r).scope (in_routine r)
  begun_reached l s r h n e i =
      let x : Layer = (open_routine l r.name.name).1 in
      let y : Heading × Layer = heading x r.name.name r.kind in
      let j : Layer = with_heading y.1 y.0 in
      let t : Scope = with_routine s r in
      let a : Reached k x y.1 (meant.heading_of t r.kind).scope [] = heading_reached k x t r.name.name r.kind (refl, (length l.routines, refl, e), i) in
      let c : y.1.constants ≡ l.constants = a.constants ∙ append-nil l.constants in
      let m : AreNumbered k.firsts (length j.constants) (in_routine r) = subst (λ cs. AreNumbered k.firsts (length cs) (in_routine r)) (sym c) n in
      let b : Reached k j (routine_begun l r) (routine_in t r).scope (in_routine r) = local_parts_reached k j (record { variables = []; scope = (meant.heading_of t r.kind).scope }) r.parts h m a.names in
      record { names = b.names; constants = b.constants ∙ ap (λ cs. cs ++ names_among (in_routine r)) c }

  pub routine_reached : (l : Layer) (s : Scope) (r : syntax.Routine) → IsSmallRoutine r → AreNumbered k.firsts (length l.constants) (in_routine r) → k.routines (length l.routines) ≡ routine_in (with_routine s r) r → InStep k l.types l.names s →
      Reached k l (routine l r) (with_routine s r) (in_routine r)
  routine_reached l s r h n e i =
      let x : Extends l (routine l r) = routine_extends l r in
      let ds : Names = (r.name.name, meaning.Routine (length l.routines)) ∷ l.names in
      let a : InStep k l.types ds (with_routine s r) = (refl, (length l.routines, refl, e), i) in
      let b : InStep k (l.types ++ x.types.0) ds (with_routine s r) = names_grown k l.types x.types.0 ds (with_routine s r) a in
      let c : InStep k (routine l r).types ds (with_routine s r) = subst (λ ts. InStep k ts ds (with_routine s r)) (sym x.types.1) b in
      record {
        names = subst (λ ns. InStep k (routine l r).types ns (with_routine s r)) (sym (routine_names l r)) c;
        constants = body_constants (routine_begun l r) r.body r.is_entry ∙ (begun_reached l s r h n e i).constants;
      }

  pub routines_reached : (l : Layer) (s : Scope) (owner : ℕ) (rs : List syntax.Routine) → Each IsSmallRoutine rs → AreNumbered k.firsts (length l.constants) (each_in in_routine rs) → AreOpened k.routines (length l.routines) (routine_openings owner s rs) → InStep k l.types l.names s →
      Reached k l (routines l rs) (with_routines s rs) (each_in in_routine rs)
  unfolding routines
  routines_reached l s owner [] h n o i = reached_same k l s i
  routines_reached l s owner (r ∷ rs) h n o i =
      let m : Layer = routine l r in
      let a : Reached k l m (with_routine s r) (in_routine r) = routine_reached l s r h.0 (numbered_left k (length l.constants) (in_routine r) (each_in in_routine rs) n) o.0 i in
      let p : AreOpened k.routines (length m.routines) (routine_openings owner (with_routine s r) rs) = subst (λ j. AreOpened k.routines j (routine_openings owner (with_routine s r) rs)) (sym (routine_count l r)) o.1 in
      reached_trans k l m (routines m rs) (with_routine s r) (with_routines (with_routine s r) rs) (in_routine r) (each_in in_routine rs) a
      (routines_reached m (with_routine s r) owner rs h.1 (numbered_after k l.constants m.constants (in_routine r) (each_in in_routine rs) a.constants n) p a.names)

  -- ---- system types

  -- where the routines of a system type begin, its names are in step with the scope of its parts
  pub parts_begun_reached : (l : Layer) (s : Scope) (d : syntax.System) → Each IsSmallPart d.parts → AreParameters (record { parameters = []; scope = scopes.seen_inside s }) d.parameters → AreOuter s →
      AreNumbered k.firsts (length l.constants) (each_in in_part d.parts) → InStep k l.types l.names s → Reached k l (parts_begun l d) (parts_scope (scopes.seen_inside s) d) (each_in in_part d.parts)
  parts_begun_reached l s d h f g n i =
      let x : Layer = (enter_system l).1 in
      let y : Layer = (system_groups x [] d.parameters).1 in
      let u : Scope = scopes.seen_inside s in
      let v : Scope = (meant.with_groups scopes.permanent_variable (record { parameters = []; scope = u }) d.parameters).scope in
      let es : List Enumerated = each_in in_part d.parts in
      let a : Reached k x y v [] = system_groups_reached k x (record { parameters = []; scope = u }) [] d.parameters f (all_inside k l.types l.names s g i) in
      let c : y.constants ≡ l.constants = a.constants ∙ append-nil l.constants in
      let m : AreNumbered k.firsts (length y.constants) es = subst (λ cs. AreNumbered k.firsts (length cs) es) (sym c) n in
      let b : Reached k y (parts_begun l d) (parts_scope u d) es = permanent_parts_reached k y (record { variables = []; scope = v }) d.parts h m a.names in
      record { names = b.names; constants = b.constants ∙ ap (λ cs. cs ++ names_among es) c }

  pub parts_opened : (l : Layer) (owner : ℕ) (s : Scope) (d : syntax.System) → AreOpened k.routines (length l.routines) (routine_openings owner s d.routines) → AreOpened k.routines (length (parts_begun l d).routines) (routine_openings owner s d.routines)
  parts_opened l owner s d o = subst (λ rs. AreOpened k.routines (length rs) (routine_openings owner s d.routines)) (sym (groups_routines l d)) o

  -- where the initial statement of a system type begins, its names are in step with its scope
  pub system_begun_reached : (l : Layer) (s : Scope) (owner : ℕ) (d : syntax.System) → IsSmallSystem d → AreParameters (record { parameters = []; scope = scopes.seen_inside s }) d.parameters → AreOuter s →
      AreNumbered k.firsts (length l.constants) (in_system d) → AreOpened k.routines (length l.routines) (routine_openings owner (parts_scope (scopes.seen_inside s) d) d.routines) → InStep k l.types l.names s →
      Reached k l (system_begun l d) (system_in (scopes.seen_inside s) d).scope (in_system d)
  system_begun_reached l s owner d h f g n o i =
      let w : Scope = parts_scope (scopes.seen_inside s) d in
      let z : Layer = parts_begun l d in
      let es : List Enumerated = each_in in_part d.parts in
      let fs : List Enumerated = each_in in_routine d.routines in
      let b : Reached k l z w es = parts_begun_reached l s d h.0 f g (numbered_left k (length l.constants) es fs n) i in
      let r : Reached k z (routines z d.routines) (with_routines w d.routines) fs = routines_reached z w owner d.routines h.1 (numbered_after k l.constants z.constants es fs b.constants n) (parts_opened l owner w d o) b.names in
      record { names = r.names; constants = constants_trans k l.constants z.constants (system_begun l d).constants es fs b.constants r.constants }

  -- a system type with the names after it
  pub system_reached : (l : Layer) (s : Scope) (d : syntax.System) → Reached k l (system_begun l d) (system_in (scopes.seen_inside s) d).scope (in_system d) → InStep k l.types l.names s → Reached k l (system l d).1 s (in_system d)
  unfolding system
  system_reached l s d a i =
      let x : Extends l (system l d).1 = system_extends l d in
      let b : InStep k (l.types ++ x.types.0) l.names s = names_grown k l.types x.types.0 l.names s i in
      record {
        names = subst (λ ts. InStep k ts l.names s) (sym x.types.1) b;
        constants = body_constants (with_heading (with_new_frame (system_begun l d)) (heading_with [] (system_groups (enter_system l).1 [] d.parameters).0 None)) d.body true ∙ a.constants;
      }
