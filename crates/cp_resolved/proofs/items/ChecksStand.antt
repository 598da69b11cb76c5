-- A check is an item that calls the routine of the invariants of the block, where it has some, and it is laid out where the statements say one.
use Rattle.std.proofs.Common.{inl, inr, if◌then◌else◌, slice_index, ◌≡◌, ℕ, true, false, List, [], ◌∷◌, Option, Some, None, slice_get, refl, sym, ap, subst, ◌∙◌}
use Rattle.cp_resolved.proofs.Words.{LayoutMeaning, Item, name_of, routine_meant, routine_called, Here, cell_named, Layer}
use Rattle.cp_tree.specs.Syntax as syntax
use Rattle.cp_slots.specs.declared.place.PlaceOrigin.TheVariants as origin
use Rattle.cp_symbols.specs.declared.names.LayoutMeaning.TheVariants as meaning
use Rattle.cp_slots.specs.Code as code
use Rattle.cp_layout.specs.Layers as layers
use Rattle.cp_layout.specs.LaidExpressions.{arguments_from, arguments}
use Rattle.cp_layout.specs.LaidStatements as laid
use Rattle.cp_layout.specs.LaidStatements.{check_invariants, procedure}
use Rattle.cp_meaning.specs.Scopes as scopes
use Rattle.cp_meaning.specs.Declarations as meant
use Rattle.cp_meaning.specs.Lifting.{is_routine_meant, check_statement, check_items, waits_meant}
use Rattle.cp_meaning.specs.State.{statement_item}
use Rattle.cp_symbols.specs.Kinds.{Compounds}
use Rattle.cp_resolved.specs.FormedParts.{HeadingIs}
use Rattle.cp_resolved.specs.InStep.{Numbering, base_of, predeclared_as, FoundIs, MeaningIs}
use Rattle.cp_resolved.specs.ItemsStand.{Surroundings}
use Rattle.cp_resolved.specs.Stands.{AreGiven, Ground, CalleeIs}
use Rattle.cp_resolved.proofs.items.Going.{grown_room}
use Rattle.cp_resolved.proofs.laid.Kept.{Kept}
use Rattle.cp_resolved.proofs.laid.SettledItems.{ChecksGo, checks_none}
use Rattle.cp_resolved.proofs.names.Steps.{found_in}

pub kept_lines : (k : Numbering) (h : Here) (g : Ground) (l m : Layer) → Surroundings k h g l → Kept l m → m.lines ≡ g.lines
kept_lines k h g l m w s = ap (λ (j : Layer). j.lines) s ∙ w.lines

abbrev pub checks_of : Here → ℕ → Option scopes.Meaning → List Item
checks_of h at m = if waits_meant m then check_items at h.scope else []

module _ (k : Numbering) (h : Here) (g : Ground) where
  -- the routine of the invariants is called with nothing
  one_check : (l m : Layer) (at number : ℕ) (r : syntax.Routine) → Surroundings k h g l → Kept l m → scopes.find syntax.nameless h.scope ≡ Some (scopes.routine_meaning r) → layers.find syntax.nameless l.names ≡ Some (meaning.Routine number) → k.routines number ≡ meant.routine_in (scopes.since syntax.nameless h.scope) r →
      ChecksGo g h m (procedure m at code.own false number syntax.no_expressions) (statement_item (check_statement at) ∷ [])
  unfolding procedure arguments arguments_from
  one_check l m at number r w s me there is =
      let d : syntax.Designator = syntax.designator (record { at = at; name = syntax.nameless }) syntax.no_selectors in
      let q : meant.RoutineMeaning = meant.routine_in (scopes.since syntax.nameless h.scope) r in
      let met : routine_called h.program h.scope d ≡ Some q = ap (λ z. routine_meant h.program h.scope syntax.nameless z None) me in
      let given = w.headings.own syntax.nameless number there in
      let heading : HeadingIs k h l number q = subst (HeadingIs k h l number) is given.1 in
      let callee : CalleeIs h d (scopes.find (name_of d) h.scope) code.own false number = subst (λ z. CalleeIs h d z code.own false number) (sym me) (refl, refl, given.0) in
      let alone : q.parameters ≡ [] = ap (λ (c : syntax.RoutineKind). (meant.heading_of (scopes.since syntax.nameless h.scope) c).parameters) (w.checks r me) in
      let nothing : AreGiven h (cell_named (h.layouts.frames number)) q.parameters syntax.no_expressions [] = subst (λ (ps : List meant.Parameter). AreGiven h (cell_named (h.layouts.frames number)) ps syntax.no_expressions []) (sym alone) tt in
      record {
        image = grown_room k h l w.names w.calls w.headings g.lines w.lines m.frame (slice_get m.routines number);
        new = _ ∷ [];
        pending = refl;
        stand = (record { number = number; part = code.own; is_entry = false; arguments = []; called = record { routine = q; called = met; same = sym heading.same; callee = callee; given = nothing }; action = refl; line = ap (λ ls. slice_index ls at) (kept_lines k h g l m w s); chosen = tt; held = tt }, tt);
      }

  -- what is no routine is laid out as none
  no_routine : (n : ℕ) (ts : Compounds) (q : scopes.Meaning) (s : scopes.Scope) → is_routine_meant (Some q) ≡ false → MeaningIs k ts (meaning.Routine n) q s → ⊥
  no_routine n ts (scopes.constant_meaning b z) s e f = let bad : meaning.Routine n ≡ meaning.Constant (base_of k b) z = f.0 in cc
  no_routine n ts (scopes.type_meaning u) s e f = let bad : meaning.Routine n ≡ meaning.Kind f.0 = f.1 in cc
  no_routine n ts (scopes.local_variable u) s e f = let bad : meaning.Routine n ≡ meaning.Variable f.origin f.value_type = f.is in cc
  no_routine n ts (scopes.permanent_variable u) s e (inl f) = let bad : meaning.Routine n ≡ meaning.Variable (origin.Permanent f.slot) f.value_type = f.is in cc
  no_routine n ts (scopes.permanent_variable u) s e (inr (inl f)) = let bad : meaning.Routine n ≡ meaning.Contained f.first f.value_type = f.is in cc
  no_routine n ts (scopes.permanent_variable u) s e (inr (inr f)) = let bad : meaning.Routine n ≡ meaning.Bound f.slot f.system = f.is in cc
  no_routine n ts (scopes.routine_meaning r) s e f = let bad : true ≡ false = e in cc
  no_routine n ts (scopes.standard_meaning p) s e f = let bad : meaning.Routine n ≡ meaning.Predeclared (predeclared_as p) = f in cc

  checks_by : (l m : Layer) (at : ℕ) (o : Option LayoutMeaning) (q : Option scopes.Meaning) → Surroundings k h g l → Kept l m → layers.find syntax.nameless l.names ≡ o → scopes.find syntax.nameless h.scope ≡ q → FoundIs k l.types o q (scopes.since syntax.nameless h.scope) →
      ChecksGo g h m (laid.check_by m at o) (if is_routine_meant q then statement_item (check_statement at) ∷ [] else [])
  checks_by l m at (Some y) (Some (scopes.routine_meaning r)) w s there me fi =
      subst (λ z. ChecksGo g h m (laid.check_by m at (Some z)) (statement_item (check_statement at) ∷ [])) (sym fi.1) (one_check l m at fi.0 r w s me (there ∙ ap (λ z. Some z) fi.1) fi.2)
  checks_by l m at None (Some (scopes.routine_meaning r)) w s there me fi = absurd fi
  checks_by l m at (Some (meaning.Routine n)) (Some q) w s there me fi = absurd (no_routine n l.types q (scopes.since syntax.nameless h.scope) refl fi)
  checks_by l m at (Some (meaning.Routine n)) None w s there me fi = absurd fi
  checks_by l m at _ _ w s there me fi = checks_none g h m

  -- a call of the invariants of the block, where it has some
  pub checks_go : (l m : Layer) (at : ℕ) → Surroundings k h g l → Kept l m → ChecksGo g h m (check_invariants m at) (check_items at h.scope)
  unfolding check_invariants
  checks_go l m at w s =
      subst (λ ns. ChecksGo g h m (laid.check_by m at (layers.find syntax.nameless ns)) (check_items at h.scope)) (sym (ap (λ (j : Layer). j.names) s))
      (checks_by l m at (layers.find syntax.nameless l.names) (scopes.find syntax.nameless h.scope) w s refl refl (found_in k l.types syntax.nameless l.names h.scope w.names.names))

  -- before what waits
  pub before_go : (l m : Layer) (at : ℕ) (q : scopes.Standard) → Surroundings k h g l → Kept l m → ChecksGo g h m (laid.check_before m at (predeclared_as q)) (checks_of h at (Some (scopes.standard_meaning q)))
  before_go l m at scopes.delay_procedure w s = checks_go l m at w s
  before_go l m at scopes.continue_procedure w s = checks_go l m at w s
  before_go l m at _ w s = checks_none g h m
