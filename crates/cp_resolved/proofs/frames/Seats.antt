-- For each routine and each initial statement: its frame as it begins, its system type, and the variables that are visible in it.
-- For each system type: its initial statement and its cells.
use Rattle.std.proofs.Common.{◌≡◌, ◌+◌, ◌-◌, inl, inr, ℕ, suc, true, false, List, [], ◌∷◌, ◌++◌, length, Option, Some, None, slice_get, slice_index_or, refl, sym, ap, subst, ◌∙◌, arith, append-nil}
use Rattle.cp_tree.specs.Syntax as syntax
use Rattle.cp_resolved.proofs.Words.{PlaceOrigin, CellType, LayoutMeaning, Compounds, system_types, Layer, System, Parameters, heading_with, routine, routines, no_system}
use Rattle.cp_resolved.proofs.Words.{Name, Scope, permanent_variable, Variable, Parameter, Heading, routine_in, with_group, with_groups}
use Rattle.cp_resolved.proofs.Words.{parameter_variables, SystemMeaning, system_in, with_routines, system_of, routine_begun, routines_begun, initial_begun, each_in}
use Rattle.cp_resolved.proofs.Words.{in_routine, routine_variables, system_variables, Numbering, InStep, FoundIs, initial_meaning, Each, IsSmallRoutine, AreNumbered}
use Rattle.cp_resolved.proofs.Words.{IsParameter, AreParameters, initial_or, components_among, parameters_by}
use Rattle.cp_slots.specs.declared.place.PlaceOrigin.TheVariants as origin
use Rattle.cp_symbols.specs.declared.names.LayoutMeaning.TheVariants as meaning
use Rattle.cp_layout.specs.Layers as layers
use Rattle.cp_meaning.specs.Scopes as scopes
use Rattle.cp_meaning.specs.Declarations as meant
use Rattle.cp_resolved.specs.Openings.{Opening, with_routine, routine_openings, parts_scope, initial_opening, AreOpened}
use Rattle.cp_resolved.proofs.laid.Extends.{Longer, longer_trans, routines_extend}
use Rattle.cp_resolved.proofs.frames.FrameSteps.{AreLying, Lies, Frames}
use Rattle.cp_resolved.proofs.frames.FramesBegun.{RoutineFits, SlotIs, all_locals, routine_framed, routine_slot}
use Rattle.cp_resolved.proofs.names.EntriesKnown.{heading_of, begun_headings}
use Rattle.cp_resolved.proofs.laid.Grown.{body_grew}
use Rattle.cp_resolved.proofs.systems.PermanentCells.{Holds, AreHolding, Owns, Follow, Firsts}
use Rattle.cp_resolved.proofs.agreeing.ScopeVariables.{AreOf, of_local, of_permanent, local_parts_of, local_groups_of, local_parameters_of, permanent_parts_of, permanent_groups_of}
use Rattle.cp_resolved.proofs.names.Steps.{found_in}
use Rattle.cp_resolved.proofs.names.StepsOfParts.{Reached}
use Rattle.cp_resolved.proofs.names.StepsOfRoutines.{routine_count, routine_systems, routine_reached, begun_systems as begun_same}
use Rattle.cp_resolved.proofs.systems.Sizes.{Counted}
use Rattle.cp_resolved.proofs.names.StepsOfTypes.{numbered_left, numbered_after}

-- ---- no variable of a frame, and no permanent variable

module _ (k : Numbering) (ts : Compounds) where
  lying_found : (ps : List Variable) (x : Name) (s : Scope) (o : PlaceOrigin) (v : CellType) (n : Option scopes.Meaning) (u : Scope) → AreOf [] ps s → scopes.find x s ≡ n → FoundIs k ts (Some (meaning.Variable o v)) n u → Lies [] [] x o
  lying_found ps x s o v None u h e f = absurd f
  lying_found ps x s o v (Some (scopes.local_variable t)) u h e f = absurd (of_local x t [] ps s h e)
  lying_found ps x s (origin.Permanent n) v (Some m) u h e f = tt
  lying_found ps x s (origin.Local n) v (Some (scopes.permanent_variable t)) u h e (inl f) = absurd (let bad : meaning.Variable (origin.Local n) v ≡ meaning.Variable (origin.Permanent f.slot) f.value_type = f.is in cc)
  lying_found ps x s (origin.Local n) v (Some (scopes.permanent_variable t)) u h e (inr (inl f)) = absurd (let bad : meaning.Variable (origin.Local n) v ≡ meaning.Contained f.first f.value_type = f.is in cc)
  lying_found ps x s (origin.Local n) v (Some (scopes.permanent_variable t)) u h e (inr (inr f)) = absurd (let bad : meaning.Variable (origin.Local n) v ≡ meaning.Bound f.slot f.system = f.is in cc)
  lying_found ps x s (origin.Reference n) v (Some (scopes.permanent_variable t)) u h e (inl f) = absurd (let bad : meaning.Variable (origin.Reference n) v ≡ meaning.Variable (origin.Permanent f.slot) f.value_type = f.is in cc)
  lying_found ps x s (origin.Reference n) v (Some (scopes.permanent_variable t)) u h e (inr (inl f)) = absurd (let bad : meaning.Variable (origin.Reference n) v ≡ meaning.Contained f.first f.value_type = f.is in cc)
  lying_found ps x s (origin.Reference n) v (Some (scopes.permanent_variable t)) u h e (inr (inr f)) = absurd (let bad : meaning.Variable (origin.Reference n) v ≡ meaning.Bound f.slot f.system = f.is in cc)
  lying_found ps x s o v (Some (scopes.constant_meaning b z)) u h e f = absurd (let bad : meaning.Variable o v ≡ meaning.Constant _ z = f.0 in cc)
  lying_found ps x s o v (Some (scopes.type_meaning t)) u h e f = absurd (let bad : meaning.Variable o v ≡ meaning.Kind f.0 = f.1 in cc)
  lying_found ps x s o v (Some (scopes.routine_meaning r)) u h e f = absurd (let bad : meaning.Variable o v ≡ meaning.Routine f.0 = f.1 in cc)
  lying_found ps x s o v (Some (scopes.standard_meaning q)) u h e f = absurd (let bad : meaning.Variable o v ≡ meaning.Predeclared _ = f in cc)

  pub nothing_lies : (ps : List Variable) (ns : layers.Names) (s : Scope) → InStep k ts ns s → AreOf [] ps s → AreLying [] [] ns
  nothing_lies ps ns s i h x o v e =
      lying_found ps x s o v (scopes.find x s) (scopes.since x s) h refl (subst (λ m. FoundIs k ts m (scopes.find x s) (scopes.since x s)) e (found_in k ts x ns s i))

  holding_found : (x : Name) (s : Scope) (m : LayoutMeaning) (n : Option scopes.Meaning) (u : Scope) → AreOf [] [] s → scopes.find x s ≡ n → FoundIs k ts (Some m) n u → Holds [] x m
  holding_found x s m None u h e f = absurd f
  holding_found x s m (Some (scopes.local_variable t)) u h e f = absurd (of_local x t [] [] s h e)
  holding_found x s m (Some (scopes.permanent_variable t)) u h e f = absurd (of_permanent x t [] [] s h e)
  holding_found x s m (Some (scopes.constant_meaning b z)) u h e f = subst (Holds [] x) (sym f.0) tt
  holding_found x s m (Some (scopes.standard_meaning q)) u h e f = subst (Holds [] x) (sym f) tt
  holding_found x s m _ u h e f = subst (Holds [] x) (sym f.1) tt

  pub nothing_held : (ns : layers.Names) (s : Scope) → InStep k ts ns s → AreOf [] [] s → AreHolding [] ns
  nothing_held ns s i h x m e = holding_found x s m (scopes.find x s) (scopes.since x s) h refl (subst (λ o. FoundIs k ts o (scopes.find x s) (scopes.since x s)) e (found_in k ts x ns s i))

-- ---- what is visible in a routine

pub routine_of : (ps : List Variable) (s : Scope) (r : syntax.Routine) → AreOf [] ps s → AreOf (routine_variables (routine_in (with_routine s r) r)) ps (routine_in (with_routine s r) r).scope
routine_of ps s r h =
    let t : Scope = with_routine s r in
    let j : Heading = meant.heading_of t r.kind in
    let pre : List Variable = parameter_variables j.parameters in
    local_parts_of pre ps (record { variables = []; scope = j.scope }) r.parts (subst (λ us. AreOf us ps j.scope) (sym (append-nil pre)) (headed r.kind))
  where
    headed : (q : syntax.RoutineKind) → AreOf (parameter_variables (meant.heading_of (with_routine s r) q).parameters) ps (meant.heading_of (with_routine s r) q).scope
    headed (syntax.procedure gs) = local_parameters_of [] ps (record { parameters = []; scope = with_routine s r }) gs (tt, h)
    headed (syntax.function gs i) = local_groups_of [] ps (record { parameters = []; scope = with_routine s r }) gs (tt, h)
    headed syntax.invariants = local_parameters_of [] ps (record { parameters = []; scope = with_routine s r }) [] (tt, h)

-- and in a system type
pub system_parts_of : (s : Scope) (d : syntax.System) → AreOf [] [] s → AreOf [] (system_variables (system_in s d)) (parts_scope s d)
system_parts_of s d h =
    let j : Heading = with_groups permanent_variable (record { parameters = []; scope = s }) d.parameters in
    let pre : List Variable = parameter_variables j.parameters in
    permanent_parts_of pre (record { variables = []; scope = j.scope }) d.parts (subst (λ us. AreOf [] us j.scope) (sym (append-nil pre)) (permanent_groups_of [] (record { parameters = []; scope = s }) d.parameters h))

pub routines_of : (ls ps : List Variable) (s : Scope) (rs : List syntax.Routine) → AreOf ls ps s → AreOf ls ps (with_routines s rs)
routines_of ls ps s [] h = h
routines_of ls ps s (r ∷ rs) h = routines_of ls ps (with_routine s r) rs (tt, h)

-- parameters of system types are no arrays of components
named_parameters_fit : (h : Heading) (g : syntax.Group) → IsParameter (meant.type_named h.scope g.type_name.name) → Each (λ (q : Parameter). IsParameter q.ty) h.parameters → Each (λ (q : Parameter). IsParameter q.ty) (with_group permanent_variable false h g).parameters
named_parameters_fit h g p a = go h.parameters (meant.names_of g.names) a
  where
    some : (xs : List Name) → Each (λ (q : Parameter). IsParameter q.ty) (meant.parameters_named xs (meant.type_named h.scope g.type_name.name) false)
    some [] = tt
    some (x ∷ xs) = (p, some xs)

    go : (qs : List Parameter) (xs : List Name) → Each (λ (q : Parameter). IsParameter q.ty) qs → Each (λ (q : Parameter). IsParameter q.ty) (qs ++ meant.parameters_named xs (meant.type_named h.scope g.type_name.name) false)
    go [] xs b = some xs
    go (q ∷ qs) xs b = (b.0, go qs xs b.1)

pub parameters_fit : (h : Heading) (gs : List syntax.Group) → AreParameters h gs → Each (λ (q : Parameter). IsParameter q.ty) h.parameters → Each (λ (q : Parameter). IsParameter q.ty) (with_groups permanent_variable h gs).parameters
parameters_fit h [] p a = a
parameters_fit h (g ∷ gs) p a = parameters_fit (with_group permanent_variable false h g) gs p.1 (named_parameters_fit h g p.0 a)

-- ---- the walk

module _ (k : Numbering) (p : syntax.Program) (end : Layer) (counted : Counted end.types) where
  pub record Seated (l : Layer) (o : Opening) : Type 0 where
    pub framed : RoutineFits k end.types counted o.meaning → Frames l (all_locals k end.types counted o.meaning) (parameters_by true o.meaning.parameters)
    -- its own heading is the last
    pub before : List layers.Heading
    pub heading : layers.Heading
    pub headings : l.headings ≡ before ++ heading ∷ []
    pub slot : RoutineFits k end.types counted o.meaning → SlotIs k end.types counted (parameters_by false o.meaning.parameters) o.meaning.result heading.result
    pub system : length l.systems ≡ o.owner
    pub visible : AreOf (routine_variables o.meaning) (system_variables (system_of p o.owner)) o.meaning.scope

  abbrev pub AreSeated : List Layer → List Opening → Type 0
  AreSeated [] [] = Unit {0}
  AreSeated (l ∷ ls) (o ∷ os) = Seated l o × AreSeated ls os
  AreSeated [] (o ∷ os) = ⊥
  AreSeated (l ∷ ls) [] = ⊥

  pub seated_append : (ls ms : List Layer) (os qs : List Opening) → AreSeated ls os → AreSeated ms qs → AreSeated (ls ++ ms) (os ++ qs)
  seated_append [] ms [] qs h i = i
  seated_append (l ∷ ls) ms (o ∷ os) qs h i = (h.0, seated_append ls ms os qs h.1 i)
  seated_append _ ms _ qs h i = absurd h

  abbrev pub initial_number : ℕ → ℕ
  initial_number n = initial_or (length end.routines - 1) (slice_get end.systems n)

  abbrev pub SystemFits : SystemMeaning → Type 0
  SystemFits m = Firsts k [] (parameter_variables m.parameters) × Follow k (parameter_variables m.parameters) m.variables

  -- the routines of system type n begin in the state z
  pub record Settled (n : ℕ) (z : Layer) : Type 0 where
    pub statement : k.routines (initial_number n) ≡ initial_meaning (system_of p n)
    pub cells : (slice_index_or (system_types end.systems end.owned) n no_system).own ≡ z.owned.cells
    pub owns : SystemFits (system_of p n) → Owns z (parameter_variables (system_of p n).parameters ++ components_among false (system_of p n).variables)
    pub parameters : Each (λ (q : Parameter). IsParameter q.ty) (system_of p n).parameters

  abbrev pub AreSettled : ℕ → List Layer → Type 0
  AreSettled n [] = Unit {0}
  AreSettled n (z ∷ zs) = Settled n z × AreSettled (suc n) zs

  pub settled_append : (n : ℕ) (ys zs : List Layer) → AreSettled n ys → AreSettled (n + length ys) zs → AreSettled n (ys ++ zs)
  settled_append n [] zs h i = subst (λ j. AreSettled j zs) (let e : n + 0 ≡ n = omega arith in e) i
  settled_append n (y ∷ ys) zs h i = (h.0, settled_append (suc n) ys zs h.1 (subst (λ j. AreSettled j zs) (let e : n + suc (length ys) ≡ suc n + length ys = omega arith in e) i))

  abbrev IsBefore : Layer → Type 0
  IsBefore l = Longer l.types end.types

  -- ---- routines

  pub routines_seated : (l : Layer) (s : Scope) (owner : ℕ) (rs : List syntax.Routine) → Each IsSmallRoutine rs → AreNumbered k.firsts (length l.constants) (each_in in_routine rs) → AreOpened k.routines (length l.routines) (routine_openings owner s rs) → InStep k l.types l.names s →
      length l.systems ≡ owner → AreOf [] (system_variables (system_of p owner)) s → IsBefore (routines l rs) → AreSeated (routines_begun l rs) (routine_openings owner s rs)
  unfolding routines
  routines_seated l s owner [] h n o i len v x = tt
  routines_seated l s owner (r ∷ rs) h n o i len v x =
      let m : Layer = routine l r in
      let t : Scope = with_routine s r in
      let ps : List Variable = system_variables (system_of p owner) in
      let e : AreNumbered k.firsts (length l.constants) (in_routine r) = numbered_left k (length l.constants) (in_routine r) (each_in in_routine rs) n in
      let b : Reached k l m t (in_routine r) = routine_reached k l s r h.0 e o.0 i in
      let next : AreOpened k.routines (length m.routines) (routine_openings owner t rs) = subst (λ j. AreOpened k.routines j (routine_openings owner t rs)) (sym (routine_count l r)) o.1 in
      let later : IsBefore m = longer_trans m.types (routines m rs).types end.types (routines_extend m rs).types x in
      let begun : IsBefore (routine_begun l r) = subst (λ ts. Longer ts end.types) (ap (λ (j : Layer). j.types) (body_grew (routine_begun l r) r.body.statements r.is_entry).1) later in
      let named : InStep k l.types ((r.name.name, meaning.Routine (length l.routines)) ∷ l.names) t = (refl, (length l.routines, refl, o.0), i) in (
        record {
          framed = λ f. routine_framed k end.types counted l s r h.0 e o.0 i begun f (nothing_lies k l.types ps ((r.name.name, meaning.Routine (length l.routines)) ∷ l.names) t named (tt, v));
          before = l.headings;
          heading = heading_of l r;
          headings = begun_headings l r;
          slot = λ f. routine_slot k end.types counted l s r o.0 i begun f (nothing_lies k l.types ps ((r.name.name, meaning.Routine (length l.routines)) ∷ l.names) t named (tt, v));
          system = ap (λ (ss : List System). length ss) (begun_same l r) ∙ len;
          visible = routine_of ps s r v;
        },
        routines_seated m t owner rs h.1 (numbered_after k l.constants m.constants (in_routine r) (each_in in_routine rs) b.constants n) next b.names (ap (λ (ss : List System). length ss) (routine_systems l r) ∙ len) (tt, v) x,
      )

  -- an initial statement
  pub initial_seated : (l : Layer) (ps : Parameters) (owner : ℕ) (m : SystemMeaning) → InStep k l.types l.names m.scope → length l.systems ≡ owner → AreOf [] (system_variables (system_of p owner)) m.scope → Seated (initial_begun l ps) (initial_opening owner m)
  initial_seated l ps owner m i len v =
      record {
        framed = λ f. record { free = tt; image = refl; extents = refl; lying = nothing_lies k l.types (system_variables (system_of p owner)) l.names m.scope i v };
        before = l.headings;
        heading = heading_with [] ps None;
        headings = refl;
        slot = λ f. tt;
        system = len;
        visible = v;
      }
