-- The parameters and variables of each system type that breaks no rule have different names, and each is visible where its initial statement stands.
use Rattle.std.proofs.Common.{◌≡◌, ℕ, zero, suc, Bool, true, false, if◌then◌else◌, List, [], ◌∷◌, ◌++◌, Option, Some, None, slice_get, refl, sym, ap, subst, ◌∙◌, append_assoc, append-nil}
use Rattle.cp_resolved.proofs.Words.{SystemKind, faults, Spot, faults_of, declarations, routine_steps, Step, Typed, typed, Name, same_name, Ty}
use Rattle.cp_resolved.proofs.Words.{parameter_variables, IsOther, AreDistinct, nothing_declared, AreDifferent, AreDeclared, system_variables, look, Each}
use Rattle.cp_tree.specs.Syntax as syntax
use Rattle.cp_scope.specs.declared.types.Meaning as check_meaning
use Rattle.cp_scope.specs.Scopes.{Names, Scopes, settle, enter, start}
use Rattle.cp_check.specs.declared.types.Spot.TheVariants as spot
use Rattle.cp_check.specs.Declarations.{to_variable, reserve_name, reserve_names, add_all, variable_step, variable_steps, part_step, part_steps}
use Rattle.cp_check.specs.Systems as systems
use Rattle.cp_meaning_laws.proofs.Kept.{Keeps, same, after, names_reserved, all_added, constants_kept, types_kept, variable_kept, definitions_kept}
use Rattle.cp_meaning_laws.proofs.Once.{no_left, no_right, no_first, inside_sound, defined_sound, declarations_sound}
use Rattle.cp_meaning.specs.Scopes.{Meaning, permanent_variable, Scope, find, seen_inside}
use Rattle.cp_meaning.specs.Declarations.{Variable, Block, Heading, names_of, named_variables, parameters_named, type_in, with_names, variables_in, part_in, parts_in, type_named, with_group, with_groups}
use Rattle.cp_meaning.specs.Systems.{SystemMeaning, system_in, with_routines, Declared, definition_in, definitions_in, program_part_in, program_parts_in, declared, own_meaning, or_own, system_of}
use Rattle.cp_resolved.proofs.counts.FewReferences.{each_weaker}
use Rattle.cp_resolved.proofs.frames.FrameCells.{itself, none_both, each_both}
use Rattle.cp_resolved.proofs.frames.FramesBegun.{variables_append, named_parameters}
use Rattle.cp_resolved.proofs.declarations.OtherNames.{AllKnown, AllNew, names_new, names_known, together_distinct}
use Rattle.cp_resolved.proofs.declarations.OnceRoutines.{IsKnown, known_other}
use Rattle.cp_resolved.proofs.declarations.StillVisible.{Stays, kept_known, constants_stay, types_stay, written_stays, routines_stay, definitions_stay}
use Rattle.cp_resolved.proofs.frames.SeatsOfProgram.{definitions_keep_variables as same_variables}

-- ---- names of one declaration

known_others : (x : Name) (xs : List Name) (ds : Names) → IsKnown x ds → AllNew xs ds → IsOther x xs
known_others x [] ds known new = tt
known_others x (y ∷ ys) ds known new = (known_other x y ds known new.0, known_others x ys ds known new.1)

pub others_look : (x : Name) (xs : List Name) (t : Ty) → IsOther x xs → look x (named_variables xs t) ≡ None
others_look x [] t h = refl
others_look x (y ∷ ys) t h = ap (λ (b : Bool). if b then Some t else look x (named_variables ys t)) h.0 ∙ others_look x ys t h.1

pub named_different : (xs : List Name) (t : Ty) → AreDistinct xs → AreDifferent (named_variables xs t)
named_different [] t h = tt
named_different (x ∷ xs) t h = (others_look x xs t h.0, named_different xs t h.1)

pub different_both : (vs ws : List Variable) → AreDifferent vs → AreDifferent ws → Each (λ (v : Variable). look v.name ws ≡ None) vs → AreDifferent (vs ++ ws)
different_both [] ws d e h = e
different_both (v ∷ vs) ws d e h = (none_both v.name vs ws d.0 h.0, different_both vs ws d.1 e h.1)

-- ---- what the names stand for in the scope

stays_named : (x : Name) (m : Meaning) (xs : List Name) (c : Scope) → find x c ≡ Some m → find x (with_names xs m c) ≡ Some m
stays_named x m [] c h = h
stays_named x m (y ∷ ys) c h = stays_named x m ys ((y, m) ∷ c) (go (same_name x y))
  where
    go : (b : Bool) → (if b then Some m else find x c) ≡ Some m
    go true = refl
    go false = h

others_found : (x : Name) (m : Meaning) (xs : List Name) (c : Scope) → IsOther x xs → find x (with_names xs m c) ≡ find x c
others_found x m [] c h = refl
others_found x m (y ∷ ys) c h = others_found x m ys ((y, m) ∷ c) h.1 ∙ ap (λ (b : Bool). if b then Some m else find x c) h.0

-- ---- variables that are visible, with names that the checker has

module _ (m : Ty → Meaning) where
  abbrev pub IsHeld : Scopes → Scope → Variable → Type 0
  IsHeld s c v = (find v.name c ≡ Some (m v.ty)) × IsKnown v.name s.inner.names

  abbrev pub AreHeld : Scopes → Scope → List Variable → Type 0
  AreHeld s c vs = AreDifferent vs × Each (IsHeld s c) vs

  pub held_declared : (s : Scopes) (c d : Scope) (vs : List Variable) → Stays s c d → AreHeld s c vs → AreDeclared m d vs
  held_declared s c d vs h g = record { different = g.0; visible = each_weaker (IsHeld s c) (λ (v : Variable). find v.name d ≡ Some (m v.ty)) (λ v i. h v.name i.1 ∙ i.0) vs g.1 }

  pub held_stay : (s t : Scopes) (c d : Scope) (vs : List Variable) → Keeps s t → Stays s c d → AreHeld s c vs → AreHeld t d vs
  held_stay s t c d vs k h g = (g.0, each_weaker (IsHeld s c) (IsHeld t d) (λ v i. (h v.name i.1 ∙ i.0, kept_known s t v.name k i.1)) vs g.1)

  named_held : (t : Scopes) (c : Scope) (xs : List Name) (u : Ty) → AllKnown xs t.inner.names → Each (IsHeld t (with_names xs (m u) c)) (named_variables xs u)
  named_held t c [] u known = tt
  named_held t c (x ∷ xs) u known = ((stays_named x (m u) xs ((x, m u) ∷ c) (ap (λ (b : Bool). if b then Some (m u) else find x c) (itself x)), known.0), named_held t ((x, m u) ∷ c) xs u known.1)

  names_held : (s t : Scopes) (c : Scope) (vs : List Variable) (xs : List Name) (u : Ty) → Keeps s t → AllNew xs s.inner.names → AllKnown xs t.inner.names → AreDistinct xs → AreHeld s c vs → AreHeld t (with_names xs (m u) c) (vs ++ named_variables xs u)
  names_held s t c vs xs u k new known apart h =
      let d : Scope = with_names xs (m u) c in
      let ws : List Variable = named_variables xs u in (
        different_both vs ws h.0 (named_different xs u apart) (each_weaker (IsHeld s c) (λ (v : Variable). look v.name ws ≡ None) (λ v i. others_look v.name xs u (known_others v.name xs s.inner.names i.1 new)) vs h.1),
        each_both (IsHeld t d) vs ws (each_weaker (IsHeld s c) (IsHeld t d) (λ v i. (others_found v.name (m u) xs c (known_others v.name xs s.inner.names i.1 new) ∙ i.0, kept_known s t v.name k i.1)) vs h.1) (named_held t c xs u known),
      )

  -- ---- variables and parts

  group_held : (p : Spot) (s : Scopes) (c : Scope) (vs : List Variable) (g : syntax.VariableGroup) → (variable_step p s g).faults ≡ [] → AreHeld s c vs →
      AreHeld (variable_step p s g).scopes (with_names (names_of g.names) (m (type_in c g.variable_type).0) (type_in c g.variable_type).1) (vs ++ named_variables (names_of g.names) (type_in c g.variable_type).0)
  unfolding variable_step add_all settle
  group_held p s c vs g h held =
      let a : Scopes = (reserve_names s g.names).scopes in
      let u : Typed = typed a p g.variable_type in
      let y : Ty × Scope = type_in c g.variable_type in
      let named : (reserve_names s g.names).faults ≡ [] = no_left (reserve_names s g.names).faults _ h in
      let written : Stays s c y.1 = written_stays s a c p g.variable_type (names_reserved s g.names) (no_first u.type to_variable (no_right (reserve_names s g.names).faults _ h)) in
      names_held s (variable_step p s g).scopes y.1 vs (names_of g.names) y.0 (variable_kept p s g) (names_new s g.names named) (names_known u.scopes g.names _) (together_distinct s g.names named) (held_stay s s c y.1 vs (same s) written held)

  pub variables_held : (pre : List Variable) (p : Spot) (s : Scopes) (b : Block) (gs : List syntax.VariableGroup) → (variable_steps p s gs).faults ≡ [] → AreHeld s b.scope (pre ++ b.variables) → AreHeld (variable_steps p s gs).scopes (variables_in m b gs).scope (pre ++ (variables_in m b gs).variables)
  unfolding variable_steps
  variables_held pre p s b [] h held = held
  variables_held pre p s b (g ∷ gs) h held =
      let y : Ty × Scope = type_in b.scope g.variable_type in
      let ws : List Variable = named_variables (names_of g.names) y.0 in
      let t : Scopes = (variable_step p s g).scopes in
      let c : Block = record { variables = b.variables ++ ws; scope = with_names (names_of g.names) (m y.0) y.1 } in
      variables_held pre p t c gs (no_right (variable_step p s g).faults _ h) (subst (AreHeld t c.scope) (append_assoc pre b.variables ws) (group_held p s b.scope (pre ++ b.variables) g (no_left (variable_step p s g).faults _ h) held))

  part_held : (pre : List Variable) (p : Spot) (s : Scopes) (b : Block) (d : syntax.Part) → (part_step p s d).faults ≡ [] → AreHeld s b.scope (pre ++ b.variables) → AreHeld (part_step p s d).scopes (part_in m b d).scope (pre ++ (part_in m b d).variables)
  unfolding part_step
  part_held pre p s b (syntax.constants at ds) h held = held_stay s (part_step p s (syntax.constants at ds)).scopes b.scope (part_in m b (syntax.constants at ds)).scope (pre ++ b.variables) (constants_kept s ds) (constants_stay s b.scope ds h) held
  part_held pre p s b (syntax.types at ds) h held = held_stay s (part_step p s (syntax.types at ds)).scopes b.scope (part_in m b (syntax.types at ds)).scope (pre ++ b.variables) (types_kept s ds) (types_stay s b.scope ds h) held
  part_held pre p s b (syntax.variables at gs) h held = variables_held pre p s b gs h held

  -- after other variables, such as the parameters
  pub parts_held : (pre : List Variable) (p : Spot) (s : Scopes) (b : Block) (ds : List syntax.Part) → (part_steps p s ds).faults ≡ [] → AreHeld s b.scope (pre ++ b.variables) → AreHeld (part_steps p s ds).scopes (parts_in m b ds).scope (pre ++ (parts_in m b ds).variables)
  unfolding part_steps
  parts_held pre p s b [] h held = held
  parts_held pre p s b (d ∷ ds) h held = parts_held pre p (part_step p s d).scopes (part_in m b d) ds (no_right (part_step p s d).faults _ h) (part_held pre p s b d (no_left (part_step p s d).faults _ h) held)

  -- ---- parameters

  -- of one group; their types declare nothing
  pub parameters_held : (is_var : Bool) (s : Scopes) (j : Heading) (g : syntax.Group) (o : Option check_meaning.Meaning) → (reserve_names s g.names).faults ≡ [] → AreHeld s j.scope (parameter_variables j.parameters) → AreHeld (add_all (reserve_names s g.names).scopes g.names o) (with_group m is_var j g).scope (parameter_variables (with_group m is_var j g).parameters)
  unfolding add_all settle
  parameters_held is_var s j g o named held =
      let u : Ty = type_named j.scope g.type_name.name in
      let xs : List Name = names_of g.names in
      let a : Scopes = (reserve_names s g.names).scopes in
      let t : Scopes = add_all a g.names o in
      let e : parameter_variables (j.parameters ++ parameters_named xs u is_var) ≡ parameter_variables j.parameters ++ named_variables xs u = variables_append j.parameters (parameters_named xs u is_var) ∙ ap (λ us. parameter_variables j.parameters ++ us) (named_parameters xs u is_var) in
      subst (AreHeld t (with_names xs (m u) j.scope)) (sym e)
      (names_held s t j.scope (parameter_variables j.parameters) xs u (after s a t (names_reserved s g.names) (all_added a g.names o)) (names_new s g.names named) (names_known a g.names o) (together_distinct s g.names named) held)

  groups_held : (k : SystemKind) (s : Scopes) (j : Heading) (gs : List syntax.Group) → (systems.group_steps k s gs).faults ≡ [] → AreHeld s j.scope (parameter_variables j.parameters) → AreHeld (systems.group_steps k s gs).scopes (with_groups m j gs).scope (parameter_variables (with_groups m j gs).parameters)
  unfolding systems.group_steps systems.group_step
  groups_held k s j [] h held = held
  groups_held k s j (g ∷ gs) h held =
      groups_held k (systems.group_step k s g).scopes (with_group m false j g) gs (no_right (systems.group_step k s g).faults _ h)
      (parameters_held false s j g _ (no_left (reserve_names s g.names).faults _ (no_left (systems.group_step k s g).faults _ h)) held)

-- ---- system types

abbrev HasOwn : SystemMeaning → Type 0
HasOwn y = AreDeclared permanent_variable y.scope (system_variables y)

system_declares : (s : Scopes) (y : syntax.System) (around : Scope) → (systems.inside s y).faults ≡ [] → HasOwn (system_in around y)
unfolding systems.inside
system_declares s y around h =
    let a : Step = systems.group_steps y.kind s y.parameters in
    let p : Spot = spot.Permanent (Some y.kind) in
    let b : Step = part_steps p a.scopes y.parts in
    let rest : b.faults ++ (routine_steps (Some y.kind) b.scopes y.routines).faults ≡ [] = no_right a.faults _ h in
    let j : Heading = with_groups permanent_variable (record { parameters = []; scope = around }) y.parameters in
    let pre : List Variable = parameter_variables j.parameters in
    let c : Block = record { variables = []; scope = j.scope } in
    let d : Block = parts_in permanent_variable c y.parts in
    let first : AreHeld permanent_variable a.scopes j.scope pre = groups_held permanent_variable y.kind s (record { parameters = []; scope = around }) y.parameters (no_left a.faults _ h) (tt, tt) in
    let all : AreHeld permanent_variable b.scopes d.scope (pre ++ d.variables) = parts_held permanent_variable pre p a.scopes c y.parts (no_left b.faults _ rest) (subst (AreHeld permanent_variable a.scopes j.scope) (sym (append-nil pre)) first) in
    held_declared permanent_variable b.scopes d.scope (with_routines d.scope y.routines) (pre ++ d.variables) (routines_stay (Some y.kind) b.scopes d.scope y.routines (no_right b.faults _ rest)) all

definition_declares : (s : Scopes) (d : Declared) (n : syntax.SystemDefinition) (v : syntax.Definition) → faults (systems.type_of_definition s v).type ≡ [] → Each HasOwn d.systems → Each HasOwn (definition_in d n v).systems
definition_declares s d n (syntax.type_definition t) h all = all
definition_declares s d n (syntax.system_definition y) h all = each_both HasOwn d.systems (system_in (seen_inside d.scope) y ∷ []) all (system_declares (enter true s) y (seen_inside d.scope) (inside_sound s y h), tt)

definitions_declare : (s : Scopes) (d : Declared) (ns : List syntax.SystemDefinition) → (systems.definition_steps s ns).faults ≡ [] → Each HasOwn d.systems → Each HasOwn (definitions_in d ns).systems
unfolding systems.definition_steps
definitions_declare s d [] h all = all
definitions_declare s d (n ∷ ns) h all =
    definitions_declare (systems.definition_step s n).scopes (definition_in d n n.value) ns (no_right (systems.definition_step s n).faults _ h) (definition_declares (reserve_name s n.name).scopes d n n.value (defined_sound s n (no_left (systems.definition_step s n).faults _ h)) all)

-- ---- the program

abbrev ProgramHolds : Scopes → Declared → Type 0
ProgramHolds s d = Each HasOwn d.systems × AreHeld permanent_variable s d.scope d.variables

program_part_holds : (s : Scopes) (d : Declared) (q : syntax.ProgramPart) → (systems.program_part_step s q).faults ≡ [] → ProgramHolds s d → ProgramHolds (systems.program_part_step s q).scopes (program_part_in d q)
unfolding systems.program_part_step
program_part_holds s d (syntax.program_constants at ds) h held = (held.0, held_stay permanent_variable s _ d.scope _ d.variables (constants_kept s ds) (constants_stay s d.scope ds h) held.1)
program_part_holds s d (syntax.program_types at ns) h held = (
  definitions_declare s d ns h held.0,
  subst (AreHeld permanent_variable (systems.definition_steps s ns).scopes (definitions_in d ns).scope) (sym (same_variables d ns)) (held_stay permanent_variable s (systems.definition_steps s ns).scopes d.scope (definitions_in d ns).scope d.variables (definitions_kept s ns) (definitions_stay s d ns h) held.1),
)
program_part_holds s d (syntax.program_variables at gs) h held = (held.0, variables_held permanent_variable [] (spot.Permanent None) s (record { variables = d.variables; scope = d.scope }) gs h held.1)

program_parts_hold : (s : Scopes) (d : Declared) (qs : List syntax.ProgramPart) → (systems.program_part_steps s qs).faults ≡ [] → ProgramHolds s d → ProgramHolds (systems.program_part_steps s qs).scopes (program_parts_in d qs)
unfolding systems.program_part_steps
program_parts_hold s d [] h held = held
program_parts_hold s d (q ∷ qs) h held = program_parts_hold (systems.program_part_step s q).scopes (program_part_in d q) qs (no_right (systems.program_part_step s q).faults _ h) (program_part_holds s d q (no_left (systems.program_part_step s q).faults _ h) held)

own_at : (ms : List SystemMeaning) (k : ℕ) (own : SystemMeaning) → Each HasOwn ms → HasOwn own → HasOwn (or_own own (slice_get ms k))
own_at [] k own all h = h
own_at (m ∷ ms) zero own all h = all.0
own_at (m ∷ ms) (suc k) own all h = own_at ms k own all.1 h

pub accepted_declares : (t : syntax.Tree) → faults_of t ≡ [] → (k : ℕ) → AreDeclared permanent_variable (system_of t.program k).scope (system_variables (system_of t.program k))
unfolding declarations
accepted_declares t h k =
    let p : syntax.Program = t.program in
    let a : Step = systems.program_part_steps start p.parts in
    let d : Declared = declared p in
    let none : a.faults ++ (routine_steps None a.scopes p.routines).faults ≡ [] = declarations_sound t h in
    let all : ProgramHolds a.scopes d = program_parts_hold start nothing_declared p.parts (no_left a.faults _ none) (tt, (tt, tt)) in
    own_at d.systems k (own_meaning d p) all.0 (held_declared permanent_variable a.scopes d.scope (with_routines d.scope p.routines) d.variables (routines_stay None a.scopes d.scope p.routines (no_right a.faults _ none)) all.1)
