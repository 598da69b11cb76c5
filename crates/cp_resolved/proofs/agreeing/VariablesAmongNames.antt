-- Variables that are declared without a fault stand among the checker's names in their order, each with its type; and so what is counted of a system type is counted of its variables.
use Rattle.std.proofs.Common.{◌≡◌, ◌+◌, ◌<◌, ◌≤◌, ℕ, Bool, true, false, List, [], ◌∷◌, ◌++◌, length, Option, Some, None, refl, sym, ap, subst, ◌∙◌, append_assoc, arith, length-append}
use Rattle.cp_resolved.proofs.Words.{nat_lt, ltb-true, ltb-false, Identifier, ValueType, Meaning, Use, Judged, ◌>>=◌, faults, Spot, Typed, typed, Name, Ty, Variable}
use Rattle.cp_resolved.proofs.Words.{Block, SystemMeaning, system_in, system_of, in_type, in_part, each_in, Each, IsSmallType, IsSmallPart, all_tokens, type_tokens}
use Rattle.cp_resolved.proofs.Words.{part_tokens, Tokens, SystemThere, none_first}
use Rattle.cp_tree.specs.Syntax as syntax
use Rattle.cp_tree.specs.Syntax.{Program, VariableGroup, Part, System}
use Rattle.cp_scope.specs.declared.types.Meaning.TheVariants as meaning
use Rattle.cp_scope.specs.Scopes.{Names, Scopes, Shapes, Shape, system_shape, shape_in, with_shape, settle, leave, keep, census}
use Rattle.cp_check.specs.declared.types.Spot.TheVariants as spot
use Rattle.cp_check.specs.Declarations.{meaning_or_none, to_variable, reserve_names, add_names, add_all, variable_step, variable_steps, part_step, part_steps}
use Rattle.cp_check.specs.Routines.{need_of}
use Rattle.cp_check.specs.Systems.{system_heading, close_system}
use Rattle.cp_meaning.specs.Scopes as scopes
use Rattle.cp_meaning.specs.Declarations as meant
use Rattle.cp_resolved.proofs.agreeing.Agreeing.{Appends, none_left, none_right, More, more_trans, with_more, with_there}
use Rattle.cp_resolved.proofs.agreeing.AgreeingNames.{type_more, Agree}
use Rattle.cp_resolved.proofs.agreeing.AgreeingTypes.{IsFew, StandsAt, TypedAs}
use Rattle.cp_resolved.proofs.agreeing.AgreeingWritten.{each_left, each_right}
use Rattle.cp_resolved.proofs.agreeing.AgreeingParameters.{shapes_added}
use Rattle.cp_resolved.proofs.agreeing.AgreeingParts.{StepResult, names_result, all_named, constants_agree, type_reached, types_agree, Kind, variable_agrees, part_agrees}
use Rattle.cp_resolved.proofs.declarations.Reserving.{named_all}

-- a variable among names, with those before it and those after it
pub record StandsAmong (Is : ValueType → Type 0) (Rest : Names → Type 0) (x : Name) (ds : Names) : Type 0 where
  pub before : Names
  pub value_type : ValueType
  pub after : Names
  pub is : ds ≡ before ++ (x, Some (meaning.Variable value_type)) ∷ after
  pub belongs : Is value_type
  pub rest : Rest after

module _ (tokens : Tokens) where
  -- by where they are declared
  abbrev pub Declares : Spot → Shapes → List Variable → Names → Type 0
  Declares q ss [] ds = Unit {0}
  Declares q ss (v ∷ vs) ds = StandsAmong (TypedAs tokens ss q v.ty) (Declares q ss vs) v.name ds

  declares_before : (q : Spot) (ss : Shapes) (vs : List Variable) (ds es : Names) → Declares q ss vs es → Declares q ss vs (ds ++ es)
  declares_before q ss [] ds es h = tt
  declares_before q ss (v ∷ vs) ds es h =
      record {
        before = ds ++ h.before;
        value_type = h.value_type;
        after = h.after;
        is = ap (λ (ns : Names). ds ++ ns) h.is ∙ sym (append_assoc ds h.before ((v.name, Some (meaning.Variable h.value_type)) ∷ h.after));
        belongs = h.belongs;
        rest = h.rest;
      }

  declares_both : (q : Spot) (ss : Shapes) (vs ws : List Variable) (ds es : Names) → Declares q ss vs ds → Declares q ss ws es → Declares q ss (vs ++ ws) (ds ++ es)
  declares_both q ss [] ws ds es h g = declares_before q ss ws ds es g
  declares_both q ss (v ∷ vs) ws ds es h g =
      record {
        before = h.before;
        value_type = h.value_type;
        after = h.after ++ es;
        is = ap (λ (ns : Names). ns ++ es) h.is ∙ append_assoc h.before ((v.name, Some (meaning.Variable h.value_type)) ∷ h.after) es;
        belongs = h.belongs;
        rest = declares_both q ss vs ws h.after es h.rest g;
      }

  typed_more : (q : Spot) (ss ts : Shapes) (t : Ty) (v : ValueType) → More ss ts → TypedAs tokens ss q t v → TypedAs tokens ts q t v
  typed_more q ss ts t v m h = record { belongs = type_more tokens ss ts m t v h.belongs; stands = h.stands; owned = h.owned }

  -- where more is written, and more names are declared
  pub declares_more : (q : Spot) (ss ts : Shapes) → More ss ts → (vs : List Variable) (ds es : Names) → Appends ds es → Declares q ss vs ds → Declares q ts vs es
  declares_more q ss ts m [] ds es a h = tt
  declares_more q ss ts m (v ∷ vs) ds es a h =
      record {
        before = h.before;
        value_type = h.value_type;
        after = h.after ++ a.0;
        is = a.1 ∙ ap (λ (ns : Names). ns ++ a.0) h.is ∙ append_assoc h.before ((v.name, Some (meaning.Variable h.value_type)) ∷ h.after) a.0;
        belongs = typed_more q ss ts v.ty h.value_type m h.belongs;
        rest = declares_more q ss ts m vs h.after (h.after ++ a.0) (a.0, refl) h.rest;
      }

  declares_named : (q : Spot) (ss : Shapes) (ns : List Identifier) (t : Ty) (v : ValueType) → TypedAs tokens ss q t v → Declares q ss (meant.named_variables (meant.names_of ns) t) (named_all ns (Some (meaning.Variable v)))
  declares_named q ss [] t v h = tt
  declares_named q ss (n ∷ ns) t v h = record { before = []; value_type = v; after = named_all ns (Some (meaning.Variable v)); is = refl; belongs = h; rest = declares_named q ss ns t v h }

  -- so their types are as it is wanted where they are declared
  pub declares_stand : (q : Spot) (ss : Shapes) (vs : List Variable) (ds : Names) → Declares q ss vs ds → Each (λ (v : Variable). StandsAt q v.ty) vs
  declares_stand q ss [] ds h = tt
  declares_stand q ss (v ∷ vs) ds h = (h.belongs.stands, declares_stand q ss vs h.after h.rest)

  module _ (p : Program) where
    -- ---- variables

    variable_declares : (b : Bool) (q : Spot) (s : Scopes) (m below : scopes.Scope) (ks : List ℕ) (g : VariableGroup) (vs : List Variable) → (variable_step q s g).faults ≡ [] → IsSmallType g.variable_type → Each (IsFew tokens) (in_type g.variable_type) → s.inner.pending ≡ [] → Agree tokens p b None s m below (type_tokens g.variable_type ks) →
        Declares q s.shapes vs s.inner.names → Declares q (variable_step q s g).scopes.shapes (vs ++ meant.named_variables (meant.names_of g.names) (meant.type_in m g.variable_type).0) (variable_step q s g).scopes.inner.names
    unfolding variable_step add_all settle
    variable_declares b q s m below ks g vs e small few empty h before =
        let a : Scopes = (reserve_names s g.names).scopes in
        let t : Typed = typed a q g.variable_type in
        let u : Ty × scopes.Scope = meant.type_in m g.variable_type in
        let r = type_reached tokens p b s a g.names m below ks q g.variable_type (names_result tokens p b None s g.names m below (type_tokens g.variable_type ks) (none_left (reserve_names s g.names).faults (faults (t.type >>= to_variable)) e) empty h)
        (none_first t.type to_variable (none_right (reserve_names s g.names).faults (faults (t.type >>= to_variable)) e)) small few in
        let o : Option Meaning = Some (meaning.Variable r.value) in
        let ws : List Variable = meant.named_variables (meant.names_of g.names) u.0 in
        let names : (add_names t.scopes g.names o).inner.names ≡ t.scopes.inner.names ++ named_all g.names o = all_named tokens p t.scopes g.names o r.fresh r.others in
        let all : Declares q t.scopes.shapes (vs ++ ws) (t.scopes.inner.names ++ named_all g.names o) =
        declares_both q t.scopes.shapes vs ws t.scopes.inner.names (named_all g.names o) (declares_more q s.shapes t.scopes.shapes r.more vs s.inner.names t.scopes.inner.names r.appends before) (declares_named q t.scopes.shapes g.names u.0 r.value r.typed) in
        subst (λ (j : Judged ValueType). Declares q (add_all t.scopes g.names (meaning_or_none (j >>= to_variable))).shapes (vs ++ ws) (add_all t.scopes g.names (meaning_or_none (j >>= to_variable))).inner.names) (sym r.is)
        (subst (λ (ss : Shapes). Declares q ss (vs ++ ws) (add_names t.scopes g.names o).inner.names) (sym (shapes_added t.scopes g.names o)) (subst (λ (ns : Names). Declares q t.scopes.shapes (vs ++ ws) ns) (sym names) all))

    pub variables_declare : (b : Bool) (q : Spot) (kind : Ty → scopes.Meaning) → Kind tokens p b q kind → (s : Scopes) (o : Block) (below : scopes.Scope) (ks : List ℕ) (gs : List VariableGroup) → (variable_steps q s gs).faults ≡ [] → Each (λ g. IsSmallType g.variable_type) gs → Each (IsFew tokens) (each_in (λ g. in_type g.variable_type) gs) → s.inner.pending ≡ [] → Agree tokens p b None s o.scope below (all_tokens (λ g. type_tokens g.variable_type) gs ks) →
        Declares q s.shapes o.variables s.inner.names → Declares q (variable_steps q s gs).scopes.shapes (meant.variables_in kind o gs).variables (variable_steps q s gs).scopes.inner.names
    unfolding variable_steps
    variables_declare b q kind how s o below ks [] e small few empty h vs = vs
    variables_declare b q kind how s o below ks (g ∷ gs) e small few empty h vs =
        let t : Scopes = (variable_step q s g).scopes in
        let js : List ℕ = all_tokens (λ (c : VariableGroup). type_tokens c.variable_type) gs ks in
        let u : Ty × scopes.Scope = meant.type_in o.scope g.variable_type in
        let us : List Variable = meant.named_variables (meant.names_of g.names) u.0 in
        let k : Block = record { variables = o.variables ++ us; scope = meant.with_names (meant.names_of g.names) (kind u.0) u.1 } in
        let none : (variable_step q s g).faults ≡ [] = none_left (variable_step q s g).faults (variable_steps q t gs).faults e in
        let one = each_left (IsFew tokens) (in_type g.variable_type) (each_in (λ (c : VariableGroup). in_type c.variable_type) gs) few in
        let r : StepResult tokens p b None s t k.scope below js = variable_agrees tokens p b q kind how s o.scope below js g none small.0 one empty h in
        variables_declare b q kind how t k below ks gs (none_right (variable_step q s g).faults (variable_steps q t gs).faults e) small.1 (each_right (IsFew tokens) (in_type g.variable_type) (each_in (λ (c : VariableGroup). in_type c.variable_type) gs) few) r.settled r.agree
        (variable_declares b q s o.scope below js g o.variables none small.0 one empty h vs)

    -- ---- parts

    part_declares : (b : Bool) (q : Spot) (kind : Ty → scopes.Meaning) → Kind tokens p b q kind → (s : Scopes) (o : Block) (below : scopes.Scope) (ks : List ℕ) (d : Part) → (part_step q s d).faults ≡ [] → IsSmallPart d → Each (IsFew tokens) (in_part d) → s.inner.pending ≡ [] → Agree tokens p b None s o.scope below (part_tokens d ks) →
        Declares q s.shapes o.variables s.inner.names → Declares q (part_step q s d).scopes.shapes (meant.part_in kind o d).variables (part_step q s d).scopes.inner.names
    unfolding part_step
    part_declares b q kind how s o below ks (syntax.constants at ds) e small few empty h vs =
        let r = constants_agree tokens p b s o.scope below ks ds e small empty h in
        declares_more q s.shapes _ r.more o.variables s.inner.names _ r.appends vs
    part_declares b q kind how s o below ks (syntax.types at ds) e small few empty h vs =
        let r = types_agree tokens p b s o.scope below ks ds e small few empty h in
        declares_more q s.shapes _ r.more o.variables s.inner.names _ r.appends vs
    part_declares b q kind how s o below ks (syntax.variables at gs) e small few empty h vs = variables_declare b q kind how s o below ks gs e small few empty h vs

    pub parts_declare : (b : Bool) (q : Spot) (kind : Ty → scopes.Meaning) → Kind tokens p b q kind → (s : Scopes) (o : Block) (below : scopes.Scope) (ks : List ℕ) (ds : List Part) → (part_steps q s ds).faults ≡ [] → Each IsSmallPart ds → Each (IsFew tokens) (each_in in_part ds) → s.inner.pending ≡ [] → Agree tokens p b None s o.scope below (all_tokens part_tokens ds ks) →
        Declares q s.shapes o.variables s.inner.names → Declares q (part_steps q s ds).scopes.shapes (meant.parts_in kind o ds).variables (part_steps q s ds).scopes.inner.names
    unfolding part_steps
    parts_declare b q kind how s o below ks [] e small few empty h vs = vs
    parts_declare b q kind how s o below ks (d ∷ ds) e small few empty h vs =
        let t : Scopes = (part_step q s d).scopes in
        let js : List ℕ = all_tokens part_tokens ds ks in
        let k : Block = meant.part_in kind o d in
        let none : (part_step q s d).faults ≡ [] = none_left (part_step q s d).faults (part_steps q t ds).faults e in
        let one = each_left (IsFew tokens) (in_part d) (each_in in_part ds) few in
        let r : StepResult tokens p b None s t k.scope below js = part_agrees tokens p b q kind how s o below js d none small.0 one empty h in
        parts_declare b q kind how t k below ks ds (none_right (part_step q s d).faults (part_steps q t ds).faults e) small.1 (each_right (IsFew tokens) (in_part d) (each_in in_part ds) few) r.settled r.agree (part_declares b q kind how s o below js d none small.0 one empty h vs)

    -- ---- system types

    -- what is counted of a system type is counted of names among which its variables stand
    pub record Counted (k : ℕ) (ss : Shapes) : Type 0 where
      pub within : Shapes
      pub more : More within ss
      pub there : SystemThere (tokens.systems k) ss
      pub is : there.census ≡ census there.names.names within
      pub declares : Declares (spot.Permanent (Some (system_of p k).kind)) within (system_of p k).variables there.names.names

    pub closed_counted : (c : ℕ) (around : scopes.Scope) (y : System) (u : Scopes) (w : Use) → tokens.systems c ≡ y.at → system_of p c ≡ system_in around y → shape_in y.at u.shapes ≡ None → Declares (spot.Permanent (Some y.kind)) u.shapes (system_in around y).variables u.inner.names → Counted c (close_system u y.at w).shapes
    unfolding close_system keep leave
    closed_counted c around y u w token means free h =
        let d : Shape = system_shape u.inner (system_heading u) (census u.inner.names u.shapes) (need_of w) in
        record {
          within = u.shapes;
          more = with_more u.shapes y.at d free;
          there = record { names = u.inner; heading = system_heading u; census = census u.inner.names u.shapes; need = need_of w; there = ap (λ j. shape_in j (with_shape u.shapes y.at d)) token ∙ with_there u.shapes y.at d free };
          is = refl;
          declares = subst (λ (m : SystemMeaning). Declares (spot.Permanent (Some m.kind)) u.shapes m.variables u.inner.names) (sym means) h;
        }

    counted_more : (k : ℕ) (ss ts : Shapes) → More ss ts → Counted k ss → Counted k ts
    counted_more k ss ts m h =
        let d : SystemThere (tokens.systems k) ss = h.there in
        record {
          within = h.within;
          more = more_trans h.within ss ts h.more m;
          there = record { names = d.names; heading = d.heading; census = d.census; need = d.need; there = m (tokens.systems k) (system_shape d.names d.heading d.census d.need) d.there };
          is = h.is;
          declares = h.declares;
        }

    -- the first so many system types
    abbrev pub AreCounted : Shapes → ℕ → Type 0
    AreCounted ss n = (k : ℕ) → k < n → Counted k ss

    pub all_counted : (ss ts : Shapes) (n : ℕ) → More ss ts → AreCounted ss n → AreCounted ts n
    all_counted ss ts n m h k lt = counted_more k ss ts m (h k lt)

    pub last_counted : (ss ts : Shapes) (ms : List SystemMeaning) (m : SystemMeaning) → More ss ts → Counted (length ms) ts → AreCounted ss (length ms) → AreCounted ts (length (ms ++ m ∷ []))
    last_counted ss ts ms m more new h k lt = go (nat_lt k (length ms)) refl
      where
        count : length (ms ++ m ∷ []) ≡ length ms + 1
        count = length-append ms (m ∷ [])

        go : (b : Bool) → nat_lt k (length ms) ≡ b → Counted k ts
        go true e = counted_more k ss ts more (h k (ltb-true k (length ms) e))
        go false e =
            let past : length ms ≤ k = ltb-false k (length ms) e in
            let same : length ms ≡ k = omega (arith, past, lt, count) in
            subst (λ j. Counted j ts) same new
