-- Inside a routine the variables and components of the system type that are visible are those that stand before its routines. What is handed over to
-- a system type has the name of a parameter, and no component that it contains has one.
use Rattle.std.proofs.Common.{◌≡◌, ℕ, Bool, true, false, ◌||◌, if◌then◌else◌, List, [], ◌∷◌, ◌++◌, length, Option, Some, None, refl, sym, ap, subst, ◌∙◌, inl, inr, append_assoc}
use Rattle.cp_resolved.proofs.Words.{◌⊎◌, bytes_eq, same_Some, bytes_eq-Decides, Identifier, PlaceOrigin, CellType, Contained, LayoutMeaning, type_of_name, written_type}
use Rattle.cp_resolved.proofs.Words.{Ty, Scope, permanent_variable, Name, same_name, routine_begun, parts_begun, IsInFrame, is_parameter, AreOthers, Each}
use Rattle.std.proofs.lemmas.List.{append-nil}
use Rattle.cp_tree.specs.Syntax as syntax
use Rattle.cp_slots.specs.declared.place.PlaceOrigin.TheVariants as origin
use Rattle.cp_symbols.specs.declared.kinds.CellType.TheVariants as types
use Rattle.cp_symbols.specs.declared.names.LayoutMeaning.TheVariants as meaning
use Rattle.cp_layout.specs.Layers.{Names, Layer, find, is_open, seen_inside, outermost, nothing_laid}
use Rattle.cp_layout.specs.LaidDeclarations.{components_of, variable, variable_with, variables_of, variable_group, variables, permanent_part, permanent_parts, Parameters, heading, with_heading, open_routine, routine, routines, enter_system, system_parameter, system_parameters_of, system_group, system_groups, program_parts}
use Rattle.cp_meaning.specs.Declarations as meant
use Rattle.cp_meaning.specs.Declarations.{Variable, Block, Parameter, names_of, with_group, with_groups, parameters_named, named_variables, type_in, with_names, type_named, variables_in, part_in, parts_in}
use Rattle.cp_resolved.proofs.laid.Extends.{routine_names}
use Rattle.cp_resolved.proofs.names.KeptNames as kept
use Rattle.cp_meaning.proofs.Good.{or_right as either_true}

pub found_cases : (d : List ℕ × LayoutMeaning) (ds : Names) (x : List ℕ) (m : LayoutMeaning) → find x (d ∷ ds) ≡ Some m → ((bytes_eq d.0 x ≡ true) × (d.1 ≡ m)) ⊎ (find x ds ≡ Some m)
found_cases d ds x m e = go (bytes_eq d.0 x) refl e
  where
    go : (b : Bool) → bytes_eq d.0 x ≡ b → (if b then Some d.1 else find x ds) ≡ Some m → ((bytes_eq d.0 x ≡ true) × (d.1 ≡ m)) ⊎ (find x ds ≡ Some m)
    go true w f = inl (w, same_Some d.1 m f)
    go false w f = inr f

same_turned : (x y : List ℕ) → bytes_eq x y ≡ true → bytes_eq y x ≡ true
same_turned x y h = (bytes_eq-Decides y x).1 (sym ((bytes_eq-Decides x y).0 h))

pub no_name : (x : List ℕ) (m : LayoutMeaning) → find x [] ≡ Some m → ⊥
no_name x m e = absurd (cc)

-- ---- inside a routine

-- a variable with permanent cells, a component that is contained, or one that is handed over
abbrev pub IsPermanent : LayoutMeaning → Type 0
IsPermanent (meaning.Variable (origin.Permanent n) v) = Unit {0}
IsPermanent (meaning.Contained n v) = Unit {0}
IsPermanent (meaning.Bound n k) = Unit {0}
IsPermanent m = ⊥

abbrev pub Under : Names → Names → Type 0
Under outer inner = (x : List ℕ) (m : LayoutMeaning) → IsPermanent m → find x inner ≡ Some m → find x outer ≡ Some m

abbrev pub IsOther : LayoutMeaning → Type 0
IsOther m = IsPermanent m → ⊥

pub under_same : (ns : Names) → Under ns ns
under_same ns x m i e = e

pub under_added : (outer : Names) (x : List ℕ) (m : LayoutMeaning) (ns : Names) → IsOther m → Under outer ns → Under outer ((x, m) ∷ ns)
under_added outer x m ns o u y n i e = go (found_cases (x, m) ns y n e)
  where
    go : ((bytes_eq x y ≡ true) × (m ≡ n)) ⊎ (find y ns ≡ Some n) → find y outer ≡ Some n
    go (inl w) = absurd (o (subst IsPermanent (sym w.1) i))
    go (inr f) = u y n i f

in_frame_other : (o : PlaceOrigin) (v : CellType) → IsInFrame o → IsOther (meaning.Variable o v)
in_frame_other (origin.Permanent n) v h i = h
in_frame_other _ v h i = i

pub under_routine : (outer : Names) (l : Layer) (r : syntax.Routine) → Under outer l.names → Under outer (routine_begun l r).names
under_routine outer l r u =
    let x : Layer = (open_routine l r.name.name).1 in
    let h = heading x r.name.name r.kind in
    let a : Under outer x.names = under_added outer r.name.name (meaning.Routine (length l.routines)) l.names (λ i. i) u in
    let b : Under outer h.1.names = kept.heading_keep (Under outer) IsOther (under_added outer) (λ b z i. i) (λ v i. i) in_frame_other x r.name.name r.kind a in
    kept.local_parts_keep (Under outer) IsOther (under_added outer) (λ b z i. i) (λ v i. i) in_frame_other (with_heading h.1 h.0) r.parts b

under_named : (outer : Names) (x : List ℕ) (n : ℕ) (ns : Names) → Under outer ns → Under outer ((x, meaning.Routine n) ∷ ns)
under_named outer x n ns u = under_added outer x (meaning.Routine n) ns (λ i. i) u

-- after a routine, and after all of a system type
pub under_after : (outer : Names) (l : Layer) (r : syntax.Routine) → Under outer l.names → Under outer (routine l r).names
under_after outer l r u = subst (Under outer) (sym (routine_names l r)) (under_named outer r.name.name (length l.routines) l.names u)

pub under_routines : (outer : Names) (l : Layer) (rs : List syntax.Routine) → Under outer l.names → Under outer (routines l rs).names
unfolding routines
under_routines outer l [] u = u
under_routines outer l (r ∷ rs) u = under_routines outer (routine l r) rs (under_after outer l r u)

-- ---- a routine's own name

abbrev IsNoRoutine : LayoutMeaning → Type 0
IsNoRoutine (meaning.Routine n) = ⊥
IsNoRoutine m = Unit {0}

-- a name that stands for a routine stands for this one
abbrev OnlyRoutine : ℕ → List ℕ → Names → Type 0
OnlyRoutine n x ns = (i : ℕ) → find x ns ≡ Some (meaning.Routine i) → i ≡ n

only_added : (n : ℕ) (x y : List ℕ) (m : LayoutMeaning) (ns : Names) → IsNoRoutine m → OnlyRoutine n x ns → OnlyRoutine n x ((y, m) ∷ ns)
only_added n x y m ns o u i e = go (found_cases (y, m) ns x (meaning.Routine i) e)
  where
    go : ((bytes_eq y x ≡ true) × (m ≡ meaning.Routine i)) ⊎ (find x ns ≡ Some (meaning.Routine i)) → i ≡ n
    go (inl w) = absurd (subst IsNoRoutine w.1 o)
    go (inr f) = u i f

routine_inside : (n i : ℕ) → meaning.Routine n ≡ meaning.Routine i → i ≡ n
routine_inside n i e = cc

-- its own name stands in a routine for the routine, if for any
pub own_number : (l : Layer) (r : syntax.Routine) (x : Name) → same_name x r.name.name ≡ true → OnlyRoutine (length l.routines) x (routine_begun l r).names
own_number l r x same =
    let n : ℕ = length l.routines in
    let y : Layer = (open_routine l r.name.name).1 in
    let h = heading y r.name.name r.kind in
    let t : bytes_eq r.name.name x ≡ true = same_turned x r.name.name same in
    let first : OnlyRoutine n x y.names = λ i e. routine_inside n i (same_Some (meaning.Routine n) (meaning.Routine i) (sym (ap (λ b. if b then Some (meaning.Routine n) else find x l.names) t) ∙ e)) in
    let inside : OnlyRoutine n x h.1.names = kept.heading_keep (OnlyRoutine n x) IsNoRoutine (only_added n x) (λ b z. tt) (λ v. tt) (λ o v i. tt) y r.name.name r.kind first in
    kept.local_parts_keep (OnlyRoutine n x) IsNoRoutine (only_added n x) (λ b z. tt) (λ v. tt) (λ o v i. tt) (with_heading h.1 h.0) r.parts inside

-- ---- what a system type sees of the names around it

pub open_found : (x : List ℕ) (m : LayoutMeaning) (ns : Names) → find x (seen_inside ns) ≡ Some m → is_open m ≡ true
open_found x m [] e = absurd (no_name x m e)
open_found x m (d ∷ ds) e = go (is_open d.1) refl (open_found x m ds) e
  where
    next : (find x (seen_inside ds) ≡ Some m → is_open m ≡ true) → is_open d.1 ≡ true → ((bytes_eq d.0 x ≡ true) × (d.1 ≡ m)) ⊎ (find x (seen_inside ds) ≡ Some m) → is_open m ≡ true
    next rest w (inl v) = ap is_open (sym v.1) ∙ w
    next rest w (inr v) = rest v

    go : (b : Bool) → is_open d.1 ≡ b → (find x (seen_inside ds) ≡ Some m → is_open m ≡ true) → find x (if b then d ∷ seen_inside ds else seen_inside ds) ≡ Some m → is_open m ≡ true
    go true w rest f = next rest w (found_cases d (seen_inside ds) x m f)
    go false w rest f = rest f

-- ---- components that are handed over

abbrev pub BoundIn : List Parameter → Names → Type 0
BoundIn qs ns = (x : List ℕ) (n k : ℕ) → find x ns ≡ Some (meaning.Bound n k) → is_parameter x qs ≡ true

abbrev IsUnbound : LayoutMeaning → Type 0
IsUnbound (meaning.Bound n k) = ⊥
IsUnbound m = Unit {0}

bound_added : (qs : List Parameter) (x : List ℕ) (m : LayoutMeaning) (ns : Names) → IsUnbound m → BoundIn qs ns → BoundIn qs ((x, m) ∷ ns)
bound_added qs x m ns o u y n k e = go (found_cases (x, m) ns y (meaning.Bound n k) e)
  where
    go : ((bytes_eq x y ≡ true) × (m ≡ meaning.Bound n k)) ⊎ (find y ns ≡ Some (meaning.Bound n k)) → is_parameter y qs ≡ true
    go (inl w) = absurd (subst IsUnbound w.1 o)
    go (inr f) = u y n k f

-- the program has none
all_unbound : (ns : Names) → Each (λ d. IsUnbound d.1) ns → BoundIn [] ns
all_unbound [] h x n k e = absurd (no_name x (meaning.Bound n k) e)
all_unbound (d ∷ ds) h x n k e = bound_added [] d.0 d.1 ds h.0 (all_unbound ds h.1) x n k e

pub program_bound : (lines : List ℕ) (ps : List syntax.ProgramPart) → BoundIn [] (program_parts (nothing_laid lines) ps).names
program_bound lines ps =
    kept.program_parts_keep (BoundIn []) IsUnbound (bound_added []) (λ b z. tt) (λ v. tt) (λ n v. tt) (λ n v. tt) (nothing_laid lines) ps
    (all_unbound outermost (tt, (tt, (tt, (tt, (tt, (tt, (tt, (tt, (tt, (tt, (tt, (tt, (tt, (tt, (tt, tt))))))))))))))))

pub left_true : (a b : Bool) → a ≡ true → (a || b) ≡ true
left_true a b h = ap (λ c. c || b) h

parameter_more : (x : Name) (qs rs : List Parameter) → is_parameter x qs ≡ true → is_parameter x (qs ++ rs) ≡ true
parameter_more x [] rs h = absurd (let w : false ≡ true = h in cc)
parameter_more x (q ∷ qs) rs h = go (same_name x q.name) (parameter_more x qs rs) h
  where
    go : (b : Bool) → (is_parameter x qs ≡ true → is_parameter x (qs ++ rs) ≡ true) → (b || is_parameter x qs) ≡ true → (b || is_parameter x (qs ++ rs)) ≡ true
    go true rest e = refl
    go false rest e = rest e

parameter_last : (x : Name) (qs : List Parameter) (q : Parameter) (rs : List Parameter) → same_name x q.name ≡ true → is_parameter x (qs ++ q ∷ rs) ≡ true
parameter_last x [] q rs h = left_true (same_name x q.name) (is_parameter x rs) h
parameter_last x (p ∷ qs) q rs h = either_true (same_name x p.name) (is_parameter x (qs ++ q ∷ rs)) (parameter_last x qs q rs h)

-- one more name that is a parameter
bound_parameter : (qs : List Parameter) (q : Parameter) (m : LayoutMeaning) (ns : Names) → BoundIn qs ns → BoundIn (qs ++ q ∷ []) ((q.name, m) ∷ ns)
bound_parameter qs q m ns u y n k e = go (found_cases (q.name, m) ns y (meaning.Bound n k) e)
  where
    go : ((bytes_eq q.name y ≡ true) × (m ≡ meaning.Bound n k)) ⊎ (find y ns ≡ Some (meaning.Bound n k)) → is_parameter y (qs ++ q ∷ []) ≡ true
    go (inl w) = parameter_last y qs q [] (same_turned q.name y w.0)
    go (inr f) = parameter_more y qs (q ∷ []) (u y n k f)

one_bound : (qs : List Parameter) (q : Parameter) (l : Layer) (ps : Parameters) (v : CellType) → BoundIn qs l.names → BoundIn (qs ++ q ∷ []) (system_parameter l ps q.name v).1.names
one_bound qs q l ps (types.System k) u = bound_parameter qs q (meaning.Bound l.owned.cells k) l.names u
one_bound qs q l ps (types.Ordinal r) u = bound_parameter qs q (meaning.Variable (origin.Permanent l.owned.cells) (types.Ordinal r)) l.names u
one_bound qs q l ps types.Queue u = bound_parameter qs q (meaning.Variable (origin.Permanent l.owned.cells) types.Queue) l.names u
one_bound qs q l ps (types.Set r) u = bound_parameter qs q (meaning.Variable (origin.Permanent l.owned.cells) (types.Set r)) l.names u
one_bound qs q l ps (types.Array n) u = bound_parameter qs q (meaning.Variable (origin.Permanent l.owned.cells) (types.Array n)) l.names u
one_bound qs q l ps (types.Record n) u = bound_parameter qs q (meaning.Variable (origin.Permanent l.owned.cells) (types.Record n)) l.names u

parameters_bound : (qs : List Parameter) (l : Layer) (ps : Parameters) (t : Ty) (b : Bool) (v : CellType) (is : List Identifier) → BoundIn qs l.names → BoundIn (qs ++ parameters_named (names_of is) t b) (system_parameters_of l ps v is).1.names
unfolding system_parameters_of
parameters_bound qs l ps t b v [] u = subst (λ rs. BoundIn rs l.names) (sym (append-nil qs)) u
parameters_bound qs l ps t b v (i ∷ is) u =
    let q : Parameter = record { name = i.name; ty = t; is_var = b } in
    let x : Parameters × Layer = system_parameter l ps i.name v in
    let w : BoundIn ((qs ++ q ∷ []) ++ parameters_named (names_of is) t b) (system_parameters_of x.1 x.0 v is).1.names = parameters_bound (qs ++ q ∷ []) x.1 x.0 t b v is (one_bound qs q l ps v u) in
    subst (λ rs. BoundIn rs (system_parameters_of x.1 x.0 v is).1.names) (append_assoc qs (q ∷ []) (parameters_named (names_of is) t b)) w

groups_bound : (h : meant.Heading) (l : Layer) (ps : Parameters) (gs : List syntax.Group) → BoundIn h.parameters l.names → BoundIn (with_groups permanent_variable h gs).parameters (system_groups l ps gs).1.names
unfolding system_groups
groups_bound h l ps [] u = u
groups_bound h l ps (g ∷ gs) u =
    let x : Parameters × Layer = system_group l ps g in
    groups_bound (with_group permanent_variable false h g) x.1 x.0 gs (parameters_bound h.parameters l ps (type_named h.scope g.type_name.name) false (type_of_name l g.type_name.name) g.names u)

pub parts_bound : (s : Scope) (l : Layer) (d : syntax.System) → BoundIn (with_groups permanent_variable (record { parameters = []; scope = s }) d.parameters).parameters (parts_begun l d).names
parts_bound s l d =
    let h : meant.Heading = record { parameters = []; scope = s } in
    let qs : List Parameter = (with_groups permanent_variable h d.parameters).parameters in
    let a : BoundIn [] (enter_system l).1.names = λ x n k e. absurd (let w : false ≡ true = open_found x (meaning.Bound n k) l.names e in cc) in
    kept.permanent_parts_keep (BoundIn qs) IsUnbound (bound_added qs) (λ b z. tt) (λ v. tt) (λ n v. tt) (λ n v. tt) (system_groups (enter_system l).1 [] d.parameters).1 d.parts (groups_bound h (enter_system l).1 [] d.parameters a)

-- ---- components that are contained

abbrev pub is_variable : Name → List Variable → Bool
is_variable x [] = false
is_variable x (v ∷ vs) = same_name x v.name || is_variable x vs

abbrev pub ContainedIn : List Variable → Names → Type 0
ContainedIn vs ns = (x : List ℕ) (n : ℕ) (v : CellType) → find x ns ≡ Some (meaning.Contained n v) → is_variable x vs ≡ true

abbrev IsAlone : LayoutMeaning → Type 0
IsAlone (meaning.Contained n v) = ⊥
IsAlone m = Unit {0}

contained_added : (vs : List Variable) (x : List ℕ) (m : LayoutMeaning) (ns : Names) → IsAlone m → ContainedIn vs ns → ContainedIn vs ((x, m) ∷ ns)
contained_added vs x m ns o u y n v e = go (found_cases (x, m) ns y (meaning.Contained n v) e)
  where
    go : ((bytes_eq x y ≡ true) × (m ≡ meaning.Contained n v)) ⊎ (find y ns ≡ Some (meaning.Contained n v)) → is_variable y vs ≡ true
    go (inl w) = absurd (subst IsAlone w.1 o)
    go (inr f) = u y n v f

variable_more : (x : Name) (vs us : List Variable) → is_variable x vs ≡ true → is_variable x (vs ++ us) ≡ true
variable_more x [] us h = absurd (let w : false ≡ true = h in cc)
variable_more x (v ∷ vs) us h = go (same_name x v.name) (variable_more x vs us) h
  where
    go : (b : Bool) → (is_variable x vs ≡ true → is_variable x (vs ++ us) ≡ true) → (b || is_variable x vs) ≡ true → (b || is_variable x (vs ++ us)) ≡ true
    go true rest e = refl
    go false rest e = rest e

variable_last : (x : Name) (vs : List Variable) (v : Variable) → same_name x v.name ≡ true → is_variable x (vs ++ v ∷ []) ≡ true
variable_last x [] v h = left_true (same_name x v.name) false h
variable_last x (u ∷ vs) v h = either_true (same_name x u.name) (is_variable x (vs ++ v ∷ [])) (variable_last x vs v h)

contained_variable : (vs : List Variable) (w : Variable) (m : LayoutMeaning) (ns : Names) → ContainedIn vs ns → ContainedIn (vs ++ w ∷ []) ((w.name, m) ∷ ns)
contained_variable vs w m ns u y n v e = go (found_cases (w.name, m) ns y (meaning.Contained n v) e)
  where
    go : ((bytes_eq w.name y ≡ true) × (m ≡ meaning.Contained n v)) ⊎ (find y ns ≡ Some (meaning.Contained n v)) → is_variable y (vs ++ w ∷ []) ≡ true
    go (inl f) = variable_last y vs w (same_turned w.name y f.0)
    go (inr f) = variable_more y vs (w ∷ []) (u y n v f)

one_contained : (vs : List Variable) (w : Variable) (l : Layer) (v : CellType) (o : Option Contained) → ContainedIn vs l.names → ContainedIn (vs ++ w ∷ []) (variable_with l w.name v o).names
one_contained vs w l v None u = contained_variable vs w (meaning.Variable (origin.Permanent l.owned.cells) v) l.names u
one_contained vs w l v (Some c) u = contained_variable vs w (meaning.Contained l.owned.count v) l.names u

variables_of_contained : (vs : List Variable) (l : Layer) (t : Ty) (v : CellType) (is : List Identifier) → ContainedIn vs l.names → ContainedIn (vs ++ named_variables (names_of is) t) (variables_of l v is).names
unfolding variables_of
variables_of_contained vs l t v [] u = subst (λ ws. ContainedIn ws l.names) (sym (append-nil vs)) u
variables_of_contained vs l t v (i ∷ is) u =
    let w : Variable = record { name = i.name; ty = t } in
    let m : Layer = variable l i.name v in
    let z : ContainedIn ((vs ++ w ∷ []) ++ named_variables (names_of is) t) (variables_of m v is).names = variables_of_contained (vs ++ w ∷ []) m t v is (one_contained vs w l v (components_of l.types v) u) in
    subst (λ ws. ContainedIn ws (variables_of m v is).names) (append_assoc vs (w ∷ []) (named_variables (names_of is) t)) z

variables_contained : (b : Block) (l : Layer) (gs : List syntax.VariableGroup) → ContainedIn b.variables l.names → ContainedIn (variables_in permanent_variable b gs).variables (variables l gs).names
unfolding variables
variables_contained b l [] u = u
variables_contained b l (g ∷ gs) u =
    let x : CellType × Layer = written_type l g.variable_type in
    let t : Ty = (type_in b.scope g.variable_type).0 in
    let a : ContainedIn b.variables x.1.names = kept.type_keep (ContainedIn b.variables) IsAlone (contained_added b.variables) (λ b z. tt) (λ v. tt) l g.variable_type u in
    variables_contained (record { variables = b.variables ++ named_variables (names_of g.names) t; scope = with_names (names_of g.names) (permanent_variable t) (type_in b.scope g.variable_type).1 }) (variable_group l g) gs (variables_of_contained b.variables x.1 t x.0 g.names a)

part_contained : (b : Block) (l : Layer) (p : syntax.Part) → ContainedIn b.variables l.names → ContainedIn (part_in permanent_variable b p).variables (permanent_part l p).names
part_contained b l (syntax.constants at ds) u = kept.constants_keep (ContainedIn b.variables) IsAlone (contained_added b.variables) (λ b z. tt) (λ v. tt) l ds u
part_contained b l (syntax.types at ds) u = kept.definitions_keep (ContainedIn b.variables) IsAlone (contained_added b.variables) (λ b z. tt) (λ v. tt) l ds u
part_contained b l (syntax.variables at gs) u = variables_contained b l gs u

parts_contained : (b : Block) (l : Layer) (ps : List syntax.Part) → ContainedIn b.variables l.names → ContainedIn (parts_in permanent_variable b ps).variables (permanent_parts l ps).names
unfolding permanent_parts
parts_contained b l [] u = u
parts_contained b l (p ∷ ps) u = parts_contained (part_in permanent_variable b p) (permanent_part l p) ps (part_contained b l p u)

-- no parameter is a component that is contained
parameter_contained : (l : Layer) (ps : Parameters) (x : List ℕ) (v : CellType) → ContainedIn [] l.names → ContainedIn [] (system_parameter l ps x v).1.names
parameter_contained l ps x (types.System k) u = contained_added [] x (meaning.Bound l.owned.cells k) l.names tt u
parameter_contained l ps x (types.Ordinal r) u = contained_added [] x (meaning.Variable (origin.Permanent l.owned.cells) (types.Ordinal r)) l.names tt u
parameter_contained l ps x types.Queue u = contained_added [] x (meaning.Variable (origin.Permanent l.owned.cells) types.Queue) l.names tt u
parameter_contained l ps x (types.Set r) u = contained_added [] x (meaning.Variable (origin.Permanent l.owned.cells) (types.Set r)) l.names tt u
parameter_contained l ps x (types.Array n) u = contained_added [] x (meaning.Variable (origin.Permanent l.owned.cells) (types.Array n)) l.names tt u
parameter_contained l ps x (types.Record n) u = contained_added [] x (meaning.Variable (origin.Permanent l.owned.cells) (types.Record n)) l.names tt u

parameters_contained : (l : Layer) (ps : Parameters) (v : CellType) (is : List Identifier) → ContainedIn [] l.names → ContainedIn [] (system_parameters_of l ps v is).1.names
unfolding system_parameters_of
parameters_contained l ps v [] u = u
parameters_contained l ps v (i ∷ is) u = parameters_contained (system_parameter l ps i.name v).1 (system_parameter l ps i.name v).0 v is (parameter_contained l ps i.name v u)

groups_contained : (l : Layer) (ps : Parameters) (gs : List syntax.Group) → ContainedIn [] l.names → ContainedIn [] (system_groups l ps gs).1.names
unfolding system_groups
groups_contained l ps [] u = u
groups_contained l ps (g ∷ gs) u = groups_contained (system_group l ps g).1 (system_group l ps g).0 gs (parameters_contained l ps (type_of_name l g.type_name.name) g.names u)

other_name : (x : Name) (qs : List Parameter) (vs : List Variable) → AreOthers qs vs → is_variable x vs ≡ true → is_parameter x qs ≡ false
other_name x qs [] h e = absurd (let w : false ≡ true = e in cc)
other_name x qs (v ∷ vs) h e = go (same_name x v.name) refl (other_name x qs vs h.1) e
  where
    go : (b : Bool) → same_name x v.name ≡ b → (is_variable x vs ≡ true → is_parameter x qs ≡ false) → (b || is_variable x vs) ≡ true → is_parameter x qs ≡ false
    go true w rest f = subst (λ y. is_parameter y qs ≡ false) (sym ((bytes_eq-Decides x v.name).0 w)) h.0
    go false w rest f = rest f

abbrev pub FirstsApart : List Parameter → Names → Type 0
FirstsApart qs ns = (x : List ℕ) (n : ℕ) (v : CellType) → find x ns ≡ Some (meaning.Contained n v) → is_parameter x qs ≡ false

pub parts_first : (qs : List Parameter) (b : Block) (l : Layer) (d : syntax.System) → b.variables ≡ [] → AreOthers qs (parts_in permanent_variable b d.parts).variables → FirstsApart qs (parts_begun l d).names
parts_first qs b l d none h x n v e =
    let a : ContainedIn [] (enter_system l).1.names = λ x n k e. absurd (let w : false ≡ true = open_found x (meaning.Contained n k) l.names e in cc) in
    let y : Layer = (system_groups (enter_system l).1 [] d.parameters).1 in
    let c : ContainedIn b.variables y.names = subst (λ vs. ContainedIn vs y.names) (sym none) (groups_contained (enter_system l).1 [] d.parameters a) in
    other_name x qs (parts_in permanent_variable b d.parts).variables h (parts_contained b y d.parts c x n v e)
