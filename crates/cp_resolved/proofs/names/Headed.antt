-- Where the statements of each routine begin, its heading has its parameters, and the routines that are visible belong to its system type.
use Rattle.std.proofs.Common.{◌≡◌, ◌+◌, ℕ, suc, Bool, true, false, if◌then◌else◌, List, [], ◌∷◌, ◌++◌, length, Option, Some, None, slice_get, refl, sym, ap, subst, ◌∙◌, arith}
use Rattle.cp_resolved.proofs.Words.{bytes_eq, none-some, same_Some, Identifier, CellType, LayoutMeaning, type_of_name, Name, Scope, routine_in, system_of}
use Rattle.cp_resolved.proofs.Words.{routine_begun, routines_begun, parts_begun, IsDistinctRoutine, AreValues, each_in, in_routine, ParametersAre, Numbering}
use Rattle.cp_resolved.proofs.Words.{InStep, Opening, with_routine, routine_openings, AreOpened, Each, IsSmallRoutine, AreNumbered}
use Rattle.cp_tree.specs.Syntax as syntax
use Rattle.cp_symbols.specs.declared.kinds.CellType.TheVariants as types
use Rattle.cp_symbols.specs.declared.names.LayoutMeaning.TheVariants as meaning
use Rattle.cp_layout.specs.Layers as layers
use Rattle.cp_layout.specs.Layers.{Names, Layer, Heading, System, is_open, seen_inside, outermost, nothing_laid}
use Rattle.cp_layout.specs.LaidDeclarations.{Parameters, heading, with_heading, open_routine, routine, routines, enter_system, system_parameter, system_parameters_of, system_group, system_groups, program_parts}
use Rattle.cp_resolved.proofs.names.Entries.{last_entry}
use Rattle.cp_resolved.proofs.names.EntriesKnown.{heading_of, begun_headings}
use Rattle.cp_resolved.proofs.laid.Extends.{routine_names}
use Rattle.cp_resolved.proofs.names.HeadingsFound.{AreFound, begun_found}
use Rattle.cp_resolved.proofs.names.KeptNames as kept
use Rattle.cp_resolved.proofs.names.Knowing.{routine_even}
use Rattle.cp_resolved.proofs.names.StepsOfParts.{Reached}
use Rattle.cp_resolved.proofs.names.StepsOfRoutines.{routine_count, routine_reached, begun_routines}
use Rattle.cp_resolved.proofs.names.StepsOfTypes.{numbered_left, numbered_after}
use Rattle.cp_resolved.proofs.names.SystemsFound.{slots_in}

-- ---- openings by their numbers

-- these are the openings from a number on
abbrev pub AreAt : List Opening → ℕ → List Opening → Type 0
AreAt os n [] = Unit {0}
AreAt os n (q ∷ qs) = (slice_get os n ≡ Some q) × AreAt os (suc n) qs

pub at_left : (os : List Opening) (n : ℕ) (xs ys : List Opening) → AreAt os n (xs ++ ys) → AreAt os n xs
at_left os n [] ys h = tt
at_left os n (x ∷ xs) ys h = (h.0, at_left os (suc n) xs ys h.1)

pub at_right : (os : List Opening) (n : ℕ) (xs ys : List Opening) → AreAt os n (xs ++ ys) → AreAt os (n + length xs) ys
at_right os n [] ys h =
    let e : n ≡ n + 0 = omega arith in
    subst (λ m. AreAt os m ys) e h
at_right os n (x ∷ xs) ys h =
    let e : suc n + length xs ≡ n + suc (length xs) = omega arith in
    subst (λ m. AreAt os m ys) e (at_right os (suc n) xs ys h.1)

pub at_after : (os : List Opening) (l j : Layer) (xs ys : List Opening) → length j.routines ≡ length l.routines + length xs → AreAt os (length l.routines) (xs ++ ys) → AreAt os (length j.routines) ys
at_after os l j xs ys h o = subst (λ n. AreAt os n ys) (sym h) (at_right os (length l.routines) xs ys o)

abbrev pub IsRoutine : Option Name → Type 0
IsRoutine None = ⊥
IsRoutine (Some x) = Unit {0}

abbrev IsNoRoutine : LayoutMeaning → Type 0
IsNoRoutine (meaning.Routine n) = ⊥
IsNoRoutine m = Unit {0}

module _ (k : Numbering) (p : syntax.Program) (os : List Opening) (all : List Layer) (values : (n : ℕ) → AreValues (k.routines n).parameters) where
  -- a routine of a system type
  pub record OwnedBy (w i : ℕ) : Type 0 where
    pub opening : Opening
    pub there : slice_get os i ≡ Some opening
    pub owner : opening.owner ≡ w
    pub routine : IsRoutine opening.name

  abbrev pub IsOwned : ℕ → LayoutMeaning → Type 0
  IsOwned w (meaning.Routine i) = OwnedBy w i
  IsOwned w m = Unit {0}

  -- all routines that are visible
  abbrev pub AreOwned : ℕ → Names → Type 0
  AreOwned w ns = Each (λ d. IsOwned w d.1) ns

  -- the parameters of a routine, and those of a system type at its initial statement
  abbrev pub OwnParameters : Option Name → Layer → Opening → Heading → Type 0
  OwnParameters (Some x) l o h = AreFound k l.types l.names o.meaning.parameters h.parameters
  OwnParameters None l o h = (q : Layer) × (slice_get all o.owner ≡ Some q) × ParametersAre k l.types (slots_in q.names) (system_of p o.owner).parameters h.parameters

  pub record Headed (l : Layer) (o : Opening) : Type 0 where
    pub own : Heading
    pub there : slice_get l.headings (length l.routines) ≡ Some own
    pub fits : OwnParameters o.name l o own
    pub names : AreOwned o.owner l.names

  abbrev pub AreHeaded : ℕ → List Layer → List Opening → Type 0
  AreHeaded n [] [] = Unit {0}
  AreHeaded n (l ∷ ls) (o ∷ qs) = (length l.routines ≡ n) × Headed l o × AreHeaded (suc n) ls qs
  AreHeaded n [] (o ∷ qs) = ⊥
  AreHeaded n (l ∷ ls) [] = ⊥

  pub headed_both : (n : ℕ) (ls ms : List Layer) (xs ys : List Opening) → AreHeaded n ls xs → AreHeaded (n + length xs) ms ys → AreHeaded n (ls ++ ms) (xs ++ ys)
  headed_both n [] ms [] ys h g =
      let e : n + 0 ≡ n = omega arith in
      subst (λ m. AreHeaded m ms ys) e g
  headed_both n (l ∷ ls) ms (x ∷ xs) ys h g =
      let e : n + suc (length xs) ≡ suc n + length xs = omega arith in
      (h.0, h.1, headed_both (suc n) ls ms xs ys h.2 (subst (λ m. AreHeaded m ms ys) e g))
  headed_both n _ ms _ ys h g = absurd h

  -- ---- names

  plain_owned : (w : ℕ) (m : LayoutMeaning) → IsNoRoutine m → IsOwned w m
  plain_owned w (meaning.Routine i) h = absurd h
  plain_owned w m h = tt

  owned_added : (w : ℕ) (x : List ℕ) (m : LayoutMeaning) (ns : Names) → IsNoRoutine m → AreOwned w ns → AreOwned w ((x, m) ∷ ns)
  owned_added w x m ns h g = (plain_owned w m h, g)

  begun_owned : (w : ℕ) (l : Layer) (r : syntax.Routine) → AreOwned w (open_routine l r.name.name).1.names → AreOwned w (routine_begun l r).names
  begun_owned w l r h =
      let x : Layer = (open_routine l r.name.name).1 in
      let y = heading x r.name.name r.kind in
      kept.local_parts_keep (AreOwned w) IsNoRoutine (owned_added w) (λ b z. tt) (λ v. tt) (λ o v i. tt) (with_heading y.1 y.0) r.parts
      (kept.heading_keep (AreOwned w) IsNoRoutine (owned_added w) (λ b z. tt) (λ v. tt) (λ o v i. tt) x r.name.name r.kind h)

  open_owned : (w : ℕ) (m : LayoutMeaning) → is_open m ≡ true → IsOwned w m
  open_owned w (meaning.Routine i) h = absurd (let bad : false ≡ true = h in cc)
  open_owned w m h = tt

  -- a system type sees no routine around it
  inside_owned : (w : ℕ) (ns : Names) → AreOwned w (seen_inside ns)
  inside_owned w [] = tt
  inside_owned w (d ∷ ds) = go (is_open d.1) refl (inside_owned w ds)
    where
      go : (b : Bool) → is_open d.1 ≡ b → AreOwned w (seen_inside ds) → AreOwned w (if b then d ∷ seen_inside ds else seen_inside ds)
      go true e rest = (open_owned w d.1 e, rest)
      go false e rest = rest

  parameter_owned : (w : ℕ) (l : Layer) (ps : Parameters) (x : List ℕ) (v : CellType) → AreOwned w l.names → AreOwned w (system_parameter l ps x v).1.names
  parameter_owned w l ps x (types.System n) h = (tt, h)
  parameter_owned w l ps x _ h = (tt, h)

  parameters_owned : (w : ℕ) (l : Layer) (ps : Parameters) (v : CellType) (is : List Identifier) → AreOwned w l.names → AreOwned w (system_parameters_of l ps v is).1.names
  unfolding system_parameters_of
  parameters_owned w l ps v [] h = h
  parameters_owned w l ps v (i ∷ is) h = parameters_owned w (system_parameter l ps i.name v).1 (system_parameter l ps i.name v).0 v is (parameter_owned w l ps i.name v h)

  groups_owned : (w : ℕ) (l : Layer) (ps : Parameters) (gs : List syntax.Group) → AreOwned w l.names → AreOwned w (system_groups l ps gs).1.names
  unfolding system_groups
  groups_owned w l ps [] h = h
  groups_owned w l ps (g ∷ gs) h = groups_owned w (system_group l ps g).1 (system_group l ps g).0 gs (parameters_owned w l ps (type_of_name l g.type_name.name) g.names h)

  pub parts_owned : (w : ℕ) (l : Layer) (s : syntax.System) → AreOwned w (parts_begun l s).names
  parts_owned w l s =
      kept.permanent_parts_keep (AreOwned w) IsNoRoutine (owned_added w) (λ b z. tt) (λ v. tt) (λ n v. tt) (λ n v. tt) (system_groups (enter_system l).1 [] s.parameters).1 s.parts (groups_owned w (enter_system l).1 [] s.parameters (inside_owned w l.names))

  -- nor is there one among the declarations of the program
  outer_owned : (w : ℕ) (ns : Names) → Each (λ d. IsNoRoutine d.1) ns → AreOwned w ns
  outer_owned w [] h = tt
  outer_owned w (d ∷ ds) h = (plain_owned w d.1 h.0, outer_owned w ds h.1)

  pub program_owned : (w : ℕ) (lines : List ℕ) (ps : List syntax.ProgramPart) → AreOwned w (program_parts (nothing_laid lines) ps).names
  program_owned w lines ps =
      kept.program_parts_keep (AreOwned w) IsNoRoutine (owned_added w) (λ b z. tt) (λ v. tt) (λ n v. tt) (λ n v. tt) (nothing_laid lines) ps
      (outer_owned w outermost (tt, (tt, (tt, (tt, (tt, (tt, (tt, (tt, (tt, (tt, (tt, (tt, (tt, (tt, (tt, tt))))))))))))))))

  pub found_owned : (w : ℕ) (x : Name) (i : ℕ) (ns : Names) → AreOwned w ns → layers.find x ns ≡ Some (meaning.Routine i) → OwnedBy w i
  found_owned w x i [] h e = absurd (none-some _ e)
  found_owned w x i (d ∷ ds) h e = go (bytes_eq d.0 x) (found_owned w x i ds h.1) e
    where
      go : (b : Bool) → (layers.find x ds ≡ Some (meaning.Routine i) → OwnedBy w i) → (if b then Some d.1 else layers.find x ds) ≡ Some (meaning.Routine i) → OwnedBy w i
      go true rest f = subst (IsOwned w) (same_Some d.1 (meaning.Routine i) f) h.0
      go false rest f = rest f

  -- ---- routines

  pub record RoutinesHeaded (l : Layer) (s : Scope) (owner : ℕ) (rs : List syntax.Routine) : Type 0 where
    pub headed : AreHeaded (length l.routines) (routines_begun l rs) (routine_openings owner s rs)
    pub names : AreOwned owner (routines l rs).names

  routine_headed : (l : Layer) (s : Scope) (owner : ℕ) (r : syntax.Routine) → IsDistinctRoutine r → k.routines (length l.routines) ≡ routine_in (with_routine s r) r → InStep k l.types l.names s → length l.headings ≡ length l.routines → AreOwned owner (open_routine l r.name.name).1.names →
      Headed (routine_begun l r) (record { meaning = routine_in (with_routine s r) r; owner = owner; name = Some r.name.name })
  routine_headed l s owner r distinct o i c h =
      let b : Layer = routine_begun l r in
      let many : length b.routines ≡ length l.headings = ap (λ rs. length rs) (begun_routines l r) ∙ sym c in
      record {
        own = heading_of l r;
        there = ap (λ n. slice_get b.headings n) many ∙ ap (λ hs. slice_get hs (length l.headings)) (begun_headings l r) ∙ last_entry l.headings (heading_of l r);
        fits = begun_found k l s r (refl, (length l.routines, refl, o), i) (subst (λ m. AreValues m.parameters) o (values (length l.routines))) distinct;
        names = begun_owned owner l r h;
      }

  pub routines_headed : (l : Layer) (s : Scope) (owner : ℕ) (rs : List syntax.Routine) → Each IsSmallRoutine rs → Each IsDistinctRoutine rs → AreNumbered k.firsts (length l.constants) (each_in in_routine rs) → AreOpened k.routines (length l.routines) (routine_openings owner s rs) → AreAt os (length l.routines) (routine_openings owner s rs) →
      InStep k l.types l.names s → length l.headings ≡ length l.routines → AreOwned owner l.names → RoutinesHeaded l s owner rs
  unfolding routines
  routines_headed l s owner [] small distinct n o at i c h = record { headed = tt; names = h }
  routines_headed l s owner (r ∷ rs) small distinct n o at i c h =
      let m : Layer = routine l r in
      let a : Reached k l m (with_routine s r) (in_routine r) = routine_reached k l s r small.0 (numbered_left k (length l.constants) (in_routine r) (each_in in_routine rs) n) o.0 i in
      let rest : List Opening = routine_openings owner (with_routine s r) rs in
      let named : AreOwned owner (open_routine l r.name.name).1.names = (record { opening = record { meaning = routine_in (with_routine s r) r; owner = owner; name = Some r.name.name }; there = at.0; owner = refl; routine = tt }, h) in
      let after : RoutinesHeaded m (with_routine s r) owner rs =
      routines_headed m (with_routine s r) owner rs small.1 distinct.1 (numbered_after k l.constants m.constants (in_routine r) (each_in in_routine rs) a.constants n) (subst (λ j. AreOpened k.routines j rest) (sym (routine_count l r)) o.1) (subst (λ j. AreAt os j rest) (sym (routine_count l r)) at.1) a.names (routine_even k p l r c)
      (subst (AreOwned owner) (sym (routine_names l r)) named) in
      record {
        headed = (ap (λ rs. length rs) (begun_routines l r), routine_headed l s owner r distinct.0 o.0 i c named, subst (λ j. AreHeaded j (routines_begun m rs) rest) (routine_count l r) after.headed);
        names = after.names;
      }
