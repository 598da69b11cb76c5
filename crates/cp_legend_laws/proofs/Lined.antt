-- The components that a system type contains are those of the names that it declares, in their order.
use Rattle.std.proofs.Common.{◌≡◌, ℕ, ◌+◌, ◌<◌, ◌≤◌, Bool, true, false, if◌then◌else◌, List, [], ◌∷◌, ◌++◌, length, Option, Some, None, slice_get, ◌==◌, refl, sym, ap, subst, ◌∙◌, ◌⊎◌, inl, inr, append_assoc, append-nil, arith, length-append}
use Rattle.cp_legend_laws.proofs.Words.{eq-eqb, eqb-true, slice_get_within, Contained, Compounds, Noted, Layer, System, own_system, nothing_laid, Each, last_or_before}
use Rattle.cp_tree.specs.Syntax as syntax
use Rattle.cp_layout.specs.LaidDeclarations.{Parameters, with_type_name, initial_statement, enter_system, system_groups, system_inside, system_of, system, definition, system_definition, system_definitions, program_part, program_parts, program, routines}
use Rattle.cp_legend_laws.proofs.Noting.{all_contents, contents_append, Noting, noting_trans, noting_name}
use Rattle.cp_legend_laws.proofs.NotingDeclarations.{type_notes, constants_note, variables_note}
use Rattle.cp_legend_laws.proofs.NotingRoutines.{initial_notes, routines_note, inside_notes}

-- ---- the names that a system type declares

abbrev pub same_home : Option ℕ → Option ℕ → Bool
same_home None None = true
same_home (Some m) (Some n) = m == n
same_home o q = false

abbrev pub of_home : Option ℕ → List Noted → List Noted
of_home o [] = []
of_home o (d ∷ ds) = if same_home d.system o then d ∷ of_home o ds else of_home o ds

-- a system type that is declared already, or the program
abbrev pub IsBelow : ℕ → Option ℕ → Type 0
IsBelow n None = Unit {0}
IsBelow n (Some m) = m < n

abbrev pub AreBelow : ℕ → List Noted → Type 0
AreBelow n ds = Each (λ (d : Noted). IsBelow n d.system) ds

either : (b : Bool) (d : Noted) (ds es : List Noted) → (if b then d ∷ (ds ++ es) else ds ++ es) ≡ (if b then d ∷ ds else ds) ++ es
either true d ds es = refl
either false d ds es = refl

pub home_append : (o : Option ℕ) (ds es : List Noted) → of_home o (ds ++ es) ≡ of_home o ds ++ of_home o es
home_append o [] es = refl
home_append o (d ∷ ds) es = ap (λ xs. if same_home d.system o then d ∷ xs else xs) (home_append o ds es) ∙ either (same_home d.system o) d (of_home o ds) (of_home o es)

pub home_all : (o : Option ℕ) (ds : List Noted) → same_home o o ≡ true → Each (λ (d : Noted). d.system ≡ o) ds → of_home o ds ≡ ds
home_all o [] same h = refl
home_all o (d ∷ ds) same h = ap (λ b. if b then d ∷ of_home o ds else of_home o ds) (ap (λ q. same_home q o) h.0 ∙ same) ∙ ap (λ xs. d ∷ xs) (home_all o ds same h.1)

pub home_none : (o q : Option ℕ) (ds : List Noted) → same_home q o ≡ false → Each (λ (d : Noted). d.system ≡ q) ds → of_home o ds ≡ []
home_none o q [] other h = refl
home_none o q (d ∷ ds) other h = ap (λ b. if b then d ∷ of_home o ds else of_home o ds) (ap (λ p. same_home p o) h.0 ∙ other) ∙ home_none o q ds other h.1

other_home : (n : ℕ) (q : Option ℕ) → IsBelow n q → same_home q (Some n) ≡ false
other_home n None h = refl
other_home n (Some m) h = go (m == n) refl
  where
    go : (b : Bool) → (m == n) ≡ b → b ≡ false
    go false e = refl
    go true e = absurd (let same = eqb-true m n e in omega (arith, h, same))

pub later_home : (m n : ℕ) → n < m → same_home (Some m) (Some n) ≡ false
later_home m n h = go (m == n) refl
  where
    go : (b : Bool) → (m == n) ≡ b → b ≡ false
    go false e = refl
    go true e = absurd (let same = eqb-true m n e in omega (arith, h, same))

pub home_past : (n : ℕ) (ds : List Noted) → AreBelow n ds → of_home (Some n) ds ≡ []
home_past n [] h = refl
home_past n (d ∷ ds) h = ap (λ b. if b then d ∷ of_home (Some n) ds else of_home (Some n) ds) (other_home n d.system h.0) ∙ home_past n ds h.1

below_more : (m n : ℕ) (ds : List Noted) → m ≤ n → AreBelow m ds → AreBelow n ds
below_more m n [] le h = tt
below_more m n (d ∷ ds) le h = (go d.system h.0, below_more m n ds le h.1)
  where
    go : (q : Option ℕ) → IsBelow m q → IsBelow n q
    go None i = tt
    go (Some k) i = omega (arith, i, le)

below_both : (n : ℕ) (ds es : List Noted) → AreBelow n ds → AreBelow n es → AreBelow n (ds ++ es)
below_both n [] es h i = i
below_both n (d ∷ ds) es h i = (h.0, below_both n ds es h.1 i)

below_all : (n : ℕ) (o : Option ℕ) (ds : List Noted) → IsBelow n o → Each (λ (d : Noted). d.system ≡ o) ds → AreBelow n ds
below_all n o [] i h = tt
below_all n o (d ∷ ds) i h = (subst (IsBelow n) (sym h.0) i, below_all n o ds i h.1)

-- ---- what is laid out of the program so far

abbrev pub home_contents : Compounds → Option ℕ → List Noted → List Contained
home_contents ts o ds = all_contents ts (of_home o ds)

pub record Lined (l : Layer) : Type 0 where
  pub systems : (later : Compounds) (k : ℕ) (s : System) → slice_get l.systems k ≡ Some s → home_contents (l.types ++ later) (Some k) l.noted ≡ s.owned.contained
  pub own : (later : Compounds) → home_contents (l.types ++ later) None l.noted ≡ l.owned.contained
  pub below : AreBelow (length l.systems) l.noted
  pub outside : l.is_inside ≡ false

more_home : (ts : Compounds) (o : Option ℕ) (before names all : List Noted) → all ≡ before ++ names → home_contents ts o all ≡ home_contents ts o before ++ home_contents ts o names
more_home ts o before names all e = ap (home_contents ts o) e ∙ ap (all_contents ts) (home_append o before names) ∙ contents_append ts (of_home o before) (of_home o names)

pub types_later : (ts more us later : Compounds) → us ≡ ts ++ more → us ++ later ≡ ts ++ (more ++ later)
types_later ts more us later e = ap (λ vs. vs ++ later) e ∙ append_assoc ts more later

pub outer_own : (l : Layer) → l.is_inside ≡ false → own_system l ≡ None
outer_own l e = ap (λ b. if b then Some (length l.systems) else None) e

-- what the program declares
pub lined_noting : (l m : Layer) → Noting l m → Lined l → Lined m
lined_noting l m n h =
    let none : Each (λ (d : Noted). d.system ≡ None) n.names = subst (λ o. Each (λ (d : Noted). d.system ≡ o) n.names) (outer_own l h.outside) n.own in
    record {
      systems = λ later k s e. (
          let ts = types_later l.types n.types m.types later n.grown in
          more_home (m.types ++ later) (Some k) l.noted n.names m.noted n.noted
          ∙ ap (λ xs. home_contents (m.types ++ later) (Some k) l.noted ++ all_contents (m.types ++ later) xs) (home_none (Some k) None n.names refl none)
          ∙ append-nil (home_contents (m.types ++ later) (Some k) l.noted)
          ∙ ap (λ us. home_contents us (Some k) l.noted) ts
          ∙ h.systems (n.types ++ later) k s (ap (λ (ss : List System). slice_get ss k) (sym n.systems) ∙ e));
      own = λ later. (
          let ts = types_later l.types n.types m.types later n.grown in
          more_home (m.types ++ later) None l.noted n.names m.noted n.noted
          ∙ ap (λ xs. home_contents (m.types ++ later) None l.noted ++ all_contents (m.types ++ later) xs) (home_all None n.names refl none)
          ∙ ap (λ cs. cs ++ all_contents (m.types ++ later) n.names) (ap (λ us. home_contents us None l.noted) ts ∙ h.own (n.types ++ later))
          ∙ sym (n.contained later));
      below = subst (AreBelow (length m.systems)) (sym n.noted) (subst (λ (ss : List System). AreBelow (length ss) (l.noted ++ n.names)) (sym n.systems) (below_both (length l.systems) l.noted n.names h.below (below_all (length l.systems) None n.names tt none)));
      outside = n.inside ∙ h.outside;
    }

-- a system type
pub lined_system : (l : Layer) (s : syntax.System) → Lined l → Lined (system l s).1
unfolding system
lined_system l s h =
    let e : Layer = (enter_system l).1 in
    let x : Parameters × Layer = system_groups e [] s.parameters in
    let b : Layer = system_inside x.1 s in
    let m : Layer = initial_statement b x.0 s.body in
    let n : Noting e m = inside_notes l s in
    let c : ℕ = length l.systems in
    let made : System = system_of s.kind m.owned (length l.routines) (length b.routines) in
    let mine : Each (λ (d : Noted). d.system ≡ Some c) n.names = n.own in
    let all : m.noted ≡ l.noted ++ n.names = n.noted in
    let grown : m.types ≡ l.types ++ n.types = n.grown in
    let same : m.systems ≡ l.systems = n.systems in
    record {
      systems = λ later k y there. earlier made m n.names n.types later k y mine all grown same (n.contained later) (last_or_before m.systems made k y there);
      own = λ later. (
          let ts = types_later l.types n.types m.types later grown in
          more_home (m.types ++ later) None l.noted n.names m.noted all
          ∙ ap (λ xs. home_contents (m.types ++ later) None l.noted ++ all_contents (m.types ++ later) xs) (home_none None (Some c) n.names refl mine)
          ∙ append-nil (home_contents (m.types ++ later) None l.noted)
          ∙ ap (λ us. home_contents us None l.noted) ts
          ∙ h.own (n.types ++ later));
      below = (
          let many : length (m.systems ++ made ∷ []) ≡ c + 1 = (let a = length-append m.systems (made ∷ []) in let z : length m.systems ≡ c = ap (λ (ss : List System). length ss) same in omega (arith, a, z)) in
          subst (λ j. AreBelow j m.noted) (sym many) (subst (AreBelow (c + 1)) (sym all) (below_both (c + 1) l.noted n.names (below_more c (c + 1) l.noted (omega arith) h.below) (below_all (c + 1) (Some c) n.names (omega arith) mine))));
      outside = refl;
    }
  where
    earlier : (made : System) (m : Layer) (names : List Noted) (more later : Compounds) (k : ℕ) (y : System) → Each (λ (d : Noted). d.system ≡ Some (length l.systems)) names → m.noted ≡ l.noted ++ names → m.types ≡ l.types ++ more → m.systems ≡ l.systems → made.owned.contained ≡ all_contents (m.types ++ later) names →
        (slice_get m.systems k ≡ Some y) ⊎ ((k ≡ length m.systems) × (y ≡ made)) → home_contents (m.types ++ later) (Some k) m.noted ≡ y.owned.contained
    earlier made m names more later k y mine all grown same own (inl there) =
        let old : slice_get l.systems k ≡ Some y = ap (λ (ss : List System). slice_get ss k) (sym same) ∙ there in
        let less : k < length l.systems = slice_get_within l.systems k y old in
        let other : same_home (Some (length l.systems)) (Some k) ≡ false = later_home (length l.systems) k less in
        more_home (m.types ++ later) (Some k) l.noted names m.noted all
        ∙ ap (λ xs. home_contents (m.types ++ later) (Some k) l.noted ++ all_contents (m.types ++ later) xs) (home_none (Some k) (Some (length l.systems)) names other mine)
        ∙ append-nil (home_contents (m.types ++ later) (Some k) l.noted)
        ∙ ap (λ us. home_contents us (Some k) l.noted) (types_later l.types more m.types later grown)
        ∙ h.systems (more ++ later) k y old
    earlier made m names more later k y mine all grown same own (inr last) =
        let at : k ≡ length l.systems = last.0 ∙ ap (λ (ss : List System). length ss) same in
        let own_names : of_home (Some k) names ≡ names = home_all (Some k) names (eq-eqb k k refl) (subst (λ j. Each (λ (d : Noted). d.system ≡ Some j) names) (sym at) mine) in
        let before : of_home (Some k) l.noted ≡ [] = ap (λ j. of_home (Some j) l.noted) at ∙ home_past (length l.systems) l.noted h.below in
        more_home (m.types ++ later) (Some k) l.noted names m.noted all
        ∙ ap (λ xs. all_contents (m.types ++ later) xs ++ home_contents (m.types ++ later) (Some k) names) before
        ∙ ap (all_contents (m.types ++ later)) own_names
        ∙ sym own
        ∙ ap (λ (z : System). z.owned.contained) (sym last.1)

-- ---- the whole program

pub type_name_notes : (l : Layer) (x : List ℕ) (d : syntax.Definition) → Lined (definition l d).1 → Lined (with_type_name x (definition l d))
type_name_notes l x d h =
    let m : Layer = (definition l d).1 in
    lined_noting m (with_type_name x (definition l d)) (noting_name m x _ m.owned m.frame (λ ts. refl) refl) h

pub lined_definition : (l : Layer) (d : syntax.Definition) → Lined l → Lined (definition l d).1
lined_definition l (syntax.type_definition t) h = lined_noting l (definition l (syntax.type_definition t)).1 (type_notes l t) h
lined_definition l (syntax.system_definition s) h = lined_system l s h

lined_definitions : (l : Layer) (ds : List syntax.SystemDefinition) → Lined l → Lined (system_definitions l ds)
unfolding system_definitions
lined_definitions l [] h = h
lined_definitions l (d ∷ ds) h = lined_definitions (system_definition l d) ds (type_name_notes l d.name.name d.value (lined_definition l d.value h))

pub lined_part : (l : Layer) (p : syntax.ProgramPart) → Lined l → Lined (program_part l p)
lined_part l (syntax.program_constants at ds) h = lined_noting l (program_part l (syntax.program_constants at ds)) (constants_note l ds) h
lined_part l (syntax.program_types at ds) h = lined_definitions l ds h
lined_part l (syntax.program_variables at gs) h = lined_noting l (program_part l (syntax.program_variables at gs)) (variables_note l gs) h

pub lined_parts : (l : Layer) (ps : List syntax.ProgramPart) → Lined l → Lined (program_parts l ps)
unfolding program_parts
lined_parts l [] h = h
lined_parts l (p ∷ ps) h = lined_parts (program_part l p) ps (lined_part l p h)

pub lined_program : (lines : List ℕ) (p : syntax.Program) → Lined (program (nothing_laid lines) p)
unfolding program
lined_program lines p =
    let l : Layer = nothing_laid lines in
    let a : Layer = program_parts l p.parts in
    let b : Layer = routines a p.routines in
    let start : Lined l = record { systems = λ later k s e. none k s e; own = λ later. refl; below = tt; outside = refl } in
    lined_noting a (initial_statement b [] p.body) (noting_trans a b (initial_statement b [] p.body) (routines_note a p.routines) (initial_notes b [] p.body)) (lined_parts l p.parts start)
  where
    none : (k : ℕ) (s : System) → slice_get [] k ≡ Some s → [] ≡ s.owned.contained
    none k s e = absurd (let lt = slice_get_within [] k s e in omega (arith, lt))
