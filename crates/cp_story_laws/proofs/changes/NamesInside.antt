-- What a story calls a variable inside a monitor, by the texts of two paths, is what the source calls it, by the steps from one to the other.
use Rattle.std.proofs.Common.{◌≡◌, ◌∙◌, ℕ, suc, ◌<◌, ◌==◌, Bool, true, false, if◌then◌else◌, List, [], ◌∷◌, ◌++◌, length, take, drop, ap, ap₂, refl, sym, arith, append_assoc, append-nil, length-append}
use Rattle.std.proofs.lemmas.Bool.Decides.{Decides-eqb}
use Rattle.std.proofs.lemmas.Bool.{ne_eqb}
use Rattle.std.proofs.Math.Seq.{drop-append_seam, take-append_seam}
use Rattle.std.specs.Cmp.Lexicographic.{pointwise_decides}
use Rattle.std.specs.List.{starts_with}
use Rattle.std.specs.Prelude.{codes}
use Rattle.cp_tree.specs.Syntax.{Program}
use Rattle.cp_meaning.specs.Components.{Path, PathStep}
use Rattle.cp_meaning.specs.Systems.{program_system}
use Rattle.cp_legend.specs.Names.{called, inside}
use Rattle.cp_legend_laws.specs.Paths.{element_text, path_text, step_text, system_below, text_below, type_in_system}
use Rattle.cp_legend_laws.proofs.NamedPaths.{along, reached, text_of}
use Rattle.cp_resolved.specs.Small.{Each}
use Rattle.cp_story.specs.Changes.{behind, name_in}

-- ---- texts

-- what follows a text is behind it
behind_it : (xs ys : List ℕ) → behind xs (xs ++ ys) ≡ ys
behind_it xs ys =
    let begins : starts_with ◌==◌ (xs ++ ys) xs ≡ true = (pointwise_decides Decides-eqb xs (take (length xs) (xs ++ ys))).1 (sym (take-append_seam xs ys)) in
    ap (λ (b : Bool). if b then drop (length xs) (xs ++ ys) else []) begins ∙ drop-append_seam xs ys

inside_some : (xs ys : List ℕ) → 0 < length xs → inside xs ys ≡ xs ++ codes "." ++ ys
inside_some [] ys h = absurd (omega (arith, h))
inside_some (x ∷ xs) ys h = (let some : (suc (length xs) == 0) ≡ false = ne_eqb (suc (length xs)) 0 (λ e. omega (arith, e)) in ap (λ (b : Bool). if b then ys else (x ∷ xs) ++ codes "." ++ ys) some)

called_some : (xs : List ℕ) → 0 < length xs → called xs ≡ xs
called_some [] h = absurd (omega (arith, h))
called_some (x ∷ xs) h = (let some : (suc (length xs) == 0) ≡ false = ne_eqb (suc (length xs)) 0 (λ e. omega (arith, e)) in ap (λ (b : Bool). if b then codes "program" else x ∷ xs) some)

some_left : (xs ys : List ℕ) → 0 < length xs → 0 < length (xs ++ ys)
some_left xs ys h = let a = length-append xs ys in omega (arith, a, h)

-- a name has letters
abbrev pub IsSome : PathStep → Type 0
IsSome s = 0 < length s.name

module _ (p : Program) where
  step_some : (k : ℕ) (s : PathStep) → IsSome s → 0 < length (step_text p k s)
  step_some k s h = some_left s.name (element_text (type_in_system p k s.name) s.element) h

  below_after : (k : ℕ) (above : List ℕ) (path more : Path) → text_below p k above (path ++ more) ≡ text_below p (along p k path) (text_below p k above path) more
  below_after k above [] more = refl
  below_after k above (s ∷ path) more = below_after (system_below (type_in_system p k s.name)) (inside above (step_text p k s)) path more

  -- each step after a dot
  abbrev dotted : ℕ → Path → List ℕ
  dotted k [] = []
  dotted k (s ∷ path) = codes "." ++ step_text p k s ++ dotted (system_below (type_in_system p k s.name)) path

  below_some : (k : ℕ) (above : List ℕ) (path : Path) → 0 < length above → text_below p k above path ≡ above ++ dotted k path
  below_some k above [] h = sym (append-nil above)
  below_some k above (s ∷ path) h =
      let j : ℕ = system_below (type_in_system p k s.name) in
      let more : List ℕ = above ++ codes "." ++ step_text p k s in
      ap (λ (xs : List ℕ). text_below p j xs path) (inside_some above (step_text p k s) h)
      ∙ below_some j more path (some_left (above ++ codes ".") (step_text p k s) (some_left above (codes ".") h))
      ∙ ap (λ (xs : List ℕ). xs ++ dotted j path) (append_assoc above (codes ".") (step_text p k s)) ∙ append_assoc above (codes "." ++ step_text p k s) (dotted j path)

  below_first : (k : ℕ) (s : PathStep) (path : Path) → IsSome s → text_below p k [] (s ∷ path) ≡ step_text p k s ++ dotted (system_below (type_in_system p k s.name)) path
  below_first k s path h = below_some (system_below (type_in_system p k s.name)) (step_text p k s) path (step_some k s h)

  -- behind the dot
  undotted : (k : ℕ) (path : Path) → Each IsSome path → behind (codes ".") (dotted k path) ≡ text_below p k [] path
  undotted k [] h = refl
  undotted k (s ∷ path) h = behind_it (codes ".") (step_text p k s ++ dotted (system_below (type_in_system p k s.name)) path) ∙ sym (below_first k s path h.0)

  text_some : (s : PathStep) (path : Path) → IsSome s → 0 < length (text_of p (s ∷ path))
  text_some s path h =
      let a = step_some (program_system p) s h in
      let b = length-append (step_text p (program_system p) s) (dotted (system_below (type_in_system p (program_system p) s.name)) path) in
      let c = ap (λ (xs : List ℕ). length xs) (below_first (program_system p) s path h) in
      omega (arith, a, b, c)

  -- from a component that is not the program
  pub name_between : (s : PathStep) (path more : Path) (x : List ℕ) → IsSome s → Each IsSome more → name_in (path_text p (s ∷ path)) (path_text p ((s ∷ path) ++ more)) x ≡ inside (text_below p (reached p (s ∷ path)) [] more) x
  name_between s path more x h each =
      let text : List ℕ = text_of p (s ∷ path) in
      let some : 0 < length text = text_some s path h in
      let first : path_text p (s ∷ path) ≡ text = called_some text some in
      let whole : path_text p ((s ∷ path) ++ more) ≡ text ++ dotted (reached p (s ∷ path)) more =
      ap called (below_after (program_system p) [] (s ∷ path) more ∙ below_some (reached p (s ∷ path)) text more some)
      ∙ called_some (text ++ dotted (reached p (s ∷ path)) more) (some_left text (dotted (reached p (s ∷ path)) more) some) in
      ap₂ (λ (a b : List ℕ). inside (behind (codes ".") (behind a b)) x) first whole
      ∙ ap (λ (b : List ℕ). inside (behind (codes ".") b) x) (behind_it text (dotted (reached p (s ∷ path)) more))
      ∙ ap (λ (b : List ℕ). inside b x) (undotted (reached p (s ∷ path)) more each)
