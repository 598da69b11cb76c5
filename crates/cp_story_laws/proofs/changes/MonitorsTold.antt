-- A legend beside the tables of a tree has for each component the number of the monitor that the component is or inside which it is, by its path.
use Rattle.std.proofs.Common.{◌≡◌, ◌∙◌, ℕ, zero, suc, ◌+◌, ◌<◌, List, [], ◌∷◌, ◌++◌, length, map, Option, Some, None, ap, refl, sym, subst, arith, append_assoc, append-nil}
use Rattle.std.proofs.lemmas.List.{length-map}
use Rattle.std.proofs.lemmas.Option.{same_Some, slice_get-get_or, slice_get_within}
use Rattle.std.specs.Prelude.{option_map, slice_get}
use Rattle.cp_tree.specs.declared.declaration.SystemKind.{SystemKind}
use Rattle.cp_tree.specs.declared.declaration.SystemKind.TheVariants as system_kind
use Rattle.cp_tree.specs.Read.{IsRead}
use Rattle.cp_tree.specs.Syntax.{Tree}
use Rattle.cp_meaning_laws.specs.Accepted.{IsAccepted}
use Rattle.cp_layout.specs.Laid.{plain, laid, whole}
use Rattle.cp_layout.specs.Symbols.{AreSymbolsOf}
use Rattle.cp_symbols.specs.declared.symbols.Symbols as code_symbols
use Rattle.cp_slots.specs.declared.tables.ComponentKind.{ComponentKind}
use Rattle.cp_slots.specs.declared.tables.ComponentKind.TheVariants as kind
use Rattle.cp_slots.specs.Tables.{Tables, component_at, no_component}
use Rattle.cp_meaning.specs.Components.{Listed, Path, PathStep, around, components_of}
use Rattle.cp_meaning.specs.Places.{component_with}
use Rattle.cp_meaning.specs.State as named
use Rattle.cp_meaning.specs.State.{Component, Discipline}
use Rattle.cp_meaning.specs.Steps.{first_component, first_components}
use Rattle.cp_meaning.proofs.ComponentTree.{SameTree, found}
use Rattle.cp_meaning.proofs.LocalLaw.{within}
use Rattle.cp_legend.specs.declared.legend.Legend as code_legend
use Rattle.cp_legend.specs.Names.{IsLegendOf, Legend, Named, legend_seen, source_seen}
use Rattle.cp_legend.specs.Names as legend
use Rattle.cp_legend_laws.proofs.MonitorsAround.{AreTold, IsTold, legend_told}
use Rattle.cp_resolved.specs.Layouts.{Layouts}
use Rattle.cp_resolved.specs.Resolved.{KindIs, Stands}
use Rattle.cp_resolved.proofs.components.ComponentsOfTree.{program_kind}
use Rattle.cp_resolved.proofs.components.Contained.{found_by_path}
use Rattle.cp_resolved.proofs.declarations.Plain.{plain_law}
use Rattle.cp_machine_laws.specs.Law.{ground_of}
use Rattle.cp_meaning_laws.proofs.Accepting.{well_formed}
use Rattle.cp_story_laws.specs.Changes.{monitor_around, monitor_by}
use Rattle.cp_story_laws.specs.MonitorNumbers.{monitor_of}
use Rattle.cp_story_laws.proofs.Entered.{number_is}

-- ---- paths

around_length : (s : PathStep) (path : Path) → suc (length (around (s ∷ path))) ≡ suc (length path)
around_length s [] = refl
around_length s (u ∷ path) = ap suc (around_length u path)

-- the path around a component begins its own
around_begins : (path : Path) → (more : Path) × (path ≡ around path ++ more)
around_begins [] = ([], refl)
around_begins (s ∷ []) = (s ∷ [], refl)
around_begins (s ∷ u ∷ path) = let rest = around_begins (u ∷ path) in (rest.0, ap (λ (way : Path). s ∷ way) rest.1)

-- ---- the monitor around a path

-- it is a monitor, and its path begins that of what is inside
pub record IsAround (cs : List Component) (path : Path) (m : ℕ) : Type 0 where
  pub more : Path
  pub whole : path ≡ (named.component_at cs m).path ++ more
  pub monitor : (named.component_at cs m).kind ≡ system_kind.Monitor
  pub there : m < length cs

pub is_around : (cs : List Component) (depth : ℕ) (path : Path) (m : ℕ) → monitor_around cs depth path ≡ Some m → IsAround cs path m
is_around cs zero path m e = absurd (cc)
is_around cs (suc depth) path m e = go (named.component_at cs n).kind refl e (λ f. is_around cs depth (around path) m f)
  where
    n : ℕ
    n = component_with path cs

    go : (k : SystemKind) → (named.component_at cs n).kind ≡ k → monitor_by k n (monitor_around cs depth (around path)) ≡ Some m → (monitor_around cs depth (around path) ≡ Some m → IsAround cs (around path) m) → IsAround cs path m
    go system_kind.Monitor f h outer =
        let lt : n < length cs = within cs n (λ g. (let bad : system_kind.Monitor ≡ system_kind.Process = sym f ∙ g in cc)) in
        subst (IsAround cs path) (same_Some n m h) (record { more = []; whole = sym (append-nil (named.component_at cs n).path ∙ found path cs lt); monitor = f; there = lt })
    go system_kind.Class f h outer =
        let w = outer h in
        let rest = around_begins path in
        record { more = w.more ++ rest.0; whole = rest.1 ∙ ap (λ (way : Path). way ++ rest.0) w.whole ∙ append_assoc (named.component_at cs m).path w.more rest.0; monitor = w.monitor; there = w.there }
    go system_kind.Process f h outer = absurd (let bad : None ≡ Some m = h in cc)

-- it is the same where paths and kinds are
pub same_around : (cs ds : List Component) → SameTree cs ds → (depth : ℕ) (path : Path) → monitor_around ds depth path ≡ monitor_around cs depth path
same_around cs ds same zero path = refl
same_around cs ds same (suc depth) path =
    ap (λ (n : ℕ). monitor_by (named.component_at ds n).kind n (monitor_around ds depth (around path))) (same.find path)
    ∙ ap (λ (k : SystemKind). monitor_by k (component_with path cs) (monitor_around ds depth (around path))) (same.kind (component_with path cs))
    ∙ ap (λ (o : Option ℕ). monitor_by (named.component_at cs (component_with path cs)).kind (component_with path cs) o) (same_around cs ds same depth (around path))

-- ---- its number

told_of_each : (all : List _) (told : Path → Option ℕ) (qs : List Listed) (n : ℕ) → ((i : ℕ) (q : Listed) → slice_get qs i ≡ Some q → IsTold all told (n + i) q) → AreTold all told n qs
told_of_each all told [] n h = tt
told_of_each all told (q ∷ qs) n h =
    (subst (λ i. IsTold all told i q) (let z : n + 0 ≡ n = omega arith in z) (h 0 q refl), told_of_each all told qs (suc n) (λ i u e. subst (λ j. IsTold all told j u) (let z : n + suc i ≡ suc n + i = omega arith in z) (h (suc i) u e)))

module _ (t : Tree) (g : Discipline) where
  abbrev cs : List Component
  cs = first_components t.program

  -- the number of the monitor that the component of a path is or is inside
  abbrev pub number_told : Path → Option ℕ
  number_told path = option_map (monitor_of t.program g) (monitor_around cs (suc (length path)) path)

  module _ (r : Tables) (l : Layouts) (read : IsRead t.program) (ok : IsAccepted t) (stands : Stands (ground_of t r) t l) where
    pub program_first : (named.component_at cs 0).kind ≡ system_kind.Process
    program_first = program_kind t (plain_law t read ok)

    top : number_told [] ≡ None
    top = ap (λ (k : SystemKind). option_map (monitor_of t.program g) (monitor_by k 0 None)) program_first

    module _ (i : ℕ) (q : Listed) (e : slice_get (components_of t.program) i ≡ Some q) where
      number : component_with q.path cs ≡ i
      number = found_by_path t.program (well_formed t ok).paths i q e

      there : i < length r.components
      there = let a = slice_get_within (components_of t.program) i q e in let b = length-map (components_of t.program) (first_component t.program) in let c = stands.count in omega (arith, a, b, c)

      -- what is around a class
      level : (path : Path) → component_with path cs ≡ i → (named.component_at cs i).kind ≡ system_kind.Class → monitor_around cs (length path) (around path) ≡ monitor_around cs (suc (length (around path))) (around path)
      level [] f class = absurd (let bad : system_kind.Process ≡ system_kind.Class = sym program_first ∙ ap (λ (n : ℕ). (named.component_at cs n).kind) f ∙ class in cc)
      level (s ∷ path) f class = ap (λ (depth : ℕ). monitor_around cs depth (around (s ∷ path))) (sym (around_length s path))

      by_kinds : (a : SystemKind) (k : ComponentKind) → (named.component_at cs i).kind ≡ a → (component_at r i).kind ≡ k → KindIs r t.program i a k → option_map (monitor_of t.program g) (monitor_by a i (monitor_around cs (length q.path) (around q.path))) ≡ legend.monitor_of k (number_told (around q.path))
      by_kinds system_kind.Monitor (kind.Monitor j) f h is = ap Some (number_is t r l stands i j h g)
      by_kinds system_kind.Class kind.Class f h is = ap (option_map (monitor_of t.program g)) (level q.path number f)
      by_kinds system_kind.Process (kind.Process j) f h is = refl
      by_kinds a k f h is = absurd is

      step : IsTold r.components number_told i q
      step =
          record {
            component = component_at r i;
            there = slice_get-get_or r.components i no_component there;
            same = ap (λ (n : ℕ). option_map (monitor_of t.program g) (monitor_by (named.component_at cs n).kind n (monitor_around cs (length q.path) (around q.path)))) number
                ∙ by_kinds (named.component_at cs i).kind (component_at r i).kind refl refl (stands.components i there).kind;
          }

    numbers_told : AreTold r.components number_told 0 (components_of t.program)
    numbers_told = told_of_each r.components number_told (components_of t.program) 0 (λ i q e. subst (λ (j : ℕ). IsTold r.components number_told j q) (let z : i ≡ 0 + i = omega arith in z) (step i q e))

-- each component of the legend with that number
abbrev pub MonitorsAreTold : Tree → Discipline → Legend → Type 0
MonitorsAreTold t g l = map (λ (c : Named). c.monitor) l.components ≡ map (λ (q : Listed). number_told t g q.path) (components_of t.program)

pub monitors_told : (t : Tree) (y : code_symbols.Symbols) (r : Tables) (l : code_legend.Legend) (g : Discipline) (k : Layouts) → IsRead t.program → IsAccepted t → AreSymbolsOf y (whole t) → plain r ≡ laid t → IsLegendOf l (source_seen y) r.components → Stands (ground_of t r) t k → MonitorsAreTold t g (legend_seen l)
monitors_told t y r l g k read ok symbols same seen stands = legend_told t y r l read ok symbols same seen (number_told t g) (top t g r k read ok stands) (numbers_told t g r k read ok stands)
