-- In a legend, the monitor of each component that is a monitor has the component's own number.
use Rattle.std.proofs.Common.{◌≡◌, ℕ, zero, suc, ◌+◌, ◌<◌, Bool, true, false, if◌then◌else◌, List, [], ◌∷◌, ◌++◌, length, map, Option, Some, None, slice_get, ◌==◌, ap, sym, subst, arith}
use Rattle.std.specs.Prelude.{slice_index_or}
use Rattle.cp_legend_laws.proofs.Words.{Component, Each}
use Rattle.cp_slots.specs.declared.tables.ComponentKind.{ComponentKind}
use Rattle.cp_slots.specs.declared.tables.ComponentKind.TheVariants as kind
use Rattle.cp_resolved.proofs.frames.FrameCells.{each_both}
use Rattle.cp_legend.specs.declared.legend.Legend as code_legend
use Rattle.cp_legend.specs.Names.{IsLegendOf, Named, Naming, Part, Source, at_each, component_seen, components_of, inside, monitor_of, named, named_below, next_by, parts_at, parts_by, parts_of}

abbrev pub HasOwnNumber : Named → Type 0
HasOwnNumber c = (j : ℕ) → c.kind ≡ kind.Monitor j → c.monitor ≡ Some j

-- what names more components keeps it
abbrev Keeps : Naming → Type 0
Keeps one = (system : ℕ) (path : List ℕ) (outer : Option ℕ) (cs : List Named) → Each HasOwnNumber cs → Each HasOwnNumber (one system path outer cs)

parts_keep : (one : Naming) → Keeps one → (ps : List Part) (path : List ℕ) (outer : Option ℕ) (cs : List Named) → Each HasOwnNumber cs → Each HasOwnNumber (parts_by one ps path outer cs)
unfolding parts_by
parts_keep one k [] path outer cs h = h
parts_keep one k (p ∷ ps) path outer cs h = parts_keep one k ps path outer (one p.system (inside path p.text) outer cs) (k p.system (inside path p.text) outer cs h)

next_keeps : (one : Naming) → Keeps one → (o : Option Component) (ps : List Part) (path : List ℕ) (outer : Option ℕ) (cs : List Named) → Each HasOwnNumber cs → Each HasOwnNumber (next_by one o ps path outer cs)
next_keeps one k None ps path outer cs h = h
next_keeps one k (Some c) ps path outer cs h =
    let own : HasOwnNumber (named c path outer) = λ j e. ap (λ (d : ComponentKind). monitor_of d outer) e in
    parts_keep one k ps path (monitor_of c.kind outer) (cs ++ named c path outer ∷ []) (each_both HasOwnNumber cs (named c path outer ∷ []) h (own, tt))

below_keeps : (all : List Component) (parts : List (List Part)) (bound : ℕ) → Keeps (named_below all parts bound)
unfolding named_below
below_keeps all parts zero n path outer cs h = h
below_keeps all parts (suc bound) n path outer cs h = go (n == bound) (below_keeps all parts bound)
  where
    go : (b : Bool) → Keeps (named_below all parts bound) → Each HasOwnNumber (if b then next_by (named_below all parts bound) (slice_get all (length cs)) (parts_at parts bound) path outer cs else named_below all parts bound n path outer cs)
    go true k = next_keeps (named_below all parts bound) k (slice_get all (length cs)) (parts_at parts bound) path outer cs h
    go false k = k n path outer cs h

components_own : (s : Source) (all : List Component) → Each HasOwnNumber (components_of s all)
unfolding components_of
components_own s all = below_keeps all (at_each (parts_of s) (length s.systems + 1)) (length s.systems + 1) (length s.systems) [] None [] tt

pub own_monitors : (l : code_legend.Legend) (s : Source) (all : List Component) → IsLegendOf l s all → Each HasOwnNumber (map component_seen l.components.items)
own_monitors l s all is = subst (Each HasOwnNumber) (sym is.components) (components_own s all)

-- of the component at a number
pub own_number_at : (cs : List Named) (n : ℕ) (d : Named) → n < length cs → Each HasOwnNumber cs → HasOwnNumber (slice_index_or cs n d)
own_number_at [] n d less h = absurd (omega (arith, less))
own_number_at (c ∷ cs) zero d less h = h.0
own_number_at (c ∷ cs) (suc n) d less h = own_number_at cs n d (omega (arith, less)) h.1
