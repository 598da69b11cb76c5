-- How a layer is expanded, state after state and choice after choice.
use Rattle.std.proofs.Common.{◌≡◌, ◌≤◌, ◌+◌, ℕ, suc, List, [], ◌∷◌, ◌++◌, Bool, true, false, None, Some, length, refl, sym, ap, subst, arith}
use Rattle.std.specs.Prelude.{Option, is_some, slice_get}
use Rattle.cp_machine.specs.declared.discipline.Discipline.{Discipline}
use Rattle.cp_run.specs.Run.{Node, may, those_below, chosen, opened}
use Rattle.cp_run.specs.Slots.{slots}
use Rattle.cp_search.specs.Searched.{IsSearched}
use Rattle.cp_layers.proofs.Words.{Tables, Machine, System, StateKey, Marking, Adds}
use Rattle.cp_layers.proofs.FromLayer.{first_marks, from_all, from_more, from_none, key_machine, open_layer}
use Rattle.cp_layers.proofs.FromState.{state_more, state_none}
use Rattle.cp_layers.specs.Layers.{AddsNode, IsKeyOf}
use Rattle.cp_layers.specs.Visited.{IsBegun, IsKnown, IsWhole, Within}

-- a search that did not stop
pub not_stopped : (over : Type 0) (stops : ℕ → Type 0) (stopped : Option ℕ) → is_some stopped ≡ false → IsSearched over stops stopped → over
not_stopped over stops None e h = h
not_stopped over stops (Some at) e h = absurd (cc)

-- the same limits
pub known_as : {A : Type 0} (marking : System Machine → ℕ → Marking A) (r : Tables) (discipline other : Discipline) (steps more most d e : ℕ) (marks : List A) (layer : List StateKey) → discipline ≡ other → steps ≡ more → d ≡ e → IsKnown (marking (slots r discipline) steps) r (slots r discipline) steps most d marks layer → IsKnown (marking (slots r other) more) r (slots r other) more most e marks layer
known_as marking r discipline other steps more most d e marks layer g s same h =
    subst
    (λ (x : Discipline). IsKnown (marking (slots r x) more) r (slots r x) more most e marks layer)
    g
    (subst
    (λ (x : ℕ). IsKnown (marking (slots r discipline) x) r (slots r discipline) x most e marks layer)
    s
    (subst (λ (x : ℕ). IsKnown (marking (slots r discipline) steps) r (slots r discipline) steps most x marks layer) same h))

module _ {A : Type 0} (marking : Marking A) (r : Tables) (sys : System Machine) (steps most : ℕ) where
  pub known_first : (old marks : List A) (before layer : List StateKey) (node : Node Machine) → 1 ≤ most → old ≡ [] → Adds old (marking.opened) marks → before ≡ [] → opened sys steps ≡ node → AddsNode r before node layer → IsKnown marking r sys steps most 0 marks layer
  known_first old marks before layer node some none noted empty is h =
      let few = h.few in
      let len = ap length empty in
      record {
        layer = open_layer r sys steps before layer node empty is h;
        marks = first_marks marking sys steps marks (subst (λ (l : List A). Adds l (marking.opened) marks) none noted);
        few = omega (arith, few, len, some);
      }

  module _ (d : ℕ) (layer : List StateKey) where
    pub begun_first : (old next : List StateKey) (marks : List A) → layer ≡ old → next ≡ [] → IsKnown marking r sys steps most d marks old → IsBegun marking r sys steps most d layer 0 marks next
    begun_first old next marks same empty k =
        subst
        (λ (l : List StateKey). IsBegun marking r sys steps most d l 0 marks next)
        (sym same)
        (subst
        (λ (l : List StateKey). IsBegun marking r sys steps most d old 0 marks l)
        (sym empty)
        (record { layer = k.layer; room = k.few; from = from_none marking r sys steps d old marks k.marks; few = omega arith }))

    pub within_first : (at : ℕ) (key : StateKey) (m : Machine) (marks : List A) (next : List StateKey) → slice_get layer at ≡ Some key → IsKeyOf key m → IsBegun marking r sys steps most d layer at marks next → Within marking r sys steps most d layer at m [] marks next
    within_first at key m marks next is here b = record { key = key; is = is; here = here; marks_before = marks; next_before = next; begun = b; from = state_none marking r sys steps m marks next; few = b.few }

    pub within_more : (at : ℕ) (m : Machine) (ps : List ℕ) (p : ℕ) (marks marks2 : List A) (next next2 : List StateKey) → Within marking r sys steps most d layer at m ps marks next → Adds marks (marking.chosen m p) marks2 → AddsNode r next (chosen sys steps m p) next2 → length next2 ≤ most → Within marking r sys steps most d layer at m (ps ++ p ∷ []) marks2 next2
    within_more at m ps p marks marks2 next next2 w noted node few =
        record {
          key = w.key;
          is = w.is;
          here = w.here;
          marks_before = w.marks_before;
          next_before = w.next_before;
          begun = w.begun;
          from = state_more marking r sys steps m ps p w.marks_before marks marks2 w.next_before next next2 w.from noted node;
          few = few;
        }

    pub begun_more : (at : ℕ) (m : Machine) (marks : List A) (next : List StateKey) → Within marking r sys steps most d layer at m (those_below sys.processes (may sys m)) marks next → IsBegun marking r sys steps most d layer (at + 1) marks next
    begun_more at m marks next w =
        let due = key_machine r sys steps d layer at w.key m w.begun.layer w.is w.here in
        record {
          layer = w.begun.layer;
          room = w.begun.room;
          from = from_more marking r sys steps d layer at w.key m (those_below sys.processes (may sys m)) w.marks_before marks w.next_before next w.begun.from w.is due w.here refl w.from;
          few = w.few;
        }

    pub known_after : (marks : List A) (next : List StateKey) → IsWhole marking r sys steps most d layer marks next → IsKnown marking r sys steps most (suc d) marks next
    known_after marks next w =
        let b = w.begun in
        let after = from_all marking r sys steps d layer w.count marks next w.all b.layer b.from in
        record { layer = after.0; marks = after.1; few = b.few }
