-- What a statement leaves of the state: it appends items, and keeps names, types, headings and routines.
use Rattle.std.proofs.Common.{◌≡◌, ℕ, List, [], ◌∷◌, ◌++◌, length, Option, ap, sym, ◌∙◌, refl, append_assoc}
use Rattle.cp_layout.specs.LaidStatements.{check_invariants}
use Rattle.cp_layout.specs.LaidDeclarations.{end_of_body}
use Rattle.cp_resolved.proofs.Words.{Bool, max, Layer, Action, Pending, with_item, add_items, settle_items, without_pending, add_item, need_of, with_cell, with_room, with_count, statements}
use Rattle.std.proofs.lemmas.List.{append-nil}
use Rattle.cp_tree.specs.Syntax as syntax
use Rattle.cp_slots.specs.Code.{Item}
use Rattle.cp_resolved.proofs.laid.Kept.{Kept}
use Rattle.cp_resolved.proofs.laid.Walked.{CallSteps, ItemSteps, ListSteps, any_calls, any_items, any_lists, never, checked_walked, statements_walked, ended_walked, body_walked}
use Rattle.cp_resolved.specs.ItemsStand.{body_items}

abbrev pub with_more : Layer → List Item → Layer → Layer
with_more l more m = record l { items = l.items ++ more; frame = m.frame; pending = m.pending; arguments = m.arguments }

abbrev pub Grew : Layer → Layer → Type 0
Grew l m = (more : List Item) × (m ≡ with_more l more m)

pub grew_trans : (l k m : Layer) → Grew l k → Grew k m → Grew l m
grew_trans l k m h i =
    (h.0 ++ i.0, i.1 ∙ ap (λ (j : Layer). with_more j i.0 m) h.1 ∙ ap (λ (is : List Item). (let j : Layer = record l { items = is; frame = m.frame; pending = m.pending; arguments = m.arguments } in j)) (append_assoc l.items h.0 i.0))

pub kept_grew : (l m : Layer) → Kept l m → Grew l m
kept_grew l m h = ([], h ∙ ap (λ (is : List Item). (let j : Layer = record l { items = is; frame = m.frame; pending = m.pending; arguments = m.arguments } in j)) (sym (append-nil l.items)))

item_grew : (l : Layer) (p : Pending) (next : Option ℕ) → Grew l (with_item l p next)
item_grew l p next = ((let i : Item = record { action = p.action; next = next; line = p.line; routine = length l.routines; need = max (need_of l.items next) p.need } in i) ∷ [], refl)

all_grew : (l : Layer) (ps : List Pending) (next : Option ℕ) → Grew l (add_items l ps next).1
all_grew l [] next = kept_grew l l refl
all_grew l (p ∷ ps) next =
    let rest : Option ℕ × Layer = add_items l ps next in
    grew_trans l rest.1 (with_item rest.1 p rest.0) (all_grew l ps next) (item_grew rest.1 p rest.0)

pub settled_grew : (l : Layer) (next : Option ℕ) → Grew l (settle_items l next).1
settled_grew l next = grew_trans l (without_pending l) (settle_items l next).1 (kept_grew l (without_pending l) refl) (all_grew (without_pending l) l.pending next)

-- ---- statements

kept_after : (l k m : Layer) → Grew l k → Kept k m → Grew l m
kept_after l k m h i = grew_trans l k m h (kept_grew k m i)

added_after : (l m : Layer) (at : ℕ) (a : Action) (need : ℕ) → Grew l m → Grew l (add_item m at a need)
added_after l m at a need h = kept_after l m (add_item m at a need) h refl

grew_calls : (l : Layer) → CallSteps (Grew l) (λ r. Unit {0}) ⊥ (λ x. ⊥)
grew_calls l = any_calls (Grew l) (λ m k h. kept_after l m (with_count m k) h refl) (λ m r at a need h. kept_after l m (add_item (with_room (with_cell m) r) at a need) h refl)

grew_items : (l : Layer) → ItemSteps (Grew l) (λ r. Unit {0})
grew_items l = any_items (Grew l) (λ m r h. kept_after l m (with_room m r) h refl) (added_after l)

grew_lists : (l : Layer) → ListSteps (Grew l)
grew_lists l = any_lists (Grew l) (added_after l) (λ m next h. grew_trans l m (settle_items m next).1 h (settled_grew m next))

pub checked_grew : (l : Layer) (at : ℕ) → Grew l (check_invariants l at)
checked_grew l at = checked_walked (grew_calls l) (grew_items l) l at (kept_grew l l refl) never

pub statements_grew : (l : Layer) (ss : syntax.Statements) (after : Option ℕ) → Grew l (statements l ss after).1
statements_grew l ss after = statements_walked (grew_calls l) (grew_items l) (grew_lists l) l ss after (kept_grew l l refl) never

pub ended_grew : (l : Layer) (checks : Bool) → Grew l (end_of_body l checks).1
ended_grew l checks = ended_walked (grew_calls l) (grew_items l) (grew_lists l) l checks (kept_grew l l refl) never

pub body_grew : (l : Layer) (ss : syntax.Statements) (checks : Bool) → Grew l (body_items l ss checks).1
body_grew l ss checks = body_walked (grew_calls l) (grew_items l) (grew_lists l) l ss checks (kept_grew l l refl) never
