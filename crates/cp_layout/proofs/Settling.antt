-- The items of a statement go into the tables, the last one first.
use Rattle.std.proofs.Common.{◌≡◌, ℕ, List, [], ◌∷◌, ◌++◌, length, map, Option, Some, refl, ap}
use Rattle.std.proofs.lemmas.List.{map-append}
use Rattle.cp_layout.specs.declared.lists.Pending as code_pending
use Rattle.cp_layout.specs.Layers.{Layer, Pending, pending_seen, add_items, with_item}

settled_push : (l : Layer) (ps : List Pending) (p : Pending) (next : Option ℕ) → add_items l (ps ++ p ∷ []) next ≡ add_items (with_item l p next) ps (Some (length l.items))
settled_push l [] p next = refl
settled_push l (q ∷ ps) p next = ap (λ (r : Option ℕ × Layer). (let s : Option ℕ × Layer = (Some (length r.1.items), with_item r.1 q r.0) in s)) (settled_push l ps p next)

pub settled_last : (l : Layer) (ps left : List code_pending.Pending) (p : code_pending.Pending) (next : Option ℕ) → ps ≡ left ++ p ∷ [] → add_items l (map pending_seen ps) next ≡ add_items (with_item l (pending_seen p) next) (map pending_seen left) (Some (length l.items))
settled_last l ps left p next e = rw (e, map-append pending_seen left (p ∷ [])) (settled_push l (map pending_seen left) (pending_seen p) next)

pub settled_none : (l : Layer) (ps : List code_pending.Pending) (next : Option ℕ) → ps ≡ [] → add_items l (map pending_seen ps) next ≡ (next, l)
settled_none l ps next e = rw e refl
