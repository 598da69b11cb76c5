-- Open calls in a list of lists.
use Rattle.std.proofs.Common.{◌≡◌, ◌∙◌, ◌<◌, ◌++◌, ◌∷◌, ◌-◌, [], ℕ, List, map, length, take, ap, sym, reverse}
use Rattle.std.specs.Prelude.{slice_index_or, slice_set}
use Rattle.std.proofs.lemmas.List.{map-set, get_or-map, reverse-append}
use Rattle.std.specs.declared.vec.Vec.{Vec}
use Rattle.std.specs.declared.alloc.Global.{Global}
use Rattle.cp_machine.specs.declared.process.Entry.{Entry}
use Rattle.cp_story.specs.declared.event.OpenCall.{OpenCall}
use Rattle.cp_story.specs.Story.{calls_of, monitor_left, with_call, without_call}
use Rattle.cp_story.specs.Views.{items_of}

calls_read : (calls : List (Vec OpenCall Global)) (p : ℕ) (v : Vec OpenCall Global) → p < length calls → v ≡ slice_index_or calls p v → v.items ≡ calls_of (map items_of calls) p
calls_read calls p v lt at = ap items_of at ∙ sym (get_or-map items_of calls p v [] lt)

pub call_added : (calls : List (Vec OpenCall Global)) (p : ℕ) (v w : Vec OpenCall Global) (call : OpenCall) → p < length calls → v ≡ slice_index_or calls p v → w.items ≡ v.items ++ call ∷ [] → map items_of (slice_set calls p w) ≡ with_call (map items_of calls) p call
call_added calls p v w call lt at more = map-set items_of calls p w ∙ ap (slice_set (map items_of calls) p) (more ∙ ap (λ l. l ++ call ∷ []) (calls_read calls p v lt at))

pub call_taken : (calls : List (Vec OpenCall Global)) (p n : ℕ) (v w : Vec OpenCall Global) → p < length calls → v ≡ slice_index_or calls p v → n ≡ length v.items → w.items ≡ take (n - 1) v.items → map items_of (slice_set calls p w) ≡ without_call (map items_of calls) p
call_taken calls p n v w lt at long less = map-set items_of calls p w ∙ ap (slice_set (map items_of calls) p) (less ∙ ap (λ k. take (k - 1) v.items) long ∙ ap (λ l. take (length l - 1) l) (calls_read calls p v lt at))

-- an entry more on top of a control stack
pub left_more : (es : List Entry) (e : Entry) → monitor_left (reverse (es ++ e ∷ [])) ≡ monitor_left (e ∷ reverse es)
left_more es e = ap monitor_left (reverse-append es (e ∷ []))
