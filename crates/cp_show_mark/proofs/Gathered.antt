-- Values of JSON that are gathered from the pairs of two lists, and members of an object that are put part by part.
use Rattle.std.proofs.Common.{◌≡◌, ◌∙◌, ◌+◌, ◌<◌, ◌≤◌, ◌++◌, ◌∷◌, ◌==◌, [], ℕ, true, false, List, Bor, codes, length, map, take, get_or, refl, subst, sym, ap, rules}
use Rattle.std.specs.List.{zip}
use Rattle.std.proofs.lemmas.Bool.{eqb-true}
use Rattle.std.proofs.lemmas.List.{length_push, map-append, nil_from_length, take_all, take_more}
use Rattle.std.specs.declared.alloc.Global.{Global}
use Rattle.std.specs.declared.vec.Vec.{Vec}
use Rattle.serde_json.specs.Data.{Data, Members, no_members}
use Rattle.serde_json.specs.View.{view}
use Rattle.serde_json.specs.declared.value.Value as json
use Rattle.cp_legend.specs.Names.{Legend}
use Rattle.cp_machine.specs.declared.discipline.Signals.{Signals}
use Rattle.cp_story.proofs.Floats.{with_both}
use Rattle.cp_story.specs.Objects.{Member, array_of, with_members}
use Rattle.cp_story.specs.StoryData.{waits_data}
use Rattle.cp_story.specs.Views.{wait_of}
use Rattle.cp_story.specs.Waiting.{Waiting}
use Rattle.cp_story.specs.declared.story.Wait.{Wait}
use Rattle.cp_verdict.specs.declared.marking.Standing.{Standing}
use Rattle.cp_verdict.specs.declared.program.Stops.{Stops}
use Rattle.cp_show_mark.specs.MarkData.{expectation_members, final_members, mark_members}
use Rattle.cp_show_mark.proofs.Pairs.{IsNext, pair_at, within}

-- one value more
pub one_gathered : {A C D : Type 0} (seen : C → D) (f : A → D) (xs : List A) (k : ℕ) (x : A) (now new : List C) (v : C) → k < length xs → x ≡ get_or xs k x → new ≡ now ++ v ∷ [] → seen v ≡ f x → map seen now ≡ map f (take k xs) → map seen new ≡ map f (take (k + 1) xs)
one_gathered seen f xs k x now new v lt here pushed is before =
    let more : map f (take (k + 1) xs) ≡ map f (take k xs) ++ f (get_or xs k x) ∷ [] = ap (map f) (take_more xs k x lt) ∙ map-append f (take k xs) (get_or xs k x ∷ []) in
    ap (map seen) pushed ∙ map-append seen now (v ∷ []) ∙ ap (λ l. l ++ seen v ∷ []) before ∙ ap (λ e. map f (take k xs) ++ e ∷ []) (is ∙ ap f here) ∙ sym more

pub all_gathered : {A C D : Type 0} (seen : C → D) (f : A → D) (xs : List A) (n : ℕ) (items : List C) → length xs ≤ n → map seen items ≡ map f (take n xs) → map seen items ≡ map f xs
all_gathered seen f xs n items all h = h ∙ ap (map f) (take_all n xs all)

pub pair_gathered : {A B C D : Type 0} (seen : C → D) (f : A × B → D) (ks : List A) (vs : List B) (yielded : List (Bor A × Bor B)) (p : Bor A × Bor B) (now new : List C) (v : C) → IsNext ks vs yielded p → new ≡ now ++ v ∷ [] → seen v ≡ f (p.0.now, p.1.now) → map seen now ≡ map f (take (length yielded) (zip ks vs)) → map seen new ≡ map f (take (length (yielded ++ p ∷ [])) (zip ks vs))
pair_gathered seen f ks vs yielded p now new v t pushed is before =
    one_gathered seen f (zip ks vs) (length yielded) (p.0.now, p.1.now) now new v (within ks vs yielded p t) (sym (pair_at ks vs yielded p t)) pushed is before ∙ ap (λ n. map f (take n (zip ks vs))) (sym (length_push yielded p))

pub seen_array : (items : Vec json.Value Global) → view (json.Array items) ≡ array_of (map view items.items)
seen_array items = search (rules, json.the_lemmas)

-- ---- parts

-- the members of an expectation behind others
pub expectation_put : (none one two : Members) (a : List Member) (e e' : List ℕ) (v v' : Standing) (t t' : List ℕ) → none ≡ no_members → one ≡ with_members none a → two ≡ with_members one (expectation_members e v t) → e ≡ e' → v ≡ v' → t ≡ t' → two ≡ with_members no_members (a ++ expectation_members e' v' t')
expectation_put none one two a e e' v v' t t' o p q is_e is_v is_t =
    let front = with_members no_members a in
    q ∙ ap (λ ms. with_members ms (expectation_members e v t)) (p ∙ ap (λ ms. with_members ms a) o) ∙ ap (λ x. with_members front (expectation_members x v t)) is_e ∙ ap (λ x. with_members front (expectation_members e' x t)) is_v ∙ ap (λ x. with_members front (expectation_members e' v' x)) is_t
    ∙ sym (with_both no_members a (expectation_members e' v' t'))

-- those of a mark
pub mark_put : (none one : Members) (m m' : List ℕ) (items items' : Data) (stops : Stops) (notes notes' : Data) (by : Signals) → none ≡ no_members → one ≡ with_members none (mark_members m items stops notes by) → m ≡ m' → items ≡ items' → notes ≡ notes' → one ≡ with_members no_members (mark_members m' items' stops notes' by)
mark_put none one m m' items items' stops notes notes' by o p is_m is_items is_notes =
    p ∙ ap (λ ms. with_members ms (mark_members m items stops notes by)) o ∙ ap (λ x. with_members no_members (mark_members x items stops notes by)) is_m ∙ ap (λ x. with_members no_members (mark_members m' x stops notes by)) is_items ∙ ap (λ x. with_members no_members (mark_members m' items' stops x by)) is_notes

-- who waits where, if somebody does
pub final_some : (l : Legend) (all : List Wait) (ws : List Waiting) → map wait_of all ≡ ws → (length all == 0) ≡ false → final_members l ws ≡ (codes "final", waits_data l ws) ∷ []
final_some l [] ws is some = absurd (cc)
final_some l (w ∷ all) ws is some = subst (λ vs. final_members l vs ≡ (codes "final", waits_data l vs) ∷ []) is refl

pub final_none : (l : Legend) (all : List Wait) (ws : List Waiting) → map wait_of all ≡ ws → (length all == 0) ≡ true → final_members l ws ≡ []
final_none l all ws is none = subst (λ vs. final_members l vs ≡ []) (sym (ap (map wait_of) (nil_from_length all (eqb-true (length all) 0 none))) ∙ is) refl
