-- What `delay` and `continue` change of a component is a queue.
use Rattle.std.proofs.Common.{◌≡◌, ◌∙◌, ◌⊎◌, inl, inr, ℕ, pos, List, [], ◌∷◌, Option, Some, None, ap, sym, refl}
use Rattle.cp_meaning.specs.Names.{Name}
use Rattle.cp_meaning.specs.Values.{number_value, queue_value, Choice, part_at, with_part}
use Rattle.cp_meaning.specs.State.{Holder, in_call, in_component, Place, Content, holds, refers, knows, Environment, component_at}
use Rattle.cp_meaning.specs.Places.{View, content_of, with_content, environment_of, with_environment_of, with_permanents, value_held, value_at, stored}
use Rattle.cp_meaning.proofs.Held.{permanents_at, permanents_set}
use Rattle.cp_annotation_laws.proofs.invariants.Cleared.{cleared, environment_cleared, with_part_same, stored_same}

number_parts : (cs : List Choice) → part_at (number_value (pos 0)) cs ≡ number_value (pos 0)
number_parts [] = refl
number_parts (c ∷ cs) = number_parts cs

number_no_queue : (o : Option ℕ) {A : Type 0} → number_value (pos 0) ≡ queue_value o → A
number_no_queue o e = absurd (cc)

-- with a queue in it, the content is a value
content_same : (x : Name) (cs : List Choice) (w o : Option ℕ) (e : Environment) (k : Option Content) → content_of x e ≡ k → part_at (value_held k) cs ≡ queue_value o →
    environment_cleared (with_content x (holds (with_part (value_held k) cs (queue_value w))) e) ≡ environment_cleared e
content_same x cs w o e (Some (holds v)) is there = stored_same x (with_part v cs (queue_value w)) v e is (with_part_same v cs (queue_value w) (sym (ap cleared there)))
content_same x cs w o e (Some (refers q)) is there = number_no_queue o (sym (number_parts cs) ∙ there)
content_same x cs w o e (Some (knows n)) is there = number_no_queue o (sym (number_parts cs) ∙ there)
content_same x cs w o e None is there = number_no_queue o (sym (number_parts cs) ∙ there)

holder_same : (v : View) (h : Holder) (x : Name) (cs : List Choice) (w o : Option ℕ) (n : ℕ) → part_at (value_held (content_of x (environment_of v h))) cs ≡ queue_value o →
    environment_cleared (permanents_at v.components n) ≡ environment_cleared (permanents_at (with_environment_of v h (with_content x (holds (with_part (value_held (content_of x (environment_of v h))) cs (queue_value w))) (environment_of v h))).components n)
holder_same v (in_call b) x cs w o n there = refl
holder_same v (in_component m) x cs w o n there = go (permanents_set v.components m n _)
  where
    new : Environment
    new = with_content x (holds (with_part (value_held (content_of x (permanents_at v.components m))) cs (queue_value w))) (permanents_at v.components m)

    go : ((n ≡ m) × (permanents_at (with_permanents v.components m new) n ≡ new)) ⊎ (permanents_at (with_permanents v.components m new) n ≡ permanents_at v.components n) → environment_cleared (permanents_at v.components n) ≡ environment_cleared (permanents_at (with_permanents v.components m new) n)
    go (inl h) = ap (λ j. environment_cleared (permanents_at v.components j)) h.0 ∙ (sym (content_same x cs w o (permanents_at v.components m) (content_of x (permanents_at v.components m)) refl there) ∙ sym (ap environment_cleared h.1))
    go (inr h) = sym (ap environment_cleared h)

pub queue_same : (v : View) (q : Place) (w : Option ℕ) (n : ℕ) (o : Option ℕ) → value_at v q ≡ queue_value o → environment_cleared (component_at v.components n).environment ≡ environment_cleared (component_at (stored v q (queue_value w)).components n).environment
queue_same v q w n o there = holder_same v q.holder q.name q.choices w o n there
