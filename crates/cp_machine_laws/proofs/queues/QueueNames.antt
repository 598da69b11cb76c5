-- A queue that is named stands at its place, which is one of the component itself: what `delay` and `continue` ask.
use Rattle.std.proofs.Common.{◌≡◌, ◌∙◌, ℕ, Bool, true, false, if◌then◌else◌, List, ◌∷◌, Option, Some, ap, sym, refl, subst}
use Rattle.cp_machine_laws.proofs.Words.{ℤ, ◌+ℤ◌, neg_ℤ, Ok, Err, Entry, Machine, thread_at, memory_at, Outcome, out_of_range, ◌>>=◌, Ty, queue_type, array_over, natural_of}
use Rattle.cp_machine_laws.proofs.Words.{is_within, the_element, number_of, Meaning, permanent_variable, find, in_component, Item, State, current, Typed, View, Target}
use Rattle.cp_machine_laws.proofs.Words.{target_meant, with_choice, this_component, expression_calls, view_of, Layouts, here, as_place, expression_form, Ground, TargetAgrees}
use Rattle.cp_machine_laws.proofs.Words.{plain_address, AreKept, value, target_value, selected, chosen, with_index, with_element_of, name_of, variable_in}
use Rattle.cp_tree.specs.Syntax.{Program, Expression, Designator, designator, Selectors, no_selectors, more_selectors, Selector, field, index}
use Rattle.cp_slots.specs.Code as code
use Rattle.cp_machine_laws.proofs.control.Control.{Taken, top_frame}
use Rattle.cp_machine_laws.proofs.queues.Delaying.{QueueNamed}
use Rattle.cp_machine_laws.proofs.control.Running.{Executes, frames_below, sees_now}
use Rattle.cp_machine_laws.proofs.expressions.VariableExpressions.{variable_place}

-- ---- selectors keep the component

target_is : (t u : Target) → ◌≡◌ {A = Outcome Target} (Ok t) (Ok u) → t ≡ u
target_is t u e = cc

element_holder : (v : View) (u : Ty) (t w : Target) (z : ℤ) → with_element_of u t z ≡ Ok w → w.place.holder ≡ t.place.holder
element_holder v (array_over q u) t w z e = go (is_within q z) e
  where
    go : (b : Bool) → (if b then Ok (record { place = with_choice t.place (the_element (natural_of (z +ℤ neg_ℤ q.low))); ty = u }) else Err out_of_range) ≡ Ok w → w.place.holder ≡ t.place.holder
    go true e = sym (ap (λ (x : Target). x.place.holder) (target_is _ w e))
    go false e = absurd (cc)
element_holder v _ t w z e = sym (ap (λ (x : Target). x.place.holder) (target_is t w e))

chosen_holder : (v : View) (c : Selector) (t w : Target) → chosen v c t ≡ Ok w → w.place.holder ≡ t.place.holder
chosen_holder v (field i) t w e = sym (ap (λ (x : Target). x.place.holder) (target_is _ w e))
chosen_holder v (index a) t w e = go (value v a) e
  where
    go : (o : Outcome Typed) → (o >>= λ x. with_index t x) ≡ Ok w → w.place.holder ≡ t.place.holder
    go (Ok x) e = element_holder v t.ty t w (number_of x.value) e
    go (Err d) e = absurd (cc)

selected_holder : (v : View) (ss : Selectors) (t w : Target) → selected v ss t ≡ Ok w → w.place.holder ≡ t.place.holder
selected_holder v no_selectors t w e = sym (ap (λ (x : Target). x.place.holder) (target_is t w e))
selected_holder v (more_selectors c cs) t w e = go (chosen v c t) refl (λ u i. selected_holder v cs u w i) e
  where
    go : (o : Outcome Target) → chosen v c t ≡ o → ((u : Target) → selected v cs u ≡ Ok w → w.place.holder ≡ u.place.holder) → (o >>= λ u. selected v cs u) ≡ Ok w → w.place.holder ≡ t.place.holder
    go (Ok u) i ih e = ih u e ∙ chosen_holder v c t u i
    go (Err d) i ih e = absurd (cc)

-- a permanent variable is one of the component itself
pub own_place : (v : View) (d : Designator) (t : Ty) (w : Target) → find (name_of d) (current v.calls).scope ≡ Some (permanent_variable t) → target_value v d ≡ Ok w → w.place.holder ≡ in_component (this_component v)
own_place v (designator i ss) t w known e =
    selected_holder v ss (target_meant v i.name (find i.name (current v.calls).scope)) w e ∙ ap (λ (m : Option Meaning). (target_meant v i.name m).place.holder) known

-- ---- a queue

pub queue_named : (g : Ground) (p : Program) (l : Layouts) (s : State) (m : Machine) (q at : ℕ) (i : Item) (mid : Option ℕ) (es : List Entry) (xs ys : List Item) (k : Taken g p l s m q at i mid es xs ys) → Executes g p l m q →
    (e : Expression) (spot : code.Place) → AreKept (here p l (thread_at m.threads q).frame.routine) (expression_calls (l.meanings (thread_at m.threads q).frame.routine).scope e) → expression_form (here p l (thread_at m.threads q).frame.routine) e ≡ Some (record { ty = queue_type; form = as_place spot }) →
    -- the argument is a permanent variable, or an element of one
    (d : Designator) (t : Ty) → variable_in e ≡ Some d → find (name_of d) (current (view_of p s q).calls).scope ≡ Some (permanent_variable t) → QueueNamed g p l s m q es e spot
queue_named g p l s m q at i mid es xs ys k ex e spot kept formed d t is known =
    record {
      designator = d;
      is = is;
      agrees = subst (λ fs. TargetAgrees g.tables l fs (target_value (view_of p s q) d) queue_type (plain_address (memory_at m q) (thread_at m.threads q).frame spot)) (sym (top_frame (thread_at m.threads q).frame es).1)
          (variable_place g.tables l ((thread_at m.threads q).frame ∷ frames_below g p l s m q at i mid es xs ys k ex) (view_of p s q) (memory_at m q) (thread_at m.threads q).frame (here p l (thread_at m.threads q).frame.routine) (sees_now g p l s m q at i mid es xs ys k ex)
          e d (record { ty = queue_type; form = as_place spot }) spot kept is formed refl);
      own = λ w h. own_place (view_of p s q) d t w known h;
    }
