-- Words that lead to ends at which all wait.
use Rattle.std.proofs.Common.{◌≡◌, ◌∙◌, ◌≤◌, ◌⊎◌, inl, inr, ⊎_elim, ℕ, zero, suc, Bool, true, if◌then◌else◌, List, [], ◌∷◌, ◌++◌, length, map, None, Some, refl, sym, ap, subst, arith}
use Rattle.std.specs.Prelude.{Contains}
use Rattle.std.proofs.lemmas.List.{length-append}
use Rattle.std.proofs.lemmas.List.Elements.{Contains-push, Contains-push_cases}
use Rattle.cp_machine.specs.Machine.{Machine}
use Rattle.cp_run.specs.Run.{Node, Halted, Choosing, may, chosen, opened}
use Rattle.cp_run.specs.System.{System}
use Rattle.cp_run.specs.declared.outcome.OutcomeKind.{OutcomeKind}
use Rattle.cp_run.specs.declared.outcome.OutcomeKind.TheVariants.{Finished, AllWaiting, RunError, ChoiceLimit, StepLimit, OutputLimit}
use Rattle.std.proofs.lemmas.Option.{same_Some as some_same}
use Rattle.cp_endless_laws.specs.Reachable.{LeadsTo, node_after}
use Rattle.cp_endless_laws.specs.Silent.{waits_on_slots}
use Rattle.cp_endless_laws.proofs.possible.Words.{after_append, after_first}
use Rattle.cp_ends.proofs.Searching.Arrivals.{last_cases}
use Rattle.cp_ends.proofs.named.Kinds.{contains_map, contains_unmap}
use Rattle.cp_layers.specs.Layers.{AreReached}
use Rattle.cp_layers.specs.Leading.{AreLeading, IsDueBy, IsReachedBy}
use Rattle.cp_layers.specs.Reached.{IsDue, IsReached}
use Rattle.cp_layers.proofs.Adding.{none_has}
use Rattle.cp_waiting_ends.specs.Ending.{AreEndsWithin, EndsWaiting}
use Rattle.cp_waiting_ends.specs.Waiting.{WaitsSo, ends_seen, ends_words, entry_seen, entry_word, waiting_marking, waits_at, waits_so}
use Rattle.cp_waiting_ends.specs.declared.end.WaitingEnd.{WaitingEnd}
use Rattle.cp_waiting_ends.specs.declared.ends.WaitingEnds.{WaitingEnds}

-- ---- one number more

module _ {S : Type 0} (sys : System S) (steps : ℕ) where
  pub leads_more : (word : List ℕ) (l : S) (p : ℕ) → LeadsTo sys steps word (Choosing l) → may sys l p ≡ true → LeadsTo sys steps (word ++ p ∷ []) (chosen sys steps l p)
  leads_more word l p leads can = after_append sys steps word (p ∷ []) (opened sys steps) (Choosing l) leads ∙ ap (λ (b : Bool). if b then Some (chosen sys steps l p) else None) can

  node_last : (stem : List ℕ) (c : ℕ) (x y : Node S) → node_after sys steps x (stem ++ c ∷ []) ≡ Some y → (t : S) × (node_after sys steps x stem ≡ Some (Choosing t)) × (may sys t c ≡ true) × (y ≡ chosen sys steps t c)
  node_last [] c (Halted kind s) y e = absurd (cc)
  node_last [] c (Choosing s) y e = let m = after_first sys steps s c [] y e in (s, refl, m.0, sym (some_same (chosen sys steps s c) y m.1))
  node_last (p ∷ stem) c (Halted kind s) y e = absurd (cc)
  node_last (p ∷ stem) c (Choosing s) y e =
      let m = after_first sys steps s p (stem ++ c ∷ []) y e in
      let x = node_last stem c (chosen sys steps s p) y m.1 in
      (x.0, ap (λ (b : Bool). if b then node_after sys steps (chosen sys steps s p) stem else None) m.0 ∙ x.1, x.2, x.3)

  -- a word leads to where the run begins, or to where its last number leads
  pub leads_last : (word : List ℕ) (node : Node S) → LeadsTo sys steps word node → ((word ≡ []) × (node ≡ opened sys steps)) ⊎ ((stem : List ℕ) × (p : ℕ) × (l : S) × (word ≡ stem ++ p ∷ []) × LeadsTo sys steps stem (Choosing l) × (may sys l p ≡ true) × (node ≡ chosen sys steps l p))
  leads_last word node leads = by (last_cases word)
    where
      by : (word ≡ []) ⊎ ((stem : List ℕ) × (c : ℕ) × (word ≡ stem ++ c ∷ [])) → ((word ≡ []) × (node ≡ opened sys steps)) ⊎ ((stem : List ℕ) × (p : ℕ) × (l : S) × (word ≡ stem ++ p ∷ []) × LeadsTo sys steps stem (Choosing l) × (may sys l p ≡ true) × (node ≡ chosen sys steps l p))
      by (inl none) = inl (none, sym (some_same (opened sys steps) node (ap (λ w. node_after sys steps (opened sys steps) w) (sym none) ∙ leads)))
      by (inr x) =
          let y = node_last x.0 x.1 (opened sys steps) node (ap (λ w. node_after sys steps (opened sys steps) w) (sym x.2) ∙ leads) in
          inr (x.0, x.1, y.0, x.2, y.1, y.2, y.3)

  -- ---- ends at which all wait

  module _ (waiting : S → ℕ → Bool) where
    in_one : (x w : WaitsSo) → Contains (x ∷ []) w → w ≡ x
    in_one x w c = ⊎_elim (λ (n : Contains [] w). absurd (none_has w n)) (λ (e : x ≡ w). sym e) (Contains-push_cases [] x w c)

    by_kind : (kind : OutcomeKind) (s : S) (w : WaitsSo) → Contains (waits_at sys waiting (Halted kind s)) w → (t : S) × (Halted kind s ≡ Halted AllWaiting t) × (w ≡ waits_so sys waiting t)
    by_kind Finished s w c = absurd (none_has w c)
    by_kind AllWaiting s w c = (s, refl, in_one (waits_so sys waiting s) w c)
    by_kind (RunError name process line) s w c = absurd (none_has w c)
    by_kind ChoiceLimit s w c = absurd (none_has w c)
    by_kind StepLimit s w c = absurd (none_has w c)
    by_kind OutputLimit s w c = absurd (none_has w c)

    pub waits_has : (node : Node S) (w : WaitsSo) → Contains (waits_at sys waiting node) w → (s : S) × (node ≡ Halted AllWaiting s) × (w ≡ waits_so sys waiting s)
    waits_has (Halted kind s) w c = by_kind kind s w c
    waits_has (Choosing s) w c = absurd (none_has w c)

    pub waits_in : (node : Node S) (s : S) (w : WaitsSo) → node ≡ Halted AllWaiting s → w ≡ waits_so sys waiting s → Contains (waits_at sys waiting node) w
    waits_in node s w e f = subst (λ n. Contains (waits_at sys waiting n) w) (sym e) (subst (Contains (waits_so sys waiting s ∷ [])) (sym f) (Contains-push [] (waits_so sys waiting s)))

    pub ends_at : (word : List ℕ) (node : Node S) (w : WaitsSo) → LeadsTo sys steps word node → Contains (waits_at sys waiting node) w → EndsWaiting sys waiting steps w word
    ends_at word node w leads c = let x = waits_has node w c in (x.0, leads ∙ ap (λ (n : Node S). Some n) x.1, x.2)

-- ---- by layers

module _ (sys : System Machine) (steps : ℕ) where
  pub due_leads : (d : ℕ) (word : List ℕ) (m : Machine) → IsDueBy sys steps d word m → LeadsTo sys steps word (Choosing m)
  due_leads zero word m h = ap (λ w. node_after sys steps (opened sys steps) w) h.0 ∙ ap (λ (n : Node Machine). Some n) h.1
  due_leads (suc d) word m h =
      ap (λ w. node_after sys steps (opened sys steps) w) h.3 ∙ leads_more sys steps h.2 h.0 h.1 (due_leads d h.2 h.0 h.4) h.5 ∙ ap (λ (n : Node Machine). Some n) h.6

  pub leads_due : (d : ℕ) (word : List ℕ) (m : Machine) → length word ≡ d → LeadsTo sys steps word (Choosing m) → IsDue sys steps d m
  leads_due zero word m long leads = by (leads_last sys steps word (Choosing m) leads)
    where
      by : ((word ≡ []) × (Choosing m ≡ opened sys steps)) ⊎ ((stem : List ℕ) × (p : ℕ) × (l : Machine) × (word ≡ stem ++ p ∷ []) × LeadsTo sys steps stem (Choosing l) × (may sys l p ≡ true) × (Choosing m ≡ chosen sys steps l p)) → IsDue sys steps 0 m
      by (inl x) = sym x.1
      by (inr x) = let len = ap length x.3 ∙ length-append x.0 (x.1 ∷ []) in absurd (omega (arith, len, long))
  leads_due (suc d) word m long leads = by (leads_due d) (leads_last sys steps word (Choosing m) leads)
    where
      by : ((v : List ℕ) (l : Machine) → length v ≡ d → LeadsTo sys steps v (Choosing l) → IsDue sys steps d l) → ((word ≡ []) × (Choosing m ≡ opened sys steps)) ⊎ ((stem : List ℕ) × (p : ℕ) × (l : Machine) × (word ≡ stem ++ p ∷ []) × LeadsTo sys steps stem (Choosing l) × (may sys l p ≡ true) × (Choosing m ≡ chosen sys steps l p)) → IsDue sys steps (suc d) m
      by rest (inl x) = let len = ap length x.0 in absurd (omega (arith, len, long))
      by rest (inr x) = let len = ap length x.3 ∙ length-append x.0 (x.1 ∷ []) in (x.2, x.1, rest x.0 x.2 (omega (arith, len, long)) x.4, x.5, sym x.6)

  reached_ends : (word : List ℕ) (w : WaitsSo) → IsReachedBy (waiting_marking sys steps) sys steps word w → EndsWaiting sys waits_on_slots steps w word
  reached_ends word w (inl x) = ends_at sys steps waits_on_slots word (opened sys steps) w (ap (λ v. node_after sys steps (opened sys steps) v) x.0) x.1
  reached_ends word w (inr x) =
      ends_at sys steps waits_on_slots word (chosen sys steps x.1 x.2) w (ap (λ v. node_after sys steps (opened sys steps) v) x.4 ∙ leads_more sys steps x.3 x.1 x.2 (due_leads x.0 x.3 x.1 x.5) x.6) x.7

  ends_reached : (choices : ℕ) (word : List ℕ) (w : WaitsSo) → EndsWaiting sys waits_on_slots steps w word → length word ≤ choices → IsReached (waiting_marking sys steps) sys steps choices w
  ends_reached choices word w ends few = by (leads_last sys steps word (Halted AllWaiting ends.0) ends.1)
    where
      by : ((word ≡ []) × (Halted AllWaiting ends.0 ≡ opened sys steps)) ⊎ ((stem : List ℕ) × (p : ℕ) × (l : Machine) × (word ≡ stem ++ p ∷ []) × LeadsTo sys steps stem (Choosing l) × (may sys l p ≡ true) × (Halted AllWaiting ends.0 ≡ chosen sys steps l p)) → IsReached (waiting_marking sys steps) sys steps choices w
      by (inl x) = inl (waits_in sys steps waits_on_slots (opened sys steps) ends.0 w (sym x.1) ends.2)
      by (inr x) =
          let len = ap length x.3 ∙ length-append x.0 (x.1 ∷ []) in
          inr (length x.0, x.2, x.1, omega (arith, len, few), leads_due (length x.0) x.0 x.2 refl x.4, x.5, waits_in sys steps waits_on_slots (chosen sys steps x.2 x.1) ends.0 w (sym x.6) ends.2)

  pub ends_within : (choices : ℕ) (ends : WaitingEnds) → AreReached (waiting_marking sys steps) sys steps choices (ends_seen ends) → AreLeading (waiting_marking sys steps) sys steps choices (ends_words ends) → AreEndsWithin sys waits_on_slots steps choices ends
  ends_within choices ends reached leading =
      record {
        each = λ e c. (let x = leading (entry_word e) (contains_map entry_word ends.known.entries e c) in (reached_ends e.1.items (entry_seen e) x.0, x.1));
        all = λ w word so few. contains_unmap entry_seen ends.known.entries w (reached.all w (ends_reached choices word w so few));
      }
