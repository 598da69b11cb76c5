-- What the search of the code answers.
use Rattle.cp_at_once.proofs.Words.{◌≡◌, ◌∙◌, ℕ, List, Bool, true, false, length, refl, subst, sym, arith, All-weaker, Tables, Discipline, Machine, slots, silent_slots}
use Rattle.cp_at_once.proofs.Words.{without_output, slot_graph, LeadsToPlace, LeadsToEnd, ShowsLast, same_key, has, ok_to, all_at, HasWord, Holds, HasLeg}
use Rattle.cp_at_once.proofs.Words.{FoundAtOnce}
use Rattle.std.specs.Prelude.{◌∷◌, ◌++◌, [], All, IfOk, Result}
use Rattle.std.proofs.lemmas.List.{length-append}
use Rattle.std.proofs.lemmas.List.Elements.{All-push}
use Rattle.cp_at_once_laws.specs.OnSlots.{by_the_book}
use Rattle.cp_run.specs.declared.outcome.OutcomeKind.TheVariants.{StepLimit}
use Rattle.cp_ends.specs.Ends.{EndsSo, ShowsSo}
use Rattle.cp_ends.specs.Whole.{LeadsToState}
use Rattle.cp_ends.specs.declared.end.End.TheVariants.{Over, Alone, Spins}
use Rattle.cp_ends.proofs.words.Translated.{end_there, place_there, shows_there}
use Rattle.cp_at_once_laws.specs.OnSlots.{LeavesNothingOut}
use Rattle.cp_at_once.specs.Following.{Answers, IsGoneThrough, IsOneTooMany, knows_end, knows_value}
use Rattle.cp_at_once.specs.Whole.{HasTooMany, IsAnswer, IsComplete}
use Rattle.cp_at_once.proofs.Following.{States}
use Rattle.cp_at_once.proofs.Keeping.{Stated, one_apart}
use Rattle.cp_at_once.proofs.Pending.{never_pending}
use Rattle.cp_at_once.proofs.Tied.{searches}
use Rattle.cp_ends.proofs.named.Keys.{key_same, key_self}

module _ (nothing_out : LeavesNothingOut) (r : Tables) (steps most : ℕ) (found : FoundAtOnce) where
  -- ---- words

  module _ (discipline : Discipline) (states : States) (h : Holds r (slot_graph r discipline steps) most found states) where
    place : (s : Machine) (word : List ℕ) → LeadsToPlace (slot_graph r discipline steps) s word → LeadsToState (slots r discipline) without_output steps s word
    place s word leads = place_there (slots r discipline) without_output same_key steps key_same key_self s word leads

    reached : All (λ x. LeadsToState (slots r discipline) without_output steps x.0 x.1) states
    reached = All-weaker (λ x. LeadsToPlace (slot_graph r discipline steps) x.0 x.1) (λ x. LeadsToState (slots r discipline) without_output steps x.0 x.1) (λ x k. place x.0 x.1 k) states h.reached

    ends : All (λ e. HasWord states e.origin (EndsSo (silent_slots r discipline) steps e.end)) found.ends.items
    ends = All-weaker (λ e. HasWord states e.origin (LeadsToEnd (slot_graph r discipline steps) e.end)) (λ e. HasWord states e.origin (EndsSo (silent_slots r discipline) steps e.end)) (λ e k. (k.0, k.1, end_there (slots r discipline) without_output same_key steps key_same key_self e.end k.0 k.2)) found.ends.items h.ends

    values : All (λ v. HasWord states v.origin (ShowsSo (slots r discipline) without_output steps v.value)) found.values.items
    values = All-weaker (λ v. HasWord states v.origin (ShowsLast (slot_graph r discipline steps) v.value)) (λ v. HasWord states v.origin (ShowsSo (slots r discipline) without_output steps v.value)) (λ v k. (k.0, k.1, shows_there (slots r discipline) without_output same_key steps key_same key_self v.value k.0 k.2)) found.values.items h.values

    too_many : IsOneTooMany (slot_graph r discipline steps) most states → HasTooMany r discipline steps most
    too_many k =
        record {
          states = states ++ (k.state, k.word) ∷ [];
          count = (let few = h.few in let full = k.full in let one = length-append states ((k.state, k.word) ∷ []) in omega (arith, few, full, one));
          apart = one_apart states k.state k.word h.kept.apart k.new;
          reached = All-push (λ (x : Stated). LeadsToState (slots r discipline) without_output steps x.0 x.1) states (k.state, k.word) reached (place k.state k.word k.leads);
        }

  -- ---- nothing is left out

  complete : (states : States) → Holds r (slot_graph r by_the_book steps) most found states → IsGoneThrough (slot_graph r by_the_book steps) (HasLeg r by_the_book) 8 (length states) found states → knows_end found (Over StepLimit) ≡ false → IsComplete r steps found states
  complete states h t uncut =
      let all = searches r steps found states uncut t (λ i x at. never_pending r steps x.1 x.0 (all_at (λ x. LeadsToState (slots r by_the_book) without_output steps x.0 x.1) states i x (reached by_the_book states h) at)) in
      record {
        search = all;
        meaning = λ t read accepted laid_so. nothing_out t r read accepted laid_so steps 8 (λ m. has same_key states m) (λ k. knows_end found (Over k)) (λ q. knows_end found (Alone q)) (λ q. knows_end found (Spins q)) (λ v. knows_value found v) all;
      }

  -- ---- the answer

  true_false : true ≡ false → ⊥
  true_false e = cc

  whole : (discipline : Discipline) (states : States) → Holds r (slot_graph r discipline steps) most found states → IsGoneThrough (slot_graph r discipline steps) (HasLeg r discipline) 8 (length states) found states → discipline ≡ by_the_book → knows_end found (Over StepLimit) ≡ false → IsComplete r steps found states
  whole discipline states h t is uncut = complete states (subst (λ d. Holds r (slot_graph r d steps) most found states) is h) (subst (λ d. IsGoneThrough (slot_graph r d steps) (HasLeg r d) 8 (length states) found states) is t) uncut

  by : (discipline : Discipline) (b : Bool) → b ≡ found.is_whole → Answers r (slot_graph r discipline steps) (HasLeg r discipline) most 8 found b → IsAnswer r discipline steps most found
  by discipline true e (states, h, t) =
      record { states = states; kept = h.kept.entries; rows = h.kept.rows; few = h.few; apart = h.kept.apart; reached = reached discipline states h; ends = ends discipline states h; values = values discipline states h; whole = λ is first uncut. whole discipline states h t first uncut; too_many = λ none. absurd (true_false (e ∙ none)) }
  by discipline false e (states, h, many) =
      record { states = states; kept = h.kept.entries; rows = h.kept.rows; few = h.few; apart = h.kept.apart; reached = reached discipline states h; ends = ends discipline states h; values = values discipline states h; whole = λ is first uncut. absurd (true_false (sym (e ∙ is))); too_many = λ none. too_many discipline states h many }

-- of the code's result
pub says : {E : Type 0} → LeavesNothingOut → (r : Tables) (discipline : Discipline) (steps most : ℕ) (result : Result FoundAtOnce E) → IfOk result (λ found. Answers r (slot_graph r discipline steps) (HasLeg r discipline) most 8 found found.is_whole) → IfOk result (λ found. IsAnswer r discipline steps most found)
says out r discipline steps most result h = ok_to result _ _ h (λ found a. by out r steps most found discipline found.is_whole refl a)
