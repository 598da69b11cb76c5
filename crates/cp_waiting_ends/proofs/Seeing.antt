-- What is noted where a word arrives.
use Rattle.std.proofs.Common.{◌≡◌, ◌∙◌, Bool, true, false, if◌then◌else◌, ℕ, List, [], ◌∷◌, refl, sym, ap, subst}
use Rattle.std.specs.Prelude.{Contains, Option}
use Rattle.cp_slots.specs.Tables.{Tables}
use Rattle.cp_machine.specs.Machine.{Machine}
use Rattle.cp_machine.specs.declared.discipline.Discipline.{Discipline}
use Rattle.cp_run.specs.Code.{node_of}
use Rattle.cp_run.specs.Slots.{slots}
use Rattle.cp_run.specs.declared.outcome.Halt.{Halt}
use Rattle.cp_run.specs.declared.outcome.OutcomeKind.{OutcomeKind}
use Rattle.cp_endless_laws.specs.Silent.{silent_slots, waits_on_slots}
use Rattle.cp_layers.specs.Adding.{Adds, HasNoOthers}
use Rattle.cp_layers.specs.Leading.{with_word}
use Rattle.cp_layers.proofs.Adding.{adds_none}
use Rattle.cp_waiting_ends.specs.Again.{is_looked_at, seen_at}
use Rattle.cp_waiting_ends.specs.Waiting.{WaitsSo, ends_seen, ends_words, is_waiting, waits_at, waits_so}
use Rattle.cp_waiting_ends.specs.declared.ends.WaitingEnds.{WaitingEnds}
use Rattle.cp_waiting_ends.proofs.Waits.{adds_known, one_seen, waits_nowhere}

module _ (r : Tables) (discipline : Discipline) (looked : Option ℕ) (word : List ℕ) (halt : Halt OutcomeKind) (m : Machine) where
  none_of : (b : Bool) (those : List WaitsSo) → those ≡ [] → (if b then those else []) ≡ []
  none_of true those e = e
  none_of false those e = refl

  pub adds_nowhere : is_waiting halt ≡ false → (ends : WaitingEnds) → Adds (ends_seen ends) (seen_at r discipline looked word (node_of halt m)) (ends_seen ends)
  adds_nowhere off ends = subst (λ l. Adds (ends_seen ends) l (ends_seen ends)) (sym (none_of (is_looked_at looked word) (waits_at (silent_slots r discipline) waits_on_slots (node_of halt m)) (waits_nowhere (silent_slots r discipline) waits_on_slots m halt off))) (adds_none (ends_seen ends))

  -- a word that was not looked at
  pub adds_longer : is_looked_at looked word ≡ false → (ends : WaitingEnds) → Adds (ends_seen ends) (seen_at r discipline looked word (node_of halt m)) (ends_seen ends)
  adds_longer long ends = subst (λ (b : Bool). Adds (ends_seen ends) (if b then waits_at (silent_slots r discipline) waits_on_slots (node_of halt m) else []) (ends_seen ends)) (sym long) (adds_none (ends_seen ends))

  module _ (on : is_waiting halt ≡ true) (x : WaitsSo) (is : x ≡ waits_so (slots r discipline) waits_on_slots m) where
    one : x ∷ [] ≡ waits_at (silent_slots r discipline) waits_on_slots (node_of halt m)
    one = one_seen (silent_slots r discipline) waits_on_slots m halt on x is

    pub adds_seen : (ends : WaitingEnds) → Contains (ends_seen ends) x → Adds (ends_seen ends) (seen_at r discipline looked word (node_of halt m)) (ends_seen ends)
    adds_seen ends there = by (is_looked_at looked word)
      where
        by : (b : Bool) → Adds (ends_seen ends) (if b then waits_at (silent_slots r discipline) waits_on_slots (node_of halt m) else []) (ends_seen ends)
        by true = subst (λ l. Adds (ends_seen ends) l (ends_seen ends)) one (adds_known (ends_seen ends) x there)
        by false = adds_none (ends_seen ends)

    -- a word that was looked at
    seen_is : is_looked_at looked word ≡ true → x ∷ [] ≡ seen_at r discipline looked word (node_of halt m)
    seen_is short = one ∙ ap (λ (b : Bool). if b then waits_at (silent_slots r discipline) waits_on_slots (node_of halt m) else []) (sym short)

    pub adds_short : is_looked_at looked word ≡ true → (old ends : WaitingEnds) → Adds (ends_seen old) (x ∷ []) (ends_seen ends) → Adds (ends_seen old) (seen_at r discipline looked word (node_of halt m)) (ends_seen ends)
    adds_short short old ends h = subst (λ l. Adds (ends_seen old) l (ends_seen ends)) (seen_is short) h

    pub words_short : is_looked_at looked word ≡ true → (old ends : WaitingEnds) → HasNoOthers (ends_words old) ((x, word) ∷ []) (ends_words ends) → HasNoOthers (ends_words old) (with_word word (seen_at r discipline looked word (node_of halt m))) (ends_words ends)
    words_short short old ends h = subst (λ l. HasNoOthers (ends_words old) (with_word word l) (ends_words ends)) (seen_is short) h
