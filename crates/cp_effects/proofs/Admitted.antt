-- What is known of admissions, with a key more, with an admission more, and in a store that keeps all that has a number.
use Rattle.std.proofs.Common.{◌≡◌, ◌∙◌, ◌∷◌, ◌⊎◌, inl, inr, ℕ, [], None, Some, ap, subst, sym}
use Rattle.std.specs.Prelude.{slice_index_or}
use Rattle.std.proofs.lemmas.Bool.{cases_eq}
use Rattle.cp_slots.specs.Tables.{Tables}
use Rattle.cp_machine.specs.Opening.{admit_waiting}
use Rattle.cp_states.specs.Numbers.{number_at}
use Rattle.cp_states.specs.Pieces.{IsPiece, KeepPieces}
use Rattle.cp_parts.specs.declared.placing.PlaceTable.{PlaceTable}
use Rattle.cp_parts.specs.declared.store.PartStore.{PartStore}
use Rattle.cp_parts.specs.Parts.{KeepStore}
use Rattle.cp_parts.specs.Placed.{places_of}
use Rattle.cp_parts.proofs.Keeping.{part_on}
use Rattle.cp_parts.proofs.Pieces.{one_piece, piece_on}
use Rattle.cp_effects.specs.declared.admissions.AdmissionTable.{AdmissionTable}
use Rattle.cp_effects.specs.Admitting.{AreAdmissions, IsAdmission, IsAdmissionKey, IsKnownAdmission, part_after}

module _ (s u : PartStore) (t : PlaceTable) (r : Tables) (kept : KeepStore s u) where
  pub admission_on : (pid monitor before after : ℕ) → IsAdmission s t r pid monitor before after → IsAdmission u t r pid monitor before after
  admission_on pid monitor before after is =
      record {
        first = is.first;
        fits = is.fits;
        pending = is.pending;
        waits = is.waits;
        found = part_on s u t is.first ((places_of t).of_monitor monitor) before kept is.found;
        comes = part_on s u t (admit_waiting is.first pid) ((places_of t).of_monitor monitor) after kept is.comes;
      }

  pub admissions_on : (table : AdmissionTable) → AreAdmissions s t r table → AreAdmissions u t r table
  admissions_on table are key after is =
      let k = are key after is in
      record { pid = k.pid; monitor = k.monitor; before = k.before; keyed = k.keyed; is = admission_on k.pid k.monitor k.before after k.is }

module _ (s : PartStore) (t : PlaceTable) (r : Tables) (table : AdmissionTable) (are : AreAdmissions s t r table) where
  pub keys_more : (new : AdmissionTable) → KeepPieces table.keys.items.items table.keys.ends.items new.keys.items.items new.keys.ends.items → new.parts ≡ table.parts → AreAdmissions s t r new
  keys_more new kept parts key after is =
      let k = are key after (ap (λ v. slice_index_or v.items key None) (sym parts) ∙ is) in
      record {
        pid = k.pid;
        monitor = k.monitor;
        before = k.before;
        keyed = piece_on table.keys.items.items table.keys.ends.items new.keys.items.items new.keys.ends.items key (k.pid ∷ k.monitor ∷ k.before ∷ []) kept k.keyed;
        is = k.is;
      }

  pub admissions_more : (new : AdmissionTable) (key pid monitor before part : ℕ) → new.keys ≡ table.keys → part_after new key ≡ Some part → ((k : ℕ) → (k ≡ key → ⊥) → part_after new k ≡ part_after table k) →
      IsAdmissionKey table key pid monitor before → IsAdmission s t r pid monitor before part → AreAdmissions s t r new
  admissions_more new key pid monitor before part keys here others keyed admission k after is = go (cases_eq k key)
    where
      key_on : (j p q b : ℕ) → IsAdmissionKey table j p q b → IsAdmissionKey new j p q b
      key_on j p q b h = subst (λ x. IsPiece x.items.items x.ends.items j (p ∷ q ∷ b ∷ [])) (sym keys) h

      same_part : Some part ≡ Some after → part ≡ after
      same_part h = cc

      new_one : IsKnownAdmission s t r new key part
      new_one = record { pid = pid; monitor = monitor; before = before; keyed = key_on key pid monitor before keyed; is = admission }

      old_one : part_after table k ≡ Some after → IsKnownAdmission s t r new k after
      old_one h = let x = are k after h in record { pid = x.pid; monitor = x.monitor; before = x.before; keyed = key_on k x.pid x.monitor x.before x.keyed; is = x.is }

      go : (k ≡ key) ⊎ (k ≡ key → ⊥) → IsKnownAdmission s t r new k after
      go (inl same) = subst (λ j. IsKnownAdmission s t r new j after) (sym same) (subst (IsKnownAdmission s t r new key) (same_part (sym here ∙ ap (part_after new) (sym same) ∙ is)) new_one)
      go (inr ne) = old_one (sym (others k ne) ∙ is)

  -- what is known of the key of a row
  pub known_admission : (key pid monitor before after : ℕ) → IsAdmissionKey table key pid monitor before → part_after table key ≡ Some after → IsAdmission s t r pid monitor before after
  known_admission key pid monitor before after keyed is =
      subst (λ p. IsAdmission s t r p monitor before after) (ap (λ l. number_at l 0) same)
      (subst (λ q. IsAdmission s t r k.pid q before after) (ap (λ l. number_at l 1) same)
      (subst (λ b. IsAdmission s t r k.pid k.monitor b after) (ap (λ l. number_at l 2) same) k.is))
    where
      k : IsKnownAdmission s t r table key after
      k = are key after is

      same : k.pid ∷ k.monitor ∷ k.before ∷ [] ≡ pid ∷ monitor ∷ before ∷ []
      same = one_piece table.keys.items.items table.keys.ends.items key _ _ k.keyed keyed
