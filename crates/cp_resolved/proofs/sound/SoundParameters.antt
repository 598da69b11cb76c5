-- The parameters of system types that are components are cells of it in their order, where the count of its cells has not stopped.
use Rattle.std.proofs.Common.{◌≡◌, ℕ, zero, suc, ◌<◌, List, [], ◌∷◌, length, Option, Some, None, slice_get, slice_index_or, refl, sym, ap, ◌∙◌, ◌⊎◌, inl, inr, arith}
use Rattle.cp_resolved.proofs.Words.{none-some, same_Some, ComponentParameter, most, system_type, types_of, Listing, Layer, Owned, System, parameter_count}
use Rattle.cp_slots.specs.Tables.{Tables, SystemView, system_at, no_system, parameter_at, no_parameter}
use Rattle.cp_resolved.proofs.names.Entries.{there, entry_at, last_or_before}
use Rattle.cp_resolved.proofs.systems.Owning.{IsOwned}
use Rattle.cp_resolved.proofs.counts.Rooms.{Room}
use Rattle.cp_resolved.proofs.sound.SoundComponents.{Tabled}
use Rattle.cp_resolved.proofs.laid.Whole.{Whole}

record OwnedAs (v : SystemView) : Type 0 where
  owned : Owned
  is : v ≡ system_type owned
  ordered : IsOwned owned

past_entry : {X : Type 0} (xs : List X) (n : ℕ) (d : X) → slice_get xs n ≡ None → slice_index_or xs n d ≡ d
past_entry [] n d e = refl
past_entry (x ∷ xs) zero d e = absurd (none-some x (sym e))
past_entry (x ∷ xs) (suc n) d e = past_entry xs n d e

type_back : (ss : List System) (k : ℕ) (v : SystemView) → ((j : ℕ) (s : System) → slice_get ss j ≡ Some s → IsOwned s.owned) → slice_get (types_of ss) k ≡ Some v → OwnedAs v
type_back [] k v h e = absurd (none-some v e)
type_back (s ∷ ss) zero v h e = record { owned = s.owned; is = sym (same_Some (system_type s.owned) v e); ordered = h 0 s refl }
type_back (s ∷ ss) (suc k) v h e = type_back ss k v (λ j z g. h (suc j) z g) e

module _ (t : Tables) (l : Layer) (c : Listing) (r : Room) (d : Tabled t l c r) (w : Whole l) where
  owned_as : (k : ℕ) (v : SystemView) → slice_get t.systems k ≡ Some v → OwnedAs v
  owned_as k v e = go (last_or_before (types_of l.systems) (system_type l.owned) k v (ap (λ (xs : List SystemView). slice_get xs k) (sym d.systems) ∙ e))
    where
      go : (slice_get (types_of l.systems) k ≡ Some v) ⊎ ((k ≡ length (types_of l.systems)) × (v ≡ system_type l.owned)) → OwnedAs v
      go (inl g) = type_back l.systems k v (λ j s f. (w.owning.systems j s f).owned) g
      go (inr g) = record { owned = l.owned; is = g.1; ordered = w.owning.owned }

  abbrev IsAt : (k number : ℕ) → Type 0
  IsAt k number = (v : SystemView) × (system_at t k ≡ v) × OwnedAs v

  at_system : (k number : ℕ) → number < parameter_count t k → IsAt k number
  at_system k number lt = go (slice_get t.systems k) refl
    where
      go : (o : Option SystemView) → slice_get t.systems k ≡ o → IsAt k number
      go (Some v) e = (v, entry_at t.systems k no_system v e, owned_as k v e)
      go None e = absurd (let n : parameter_count t k ≡ 0 = ap (λ (v : SystemView). length v.parameters) (past_entry t.systems k no_system e) in omega (arith, lt, n))

  pub parameters_sound : (k number : ℕ) → (system_at t k).own < most → number < parameter_count t k → (parameter_at t k number).slot < (system_at t k).own
  parameters_sound k number below lt =
      let x = at_system k number lt in
      let o : Owned = x.2.owned in
      let e : system_at t k ≡ system_type o = x.1 ∙ x.2.is in
      let n : parameter_count t k ≡ length o.parameters = ap (λ (v : SystemView). length v.parameters) e in
      let b : (system_at t k).own ≡ o.cells = ap (λ (v : SystemView). v.own) e in
      let y = there o.parameters number (omega (arith, n, lt)) in
      let p : parameter_at t k number ≡ y.0 = ap (λ (v : SystemView). slice_index_or v.parameters number no_parameter) e ∙ entry_at o.parameters number no_parameter y.0 y.1 in
      let q : (parameter_at t k number).slot ≡ y.0.slot = ap (λ (c : ComponentParameter). c.slot) p in
      let h : y.0.slot < o.cells = x.2.ordered.inside (omega (arith, b, below)) number y.0 y.1 in
      omega (arith, q, b, h)

  pub rising_sound : (k i j : ℕ) → (system_at t k).own < most → i < j → j < parameter_count t k → (parameter_at t k i).slot < (parameter_at t k j).slot
  rising_sound k i j below less lt =
      let x = at_system k j lt in
      let o : Owned = x.2.owned in
      let e : system_at t k ≡ system_type o = x.1 ∙ x.2.is in
      let n : parameter_count t k ≡ length o.parameters = ap (λ (v : SystemView). length v.parameters) e in
      let b : (system_at t k).own ≡ o.cells = ap (λ (v : SystemView). v.own) e in
      let y = there o.parameters i (omega (arith, less, n, lt)) in
      let z = there o.parameters j (omega (arith, n, lt)) in
      let p : parameter_at t k i ≡ y.0 = ap (λ (v : SystemView). slice_index_or v.parameters i no_parameter) e ∙ entry_at o.parameters i no_parameter y.0 y.1 in
      let q : parameter_at t k j ≡ z.0 = ap (λ (v : SystemView). slice_index_or v.parameters j no_parameter) e ∙ entry_at o.parameters j no_parameter z.0 z.1 in
      let u : (parameter_at t k i).slot ≡ y.0.slot = ap (λ (c : ComponentParameter). c.slot) p in
      let v : (parameter_at t k j).slot ≡ z.0.slot = ap (λ (c : ComponentParameter). c.slot) q in
      let h : y.0.slot < z.0.slot = x.2.ordered.rising (omega (arith, b, below)) i j y.0 z.0 less y.1 z.1 in
      omega (arith, u, v, h)
