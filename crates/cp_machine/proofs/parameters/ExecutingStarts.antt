-- A component begins: a process becomes ready, or a class or monitor is being initialised.
use Rattle.std.proofs.Common.{◌≡◌, ◌∙◌, ℕ, ◌+◌, ◌<◌, ◌≤◌, ◌⊎◌, List, length, false, ap, sym, refl, subst, get_or-set_same, get_or-set_other}
use Rattle.cp_machine.proofs.Words.{slice_index_or, Tables, component_at, parameter_at, process_at, ComponentKind, Ready, Phase, Initialising, Uninitialised, HasBegunAs}
use Rattle.cp_slots.specs.Systems.{IsItself, IsOf, IsTyped, own_of, parameter_count}
use Rattle.cp_slots.specs.declared.tables.ComponentKind.TheVariants as kind
use Rattle.cp_machine.specs.Machine.{Machine, is_uninitialised, is_unstarted, no_thread, phase_at, thread_at, with_bindings, with_phase, with_status}
use Rattle.cp_machine.proofs.ListLemmas.{set_related}
use Rattle.cp_machine.proofs.parameters.Executing.{AllExecute, KeepsPhases, all_later, all_of, executing, thread_all}
use Rattle.cp_machine.proofs.parameters.ExecutingHanded.{begins}
use Rattle.cp_machine.proofs.parameters.ExecutingLemmas.{Executing}

-- ---- phases

pub initialising_begun : (m : Machine) (c : ℕ) → c < length m.phases → is_uninitialised (phase_at (with_phase m c Initialising) c) ≡ false
initialising_begun m c there = ap is_uninitialised (get_or-set_same m.phases c Initialising Uninitialised there)

pub initialising_keeps : (m : Machine) (c : ℕ) → KeepsPhases m (with_phase m c Initialising)
initialising_keeps m c = set_related (λ (p q : Phase). is_uninitialised p ≡ false → is_uninitialised q ≡ false) (λ p b. b) m.phases c Initialising Uninitialised (λ b. refl)

-- ---- a component begins

-- with its parameters bound, and with the cells of all others as they were
module _ (r : Tables) (typed : IsTyped r) (m : Machine) (h : Executing r m) (c : ℕ) (within : c < length r.components) (bindings : List ℕ) (new : (number : ℕ) → number < parameter_count r (component_at r c).system → IsOf r (parameter_at r (component_at r c).system number).system (slice_index_or bindings ((component_at r c).base + (parameter_at r (component_at r c).system number).slot) 0)) (kept : (cell : ℕ) → (cell < (component_at r c).base) ⊎ ((component_at r c).base + own_of r c ≤ cell) → slice_index_or bindings cell 0 ≡ slice_index_or m.bindings cell 0) where
  -- the process of a component is that of no other one
  process_is_one : (d p q : ℕ) → d < length r.components → (component_at r d).kind ≡ kind.Process p → (component_at r c).kind ≡ kind.Process q → p ≡ q → d ≡ c
  process_is_one d p q lt of_d of_c same =
      let mine : (process_at r p).component ≡ d = subst (λ k. IsItself r k d) of_d (typed.components d lt).itself in
      let its : (process_at r q).component ≡ c = subst (λ k. IsItself r k c) of_c (typed.components c within).itself in
      sym mine ∙ ap (λ k. (process_at r k).component) same ∙ its

  pub process_begins : (q : ℕ) → (component_at r c).kind ≡ kind.Process q → Executing r (with_status (with_bindings m bindings) q Ready)
  process_begins q of_c =
      let n = with_status (with_bindings m bindings) q Ready in
      let all : AllExecute r (with_bindings m bindings) = all_later r m (with_bindings m bindings) refl (λ d b. b) (all_of r m h) in
      executing r n (thread_all r (with_bindings m bindings) q (record (thread_at m.threads q) { status = Ready }) (all q) all)
      (begins r m n c typed within new kept (λ d lt ne begun. back d lt ne (component_at r d).kind refl begun) h.bound)
    where
      back : (d : ℕ) → d < length r.components → (d ≡ c → ⊥) → (k : ComponentKind) → (component_at r d).kind ≡ k → HasBegunAs (with_status (with_bindings m bindings) q Ready) d k → HasBegunAs m d k
      back d lt ne (kind.Process p) of_d begun =
          let other = get_or-set_other m.threads q p (record (thread_at m.threads q) { status = Ready }) no_thread (λ same. ne (process_is_one d p q lt of_d of_c same)) in
          subst (λ t. is_unstarted t.status ≡ false) other begun
      back d lt ne (kind.Monitor monitor) of_d begun = begun
      back d lt ne kind.Class of_d begun = begun

  pub inside_begins : Executing r (with_phase (with_bindings m bindings) c Initialising)
  inside_begins =
      let n = with_phase (with_bindings m bindings) c Initialising in
      executing r n (all_later r m n refl (initialising_keeps m c) (all_of r m h)) (begins r m n c typed within new kept (λ d lt ne begun. back d ne (component_at r d).kind begun) h.bound)
    where
      back : (d : ℕ) → (d ≡ c → ⊥) → (k : ComponentKind) → HasBegunAs (with_phase (with_bindings m bindings) c Initialising) d k → HasBegunAs m d k
      back d ne (kind.Process p) begun = begun
      back d ne (kind.Monitor monitor) begun = ap is_uninitialised (sym (get_or-set_other m.phases c d Initialising Uninitialised ne)) ∙ begun
      back d ne kind.Class begun = ap is_uninitialised (sym (get_or-set_other m.phases c d Initialising Uninitialised ne)) ∙ begun
