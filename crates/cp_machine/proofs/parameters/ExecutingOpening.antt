-- In the opening state only the program has begun, which has no parameters.
use Rattle.std.proofs.Common.{◌≡◌, ◌∙◌, ℕ, zero, suc, ◌<◌, ◌⊎◌, inl, inr, [], length, Option, Some, None, true, false, ap, sym, refl, subst, arith}
use Rattle.cp_machine.proofs.Words.{replicate, slice_index_or, cases_eq, IsSound, KindFits, Tables, component_at, no_process, process_at, routine_at, ComponentKind}
use Rattle.cp_machine.proofs.Words.{Discipline, Ready, Uninitialised, Thread, is_uninitialised, is_unstarted, no_thread, thread_at, opening, still, unstarted_thread, AreBound}
use Rattle.cp_machine.proofs.Words.{EndsBegun, ExecutesAs, HasBegunAs, StackExecutes, rest_of, IsItself, IsTyped, parameter_count}
use Rattle.std.proofs.lemmas.List.{get_or-map, get_or-set_other, length-map}
use Rattle.cp_slots.specs.declared.tables.ComponentKind.TheVariants as kind
use Rattle.cp_machine.proofs.parameters.Executing.{AllExecute, ThreadExecutes, executing, thread_all}
use Rattle.cp_machine.proofs.parameters.ExecutingLemmas.{Executing}

none_initialised : (count component : ℕ) → is_uninitialised (slice_index_or (replicate count Uninitialised) component Uninitialised) ≡ true
none_initialised zero component = refl
none_initialised (suc count) zero = refl
none_initialised (suc count) (suc component) = none_initialised count component

module _ (r : Tables) (discipline : Discipline) (sound : IsSound r) (typed : IsTyped r) (alone : parameter_count r (component_at r (process_at r 0).component).system ≡ 0) where
  thread_is : (q : ℕ) → q < length r.processes → thread_at (still r discipline).threads q ≡ unstarted_thread r (process_at r q)
  thread_is q within = get_or-map (unstarted_thread r) r.processes q no_process no_thread within

  first_executes : (q : ℕ) → q < length r.processes → ThreadExecutes r (still r discipline) q (unstarted_thread r (process_at r q))
  first_executes q within = go (routine_at r (process_at r q).routine).body
    where
      itself : ExecutesAs (still r discipline) q (process_at r q).component (component_at r (process_at r q).component).kind
      itself = subst (ExecutesAs (still r discipline) q (process_at r q).component) (sym (typed.processes q within).kind) refl

      go : (body : Option ℕ) → StackExecutes r (still r discipline) q (unstarted_thread r (process_at r q)).frame (rest_of body []) × EndsBegun (still r discipline) (rest_of body [])
      go None = (itself, tt)
      go (Some at) = (itself, tt)

  still_executes : AllExecute r (still r discipline)
  still_executes q lt =
      let long : length (still r discipline).threads ≡ length r.processes = length-map r.processes (unstarted_thread r) in
      let within : q < length r.processes = omega (arith, long) in
      subst (ThreadExecutes r (still r discipline) q) (sym (thread_is q within)) (first_executes q within)

  -- what has begun is the program
  only_program : (c q : ℕ) → c < length r.components → (component_at r c).kind ≡ kind.Process q → is_unstarted (thread_at (opening r discipline).threads q).status ≡ false → (process_at r 0).component ≡ c
  only_program c q lt is begun = go (cases_eq q 0)
    where
      x : Thread
      x = record (thread_at (still r discipline).threads 0) { status = Ready }

      its : (process_at r q).component ≡ c
      its = subst (λ k. IsItself r k c) is (typed.components c lt).itself

      go : (q ≡ 0) ⊎ (q ≡ 0 → ⊥) → (process_at r 0).component ≡ c
      go (inl e) = ap (λ k. (process_at r k).component) (sym e) ∙ its
      go (inr ne) =
          let within : q < length r.processes = subst (KindFits r) is (sound.components c lt) in
          let other : thread_at (opening r discipline).threads q ≡ unstarted_thread r (process_at r q) = get_or-set_other (still r discipline).threads 0 q x no_thread ne ∙ thread_is q within in
          let idle : is_unstarted (thread_at (opening r discipline).threads q).status ≡ true = ap (λ (t : Thread). is_unstarted t.status) other in
          absurd (cc)

  begun_program : (c : ℕ) (k : ComponentKind) → c < length r.components → (component_at r c).kind ≡ k → HasBegunAs (opening r discipline) c k → (process_at r 0).component ≡ c
  begun_program c (kind.Process q) lt is begun = only_program c q lt is begun
  begun_program c _ lt is begun = (let none = none_initialised (length r.components) c in absurd (cc))

  opening_bound : AreBound r (opening r discipline)
  opening_bound c number lt begun few =
      let is = begun_program c (component_at r c).kind lt refl begun in
      let none : parameter_count r (component_at r c).system ≡ 0 = subst (λ d. parameter_count r (component_at r d).system ≡ 0) is alone in
      absurd (omega (arith, few, none))

  pub opening_executes : Executing r (opening r discipline)
  opening_executes =
      executing r (opening r discipline) (thread_all r (still r discipline) 0 (record (thread_at (still r discipline).threads 0) { status = Ready }) (still_executes 0) still_executes) opening_bound
