-- No two statuses, frames or options have the same numbers.
use Rattle.std.proofs.Common.{◌≡◌, ◌∙◌, ◌∷◌, ◌++◌, ◌+◌, ◌*◌, ◌<◌, ◌≤◌, ℕ, zero, suc, Bool, true, false, List, [], Option, Some, None, ap, append_assoc, arith, length, map, refl, sym, take}
use Rattle.std.specs.Prelude.{slice_index_or}
use Rattle.std.proofs.lemmas.List.{length-map, length-take-le, map-append, take_more}
use Rattle.cp_machine.specs.declared.process.ProcessState.{ProcessState}
use Rattle.cp_store.specs.declared.memory.Frame.{Frame}
use Rattle.cp_machine.specs.declared.process.Status.{Status}
use Rattle.cp_machine.specs.declared.process.Status.TheVariants.{Unstarted, Ready, AtGate, Delayed, Ended}
use Rattle.cp_machine.specs.Machine.{Thread, thread_at, thread_of}
use Rattle.cp_states.specs.Numbers.{number_at}
use Rattle.cp_effect_laws.specs.Parts.{Places, waits_in}
use Rattle.cp_parts.specs.Coded.{frame_code, if_waits, option_code, option_list, status_code, status_kind, status_where, waiting_code, waiting_pair}

abbrev status_from : ℕ → ℕ → Status
status_from zero w = Unstarted
status_from (suc zero) w = Ended
status_from (suc (suc zero)) w = Ready
status_from (suc (suc (suc zero))) w = AtGate w
status_from (suc (suc (suc (suc k)))) w = Delayed w

status_back : (s : Status) → status_from (status_kind s) (status_where s) ≡ s
status_back Unstarted = refl
status_back Ended = refl
status_back Ready = refl
status_back (AtGate k) = refl
status_back (Delayed k) = refl

status_pair : (s t : Status) → status_kind s ≡ status_kind t → status_where s ≡ status_where t → s ≡ t
status_pair s t kinds wheres = sym (status_back s) ∙ ap (λ k. status_from k (status_where s)) kinds ∙ ap (λ w. status_from (status_kind t) w) wheres ∙ status_back t

pub status_one : (s t : Status) → status_code s ≡ status_code t → s ≡ t
status_one s t e = status_pair s t (ap (λ l. number_at l 0) e) (ap (λ l. number_at l 1) e)

-- a status is told by its two numbers
pub status_read : (s : Status) (numbers : List ℕ) → numbers ≡ status_code s → status_from (number_at numbers 0) (number_at numbers 1) ≡ s
status_read s numbers e = ap (λ l. status_from (number_at l 0) (number_at l 1)) e ∙ status_back s

module _ (s : Status) (numbers : List ℕ) (e : numbers ≡ status_code s) where
  pub unstarted_read : number_at numbers 0 ≡ 0 → Unstarted ≡ s
  unstarted_read is = sym (ap (λ k. status_from k (number_at numbers 1)) is) ∙ status_read s numbers e

  pub ended_read : number_at numbers 0 ≡ 1 → Ended ≡ s
  ended_read is = sym (ap (λ k. status_from k (number_at numbers 1)) is) ∙ status_read s numbers e

  pub ready_read : number_at numbers 0 ≡ 2 → Ready ≡ s
  ready_read is = sym (ap (λ k. status_from k (number_at numbers 1)) is) ∙ status_read s numbers e

  pub gate_read : number_at numbers 0 ≡ 3 → AtGate (number_at numbers 1) ≡ s
  gate_read is = sym (ap (λ k. status_from k (number_at numbers 1)) is) ∙ status_read s numbers e

delayed_from : (k w : ℕ) → (k ≡ 0 → ⊥) → (k ≡ 1 → ⊥) → (k ≡ 2 → ⊥) → (k ≡ 3 → ⊥) → Delayed w ≡ status_from k w
delayed_from zero w a b c d = absurd (a refl)
delayed_from (suc zero) w a b c d = absurd (b refl)
delayed_from (suc (suc zero)) w a b c d = absurd (c refl)
delayed_from (suc (suc (suc zero))) w a b c d = absurd (d refl)
delayed_from (suc (suc (suc (suc k)))) w a b c d = refl

pub delayed_read : (s : Status) (numbers : List ℕ) → numbers ≡ status_code s → (number_at numbers 0 ≡ 0 → ⊥) → (number_at numbers 0 ≡ 1 → ⊥) → (number_at numbers 0 ≡ 2 → ⊥) → (number_at numbers 0 ≡ 3 → ⊥) → Delayed (number_at numbers 1) ≡ s
delayed_read s numbers e a b c d = delayed_from (number_at numbers 0) (number_at numbers 1) a b c d ∙ status_read s numbers e

abbrev frame_from : List ℕ → Frame
frame_from l = record { routine = number_at l 0; component = number_at l 1; own = number_at l 2; base = number_at l 3; references = number_at l 4 }

pub frame_one : (f g : Frame) → frame_code f ≡ frame_code g → f ≡ g
frame_one f g e = ap frame_from e

abbrev option_from : ℕ → Option ℕ
option_from zero = None
option_from (suc n) = Some n

option_back : (x : Option ℕ) → option_from (option_code x) ≡ x
option_back None = refl
option_back (Some n) = refl

pub option_one : (x y : Option ℕ) → option_code x ≡ option_code y → x ≡ y
option_one x y e = sym (option_back x) ∙ ap option_from e ∙ option_back y

abbrev option_in : List ℕ → Option ℕ
option_in [] = None
option_in (n ∷ ns) = Some n

option_in_list : (x : Option ℕ) → option_in (option_list x) ≡ x
option_in_list None = refl
option_in_list (Some n) = refl

pub option_list_one : (x y : Option ℕ) → option_list x ≡ option_list y → x ≡ y
option_list_one x y e = sym (option_in_list x) ∙ ap option_in e ∙ option_in_list y

-- ---- who waits in a place

abbrev after_two : List ℕ → List ℕ
after_two [] = []
after_two (x ∷ []) = []
after_two (x ∷ y ∷ zs) = zs

module _ (l : Places) (place : ℕ) where
  starts_not : (s : Status) → waits_in l place s ≡ true → status_kind s ≡ 0 → ⊥
  starts_not Unstarted h e = absurd (cc)
  starts_not Ended h e = absurd (cc)
  starts_not Ready h e = absurd (cc)
  starts_not (AtGate k) h e = omega (arith, e)
  starts_not (Delayed k) h e = omega (arith, e)

  -- who waits there is told by the numbers
  pair_one : (s t : Status) → if_waits (waits_in l place s) (status_kind s) ≡ if_waits (waits_in l place t) (status_kind t) → if_waits (waits_in l place s) (status_where s) ≡ if_waits (waits_in l place t) (status_where t) → waits_in l place s ≡ true → t ≡ s
  pair_one s t kinds wheres h = go (waits_in l place t) refl
    where
      go : (b : Bool) → waits_in l place t ≡ b → t ≡ s
      go true e =
          sym (status_pair s t
          (sym (ap (λ b. if_waits b (status_kind s)) h) ∙ kinds ∙ ap (λ b. if_waits b (status_kind t)) e)
          (sym (ap (λ b. if_waits b (status_where s)) h) ∙ wheres ∙ ap (λ b. if_waits b (status_where t)) e))
      go false e = absurd (starts_not s h (sym (ap (λ b. if_waits b (status_kind s)) h) ∙ kinds ∙ ap (λ b. if_waits b (status_kind t)) e))

  same_pair : (f : Status → ℕ) (s t : Status) → (waits_in l place s ≡ true → t ≡ s) → (waits_in l place t ≡ true → t ≡ s) → if_waits (waits_in l place s) (f s) ≡ if_waits (waits_in l place t) (f t)
  same_pair f s t h k = go (waits_in l place s) (waits_in l place t) refl refl
    where
      go : (a b : Bool) → waits_in l place s ≡ a → waits_in l place t ≡ b → if_waits (waits_in l place s) (f s) ≡ if_waits (waits_in l place t) (f t)
      go true b e e' = ap (λ x. if_waits (waits_in l place x) (f x)) (sym (h e))
      go false true e e' = ap (λ x. if_waits (waits_in l place x) (f x)) (sym (k e'))
      go false false e e' = ap (λ b. if_waits b (f s)) e ∙ sym (ap (λ b. if_waits b (f t)) e')

  pub waiting_one : (ms ns : List Thread) (q : ℕ) → length ms ≡ length ns → waiting_code l place ms ≡ waiting_code l place ns → waits_in l place (thread_at ms q).status ≡ true → (thread_at ns q).status ≡ (thread_at ms q).status
  waiting_one [] [] q e h w = refl
  waiting_one [] (n ∷ ns) q e h w = absurd (omega (arith, e))
  waiting_one (m ∷ ms) [] q e h w = absurd (omega (arith, e))
  waiting_one (m ∷ ms) (n ∷ ns) zero e h w = pair_one m.status n.status (ap (λ l. number_at l 0) h) (ap (λ l. number_at l 1) h) w
  waiting_one (m ∷ ms) (n ∷ ns) (suc q) e h w = waiting_one ms ns q (omega (arith, e)) (ap after_two h) w

  pub waiting_same : (ms ns : List Thread) → length ms ≡ length ns → ((q : ℕ) → waits_in l place (thread_at ms q).status ≡ true → (thread_at ns q).status ≡ (thread_at ms q).status) → ((q : ℕ) → waits_in l place (thread_at ns q).status ≡ true → (thread_at ns q).status ≡ (thread_at ms q).status) → waiting_code l place ms ≡ waiting_code l place ns
  waiting_same [] [] e h k = refl
  waiting_same [] (n ∷ ns) e h k = absurd (omega (arith, e))
  waiting_same (m ∷ ms) [] e h k = absurd (omega (arith, e))
  waiting_same (m ∷ ms) (n ∷ ns) e h k =
      ap (λ a. a ∷ if_waits (waits_in l place m.status) (status_where m.status) ∷ waiting_code l place ms) (same_pair status_kind m.status n.status (h 0) (k 0))
      ∙ ap (λ a. if_waits (waits_in l place n.status) (status_kind n.status) ∷ a ∷ waiting_code l place ms) (same_pair status_where m.status n.status (h 0) (k 0))
      ∙ ap (λ xs. if_waits (waits_in l place n.status) (status_kind n.status) ∷ if_waits (waits_in l place n.status) (status_where n.status) ∷ xs) (waiting_same ms ns (omega (arith, e)) (λ q. h (suc q)) (λ q. k (suc q)))

-- ---- one process more

module _ (l : Places) (place : ℕ) where
  waiting_append : (ts us : List Thread) → waiting_code l place (ts ++ us) ≡ waiting_code l place ts ++ waiting_code l place us
  waiting_append [] us = refl
  waiting_append (t ∷ ts) us = ap (λ xs. if_waits (waits_in l place t.status) (status_kind t.status) ∷ if_waits (waits_in l place t.status) (status_where t.status) ∷ xs) (waiting_append ts us)

  pub waiting_long : (ts : List Thread) → length (waiting_code l place ts) ≡ 2 * length ts
  waiting_long [] = refl
  waiting_long (t ∷ ts) = let more = waiting_long ts in omega (arith, more)

  pub waiting_more : (ps : List ProcessState) (at : ℕ) (p : ProcessState) → at < length ps → slice_index_or ps at p ≡ p → waiting_code l place (map thread_of (take (at + 1) ps)) ≡ waiting_code l place (map thread_of (take at ps)) ++ waiting_pair l place p.status
  waiting_more ps at p lt read =
      ap (λ xs. waiting_code l place (map thread_of xs)) (take_more ps at p lt)
      ∙ ap (λ x. waiting_code l place (map thread_of (take at ps ++ x ∷ []))) read
      ∙ ap (waiting_code l place) (map-append thread_of (take at ps) (p ∷ []))
      ∙ waiting_append (map thread_of (take at ps)) (thread_of p ∷ [])

  -- the numbers of the first processes, with those of one more
  pub waiting_next : (ps : List ProcessState) (at : ℕ) (p : ProcessState) (numbers pair : List ℕ) → at < length ps → slice_index_or ps at p ≡ p → pair ≡ waiting_pair l place p.status → numbers ≡ waiting_code l place (map thread_of (take at ps)) →
      (numbers ++ number_at pair 0 ∷ []) ++ number_at pair 1 ∷ [] ≡ waiting_code l place (map thread_of (take (at + 1) ps))
  waiting_next ps at p numbers pair lt read pair_is is =
      append_assoc numbers (number_at pair 0 ∷ []) (number_at pair 1 ∷ [])
      ∙ ap (λ xs. xs ++ number_at pair 0 ∷ number_at pair 1 ∷ []) is
      ∙ ap (λ q. waiting_code l place (map thread_of (take at ps)) ++ number_at q 0 ∷ number_at q 1 ∷ []) pair_is
      ∙ sym (waiting_more ps at p lt read)

  -- two numbers for each of the first processes
  pub waiting_count : (ps : List ProcessState) (at : ℕ) (numbers : List ℕ) → at ≤ length ps → numbers ≡ waiting_code l place (map thread_of (take at ps)) → length numbers ≡ 2 * at
  waiting_count ps at numbers le is =
      let long = waiting_long (map thread_of (take at ps)) in
      omega (arith, ap length is, long, length-map (take at ps) thread_of, length-take-le at ps le)
