-- Two machines that differ in what they displayed alone, the second no more than the first, take the same steps until the output of the first is full.
-- Only `display` looks at the output, at how long it is.
use Rattle.std.proofs.Common.{◌≡◌, ◌⊎◌, inl, inr, ⊎_elim, ℕ, ◌+◌, ◌<◌, ◌≤◌, arith, List, [], ◌∷◌, ◌++◌, length, Option, Some, None, if◌then◌else◌, Bool, true, false, refl, sym, subst, ap}
use Rattle.cp_endless_laws.proofs.Words.{◌==◌, Tables, Entry, Shown, MOST_SHOWN, step_at, OutputFull, Kernel, length-append}
use Rattle.std.proofs.lemmas.Bool.{cases_order, ne_eqb, eqb-false}
use Rattle.cp_machine.specs.declared.event.Kernel.TheVariants as call
use Rattle.cp_machine.specs.Machine.{Machine, is_ready, is_pending, in_line, waits, with_stack, with_output}
use Rattle.cp_machine.specs.Opening.{admit_waiting, admit_at}
use Rattle.cp_machine.specs.Statements.{Stepped, show}
use Rattle.cp_machine.proofs.StepKeeps.{step_twins}
use Rattle.cp_endless_laws.specs.Silent.{ShowsLess, SlotsForgetLaw, without_output}

-- two steps: machines of which the second displayed less, and the same event; or the output of the first is full
abbrev Twins : Stepped → Stepped → Type 0
Twins x y = (x.event ≡ OutputFull) ⊎ ((x.event ≡ y.event) × ShowsLess x.machine y.machine)

-- ---- two machines of which the second displayed no more

module _ (m n : Machine) (a : ShowsLess m n) where
  -- what leaves the output of one as it was leaves it no less than the other's
  still_less : (k : Machine) → k.output ≡ m.output → ShowsLess k (with_output k n.output)
  still_less k e = record { same = refl; less = subst (λ l. length n.output ≤ length l) (sym e) a.less; room = subst (λ l. length l ≤ MOST_SHOWN) (sym e) a.room }

  admitted_at_less : (pending : Option ℕ) (pid : ℕ) → ShowsLess (admit_at pending m pid) (admit_at pending (with_output m n.output) pid)
  admitted_at_less None pid = still_less m refl
  admitted_at_less (Some monitor) pid = still_less (admit_at (Some monitor) m pid) refl

  -- ---- display

  -- where there is room in the first, there is room in the second
  room_too : (length m.output == MOST_SHOWN) ≡ false → (length n.output == MOST_SHOWN) ≡ false
  room_too e =
      let ne = eqb-false (length m.output) MOST_SHOWN e in
      ne_eqb (length n.output) MOST_SHOWN (λ d. ne (omega (arith, d, a.less, a.room)))

  one_more : (pid : ℕ) (rest : List Entry) (v : Shown) → (length m.output == MOST_SHOWN) ≡ false → ShowsLess (with_output (with_stack m pid rest) (m.output ++ v ∷ [])) (with_output (with_stack m pid rest) (n.output ++ v ∷ []))
  one_more pid rest v e =
      let ne = eqb-false (length m.output) MOST_SHOWN e in
      let mine = length-append m.output (v ∷ []) in
      let theirs = length-append n.output (v ∷ []) in
      record {
        same = refl;
        less = omega (arith, mine, theirs, a.less);
        room = below (length m.output) mine ne a.room;
      }
    where
      below : (k : ℕ) → length (m.output ++ v ∷ []) ≡ k + 1 → (k ≡ MOST_SHOWN → ⊥) → k ≤ MOST_SHOWN → length (m.output ++ v ∷ []) ≤ MOST_SHOWN
      below k e ne le =
          ⊎_elim
          (λ (same : k ≡ MOST_SHOWN). absurd (ne same))
          (λ (apart : (k < MOST_SHOWN) ⊎ (MOST_SHOWN < k)). ⊎_elim (λ (l : k < MOST_SHOWN). omega (arith, e, l)) (λ (l : MOST_SHOWN < k). absurd (omega (arith, l, le))) apart)
          (cases_order k MOST_SHOWN)

  show_twins : (pid : ℕ) (rest : List Entry) (v : Shown) → Twins (show m pid rest v) (show (with_output m n.output) pid rest v)
  show_twins pid rest v = by (length m.output == MOST_SHOWN) (length n.output == MOST_SHOWN) refl room_too (one_more pid rest v)
    where
      more : Machine → Machine
      more k = with_output (with_stack m pid rest) (k.output ++ v ∷ [])

      by : (b c : Bool) → (length m.output == MOST_SHOWN) ≡ b → (b ≡ false → c ≡ false) → (b ≡ false → ShowsLess (more m) (more n)) →
          Twins (if b then record { machine = m; event = OutputFull } else record { machine = more m; event = Kernel call.Display })
          (if c then record { machine = with_output m n.output; event = OutputFull } else record { machine = more n; event = Kernel call.Display })
      by true c e f g = inl refl
      by false false e f g = inr (refl, g refl)
      by false true e f g = absurd (let bad : true ≡ false = f refl in cc)

-- ---- a step, an admission and readings

step_less : (r : Tables) (m n : Machine) (pid : ℕ) → ShowsLess m n → Twins (step_at r m pid) (step_at r n pid)
step_less r m n pid a =
    subst (λ k. Twins (step_at r m pid) (step_at r k pid)) (sym a.same)
    (step_twins n.output Twins r m pid (λ k event e. inr (refl, still_less m n a k e)) (show_twins m n a pid))

admitted_less : (m n : Machine) (pid : ℕ) → ShowsLess m n → ShowsLess (admit_waiting m pid) (admit_waiting n pid)
admitted_less m n pid a = subst (λ k. ShowsLess (admit_waiting m pid) (admit_waiting k pid)) (sym a.same) (admitted_at_less m n a m.pending pid)

silent_less : (m n : Machine) → ShowsLess m n → ShowsLess m (without_output n)
silent_less m n a = record { same = ap without_output a.same; less = omega arith; room = a.room }

pub slots_forget : SlotsForgetLaw
slots_forget r discipline =
    record {
      start = record { same = refl; less = omega arith; room = omega arith };
      forgets = silent_less;
      ready = λ m n p a. sym (ap (λ k. is_ready k p) a.same);
      pending = λ m n a. sym (ap (λ k. is_pending k) a.same);
      lined = λ m n p a. sym (ap (λ k. in_line k p) a.same);
      waits = λ m n a. sym (ap (λ k. waits k) a.same);
      admit = λ m n p a. admitted_less m n p a;
      step = λ m n p a. step_less r m n p a;
    }
