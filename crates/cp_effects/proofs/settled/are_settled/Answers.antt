use Rattle.std.proofs.Common.{◌≡◌, ◌∙◌, ◌+◌, ◌<◌, ◌≤◌, ◌⊎◌, inl, inr, ℕ, Bool, List, ap, arith, length, subst, sym}
use Rattle.std.proofs.lemmas.Bool.{cases_eq, cases_lt}
use Rattle.std.proofs.lemmas.List.{get_or_past, length-map}
use Rattle.cp_machine.specs.declared.process.Status.TheVariants.{Ended}
use Rattle.cp_machine.specs.Machine.{Machine, Thread, machine_of, no_thread, thread_at, thread_of}
use Rattle.cp_effect_laws.specs.Parts.{AreSettled, IsSettled, Places, status_at}
use Rattle.cp_parts.specs.Placed.{places_of}
use Rattle.cp_effects.specs.Noting.{among}
use Rattle.cp_effects.proofs.settled.are_settled.Goals as goal

one_more : (P : ℕ → Type 0) (at : ℕ) → P at → ((q : ℕ) → q < at → P q) → (q : ℕ) → q < at + 1 → P q
one_more P at here old q lt = go (cases_eq q at)
  where
    go : (q ≡ at) ⊎ (q ≡ at → ⊥) → P q
    go (inl e) = subst P (sym e) here
    go (inr ne) = old q (omega (arith, lt, ne))

-- there are no other processes
past : (ts : List Thread) (q : ℕ) → length ts ≤ q → (thread_at ts q).status ≡ Ended
past ts q ge = ap (λ (t : Thread). t.status) (get_or_past ts q no_thread ge)

all_settled : (l : Places) (some : ℕ → Bool) (pid count : ℕ) (m after : Machine) → length m.threads ≡ count → length after.threads ≡ count →
    ((q : ℕ) → q < count → (status_at after q ≡ status_at m q) ⊎ IsSettled l some pid q (status_at after q)) → AreSettled l some pid m after
all_settled l some pid count m after long long_after each q = go (cases_lt q count)
  where
    go : (q < count) ⊎ (count ≤ q) → (status_at after q ≡ status_at m q) ⊎ IsSettled l some pid q (status_at after q)
    go (inl lt) = each q lt
    go (inr ge) = inl (past after.threads q (omega (arith, long_after, ge)) ∙ sym (past m.threads q (omega (arith, long, ge))))

pub loop-number-preserved : goal.loop-number-preserved
loop-number-preserved c = λ count s m was is.
    (let at = c.loop-number.number in
    let lt : at < c.args.table.now.processes = omega (arith, count) in
    one_more _ at (c.may_stay.ensures c.if-not-may_stay.false s m (was.statuses at lt) (is at lt)) (c.loop-number.invariant count s m was is))

pub returns : goal.returns
returns c = λ _ count s m long was is.
    (let state = c.args.state.now in
    let t = c.args.table.now in
    all_settled (places_of t) (among c.args.touched.now.places.items) c.args.pid t.processes m (machine_of state) long (length-map state.processes.items thread_of ∙ count)
    (λ q lt. c.loop-number.invariant count s m was is q (omega (arith, lt, count))))
