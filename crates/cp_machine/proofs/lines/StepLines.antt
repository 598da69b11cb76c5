-- A step keeps each line the line of those at its gate.
use Rattle.std.proofs.Common.{◌≡◌, ◌∙◌, ℕ, ◌<◌, [], length, Option, Some, None, true, false, ap, refl, subst, arith}
use Rattle.cp_machine.proofs.Words.{Tables, IsSound, KindFits, Ready, Ended, LinesFit, MachineFits, Stepped, step_at}
use Rattle.cp_machine.specs.Machine.{Machine, Thread, thread_at, is_at_gate, is_pending, is_ready, is_ready_status, is_some, is_unstarted, with_permanents, with_status, with_thread}
use Rattle.cp_machine.proofs.CallerLemmas.{ready_thread}
use Rattle.cp_machine.proofs.Stepping.{Walking, step_blind, show_either}
use Rattle.cp_machine.proofs.rooms.Keeping.{kind_fits}
use Rattle.cp_machine.proofs.lines.KernelLines.{Lined, IsOff, line_of, like_lined, lines_as, lines_still, off_lined, read_set, ready_off, unstarted_off, entered_lines, let_in_lines, delayed_lines, continued_lines, signalled_lines}

abbrev Fine : Stepped → Type 0
Fine x = LinesFit x.machine

-- the statuses, the monitors and the pending monitor are the same
abbrev Same : Machine → Machine → Type 0
Same m n = ((q : ℕ) → (thread_at n.threads q).status ≡ (thread_at m.threads q).status) × (n.monitors ≡ m.monitors) × (n.pending ≡ m.pending)

same_thread : (m : Machine) (pid : ℕ) (x : Thread) → x.status ≡ (thread_at m.threads pid).status → Same m (with_thread m pid x)
same_thread m pid x e = (read_set (λ (t : Thread). t.status) m.threads pid x e, refl, refl)

same_on : (m n o : Machine) → Same m n → Same n o → Same m o
same_on m n o a b = ((λ q. b.0 q ∙ a.0 q), b.1 ∙ a.1, b.2 ∙ a.2)

none_pending : (pending : Option ℕ) → is_some pending ≡ false → pending ≡ None
none_pending None h = refl
none_pending (Some monitor) h = absurd (cc)

module _ (r : Tables) (m : Machine) (pid : ℕ) (sound : IsSound r) (fits : MachineFits r m) (lines : LinesFit m) (ready : is_ready m pid ≡ true) (still : m.pending ≡ None) where
  lined : (n : Machine) → Same m n → Lined n.threads n.monitors
  lined n s = like_lined m.threads n.threads m.monitors n.monitors (λ g q. ap (is_at_gate g) (s.0 q)) (λ g. ap (λ ms. line_of ms g) s.1) (lines_as m lines)

  calm : (n : Machine) → Same m n → n.pending ≡ None
  calm n s = s.2 ∙ still

  still_ready : (n : Machine) → Same m n → is_ready n pid ≡ true
  still_ready n s = ap is_ready_status (s.0 pid) ∙ ready

  off : (n : Machine) → Same m n → IsOff (thread_at n.threads pid).status
  off n s = ready_off _ (still_ready n s)

  kept : (n : Machine) → Same m n → LinesFit n
  kept n s = lines_still n (lined n s) (calm n s)

  walking : Walking r m pid [] (λ x y. Fine x) (λ n. Same m n)
  walking =
      record {
        begins = ((λ q. refl), refl, refl);
        changed = λ n permanents x e s. same_on m n (with_thread (with_permanents n permanents) pid x) s (same_thread (with_permanents n permanents) pid x e);
        initialised = λ n component s. s;
        goes = kept;
        fails = λ event. lines;
        enters = λ component monitor is n s.
            let within : monitor < r.monitors = subst (KindFits r) is (kind_fits r component sound) in
            let count : length n.monitors ≡ length m.monitors = ap length s.1 in
            entered_lines n pid monitor (lined n s) (calm n s) (ready_thread n pid (still_ready n s)) (off n s) (omega (arith, count, fits.monitors, within));
        leaves = λ monitor n s. let_in_lines n monitor (lined n s) (calm n s);
        delays = λ monitor cell n s. delayed_lines n pid monitor cell (lined n s) (calm n s) (off n s);
        continues = λ monitor cell n s. continued_lines n monitor cell (lined n s) (calm n s);
        signals = λ component monitor is cell n s.
            let within : monitor < r.monitors = subst (KindFits r) is (kind_fits r component sound) in
            let count : length n.monitors ≡ length m.monitors = ap length s.1 in
            signalled_lines n pid monitor cell (lined n s) (calm n s) (ready_thread n pid (still_ready n s)) (still_ready n s) (omega (arith, count, fits.monitors, within));
        ends = lines_still (with_status m pid Ended) (off_lined m.threads m.monitors pid _ (ready_off _ ready) (λ k. refl) (lines_as m lines)) still;
        shows = λ rest v. show_either Fine m pid rest v lines (kept _ (same_thread m pid _ refl));
      }

  step_fine : Fine (step_at r m pid)
  step_fine =
      step_blind r m pid [] (λ x y. Fine x) (λ n. Same m n) walking (λ n phases bindings s. s)
      (λ q is n s. lines_still (with_status n q Ready) (off_lined n.threads n.monitors q _ (unstarted_off _ (ap is_unstarted (s.0 q) ∙ is)) (λ k. refl) (lined n s)) (calm n s))

-- a step of a ready process keeps the lines
pub step_lines : (r : Tables) (m : Machine) (pid : ℕ) → IsSound r → MachineFits r m → LinesFit m → is_ready m pid ≡ true → is_pending m ≡ false → LinesFit (step_at r m pid).machine
step_lines r m pid sound fits lines ready still = step_fine r m pid sound fits lines ready (none_pending m.pending still)
