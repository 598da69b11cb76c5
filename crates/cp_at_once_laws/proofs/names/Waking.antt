-- Who is delayed or has ended stays so as long as no choice is due: who wakes it is ready after that too.
use Rattle.std.proofs.Common.{◌≡◌, ◌≢◌, ℕ, ◌<◌, ◌≤◌, ◌∙◌, ◌⊎◌, inl, inr, Bool, true, false, if◌then◌else◌, List, [], ◌∷◌, length, Option, Some, None, ap, sym, refl, subst, arith, ◌==◌}
use Rattle.cp_at_once_laws.proofs.Words.{Program, LineFits, Finished, AllWaiting, Turn, Over, Goes, System, turn_after, settled_turn, event_of, is_call}
use Rattle.cp_machine.specs.declared.event.Event as slot_event
use Rattle.cp_machine.specs.declared.event.Event.TheVariants as event
use Rattle.cp_meaning.specs.State.{Status, unstarted, ready, at_gate, delayed, ended, Process, process_at, Gates, first_gates, any_gates, book_discipline, State}
use Rattle.cp_meaning.specs.Move.{Move, stays, enters, leaves, delays, continues, starts, shows, ends, Doing}
use Rattle.cp_meaning.specs.Kernel.{output_room, moved_to, with_process_status, first_in, let_in, process_of, starting_as, starting, displaying, kernel_step}
use Rattle.cp_meaning.proofs.Orderly as orderly
use Rattle.cp_at_once_laws.proofs.limits.Turns.{CallTurn, nobody, alone, choice, call_turn, which_turn, one_ready}
use Rattle.cp_at_once_laws.proofs.pairs.ByTheBook.{gates_first}
use Rattle.cp_at_once_laws.proofs.pairs.Changes.{GoesFrom, Becomes, left_by, replaced_at, Changes, same, itself, woken, begins, moved_other, kernel_changes}

-- ---- the turn after a call

pub goes_same : (q r : ℕ) → Goes q ≡ Goes r → q ≡ r
goes_same q r e = cc

-- where one process goes on after a call, it alone is ready
pub only_ready : {S : Type 0} (sys : System S) (t : S) (p y z : ℕ) (e : slot_event.Event) → sys.is_pending t ≡ false → is_call e ≡ true → turn_after sys t p e ≡ Goes y → z < sys.processes → sys.is_ready t z ≡ true → z ≡ y
only_ready sys t p y z e free call turn less now = go (settled_turn sys t true p) (which_turn sys t p) (sym (call_turn sys t p e free call) ∙ turn)
  where
    go : (u : Turn) → CallTurn sys t p u → u ≡ Goes y → z ≡ y
    go _ (nobody none) is = absurd (over (sys.waits t) is)
      where
        over : (w : Bool) → (if w then Over AllWaiting else Over Finished) ≡ Goes y → ⊥
        over true is = cc
        over false is = cc
    go _ (alone q one) is = one_ready sys t z q one less now ∙ goes_same q y is
    go _ (choice q r xs more) is = cc

-- ---- statuses of those who do not go on

-- delayed, or ended
abbrev pub IsStuck : Status → Type 0
IsStuck (delayed m) = Unit {0}
IsStuck ended = Unit {0}
IsStuck unstarted = ⊥
IsStuck ready = ⊥
IsStuck (at_gate m) = ⊥

abbrev pub IsAtGate : Status → Type 0
IsAtGate (at_gate m) = Unit {0}
IsAtGate (delayed m) = ⊥
IsAtGate ended = ⊥
IsAtGate unstarted = ⊥
IsAtGate ready = ⊥

module _ (p : Program) (s : State) (pid : ℕ) (d : Doing) (is_ready : (process_at s.processes pid).status ≡ ready) (lines : (m : ℕ) → LineFits s.components s.processes m (orderly.line_at s.components m)) (kept : (m : ℕ) → orderly.line_at d.components m ≡ orderly.line_at s.components m) (first : s.discipline ≡ book_discipline) where
  abbrev was : ℕ → Status
  was z = (process_at s.processes z).status

  -- who is woken by a delay stood at the gate
  first_wakes : (m : ℕ) (line : List ℕ) → LineFits s.components s.processes m line → (z : ℕ) → z ≢ pid → (process_at (first_in line (moved_to (delayed m) s pid d) m).processes z).status ≡ ready → (was z ≡ ready) ⊎ (was z ≡ at_gate m)
  first_wakes m [] fits z ne e = inl (sym (ap (λ (x : Process). x.status) (moved_other p s pid d is_ready lines kept (delayed m) z ne)) ∙ e)
  first_wakes m (h ∷ line) fits z ne e = go (replaced_at (moved_to (delayed m) s pid d).processes h z (with_process_status (process_at (moved_to (delayed m) s pid d).processes h) ready))
    where
      go : ((z ≡ h) × (h < length (moved_to (delayed m) s pid d).processes) × (process_at (first_in (h ∷ line) (moved_to (delayed m) s pid d) m).processes z ≡ with_process_status (process_at (moved_to (delayed m) s pid d).processes h) ready)) ⊎
          ((z ≡ h → length (moved_to (delayed m) s pid d).processes ≤ h) × (process_at (first_in (h ∷ line) (moved_to (delayed m) s pid d) m).processes z ≡ process_at (moved_to (delayed m) s pid d).processes z)) → (was z ≡ ready) ⊎ (was z ≡ at_gate m)
      go (inl x) = inr (ap was x.0 ∙ fits.2)
      go (inr x) = inl (sym (ap (λ (y : Process). y.status) (x.1 ∙ moved_other p s pid d is_ready lines kept (delayed m) z ne)) ∙ e)

  in_wakes : (m : ℕ) (g : Gates) → g ≡ first_gates → (z : ℕ) → z ≢ pid → (process_at (let_in g (moved_to (delayed m) s pid d) m).processes z).status ≡ ready → (was z ≡ ready) ⊎ (was z ≡ at_gate m)
  in_wakes m first_gates is z ne e = first_wakes m (orderly.line_at d.components m) (subst (LineFits s.components s.processes m) (sym (kept m)) (lines m)) z ne e
  in_wakes m any_gates is z ne e = absurd (let bad : any_gates ≡ first_gates = is in cc)

  -- what a step makes of the process z: it is as it was; or the process itself; or it is ready, and so is who made the step; or it stood at a gate, is ready, and who made the step is delayed; or it begins
  pub data Woken (move : Move) (z : ℕ) (now : Process) : Type 0 where
    unchanged : now.status ≡ was z → Woken move z now
    own : z ≡ pid → Woken move z now
    both_ready : (m : ℕ) → z ≢ pid → now.status ≡ ready → GoesFrom move m → ((status : Status) → Becomes move status → status ≡ ready) → Woken move z now
    let_go : (m : ℕ) → now.status ≡ ready → move ≡ delays m → (was z ≡ ready) ⊎ (was z ≡ at_gate m) → Woken move z now
    begun_now : was z ≡ unstarted → Woken move z now

  by_move : (move : Move) (m z : ℕ) → GoesFrom move m → z ≢ pid → (process_at (kernel_step p s pid d move).state.processes z).status ≡ ready → Woken move z (process_at (kernel_step p s pid d move).state.processes z)
  by_move (leaves k) m z g ne e = both_ready k ne e refl (λ status b. b)
  by_move (continues k o going items) m z g ne e = both_ready k ne e refl (λ status b. b)
  by_move (delays k) m z g ne e = let_go k e refl (in_wakes k s.discipline.gates (gates_first s first) z ne e)
  by_move _ m z g ne e = absurd g

  pub woken_by : (move : Move) (z : ℕ) → Woken move z (process_at (kernel_step p s pid d move).state.processes z)
  woken_by move z = go (kernel_changes p s pid d is_ready lines kept move first z)
    where
      go : Changes p pid d move z (process_at s.processes z) (process_at (kernel_step p s pid d move).state.processes z) → Woken move z (process_at (kernel_step p s pid d move).state.processes z)
      go (same e) = unchanged (ap (λ (x : Process). x.status) e)
      go (itself status e b is) = own e
      go (woken m g ne w e) = by_move move m z g ne (ap (λ (x : Process). x.status) e)
      go (begins c k e is ne h u now) = begun_now u

  -- what becomes of the process itself
  becomes_what : (move : Move) (status : Status) → Becomes move status → (status ≡ ready) ⊎ (IsAtGate status ⊎ IsStuck status)
  becomes_what (enters m) status (inl e) = inl e
  becomes_what (enters m) status (inr e) = inr (inl (subst IsAtGate (sym e) tt))
  becomes_what (delays m) status e = inr (inr (subst IsStuck (sym e) tt))
  becomes_what ends status e = inr (inr (subst IsStuck (sym e) tt))
  becomes_what _ status e = inl e

  -- its status afterwards; where nothing happened it is ready as before
  pub own_status : (move : Move) → (((process_at (kernel_step p s pid d move).state.processes pid).status ≡ ready) ⊎ Becomes move (process_at (kernel_step p s pid d move).state.processes pid).status)
  own_status move = go (kernel_changes p s pid d is_ready lines kept move first pid)
    where
      go : Changes p pid d move pid (process_at s.processes pid) (process_at (kernel_step p s pid d move).state.processes pid) → ((process_at (kernel_step p s pid d move).state.processes pid).status ≡ ready) ⊎ Becomes move (process_at (kernel_step p s pid d move).state.processes pid).status
      go (same e) = inl (ap (λ (x : Process). x.status) e ∙ is_ready)
      go (itself status e b is) = inr (subst (Becomes move) (sym (ap (λ (x : Process). x.status) is)) b)
      go (woken m g ne w e) = absurd (ne refl)
      go (begins c k e is ne h u now) = absurd (ne refl)

  pub own_what : (move : Move) → ((process_at (kernel_step p s pid d move).state.processes pid).status ≡ ready) ⊎ (IsAtGate (process_at (kernel_step p s pid d move).state.processes pid).status ⊎ IsStuck (process_at (kernel_step p s pid d move).state.processes pid).status)
  own_what move = go (own_status move)
    where
      go : ((process_at (kernel_step p s pid d move).state.processes pid).status ≡ ready) ⊎ Becomes move (process_at (kernel_step p s pid d move).state.processes pid).status →
          ((process_at (kernel_step p s pid d move).state.processes pid).status ≡ ready) ⊎ (IsAtGate (process_at (kernel_step p s pid d move).state.processes pid).status ⊎ IsStuck (process_at (kernel_step p s pid d move).state.processes pid).status)
      go (inl e) = inl e
      go (inr b) = becomes_what move (process_at (kernel_step p s pid d move).state.processes pid).status b

  pub goes_call : (q line : ℕ) (move : Move) (m : ℕ) → GoesFrom move m → is_call (event_of q line (kernel_step p s pid d move).event) ≡ true
  goes_call q line (leaves k) m g = refl
  goes_call q line (continues k o going items) m g = refl
  goes_call q line (delays k) m g = refl
  goes_call q line _ m g = absurd g

  -- who ends is not ready afterwards
  end_move : (q line : ℕ) (move : Move) → event_of q line (kernel_step p s pid d move).event ≡ event.Ended → move ≡ ends
  end_move q line ends e = refl
  end_move q line stays e = absurd (cc)
  end_move q line (enters m) e = absurd (cc)
  end_move q line (leaves m) e = absurd (cc)
  end_move q line (delays m) e = absurd (cc)
  end_move q line (continues m o going items) e = absurd (cc)
  end_move q line (starts c x) e = absurd (start_end (process_of c (moved_to ready s pid d).processes) e)
    where
      as_end : (r : ℕ) (status : Status) → event_of q line (starting_as p s pid d r status c x).event ≡ event.Ended → ⊥
      as_end r unstarted e = cc
      as_end r ready e = cc
      as_end r (at_gate m) e = cc
      as_end r (delayed m) e = cc
      as_end r ended e = cc

      start_end : (o : Option ℕ) → event_of q line (starting p s pid d o c x).event ≡ event.Ended → ⊥
      start_end None e = cc
      start_end (Some r) e = as_end r (process_at (moved_to ready s pid d).processes r).status e
  end_move q line (shows y) e = absurd (show_end (length s.output == output_room) e)
    where
      show_end : (b : Bool) → event_of q line (displaying b s pid d y).event ≡ event.Ended → ⊥
      show_end true e = cc
      show_end false e = cc

  pub end_stuck : pid < length s.processes → (q line : ℕ) → event_of q line (kernel_step p s pid d d.move).event ≡ event.Ended → IsStuck (process_at (kernel_step p s pid d d.move).state.processes pid).status
  end_stuck lt q line e = subst (λ v. IsStuck (process_at (kernel_step p s pid d v).state.processes pid).status) (sym (end_move q line d.move e)) (go (replaced_at s.processes pid pid (left_by (process_at s.processes pid) d ended)))
    where
      go : ((pid ≡ pid) × (pid < length s.processes) × (process_at (moved_to ended s pid d).processes pid ≡ left_by (process_at s.processes pid) d ended)) ⊎ ((pid ≡ pid → length s.processes ≤ pid) × (process_at (moved_to ended s pid d).processes pid ≡ process_at s.processes pid)) →
          IsStuck (process_at (moved_to ended s pid d).processes pid).status
      go (inl x) = subst IsStuck (sym (ap (λ (y : Process). y.status) x.2)) tt
      go (inr x) = (let le = x.0 refl in absurd (omega (arith, le, lt)))
