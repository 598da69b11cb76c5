-- From one due choice to the next.
use Rattle.std.specs.Prelude.{◌≡◌, ◌+◌, ◌++◌, ◌∷◌, ℕ, suc, List, [], ◌<◌, false, Option, None, Some}
use Rattle.cp_slots.specs.Tables.{Tables}
use Rattle.cp_machine.specs.System.{Machine, is_ready}
use Rattle.cp_machine.specs.declared.discipline.Discipline.{Discipline}
use Rattle.cp_run.specs.System.{System}
use Rattle.cp_run.specs.Fold.{Fold}
use Rattle.cp_run.specs.Run.{Node, Halted, Choosing, node_at, stretch, opened, chosen, turn_at}
use Rattle.cp_run.specs.declared.outcome.Halt.{Halt}
use Rattle.cp_run.specs.declared.outcome.Halt.TheVariants.{Choice, Ended}
use Rattle.cp_run.specs.declared.outcome.Turn.{Turn}
use Rattle.cp_endless_laws.specs.Moments.{Moment, moments_by, stretch_moments, moments}
use Rattle.cp_endless_laws.specs.Repeats.{Repeats, repeated_part}
use Rattle.cp_endless_laws.specs.Rounds.{spot_after, spot_by, opening_spot, chosen_spot}
use Rattle.cp_endless_laws.specs.Silent.{in_call_on_slots, silent_slots, waits_on_slots}
use Rattle.cp_ends.specs.declared.end.End.{End}

-- where it leads, where its stretch begins, if there is one, and its moments, of at most so many steps
pub record Leg (S : Type 0) : Type 0 where
  pub node : Node S
  pub spot : Option (S × ℕ)
  pub moments : ℕ → List (Moment S)

-- from a state, where this comes next
abbrev pub turn_leg : {S : Type 0} → System S → ℕ → S → Turn → Leg S
turn_leg sys steps s turn = record { node = node_at s (stretch sys steps s) turn; spot = spot_by s (λ q. Some (s, q)) turn; moments = λ n. moments_by (stretch_moments sys n s) turn }

-- the moment before the next step, if one is made
abbrev pub moment_at : {S : Type 0} → S → Turn → List (Moment S)
moment_at s turn = moments_by (λ q. record { state = s; mover = q } ∷ []) turn

-- from the start
abbrev pub first_leg : {S : Type 0} → System S → ℕ → Leg S
first_leg sys steps = record { node = opened sys steps; spot = opening_spot sys; moments = λ n. moments_by (stretch_moments sys n sys.start) (turn_at sys sys.start false 0) }

-- from a due choice
abbrev pub choice_leg : {S : Type 0} → System S → ℕ → S → ℕ → Leg S
choice_leg sys steps s p = record { node = chosen sys steps s p; spot = chosen_spot sys s p; moments = λ n. moments sys n s p }

abbrev pub IsHalted : {S : Type 0} → Node S → Type 0
IsHalted (Halted kind s) = Unit {0}
IsHalted (Choosing s) = ⊥

-- there is no choice any more, and its stretch is not seen to repeat
pub record Ends {S : Type 0} (sys : System S) (steps : ℕ) (leg : Leg S) : Type 0 where
  pub halted : IsHalted leg.node
  pub never : (s : S) (p : ℕ) → leg.spot ≡ Some (s, p) → Repeats sys steps s p → ⊥

-- what is seen of processes is the same in both
pub record IsAlike (m n : Machine) : Type 0 where
  pub waits : (q : ℕ) → waits_on_slots n q ≡ waits_on_slots m q
  pub ready : (q : ℕ) → is_ready n q ≡ is_ready m q
  pub inside : (q : ℕ) → in_call_on_slots n q ≡ in_call_on_slots m q

-- ---- what is seen of them; `sees w due ms` says that w is what is seen of these due choices and of the moments after them

-- its stretch is seen to repeat, and `again` is what is seen of the part that repeats
pub record GoesRound {S W : Type 0} (sys : System S) (sees : W → List S → List (Moment S) → Type 0) (steps : ℕ) (leg : Leg S) (again : W) : Type 0 where
  pub halted : IsHalted leg.node
  pub begin : S
  pub first : ℕ
  pub spot : leg.spot ≡ Some (begin, first)
  pub repeats : Repeats sys steps begin first
  pub seen : sees again [] (repeated_part repeats)

-- Where a leg came to, and what is seen of it, with the due choices before it: of as many steps as the limit, and once round if it repeats. Where
-- it ended, it says what is seen of the part that repeats.
abbrev pub ComesTo : {S W : Type 0} → System S → (W → List S → List (Moment S) → Type 0) → ℕ → Leg S → List S → W → Halt (Option W) → S → Type 0
ComesTo sys sees steps leg due w Choice s = (leg.node ≡ Choosing s) × sees w due (leg.moments steps)
ComesTo sys sees steps leg due w (Ended None) s = Ends sys steps leg × sees w due (leg.moments steps)
ComesTo sys sees steps leg due w (Ended (Some again)) s = (x : GoesRound sys sees steps leg again) × sees w due (leg.moments (steps + suc x.repeats.after))

-- where it ended, with what is seen of the part that repeats
abbrev pub with_round : {W : Type 0} → Option W → Halt End → Halt (Option W)
with_round again Choice = Choice
with_round again (Ended e) = Ended again

-- Some steps after it is in this state before a step of this process, but no more than the limit, a stretch is so again: then `again` is what is
-- seen of it, and `new` what is seen once round more than `old`.
abbrev pub SeesRound : {W : Type 0} → (W → List Machine → List (Moment Machine) → Type 0) → Tables → Discipline → ℕ → Machine → ℕ → W → W → Option W → Type 0
SeesRound sees r discipline steps s p old new None = ((k : ℕ) → k < steps → spot_after (silent_slots r discipline) (suc k) s p ≡ Some (s, p) → ⊥) × (new ≡ old)
SeesRound sees r discipline steps s p old new (Some again) =
    (k : ℕ) × (k < steps) × (spot_after (silent_slots r discipline) (suc k) s p ≡ Some (s, p)) × sees again [] (stretch_moments (silent_slots r discipline) (suc k) s p) ×
    ((due : List Machine) (ms : List (Moment Machine)) → sees old due ms → sees new due (ms ++ stretch_moments (silent_slots r discipline) (suc k) s p))

-- after due choices and moments, each step is one moment more
abbrev pub seer : {S : Type 0} → Fold S (List S × List (Moment S))
seer = record { on_step = λ s p event t x. (x.0, x.1 ++ record { state = s; mover = p } ∷ []); on_admission = λ p t x. x; on_choice = λ s p x. x }
