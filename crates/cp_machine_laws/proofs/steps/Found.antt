-- The component that the place of an item leads to is one of the system type that the item wants.
use Rattle.cp_machine_laws.proofs.Words.{◌≡◌, ℕ, ◌<◌, List, ◌∷◌, ap, subst, length, Ok, ComponentPlace, Names, IsOf, ActionNames, Tables, item_at, routine_at, Entry, Rest}
use Rattle.cp_machine_laws.proofs.Words.{Reaches, IsSound, ActionFits, Machine, thread_at, is_ready_status}
use Rattle.cp_slots.specs.Code as code
use Rattle.cp_slots.specs.declared.place.ComponentPlace.TheVariants.{Own, Contained, Element, Parameter}
use Rattle.cp_machine.specs.declared.process.Status.TheVariants as status
use Rattle.cp_machine.specs.Fits.{EntryFits, StackFits, MachineFits}
use Rattle.cp_machine.specs.Memory.{component_of}
use Rattle.cp_machine.proofs.parameters.ExecutingAct.{process_finds}
use Rattle.cp_machine.proofs.rooms.KeepingAct.{action_fits}
use Rattle.cp_machine.proofs.frames.ReachingKept.{executing_of}

-- places that are the same plain data name the same
names_seen : (r : Tables) (k n : ℕ) (a b : ComponentPlace) → code.component_seen a ≡ code.component_seen b → Names r k a n → Names r k b n
names_seen r k n Own Own e h = h
names_seen r k n (Contained i) (Contained j) e h = subst (λ c. Names r k (Contained c) n) (cc) h
names_seen r k n (Parameter i) (Parameter j) e h = subst (λ c. Names r k (Parameter c) n) (cc) h
names_seen r k n (Element first low high stride x) (Element first2 low2 high2 stride2 y) e h =
    let a : first ≡ first2 = cc in
    let b : low ≡ low2 = cc in
    let c : high ≡ high2 = cc in
    let d : stride ≡ stride2 = cc in
    subst (λ i. Names r k (Element i low2 high2 stride2 y) n) a (subst (λ i. Names r k (Element first i high2 stride2 y) n) b (subst (λ i. Names r k (Element first low i stride2 y) n) c (subst (λ i. Names r k (Element first low high i y) n) d h)))
names_seen r k n a b e h = absurd (cc)

module _ (r : Tables) (m : Machine) (q : ℕ) (sound : IsSound r) (fits : MachineFits r m) (reach : Reaches r m) (many : q < length m.threads) (was_slot : (thread_at m.threads q).status ≡ status.Ready) (at : ℕ) (es : List Entry) (stack : (thread_at m.threads q).stack ≡ Rest at ∷ es) where
  pub entry_fits : EntryFits r (thread_at m.threads q).frame at (length es)
  entry_fits = (subst (λ us. StackFits r (thread_at m.threads q).frame us) stack (fits.each q many).stack).0

  pub action_fits_here : ActionFits r (thread_at m.threads q).frame.routine (item_at r at).need (item_at r at).action
  action_fits_here = action_fits r m q at (length es) sound entry_fits

  pub action_names : ActionNames r (routine_at r (thread_at m.threads q).frame.routine).system (item_at r at).action
  action_names = subst (λ k. ActionNames r (routine_at r k).system (item_at r at).action) entry_fits.nests.same (sound.typed.actions at entry_fits.nests.place)

  -- a place that is the same plain data as one that the item names
  pub found_of : (a b : ComponentPlace) (named n : ℕ) → code.component_seen a ≡ code.component_seen b → Names r (routine_at r (thread_at m.threads q).frame.routine).system a named → component_of m q b ≡ Ok n → IsOf r named n
  found_of a b named n seen names is =
      process_finds r m q many sound.typed fits (ap is_ready_status was_slot) (reach.frames q many) (executing_of r m reach) b named n (names_seen r (routine_at r (thread_at m.threads q).frame.routine).system named a b seen names) is
