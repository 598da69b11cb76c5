-- What the frames of a process may name stays there where frames are opened and given up.
use Rattle.std.proofs.Common.{◌≡◌, ℕ, ◌+◌, ◌^◌, ◌<◌, ◌≤◌, ◌∙◌, List, ◌∷◌, ◌++◌, length, take, Option, Some, None, Ok, true, ap, sym, refl, subst, arith, get_or-set_same, get_or-set_other}
use Rattle.cp_machine.proofs.Words.{slice_set, replicate, nat_lt, ltb-true, Tables, routine_at, IsSound, CallFits, arguments_inside, binds_from, result_inside, IsOf}
use Rattle.cp_machine.proofs.Words.{IsTyped, Argument, Bound, Address, Permanent, Local, Frame, bind_frame, Memory, nowhere, and_left, and_right, Entry, Return}
use Rattle.cp_machine.proofs.Words.{InitEnd, frame_behind, open_frame, leave_frame, open_call, Machine, Thread, thread_at, no_thread, with_permanents, memory_at, add_frame}
use Rattle.cp_machine.proofs.Words.{arguments_of, rest_of, FrameFits, Follows, StackFits, ThreadFits, MachineFits, size_of}
use Rattle.std.proofs.lemmas.List.{length-set, get_or-take, get_or_append_left}
use Rattle.cp_store.specs.Inside.{HasCells}
use Rattle.cp_store.specs.Memory as store
use Rattle.cp_store.proofs.Opened.{opened_behind}
use Rattle.cp_machine.specs.Reach.{IsBehind, FrameReaches, ResultReaches, StackReaches, ThreadReaches}
use Rattle.cp_machine.proofs.frames.Covered.{covered}
use Rattle.cp_machine.proofs.frames.Framing.{Framed, Agree, rest_reaches, stack_agrees, thread_framed, names_below}
use Rattle.cp_machine.proofs.rooms.Keeping.{behind_follows}

-- what the caller's memory has lies below the new frame
has_behind : (r : Tables) (m : Memory) (g : Frame) (a : Address) (cells : ℕ) → length m.permanents ≡ length r.permanents → g.base ≡ length m.cells → HasCells m a cells → IsBehind r g a cells
has_behind r m g (Permanent number) cells p c h = omega (arith, h, p)
has_behind r m g (Local number) cells p c h = omega (arith, h, c)

result_reaches : (r : Tables) (g f : Frame) (slot : Option ℕ) → result_inside (routine_at r f.routine) (routine_at r g.routine) slot ≡ true → ResultReaches r g f slot
result_reaches r g f None h = tt
result_reaches r g f (Some slot) h =
    let image = length (routine_at r f.routine).image in
    let own = (routine_at r g.routine).result in (
      ltb-true slot image (and_left (nat_lt slot image) (nat_lt own (length (routine_at r g.routine).image)) h),
      ltb-true own (length (routine_at r g.routine).image) (and_right (nat_lt slot image) (nat_lt own (length (routine_at r g.routine).image)) h),
    )

module _ (r : Tables) (m : Machine) (pid : ℕ) (lt : pid < length m.threads) (sound : IsSound r) (typed : IsTyped r) (fits : MachineFits r m) (framed : Framed r m) where
  abbrev pub own : Thread
  own = thread_at m.threads pid

  own_fits : ThreadFits r own
  own_fits = fits.each pid lt

  -- the innermost frame is given up
  pub left_framed : (caller : Frame) (slot : Option ℕ) (es : List Entry) → Follows r own.frame caller → StackFits r caller es → StackReaches r own.references caller es → Framed r (leave_frame r m pid caller slot es)
  left_framed caller slot es follows stack reaches =
      let back : own.frame.references ≡ caller.references + (routine_at r caller.routine).references = follows.references in
      let agree : Agree own.frame.references own.references (take own.frame.references own.references) = λ k below. sym (get_or-take own.frame.references own.references k nowhere below) in
      thread_framed r m pid _ (λ l. stack_agrees r own.references _ own.frame.references caller es sound stack (omega (arith, back)) agree reaches) (λ q l ne. framed q l)

  -- the frames below a new one
  below_agree : (new : List Address) (routine : ℕ) → Agree (length own.references) (own.references ++ replicate (routine_at r routine).references nowhere) new → (rest : List Entry) → StackFits r own.frame rest → StackReaches r own.references own.frame rest → StackReaches r new own.frame rest
  below_agree new routine agree rest stack reaches =
      let all : length own.references ≡ own.frame.references + (routine_at r own.frame.routine).references = own_fits.references in
      let both : Agree (length own.references) own.references new = λ k below. sym (get_or_append_left own.references (replicate (routine_at r routine).references nowhere) nowhere k below) ∙ agree k below in
      stack_agrees r own.references new (length own.references) own.frame rest sound stack (omega (arith, all)) both reaches

  others : (n : Machine) (x : Thread) → n.threads ≡ slice_set m.threads pid x → (q : ℕ) → q < length n.threads → (q ≡ pid → ⊥) → ThreadReaches r (thread_at n.threads q)
  others n x same q l ne =
      let long = length-set m.threads pid x in
      let within : q < length m.threads = omega (arith, l, ap length same, long) in
      subst (λ ts. ThreadReaches r (thread_at ts q)) (sym same) (subst (ThreadReaches r) (sym (get_or-set_other m.threads pid q x no_thread ne)) (framed q within))

  module _ (routine component need : ℕ) (arguments : List Argument) (fit : CallFits r own.frame.routine need routine arguments) (of : IsOf r (routine_at r routine).system component) (rest : List Entry) (stack : StackFits r own.frame rest) (reaches : StackReaches r own.references own.frame rest) where
    abbrev g : Frame
    g = frame_behind r own routine component

    fits_behind : FrameFits r g
    fits_behind = (behind_follows r own own_fits routine component need arguments fit).fits

    -- a start: the routine has no `var` parameters
    pub opened_framed : (routine_at r routine).references ≡ 0 → Framed r (open_frame r m pid routine component (InitEnd own.frame component) rest)
    opened_framed none =
        let extents : length (routine_at r routine).extents ≡ (routine_at r routine).references = (sound.routines routine fit.routine).extents in
        let new = own.references ++ replicate (routine_at r routine).references nowhere in
        let frame : FrameReaches r new g = record { component = of; own = refl; behind = λ k l. absurd (omega (arith, l, extents, none)) } in
        thread_framed r m pid _ (λ l. rest_reaches r new g (routine_at r routine).body (InitEnd own.frame component ∷ rest) (frame, of.0, below_agree new routine (λ k below. refl) rest stack reaches)) (λ q l ne. framed q l)

    module _ (bounds : List Bound) (inside : arguments_inside (routine_at r own.frame.routine) (routine_at r routine) (size_of r routine) arguments ≡ true) (ends : binds_from (length (routine_at r routine).extents) 0 arguments ≡ true) (given : arguments_of m pid arguments ≡ Ok bounds) (slot monitor : Option ℕ) (result_fits : result_inside (routine_at r own.frame.routine) (routine_at r routine) slot ≡ true) where
      abbrev end : Entry
      end = Return own.frame slot monitor

      abbrev memory : Memory
      memory = store.open_frame (memory_at m pid) (routine_at r routine).image (routine_at r routine).references

      abbrev names : List Address
      names = (bind_frame memory g arguments bounds).references

      few : length own.references + (routine_at r routine).references < 2 ^ 64
      few =
          let room : length own.references + (routine_at r routine).reference_room ≤ r.references = fits_behind.references in
          let within : (routine_at r routine).references ≤ (routine_at r routine).reference_room = (sound.routines routine fit.routine).references in
          omega (arith, room, within, typed.words.references)

      frame : FrameReaches r names g
      frame =
          let covers = covered r m pid lt sound typed fits (framed pid lt) in
          let extents = (sound.routines routine fit.routine).extents in
          let had = opened_behind (memory_at m pid) m.bindings (routine_at r own.frame.routine) (routine_at r routine) own.frame g arguments bounds covers inside ends given extents refl few in
          record {
            component = of;
            own = refl;
            behind = λ k l. has_behind r (memory_at m pid) g _ _ fits.permanents refl (had k l);
          }

      abbrev t : Thread
      t = add_frame (record own { frame = g; stack = rest_of (routine_at r routine).body (end ∷ rest) }) (routine_at r routine)

      abbrev Bound_reaches : Thread → Type 0
      Bound_reaches x = StackReaches r (bind_frame (record { permanents = m.permanents; cells = x.cells; references = x.references }) x.frame arguments bounds).references x.frame x.stack

      t_reaches : Bound_reaches t
      t_reaches =
          let agree : Agree (length own.references) (own.references ++ replicate (routine_at r routine).references nowhere) names = names_below memory g arguments bounds (omega (arith, few)) in
          rest_reaches r names g (routine_at r routine).body (end ∷ rest) (frame, result_reaches r g own.frame slot result_fits, below_agree names routine agree rest stack reaches)

      pub called_framed : Framed r (open_call r m pid routine component arguments bounds slot monitor rest)
      called_framed =
          let n = open_frame r m pid routine component end rest in
          let x = bind_frame (memory_at n pid) (thread_at n.threads pid).frame arguments bounds in
          let same : thread_at n.threads pid ≡ t = get_or-set_same m.threads pid t no_thread lt in
          thread_framed r (with_permanents n x.permanents) pid _ (λ l. subst Bound_reaches (sym same) t_reaches) (others n t refl)
