-- What process b's call concerns is not a's: whom it wakes or starts, and the line of its monitor.
use Rattle.std.proofs.Common.{◌≡◌, ◌≢◌, ℕ, ◌<◌, ◌==◌, ◌∙◌, ◌⊎◌, inl, inr, Bool, true, false, ◌&&◌, not, List, [], ◌∷◌, length, Option, Some, None, Ok, ap, sym, refl, subst, length-set}
use Rattle.cp_tree.specs.declared.declaration.SystemKind.TheVariants as system_kind
use Rattle.cp_at_once_laws.proofs.Words.{Program, moved_to, is_anybody_inside, is_delayed_in, process_of, first_components, IsWellFormed, kind_at, frames, entry_in}
use Rattle.cp_at_once_laws.proofs.Words.{begun_process, delayed_told, LineFits, line_at, process_found, different, IsMonitor, NoneEntered, MoveFits}
use Rattle.cp_meaning.specs.State.{Environment, Component, Status, unstarted, ready, at_gate, delayed, ended, Process, process_at, State, is_inside, waits_at}
use Rattle.cp_meaning.specs.Move.{Move, stays, enters, leaves, delays, continues, starts, shows, ends, Doing}
use Rattle.cp_at_once_laws.proofs.pairs.Changes.{GoesFrom, Becomes, Changes, same, itself, woken, begins, left_by, moved_status, moved_component}
use Rattle.cp_at_once_laws.proofs.pairs.Facts.{done, Facts}
use Rattle.cp_at_once_laws.proofs.pairs.Fit.{StartsKnown, Fits}
use Rattle.cp_at_once_laws.proofs.pairs.Flags.{touched, starts_at, untouched, goes_not, starts_not, both_false, QuietDone, in_range, facts_at, holds_own, of, x, procs, own, ln, fa, not_started, StillNot, monitors_two, one_starts}
use Rattle.cp_at_once_laws.proofs.pairs.Holding.{held_told}
use Rattle.cp_at_once_laws.proofs.pairs.Inside.{mover_same, woken_same}
use Rattle.cp_at_once_laws.proofs.pairs.Merging.{mixed_processes, HeadOwn, HasBegun, MoveOwn, WokenOwn, StartedOwn}
use Rattle.cp_at_once_laws.proofs.pairs.Two.{flipped}

-- ---- who has begun

abbrev pub Begun : Status → Type 0
Begun unstarted = ⊥
Begun ready = Unit {0}
Begun (at_gate j) = Unit {0}
Begun (delayed j) = Unit {0}
Begun ended = Unit {0}

begun_or : (status : Status) → (status ≡ unstarted) ⊎ Begun status
begun_or unstarted = inl refl
begun_or _ = inr tt

becomes_begun : (move : Move) (status : Status) → Becomes move status → Begun status
becomes_begun (enters m) status (inl e) = subst Begun (sym e) tt
becomes_begun (enters m) status (inr e) = subst Begun (sym e) tt
becomes_begun _ status e = subst Begun (sym e) tt

pub begun_stays : (p : Program) (pid : ℕ) (d : Doing) (move : Move) (n : ℕ) (was now : Process) → Changes p pid d move n was now → Begun was.status → Begun now.status
begun_stays p pid d move n was now (same e) h = subst Begun (sym (ap (λ z. z.status) e)) h
begun_stays p pid d move n was now (itself status i b e) h = subst Begun (sym (ap (λ z. z.status) e)) (becomes_begun move status b)
begun_stays p pid d move n was now (woken m g i w e) h = subst Begun (sym (ap (λ z. z.status) e)) tt
begun_stays p pid d move n was now (begins c j x g i o u e) h = subst Begun (sym (ap (λ z. z.status) e)) tt

-- ---- who is inside a monitor that the step does not concern

none_entered : (cs : List Component) (d : Doing) (old : List Rattle.cp_meaning.proofs.Frames.Frame) (move : Move) → MoveFits cs old (frames d.calls) move → ((m : ℕ) → move ≡ enters m → ⊥) → NoneEntered cs old (frames d.calls)
none_entered cs d old stays h ne = h
none_entered cs d old (shows v) h ne = h
none_entered cs d old ends h ne = h
none_entered cs d old (enters m) h ne = absurd (ne m refl)
none_entered cs d old _ h ne = h.0

itself_free : (k : ℕ) (move : Move) (status : Status) → Becomes move status → ((m : ℕ) → move ≡ enters m → ⊥) → ((m : ℕ) → GoesFrom move m → m ≢ k) → waits_at k status ≡ false
itself_free k (enters m) status e ne h = absurd (ne m refl)
itself_free k (delays m) status e ne h = ap (waits_at k) e ∙ different m k (h m refl)
itself_free k _ status e ne h = ap (waits_at k) e

module _ (p : Program) (ok : IsWellFormed p) (rules : StartsKnown p) (s : State) (f : Fits p s) (a b : ℕ) (ne : a ≢ b) (ra : (process_at s.processes a).status ≡ ready) (rb : (process_at s.processes b).status ≡ ready) (da : Doing) (quiet : QuietDone p s a da) where
  abbrev pub mine : ℕ → Bool
  mine = own p ok rules s f a b ne ra rb da quiet

  abbrev pub ours : ℕ → Bool
  ours = procs p ok rules s f a b ne ra rb da quiet

  abbrev pub lines : ℕ → Bool
  lines = ln p ok rules s f a b ne ra rb da quiet

  does : Facts p s a da
  does = fa p ok rules s f a b ne ra rb da quiet

  -- after a's step the same processes are inside a monitor that it does not go out of
  pub inside_same : (k n : ℕ) (now : Process) → IsMonitor s.components k → ((m : ℕ) → GoesFrom da.move m → m ≢ k) → Changes p a da da.move n (process_at s.processes n) now → is_inside k now ≡ is_inside k (process_at s.processes n)
  inside_same k n now mon other (same e) = ap (is_inside k) e
  inside_same k n now mon other (itself status i become e) =
      ap (is_inside k) (e ∙ ap (λ j. left_by (process_at s.processes j) da status) i) ∙
      mover_same s.components k (process_at s.processes a) da status mon ra (itself_free k da.move status become quiet.no_enter other) (λ h. keeps (does.keeps k mon h))
      (none_entered s.components da (frames (process_at s.processes a).calls) da.move does.good.moves quiet.no_enter k mon) ∙
      ap (λ j. is_inside k (process_at s.processes j)) (sym i)
    where
      keeps : (entry_in k (frames da.calls) ≡ true) ⊎ GoesFrom da.move k → entry_in k (frames da.calls) ≡ true
      keeps (inl h) = h
      keeps (inr g) = absurd (other k g refl)
  inside_same k n now mon other (woken m g i w e) = ap (is_inside k) e ∙ woken_same k m (process_at s.processes n) (other m g) w
  inside_same k n now mon other (begins c j v is i o u e) =
      ap (is_inside k) e ∙ sym (ap (λ calls. Rattle.cp_meaning.specs.State.has_entry k calls && not (waits_at k (process_at s.processes n).status)) ((f.waits n).unstarted_outside u))

  module _ (db : Doing) (is_b : done p s b ≡ Ok db) where
    fb : Facts p s b db
    fb = facts_at p ok rules s f b db rb is_b

    -- who waits at b's monitor
    waits_free : (k n : ℕ) → GoesFrom db.move k → n < length s.processes → ((process_at s.processes n).status ≡ at_gate k) ⊎ ((process_at s.processes n).status ≡ delayed k) → flipped ours n ≡ true
    waits_free k n g lt w =
        both_false (n == a) (touched da.move (process_at s.processes n)) (different n a (λ e. not_ready e w))
        (untouched da.move (process_at s.processes n) (λ m h. at_other m h w) (not_started p ok rules s f a b ne ra rb da quiet n lt (λ u. not_fresh u w)))
      where
        not_ready : n ≡ a → ((process_at s.processes n).status ≡ at_gate k) ⊎ ((process_at s.processes n).status ≡ delayed k) → ⊥
        not_ready e (inl h) = (let bad : ready ≡ at_gate k = sym ra ∙ ap (λ j. (process_at s.processes j).status) (sym e) ∙ h in absurd cc)
        not_ready e (inr h) = (let bad : ready ≡ delayed k = sym ra ∙ ap (λ j. (process_at s.processes j).status) (sym e) ∙ h in absurd cc)

        not_fresh : (process_at s.processes n).status ≡ unstarted → ((process_at s.processes n).status ≡ at_gate k) ⊎ ((process_at s.processes n).status ≡ delayed k) → ⊥
        not_fresh u (inl h) = (let bad : unstarted ≡ at_gate k = sym u ∙ h in absurd cc)
        not_fresh u (inr h) = (let bad : unstarted ≡ delayed k = sym u ∙ h in absurd cc)

        at_other : (m : ℕ) → GoesFrom da.move m → ((process_at s.processes n).status ≡ at_gate k) ⊎ ((process_at s.processes n).status ≡ delayed k) → waits_at m (process_at s.processes n).status ≡ false
        at_other m h (inl e) = ap (waits_at m) e ∙ different k m (λ t. monitors_two p ok rules s f a b ne ra rb da quiet db fb m k h g (sym t))
        at_other m h (inr e) = ap (waits_at m) e ∙ different k m (λ t. monitors_two p ok rules s f a b ne ra rb da quiet db fb m k h g (sym t))

    module _ (X : State) where
      head_free : (k : ℕ) (line : List ℕ) → GoesFrom db.move k → LineFits s.components s.processes k line → HeadOwn (flipped ours) (flipped mine) (flipped lines) X line
      head_free k [] g h = tt
      head_free k (q ∷ line) g h = waits_free k q g h.1 (inl h.2)

      line_free : (k : ℕ) → GoesFrom db.move k → HeadOwn (flipped ours) (flipped mine) (flipped lines) X (line_at db.components k)
      line_free k g = head_free k (line_at db.components k) g (subst (LineFits s.components s.processes k) (sym (fb.good.layout.line k)) (f.orderly.orderly.lines k))

      goes_free : (k : ℕ) → GoesFrom db.move k → flipped lines k ≡ true
      goes_free k g = ap not (goes_not da.move k (λ m h. monitors_two p ok rules s f a b ne ra rb da quiet db fb m k h g))

      woken_free : (k : ℕ) (o : Option ℕ) → StillNot p ok rules s f a b ne ra rb da quiet X db b → GoesFrom db.move k → WokenOwn (flipped ours) (flipped mine) (flipped lines) X (moved_to ready s b db) k o
      woken_free k None still g = tt
      woken_free k (Some r) still g = go (is_delayed_in k (process_at (moved_to ready s b db).processes r).status) refl
        where
          waits : is_delayed_in k (process_at (moved_to ready s b db).processes r).status ≡ true → (process_at s.processes r).status ≡ delayed k
          waits e = sym (moved_status s b db rb r) ∙ delayed_told k (process_at (moved_to ready s b db).processes r).status e

          go : (t : Bool) → is_delayed_in k (process_at (moved_to ready s b db).processes r).status ≡ t → WokenOwn (flipped ours) (flipped mine) (flipped lines) X (moved_to ready s b db) k (Some r)
          go true e = let w = waits e in inl (waits_free k r g (begun_process s.processes r (λ u. (let bad : unstarted ≡ delayed k = sym u ∙ w in cc))) (inr w))
          go false e = inr (e, still k r g e)

      -- who has begun in s has begun in X
      abbrev pub AllBegun : Type 0
      AllBegun = (r : ℕ) → Begun (process_at s.processes r).status → Begun (process_at X.processes r).status

      begun_in : (status : Status) → Begun status → HasBegun (flipped ours) (flipped mine) (flipped lines) X status
      begun_in unstarted h = absurd h
      begun_in _ h = tt

      started_free : (c : ℕ) (e : Environment) → db.move ≡ starts c e → AllBegun → StartedOwn (flipped ours) (flipped mine) (flipped lines) X (moved_to ready s b db) c (process_of c (moved_to ready s b db).processes)
      started_free c e is all = go (process_of c (moved_to ready s b db).processes) refl
        where
          kind : kind_at (first_components p) c ≡ system_kind.Process
          kind = sym (f.owned.tree.kind c) ∙ (subst (λ m. MoveFits s.components (frames (process_at s.processes b).calls) (frames db.calls) m) is fb.good.moves).1

          fresh : (r : ℕ) → r < length s.processes → (process_at s.processes r).component ≡ c → (process_at s.processes r).status ≡ unstarted → (flipped ours r ≡ true) × (flipped mine c ≡ true)
          fresh r lt owner u = (
            both_false (r == a) (touched da.move (process_at s.processes r)) (different r a not_a)
                (untouched da.move (process_at s.processes r) (λ m g. ap (waits_at m) u) (λ d v other at. twice d v other (sym owner ∙ at))),
            both_false (of p ok rules s f a b ne ra rb c) (starts_at da.move c) (not_held (of p ok rules s f a b ne ra rb c) refl) (starts_not da.move c (λ d v other at. twice d v other at)),
          )
            where
              not_a : r ≡ a → ⊥
              not_a h = (let bad : ready ≡ unstarted = sym ra ∙ ap (λ j. (process_at s.processes j).status) (sym h) ∙ u in absurd cc)

              inside : c < length (first_components p)
              inside = subst (λ j. j < length (first_components p)) owner (f.owned.processes r lt).component

              twice : (d : ℕ) (v : Environment) → da.move ≡ starts d v → c ≡ d → ⊥
              twice d v other at = one_starts p ok rules s f a b ne ra rb da quiet db fb c v e (other ∙ ap (λ j. starts j v) (sym at)) is inside

              not_held : (t : Bool) → of p ok rules s f a b ne ra rb c ≡ t → of p ok rules s f a b ne ra rb c ≡ false
              not_held true h =
                  absurd (not_a (f.several r a lt (in_range p ok rules s f a ra)
                  (owner ∙ holds_own p ok rules s f (process_at s.processes a).component c (frames (process_at s.processes a).calls) kind (held_told (first_components p) (process_at s.processes a).component (frames (process_at s.processes a).calls) c h))))
              not_held false h = h

          go : (o : Option ℕ) → process_of c (moved_to ready s b db).processes ≡ o → StartedOwn (flipped ours) (flipped mine) (flipped lines) X (moved_to ready s b db) c o
          go None found = tt
          go (Some r) found = each (begun_or (process_at s.processes r).status)
            where
              there : (r < length (moved_to ready s b db).processes) × ((process_at (moved_to ready s b db).processes r).component ≡ c)
              there = process_found c (moved_to ready s b db).processes r found

              each : ((process_at s.processes r).status ≡ unstarted) ⊎ Begun (process_at s.processes r).status → StartedOwn (flipped ours) (flipped mine) (flipped lines) X (moved_to ready s b db) c (Some r)
              each (inl u) = inl (fresh r (subst (λ j. r < j) (length-set s.processes b _) there.0) (sym (moved_component s b db r) ∙ there.1) u)
              each (inr h) = inr (begun_in (process_at (moved_to ready s b db).processes r).status (subst Begun (sym (moved_status s b db rb r)) h), begun_in (process_at X.processes r).status (all r h))

      -- whether b has to wait is the same in both
      abbrev pub SameInside : Type 0
      SameInside = (m : ℕ) → db.move ≡ enters m → is_anybody_inside m (mixed_processes (flipped ours) s.processes X.processes) ≡ is_anybody_inside m s.processes

      -- b enters no monitor that a goes out of
      abbrev pub NoMeeting : Type 0
      NoMeeting = (m : ℕ) → db.move ≡ enters m → GoesFrom da.move m → ⊥

      pub moves_b : StillNot p ok rules s f a b ne ra rb da quiet X db b → AllBegun → SameInside → NoMeeting → (move : Move) → db.move ≡ move → MoveOwn (flipped ours) (flipped mine) (flipped lines) X s b db move
      moves_b still all inside apart (enters m) is = (inside m is, ap not (goes_not da.move m (λ k g e. apart m is (subst (GoesFrom da.move) e g))))
      moves_b still all inside apart (leaves m) is = let g : GoesFrom db.move m = subst (λ k. GoesFrom k m) (sym is) refl in (goes_free m g, line_free m g)
      moves_b still all inside apart (delays m) is = let g : GoesFrom db.move m = subst (λ k. GoesFrom k m) (sym is) refl in (goes_free m g, line_free m g)
      moves_b still all inside apart (continues m o going items) is = let g : GoesFrom db.move m = subst (λ k. GoesFrom k m) (sym is) refl in (goes_free m g, line_free m g, woken_free m o still g)
      moves_b still all inside apart (starts c e) is = started_free c e is all
      moves_b still all inside apart _ is = tt
