-- Process a's call concerns monitor m, which it is inside; process b enters m. Both orders make the same state.
use Rattle.std.proofs.Common.{◌≡◌, ◌≢◌, ℕ, ◌<◌, ◌≤◌, ◌∙◌, ◌⊎◌, inl, inr, Bool, true, false, not, if◌then◌else◌, List, [], ◌∷◌, ◌++◌, length, slice_set, Option, ap, sym, refl, subst, arith}
use Rattle.std.proofs.lemmas.List.{set_comm, set-set, get_or-set_same, get_or-set_other, ext_get_or, set-get_or}
use Rattle.cp_at_once_laws.proofs.Words.{cases_eq, length-set, SystemKind, Path, Doing}
use Rattle.cp_meaning.specs.State.{Environment, ComponentStatus, Component, component_at, no_component, Status, ready, at_gate, Process, process_at, no_process, Discipline, State}
use Rattle.cp_meaning.specs.Kernel.{with_line, with_line_of, line_of, moved_to, with_process_status, made_ready, first_in, entering}
use Rattle.cp_meaning.proofs.Stored.{field_kept}
use Rattle.cp_meaning.proofs.Orderly.{line_which, line_at}
use Rattle.cp_at_once_laws.proofs.reading.Mixed.{one_of, mix, mix_at, mix_length}
use Rattle.cp_at_once_laws.proofs.reading.Taking.{also_mixed}
use Rattle.cp_at_once_laws.proofs.pairs.Changes.{left_by}
use Rattle.cp_at_once_laws.proofs.pairs.Two.{AllStatic, silent, flipped}

-- ---- processes

pub other_at : (ps : List Process) (k j : ℕ) (z : Process) → j ≢ k → process_at (slice_set ps k z) j ≡ process_at ps j
other_at ps k j z ne = get_or-set_other ps k j z no_process ne

pub same_at : (ps : List Process) (k : ℕ) (z : Process) → k < length ps → process_at (slice_set ps k z) k ≡ z
same_at ps k z lt = get_or-set_same ps k z no_process lt

reversed : (a b : ℕ) → a ≢ b → b ≢ a
reversed a b ne e = ne (sym e)

module _ (ps : List Process) (a b m : ℕ) (ne : a ≢ b) (da db : Doing) (status : Status) where
  abbrev xa : Process → Process
  xa y = left_by y da status

  abbrev xb : Process → Status → Process
  xb y st = left_by y db st

  -- b goes in once a is out: b was not in the line, or it was alone in it
  alone_processes : b < length ps →
      slice_set (slice_set ps a (xa (process_at ps a))) b (xb (process_at (slice_set ps a (xa (process_at ps a))) b) ready) ≡
      (let qs = slice_set (slice_set ps b (xb (process_at ps b) (at_gate m))) a (xa (process_at (slice_set ps b (xb (process_at ps b) (at_gate m))) a)) in slice_set qs b (with_process_status (process_at qs b) ready))
  alone_processes lt =
      ap (λ y. slice_set (slice_set ps a (xa (process_at ps a))) b (xb y ready)) (other_at ps a b (xa (process_at ps a)) (reversed a b ne)) ∙
      set_comm ps a b (xa (process_at ps a)) (xb (process_at ps b) ready) ne ∙
      ap (λ l. slice_set l a (xa (process_at ps a))) (sym (set-set ps b (xb (process_at ps b) (at_gate m)) (xb (process_at ps b) ready))) ∙
      set_comm (slice_set ps b (xb (process_at ps b) (at_gate m))) b a (xb (process_at ps b) ready) (xa (process_at ps a)) (reversed a b ne) ∙
      ap (λ y. slice_set (slice_set (slice_set ps b (xb (process_at ps b) (at_gate m))) a (xa (process_at ps a))) b (with_process_status y ready))
      (sym (other_at (slice_set ps b (xb (process_at ps b) (at_gate m))) a b (xa (process_at ps a)) (reversed a b ne) ∙ same_at ps b (xb (process_at ps b) (at_gate m)) lt)) ∙
      ap (λ y. (let qs = slice_set (slice_set ps b (xb (process_at ps b) (at_gate m))) a (xa y) in slice_set qs b (with_process_status (process_at qs b) ready))) (sym (other_at ps b a (xb (process_at ps b) (at_gate m)) ne))

  -- h is woken
  woken_processes : (h : ℕ) → h ≢ a → h ≢ b →
      (let qs = slice_set (slice_set ps a (xa (process_at ps a))) h (with_process_status (process_at (slice_set ps a (xa (process_at ps a))) h) ready) in slice_set qs b (xb (process_at qs b) (at_gate m))) ≡
      (let qs = slice_set (slice_set ps b (xb (process_at ps b) (at_gate m))) a (xa (process_at (slice_set ps b (xb (process_at ps b) (at_gate m))) a)) in slice_set qs h (with_process_status (process_at qs h) ready))
  woken_processes h not_a not_b =
      ap (λ y. (let qs = slice_set (slice_set ps a (xa (process_at ps a))) h (with_process_status y ready) in slice_set qs b (xb (process_at qs b) (at_gate m)))) (other_at ps a h (xa (process_at ps a)) not_a) ∙
      ap (λ y. slice_set (slice_set (slice_set ps a (xa (process_at ps a))) h (with_process_status (process_at ps h) ready)) b (xb y (at_gate m)))
      (other_at (slice_set ps a (xa (process_at ps a))) h b (with_process_status (process_at ps h) ready) (reversed h b not_b) ∙ other_at ps a b (xa (process_at ps a)) (reversed a b ne)) ∙
      set_comm (slice_set ps a (xa (process_at ps a))) h b (with_process_status (process_at ps h) ready) (xb (process_at ps b) (at_gate m)) not_b ∙
      ap (λ l. slice_set l h (with_process_status (process_at ps h) ready)) (set_comm ps a b (xa (process_at ps a)) (xb (process_at ps b) (at_gate m)) ne) ∙
      ap (λ y. slice_set (slice_set (slice_set ps b (xb (process_at ps b) (at_gate m))) a (xa (process_at ps a))) h (with_process_status y ready))
      (sym (other_at (slice_set ps b (xb (process_at ps b) (at_gate m))) a h (xa (process_at ps a)) not_a ∙ other_at ps b h (xb (process_at ps b) (at_gate m)) not_b)) ∙
      ap (λ y. (let qs = slice_set (slice_set ps b (xb (process_at ps b) (at_gate m))) a (xa y) in slice_set qs h (with_process_status (process_at qs h) ready))) (sym (other_at ps b a (xb (process_at ps b) (at_gate m)) ne))

-- ---- components

made : Path → ℕ → SystemKind → ComponentStatus → Environment → List ℕ → Component
made path system kind status e line = record { path = path; system = system; kind = kind; status = status; environment = e; line = line }

-- all but the line
record SameButLine (c d : Component) : Type 0 where
  path : c.path ≡ d.path
  system : c.system ≡ d.system
  kind : c.kind ≡ d.kind
  status : c.status ≡ d.status
  environment : c.environment ≡ d.environment

same_all : (c d : Component) → SameButLine c d → c.line ≡ d.line → c ≡ d
unfolding made
same_all c d h l =
    ap (λ y. made y c.system c.kind c.status c.environment c.line) h.path ∙
    ap (λ y. made d.path y c.kind c.status c.environment c.line) h.system ∙
    ap (λ y. made d.path d.system y c.status c.environment c.line) h.kind ∙
    ap (λ y. made d.path d.system d.kind y c.environment c.line) h.status ∙
    ap (λ y. made d.path d.system d.kind d.status y c.line) h.environment ∙
    ap (λ y. made d.path d.system d.kind d.status d.environment y) l

but_line : (c d e : Component) → SameButLine c d → SameButLine d e → SameButLine c e
but_line c d e h k = record { path = h.path ∙ k.path; system = h.system ∙ k.system; kind = h.kind ∙ k.kind; status = h.status ∙ k.status; environment = h.environment ∙ k.environment }

-- of each component
abbrev AllButLine : List Component → List Component → Type 0
AllButLine cs ds = (n : ℕ) → SameButLine (component_at cs n) (component_at ds n)

relined_same : (cs : List Component) (m : ℕ) (l : List ℕ) → AllButLine (with_line cs m l) cs
relined_same cs m l n =
    record {
      path = field_kept (λ c. c.path) cs m _ refl n;
      system = field_kept (λ c. c.system) cs m _ refl n;
      kind = field_kept (λ c. c.kind) cs m _ refl n;
      status = field_kept (λ c. c.status) cs m _ refl n;
      environment = field_kept (λ c. c.environment) cs m _ refl n;
    }

all_same : (cs ds : List Component) → length cs ≡ length ds → AllButLine cs ds → ((n : ℕ) → line_at cs n ≡ line_at ds n) → cs ≡ ds
all_same cs ds e h l = ext_get_or no_component cs ds e (λ n lt. same_all (component_at cs n) (component_at ds n) (h n) (l n))

other_if : {A : Type 0} (b : Bool) (x y : A) → (if not b then x else y) ≡ (if b then y else x)
other_if true x y = refl
other_if false x y = refl

abbrev pub nothing : ℕ → Bool
nothing n = false

module _ (own : ℕ → Bool) (as' bs xs ys : List Component) (size : length as' ≡ length bs) (static : AllStatic as' bs) (x_size : length xs ≡ length as') (y_size : length ys ≡ length bs) (x_same : AllButLine xs as') (y_same : AllButLine ys bs) where
  -- b's changes over a's, and a's over b's
  abbrev over_a : List Component
  over_a = mix (flipped own) nothing bs xs

  abbrev over_b : List Component
  over_b = mix own nothing as' ys

  mixed_same : AllButLine over_a over_b
  mixed_same n = but_line (component_at over_a n) (one_of (not (own n)) (nothing n) (component_at bs n) (component_at xs n)) (component_at over_b n) (told _ _ (mix_at (flipped own) nothing bs xs n (sym size ∙ sym x_size)))
      (but_line _ (one_of (own n) (nothing n) (component_at as' n) (component_at ys n)) (component_at over_b n) between (told _ _ (sym (mix_at own nothing as' ys n (size ∙ sym y_size)))))
    where
      told : (c d : Component) → c ≡ d → SameButLine c d
      told c d e = record { path = ap (λ y. y.path) e; system = ap (λ y. y.system) e; kind = ap (λ y. y.kind) e; status = ap (λ y. y.status) e; environment = ap (λ y. y.environment) e }

      between : SameButLine (one_of (not (own n)) (nothing n) (component_at bs n) (component_at xs n)) (one_of (own n) (nothing n) (component_at as' n) (component_at ys n))
      between =
          record {
            path = (static n).path;
            system = (static n).system;
            kind = (static n).kind;
            status = other_if (own n) (component_at bs n).status (component_at xs n).status ∙ ap (λ y. if own n then y else (component_at bs n).status) (x_same n).status ∙ ap (λ y. if own n then (component_at as' n).status else y) (sym (y_same n).status);
            environment = other_if (own n) (component_at bs n).environment (component_at xs n).environment ∙ ap (λ y. if own n then y else (component_at bs n).environment) (x_same n).environment ∙ ap (λ y. if own n then (component_at as' n).environment else y) (sym (y_same n).environment);
          }

  -- lines are those of what lies below
  over_a_line : (n : ℕ) → line_at over_a n ≡ line_at xs n
  over_a_line n = ap (λ c. c.line) (mix_at (flipped own) nothing bs xs n (sym size ∙ sym x_size))

  over_b_line : (n : ℕ) → line_at over_b n ≡ line_at ys n
  over_b_line n = ap (λ c. c.line) (mix_at own nothing as' ys n (size ∙ sym y_size))

  over_size : length over_a ≡ length over_b
  over_size = mix_length (flipped own) nothing bs xs ∙ sym size ∙ sym (mix_length own nothing as' ys)

with_line_size : (cs : List Component) (m : ℕ) (l : List ℕ) → length (with_line cs m l) ≡ length cs
with_line_size cs m l = length-set cs m _

-- the line of m, and each other one
relined_at : (cs : List Component) (m : ℕ) (l : List ℕ) → m < length cs → line_at (with_line cs m l) m ≡ l
relined_at cs m l lt = go (line_which cs m m l)
  where
    go : ((m ≡ m) × (line_at (with_line cs m l) m ≡ l)) ⊎ ((m ≡ m → length cs ≤ m) × (line_at (with_line cs m l) m ≡ line_at cs m)) → line_at (with_line cs m l) m ≡ l
    go (inl h) = h.1
    go (inr h) = absurd (let le = h.0 refl in omega arith)

relined_other : (cs : List Component) (m n : ℕ) (l : List ℕ) → n ≢ m → line_at (with_line cs m l) n ≡ line_at cs n
relined_other cs m n l ne = go (line_which cs m n l)
  where
    go : ((n ≡ m) × (line_at (with_line cs m l) n ≡ l)) ⊎ ((n ≡ m → length cs ≤ m) × (line_at (with_line cs m l) n ≡ line_at cs n)) → line_at (with_line cs m l) n ≡ line_at cs n
    go (inl h) = absurd (ne h.0)
    go (inr h) = h.1

self_line : (cs : List Component) (m : ℕ) → with_line cs m (line_at cs m) ≡ cs
self_line cs m = set-get_or cs m no_component

turned : (c d : Component) → SameButLine c d → SameButLine d c
turned c d h = record { path = sym h.path; system = sym h.system; kind = sym h.kind; status = sym h.status; environment = sym h.environment }

-- the same but for lines, and the same lines but for that of m: the same, once that of m is the same
relined_all : (cs ds : List Component) (m : ℕ) (l : List ℕ) → m < length cs → length cs ≡ length ds → AllButLine cs ds → ((n : ℕ) → n ≢ m → line_at cs n ≡ line_at ds n) → with_line cs m l ≡ with_line ds m l
relined_all cs ds m l lt e h k =
    all_same (with_line cs m l) (with_line ds m l) (with_line_size cs m l ∙ e ∙ sym (with_line_size ds m l))
    (λ n. but_line _ (component_at cs n) _ (relined_same cs m l n) (but_line _ (component_at ds n) _ (h n) (turned _ _ (relined_same ds m l n))))
    (λ n. go n (cases_eq n m))
  where
    go : (n : ℕ) → (n ≡ m) ⊎ (n ≡ m → ⊥) → line_at (with_line cs m l) n ≡ line_at (with_line ds m l) n
    go n (inl same) = subst (λ j. line_at (with_line cs m l) j ≡ line_at (with_line ds m l) j) (sym same) (relined_at cs m l lt ∙ sym (relined_at ds m l (omega arith)))
    go n (inr other) = relined_other cs m n l other ∙ k n other ∙ sym (relined_other ds m n l other)

-- ---- states

state_of : List Process → List Component → Discipline → Option ℕ → State
state_of ps cs g o = record { processes = ps; components = cs; output = []; discipline = g; pending = o }

state_same : (ps qs : List Process) (cs ds : List Component) (g : Discipline) (o : Option ℕ) → ps ≡ qs → cs ≡ ds → state_of ps cs g o ≡ state_of qs ds g o
state_same ps qs cs ds g o h k = ap (λ y. state_of y cs g o) h ∙ ap (λ y. state_of qs y g o) k

same_fields : (cs : List Component) → AllButLine cs cs
same_fields cs n = record { path = refl; system = refl; kind = refl; status = refl; environment = refl }

-- da is what a's item does, and db what b's does; both leave all lines
module _ (s : State) (own : ℕ → Bool) (a b m : ℕ) (ne : a ≢ b) (da db : Doing) (status : Status) (size : length da.components ≡ length db.components) (static : AllStatic da.components db.components)
    (there : m < length da.components) (b_there : b < length s.processes) (lines : (n : ℕ) → line_at da.components n ≡ line_at db.components n) where
  -- a's call first: the state before the line is let in
  abbrev pub a_moved : State
  a_moved = moved_to status s a da

  -- b's call first: it waits
  abbrev pub b_waits : State
  b_waits = entering true s b m db

  -- and then a's: the state before the line is let in
  abbrev pub both_moved : State
  both_moved = moved_to status b_waits a (also_mixed own nothing b_waits.components da)

  abbrev pub then_b : State → Doing
  then_b t = also_mixed (flipped own) nothing t.components db

  waits_line : line_of both_moved m ≡ line_at db.components m ++ b ∷ []
  waits_line =
      over_b_line own da.components db.components da.components (with_line db.components m (line_at db.components m ++ b ∷ [])) size static refl (with_line_size db.components m _) (same_fields da.components) (relined_same db.components m _) m ∙
      relined_at db.components m (line_at db.components m ++ b ∷ []) (omega arith)

  -- what lies over one another, with one line of m
  same_relined : (xs : List Component) (l : List ℕ) → length xs ≡ length da.components → AllButLine xs da.components → ((n : ℕ) → n ≢ m → line_at xs n ≡ line_at da.components n) →
      with_line (mix (flipped own) nothing db.components xs) m l ≡ with_line (mix own nothing da.components (with_line db.components m (line_at db.components m ++ b ∷ []))) m l
  same_relined xs l e h k =
      let ys = with_line db.components m (line_at db.components m ++ b ∷ []) in
      relined_all (mix (flipped own) nothing db.components xs) (mix own nothing da.components ys) m l
      (let same = mix_length (flipped own) nothing db.components xs in omega arith)
      (over_size own da.components db.components xs ys size static e (with_line_size db.components m _) h (relined_same db.components m _))
      (mixed_same own da.components db.components xs ys size static e (with_line_size db.components m _) h (relined_same db.components m _))
      (λ n other.
      over_a_line own da.components db.components xs ys size static e (with_line_size db.components m _) h (relined_same db.components m _) n ∙ k n other ∙ lines n ∙ sym (relined_other db.components m n _ other) ∙
      sym (over_b_line own da.components db.components xs ys size static e (with_line_size db.components m _) h (relined_same db.components m _) n))

  -- nobody is in the line: b goes in in both orders
  pub alone_in_line : line_at da.components m ≡ [] → silent (entering false a_moved b m (then_b a_moved)) ≡ silent (first_in (line_of both_moved m) both_moved m)
  unfolding state_of
  alone_in_line empty =
      state_same _ _ _ _ s.discipline s.pending (alone_processes s.processes a b m ne da db status b_there)
      (sym (self_line (then_b a_moved).components m) ∙ ap (λ l. with_line (then_b a_moved).components m l) below ∙ same_relined da.components [] refl (same_fields da.components) (λ n other. refl)) ∙
      ap (λ l. silent (first_in l both_moved m)) (sym (waits_line ∙ ap (λ l. l ++ b ∷ []) (sym (lines m) ∙ empty)))
    where
      below : line_at (then_b a_moved).components m ≡ []
      below = over_a_line own da.components db.components da.components (with_line db.components m (line_at db.components m ++ b ∷ [])) size static refl (with_line_size db.components m _) (same_fields da.components) (relined_same db.components m _) m ∙ empty

  -- h is the first in the line: it goes in, and b is the last in both orders
  pub last_in_line : (h : ℕ) (l : List ℕ) → h ≢ a → h ≢ b → line_at da.components m ≡ h ∷ l →
      (let t = with_line_of (made_ready a_moved h) m l in silent (entering true t b m (then_b t))) ≡ silent (first_in (line_of both_moved m) both_moved m)
  unfolding state_of
  last_in_line h l not_a not_b is =
      state_same _ _ _ _ s.discipline s.pending (woken_processes s.processes a b m ne da db status h not_a not_b)
      (ap (λ k. with_line (then_b (with_line_of (made_ready a_moved h) m l)).components m (k ++ b ∷ [])) below ∙ same_relined (with_line da.components m l) (l ++ b ∷ []) (with_line_size da.components m l) (relined_same da.components m l) (λ n other. relined_other da.components m n l other)) ∙
      ap (λ k. silent (first_in k both_moved m)) (sym (waits_line ∙ ap (λ k. k ++ b ∷ []) (sym (lines m) ∙ is)))
    where
      below : line_at (then_b (with_line_of (made_ready a_moved h) m l)).components m ≡ l
      below = over_a_line own da.components db.components (with_line da.components m l) (with_line db.components m (line_at db.components m ++ b ∷ [])) size static (with_line_size da.components m l) (with_line_size db.components m _) (relined_same da.components m l) (relined_same db.components m _) m ∙
          relined_at da.components m l there

  -- r is woken out of a queue: it is inside, and b is the last in both orders
  pub last_after_woken : (r : ℕ) → r ≢ a → r ≢ b → (let t = made_ready a_moved r in silent (entering true t b m (then_b t))) ≡ silent (made_ready both_moved r)
  unfolding state_of
  last_after_woken r not_a not_b =
      state_same _ _ _ _ s.discipline s.pending (woken_processes s.processes a b m ne da db status r not_a not_b)
      (ap (λ k. with_line (then_b (made_ready a_moved r)).components m (k ++ b ∷ [])) (below ∙ lines m) ∙ same_relined da.components (line_at db.components m ++ b ∷ []) refl (same_fields da.components) (λ n other. refl) ∙
      ap (λ k. with_line both_moved.components m k) (sym waits_line) ∙ self_line both_moved.components m)
    where
      below : line_at (then_b (made_ready a_moved r)).components m ≡ line_at da.components m
      below = over_a_line own da.components db.components da.components (with_line db.components m (line_at db.components m ++ b ∷ [])) size static refl (with_line_size db.components m _) (same_fields da.components) (relined_same db.components m _) m
