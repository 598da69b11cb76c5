-- What holds in each reached state, and that it holds where one process or one line changes.
use Rattle.std.proofs.Common.{◌≡◌, ℕ, ◌<◌, ◌≤◌, ◌∙◌, ◌⊎◌, inl, inr, Bool, true, false, ◌&&◌, not, List, [], ◌∷◌, ◌++◌, length, get_or, set, slice_set, ap, sym, refl, subst, arith, length-set}
use Rattle.cp_meaning.specs.State.{uninitialised, initialising, initialised, Component, component_at, no_component, unstarted, at_gate, Process, process_at, no_process, has_entry, waits_at, is_inside}
use Rattle.cp_meaning.specs.Kernel.{with_line}
use Rattle.cp_meaning.proofs.Frames.{at_set, frames, entry_in, initial_in, entry-frames, ItemsFit, Descends, descends_same}
use Rattle.cp_meaning.proofs.Good.{IsMonitor, status_at, NonEmpty, StatusMoves}
use Rattle.cp_meaning.proofs.Stored.{field_kept}

-- ---- inside

inside_and : (a b : Bool) → (a && not b) ≡ true → (a ≡ true) × (b ≡ false)
inside_and true false h = (refl, refl)
inside_and x y h = cc

and_inside : (a b : Bool) → a ≡ true → b ≡ false → (a && not b) ≡ true
and_inside true false h k = refl
and_inside x y h k = cc

pub inside_parts : (m : ℕ) (p : Process) → is_inside m p ≡ true → (entry_in m (frames p.calls) ≡ true) × (waits_at m p.status ≡ false)
inside_parts m p h = let parts = inside_and (has_entry m p.calls) (waits_at m p.status) h in (sym (entry-frames m p.calls) ∙ parts.0, parts.1)

pub inside_from : (m : ℕ) (p : Process) → entry_in m (frames p.calls) ≡ true → waits_at m p.status ≡ false → is_inside m p ≡ true
inside_from m p h k = and_inside (has_entry m p.calls) (waits_at m p.status) (entry-frames m p.calls ∙ h) k

-- ---- one process

pub record ProcessFits (cs : List Component) (p : Process) : Type 0 where
  pub fits : ItemsFit (frames p.calls) p.items
  pub order : Descends cs (frames p.calls)
  pub open_calls : (p.status ≡ unstarted → ⊥) → NonEmpty (frames p.calls)
  pub starting : (m : ℕ) → initial_in m (frames p.calls) ≡ true → status_at cs m ≡ initialising
  pub entering : (m : ℕ) → entry_in m (frames p.calls) ≡ true → status_at cs m ≡ initialised

-- ---- lines: each of a line waits at the gate, once

abbrev pub IsAbsent : ℕ → List ℕ → Type 0
IsAbsent q [] = Unit {0}
IsAbsent q (k ∷ line) = (q ≡ k → ⊥) × IsAbsent q line

abbrev pub LineFits : List Component → List Process → ℕ → List ℕ → Type 0
LineFits cs ps m [] = Unit {0}
LineFits cs ps m (q ∷ line) =
    IsMonitor cs m × (q < length ps) × ((process_at ps q).status ≡ at_gate m) × (entry_in m (frames (process_at ps q).calls) ≡ true) × IsAbsent q line × LineFits cs ps m line

abbrev pub line_at : List Component → ℕ → List ℕ
line_at cs m = (component_at cs m).line

-- at most one process passes the test
abbrev pub Unique : (Process → Bool) → List Process → Type 0
Unique test ps = (q k : ℕ) → q < length ps → k < length ps → test (process_at ps q) ≡ true → test (process_at ps k) ≡ true → q ≡ k

abbrev pub initialises_now : ℕ → Process → Bool
initialises_now m p = initial_in m (frames p.calls)

abbrev pub Nobody : List Process → ℕ → Type 0
Nobody ps m = (q : ℕ) → q < length ps → is_inside m (process_at ps q) ≡ true → ⊥

pub record Orderly (cs : List Component) (ps : List Process) : Type 0 where
  pub processes : (q : ℕ) → q < length ps → ProcessFits cs (process_at ps q)
  pub one_initial : (m : ℕ) → Unique (initialises_now m) ps
  pub one_inside : (m : ℕ) → IsMonitor cs m → Unique (is_inside m) ps
  pub lines : (m : ℕ) → LineFits cs ps m (line_at cs m)

-- ---- one process replaced

-- the process q after the process pid was replaced by x
pub which : (ps : List Process) (pid q : ℕ) (x : Process) → q < length ps → ((q ≡ pid) × (process_at (slice_set ps pid x) q ≡ x)) ⊎ ((q ≡ pid → ⊥) × (process_at (slice_set ps pid x) q ≡ process_at ps q))
which ps pid q x lt = go (at_set ps pid q x no_process)
  where
    go : ((q ≡ pid) × (pid < length ps) × (get_or (set ps pid x) q no_process ≡ x)) ⊎ ((q ≡ pid → length ps ≤ pid) × (get_or (set ps pid x) q no_process ≡ get_or ps q no_process)) →
        ((q ≡ pid) × (process_at (slice_set ps pid x) q ≡ x)) ⊎ ((q ≡ pid → ⊥) × (process_at (slice_set ps pid x) q ≡ process_at ps q))
    go (inl h) = inl (h.0, h.2)
    go (inr h) = inr ((λ e. (let le = h.0 e in omega arith)), h.1)

pub within_set : (ps : List Process) (pid q : ℕ) (x : Process) → q < length (slice_set ps pid x) → q < length ps
within_set ps pid q x lt = rw (← length-set ps pid x) lt

pub unique_set : (test : Process → Bool) (ps : List Process) (pid : ℕ) (x : Process) → Unique test ps → (test x ≡ true → (q : ℕ) → q < length ps → test (process_at ps q) ≡ true → q ≡ pid) → Unique test (slice_set ps pid x)
unique_set test ps pid x one only q k lq lk tq tk =
    go (which ps pid q x (within_set ps pid q x lq)) (which ps pid k x (within_set ps pid k x lk))
  where
    new : List Process
    new = slice_set ps pid x

    go : ((q ≡ pid) × (process_at (slice_set ps pid x) q ≡ x)) ⊎ ((q ≡ pid → ⊥) × (process_at (slice_set ps pid x) q ≡ process_at ps q)) →
        ((k ≡ pid) × (process_at (slice_set ps pid x) k ≡ x)) ⊎ ((k ≡ pid → ⊥) × (process_at (slice_set ps pid x) k ≡ process_at ps k)) → q ≡ k
    go (inl a) (inl b) = a.0 ∙ sym b.0
    go (inl a) (inr b) = a.0 ∙ sym (only (sym (ap test a.1) ∙ tq) k (within_set ps pid k x lk) (sym (ap test b.1) ∙ tk))
    go (inr a) (inl b) = only (sym (ap test b.1) ∙ tk) q (within_set ps pid q x lq) (sym (ap test a.1) ∙ tq) ∙ sym b.0
    go (inr a) (inr b) = one q k (within_set ps pid q x lq) (within_set ps pid k x lk) (sym (ap test a.1) ∙ tq) (sym (ap test b.1) ∙ tk)

-- the components before and after
pub record SameKinds (cs ds : List Component) : Type 0 where
  pub system : (n : ℕ) → (component_at ds n).system ≡ (component_at cs n).system
  pub kind : (n : ℕ) → (component_at ds n).kind ≡ (component_at cs n).kind

pub same_kinds : (cs : List Component) → SameKinds cs cs
same_kinds cs = record { system = λ n. refl; kind = λ n. refl }

module _ (cs ds : List Component) (ps : List Process) (pid : ℕ) (x : Process) (old : Orderly cs ps) (same : SameKinds cs ds)
    (status : (m : ℕ) → StatusMoves cs ds (frames (process_at ps pid).calls) m) where
  -- another process fits as before
  other_fits : (q : ℕ) → q < length ps → (q ≡ pid → ⊥) → (pid < length ps) ⊎ ((m : ℕ) → status_at ds m ≡ status_at cs m) → ProcessFits ds (process_at ps q)
  other_fits q lt ne in_range =
      let f = old.processes q lt in
      record {
        fits = f.fits;
        order = descends_same cs ds _ same.system same.kind f.order;
        open_calls = f.open_calls;
        starting = λ m h. go_starting m h (status m) in_range;
        entering = λ m h. go_entering m h (status m);
      }
    where
      go_starting : (m : ℕ) → initial_in m (frames (process_at ps q).calls) ≡ true → StatusMoves cs ds (frames (process_at ps pid).calls) m → (pid < length ps) ⊎ ((j : ℕ) → status_at ds j ≡ status_at cs j) → status_at ds m ≡ initialising
      go_starting m h (inl e) r = e ∙ (old.processes q lt).starting m h
      go_starting m h (inr (inl e)) r = absurd (let bad : uninitialised ≡ initialising = sym e.0 ∙ (old.processes q lt).starting m h in cc)
      go_starting m h (inr (inr e)) (inl r) = absurd (ne (old.one_initial m q pid lt r h e.1))
      go_starting m h (inr (inr e)) (inr r) = r m ∙ (old.processes q lt).starting m h

      go_entering : (m : ℕ) → entry_in m (frames (process_at ps q).calls) ≡ true → StatusMoves cs ds (frames (process_at ps pid).calls) m → status_at ds m ≡ initialised
      go_entering m h (inl e) = e ∙ (old.processes q lt).entering m h
      go_entering m h (inr (inl e)) = absurd (let bad : uninitialised ≡ initialised = sym e.0 ∙ (old.processes q lt).entering m h in cc)
      go_entering m h (inr (inr e)) = absurd (let bad : initialising ≡ initialised = sym e.0 ∙ (old.processes q lt).entering m h in cc)

  pub replaced : (pid < length ps) ⊎ ((m : ℕ) → status_at ds m ≡ status_at cs m) → ProcessFits ds x →
      ((m : ℕ) → initialises_now m x ≡ true → (q : ℕ) → q < length ps → initialises_now m (process_at ps q) ≡ true → q ≡ pid) →
      ((m : ℕ) → IsMonitor cs m → is_inside m x ≡ true → (q : ℕ) → q < length ps → is_inside m (process_at ps q) ≡ true → q ≡ pid) →
      ((m : ℕ) → LineFits ds (slice_set ps pid x) m (line_at ds m)) → Orderly ds (slice_set ps pid x)
  replaced in_range f initial inside lines =
      record {
        processes = λ q lt. go q (which ps pid q x (within_set ps pid q x lt)) (within_set ps pid q x lt);
        one_initial = λ m. unique_set (initialises_now m) ps pid x (old.one_initial m) (initial m);
        one_inside = λ m mon. unique_set (is_inside m) ps pid x (old.one_inside m (sym (same.kind m) ∙ mon)) (inside m (sym (same.kind m) ∙ mon));
        lines = lines;
      }
    where
      go : (q : ℕ) → ((q ≡ pid) × (process_at (slice_set ps pid x) q ≡ x)) ⊎ ((q ≡ pid → ⊥) × (process_at (slice_set ps pid x) q ≡ process_at ps q)) → q < length ps → ProcessFits ds (process_at (slice_set ps pid x) q)
      go q (inl h) lt = subst (ProcessFits ds) (sym h.1) f
      go q (inr h) lt = subst (ProcessFits ds) (sym h.1) (other_fits q lt h.0 in_range)

-- ---- lines

pub absent_by_status : (cs : List Component) (ps : List Process) (m q : ℕ) (line : List ℕ) → ((process_at ps q).status ≡ at_gate m → ⊥) → LineFits cs ps m line → IsAbsent q line
absent_by_status cs ps m q [] h f = tt
absent_by_status cs ps m q (k ∷ line) h f = ((λ same. h (ap (λ j. (process_at ps j).status) same ∙ f.2)), absent_by_status cs ps m q line h f.5)

pub line_set : (cs ds : List Component) (ps : List Process) (pid : ℕ) (x : Process) (m : ℕ) (line : List ℕ) → (component_at ds m).kind ≡ (component_at cs m).kind → IsAbsent pid line → LineFits cs ps m line → LineFits ds (slice_set ps pid x) m line
line_set cs ds ps pid x m [] k a f = tt
line_set cs ds ps pid x m (q ∷ line) k a f = go (line_set cs ds ps pid x m line k a.1 f.5) (which ps pid q x f.1)
  where
    go : LineFits ds (slice_set ps pid x) m line → ((q ≡ pid) × (process_at (slice_set ps pid x) q ≡ x)) ⊎ ((q ≡ pid → ⊥) × (process_at (slice_set ps pid x) q ≡ process_at ps q)) → LineFits ds (slice_set ps pid x) m (q ∷ line)
    go rest (inl h) = absurd (a.0 (sym h.0))
    go rest (inr h) = (k ∙ f.0, rw (length-set ps pid x) f.1, ap (λ p. p.status) h.1 ∙ f.2, ap (λ p. entry_in m (frames p.calls)) h.1 ∙ f.3, f.4, rest)

pub absent_more : (q pid : ℕ) (line : List ℕ) → (q ≡ pid → ⊥) → IsAbsent q line → IsAbsent q (line ++ pid ∷ [])
absent_more q pid [] ne a = (ne, tt)
absent_more q pid (k ∷ line) ne a = (a.0, absent_more q pid line ne a.1)

pub line_more : (cs : List Component) (ps : List Process) (m pid : ℕ) (line : List ℕ) → IsMonitor cs m → pid < length ps → (process_at ps pid).status ≡ at_gate m → entry_in m (frames (process_at ps pid).calls) ≡ true → IsAbsent pid line → LineFits cs ps m line → LineFits cs ps m (line ++ pid ∷ [])
line_more cs ps m pid [] mon lt st e a f = (mon, lt, st, e, tt, tt)
line_more cs ps m pid (q ∷ line) mon lt st e a f = (f.0, f.1, f.2, f.3, absent_more q pid line (λ same. a.0 (sym same)) f.4, line_more cs ps m pid line mon lt st e a.1 f.5)

-- ---- one line replaced

pub line_kinds : (cs : List Component) (m : ℕ) (line : List ℕ) → SameKinds cs (with_line cs m line)
line_kinds cs m line = record { system = field_kept (λ c. c.system) cs m _ refl; kind = field_kept (λ c. c.kind) cs m _ refl }

pub line_status : (cs : List Component) (m : ℕ) (line : List ℕ) (n : ℕ) → status_at (with_line cs m line) n ≡ status_at cs n
line_status cs m line = field_kept (λ c. c.status) cs m _ refl

-- the line of m, and that of each other one
pub line_which : (cs : List Component) (m n : ℕ) (line : List ℕ) → ((n ≡ m) × (line_at (with_line cs m line) n ≡ line)) ⊎ ((n ≡ m → length cs ≤ m) × (line_at (with_line cs m line) n ≡ line_at cs n))
line_which cs m n line = go (at_set cs m n _ no_component)
  where
    x : Component
    x = (let c = component_at cs m in record { path = c.path; system = c.system; kind = c.kind; status = c.status; environment = c.environment; line = line })

    go : ((n ≡ m) × (m < length cs) × (get_or (set cs m x) n no_component ≡ x)) ⊎ ((n ≡ m → length cs ≤ m) × (get_or (set cs m x) n no_component ≡ get_or cs n no_component)) →
        ((n ≡ m) × (line_at (with_line cs m line) n ≡ line)) ⊎ ((n ≡ m → length cs ≤ m) × (line_at (with_line cs m line) n ≡ line_at cs n))
    go (inl h) = inl (h.0, ap (λ c. c.line) h.2)
    go (inr h) = inr (h.0, ap (λ c. c.line) h.1)

line_same : (cs ds : List Component) (ps : List Process) (m : ℕ) (line : List ℕ) → (component_at ds m).kind ≡ (component_at cs m).kind → LineFits cs ps m line → LineFits ds ps m line
line_same cs ds ps m [] k f = tt
line_same cs ds ps m (q ∷ line) k f = (k ∙ f.0, f.1, f.2, f.3, f.4, line_same cs ds ps m line k f.5)

pub relined : (cs : List Component) (ps : List Process) (m : ℕ) (line : List ℕ) → Orderly cs ps → LineFits cs ps m line → Orderly (with_line cs m line) ps
relined cs ps m line old f =
    record {
      processes = λ q lt. (let p = old.processes q lt in record {
        fits = p.fits;
        order = descends_same cs (with_line cs m line) _ kinds.system kinds.kind p.order;
        open_calls = p.open_calls;
        starting = λ n h. line_status cs m line n ∙ p.starting n h;
        entering = λ n h. line_status cs m line n ∙ p.entering n h;
      });
      one_initial = old.one_initial;
      one_inside = λ n mon. old.one_inside n (sym (kinds.kind n) ∙ mon);
      lines = λ n. go n (line_which cs m n line);
    }
  where
    kinds : SameKinds cs (with_line cs m line)
    kinds = line_kinds cs m line

    go : (n : ℕ) → ((n ≡ m) × (line_at (with_line cs m line) n ≡ line)) ⊎ ((n ≡ m → length cs ≤ m) × (line_at (with_line cs m line) n ≡ line_at cs n)) → LineFits (with_line cs m line) ps n (line_at (with_line cs m line) n)
    go n (inl h) = subst (LineFits (with_line cs m line) ps n) (sym h.1) (line_same cs (with_line cs m line) ps n line (kinds.kind n) (subst (λ j. LineFits cs ps j line) (sym h.0) f))
    go n (inr h) = subst (LineFits (with_line cs m line) ps n) (sym h.1) (line_same cs (with_line cs m line) ps n (line_at cs n) (kinds.kind n) (old.lines n))
