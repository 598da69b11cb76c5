-- The opening state, a step and an admission keep what exclusion rests on.
use Rattle.std.proofs.Common.{◌≡◌, ℕ, zero, suc, ◌<◌, ◌==◌, ◌∙◌, ◌⊎◌, inl, inr, Bool, true, false, List, [], ◌∷◌, length, map, slice_get, Option, Some, None, Ok, Err, ap, sym, refl, subst, arith, eqb-true, eq-eqb, if◌then◌else◌}
use Rattle.cp_meaning.proofs.Words.{SystemKind, Program, Outcome, items_of_all, component_there, Doing, takes, line_of, begun, Listed, components_of, IsExclusive}
use Rattle.cp_tree.specs.declared.declaration.SystemKind.TheVariants as system_kind
use Rattle.cp_meaning.specs.Values.{is_member}
use Rattle.cp_meaning.specs.Systems.{SystemMeaning, declared, own_meaning, or_own, system_of, program_system}
use Rattle.cp_meaning.specs.State.{initialising, initialised, Component, component_at, own_statement, Call, Item, end, ready, at_gate, Process, process_at, Discipline, State, is_inside, initialises, Place}
use Rattle.cp_meaning.specs.Steps.{first_component, unstarted_process, process_first, processes_from, own_begun, opening, settled, without, admitted_to}
use Rattle.cp_meaning.proofs.Frames.{frames, entry_in, initial_in, fit-initial, plain-fit, ItemsFit, Descends, system_at}
use Rattle.cp_meaning.proofs.PlainItems.{plain_all}
use Rattle.cp_meaning.proofs.Good.{IsMonitor, GoodOutcome, or_cases}
use Rattle.cp_meaning.proofs.LocalLaw.{takes_good}
use Rattle.cp_meaning.proofs.Orderly.{inside_parts, ProcessFits, IsAbsent, LineFits, line_at, initialises_now, Orderly}
use Rattle.cp_meaning.proofs.LineLaw.{OrderlyState, gone_in, some_is}
use Rattle.cp_meaning.proofs.KernelLaw.{kernel_step_law}

-- ---- the opening state

-- a process that has entered and initialises nothing yet
record IsNew (cs : List Component) (p : Process) : Type 0 where
  fits : ProcessFits cs p
  no_entry : (m : ℕ) → entry_in m (frames p.calls) ≡ false
  no_initial : (m : ℕ) → initial_in m (frames p.calls) ≡ false

unstarted_new : (cs : List Component) (n : ℕ) → IsNew cs (unstarted_process n)
unstarted_new cs n =
    record {
      fits = record { fits = λ m. refl; order = tt; open_calls = λ h. absurd (h refl); starting = λ m h. absurd (let bad : false ≡ true = h in cc); entering = λ m h. absurd (let bad : false ≡ true = h in cc) };
      no_entry = λ m. refl;
      no_initial = λ m. refl;
    }

begun_new : (cs : List Component) (s : SystemMeaning) → (component_at cs 0).kind ≡ system_kind.Process → IsNew cs (begun 0 s)
begun_new cs s kind =
    record {
      fits = record {
        fits = plain-fit ((own_statement, 0) ∷ []) (items_of_all s.scope s.body) (end ∷ []) (plain_all s.scope s.body) (λ m. refl);
        order = kind;
        open_calls = λ h. tt;
        starting = λ m h. absurd (let bad : false ≡ true = h in cc);
        entering = λ m h. absurd (let bad : false ≡ true = h in cc);
      };
      no_entry = λ m. refl;
      no_initial = λ m. refl;
    }

AllNew : List Component → List Process → Type 0
AllNew cs ps = (q : ℕ) → q < length ps → IsNew cs (process_at ps q)

new_more : (cs : List Component) (p : Process) (ps : List Process) → IsNew cs p → AllNew cs ps → AllNew cs (p ∷ ps)
unfolding AllNew
new_more cs p ps h k zero lt = h
new_more cs p ps h k (suc q) lt = k q (omega arith)

new_first : (cs : List Component) (k : SystemKind) (n : ℕ) (ps : List Process) → AllNew cs ps → AllNew cs (process_first k n ps)
new_first cs system_kind.Process n ps h = new_more cs (unstarted_process n) ps (unstarted_new cs n) h
new_first cs _ n ps h = h

new_from : (cs ds : List Component) (n : ℕ) → AllNew cs (processes_from n ds)
unfolding AllNew
new_from cs [] n = λ q lt. absurd (omega arith)
new_from cs (d ∷ ds) n = new_first cs d.kind n (processes_from (suc n) ds) (new_from cs ds (suc n))

new_tail : (cs : List Component) (p : Process) (ps : List Process) → AllNew cs (p ∷ ps) → AllNew cs ps
unfolding AllNew
new_tail cs p ps h = λ q lt. h (suc q) (omega arith)

new_begun : (p : Program) (cs ds : List Component) (ps : List Process) → (component_at cs 0).kind ≡ system_kind.Process → AllNew cs ps → AllNew cs (own_begun p ds ps)
new_begun p cs (d ∷ ds) (q ∷ ps) kind h = new_more cs (begun 0 (system_of p d.system)) ps (begun_new cs (system_of p d.system) kind) (new_tail cs q ps h)
new_begun p cs _ _ kind h = h

get_past : {A : Type 0} (xs : List A) → slice_get xs (length xs) ≡ None
get_past [] = refl
get_past (x ∷ xs) = get_past xs

pub program_kind : (p : Program) → (system_of p (program_system p)).kind ≡ system_kind.Process
program_kind p = ap (λ o. (or_own (own_meaning (declared p) p) o).kind) (get_past (declared p).systems)

no_line : (p : Program) (ls : List Listed) (m : ℕ) → line_at (map (first_component p) ls) m ≡ []
no_line p (l ∷ ls) (suc m) = no_line p ls m
no_line p _ _ = refl

pub opening_orderly : (p : Program) (g : Discipline) → OrderlyState (opening p g)
unfolding AllNew
opening_orderly p g =
    let cs = map (first_component p) (components_of p) in
    let ps = own_begun p cs (processes_from 0 cs) in
    let all : AllNew cs ps = new_begun p cs cs (processes_from 0 cs) (program_kind p) (new_from cs cs 0) in
    record {
      orderly = record {
        processes = λ q lt. (all q lt).fits;
        one_initial = λ m q k lq lk hq hk. absurd (let bad : true ≡ false = sym hq ∙ (all q lq).no_initial m in cc);
        one_inside = λ m mon q k lq lk hq hk. absurd (let bad : true ≡ false = sym (inside_parts m (process_at ps q) hq).0 ∙ (all q lq).no_entry m in cc);
        lines = λ m. subst (LineFits cs ps m) (sym (no_line p (components_of p) m)) tt;
      };
      pending = λ m h. absurd (let bad : None ≡ Some m = h in cc);
    }

-- ---- a step

pub outcome_law : (p : Program) (s : State) (pid : ℕ) (o : Outcome Doing) → OrderlyState s → s.pending ≡ None → pid < length s.processes → (process_at s.processes pid).status ≡ ready → GoodOutcome s.components (frames (process_at s.processes pid).calls) o →
    OrderlyState (settled p s pid o).state
outcome_law p s pid (Ok d) old none lt is_ready good = kernel_step_law p s pid old.orderly none lt is_ready d d.move good
outcome_law p s pid (Err e) old none lt is_ready good = old

-- an item of a process that has an open call
pub item_law : (p : Program) (cs : List Component) (c : Call) (calls : List Call) (items : List Item) (pid : ℕ) (x : Process) → x.calls ≡ c ∷ calls → x.items ≡ items → ProcessFits cs x →
    ((q : Place) → ((component_at cs (component_there (record { program = p; calls = c ∷ calls; components = cs }) q)).kind ≡ system_kind.Process → ⊥) → system_at cs (component_there (record { program = p; calls = c ∷ calls; components = cs }) q) < system_at cs c.component) →
    GoodOutcome cs (frames (c ∷ calls)) (takes (record { program = p; calls = c ∷ calls; components = cs }) pid items)
item_law p cs c calls items pid x e i f named_below =
    takes_good p c calls cs pid (subst (λ y. Descends cs (frames y)) e f.order) (λ m h. f.starting m (ap (λ y. initial_in m (frames y)) e ∙ h)) (λ m h. f.entering m (ap (λ y. entry_in m (frames y)) e ∙ h)) named_below items
    (subst (λ y. ItemsFit (frames y) items) e (subst (λ y. ItemsFit (frames x.calls) y) i f.fits))

-- ---- an admission

absent_without : (q r : ℕ) (line : List ℕ) → IsAbsent q line → IsAbsent q (without r line)
absent_without q r [] a = tt
absent_without q r (k ∷ line) a = go (k == r) (absent_without q r line a.1)
  where
    go : (b : Bool) → IsAbsent q (without r line) → IsAbsent q (if b then line else k ∷ without r line)
    go true rest = a.1
    go false rest = (a.0, rest)

fits_without : (cs : List Component) (ps : List Process) (m q : ℕ) (line : List ℕ) → LineFits cs ps m line → LineFits cs ps m (without q line)
fits_without cs ps m q [] f = tt
fits_without cs ps m q (r ∷ line) f = go (r == q) (fits_without cs ps m q line f.5)
  where
    go : (b : Bool) → LineFits cs ps m (without q line) → LineFits cs ps m (if b then line else r ∷ without q line)
    go true rest = f.5
    go false rest = (f.0, f.1, f.2, f.3, absent_without r q line f.4, rest)

once : (cs : List Component) (ps : List Process) (m q : ℕ) (line : List ℕ) → LineFits cs ps m line → IsAbsent q (without q line)
once cs ps m q [] f = tt
once cs ps m q (r ∷ line) f = go (r == q) refl (once cs ps m q line f.5)
  where
    go : (b : Bool) → (r == q) ≡ b → IsAbsent q (without q line) → IsAbsent q (if b then line else r ∷ without q line)
    go true e rest = subst (λ j. IsAbsent j line) (eqb-true r q e) f.4
    go false e rest = ((λ same. (let bad : true ≡ false = sym (eq-eqb r q (sym same)) ∙ e in cc)), rest)

in_line : (cs : List Component) (ps : List Process) (m q : ℕ) (line : List ℕ) → is_member q line ≡ true → LineFits cs ps m line → IsMonitor cs m × (q < length ps) × ((process_at ps q).status ≡ at_gate m)
in_line cs ps m q [] h f = absurd (let bad : false ≡ true = h in cc)
in_line cs ps m q (r ∷ line) h f = go (or_cases (q == r) (is_member q line) h) (λ k. in_line cs ps m q line k f.5)
  where
    go : ((q == r) ≡ true) ⊎ (is_member q line ≡ true) → (is_member q line ≡ true → IsMonitor cs m × (q < length ps) × ((process_at ps q).status ≡ at_gate m)) → IsMonitor cs m × (q < length ps) × ((process_at ps q).status ≡ at_gate m)
    go (inl e) rest = (let same = sym (eqb-true q r e) in subst (λ j. IsMonitor cs m × (j < length ps) × ((process_at ps j).status ≡ at_gate m)) same (f.0, f.1, f.2))
    go (inr k) rest = rest k

pub admitted_law : (s : State) (m q : ℕ) (o : Option ℕ) → OrderlyState s → s.pending ≡ Some m → o ≡ Some m → is_member q (line_of s m) ≡ true → OrderlyState (admitted_to o s q)
admitted_law s m q None old is e member = absurd (let bad : None ≡ Some m = e in cc)
admitted_law s m q (Some n) old is e member =
    let same : n ≡ m = some_is n m e in
    subst (λ j. OrderlyState (admitted_to (Some j) s q)) (sym same)
    (let f = old.orderly.lines m in
    let facts = in_line s.components s.processes m q (line_of s m) member f in
    record {
      orderly = gone_in s.components s.processes m q (without q (line_of s m)) old.orderly facts.0 facts.1 facts.2 (once s.components s.processes m q (line_of s m) f) (fits_without s.components s.processes m q (line_of s m) f) (old.pending m is);
      pending = λ j h. absurd (let bad : None ≡ Some j = h in cc);
    })

-- ---- what that says of occupants

pub orderly_exclusive : (s : State) → OrderlyState s → IsExclusive s
orderly_exclusive s state m q k within mon lq lk hq hk =
    go (or_cases (is_inside m x) (initialises m x) hq) (or_cases (is_inside m y) (initialises m y) hk)
  where
    old : Orderly s.components s.processes
    old = state.orderly

    x : Process
    x = process_at s.processes q

    y : Process
    y = process_at s.processes k

    initial_x : initialises m x ≡ true → initialises_now m x ≡ true
    initial_x h = sym (fit-initial m (frames x.calls) x.items (old.processes q lq).fits) ∙ h

    initial_y : initialises m y ≡ true → initialises_now m y ≡ true
    initial_y h = sym (fit-initial m (frames y.calls) y.items (old.processes k lk).fits) ∙ h

    go : (is_inside m x ≡ true) ⊎ (initialises m x ≡ true) → (is_inside m y ≡ true) ⊎ (initialises m y ≡ true) → q ≡ k
    go (inl a) (inl b) = old.one_inside m mon q k lq lk a b
    go (inr a) (inr b) = old.one_initial m q k lq lk (initial_x a) (initial_y b)
    go (inl a) (inr b) = absurd (let bad : initialised ≡ initialising = sym ((old.processes q lq).entering m (inside_parts m x a).0) ∙ (old.processes k lk).starting m (initial_y b) in cc)
    go (inr a) (inl b) = absurd (let bad : initialised ≡ initialising = sym ((old.processes k lk).entering m (inside_parts m y b).0) ∙ (old.processes q lq).starting m (initial_x a) in cc)
