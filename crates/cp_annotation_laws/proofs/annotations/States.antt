-- When a state of a program without its annotations stands for one of the program with them: all is the same, but that a process may be in a check, or has annotations before it.
use Rattle.std.proofs.Common.{◌≡◌, ◌∙◌, ◌⊎◌, inl, inr, ℕ, zero, suc, ◌==◌, Bool, ◌&&◌, ◌||◌, not, if◌then◌else◌, List, [], ◌∷◌, ◌++◌, length, slice_set, Option, Some, None, ap, sym, refl}
use Rattle.cp_meaning.specs.State.{CallKind, local_routine, Call, Item, statement_item, return, Status, Process, process_at, no_process, State, is_entry_kind, has_entry, waits_at, is_inside}
use Rattle.cp_meaning.specs.Kernel.{is_anybody_inside, after, process_of}
use Rattle.cp_meaning.specs.Readings.{is_waiting, is_one_waiting, first_inside}
use Rattle.cp_resolved.proofs.declarations.Nameless.{IsSaid}
use Rattle.cp_annotation_laws.proofs.annotations.Views.{plain_calls}
use Rattle.cp_annotation_laws.proofs.annotations.Doings.{bare}

-- what is left of the body of a check
abbrev pub AreSaid : List Item → Type 0
AreSaid [] = Unit {0}
AreSaid (statement_item t ∷ []) = IsSaid t
AreSaid items = ⊥

-- without annotations the process is where it will be when the check has passed
pub record IsChecking (calls : List Call) (items : List Item) (other_calls : List Call) (other_items : List Item) : Type 0 where
  pub call : Call
  pub below : List Call
  pub said : List Item
  pub rest : List Item
  pub calls_are : calls ≡ call ∷ below
  pub local : call.kind ≡ local_routine
  pub items_are : items ≡ said ++ return None ∷ rest
  pub says : AreSaid said
  pub other_calls_are : other_calls ≡ plain_calls below
  pub other_items_are : other_items ≡ bare below rest

pub record IsOutside (calls : List Call) (items : List Item) (other_calls : List Call) (other_items : List Item) : Type 0 where
  pub other_calls_are : other_calls ≡ plain_calls calls
  pub other_items_are : other_items ≡ bare calls items

abbrev pub StandsFor : List Call → List Item → List Call → List Item → Type 0
StandsFor calls items other_calls other_items = IsOutside calls items other_calls other_items ⊎ IsChecking calls items other_calls other_items

pub record ProcessStandsFor (x y : Process) : Type 0 where
  pub component : y.component ≡ x.component
  pub status : y.status ≡ x.status
  pub stack : StandsFor x.calls x.items y.calls y.items

abbrev pub AllStandFor : List Process → List Process → Type 0
AllStandFor [] [] = Unit {0}
AllStandFor (x ∷ xs) (y ∷ ys) = ProcessStandsFor x y × AllStandFor xs ys
AllStandFor xs ys = ⊥

pub record StateStandsFor (s t : State) : Type 0 where
  pub processes : List Process
  pub all : AllStandFor s.processes processes
  pub same : t ≡ record s { processes = processes }

-- ---- lists of processes

pub none_stands : ProcessStandsFor no_process no_process
none_stands = record { component = refl; status = refl; stack = inl (record { other_calls_are = refl; other_items_are = refl }) }

pub length_same : (xs ys : List Process) → AllStandFor xs ys → length ys ≡ length xs
length_same [] [] h = refl
length_same (x ∷ xs) (y ∷ ys) h = ap suc (length_same xs ys h.1)
length_same [] (y ∷ ys) h = absurd h
length_same (x ∷ xs) [] h = absurd h

pub at_stands : (xs ys : List Process) (n : ℕ) → AllStandFor xs ys → ProcessStandsFor (process_at xs n) (process_at ys n)
at_stands [] [] n h = none_stands
at_stands (x ∷ xs) (y ∷ ys) zero h = h.0
at_stands (x ∷ xs) (y ∷ ys) (suc n) h = at_stands xs ys n h.1
at_stands [] (y ∷ ys) n h = absurd h
at_stands (x ∷ xs) [] n h = absurd h

pub set_stands : (xs ys : List Process) (n : ℕ) (x y : Process) → AllStandFor xs ys → ProcessStandsFor x y → AllStandFor (slice_set xs n x) (slice_set ys n y)
set_stands [] [] n x y h k = tt
set_stands (a ∷ xs) (b ∷ ys) zero x y h k = (k, h.1)
set_stands (a ∷ xs) (b ∷ ys) (suc n) x y h k = (h.0, set_stands xs ys n x y h.1 k)
set_stands [] (b ∷ ys) n x y h k = absurd h
set_stands (a ∷ xs) [] n x y h k = absurd h

-- of the first list alone one is replaced
pub one_stands : (xs ys : List Process) (n : ℕ) (x : Process) → AllStandFor xs ys → ProcessStandsFor x (process_at ys n) → AllStandFor (slice_set xs n x) ys
one_stands [] [] n x h k = tt
one_stands (a ∷ xs) (b ∷ ys) zero x h k = (k, h.1)
one_stands (a ∷ xs) (b ∷ ys) (suc n) x h k = (h.0, one_stands xs ys n x h.1 k)
one_stands [] (b ∷ ys) n x h k = absurd h
one_stands (a ∷ xs) [] n x h k = absurd h

-- ---- what is read of processes

plain_entry : (m : ℕ) (cs : List Call) → has_entry m (plain_calls cs) ≡ has_entry m cs
plain_entry m [] = refl
plain_entry m (c ∷ cs) = ap (λ (b : Bool). (is_entry_kind c.kind && c.component == m) || b) (plain_entry m cs)

pub same_entry : (m : ℕ) (x y : Process) → ProcessStandsFor x y → has_entry m y.calls ≡ has_entry m x.calls
same_entry m x y h = go h.stack
  where
    go : StandsFor x.calls x.items y.calls y.items → has_entry m y.calls ≡ has_entry m x.calls
    go (inl k) = ap (has_entry m) k.other_calls_are ∙ plain_entry m x.calls
    go (inr k) =
        ap (has_entry m) k.other_calls_are
        ∙ (plain_entry m k.below
        ∙ (ap (λ (kind : CallKind). (is_entry_kind kind && k.call.component == m) || has_entry m k.below) (sym k.local)
        ∙ ap (has_entry m) (sym k.calls_are)))

pub same_inside : (m : ℕ) (x y : Process) → ProcessStandsFor x y → is_inside m y ≡ is_inside m x
same_inside m x y h = ap (λ (b : Bool). b && not (waits_at m y.status)) (same_entry m x y h) ∙ ap (λ (u : Status). has_entry m x.calls && not (waits_at m u)) h.status

pub same_anybody : (m : ℕ) (xs ys : List Process) → AllStandFor xs ys → is_anybody_inside m ys ≡ is_anybody_inside m xs
same_anybody m [] [] h = refl
same_anybody m (x ∷ xs) (y ∷ ys) h = ap (λ (b : Bool). b || is_anybody_inside m ys) (same_inside m x y h.0) ∙ ap (λ (b : Bool). is_inside m x || b) (same_anybody m xs ys h.1)
same_anybody m [] (y ∷ ys) h = absurd h
same_anybody m (x ∷ xs) [] h = absurd h

pub same_first_inside : (m : ℕ) (xs ys : List Process) → AllStandFor xs ys → first_inside m ys ≡ first_inside m xs
same_first_inside m [] [] h = refl
same_first_inside m (x ∷ xs) (y ∷ ys) h = ap (λ (b : Bool). if b then Some 0 else after (first_inside m ys)) (same_inside m x y h.0) ∙ ap (λ (o : Option ℕ). if is_inside m x then Some 0 else after o) (same_first_inside m xs ys h.1)
same_first_inside m [] (y ∷ ys) h = absurd h
same_first_inside m (x ∷ xs) [] h = absurd h

pub same_waiting : (xs ys : List Process) → AllStandFor xs ys → is_one_waiting ys ≡ is_one_waiting xs
same_waiting [] [] h = refl
same_waiting (x ∷ xs) (y ∷ ys) h = ap (λ (u : Status). is_waiting u || is_one_waiting ys) h.0.status ∙ ap (λ (b : Bool). is_waiting x.status || b) (same_waiting xs ys h.1)
same_waiting [] (y ∷ ys) h = absurd h
same_waiting (x ∷ xs) [] h = absurd h

pub same_process_of : (d : ℕ) (xs ys : List Process) → AllStandFor xs ys → process_of d ys ≡ process_of d xs
same_process_of d [] [] h = refl
same_process_of d (x ∷ xs) (y ∷ ys) h = ap (λ (n : ℕ). if n == d then Some 0 else after (process_of d ys)) h.0.component ∙ ap (λ (o : Option ℕ). if x.component == d then Some 0 else after o) (same_process_of d xs ys h.1)
same_process_of d [] (y ∷ ys) h = absurd h
same_process_of d (x ∷ xs) [] h = absurd h
