-- A statement of a frequent kind is done by a local step, or leaves the machine as it was.
use Rattle.std.proofs.Common.{◌≡◌, ◌∙◌, ℕ, ◌<◌, List, length, Option, Result, Ok, Err, Bool, true, false, refl, ap, sym, subst, if◌then◌else◌}
use Rattle.cp_machine.proofs.Words.{ℤ, int_eq, Tables, Action, For, Item, OrdinalExpression, Place, ErrorName, check_range, Event, Entry, State, Machine, is_pending, is_ready}
use Rattle.cp_machine.proofs.Words.{is_some, machine_of, value_of, address_of, Reaches, IsReserved, IsStateOf, LinesFit, MachineFits, is_local, step_at}
use Rattle.cp_machine.specs.declared.event.Event.TheVariants.{Local, Kernel, Ended, Fault, OutputFull}
use Rattle.cp_machine.specs.Statements.{Stepped, with_value, outcome, local, assign, branch, while_do, until, next_value, successor_step}
use Rattle.cp_machine.proofs.rooms.KeepingAct.{step_fits}
use Rattle.cp_machine.proofs.LocalReady.{local_ready}
use Rattle.cp_machine.proofs.frames.ReachingKept.{step_reaches}
use Rattle.cp_machine.proofs.lines.StepLines.{step_lines}

-- a step that is not local leaves the machine as it was, and none changes what is pending
abbrev pub Calm : Machine → Stepped → Type 0
Calm m x = (is_local x.event ≡ false → x.machine ≡ m) × (x.machine.pending ≡ m.pending)

done : (m n : Machine) → n.pending ≡ m.pending → Calm m (local n)
done m n e = (λ h. absurd (cc), e)

value_calm : {A : Type 0} (m : Machine) (o : Result A ErrorName) (failed : ErrorName → Stepped) (go : A → Stepped) → ((e : ErrorName) → Calm m (failed e)) → ((v : A) → Calm m (go v)) → Calm m (with_value o failed go)
value_calm m (Ok v) failed go f g = g v
value_calm m (Err e) failed go f g = f e

either_calm : (m : Machine) (b : Bool) (x y : Stepped) → Calm m x → Calm m y → Calm m (if b then x else y)
either_calm m true x y h k = h
either_calm m false x y h k = k

pub assign_calm : (m : Machine) (pid line : ℕ) (target : Place) (value : OrdinalExpression) (low high : ℤ) (rest : List Entry) → Calm m (assign m pid line target value low high rest)
assign_calm m pid line target value low high rest =
    value_calm m (value_of m pid value) _ _ (λ e. (λ h. refl, refl)) (λ v.
    value_calm m (address_of m pid target) _ _ (λ e. (λ h. refl, refl)) (λ p.
    value_calm m (check_range low high v) _ _ (λ e. (λ h. refl, refl)) (λ w. done m _ refl)))

pub branch_calm : (m : Machine) (pid line : ℕ) (test : OrdinalExpression) (list other : Option ℕ) (rest : List Entry) → Calm m (branch m pid line test list other rest)
branch_calm m pid line test list other rest = value_calm m (value_of m pid test) _ _ (λ e. (λ h. refl, refl)) (λ v. done m _ refl)

pub while_calm : (m : Machine) (pid line : ℕ) (test : OrdinalExpression) (list : Option ℕ) (again : ℕ) (next : Option ℕ) (es : List Entry) → Calm m (while_do m pid line test list again next es)
while_calm m pid line test list again next es = value_calm m (value_of m pid test) _ _ (λ e. (λ h. refl, refl)) (λ v. done m _ refl)

pub until_calm : (m : Machine) (pid line : ℕ) (test : OrdinalExpression) (list : Option ℕ) (again : ℕ) (next : Option ℕ) (es : List Entry) → Calm m (until m pid line test list again next es)
until_calm m pid line test list again next es = value_calm m (value_of m pid test) _ _ (λ e. (λ h. refl, refl)) (λ v. done m _ refl)

pub succeeded_calm : (m : Machine) (pid at : ℕ) (item : Item) (a : Action) (es : List Entry) (z last : ℤ) → Calm m (successor_step m pid at item a es z last)
succeeded_calm m pid at item (For variable low high first end down list) es z last =
    either_calm m (int_eq z last) _ _ (done m _ refl) (value_calm m (next_value down low high z) _ _ (λ e. (λ h. refl, refl)) (λ v. done m _ refl))
succeeded_calm m pid at item a es z last = done m _ refl

-- what a statement came to, where its outcome is known
module _ (m n : Machine) (pid line : ℕ) (x : Stepped) (calm : Calm m x) where
  pub done_local : (o : Result Event ErrorName) → x ≡ outcome o n pid line → o ≡ Ok Local → x ≡ local n
  done_local o e is = e ∙ ap (λ r. outcome r n pid line) is

  stays : (e : Event) → x ≡ record { machine = n; event = e } → is_local e ≡ false → n ≡ m
  stays e at off = sym (ap (λ y. y.machine) at) ∙ calm.0 (ap (λ y. is_local y.event) at ∙ off)

  pub done_same : (o : Result Event ErrorName) → x ≡ outcome o n pid line → (o ≡ Ok Local → ⊥) → n ≡ m
  done_same (Ok Local) e other = absurd (other refl)
  done_same (Ok (Kernel call)) e other = stays (Kernel call) e refl
  done_same (Ok Ended) e other = stays Ended e refl
  done_same (Ok (Fault f)) e other = stays (Fault f) e refl
  done_same (Ok OutputFull) e other = stays OutputFull e refl
  done_same (Err name) e other = stays _ e refl

  pub done_pending : (o : Result Event ErrorName) → x ≡ outcome o n pid line → n.pending ≡ m.pending
  done_pending (Ok e) at = sym (ap (λ y. y.machine.pending) at) ∙ calm.1
  done_pending (Err name) at = sym (ap (λ y. y.machine.pending) at) ∙ calm.1

-- a state whose machine is that of a program's state
pub own_same : (r : Tables) (s t : State) → IsStateOf r s → machine_of t ≡ machine_of s → IsReserved r t → IsStateOf r t
own_same r s t own e reserved =
    record {
      sound = own.sound;
      fits = subst (MachineFits r) (sym e) own.fits;
      lines = subst LinesFit (sym e) own.lines;
      reach = subst (Reaches r) (sym e) own.reach;
      reserved = reserved;
    }

-- a state whose machine is that after a step
pub own_stepped : (r : Tables) (s t : State) (pid : ℕ) (event : Event) → IsStateOf r s → pid < length (machine_of s).threads → is_ready (machine_of s) pid ≡ true → is_pending (machine_of s) ≡ false → step_at r (machine_of s) pid ≡ record { machine = machine_of t; event = event } → IsReserved r t → IsStateOf r t
own_stepped r s t pid event own lt ready still after reserved =
    let Fine : Stepped → Type 0 = λ x. MachineFits r x.machine in
    let Reached : Stepped → Type 0 = λ x. Reaches r x.machine in
    let Lined : Stepped → Type 0 = λ x. LinesFit x.machine in
    record {
      sound = own.sound;
      fits = subst Fine after (step_fits r _ pid lt own.sound own.fits);
      lines = subst Lined after (step_lines r _ pid own.sound own.fits own.lines ready still);
      reach = subst Reached after (step_reaches r _ pid lt own.sound own.sound.typed own.fits own.lines ready own.reach);
      reserved = reserved;
    }

pub ready_stepped : (r : Tables) (s t : State) (pid : ℕ) → pid < length (machine_of s).threads → is_ready (machine_of s) pid ≡ true → step_at r (machine_of s) pid ≡ local (machine_of t) → is_ready (machine_of t) pid ≡ true
ready_stepped r s t pid lt ready after = local_ready r (machine_of s) (machine_of t) pid Local lt ready after refl

pub still_kept : (m n : Machine) → n.pending ≡ m.pending → is_pending m ≡ false → is_pending n ≡ false
still_kept m n e still = ap is_some e ∙ still
