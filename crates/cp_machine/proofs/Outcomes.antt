-- What a statement comes to, by what its parts answer.
use Rattle.std.proofs.Common.{◌≡◌, ◌∙◌, ℕ, ◌<◌, Bool, true, false, if◌then◌else◌, List, length, Option, Result, Ok, Err, ap, sym, subst, arith, get_or-set_same}
use Rattle.cp_machine.proofs.Words.{ℤ, int_eq, length-map, length-set, OrdinalExpression, PlaceOrigin, Place, ErrorName, Address, Memory, check_range, Entry, State, HasCells}
use Rattle.cp_machine.proofs.Words.{rest_of, address_of, cells_put, memory_at, number_put, value_of}
use Rattle.cp_store.specs.Inside as store
use Rattle.cp_machine.specs.Machine.{Machine, Thread, machine_of, no_thread, thread_at, thread_of, with_stack}
use Rattle.cp_machine.specs.Statements.{assign, assign_number, copy, fault, for_from, gone_on, is_beyond, local, next_turn, next_value, with_value}

-- ---- a process whose control stack alone changed

memory_kept : (m : Machine) (pid : ℕ) (es : List Entry) → pid < length m.threads → memory_at (with_stack m pid es) pid ≡ memory_at m pid
memory_kept m pid es lt =
    let M : Thread → Memory = λ t. record { permanents = m.permanents; cells = t.cells; references = t.references } in
    ap M (get_or-set_same m.threads pid (record (thread_at m.threads pid) { stack = es }) no_thread lt)

pub replaced_within : (s t : State) (pid : ℕ) (es : List Entry) → machine_of t ≡ with_stack (machine_of s) pid es → pid < length s.processes.items → pid < length t.processes.items
replaced_within s t pid es after lt =
    let m = machine_of s in
    let same : length (machine_of t).threads ≡ length (with_stack m pid es).threads = ap (λ k. length k.threads) after in
    omega (arith, lt, same, length-map s.processes.items thread_of, length-map t.processes.items thread_of, length-set m.threads pid (record (thread_at m.threads pid) { stack = es }))

pub replaced_has : (s t : State) (pid : ℕ) (es : List Entry) (at : Address) (cells : ℕ) → machine_of t ≡ with_stack (machine_of s) pid es → pid < length s.processes.items → HasCells (machine_of s) pid at cells → HasCells (machine_of t) pid at cells
replaced_has s t pid es at cells after lt h =
    let within : pid < length (machine_of s).threads = omega (arith, lt, length-map s.processes.items thread_of) in
    let Has : Memory → Type 0 = λ x. store.HasCells x at cells in
    subst (λ k. HasCells k pid at cells) (sym after) (subst Has (sym (memory_kept (machine_of s) pid es within)) h)

-- ---- assignments

module _ (m : Machine) (pid line : ℕ) (target : Place) (value : OrdinalExpression) (low high : ℤ) (rest : List Entry) where
  right_is : {o p : Result ℤ ErrorName} → o ≡ p → with_value o (fault m pid line) (λ v. with_value (address_of m pid target) (fault m pid line) (assign_number m pid line low high rest v)) ≡ with_value p (fault m pid line) (λ v. with_value (address_of m pid target) (fault m pid line) (assign_number m pid line low high rest v))
  right_is e = ap (λ o. with_value o (fault m pid line) (λ v. with_value (address_of m pid target) (fault m pid line) (assign_number m pid line low high rest v))) e

  left_is : (v : ℤ) {o p : Result Address ErrorName} → o ≡ p → with_value o (fault m pid line) (assign_number m pid line low high rest v) ≡ with_value p (fault m pid line) (assign_number m pid line low high rest v)
  left_is v e = ap (λ o. with_value o (fault m pid line) (assign_number m pid line low high rest v)) e

  range_is : (a : Address) {o p : Result ℤ ErrorName} → o ≡ p → with_value o (fault m pid line) (λ w. local (number_put (with_stack m pid rest) pid a w)) ≡ with_value p (fault m pid line) (λ w. local (number_put (with_stack m pid rest) pid a w))
  range_is a e = ap (λ o. with_value o (fault m pid line) (λ w. local (number_put (with_stack m pid rest) pid a w))) e

  pub assign_done : (v : ℤ) (a : Address) (w : ℤ) → value_of m pid value ≡ Ok v → address_of m pid target ≡ Ok a → check_range low high v ≡ Ok w → assign m pid line target value low high rest ≡ local (number_put (with_stack m pid rest) pid a w)
  assign_done v a w right left range = right_is right ∙ left_is v left ∙ range_is a range

  pub assign_right_fails : (x : ErrorName) → value_of m pid value ≡ Err x → assign m pid line target value low high rest ≡ fault m pid line x
  assign_right_fails x right = right_is right

  pub assign_left_fails : (v : ℤ) (x : ErrorName) → value_of m pid value ≡ Ok v → address_of m pid target ≡ Err x → assign m pid line target value low high rest ≡ fault m pid line x
  assign_left_fails v x right left = right_is right ∙ left_is v left

  pub assign_range_fails : (v : ℤ) (a : Address) (x : ErrorName) → value_of m pid value ≡ Ok v → address_of m pid target ≡ Ok a → check_range low high v ≡ Err x → assign m pid line target value low high rest ≡ fault m pid line x
  assign_range_fails v a x right left range = right_is right ∙ left_is v left ∙ range_is a range

-- an array or a record
module _ (m : Machine) (pid line : ℕ) (target source : Place) (size : ℕ) (rest : List Entry) where
  from_is : {o p : Result Address ErrorName} → o ≡ p → with_value o (fault m pid line) (λ from. with_value (address_of m pid target) (fault m pid line) (λ to. local (cells_put (with_stack m pid rest) pid to from size))) ≡ with_value p (fault m pid line) (λ from. with_value (address_of m pid target) (fault m pid line) (λ to. local (cells_put (with_stack m pid rest) pid to from size)))
  from_is e = ap (λ o. with_value o (fault m pid line) (λ from. with_value (address_of m pid target) (fault m pid line) (λ to. local (cells_put (with_stack m pid rest) pid to from size)))) e

  to_is : (from : Address) {o p : Result Address ErrorName} → o ≡ p → with_value o (fault m pid line) (λ to. local (cells_put (with_stack m pid rest) pid to from size)) ≡ with_value p (fault m pid line) (λ to. local (cells_put (with_stack m pid rest) pid to from size))
  to_is from e = ap (λ o. with_value o (fault m pid line) (λ to. local (cells_put (with_stack m pid rest) pid to from size))) e

  pub copy_done : (from to : Address) → address_of m pid source ≡ Ok from → address_of m pid target ≡ Ok to → copy m pid line target source size rest ≡ local (cells_put (with_stack m pid rest) pid to from size)
  copy_done from to f t = from_is f ∙ to_is from t

  pub copy_from_fails : (x : ErrorName) → address_of m pid source ≡ Err x → copy m pid line target source size rest ≡ fault m pid line x
  copy_from_fails x f = from_is f

  pub copy_to_fails : (from : Address) (x : ErrorName) → address_of m pid source ≡ Ok from → address_of m pid target ≡ Err x → copy m pid line target source size rest ≡ fault m pid line x
  copy_to_fails from x f t = from_is f ∙ to_is from t

-- ---- loops

-- a `for` goes on with a value, or is left
module _ (m : Machine) (pid line at : ℕ) (variable : PlaceOrigin) (list next : Option ℕ) (es : List Entry) (last : ℤ) where
  for_is : {b d : Bool} (o : Result ℤ ErrorName) → b ≡ d → (if b then local (with_stack m pid (rest_of next es)) else with_value o (fault m pid line) (λ v. local (gone_on m pid at variable list es last v))) ≡ (if d then local (with_stack m pid (rest_of next es)) else with_value o (fault m pid line) (λ v. local (gone_on m pid at variable list es last v)))
  for_is o e = ap (λ b. if b then local (with_stack m pid (rest_of next es)) else with_value o (fault m pid line) (λ v. local (gone_on m pid at variable list es last v))) e

  going_is : {o p : Result ℤ ErrorName} → o ≡ p → with_value o (fault m pid line) (λ v. local (gone_on m pid at variable list es last v)) ≡ with_value p (fault m pid line) (λ v. local (gone_on m pid at variable list es last v))
  going_is e = ap (λ o. with_value o (fault m pid line) (λ v. local (gone_on m pid at variable list es last v))) e

  module _ (low high : ℤ) (down : Bool) (z : ℤ) where
    pub turn_last : int_eq z last ≡ true → next_turn m pid line at variable low high down list next es z last ≡ local (with_stack m pid (rest_of next es))
    turn_last e = for_is (next_value down low high z) e

    pub turn_goes : (v : ℤ) → int_eq z last ≡ false → next_value down low high z ≡ Ok v → next_turn m pid line at variable low high down list next es z last ≡ local (gone_on m pid at variable list es last v)
    turn_goes v e is = for_is (next_value down low high z) e ∙ going_is is

    pub turn_fails : (x : ErrorName) → int_eq z last ≡ false → next_value down low high z ≡ Err x → next_turn m pid line at variable low high down list next es z last ≡ fault m pid line x
    turn_fails x e is = for_is (next_value down low high z) e ∙ going_is is

    pub for_none : is_beyond down z last ≡ true → for_from m pid line at variable low high down list next es z last ≡ local (with_stack m pid (rest_of next es))
    for_none e = for_is (check_range low high z) e

    pub for_goes : (v : ℤ) → is_beyond down z last ≡ false → check_range low high z ≡ Ok v → for_from m pid line at variable low high down list next es z last ≡ local (gone_on m pid at variable list es last v)
    for_goes v e is = for_is (check_range low high z) e ∙ going_is is

    pub for_fails : (x : ErrorName) → is_beyond down z last ≡ false → check_range low high z ≡ Err x → for_from m pid line at variable low high down list next es z last ≡ fault m pid line x
    for_fails x e is = for_is (check_range low high z) e ∙ going_is is
