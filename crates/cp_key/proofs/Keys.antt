-- The key of a state can be read back.
use Rattle.std.proofs.Common.{reverse, ◌≡◌, ◌∙◌, ℕ, zero, suc, true, false, List, [], ◌∷◌, ◌++◌, Option, None, Some, ℤ, length, map, cond, eqb, refl, sym, ap}
use Rattle.cp_key.proofs.Words.{flat_map, Machine, Monitor, Thread, byte_key, integer_key, number_key, list_key}
use Rattle.std.proofs.lemmas.List.{append_assoc, append-nil, length-map, reverse-reverse}
use Rattle.std.proofs.lemmas.List.Folds.{flat_map-map}
use Rattle.cp_store.specs.declared.memory.Address.{Address}
use Rattle.cp_store.specs.declared.memory.Address.TheVariants.{Permanent, Local}
use Rattle.cp_store.specs.declared.memory.Frame.{Frame}
use Rattle.cp_machine.specs.declared.discipline.Discipline.{Discipline}
use Rattle.cp_machine.specs.declared.discipline.Gates.{Gates}
use Rattle.cp_machine.specs.declared.discipline.Gates.TheVariants.{First, Any}
use Rattle.cp_machine.specs.declared.discipline.Signals.{Signals}
use Rattle.cp_machine.specs.declared.discipline.Signals.TheVariants as signals
use Rattle.cp_machine.specs.declared.process.Entry.{Entry}
use Rattle.cp_machine.specs.declared.process.Entry.TheVariants.{Rest, Successor, Return, InitEnd}
use Rattle.cp_machine.specs.declared.process.Status.{Status}
use Rattle.cp_machine.specs.declared.process.Status.TheVariants.{Unstarted, Ready, AtGate, Delayed, Ended}
use Rattle.cp_machine.specs.declared.shown.Shown.{Shown}
use Rattle.cp_machine.specs.declared.shown.Shown.TheVariants.{Integer, Char, Truth, Constant}
use Rattle.cp_machine.specs.declared.state.Phase.{Phase}
use Rattle.cp_machine.specs.declared.state.Phase.TheVariants.{Uninitialised, Initialising, Initialised}
use Rattle.cp_machine.specs.Bodies.{Body, body_of}
use Rattle.cp_key.specs.Key.{option_key, address_key, frame_key, entry_key, status_key, phase_key, gates_key, signals_key, discipline_key, shown_key, body_key, threads_key, monitor_key, rest_key, key_of, core_key}
use Rattle.cp_key.specs.Known.{TellsItsEnd}
use Rattle.cp_key.proofs.NumberKeys.{Code, byte, short, number, integer}

-- ---- one value after another

abbrev both_key : {A B : Type 0} → (A → List ℕ) → (B → List ℕ) → A × B → List ℕ
both_key v w p = v p.0 ++ w p.1

both : {A B : Type 0} {v : A → List ℕ} {w : B → List ℕ} → Code v → Code w → Code (both_key v w)
both {A} {B} {v} {w} a b =
    record {
      read = λ ns. read_both ns;
      back = λ p rest. ap read_both (append_assoc (v p.0) (w p.1) rest) ∙ ap (λ r. second r.0 (b.read r.1)) (a.back p.0 (w p.1 ++ rest)) ∙ ap (λ s. second p.0 s) (b.back p.1 rest);
    }
  where
    second : A → B × List ℕ → (A × B) × List ℕ
    second x s = ((x, s.0), s.1)

    read_both : List ℕ → (A × B) × List ℕ
    read_both ns = second (a.read ns).0 (b.read (a.read ns).1)

-- values of another type, by those of this one
seen_as : {A B : Type 0} {v : A → List ℕ} (w : B → List ℕ) → Code v → (to : B → A) (from : A → B) → ((b : B) → from (to b) ≡ b) → ((b : B) → w b ≡ v (to b)) → Code w
seen_as w a to from same writes =
    record {
      read = λ ns. (from (a.read ns).0, (a.read ns).1);
      back = λ b rest. ap (λ ns. (from (a.read (ns ++ rest)).0, (a.read (ns ++ rest)).1)) (writes b) ∙ ap (λ r. (from r.0, r.1)) (a.back (to b) rest) ∙ ap (λ x. (x, rest)) (same b);
    }

read_many : {A : Type 0} → (List ℕ → A × List ℕ) → ℕ → List ℕ → List A × List ℕ
read_many read zero ns = ([], ns)
read_many read (suc n) ns = let r = read ns in let s = read_many read n r.1 in (r.0 ∷ s.0, s.1)

many_back : {A : Type 0} (w : A → List ℕ) (a : Code w) (xs : List A) (rest : List ℕ) → read_many a.read (length xs) (flat_map w xs ++ rest) ≡ (xs, rest)
unfolding read_many
many_back w a [] rest = refl
many_back {A} w a (x ∷ xs) rest =
    let on : A × List ℕ → List A × List ℕ = λ r. (let s = read_many a.read (length xs) r.1 in (r.0 ∷ s.0, s.1)) in
    let put : List A × List ℕ → List A × List ℕ = λ s. (x ∷ s.0, s.1) in
    ap (λ ns. on (a.read ns)) (append_assoc (w x) (flat_map w xs) rest) ∙ ap on (a.back x (flat_map w xs ++ rest)) ∙ ap put (many_back w a xs rest)

list : {A : Type 0} {w : A → List ℕ} → Code w → Code (list_key w)
list {A} {w} a =
    record {
      read = λ ns. read_many a.read (number.read ns).0 (number.read ns).1;
      back = λ xs rest. ap (λ ns. read_many a.read (number.read ns).0 (number.read ns).1) (append_assoc (number_key (length xs)) (flat_map w xs) rest) ∙ ap (λ r. read_many a.read r.0 r.1) (number.back (length xs) (flat_map w xs ++ rest)) ∙ many_back w a xs rest;
    }

-- no list of numbers begins another one
list_tells : {A : Type 0} {w : A → List ℕ} → Code w → TellsItsEnd w
list_tells code xs ys a b e =
    let same = sym ((list code).back xs a) ∙ ap (list code).read e ∙ (list code).back ys b in
    (ap (λ r. r.0) same, ap (λ r. r.1) same)

pub integers_tell : TellsItsEnd integer_key
integers_tell = list_tells integer

pub numbers_tell : TellsItsEnd number_key
numbers_tell = list_tells number

-- what follows the number of a kind
abbrev of_kind : {A B : Type 0} {w : A → List ℕ} → Code w → (A → B) → List ℕ → B × List ℕ
of_kind code kind ns = (kind (code.read ns).0, (code.read ns).1)

kind_back : {A B : Type 0} {w : A → List ℕ} (code : Code w) (kind : A → B) (x : A) (rest : List ℕ) → of_kind code kind (w x ++ rest) ≡ (kind x, rest)
kind_back code kind x rest = ap (λ r. (kind r.0, r.1)) (code.back x rest)

-- ---- choices of a kind

option_read : {A : Type 0} {w : A → List ℕ} → Code w → List ℕ → Option A × List ℕ
option_read code [] = (None, [])
option_read code (k ∷ ns) = cond (eqb k 0) (None, ns) (of_kind code Some ns)

option_back : {A : Type 0} {w : A → List ℕ} (code : Code w) (x : Option A) (rest : List ℕ) → option_read code (option_key w x ++ rest) ≡ (x, rest)
unfolding option_read
option_back code None rest = refl
option_back code (Some x) rest = kind_back code Some x rest

option : {A : Type 0} {w : A → List ℕ} → Code w → Code (option_key w)
option code = record { read = option_read code; back = option_back code }

address_read : List ℕ → Address × List ℕ
address_read [] = (Permanent 0, [])
address_read (k ∷ ns) = cond (eqb k 0) (of_kind number Permanent ns) (of_kind number Local ns)

address_back : (x : Address) (rest : List ℕ) → address_read (address_key x ++ rest) ≡ (x, rest)
unfolding address_read
address_back (Permanent n) rest = kind_back number Permanent n rest
address_back (Local n) rest = kind_back number Local n rest

address : Code address_key
address = record { read = address_read; back = address_back }

frame : Code frame_key
frame = seen_as frame_key (both number (both number (both number (both number number)))) (λ f. (f.routine, (f.component, (f.own, (f.base, f.references))))) (λ p. record { routine = p.0; component = p.1.0; own = p.1.1.0; base = p.1.1.1.0; references = p.1.1.1.1 }) (λ f. refl) (λ f. refl)

successor : Code (both_key number_key (both_key integer_key integer_key))
successor = both number (both integer integer)

return : Code (both_key frame_key (both_key (option_key number_key) (option_key byte_key)))
return = both frame (both (option number) (option byte))

end : Code (both_key frame_key number_key)
end = both frame number

abbrev as_successor : ℕ × (ℤ × ℤ) → Entry
as_successor p = Successor p.0 p.1.0 p.1.1

abbrev as_return : Frame × (Option ℕ × Option ℕ) → Entry
as_return p = Return p.0 p.1.0 p.1.1

abbrev as_end : Frame × ℕ → Entry
as_end p = InitEnd p.0 p.1

entry_read : List ℕ → Entry × List ℕ
entry_read [] = (Rest 0, [])
entry_read (k ∷ ns) = cond (eqb k 0) (of_kind number Rest ns) (cond (eqb k 1) (of_kind successor as_successor ns) (cond (eqb k 2) (of_kind return as_return ns) (of_kind end as_end ns)))

entry_back : (x : Entry) (rest : List ℕ) → entry_read (entry_key x ++ rest) ≡ (x, rest)
unfolding entry_read
entry_back (Rest item) rest = kind_back number Rest item rest
entry_back (Successor item value last) rest = kind_back successor as_successor (item, (value, last)) rest
entry_back (Return caller slot monitor) rest = kind_back return as_return (caller, (slot, monitor)) rest
entry_back (InitEnd caller component) rest = kind_back end as_end (caller, component) rest

entry : Code entry_key
entry = record { read = entry_read; back = entry_back }

status_read : List ℕ → Status × List ℕ
status_read [] = (Unstarted, [])
status_read (k ∷ ns) = cond (eqb k 0) (Unstarted, ns) (cond (eqb k 1) (Ready, ns) (cond (eqb k 2) (Ended, ns) (cond (eqb k 3) (of_kind byte AtGate ns) (of_kind number Delayed ns))))

status_back : (x : Status) (rest : List ℕ) → status_read (status_key x ++ rest) ≡ (x, rest)
unfolding status_read
status_back Unstarted rest = refl
status_back Ready rest = refl
status_back Ended rest = refl
status_back (AtGate monitor) rest = kind_back byte AtGate monitor rest
status_back (Delayed cell) rest = kind_back number Delayed cell rest

status : Code status_key
status = record { read = status_read; back = status_back }

phase_read : List ℕ → Phase × List ℕ
phase_read [] = (Uninitialised, [])
phase_read (k ∷ ns) = cond (eqb k 0) (Uninitialised, ns) (cond (eqb k 1) (Initialising, ns) (Initialised, ns))

phase_back : (x : Phase) (rest : List ℕ) → phase_read (phase_key x ++ rest) ≡ (x, rest)
unfolding phase_read
phase_back Uninitialised rest = refl
phase_back Initialising rest = refl
phase_back Initialised rest = refl

phase : Code phase_key
phase = record { read = phase_read; back = phase_back }

gates_read : List ℕ → Gates × List ℕ
gates_read [] = (First, [])
gates_read (k ∷ ns) = cond (eqb k 0) (First, ns) (Any, ns)

gates_back : (x : Gates) (rest : List ℕ) → gates_read (gates_key x ++ rest) ≡ (x, rest)
unfolding gates_read
gates_back First rest = refl
gates_back Any rest = refl

gates : Code gates_key
gates = record { read = gates_read; back = gates_back }

signals_read : List ℕ → Signals × List ℕ
signals_read [] = (signals.Return, [])
signals_read (k ∷ ns) = cond (eqb k 0) (signals.Return, ns) (cond (eqb k 1) (signals.Continue, ns) (signals.Wait, ns))

signals_back : (x : Signals) (rest : List ℕ) → signals_read (signals_key x ++ rest) ≡ (x, rest)
unfolding signals_read
signals_back signals.Return rest = refl
signals_back signals.Continue rest = refl
signals_back signals.Wait rest = refl

signalling : Code signals_key
signalling = record { read = signals_read; back = signals_back }

discipline : Code discipline_key
discipline = seen_as discipline_key (both gates signalling) (λ d. (d.gates, d.signals)) (λ p. record { gates = p.0; signals = p.1 }) (λ d. refl) (λ d. refl)

shown_read : List ℕ → Shown × List ℕ
shown_read [] = (Truth false, [])
shown_read (k ∷ ns) = cond (eqb k 0) (of_kind integer Integer ns) (cond (eqb k 1) (of_kind byte Char ns) (cond (eqb k 2) (Truth false, ns) (cond (eqb k 3) (Truth true, ns) (of_kind short Constant ns))))

shown_back : (x : Shown) (rest : List ℕ) → shown_read (shown_key x ++ rest) ≡ (x, rest)
unfolding shown_read
shown_back (Integer z) rest = kind_back integer Integer z rest
shown_back (Char code) rest = kind_back byte Char code rest
shown_back (Truth false) rest = refl
shown_back (Truth true) rest = refl
shown_back (Constant n) rest = kind_back short Constant n rest

shown : Code shown_key
shown = record { read = shown_read; back = shown_back }

-- ---- threads, monitors and machines

pub body : Code body_key
body = seen_as body_key (both frame (both (list entry) (both (list integer) (list address)))) (λ b. (b.frame, (reverse b.stack, (b.cells, b.references)))) (λ p. record { frame = p.0; stack = reverse p.1.0; cells = p.1.1.0; references = p.1.1.1 }) same (λ b. refl)
  where
    same : (b : Body) → record { frame = b.frame; stack = reverse (reverse b.stack); cells = b.cells; references = b.references } ≡ b
    same b = ap (λ stack. record b { stack = stack }) (reverse-reverse b.stack)

-- no body begins another one
pub body_tells : (a b : Body) (x y : List ℕ) → body_key a ++ x ≡ body_key b ++ y → (a ≡ b) × (x ≡ y)
body_tells a b x y e =
    let same = sym (body.back a x) ∙ ap body.read e ∙ body.back b y in
    (ap (λ r. r.0) same, ap (λ r. r.1) same)

of_both : Status → Body → Thread
of_both s b = record { status = s; frame = b.frame; stack = b.stack; cells = b.cells; references = b.references }

all_of : List Status → List Body → List Thread
all_of [] bs = []
all_of (s ∷ ss) [] = []
all_of (s ∷ ss) (b ∷ bs) = of_both s b ∷ all_of ss bs

all_same : (ts : List Thread) → all_of (map (λ t. t.status) ts) (map (λ t. body_of t) ts) ≡ ts
unfolding all_of of_both
all_same [] = refl
all_same (t ∷ ts) = ap (λ us. t ∷ us) (all_same ts)

threads : Code threads_key
threads = record { read = read_threads; back = back }
  where
    after : List Status × List ℕ → List Thread × List ℕ
    after s = (let b = read_many body.read (length s.0) s.1 in (all_of s.0 b.0, b.1))

    read_threads : List ℕ → List Thread × List ℕ
    read_threads ns = after ((list status).read ns)

    back : (ts : List Thread) (rest : List ℕ) → read_threads (threads_key ts ++ rest) ≡ (ts, rest)
    back ts rest =
        let ss = map (λ (t : Thread). t.status) ts in
        let bs = map (λ (t : Thread). body_of t) ts in
        let bodies = flat_map (λ (t : Thread). body_key (body_of t)) ts in
        let long : length ss ≡ length ts = length-map ts (λ t. t.status) in
        let also : length bs ≡ length ts = length-map ts (λ t. body_of t) in
        let statuses : list_key (λ (t : Thread). status_key t.status) ts ≡ list_key status_key ss = ap (λ n. number_key n ++ flat_map (λ (t : Thread). status_key t.status) ts) (sym long) ∙ ap (λ ns. number_key (length ss) ++ ns) (sym (flat_map-map status_key (λ t. t.status) ts)) in
        let read : read_many body.read (length ss) (bodies ++ rest) ≡ (bs, rest) = ap (λ n. read_many body.read n (bodies ++ rest)) (long ∙ sym also) ∙ ap (λ ns. read_many body.read (length bs) (ns ++ rest)) (sym (flat_map-map body_key (λ t. body_of t) ts)) ∙ many_back body_key body bs rest in
        ap read_threads (append_assoc (list_key (λ (t : Thread). status_key t.status) ts) bodies rest)
        ∙ ap (λ ns. read_threads (ns ++ (bodies ++ rest))) statuses
        ∙ ap after ((list status).back ss (bodies ++ rest))
        ∙ ap (λ b. (all_of ss b.0, b.1)) read
        ∙ ap (λ us. (us, rest)) (all_same ts)

monitor : Code monitor_key
monitor = seen_as monitor_key (both (option byte) (list byte)) (λ m. (m.holder, m.line)) (λ p. record { holder = p.0; line = p.1 }) (λ m. refl) (λ m. refl)

rest : Code (both_key (list_key monitor_key) (both_key (option_key byte_key) discipline_key))
rest = both (list monitor) (both (option byte) discipline)

machine : Code key_of
unfolding key_of rest_key
machine = seen_as key_of (both (list shown) (both (list integer) (both (list number) (both (list phase) (both threads rest))))) (λ m. (m.output, (m.permanents, (m.bindings, (m.phases, (m.threads, (m.monitors, (m.pending, m.discipline)))))))) (λ p. record { output = p.0; permanents = p.1.0; bindings = p.1.1.0; phases = p.1.1.1.0; threads = p.1.1.1.1.0; monitors = p.1.1.1.1.1.0; pending = p.1.1.1.1.1.1.0; discipline = p.1.1.1.1.1.1.1 }) (λ m. refl) (λ m. refl)

-- all that a machine has but what it displayed, after how much that is
abbrev core_of : Machine → ℕ × (List ℤ × (List ℕ × (List Phase × (List Thread × (List Monitor × (Option ℕ × Discipline))))))
core_of m = (length m.output, (m.permanents, (m.bindings, (m.phases, (m.threads, (m.monitors, (m.pending, m.discipline)))))))

parts : Code (both_key number_key (both_key (list_key integer_key) (both_key (list_key number_key) (both_key (list_key phase_key) (both_key threads_key (both_key (list_key monitor_key) (both_key (option_key byte_key) discipline_key)))))))
parts = both number (both (list integer) (both (list number) (both (list phase) (both threads rest))))

core_same : (m n : Machine) → core_key m ≡ core_key n → core_of m ≡ core_of n
unfolding core_key rest_key
core_same m n e = ap (λ r. r.0) (sym (parts.back (core_of m) []) ∙ ap parts.read (append-nil (core_key m) ∙ e ∙ sym (append-nil (core_key n))) ∙ parts.back (core_of n) [])

-- states whose cores have one key are the same but for what they displayed
pub core_tells : (m n : Machine) → core_key m ≡ core_key n → n ≡ record m { output = n.output }
core_tells m n e = ap (λ p. record { permanents = p.1.0; bindings = p.1.1.0; phases = p.1.1.1.0; threads = p.1.1.1.1.0; monitors = p.1.1.1.1.1.0; pending = p.1.1.1.1.1.1.0; discipline = p.1.1.1.1.1.1.1; output = n.output }) (sym (core_same m n e))

-- and that is as much
pub core_counts : (m n : Machine) → core_key m ≡ core_key n → length m.output ≡ length n.output
core_counts m n e = ap (λ p. p.0) (core_same m n e)

-- states of one key are one
pub key_tells : (m n : Machine) → key_of m ≡ key_of n → m ≡ n
key_tells m n e = ap (λ r. r.0) (sym (machine.back m []) ∙ ap machine.read (append-nil (key_of m) ∙ e ∙ sym (append-nil (key_of n))) ∙ machine.back n [])
