-- What two folds gather along two systems that go in step stays related.
use Rattle.std.proofs.Common.{◌≡◌, ℕ, zero, suc, Bool, true, false, if◌then◌else◌, List, [], ◌∷◌, refl, subst}
use Rattle.cp_run.specs.Code.{IfGoes}
use Rattle.cp_run.specs.declared.outcome.Turn.{Turn}
use Rattle.cp_run.specs.declared.outcome.Turn.TheVariants.{Over, Due, Goes}
use Rattle.cp_run.specs.Run.{Node, Halted, Choosing, node_at, turn_at, turn_after, settled_turn, stretch, opened, may, chosen}
use Rattle.cp_run.specs.System.{System}
use Rattle.cp_machine_laws.specs.InStep.{CanGo, CanEnter, GoInStep}
use Rattle.cp_machine_laws.proofs.Alike.{NodesAlike, goes_on, goes_same, opening_goes, may_same, may_go, may_enter, admitted_same, admitted_goes}
use Rattle.cp_machine_laws.proofs.Turns.{turn_same}
use Rattle.cp_run.specs.Fold.{Fold, fold_run, fold_turn, fold_stretch, fold_opened, fold_chosen, fold_from}
use Rattle.cp_run.specs.Stop.{last_state, last_state_from}

-- Each step, admission and choice keeps what is gathered on both sides related. A relation may also look at the states that the systems are in.
pub record KeepRelated {S T X Y : Type 0} (a : System S) (b : System T) (R : S → T → Type 0) (f : Fold S X) (h : Fold T Y) (Q : S → T → X → Y → Type 0) : Type 0 where
  pub step : (s : S) (t : T) (p : ℕ) (x : X) (y : Y) → R s t → CanGo a s p → Q s t x y → Q (a.step s p) (b.step t p) (f.on_step s p (a.event s p) (a.step s p) x) (h.on_step t p (b.event t p) (b.step t p) y)
  pub admission : (s : S) (t : T) (p : ℕ) (x : X) (y : Y) → R s t → CanEnter a s p → Q s t x y → Q (a.admit s p) (b.admit t p) (f.on_admission p (a.admit s p) x) (h.on_admission p (b.admit t p) y)
  pub choice : (s : S) (t : T) (p : ℕ) (x : X) (y : Y) → R s t → Q s t x y → Q s t (f.on_choice s p x) (h.on_choice t p y)

-- So what a run gathers is related, in the states in which it stops, which are related too.
pub record EndRelated {S T X Y : Type 0} (a : System S) (b : System T) (R : S → T → Type 0) (f : Fold S X) (h : Fold T Y) (Q : S → T → X → Y → Type 0) (choices steps : ℕ) (word : List ℕ) (x : X) (y : Y) : Type 0 where
  pub states : R (last_state a choices steps word) (last_state b choices steps word)
  pub gathered : Q (last_state a choices steps word) (last_state b choices steps word) (fold_run a f choices steps word x) (fold_run b h choices steps word y)

module _ {S T X Y : Type 0} (a : System S) (b : System T) (R : S → T → Type 0) (f : Fold S X) (h : Fold T Y) (Q : S → T → X → Y → Type 0) (g : GoInStep a b R) (keeps : KeepRelated a b R f h Q) where
  -- the states are related, and so is what is gathered
  abbrev Both : X → Y → S → T → Type 0
  Both x y s t = R s t × Q s t x y

  -- ---- who goes on

  on_turn : (P : ℕ → Type 0) (s : S) (t : T) (n : ℕ → Node S) (m : ℕ → Node T) (on : ℕ → X → X) (un : ℕ → Y → Y) (x : X) (y : Y) (u : Turn) → Both x y s t → IfGoes u P → ((q : ℕ) → P q → NodesAlike (Both (on q x) (un q y)) (n q) (m q)) → NodesAlike (Both (fold_turn on u x) (fold_turn un u y)) (node_at s n u) (node_at t m u)
  on_turn P s t n m on un x y (Over kind) r i k = (refl, r)
  on_turn P s t n m on un x y Due r i k = r
  on_turn P s t n m on un x y (Goes q) r i k = k q i

  on_turns : (P : ℕ → Type 0) (s : S) (t : T) (n : ℕ → Node S) (m : ℕ → Node T) (on : ℕ → X → X) (un : ℕ → Y → Y) (x : X) (y : Y) (u v : Turn) → u ≡ v → Both x y s t → IfGoes u P → ((q : ℕ) → P q → NodesAlike (Both (on q x) (un q y)) (n q) (m q)) → NodesAlike (Both (fold_turn on u x) (fold_turn un v y)) (node_at s n u) (node_at t m v)
  on_turns P s t n m on un x y u v e r i k = subst (λ (w : Turn). NodesAlike (Both (fold_turn on u x) (fold_turn un w y)) (node_at s n u) (node_at t m w)) e (on_turn P s t n m on un x y u r i k)

  -- ---- stretches

  on_stretch : (left : ℕ) (s : S) (t : T) (p : ℕ) (x : X) (y : Y) → Both x y s t → CanGo a s p → NodesAlike (Both (fold_stretch a f left s p x) (fold_stretch b h left t p y)) (stretch a left s p) (stretch b left t p)
  unfolding stretch fold_stretch
  on_stretch zero s t p x y r c = (refl, r)
  on_stretch (suc left) s t p x y r c =
      let k : Both (f.on_step s p (a.event s p) (a.step s p) x) (h.on_step t p (b.event t p) (b.step t p) y) (a.step s p) (b.step t p) = (g.step s t p r.0 c, keeps.step s t p x y r.0 c r.1) in
      on_turns (CanGo a (a.step s p)) (a.step s p) (b.step t p) (stretch a left (a.step s p)) (stretch b left (b.step t p)) (fold_stretch a f left (a.step s p)) (fold_stretch b h left (b.step t p))
      (f.on_step s p (a.event s p) (a.step s p) x) (h.on_step t p (b.event t p) (b.step t p) y) (turn_after a (a.step s p) p (a.event s p)) (turn_after b (b.step t p) p (b.event t p))
      (goes_same a b R g s t p r.0 c) k (goes_on a b R g s t p r.0 c)
      (λ q d. on_stretch left (a.step s p) (b.step t p) q (f.on_step s p (a.event s p) (a.step s p) x) (h.on_step t p (b.event t p) (b.step t p) y) k d)

  on_opened : (steps : ℕ) (x : X) (y : Y) → Q a.start b.start x y → NodesAlike (Both (fold_opened a f steps x) (fold_opened b h steps y)) (opened a steps) (opened b steps)
  unfolding opened fold_opened
  on_opened steps x y r =
      let k : Both x y a.start b.start = (g.start, r) in
      on_turns (CanGo a a.start) a.start b.start (stretch a steps a.start) (stretch b steps b.start) (fold_stretch a f steps a.start) (fold_stretch b h steps b.start) x y (turn_at a a.start false 0) (turn_at b b.start false 0)
      (turn_same a b a.start b.start false 0 g.processes (g.alike a.start b.start g.start)) k (opening_goes a b R g)
      (λ q d. on_stretch steps a.start b.start q x y k d)

  -- ---- choices

  on_chosen : (steps : ℕ) (s : S) (t : T) (p : ℕ) (x : X) (y : Y) → Both x y s t → may a s p ≡ true → NodesAlike (Both (fold_chosen a f steps s p x) (fold_chosen b h steps t p y)) (chosen a steps s p) (chosen b steps t p)
  unfolding chosen fold_chosen
  on_chosen steps s t p x y r m =
      subst (λ (c : Bool). NodesAlike (Both (if a.is_pending s then gathered_left else fold_stretch a f steps s p x) (if c then gathered_right else fold_stretch b h steps t p y)) (if a.is_pending s then left else stretch a steps s p) (if c then right else stretch b steps t p))
      (g.alike s t r.0).pending (go (a.is_pending s) refl)
    where
      left : Node S
      left = node_at (a.admit s p) (stretch a steps (a.admit s p)) (settled_turn a (a.admit s p) true p)

      right : Node T
      right = node_at (b.admit t p) (stretch b steps (b.admit t p)) (settled_turn b (b.admit t p) true p)

      gathered_left : X
      gathered_left = fold_turn (fold_stretch a f steps (a.admit s p)) (settled_turn a (a.admit s p) true p) (f.on_admission p (a.admit s p) x)

      gathered_right : Y
      gathered_right = fold_turn (fold_stretch b h steps (b.admit t p)) (settled_turn b (b.admit t p) true p) (h.on_admission p (b.admit t p) y)

      go : (c : Bool) → a.is_pending s ≡ c → NodesAlike (Both (if c then gathered_left else fold_stretch a f steps s p x) (if c then gathered_right else fold_stretch b h steps t p y)) (if c then left else stretch a steps s p) (if c then right else stretch b steps t p)
      go false e = on_stretch steps s t p x y r (may_go a s p e m)
      go true e =
          let c = may_enter a s p e m in
          let k : Both (f.on_admission p (a.admit s p) x) (h.on_admission p (b.admit t p) y) (a.admit s p) (b.admit t p) = (g.admit s t p r.0 c, keeps.admission s t p x y r.0 c r.1) in
          on_turns (CanGo a (a.admit s p)) (a.admit s p) (b.admit t p) (stretch a steps (a.admit s p)) (stretch b steps (b.admit t p)) (fold_stretch a f steps (a.admit s p)) (fold_stretch b h steps (b.admit t p))
          (f.on_admission p (a.admit s p) x) (h.on_admission p (b.admit t p) y) (settled_turn a (a.admit s p) true p) (settled_turn b (b.admit t p) true p)
          (admitted_same a b R g s t p r.0 c) k (admitted_goes a b R g s t p r.0 c)
          (λ q d. on_stretch steps (a.admit s p) (b.admit t p) q (f.on_admission p (a.admit s p) x) (h.on_admission p (b.admit t p) y) k d)

  -- ---- runs

  on_word : (steps choices : ℕ) (word : List ℕ) (n : Node S) (m : Node T) (x : X) (y : Y) → NodesAlike (Both x y) n m → Both (fold_from a f steps choices word n x) (fold_from b h steps choices word m y) (last_state_from a steps choices word n) (last_state_from b steps choices word m)
  unfolding fold_from last_state_from
  on_word steps choices word (Halted k s) (Halted l t) x y r = r.1
  on_word steps zero word (Choosing s) (Choosing t) x y r = r
  on_word steps (suc choices) [] (Choosing s) (Choosing t) x y r = r
  on_word steps (suc choices) (p ∷ word) (Choosing s) (Choosing t) x y r =
      subst (λ (c : Bool). Both (if may a s p then more_left else f.on_choice s p x) (if c then more_right else h.on_choice t p y) (if may a s p then last_left else s) (if c then last_right else t))
      (may_same a b s t g.processes (g.alike s t r.0) p)
      (go (may a s p) (λ e. on_word steps choices word (chosen a steps s p) (chosen b steps t p) (fold_chosen a f steps s p (f.on_choice s p x)) (fold_chosen b h steps t p (h.on_choice t p y)) (on_chosen steps s t p (f.on_choice s p x) (h.on_choice t p y) chosen_now e)) refl)
    where
      chosen_now : Both (f.on_choice s p x) (h.on_choice t p y) s t
      chosen_now = (r.0, keeps.choice s t p x y r.0 r.1)

      more_left : X
      more_left = fold_from a f steps choices word (chosen a steps s p) (fold_chosen a f steps s p (f.on_choice s p x))

      more_right : Y
      more_right = fold_from b h steps choices word (chosen b steps t p) (fold_chosen b h steps t p (h.on_choice t p y))

      last_left : S
      last_left = last_state_from a steps choices word (chosen a steps s p)

      last_right : T
      last_right = last_state_from b steps choices word (chosen b steps t p)

      go : (c : Bool) → (may a s p ≡ true → Both more_left more_right last_left last_right) → may a s p ≡ c → Both (if c then more_left else f.on_choice s p x) (if c then more_right else h.on_choice t p y) (if c then last_left else s) (if c then last_right else t)
      go true next e = next e
      go false next e = chosen_now
  on_word steps choices word (Halted k s) (Choosing t) x y r = absurd r
  on_word steps choices word (Choosing s) (Halted l t) x y r = absurd r

  pub ends_related : (x : X) (y : Y) → Q a.start b.start x y → (choices steps : ℕ) (word : List ℕ) → EndRelated a b R f h Q choices steps word x y
  ends_related x y r choices steps word =
      let k = on_word steps choices word (opened a steps) (opened b steps) (fold_opened a f steps x) (fold_opened b h steps y) (on_opened steps x y r) in
      record { states = k.0; gathered = k.1 }
