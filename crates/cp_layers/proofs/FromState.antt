-- What comes of expanding one state.
use Rattle.std.proofs.Common.{◌≡◌, ◌⊎◌, inl, inr, ⊎_elim, ℕ, Bool, true, false, if◌then◌else◌, List, [], ◌∷◌, ◌++◌, refl, sym, ap, subst, ◌∙◌, arith}
use Rattle.cp_layers.proofs.Words.{Contains, Tables, Machine, System, StateKey, Marking, Adds}
use Rattle.std.specs.List.{list_any}
use Rattle.std.specs.Cmp.Lexicographic.{bytes_decides}
use Rattle.std.specs.Prelude.{◌||◌}
use Rattle.std.proofs.lemmas.List.{length-append}
use Rattle.std.proofs.lemmas.List.Elements.{Contains-append_left, Contains-append_right, Contains-push, Contains-push_cases}
use Rattle.indexmap.specs.IndexSet.{insert_key}
use Rattle.cp_key.specs.Room.{IsMachineOf}
use Rattle.cp_run.specs.declared.outcome.OutcomeKind.{OutcomeKind}
use Rattle.cp_run.specs.Run.{Node, Halted, Choosing, chosen}
use Rattle.cp_key.specs.contracts.state_key.StateKeyPartialEq.TheImpl as key_eq
use Rattle.cp_layers.specs.Layers.{IsKeyOf, HasKey, AddsState, AddsNode, FromState}

abbrev pub same_key : StateKey → StateKey → Bool
same_key = (key_eq.ghosts).eq

-- a key that is known is that of one of the keys
known_key : (keys : List StateKey) (key : StateKey) → list_any (same_key key) keys ≡ true → (other : StateKey) × Contains keys other × (other.bytes.items ≡ key.bytes.items)
known_key [] key h = absurd (cc)
known_key (k ∷ keys) key h = by (same_key key k) refl (known_key keys key)
  where
    by : (b : Bool) → same_key key k ≡ b → (list_any (same_key key) keys ≡ true → (other : StateKey) × Contains keys other × (other.bytes.items ≡ key.bytes.items)) → (other : StateKey) × Contains (k ∷ keys) other × (other.bytes.items ≡ key.bytes.items)
    by true e on = (k, Contains-append_left (k ∷ []) keys k (Contains-push [] k), sym ((bytes_decides key.bytes.items k.bytes.items).0 e))
    by false e on =
        let rest = on (sym (ap (λ b. b || list_any (same_key key) keys) e) ∙ h) in
        (rest.0, Contains-append_right (k ∷ []) keys rest.0 rest.1, rest.2)

pub adds_state : (keys : List StateKey) (key : StateKey) (m : Machine) → IsKeyOf key m → AddsState keys m (insert_key same_key keys key)
adds_state keys key m is = by (list_any (same_key key) keys) refl
  where
    by : (b : Bool) → list_any (same_key key) keys ≡ b → AddsState keys m (if b then keys else keys ++ key ∷ [])
    by true e =
        let k = known_key keys key e in
        record { kept = λ other h. h; few = omega arith; found = (k.0, k.1, k.2 ∙ is); only = λ other h. inl h }
    by false e =
        record {
          kept = λ other h. Contains-append_left keys (key ∷ []) other h;
          few = (let len = length-append keys (key ∷ []) in omega (arith, len));
          found = (key, Contains-push keys key, is);
          only = λ other h. ⊎_elim (λ (c : Contains keys other). inl c) (λ (same : key ≡ other). inr (subst (λ k. IsKeyOf k m) same is)) (Contains-push_cases keys key other h);
        }

node_of_choice : Node Machine → Machine → Machine
node_of_choice (Halted kind m) n = n
node_of_choice (Choosing m) n = m

pub node_choosing : (r : Tables) (before after : List StateKey) (m : Machine) → IsMachineOf r m → AddsState before m after → AddsNode r before (Choosing m) after
unfolding node_of_choice
node_choosing r before after m own h =
    record {
      kept = h.kept;
      few = h.few;
      found = λ n e. subst (HasKey after) (ap (λ x. node_of_choice x m) e) h.found;
      only = λ key c. ⊎_elim (λ (o : Contains before key). inl o) (λ (is : IsKeyOf key m). inr (m, own, refl, is)) (h.only key c);
    }

pub node_halted : (r : Tables) (before : List StateKey) (kind : OutcomeKind) (m : Machine) → AddsNode r before (Halted kind m) before
node_halted r before kind m = record { kept = λ key h. h; few = omega arith; found = λ n e. absurd (cc); only = λ key h. inl h }

module _ {A : Type 0} (marking : Marking A) (r : Tables) (sys : System Machine) (steps : ℕ) (m : Machine) where
  none_in : {X : Type 0} (x : X) → Contains [] x → ⊥
  none_in x h = let lt = h.1 in absurd (omega (arith, lt))

  pub state_none : (marks : List A) (keys : List StateKey) → FromState marking r sys steps m [] marks keys marks keys
  state_none marks keys =
      record {
        kept = λ mark h. h;
        noted = λ p i mark h. absurd (none_in p i);
        only = λ mark h. inl h;
        kept_keys = λ key h. h;
        found = λ p n i e. absurd (none_in p i);
        own = λ key h. inl h;
      }

  pub state_more : (ps : List ℕ) (p : ℕ) (a b c : List A) (k l q : List StateKey) → FromState marking r sys steps m ps a k b l → Adds b (marking.chosen m p) c → AddsNode r l (chosen sys steps m p) q → FromState marking r sys steps m (ps ++ p ∷ []) a k c q
  state_more ps p a b c k l q f g h =
      record {
        kept = λ mark i. g.kept mark (f.kept mark i);
        noted = λ o i mark j. ⊎_elim (λ (old : Contains ps o). g.kept mark (f.noted o old mark j)) (λ (e : p ≡ o). g.added mark (subst (λ x. Contains (marking.chosen m x) mark) (sym e) j)) (Contains-push_cases ps p o i);
        only = λ mark i. ⊎_elim (λ (j : Contains b mark). only_before mark (f.only mark j)) (λ (j : Contains (marking.chosen m p) mark). inr (p, Contains-push ps p, j)) (g.only mark i);
        kept_keys = λ key i. h.kept key (f.kept_keys key i);
        found = λ o n i e. ⊎_elim (λ (old : Contains ps o). let x = f.found o n old e in (x.0, h.kept x.0 x.1, x.2)) (λ (same : p ≡ o). h.found n (ap (chosen sys steps m) same ∙ e)) (Contains-push_cases ps p o i);
        own = λ key i. ⊎_elim (λ (j : Contains l key). own_before key (f.own key j)) (λ (x : (n : Machine) × IsMachineOf r n × (chosen sys steps m p ≡ Choosing n) × IsKeyOf key n). inr (p, x.0, Contains-push ps p, x.1, x.2, x.3)) (h.only key i);
      }
    where
      only_before : (mark : A) → Contains a mark ⊎ ((o : ℕ) × Contains ps o × Contains (marking.chosen m o) mark) → Contains a mark ⊎ ((o : ℕ) × Contains (ps ++ p ∷ []) o × Contains (marking.chosen m o) mark)
      only_before mark (inl i) = inl i
      only_before mark (inr x) = inr (x.0, Contains-append_left ps (p ∷ []) x.0 x.1, x.2)

      own_before : (key : StateKey) → Contains k key ⊎ ((o : ℕ) × (n : Machine) × Contains ps o × IsMachineOf r n × (chosen sys steps m o ≡ Choosing n) × IsKeyOf key n) → Contains k key ⊎ ((o : ℕ) × (n : Machine) × Contains (ps ++ p ∷ []) o × IsMachineOf r n × (chosen sys steps m o ≡ Choosing n) × IsKeyOf key n)
      own_before key (inl i) = inl i
      own_before key (inr x) = inr (x.0, x.1, Contains-append_left ps (p ∷ []) x.0 x.2, x.3, x.4, x.5)
