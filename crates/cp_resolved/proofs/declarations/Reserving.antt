-- Names that are being declared are new and different, where they break no rule.
use Rattle.std.proofs.Common.{◌≡◌, ℕ, Bool, true, false, ◌||◌, if◌then◌else◌, List, [], ◌∷◌, ◌++◌, map, Option, Some, None, is_some, refl, sym, ap, subst, ◌∙◌, append_assoc}
use Rattle.std.proofs.lemmas.List.{append-nil}
use Rattle.cp_resolved.proofs.Words.{bytes_eq, Identifier, CheckFault, C2, Meaning, Step, nothing, reserve_name, reserve_names, itself, or_left, or_right}
use Rattle.cp_scope.specs.declared.fault.CheckFault.TheVariants as check_fault
use Rattle.cp_scope.specs.Scopes.{Names, Scope, Scopes, find, is_among, or_else, is_declared_in, with_pending, reserve}
use Rattle.cp_check.specs.Records.{Reserved, reserve_field, reserve_fields, with_fields}
use Rattle.cp_resolved.proofs.agreeing.Agreeing.{is_itself, find_last, new_names, none_left, none_right}

-- ---- one name

-- names that are being declared are not declared yet
abbrev pub Pends : Scope → Type 0
Pends c = (x : List ℕ) → is_among x c.pending ≡ true → is_some (find x c.names) ≡ false

pub is_new : (c : Scope) (n : Identifier) → (reserve_field c n).faults ≡ [] → is_declared_in c n.name ≡ false
unfolding reserve_field
is_new c n h = go (is_declared_in c n.name) h
  where
    go : (b : Bool) → (let r : Reserved = (if b then record { faults = check_fault.Rule n.at C2 ∷ []; fields = c } else record { faults = []; fields = with_pending c n.name }) in r.faults) ≡ [] → b ≡ false
    go true e = absurd (let bad : check_fault.Rule n.at C2 ∷ [] ≡ [] = e in cc)
    go false e = refl

pub is_reserved : (c : Scope) (n : Identifier) → (reserve_field c n).faults ≡ [] → (reserve_field c n).fields ≡ (let e : Scope = record { names = c.names; pending = c.pending ++ n.name ∷ []; is_sealed = c.is_sealed } in e)
unfolding reserve_field
is_reserved c n h =
    ap (λ (b : Bool). (let r : Reserved = (if b then record { faults = check_fault.Rule n.at C2 ∷ []; fields = c } else record { faults = []; fields = with_pending c n.name }) in r.fields)) (is_new c n h)
    ∙ ap (λ (b : Bool). if b then c else record { names = c.names; pending = c.pending ++ n.name ∷ []; is_sealed = c.is_sealed }) (or_right (is_some (find n.name c.names)) (is_among n.name c.pending) (is_new c n h))

among_last : (x n : List ℕ) (ms : List (List ℕ)) → is_among x (ms ++ n ∷ []) ≡ (is_among x ms || bytes_eq x n)
among_last x n [] = go (bytes_eq x n)
  where
    go : (b : Bool) → (if b then true else false) ≡ b
    go true = refl
    go false = refl
among_last x n (m ∷ ms) = go (bytes_eq x m) (among_last x n ms)
  where
    go : (b : Bool) → is_among x (ms ++ n ∷ []) ≡ (is_among x ms || bytes_eq x n) → (if b then true else is_among x (ms ++ n ∷ [])) ≡ ((if b then true else is_among x ms) || bytes_eq x n)
    go true e = refl
    go false e = e

-- ---- names of one declaration

abbrev pub AreAmong : List Identifier → List (List ℕ) → Type 0
AreAmong [] ms = Unit {0}
AreAmong (n ∷ ns) ms = (is_among n.name ms ≡ true) × AreAmong ns ms

-- each is another one
abbrev pub IsOtherThan : List ℕ → List Identifier → Type 0
IsOtherThan x [] = Unit {0}
IsOtherThan x (n ∷ ns) = (bytes_eq n.name x ≡ false) × IsOtherThan x ns

abbrev pub AreOthers : List Identifier → Type 0
AreOthers [] = Unit {0}
AreOthers (n ∷ ns) = IsOtherThan n.name ns × AreOthers ns

abbrev pub AreFresh : List Identifier → Names → Type 0
AreFresh [] ds = Unit {0}
AreFresh (n ∷ ns) ds = (is_some (find n.name ds) ≡ false) × AreFresh ns ds

pub record ReservedIn (c t : Scope) (ns : List Identifier) : Type 0 where
  pub names : t.names ≡ c.names
  pub sealed : t.is_sealed ≡ c.is_sealed
  pub pends : Pends t
  pub stay : (x : List ℕ) → is_among x c.pending ≡ true → is_among x t.pending ≡ true
  pub all : AreAmong ns t.pending
  pub other : (x : List ℕ) → is_among x c.pending ≡ true → IsOtherThan x ns
  pub others : AreOthers ns

pub not_among : (x n : List ℕ) (ms : List (List ℕ)) → is_among x ms ≡ true → is_among n ms ≡ false → bytes_eq n x ≡ false
not_among x n ms h g = go (bytes_eq n x) refl
  where
    go : (b : Bool) → bytes_eq n x ≡ b → b ≡ false
    go true same = absurd (let bad : true ≡ false = sym h ∙ ap (λ y. is_among y ms) (sym (is_itself n x same)) ∙ g in cc)
    go false e = refl

pends_one : (c : Scope) (n : List ℕ) → is_some (find n c.names) ≡ false → Pends c → (x : List ℕ) → is_among x (c.pending ++ n ∷ []) ≡ true → is_some (find x c.names) ≡ false
pends_one c n fresh h x e = go (is_among x c.pending) (bytes_eq x n) refl refl (sym (among_last x n c.pending) ∙ e)
  where
    go : (a b : Bool) → is_among x c.pending ≡ a → bytes_eq x n ≡ b → (a || b) ≡ true → is_some (find x c.names) ≡ false
    go true b i j k = h x i
    go false true i j k = ap (λ y. is_some (find y c.names)) (is_itself x n j) ∙ fresh
    go false false i j k = absurd (let bad : false ≡ true = k in cc)

pub stays_one : (x n : List ℕ) (ms : List (List ℕ)) → is_among x ms ≡ true → is_among x (ms ++ n ∷ []) ≡ true
stays_one x n ms h = among_last x n ms ∙ ap (λ b. b || bytes_eq x n) h

or_true : (a : Bool) → (a || true) ≡ true
or_true true = refl
or_true false = refl

pub last_among : (n : List ℕ) (ms : List (List ℕ)) → is_among n (ms ++ n ∷ []) ≡ true
last_among n ms = among_last n n ms ∙ ap (λ b. is_among n ms || b) (itself n) ∙ or_true (is_among n ms)

pub one_reserved : (c : Scope) (n : Identifier) → (reserve_field c n).faults ≡ [] → Pends c → ReservedIn c (reserve_field c n).fields (n ∷ [])
one_reserved c n h p =
    let t : Scope = record { names = c.names; pending = c.pending ++ n.name ∷ []; is_sealed = c.is_sealed } in
    let new : is_declared_in c n.name ≡ false = is_new c n h in
    let fresh : is_some (find n.name c.names) ≡ false = or_left (is_some (find n.name c.names)) (is_among n.name c.pending) new in
    subst (λ (e : Scope). ReservedIn c e (n ∷ [])) (sym (is_reserved c n h))
    (record {
      names = refl;
      sealed = refl;
      pends = pends_one c n.name fresh p;
      stay = λ x e. stays_one x n.name c.pending e;
      all = (last_among n.name c.pending, tt);
      other = λ x e. (not_among x n.name c.pending e (or_right (is_some (find n.name c.names)) (is_among n.name c.pending) new), tt);
      others = (tt, tt);
    })

pub all_reserved : (c : Scope) (ns : List Identifier) → (reserve_fields c ns).faults ≡ [] → Pends c → ReservedIn c (reserve_fields c ns).fields ns
unfolding reserve_fields
all_reserved c [] h p = record { names = refl; sealed = refl; pends = p; stay = λ x e. e; all = tt; other = λ x e. tt; others = tt }
all_reserved c (n ∷ ns) h p =
    let d : Scope = (reserve_field c n).fields in
    let one : ReservedIn c d (n ∷ []) = one_reserved c n (none_left (reserve_field c n).faults (reserve_fields d ns).faults h) p in
    let rest : ReservedIn d (reserve_fields d ns).fields ns = all_reserved d ns (none_right (reserve_field c n).faults (reserve_fields d ns).faults h) one.pends in
    record {
      names = rest.names ∙ one.names;
      sealed = rest.sealed ∙ one.sealed;
      pends = rest.pends;
      stay = λ x e. rest.stay x (one.stay x e);
      all = (rest.stay n.name one.all.0, rest.all);
      other = λ x e. ((one.other x e).0, rest.other x (one.stay x e));
      others = (rest.other n.name one.all.0, rest.others);
    }

pub pending_fresh : (c : Scope) (ns : List Identifier) (ms : List (List ℕ)) → ((x : List ℕ) → is_among x ms ≡ true → is_some (find x c.names) ≡ false) → AreAmong ns ms → AreFresh ns c.names
pending_fresh c [] ms h g = tt
pending_fresh c (n ∷ ns) ms h g = (h n.name g.0, pending_fresh c ns ms h g.1)

pub fresh_last : (x n : List ℕ) (ds : Names) (o : Option Meaning) → bytes_eq x n ≡ false → is_some (find x ds) ≡ false → is_some (find x (ds ++ (n, o) ∷ [])) ≡ false
fresh_last x n ds o e h = ap is_some (find_last x n ds o ∙ ap (λ (b : Bool). or_else (find x ds) (if b then Some o else None)) e) ∙ go (find x ds) h
  where
    go : (q : Option (Option Meaning)) → is_some q ≡ false → is_some (or_else q None) ≡ false
    go None i = refl
    go (Some m) i = i

pub fresh_after : (ns : List Identifier) (n : List ℕ) (ds : Names) (o : Option Meaning) → IsOtherThan n ns → AreFresh ns ds → AreFresh ns (ds ++ (n, o) ∷ [])
fresh_after [] n ds o h g = tt
fresh_after (m ∷ ns) n ds o h g = (fresh_last m.name n ds o h.0 g.0, fresh_after ns n ds o h.1 g.1)

-- the names, each with what it stands for
abbrev pub named_all : List Identifier → Option Meaning → Names
named_all ns o = map (λ (n : Identifier). (n.name, o)) ns

pub record Filled (c t : Scope) (ns : List Identifier) (o : Option Meaning) : Type 0 where
  pub names : t.names ≡ c.names ++ named_all ns o
  pub sealed : t.is_sealed ≡ c.is_sealed

pub all_filled : (c : Scope) (ns : List Identifier) (o : Option Meaning) → AreFresh ns c.names → AreOthers ns → Filled c (with_fields c ns o) ns o
unfolding with_fields
all_filled c [] o h g = record { names = sym (append-nil c.names); sealed = refl }
all_filled c (n ∷ ns) o h g =
    let t : Scope = record { names = c.names ++ (n.name, o) ∷ []; pending = c.pending; is_sealed = c.is_sealed } in
    let rest : Filled t (with_fields t ns o) ns o = all_filled t ns o (fresh_after ns n.name c.names o g.0 h.1) g.1 in
    subst (λ (e : Scope). Filled c (with_fields e ns o) (n ∷ ns) o) (sym (new_names c n.name o h.0))
    (record { names = rest.names ∙ append_assoc c.names ((n.name, o) ∷ []) (named_all ns o); sealed = rest.sealed })

-- ---- the same of the innermost scope

abbrev pub with_inner : Scopes → Scope → Scopes
with_inner s c = record { outer = s.outer; inner = c; shapes = s.shapes }

pub record NameReserved (s : Scopes) (n : Identifier) : Type 0 where
  pub faults : (reserve_field s.inner n).faults ≡ []
  pub is : (reserve_name s n).scopes ≡ with_inner s (reserve_field s.inner n).fields

pub name_reserved : (s : Scopes) (n : Identifier) → (reserve_name s n).faults ≡ [] → NameReserved s n
unfolding reserve_name reserve_field reserve
name_reserved s n h = go (is_declared_in s.inner n.name) refl h
  where
    go : (b : Bool) → is_declared_in s.inner n.name ≡ b → (let t : Step = (if b then record { faults = check_fault.Rule n.at C2 ∷ []; scopes = s } else nothing (reserve s n.name)) in t.faults) ≡ [] → NameReserved s n
    go true e k = absurd (let bad : check_fault.Rule n.at C2 ∷ [] ≡ [] = k in cc)
    go false e k =
        record {
          faults = ap (λ (b : Bool). (let r : Reserved = (if b then record { faults = check_fault.Rule n.at C2 ∷ []; fields = s.inner } else record { faults = []; fields = with_pending s.inner n.name }) in r.faults)) e;
          is = ap (λ (b : Bool). (let t : Step = (if b then record { faults = check_fault.Rule n.at C2 ∷ []; scopes = s } else nothing (reserve s n.name)) in t.scopes)) e
              ∙ ap (with_inner s) (sym (ap (λ (b : Bool). (let r : Reserved = (if b then record { faults = check_fault.Rule n.at C2 ∷ []; fields = s.inner } else record { faults = []; fields = with_pending s.inner n.name }) in r.fields)) e));
        }

pub record NamesReserved (s : Scopes) (ns : List Identifier) : Type 0 where
  pub faults : (reserve_fields s.inner ns).faults ≡ []
  pub is : (reserve_names s ns).scopes ≡ with_inner s (reserve_fields s.inner ns).fields

pub names_reserved : (s : Scopes) (ns : List Identifier) → (reserve_names s ns).faults ≡ [] → NamesReserved s ns
unfolding reserve_names reserve_fields
names_reserved s [] h = record { faults = refl; is = refl }
names_reserved s (n ∷ ns) h =
    let one : NameReserved s n = name_reserved s n (none_left (reserve_name s n).faults (reserve_names (reserve_name s n).scopes ns).faults h) in
    let rest : NamesReserved (with_inner s (reserve_field s.inner n).fields) ns =
    names_reserved (with_inner s (reserve_field s.inner n).fields) ns (subst (λ (t : Scopes). (reserve_names t ns).faults ≡ []) one.is (none_right (reserve_name s n).faults (reserve_names (reserve_name s n).scopes ns).faults h)) in
    record {
      faults = ap (λ (fs : List CheckFault). fs ++ (reserve_fields (reserve_field s.inner n).fields ns).faults) one.faults ∙ rest.faults;
      is = ap (λ (t : Scopes). (reserve_names t ns).scopes) one.is ∙ rest.is;
    }
