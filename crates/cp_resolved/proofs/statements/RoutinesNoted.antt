-- The routines of a system type by their numbers: which are entries, and what is written of their bodies where they are called.
use Rattle.std.proofs.Common.{◌≡◌, ℕ, Bool, true, false, ◌&&◌, if◌then◌else◌, ◌⊎◌, inl, inr, List, [], ◌∷◌, ◌++◌, length, Option, Some, None, Ok, Err, is_some, slice_get, refl, sym, ap, subst, ◌∙◌, arith, append_assoc, length-append}
use Rattle.cp_resolved.proofs.Words.{SystemKind, Use, no_use, Judged, Scopes, Shapes, body_shape, shape_in, may_enter, routine_step, routine_steps, Name, same_name, find}
use Rattle.cp_resolved.proofs.Words.{since, routine_meaning, seen_inside, is_seen, routine_in, SystemMeaning, system_in, with_routines, declared, own_meaning, each_in}
use Rattle.cp_resolved.proofs.Words.{in_part, in_routine, in_system, initial_meaning, Each, IsSmallRoutine, IsSmallSystem, all_tokens, routine_tokens, Tokens}
use Rattle.cp_resolved.proofs.Words.{is_entry_in, inside, Place, routine_place, routine_places, initial_place, parts_scopes, system_places, AreAgreed, places_of}
use Rattle.cp_tree.specs.declared.declaration.SystemKind.TheVariants as system_kind
use Rattle.cp_tree.specs.Syntax.{Program, Routine, System}
use Rattle.cp_check.specs.Statements.{statements}
use Rattle.cp_meaning.specs.Scopes as scopes
use Rattle.cp_resolved.specs.Openings.{Opening, with_routine, routine_openings, parts_scope, initial_opening, system_openings, openings_of, meaning_in, meaning_at}
use Rattle.cp_resolved.proofs.agreeing.Agreeing.{none_left, none_right, More}
use Rattle.cp_resolved.proofs.agreeing.AgreeingNames.{Agree}
use Rattle.cp_resolved.proofs.agreeing.AgreeingTypes.{IsFew}
use Rattle.cp_resolved.proofs.agreeing.AgreeingWritten.{each_left, each_right}
use Rattle.cp_resolved.proofs.agreeing.AgreeingBodies.{BodyWritten, RoutineResult, routine_agrees, RoutinesResult, routines_agree}
use Rattle.cp_resolved.proofs.agreeing.AgreeingSystems.{InsideResult}
use Rattle.cp_resolved.proofs.agreeing.RoutinesSeen.{IsNoRoutine, parts, groups, body_entry, body_finds, routine_or}
use Rattle.cp_resolved.proofs.components.ComponentsStand.{entry_there as slice_seam}

-- ---- what is asked of each number

abbrev pub entry_with : Option Name → Bool → Bool
entry_with None b = false
entry_with (Some x) b = b

-- a routine that is an entry
abbrev pub opens_entry : Opening → Bool
opens_entry o = entry_with o.name (is_entry_in o.meaning.scope)

abbrev pub entry_in : Option Opening → Bool
entry_in None = false
entry_in (Some o) = opens_entry o

abbrev pub entry_at : Program → ℕ → Bool
entry_at p n = entry_in (slice_get (openings_of p) n)

abbrev pub is_monitor : Option SystemKind → Bool
is_monitor (Some system_kind.Monitor) = true
is_monitor o = false

abbrev pub delays_in : Judged Use → Bool
delays_in (Ok u) = u.delays
delays_in (Err fs) = false

-- a routine of a monitor in which a process may be delayed
abbrev pub waits_of : Place → Opening → Bool
waits_of x o = is_monitor x.context.owner && (is_some x.context.routine && delays_in (statements x.scopes x.context (Ok no_use) o.meaning.body))

abbrev pub waits_with : Option Place → Option Opening → Bool
waits_with (Some x) (Some o) = waits_of x o
waits_with x o = false

abbrev pub waits_at : Program → ℕ → Bool
waits_at p n = waits_with (slice_get (places_of p) n) (slice_get (openings_of p) n)

-- ---- where no routine is visible

abbrev pub AreNoRoutines : scopes.Scope → Type 0
AreNoRoutines [] = Unit {0}
AreNoRoutines (d ∷ ds) = IsNoRoutine d.1 × AreNoRoutines ds

pub one_more : (x : Name) (d : scopes.Meaning) (s : scopes.Scope) → IsNoRoutine d → AreNoRoutines s → AreNoRoutines ((x, d) ∷ s)
one_more x d s i h = (i, h)

seen_none : (s : scopes.Scope) → AreNoRoutines s → AreNoRoutines (seen_inside s)
seen_none [] h = tt
seen_none (d ∷ ds) h = go (is_seen d.1) (seen_none ds h.1)
  where
    go : (b : Bool) → AreNoRoutines (seen_inside ds) → AreNoRoutines (if b then d ∷ seen_inside ds else seen_inside ds)
    go true rest = (h.0, rest)
    go false rest = rest

pub none_inside : (m : scopes.Scope) (y : System) → AreNoRoutines m → AreNoRoutines (parts_scope (seen_inside m) y)
none_inside m y h = parts AreNoRoutines one_more scopes.permanent_variable (λ t. tt) (record { variables = []; scope = _ }) y.parts (groups AreNoRoutines one_more scopes.permanent_variable (λ t. tt) (record { parameters = []; scope = seen_inside m }) y.parameters (seen_none m h))

pub none_found : (y : Name) (r : Routine) (s : scopes.Scope) → AreNoRoutines s → find y s ≡ Some (routine_meaning r) → ⊥
none_found y r [] h e = cc
none_found y r (d ∷ ds) h e = go (same_name y d.0) (none_found y r ds h.1) e
  where
    go : (b : Bool) → (find y ds ≡ Some (routine_meaning r) → ⊥) → (if b then Some d.1 else find y ds) ≡ Some (routine_meaning r) → ⊥
    go true rest f = subst IsNoRoutine (let g : d.1 ≡ routine_meaning r = cc in g) h.0
    go false rest f = rest f

-- ---- places and openings by their numbers

module _ (p : Program) where
  pub record IsListed (x : Place) (o : Opening) : Type 0 where
    pub number : ℕ
    pub there : slice_get (openings_of p) number ≡ Some o
    pub means : meaning_at p number ≡ o.meaning
    pub entry : entry_at p number ≡ opens_entry o
    pub waits : waits_at p number ≡ waits_of x o

  abbrev pub AreListed : List Place → List Opening → Type 0
  AreListed [] os = Unit {0}
  AreListed (x ∷ xs) [] = Unit {0}
  AreListed (x ∷ xs) (o ∷ os) = IsListed x o × AreListed xs os

  pub listed_left : (tokens : Tokens) (xs ys : List Place) (os qs : List Opening) → AreAgreed tokens p xs os → AreListed (xs ++ ys) (os ++ qs) → AreListed xs os
  listed_left tokens (x ∷ xs) ys (o ∷ os) qs a h = (h.0, listed_left tokens xs ys os qs a.1 h.1)
  listed_left tokens _ ys _ qs a h = tt

  pub listed_right : (tokens : Tokens) (xs ys : List Place) (os qs : List Opening) → AreAgreed tokens p xs os → AreListed (xs ++ ys) (os ++ qs) → AreListed ys qs
  listed_right tokens [] ys [] qs a h = h
  listed_right tokens (x ∷ xs) ys (o ∷ os) qs a h = listed_right tokens xs ys os qs a.1 h.1
  listed_right tokens _ ys _ qs a h = absurd a

  listed_from : (before xs : List Place) (around os : List Opening) → places_of p ≡ before ++ xs → openings_of p ≡ around ++ os → length before ≡ length around → AreListed xs os
  listed_from before (x ∷ xs) around (o ∷ os) e g same =
      let there : slice_get (openings_of p) (length before) ≡ Some o = ap (λ (ys : List Opening). slice_get ys (length before)) g ∙ ap (slice_get (around ++ o ∷ os)) same ∙ slice_seam around o os in
      let place : slice_get (places_of p) (length before) ≡ Some x = ap (λ (ys : List Place). slice_get ys (length before)) e ∙ slice_seam before x xs in
      let next : length (before ++ x ∷ []) ≡ length (around ++ o ∷ []) = omega (arith, same, length-append before (x ∷ []), length-append around (o ∷ [])) in (
        record {
          number = length before;
          there = there;
          means = ap (meaning_in (initial_meaning (own_meaning (declared p) p))) there;
          entry = ap entry_in there;
          waits = ap (λ (q : Option Place). waits_with q (slice_get (openings_of p) (length before))) place ∙ ap (waits_with (Some x)) there;
        },
        listed_from (before ++ x ∷ []) xs (around ++ o ∷ []) os (e ∙ sym (append_assoc before (x ∷ []) xs)) (g ∙ sym (append_assoc around (o ∷ []) os)) next,
      )
  listed_from before _ around _ e g same = tt

  pub all_listed : AreListed (places_of p) (openings_of p)
  all_listed = listed_from [] (places_of p) [] (openings_of p) refl refl refl

  -- ---- routines that are closed

  -- its number, and what is written of its body; k is the scope in which its own name is the latest
  pub record Done (owner : Option SystemKind) (ss : Shapes) (k : scopes.Scope) (r : Routine) : Type 0 where
    pub number : ℕ
    pub means : meaning_at p number ≡ routine_in k r
    pub entry : entry_at p number ≡ r.is_entry
    pub body : Use
    pub there : shape_in r.body.at ss ≡ Some (body_shape body)
    pub waits : waits_at p number ≡ (is_monitor owner && body.delays)
    pub allowed : r.is_entry ≡ true → may_enter owner ≡ true

  done_more : (owner : Option SystemKind) (ss ts : Shapes) (k : scopes.Scope) (r : Routine) → More ss ts → Done owner ss k r → Done owner ts k r
  done_more owner ss ts k r more h = record { number = h.number; means = h.means; entry = h.entry; body = h.body; there = more r.body.at (body_shape h.body) h.there; waits = h.waits; allowed = h.allowed }

  abbrev pub AllDone : Option SystemKind → Shapes → scopes.Scope → Type 0
  AllDone owner ss m = (y : Name) (r : Routine) → find y m ≡ Some (routine_meaning r) → Done owner ss (since y m) r

  -- the routine that a place belongs to; k is the scope in which its own name is the latest
  abbrev pub IsOwner : Place → Opening → scopes.Scope → Routine → Type 0
  IsOwner x o k r = (x.context.routine ≡ Some r.name.at) × (o.meaning ≡ routine_in k r)

  -- each routine that is visible at a place is closed, or the one that the place belongs to
  abbrev pub IsNoted : Place → Opening → Type 0
  IsNoted x o = (y : Name) (r : Routine) → find y o.meaning.scope ≡ Some (routine_meaning r) → IsOwner x o (since y o.meaning.scope) r ⊎ Done x.context.owner x.scopes.shapes (since y o.meaning.scope) r

  abbrev pub AreNoted : List Place → List Opening → Type 0
  AreNoted [] os = Unit {0}
  AreNoted (x ∷ xs) [] = Unit {0}
  AreNoted (x ∷ xs) (o ∷ os) = IsNoted x o × AreNoted xs os

  pub noted_both : (tokens : Tokens) (xs ys : List Place) (os qs : List Opening) → AreAgreed tokens p xs os → AreNoted xs os → AreNoted ys qs → AreNoted (xs ++ ys) (os ++ qs)
  noted_both tokens [] ys [] qs a h g = g
  noted_both tokens (x ∷ xs) ys (o ∷ os) qs a h g = (h.0, noted_both tokens xs ys os qs a.1 h.1 g)
  noted_both tokens _ ys _ qs a h g = absurd a

  -- ---- a routine

  abbrev opening_of : ℕ → scopes.Scope → Routine → Opening
  opening_of n m r = record { meaning = routine_in (with_routine m r) r; owner = n; name = Some r.name.name }

  routine_noted : (owner : Option SystemKind) (s : Scopes) (m : scopes.Scope) (n : ℕ) (r : Routine) → BodyWritten s (routine_place owner s r) (routine_step owner s r).scopes r → AllDone owner s.shapes m → IsNoted (routine_place owner s r) (opening_of n m r)
  routine_noted owner s m n r b done y q e =
      let f = body_finds (with_routine m r) r y q e in
      routine_or m r y q f.0 (IsOwner (routine_place owner s r) (opening_of n m r) (since y (routine_in (with_routine m r) r).scope) q ⊎ Done owner (routine_place owner s r).scopes.shapes (since y (routine_in (with_routine m r) r).scope) q)
      (λ same k. inl (ap (λ (z : Routine). Some z.name.at) (sym same), ap (routine_in (with_routine m r)) (sym same) ∙ ap (λ (z : scopes.Scope). routine_in z q) (sym (f.1 ∙ k))))
      (λ before k. inr (subst (λ (z : scopes.Scope). Done owner (routine_place owner s r).scopes.shapes z q) (sym (f.1 ∙ k)) (done_more owner s.shapes (routine_place owner s r).scopes.shapes (since y m) q b.before (done y q before))))

  routine_done : (owner : Option SystemKind) (s : Scopes) (m : scopes.Scope) (n : ℕ) (r : Routine) → BodyWritten s (routine_place owner s r) (routine_step owner s r).scopes r → More s.shapes (routine_step owner s r).scopes.shapes → (r.is_entry ≡ true → may_enter owner ≡ true) → IsListed (routine_place owner s r) (opening_of n m r) → AllDone owner s.shapes m → AllDone owner (routine_step owner s r).scopes.shapes (with_routine m r)
  routine_done owner s m n r b more allowed listed done y q e =
      let ts : Shapes = (routine_step owner s r).scopes.shapes in
      let own : Done owner ts (with_routine m r) r = record {
        number = listed.number;
        means = listed.means;
        entry = listed.entry ∙ body_entry m r;
        body = b.body;
        there = b.there;
        waits = listed.waits ∙ (ap (λ (j : Judged Use). is_monitor owner && delays_in j) b.judged ∙ ap (λ (c : Bool). is_monitor owner && c) (sym b.same));
        allowed = allowed;
      } in
      routine_or m r y q e (Done owner ts (since y (with_routine m r)) q)
      (λ same k. subst (λ (z : scopes.Scope). Done owner ts z q) (sym k) (subst (Done owner ts (with_routine m r)) (sym same) own))
      (λ before k. subst (λ (z : scopes.Scope). Done owner ts z q) (sym k) (done_more owner s.shapes ts (since y m) q more (done y q before)))

  module _ (tokens : Tokens) where
    pub record RoutinesNoted (owner : Option SystemKind) (s : Scopes) (m : scopes.Scope) (n : ℕ) (rs : List Routine) : Type 0 where
      pub noted : AreNoted (routine_places owner s rs) (routine_openings n m rs)
      pub done : AllDone owner (routine_steps owner s rs).scopes.shapes (with_routines m rs)

    pub routines_noted : (owner : Option SystemKind) (s : Scopes) (m below : scopes.Scope) (ks : List ℕ) (n : ℕ) (rs : List Routine) → (routine_steps owner s rs).faults ≡ [] → Each IsSmallRoutine rs → Each (IsFew tokens) (each_in in_routine rs) → s.inner.pending ≡ [] → Agree tokens p false None s m below (all_tokens routine_tokens rs ks) →
        AreListed (routine_places owner s rs) (routine_openings n m rs) → AllDone owner s.shapes m → RoutinesNoted owner s m n rs
    unfolding routine_steps
    routines_noted owner s m below ks n [] e small few empty h listed done = record { noted = tt; done = done }
    routines_noted owner s m below ks n (r ∷ rs) e small few empty h listed done =
        let t : Scopes = (routine_step owner s r).scopes in
        let js : List ℕ = all_tokens routine_tokens rs ks in
        let k : scopes.Scope = with_routine m r in
        let first : RoutineResult tokens p owner s m below js n r = routine_agrees tokens p owner s m below js n r (none_left (routine_step owner s r).faults (routine_steps owner t rs).faults e) small.0 (each_left (IsFew tokens) (in_routine r) (each_in in_routine rs) few) empty h in
        let rest : RoutinesNoted owner t k n rs =
        routines_noted owner t k below ks n rs (none_right (routine_step owner s r).faults (routine_steps owner t rs).faults e) small.1 (each_right (IsFew tokens) (in_routine r) (each_in in_routine rs) few) first.step.settled first.step.agree listed.1
        (routine_done owner s m n r first.written first.step.more first.entry listed.0 done) in
        record { noted = (routine_noted owner s m n r first.written done, rest.noted); done = rest.done }

    -- ---- a system type

    -- the number of a routine
    pub record Numbered (k : scopes.Scope) (r : Routine) : Type 0 where
      pub number : ℕ
      pub means : meaning_at p number ≡ routine_in k r
      pub entry : entry_at p number ≡ r.is_entry

    pub record InitialNumbered (m : SystemMeaning) : Type 0 where
      pub number : ℕ
      pub opening : Opening
      pub there : slice_get (openings_of p) number ≡ Some opening
      pub means : meaning_at p number ≡ initial_meaning m
      pub entry : entry_at p number ≡ false
      pub waits : waits_at p number ≡ false

    pub record SystemNumbered (m : SystemMeaning) : Type 0 where
      pub routines : (y : Name) (r : Routine) → find y m.scope ≡ Some (routine_meaning r) → Numbered (since y m.scope) r
      pub initial : InitialNumbered m
      -- no routine of a process is an entry
      pub closed : m.kind ≡ system_kind.Process → (y : Name) (r : Routine) → find y m.scope ≡ Some (routine_meaning r) → r.is_entry ≡ true → ⊥

    pub done_numbered : (owner : Option SystemKind) (ss : Shapes) (m : SystemMeaning) → (m.kind ≡ system_kind.Process → may_enter owner ≡ false) → AllDone owner ss m.scope → InitialNumbered m → SystemNumbered m
    done_numbered owner ss m kind done i =
        record {
          routines = λ y r e. (let d = done y r e in record { number = d.number; means = d.means; entry = d.entry });
          initial = i;
          closed = λ process y r e entry. (let bad : true ≡ false = sym ((done y r e).allowed entry) ∙ kind process in cc);
        }

    and_false : (b : Bool) → (b && false) ≡ false
    and_false true = refl
    and_false false = refl

    pub initial_numbered : (x : Place) (n : ℕ) (m : SystemMeaning) → x.context.routine ≡ None → IsListed x (initial_opening n m) → InitialNumbered m
    initial_numbered x n m e h =
        record {
          number = h.number;
          opening = initial_opening n m;
          there = h.there;
          means = h.means;
          entry = h.entry;
          waits = h.waits ∙ (ap (λ (o : Option ℕ). is_monitor x.context.owner && (is_some o && delays_in (statements x.scopes x.context (Ok no_use) m.body))) e ∙ and_false (is_monitor x.context.owner));
        }

    same_scopes : (s : Scopes) (y : System) → (inside s y).scopes ≡ (routine_steps (Some y.kind) (parts_scopes s y) y.routines).scopes
    unfolding inside
    same_scopes s y = refl

    pub system_noted : (s : Scopes) (m : scopes.Scope) (ks : List ℕ) (n : ℕ) (y : System) → InsideResult tokens p s m ks n y → IsSmallSystem y → Each (IsFew tokens) (in_system y) → ((z : Name) (r : Routine) → find z (parts_scope m y) ≡ Some (routine_meaning r) → ⊥) → AreListed (system_places s y) (system_openings n m y) →
        AreNoted (system_places s y) (system_openings n m y) × SystemNumbered (system_in m y)
    system_noted s m ks n y r small few none listed =
        let b : Scopes = parts_scopes s y in
        let ps : scopes.Scope = parts_scope m y in
        let fewer = each_right (IsFew tokens) (each_in in_part y.parts) (each_in in_routine y.routines) few in
        let agreed : RoutinesResult tokens p (Some y.kind) b ps m (y.at ∷ ks) n y.routines = routines_agree tokens p (Some y.kind) b ps m (y.at ∷ ks) n y.routines r.none small.1 fewer r.settled r.begins in
        let xs : List Place = routine_places (Some y.kind) b y.routines in
        let os : List Opening = routine_openings n ps y.routines in
        let last : Opening = initial_opening n (system_in m y) in
        let all : RoutinesNoted (Some y.kind) b ps n y.routines = routines_noted (Some y.kind) b ps m (y.at ∷ ks) n y.routines r.none small.1 fewer r.settled r.begins (listed_left tokens xs (initial_place s y ∷ []) os (last ∷ []) agreed.places listed) (λ z q e. absurd (none z q e)) in
        let done : AllDone (Some y.kind) (inside s y).scopes.shapes (system_in m y).scope = subst (λ (t : Scopes). AllDone (Some y.kind) t.shapes (system_in m y).scope) (sym (same_scopes s y)) all.done in
        let own = listed_right tokens xs (initial_place s y ∷ []) os (last ∷ []) agreed.places listed in (
          noted_both tokens xs (initial_place s y ∷ []) os (last ∷ []) agreed.places all.noted ((λ z q e. inr (done z q e)), tt),
          done_numbered (Some y.kind) (inside s y).scopes.shapes (system_in m y) (ap (λ (k : SystemKind). may_enter (Some k))) done (initial_numbered (initial_place s y) n (system_in m y) refl own.0),
        )
