-- Bodies of routines that break no rule, and the routines of a system type one after the other.
use Rattle.std.proofs.Common.{◌≡◌, ℕ, Bool, true, false, List, [], ◌∷◌, ◌++◌, Option, Some, None, Ok, Err, is_some, refl, sym, ap, subst, ◌∙◌}
use Rattle.cp_resolved.proofs.Words.{bytes_eq, SystemKind, Program, Routine, ValueType, Meaning, Use, no_use, Judged, faults, Context, Step, reserve_name, part_steps}
use Rattle.cp_resolved.proofs.Words.{last_is, Loud, Heard, statements_loud, Name, find, routine_meaning, routine_in, with_routines, each_in, in_routine, routine_place}
use Rattle.cp_resolved.proofs.Words.{routine_places, IsOwn, IsAgreed, AreAgreed, Place, Opening, with_routine, routine_openings, AreLimited, Each, IsSmallRoutine, IsFit}
use Rattle.cp_resolved.proofs.Words.{IsFreeVariable, IsFreeParameter, all_tokens, part_tokens, routine_tokens, Tokens, HeadingIs, IsMarked, ScopesAgree, none_before}
use Rattle.cp_scope.specs.declared.types.Meaning.TheVariants as meaning
use Rattle.cp_scope.specs.Scopes.{Scope, Scopes, Shapes, Shape, body_shape, shape_in, or_else, look_outer, heading_at, look, with_shape, with_name, sealed, add, enter, Around, last_of, leave, keep, settle, census}
use Rattle.cp_scope.specs.Scopes as checker
use Rattle.cp_check.specs.declared.types.Spot.TheVariants as spot
use Rattle.cp_check.specs.Names as names
use Rattle.cp_check.specs.Headings.{after_faults, Headed, may_enter, heading, announce, announce_judged}
use Rattle.cp_check.specs.Routines as routines
use Rattle.cp_check.specs.Routines.{routine_context, routine_step, routine_steps, routine_use, body_step, close_routine_of}
use Rattle.cp_check.specs.Statements.{statements}
use Rattle.cp_meaning.specs.Scopes as scopes
use Rattle.cp_meaning.specs.Declarations as meant
use Rattle.cp_resolved.specs.Framed.{IsOrdinalResult}
use Rattle.cp_resolved.proofs.agreeing.Agreeing.{look_is, none_left, none_right, new_names, More, more_trans, with_more, with_there, Appends, appends_none, appends_then}
use Rattle.cp_resolved.proofs.agreeing.AgreeingNames.{W, heading_kept, heading_is_more, Known, IsKnown, known_moved, Agree, sees, fits, agree_same, agree_kept, agree_known, agree_returned}
use Rattle.cp_resolved.proofs.agreeing.AgreeingTypes.{IsFew}
use Rattle.cp_resolved.proofs.agreeing.AgreeingWritten.{each_left, each_right}
use Rattle.cp_resolved.proofs.agreeing.AgreeingParts.{StepResult, step_then, step_same, name_result, local_kind, parts_agree}
use Rattle.cp_resolved.proofs.agreeing.VariablesAmongNames.{declares_stand, parts_declare}
use Rattle.cp_resolved.proofs.declarations.ParametersRead.{Reads, name_read, parts_read, longer_routine}
use Rattle.cp_resolved.proofs.agreeing.RoutinesSeen.{body_entry}
use Rattle.cp_resolved.proofs.agreeing.AgreeingRoutines.{none_after, heading_none, heading_agrees, Announced, announced_agrees, announcing}
use Rattle.cp_resolved.proofs.declarations.EntriesAllowed.{entry_allowed}

pub record Uses (j : Judged Use) : Type 0 where
  pub value : Use
  pub is : j ≡ Ok value

pub loud_uses : (j : Judged Use) → Loud j → faults j ≡ [] → Uses j
loud_uses (Ok u) h e = record { value = u; is = refl }
loud_uses (Err []) h e = absurd h
loud_uses (Err (f ∷ fs)) h e = absurd (let bad : f ∷ fs ≡ [] = e in cc)

-- t has the parameters that s has
abbrev pub ReadsAs : Scopes → Scopes → Type 0
ReadsAs s t = checker.parameters_in t.inner.names ≡ checker.parameters_in s.inner.names

-- What the body of a routine takes is written when it is closed; s is before the routine, and t after it.
pub record BodyWritten (s : Scopes) (x : Place) (t : Scopes) (r : Routine) : Type 0 where
  pub before : More s.shapes x.scopes.shapes
  pub uses : Use
  pub judged : statements x.scopes x.context (Ok no_use) r.body.statements ≡ Ok uses
  pub body : Use
  pub there : shape_in r.body.at t.shapes ≡ Some (body_shape body)
  pub same : body.delays ≡ uses.delays

closed_written : (r : Routine) (v : Option ValueType) (u : Use) (t : Scopes) → shape_in r.body.at t.shapes ≡ None → shape_in r.body.at (routines.close_routine r v u t).shapes ≡ Some (body_shape (routine_use (census t.inner.names t.shapes).cells v u))
unfolding routines.close_routine settle keep leave
closed_written r v u t free = with_there t.shapes r.body.at (body_shape (routine_use (census t.inner.names t.shapes).cells v u)) free

module _ (tokens : Tokens) (p : Program) where
  -- ---- statements

  pub all_heard : (b : Bool) (s : Scopes) (m below : scopes.Scope) (ks : List ℕ) → Agree tokens p b None s m below ks → Heard s
  unfolding names.visible
  all_heard b s m below ks h at x = go (look x s) (sees tokens p b None s m below ks h x tt)
    where
      go : (o : Option (Option Meaning)) → IsKnown tokens s m x o → Loud (names.check_visible at o)
      go None k = tt
      go (Some None) k = k
      go (Some (Some c)) k = tt

  pub place_agreed : (s : Scopes) (w : Context) (m below : scopes.Scope) (ks : List ℕ) (o : Opening) → o.meaning.scope ≡ m → faults (statements s w (Ok no_use) o.meaning.body) ≡ [] → Each IsFreeVariable o.meaning.variables → Each IsFreeParameter o.meaning.parameters → IsOrdinalResult o.meaning.result → ((n : ℕ) → w.routine ≡ Some n → IsOwn tokens (record { scopes = s; context = w }) o n) → Agree tokens p false None s m below ks → IsAgreed tokens p (record { scopes = s; context = w }) o
  place_agreed s w m below ks o is sound variables parameters result own h =
      record {
        scopes = λ l k n. subst (λ (i : scopes.Scope). ScopesAgree tokens s (record { program = p; layouts = l; system = k; routine = n; scope = i })) (sym is)
            (record { names = λ x c e. (subst (IsKnown tokens s m x) e (sees tokens p false None s m below ks h x tt)).means; entries = λ j i y e. (h.entries j i y e).0; starts = h.starts });
        sound = sound;
        written = λ x n e. subst (λ (i : scopes.Scope). IsMarked s.shapes (meaning.Routine n) (find x i)) (sym is) ((subst (IsKnown tokens s m x) e (sees tokens p false None s m below ks h x tt)).marked);
        known = λ x e. subst (IsKnown tokens s m x) e (sees tokens p false None s m below ks h x tt);
        fit = λ x. subst (λ (i : scopes.Scope). IsFit (find x i)) (sym is) (fits tokens p false None s m below ks h x);
        limited = subst AreLimited (sym is) h.limited;
        variables = variables;
        parameters = parameters;
        result = result;
        own = own;
      }

  -- ---- out of a routine

  closed_agrees : (s a t : Scopes) (m below rs : scopes.Scope) (js ks : List ℕ) (r : Routine) (v : Option ValueType) (u : Use) → is_some (checker.find r.name.name s.inner.names) ≡ false → Agree tokens p false None s m below js → Known tokens a (with_routine m r) r.name.name (meaning.Routine r.name.at) →
      a.outer ≡ s.outer ++ with_name (sealed false s.inner) r.name.name (announcing tokens p r) ∷ [] → More s.shapes a.shapes → More a.shapes t.shapes → t.outer ≡ a.outer → Agree tokens p false None t rs (with_routine m r) (r.body.at ∷ ks) →
      StepResult tokens p false None s (routines.close_routine r v u t) (with_routine m r) below ks
  unfolding routines.close_routine settle keep leave add
  closed_agrees s a t m below rs js ks r v u fresh before known outer more further same h =
      let d : Shape = body_shape (routine_use (census t.inner.names t.shapes).cells v u) in
      let c : Option Meaning = announcing tokens p r in
      let ss : Shapes = with_shape t.shapes r.body.at d in
      let kept : Agree tokens p false None (keep t r.body.at d) rs (with_routine m r) ks = agree_kept tokens p false None t rs (with_routine m r) r.body.at ks d tt (λ y. refl) h in
      let all : More a.shapes ss = more_trans a.shapes t.shapes ss further (with_more t.shapes r.body.at d h.free.0) in
      let w : Scopes = record { outer = s.outer; inner = s.inner; shapes = ss } in
      let returned : Agree tokens p false None w m below ks = agree_returned tokens p false None s w m below js ks before refl refl before.unsealed (more_trans s.shapes a.shapes ss more all) kept.free kept.different kept.entries kept.starts in
      let added : Agree tokens p false None (add w r.name.name c) (with_routine m r) below ks =
      agree_known tokens p false None w m below ks r.name.name (meaning.Routine r.name.at) (routine_meaning r) fresh (λ e. absurd (cc)) (known_moved tokens a (add w r.name.name c) (with_routine m r) (with_routine m r) r.name.name (meaning.Routine r.name.at) all refl refl known) (λ e. absurd (cc)) returned in
      let last : last_of t.outer ≡ (let b : Around = record { outer = s.outer; inner = with_name (sealed false s.inner) r.name.name c } in b) = ap last_of (same ∙ outer) ∙ last_is s.outer (with_name (sealed false s.inner) r.name.name c) in
      record {
        agree = agree_same tokens p false None (add w r.name.name c) (routines.close_routine r v u t) (with_routine m r) below ks
            (ap (λ (b : Around). b.outer) last)
            (ap (λ (b : Around). b.inner.names) last ∙ ap (λ (e : Scope). e.names) (new_names (sealed false s.inner) r.name.name c fresh) ∙ sym (ap (λ (e : Scope). e.names) (new_names s.inner r.name.name c fresh)))
            (sym (ap (λ (e : Scope). e.is_sealed) (new_names s.inner r.name.name c fresh) ∙ before.unsealed))
            refl added;
        outer = ap (λ (b : Around). b.outer) last;
        settled = refl;
        more = more_trans s.shapes a.shapes ss more all;
        appends = ((r.name.name, c) ∷ [], ap (λ (b : Around). b.inner.names) last ∙ ap (λ (e : Scope). e.names) (new_names (sealed false s.inner) r.name.name c fresh));
      }

  -- with the parameters that stood before it
  closed_read : (s a t : Scopes) (r : Routine) (v : Option ValueType) (u : Use) → is_some (checker.find r.name.name s.inner.names) ≡ false → a.outer ≡ s.outer ++ with_name (sealed false s.inner) r.name.name (announcing tokens p r) ∷ [] → t.outer ≡ a.outer → ReadsAs s (routines.close_routine r v u t)
  unfolding routines.close_routine settle keep leave
  closed_read s a t r v u fresh outer same =
      let c : Option Meaning = announcing tokens p r in
      let last : last_of t.outer ≡ (let b : Around = record { outer = s.outer; inner = with_name (sealed false s.inner) r.name.name c } in b) = ap last_of (same ∙ outer) ∙ last_is s.outer (with_name (sealed false s.inner) r.name.name c) in
      ap (λ (b : Around). checker.parameters_in b.inner.names) last ∙ name_read (sealed false s.inner) r.name.name c refl

  -- ---- a routine

  abbrev opening_of : scopes.Scope → Routine → ℕ → Opening
  opening_of m r k = record { meaning = routine_in (with_routine m r) r; owner = k; name = Some r.name.name }

  record BodyResult (owner : Option SystemKind) (s : Scopes) (m below : scopes.Scope) (ks : List ℕ) (r : Routine) (j : Judged (Option ValueType)) (hs : Scopes) : Type 0 where
    pub agree : Agree tokens p false None (part_steps spot.Other (announce_judged r j hs) r.parts).scopes (routine_in (with_routine m r) r).scope (with_routine m r) (r.body.at ∷ ks)
    pub variables : Each IsFreeVariable (routine_in (with_routine m r) r).variables
    pub sound : faults (statements (part_steps spot.Other (announce_judged r j hs) r.parts).scopes (routine_context owner r) (Ok no_use) r.body.statements) ≡ []
    pub step : StepResult tokens p false None s (body_step r j (routines.enter_routine owner r (announce_judged r j hs))).scopes (with_routine m r) below ks
    pub own : (n : ℕ) → Some r.name.at ≡ Some n → IsOwn tokens (record { scopes = (part_steps spot.Other (announce_judged r j hs) r.parts).scopes; context = routine_context owner r }) (opening_of m r 0) n
    pub read : ReadsAs s (body_step r j (routines.enter_routine owner r (announce_judged r j hs))).scopes
    pub written : BodyWritten s (record { scopes = (part_steps spot.Other (announce_judged r j hs) r.parts).scopes; context = routine_context owner r }) (body_step r j (routines.enter_routine owner r (announce_judged r j hs))).scopes r

  same_token : (n k : ℕ) → Some n ≡ Some k → n ≡ k
  same_token n k e = cc

  own_found : (a t : Scopes) (x : Name) (n : ℕ) → Reads a t → t.outer ≡ a.outer → t.inner.is_sealed ≡ false → look x t ≡ Some (Some (meaning.Routine n)) → or_else (checker.find x a.inner.names) (look_outer x a.outer) ≡ Some (Some (meaning.Routine n))
  own_found a t x n read outer open_ e =
      subst (λ (cs : List Scope). or_else (checker.find x a.inner.names) (look_outer x cs) ≡ Some (Some (meaning.Routine n))) outer
      (longer_routine a.inner t.inner x (look_outer x t.outer) n read (sym (look_is x t open_) ∙ e))

  body_agrees : (owner : Option SystemKind) (s hs : Scopes) (m below : scopes.Scope) (js ks : List ℕ) (r : Routine) (v : Option ValueType) → is_some (checker.find r.name.name s.inner.names) ≡ false → Agree tokens p false None s m below js →
      Announced tokens p (announce r v hs) s r m (with_routine m r) (meant.heading_of (with_routine m r) r.kind).scope (all_tokens part_tokens r.parts (r.body.at ∷ ks)) → IsSmallRoutine r → Each (IsFew tokens) (in_routine r) → (body_step r (Ok v) (routines.enter_routine owner r (announce_judged r (Ok v) hs))).faults ≡ [] →
      BodyResult owner s m below ks r (Ok v) hs
  unfolding routines.enter_routine
  body_agrees owner s hs m below js ks r v fresh before ann small few e =
      let a : Scopes = announce r v hs in
      let k : scopes.Scope = with_routine m r in
      let d : Step = part_steps spot.Other a r.parts in
      let j : Judged Use = statements d.scopes (routine_context owner r) (Ok no_use) r.body.statements in
      let none : d.faults ≡ [] = none_before d.faults j e in
      let parts = parts_agree tokens p false spot.Other scopes.local_variable (local_kind tokens p) a (record { variables = []; scope = (meant.heading_of k r.kind).scope }) k (r.body.at ∷ ks) r.parts none small few ann.settled ann.agree in
      let same : after_faults d.faults j ≡ j = none_after d.faults j e in
      let sound : faults j ≡ [] = ap faults (sym same) ∙ e in
      let uses : Uses j = loud_uses j (statements_loud d.scopes (routine_context owner r) (all_heard false d.scopes (routine_in k r).scope k (r.body.at ∷ ks) parts.agree) r.body.statements (Ok no_use) tt) sound in
      record {
        agree = parts.agree;
        variables = declares_stand tokens spot.Other d.scopes.shapes (routine_in k r).variables d.scopes.inner.names
            (parts_declare tokens p false spot.Other scopes.local_variable (local_kind tokens p) a (record { variables = []; scope = (meant.heading_of k r.kind).scope }) k (r.body.at ∷ ks) r.parts none small few ann.settled ann.agree tt);
        sound = sound;
        step = subst (λ (i : Judged Use). StepResult tokens p false None s (close_routine_of r (Ok v) i d.scopes) k below ks) (sym (same ∙ uses.is))
            (closed_agrees s a d.scopes m below (routine_in k r).scope js ks r v uses.value fresh before ann.known ann.outer ann.more parts.more parts.outer parts.agree);
        own = λ n i. record {
          routine = λ g. (let bad : Some r.name.name ≡ None = g in cc);
          named = λ x g. subst (λ (z : ℕ). look x d.scopes ≡ Some (Some (meaning.Routine z)) → bytes_eq x r.name.name ≡ true) (same_token r.name.at n i) (λ f. ann.alone x (own_found a d.scopes x r.name.at (parts_read spot.Other a r.parts) parts.outer parts.agree.unsealed f)) g;
          heading = subst (λ (z : ℕ). HeadingIs (W tokens d.scopes.shapes) (heading_at z d.scopes) (Some (routine_in k r))) (same_token r.name.at n i)
              (subst (λ (z : checker.Heading). HeadingIs (W tokens d.scopes.shapes) z (Some (routine_in k r))) (sym (heading_kept r.name.at a.shapes d.scopes.shapes parts.more ann.known.there)) (heading_is_more tokens a.shapes d.scopes.shapes parts.more (heading_at r.name.at a) (Some (routine_in k r)) ann.heading));
        };
        read = subst (λ (i : Judged Use). ReadsAs s (close_routine_of r (Ok v) i d.scopes)) (sym (same ∙ uses.is)) (closed_read s a d.scopes r v uses.value fresh ann.outer parts.outer);
        written = record {
          before = more_trans s.shapes a.shapes d.scopes.shapes ann.more parts.more;
          uses = uses.value;
          judged = uses.is;
          body = routine_use (census d.scopes.inner.names d.scopes.shapes).cells v uses.value;
          there = subst (λ (i : Judged Use). shape_in r.body.at (close_routine_of r (Ok v) i d.scopes).shapes ≡ Some (body_shape (routine_use (census d.scopes.inner.names d.scopes.shapes).cells v uses.value))) (sym (same ∙ uses.is)) (closed_written r v uses.value d.scopes parts.agree.free.0);
          same = refl;
        };
      }

  pub record RoutineResult (owner : Option SystemKind) (s : Scopes) (m below : scopes.Scope) (ks : List ℕ) (n : ℕ) (r : Routine) : Type 0 where
    pub place : IsAgreed tokens p (routine_place owner s r) (record { meaning = routine_in (with_routine m r) r; owner = n; name = Some r.name.name })
    pub step : StepResult tokens p false None s (routine_step owner s r).scopes (with_routine m r) below ks
    pub read : ReadsAs s (routine_step owner s r).scopes
    pub written : BodyWritten s (routine_place owner s r) (routine_step owner s r).scopes r
    -- `entry` stands in classes and monitors alone
    pub entry : r.is_entry ≡ true → may_enter owner ≡ true

  -- what a routine leaves, by what its heading leaves
  routine_result : (owner : Option SystemKind) (s a : Scopes) (m below : scopes.Scope) (js ks : List ℕ) (n : ℕ) (r : Routine) (h : Headed) (v : Option ValueType) → h.result ≡ Ok v → Each IsFreeParameter (routine_in (with_routine m r) r).parameters → IsOrdinalResult (routine_in (with_routine m r) r).result → BodyResult owner a m below ks r (Ok v) h.scopes → a.outer ≡ s.outer → More s.shapes a.shapes → Appends s.inner.names a.inner.names → ReadsAs s a →
      IsAgreed tokens p (record { scopes = (part_steps spot.Other (announce_judged r h.result h.scopes) r.parts).scopes; context = routine_context owner r }) (record { meaning = routine_in (with_routine m r) r; owner = n; name = Some r.name.name })
      × StepResult tokens p false None s (routines.routine_after_heading owner r h).scopes (with_routine m r) below ks × ReadsAs s (routines.routine_after_heading owner r h).scopes
      × BodyWritten s (record { scopes = (part_steps spot.Other (announce_judged r h.result h.scopes) r.parts).scopes; context = routine_context owner r }) (routines.routine_after_heading owner r h).scopes r
  routine_result owner s a m below js ks n r h v is parameters result b outer more longer read =
      let body : BodyResult owner a m below ks r h.result h.scopes = subst (λ (j : Judged (Option ValueType)). BodyResult owner a m below ks r j h.scopes) (sym is) b in (
        place_agreed (part_steps spot.Other (announce_judged r h.result h.scopes) r.parts).scopes (routine_context owner r) (routine_in (with_routine m r) r).scope (with_routine m r) (r.body.at ∷ ks) (record { meaning = routine_in (with_routine m r) r; owner = n; name = Some r.name.name }) refl body.sound body.variables parameters result (λ z i. (let o = body.own z i in record { routine = o.routine; named = o.named; heading = o.heading })) body.agree,
        record { agree = body.step.agree; outer = body.step.outer ∙ outer; settled = body.step.settled; more = more_trans s.shapes a.shapes (routines.routine_after_heading owner r h).scopes.shapes more body.step.more; appends = appends_then s.inner.names a.inner.names (routines.routine_after_heading owner r h).scopes.inner.names longer body.step.appends },
        body.read ∙ read,
        (let b = body.written in record { before = more_trans s.shapes a.shapes _ more b.before; uses = b.uses; judged = b.judged; body = b.body; there = b.there; same = b.same }),
      )

  pub routine_agrees : (owner : Option SystemKind) (s : Scopes) (m below : scopes.Scope) (ks : List ℕ) (n : ℕ) (r : Routine) → (routine_step owner s r).faults ≡ [] → IsSmallRoutine r → Each (IsFew tokens) (in_routine r) → s.inner.pending ≡ [] → Agree tokens p false None s m below (routine_tokens r ks) → RoutineResult owner s m below ks n r
  unfolding routine_step enter
  routine_agrees owner s m below ks n r e small few empty h =
      let a : Scopes = (reserve_name s r.name).scopes in
      let hd : Headed = heading owner r (reserve_name s r.name) in
      let none : faults hd.result ≡ [] = none_left (faults hd.result) (faults (routines.enter_routine owner r (announce_judged r hd.result hd.scopes)).uses) e in
      let reserved : (reserve_name s r.name).faults ≡ [] = heading_none tokens p owner r (reserve_name s r.name) none in
      let named = name_result tokens p false None s r.name m below (routine_tokens r ks) reserved empty h in
      let fresh : is_some (checker.find r.name.name a.inner.names) ≡ false = named.reserved.pends r.name.name named.reserved.all.0 in
      let head = heading_agrees tokens p owner s m below (routine_tokens r ks) r none named.agree in
      let ann = announced_agrees tokens p a hd.scopes m below (with_routine m r) (meant.heading_of (with_routine m r) r.kind).scope (routine_tokens r ks) (all_tokens part_tokens r.parts (r.body.at ∷ ks)) r head.value refl fresh named.agree head.step.agree head.step.outer head.step.settled head.step.more (head.result, head.read, sym (body_entry m r)) in
      let body = body_agrees owner a hd.scopes m below (routine_tokens r ks) ks r head.value fresh named.agree ann small few
      (subst (λ (j : Judged (Option ValueType)). faults (routines.enter_routine owner r (announce_judged r j hd.scopes)).uses ≡ []) head.is (none_right (faults hd.result) (faults (routines.enter_routine owner r (announce_judged r hd.result hd.scopes)).uses) e)) in
      let all = routine_result owner s a m below (routine_tokens r ks) ks n r hd head.value head.is head.parameters head.ordinal body named.outer (λ k d i. ap (shape_in k) named.shapes ∙ i) (appends_none s.inner.names a.inner.names named.reserved.names) (ap checker.parameters_in named.reserved.names) in
      record { place = all.0; step = all.1; read = all.2; written = all.3; entry = entry_allowed owner r (reserve_name s r.name) head.value head.is }

  -- ---- the routines of a system type

  pub record RoutinesResult (owner : Option SystemKind) (s : Scopes) (m below : scopes.Scope) (ks : List ℕ) (n : ℕ) (rs : List Routine) : Type 0 where
    pub places : AreAgreed tokens p (routine_places owner s rs) (routine_openings n m rs)
    pub step : StepResult tokens p false None s (routine_steps owner s rs).scopes (with_routines m rs) below ks
    pub read : ReadsAs s (routine_steps owner s rs).scopes

  pub routines_agree : (owner : Option SystemKind) (s : Scopes) (m below : scopes.Scope) (ks : List ℕ) (n : ℕ) (rs : List Routine) → (routine_steps owner s rs).faults ≡ [] → Each IsSmallRoutine rs → Each (IsFew tokens) (each_in in_routine rs) → s.inner.pending ≡ [] → Agree tokens p false None s m below (all_tokens routine_tokens rs ks) →
      RoutinesResult owner s m below ks n rs
  unfolding routine_steps
  routines_agree owner s m below ks n [] e small few empty h = record { places = tt; step = step_same tokens p false None s m below ks empty h; read = refl }
  routines_agree owner s m below ks n (r ∷ rs) e small few empty h =
      let t : Scopes = (routine_step owner s r).scopes in
      let js : List ℕ = all_tokens routine_tokens rs ks in
      let k : scopes.Scope = with_routine m r in
      let first : RoutineResult owner s m below js n r = routine_agrees owner s m below js n r (none_left (routine_step owner s r).faults (routine_steps owner t rs).faults e) small.0 (each_left (IsFew tokens) (in_routine r) (each_in in_routine rs) few) empty h in
      let rest : RoutinesResult owner t k below ks n rs = routines_agree owner t k below ks n rs (none_right (routine_step owner s r).faults (routine_steps owner t rs).faults e) small.1 (each_right (IsFew tokens) (in_routine r) (each_in in_routine rs) few) first.step.settled first.step.agree in
      record { places = (first.place, rest.places); step = step_then tokens p false None s t (routine_steps owner t rs).scopes k (with_routines k rs) below js ks first.step rest.step; read = rest.read ∙ first.read }
