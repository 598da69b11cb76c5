-- What holds of each statement of a list, at any depth; and where a list is judged without a fault, so is each statement of it.
use Rattle.cp_resolved.proofs.Words.{◌≡◌, ℕ, false, List, [], Ok, Use, no_use, Judged, both, ◌>>=◌, Scopes, Context, Label, expression, IsSmallStatement}
use Rattle.cp_resolved.proofs.Words.{AreSmallStatements, AreSmallArms}
use Rattle.cp_tree.specs.Syntax.{Expression, Statement, empty, assign, invoke, block, if_then, if_else, case_of, while_do, repeat_until, for_do, cycle, init, asserted, Statements, no_statements, more_statements, Arms, no_arms, more_arms, arm}
use Rattle.cp_check.specs.Names as names
use Rattle.cp_check.specs.Cases as cases
use Rattle.cp_check.specs.Statements as statements
use Rattle.cp_check.specs.Statements.{statement}
use Rattle.cp_resolved.proofs.agreeing.WithoutFaults.{Then, then_of, both_of}

-- ---- each statement

abbrev mutual
  pub EachIn : (Statement → Type 0) → Statement → Type 0
  EachIn P (empty at) = P (empty at)
  EachIn P (assign at d e) = P (assign at d e)
  EachIn P (invoke at d es) = P (invoke at d es)
  EachIn P (block at ss) = P (block at ss) × EachOf P ss
  EachIn P (if_then at e t) = P (if_then at e t) × EachIn P t
  EachIn P (if_else at e t u) = P (if_else at e t u) × EachIn P t × EachIn P u
  EachIn P (case_of at e as' b) = P (case_of at e as' b) × EachArm P as'
  EachIn P (while_do at e t) = P (while_do at e t) × EachIn P t
  EachIn P (repeat_until at ss e) = P (repeat_until at ss e) × EachOf P ss
  EachIn P (for_do at i e d f t) = P (for_do at i e d f t) × EachIn P t
  EachIn P (cycle at ss) = P (cycle at ss) × EachOf P ss
  EachIn P (init at ts) = P (init at ts)
  EachIn P (asserted at k e t) = P (asserted at k e t) × EachIn P t

  pub EachOf : (Statement → Type 0) → Statements → Type 0
  EachOf P no_statements = Unit {0}
  EachOf P (more_statements t ts) = EachIn P t × EachOf P ts

  pub EachArm : (Statement → Type 0) → Arms → Type 0
  EachArm P no_arms = Unit {0}
  EachArm P (more_arms (arm cs t) as') = EachIn P t × EachArm P as'

module _ (P Q : Statement → Type 0) (f : (t : Statement) → P t → Q t) where
  mutual
    pub each_in : (t : Statement) → EachIn P t → EachIn Q t
    each_in (empty at) h = f (empty at) h
    each_in (assign at d e) h = f (assign at d e) h
    each_in (invoke at d es) h = f (invoke at d es) h
    each_in (block at ss) h = (f (block at ss) h.0, each_of ss h.1)
    each_in (if_then at e t) h = (f (if_then at e t) h.0, each_in t h.1)
    each_in (if_else at e t u) h = (f (if_else at e t u) h.0, each_in t h.1, each_in u h.2)
    each_in (case_of at e as' b) h = (f (case_of at e as' b) h.0, each_arm as' h.1)
    each_in (while_do at e t) h = (f (while_do at e t) h.0, each_in t h.1)
    each_in (repeat_until at ss e) h = (f (repeat_until at ss e) h.0, each_of ss h.1)
    each_in (for_do at i e d g t) h = (f (for_do at i e d g t) h.0, each_in t h.1)
    each_in (cycle at ss) h = (f (cycle at ss) h.0, each_of ss h.1)
    each_in (init at ts) h = f (init at ts) h
    each_in (asserted at k e t) h = (f (asserted at k e t) h.0, each_in t h.1)

    pub each_of : (ts : Statements) → EachOf P ts → EachOf Q ts
    each_of no_statements h = tt
    each_of (more_statements t ts) h = (each_in t h.0, each_of ts h.1)

    pub each_arm : (as' : Arms) → EachArm P as' → EachArm Q as'
    each_arm no_arms h = tt
    each_arm (more_arms (arm cs t) as') h = (each_in t h.0, each_arm as' h.1)

-- the statement itself
pub the_statement : (P : Statement → Type 0) (t : Statement) → EachIn P t → P t
the_statement P (empty at) h = h
the_statement P (assign at d e) h = h
the_statement P (invoke at d es) h = h
the_statement P (init at ts) h = h
the_statement P _ h = h.0

-- ---- statements without a fault

-- what came before, and what holds of the rest
pub record Inside {A : Type 0} (j : Judged A) (U : Type 0) : Type 0 where
  pub value : A
  pub is : j ≡ Ok value
  pub rest : U

module _ (s : Scopes) (w : Context) where
  pub record IsSound (t : Statement) : Type 0 where
    pub small : IsSmallStatement t
    pub use_of : Use
    pub is : statement s w t ≡ Ok use_of

  tested_then : (at : ℕ) (e : Expression) (k : Judged Use) (r : Use) → (both (expression s w false e) k >>= statements.test_then at) ≡ Ok r → Inside k (Unit {0})
  tested_then at e k r is =
      let t : Then (both (expression s w false e) k) (statements.test_then at) r = then_of (both (expression s w false e) k) (statements.test_then at) r is in
      record { value = t.value.1; is = (both_of (expression s w false e) k t.value t.is).second; rest = tt }

  mutual
    unfolding statement

    pub sound_in : (t : Statement) → IsSmallStatement t → (r : Use) → statement s w t ≡ Ok r → EachIn IsSound t
    sound_in (block at ts) m r is = (record { small = m; use_of = r; is = is }, (sound_of ts m (Ok no_use) r is).rest)
    sound_in (cycle at ts) m r is = (record { small = m; use_of = r; is = is }, (sound_of ts m (Ok no_use) r is).rest)
    sound_in (if_then at e t) m r is =
        let x = tested_then at e (statement s w t) r is in
        (record { small = m; use_of = r; is = is }, sound_in t m.1 x.value x.is)
    sound_in (if_else at e t u) m r is =
        let x = tested_then at e (both (statement s w t) (statement s w u) >>= statements.together) r is in
        let k : Then (both (statement s w t) (statement s w u)) statements.together x.value = then_of (both (statement s w t) (statement s w u)) statements.together x.value x.is in
        let b = both_of (statement s w t) (statement s w u) k.value k.is in
        (record { small = m; use_of = r; is = is }, sound_in t m.1 k.value.0 b.first, sound_in u m.2 k.value.1 b.second)
    sound_in (while_do at e t) m r is =
        let x = tested_then at e (statement s w t) r is in
        (record { small = m; use_of = r; is = is }, sound_in t m.1 x.value x.is)
    sound_in (repeat_until at ts e) m r is =
        let j : Judged Use = statements.statements s w (Ok no_use) ts in
        let k : Then (both j (expression s w false e)) (statements.test_last at) r = then_of (both j (expression s w false e)) (statements.test_last at) r is in
        (record { small = m; use_of = r; is = is }, (sound_of ts m.0 (Ok no_use) k.value.0 (both_of j (expression s w false e) k.value k.is).first).rest)
    sound_in (for_do at i a d b t) m r is =
        let j = both (both (names.meaning_of_name s i) (expression s w false a)) (expression s w false b) in
        let k : Then (both j (statement s w t)) (statements.count_over s w at i.at) r = then_of (both j (statement s w t)) (statements.count_over s w at i.at) r is in
        (record { small = m; use_of = r; is = is }, sound_in t m.2 k.value.1 (both_of j (statement s w t) k.value k.is).second)
    sound_in (case_of at e as' b) m r is =
        let j : Judged (List Label × Use) = statements.arms s w (Ok ([], no_use)) as' in
        let k : Then (both (expression s w false e) j) (cases.check_case at) r = then_of (both (expression s w false e) j) (cases.check_case at) r is in
        (record { small = m; use_of = r; is = is }, (sound_arms as' m.1 (Ok ([], no_use)) k.value.1 (both_of (expression s w false e) j k.value k.is).second).rest)
    sound_in (asserted at k e t) m r is =
        let j : Then (both (statements.assertion s w e) (statement s w t)) statements.together r = then_of (both (statements.assertion s w e) (statement s w t)) statements.together r is in
        (record { small = m; use_of = r; is = is }, sound_in t m.1 j.value.1 (both_of (statements.assertion s w e) (statement s w t) j.value j.is).second)
    sound_in _ m r is = record { small = m; use_of = r; is = is }

    pub sound_of : (ts : Statements) → AreSmallStatements ts → (j : Judged Use) (r : Use) → statements.statements s w j ts ≡ Ok r → Inside j (EachOf IsSound ts)
    sound_of no_statements m j r is = record { value = r; is = is; rest = tt }
    sound_of (more_statements t ts) m j r is =
        let x = sound_of ts m.1 (both j (statement s w t) >>= statements.together) r is in
        let k : Then (both j (statement s w t)) statements.together x.value = then_of (both j (statement s w t)) statements.together x.value x.is in
        let b = both_of j (statement s w t) k.value k.is in
        record { value = k.value.0; is = b.first; rest = (sound_in t m.0 k.value.1 b.second, x.rest) }

    pub sound_arms : (as' : Arms) → AreSmallArms as' → (j : Judged (List Label × Use)) (r : List Label × Use) → statements.arms s w j as' ≡ Ok r → Inside j (EachArm IsSound as')
    sound_arms no_arms m j r is = record { value = r; is = is; rest = tt }
    sound_arms (more_arms (arm cs t) as') m j r is =
        let x = sound_arms as' m.1 (both j (statements.labelled s w (arm cs t)) >>= cases.join_arms) r is in
        let k : Then (both j (statements.labelled s w (arm cs t))) cases.join_arms x.value = then_of (both j (statements.labelled s w (arm cs t))) cases.join_arms x.value x.is in
        let b = both_of j (statements.labelled s w (arm cs t)) k.value k.is in
        let c = both_of (cases.labels s cs) (statement s w t) k.value.1 b.second in
        record { value = k.value.0; is = b.first; rest = (sound_in t m.0.1 k.value.1.1 c.second, x.rest) }
