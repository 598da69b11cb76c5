-- In two systems whose choices lead to states that are related, one word is a fair schedule in both, and lets the same processes wait.
use Rattle.std.proofs.Common.{◌≡◌, ◌⊎◌, inl, inr, ⊎_elim, ◌∙◌, ◌<◌, ℕ, zero, suc, Bool, true, false, List, Some, sym, ap, subst}
use Rattle.cp_waits.proofs.Words.{System, Node, Choosing, chosen, opened, Moment, moments, WaitsForGood}
use Rattle.cp_machine_laws.proofs.Alike.{NodesAlike}
use Rattle.cp_endless_laws.specs.Fair.{IsEndless, IsServed}
use Rattle.cp_endless_laws.specs.Traps.{IsStuck}
use Rattle.cp_endless_laws.specs.WaitsForEver.{MayWaitForEver, WaitsSometime}
use Rattle.cp_endless_laws.proofs.names.Together.{ChoicesAlike, after_there, any_alike, choosing_alike, each_alike, turned}
use Rattle.cp_waits.specs.Named.{LingersBy, WaitsBy, followed_by}

module _ {S T : Type 0} (a : System S) (b : System T) (steps : ℕ) (R : S → T → Type 0) (V : S → T → ℕ → Type 0) (h : ChoicesAlike a b steps R V) where
  module _ (w : ℕ → ℕ) (state : ℕ → S) (endless : IsEndless a steps w state) where
    begun : (t : T) × (opened b steps ≡ Choosing t) × R (state zero) t
    begun = choosing_alike R (state zero) (opened b steps) (subst (λ x. NodesAlike R x (opened b steps)) endless.first h.begins)

    onward : (n : ℕ) (t : T) → R (state n) t → (u : T) × (chosen b steps t (w n) ≡ Choosing u) × R (state (suc n)) u
    onward n t r = choosing_alike R (state (suc n)) (chosen b steps t (w n)) (subst (λ x. NodesAlike R x (chosen b steps t (w n))) (endless.goes n) (h.goes (state n) t (w n) r (endless.may_be n)))

    abbrev related : (n : ℕ) → (t : T) × R (state n) t
    related zero = (begun.0, begun.2)
    related (suc n) = let o = onward n (related n).0 (related n).1 in (o.0, o.2)

    abbrev there : ℕ → T
    there n = (related n).0

    endless_there : IsEndless b steps w there
    endless_there =
        record {
          first = begun.1;
          may_be = λ n. sym (h.same (state n) (related n).0 (w n) (related n).1) ∙ endless.may_be n;
          goes = λ n. (onward n (related n).0 (related n).1).1;
        }

    served_there : (p n : ℕ) → p < b.processes → IsServed a p (moments a steps (state n) (w n)) → IsServed b p (moments b steps (there n) (w n))
    served_there p n less s =
        any_alike R (λ (m : Moment S). (m.mover ≡ p) ⊎ (a.is_ready m.state p ≡ false)) (λ (m : Moment T). (m.mover ≡ p) ⊎ (b.is_ready m.state p ≡ false)) (moments a steps (state n) (w n)) (moments b steps (there n) (w n))
        (λ m n same r o. ⊎_elim (λ (e : m.mover ≡ p). inl (sym same ∙ e)) (λ (e : a.is_ready m.state p ≡ false). inr (sym (h.ready m.state n.state p r (subst (λ (k : ℕ). p < k) (sym h.processes) less)) ∙ e)) o)
        (h.happens (state n) (related n).0 (w n) (related n).1 (endless.may_be n)) s

  module _ (wa : S → ℕ → Bool) (wb : T → ℕ → Bool) (q : ℕ) (waits : (s : S) (t : T) → R s t → wa s q ≡ wb t q) (first again : List ℕ) where
    abbrev w : ℕ → ℕ
    w n = followed_by again first n

    abbrev by_there : WaitsBy a wa q steps first again → WaitsBy b wb q steps first again
    by_there x =
        record {
          state = there w x.state x.endless;
          endless = endless_there w x.state x.endless;
          fair = λ p n less. (let f = x.fair p n (subst (λ (k : ℕ). p < k) (sym h.processes) less) in (f.0, f.1, served_there w x.state x.endless p f.0 less f.2));
          waits = λ m le.
              (let k = x.waits m le in
              let r = related w x.state x.endless m in (
                sym (waits (x.state m) r.0 r.1) ∙ k.0,
                each_alike R (λ (m : Moment S). wa m.state q ≡ true) (λ (m : Moment T). wb m.state q ≡ true) (moments a steps (x.state m) (w m)) (moments b steps r.0 (w m))
                    (λ m n same r e. sym (waits m.state n.state r) ∙ e) (h.happens (x.state m) r.0 (w m) r.1 (x.endless.may_be m)) k.1,
              ));
        }

  -- who waits for ever in the one does so in the other, by the same word, in states that are related
  for_ever_there : (wa : S → ℕ → Bool) (wb : T → ℕ → Bool) (q : ℕ) → ((s : S) (t : T) → R s t → wa s q ≡ wb t q) → (x : MayWaitForEver a wa q steps) →
      (y : MayWaitForEver b wb q steps) × ((n : ℕ) → R (x.state n) (y.state n))
  for_ever_there wa wb q waits x = (
    record {
      word = x.word;
      state = there x.word x.state x.endless;
      endless = endless_there x.word x.state x.endless;
      fair = λ p n less. (let f = x.fair p n (subst (λ (k : ℕ). p < k) (sym h.processes) less) in (f.0, f.1, served_there x.word x.state x.endless p f.0 less f.2));
      since = x.since;
      waits = λ m le.
          (let k = x.waits m le in
          let r = related x.word x.state x.endless m in (
            sym (waits (x.state m) r.0 r.1) ∙ k.0,
            each_alike R (λ (m : Moment S). wa m.state q ≡ true) (λ (m : Moment T). wb m.state q ≡ true) (moments a steps (x.state m) (x.word m)) (moments b steps r.0 (x.word m))
                (λ m n same r e. sym (waits m.state n.state r) ∙ e) (h.happens (x.state m) r.0 (x.word m) r.1 (x.endless.may_be m)) k.1,
          ));
    },
    λ n. (related x.word x.state x.endless n).1,
  )

  back : ChoicesAlike b a steps (λ t s. R s t) (λ t s p. V s t p)
  back = turned a b steps R V h

  -- who is stuck in the other is stuck in the one
  stuck_back : (wa : S → ℕ → Bool) (wb : T → ℕ → Bool) (q : ℕ) → ((s : S) (t : T) → R s t → wa s q ≡ wb t q) → (s : S) (t : T) → R s t → IsStuck b wb q steps t → IsStuck a wa q steps s
  stuck_back wa wb q waits s t r stuck = λ word u e.
      let l = after_there a b steps R V h word (Choosing s) (Choosing u) (Choosing t) r e in
      let c = choosing_alike R u l.0 l.2 in
      let k = stuck word c.0 (l.1 ∙ ap (λ (n : Node T). Some n) c.1) in (
        waits u c.0 c.2 ∙ k.0,
        λ p m.
            (let can = sym (h.same u c.0 p c.2) ∙ m in
            each_alike (λ t s. R s t) (λ (m : Moment T). wb m.state q ≡ true) (λ (m : Moment S). wa m.state q ≡ true) (moments b steps c.0 p) (moments a steps u p)
            (λ m n same r e. waits n.state m.state r ∙ e) (back.happens c.0 u p c.2 can) (k.1 p can)),
      )

  pub good_back : (wa : S → ℕ → Bool) (wb : T → ℕ → Bool) (q : ℕ) → ((s : S) (t : T) → R s t → wa s q ≡ wb t q) → WaitsForGood b wb q steps → WaitsForGood a wa q steps
  good_back wa wb q waits good x =
      let y = for_ever_there wa wb q waits x in
      let c = good y.0 in
      (c.0, stuck_back wa wb q waits (x.state c.0) (y.0.state c.0) (y.1 c.0) c.1)

  pub waits_there : (wa : S → ℕ → Bool) (wb : T → ℕ → Bool) (q : ℕ) → ((s : S) (t : T) → R s t → wa s q ≡ wb t q) → (first again : List ℕ) → WaitsBy a wa q steps first again → WaitsBy b wb q steps first again
  waits_there wa wb q waits first again x = by_there wa wb q waits first again x

  pub lingers_there : (ia wa : S → ℕ → Bool) (ib wb : T → ℕ → Bool) (q : ℕ) → ((s : S) (t : T) → R s t → ia s q ≡ ib t q) → ((s : S) (t : T) → R s t → wa s q ≡ wb t q) → (first again : List ℕ) →
      LingersBy a ia wa q steps first again → LingersBy b ib wb q steps first again
  lingers_there ia wa ib wb q inside waits first again x =
      record { stays = by_there ia ib q inside first again x.stays; waits = λ n. (let y = x.waits n in (y.0, y.1, sometimes y.0 y.2)) }
    where
      sometimes : (m : ℕ) → WaitsSometime a wa q steps (x.stays.state m) (followed_by again first m) →
          WaitsSometime b wb q steps (related (λ n. followed_by again first n) x.stays.state x.stays.endless m).0 (followed_by again first m)
      sometimes m (inl e) = let r = related (λ n. followed_by again first n) x.stays.state x.stays.endless m in inl (sym (waits (x.stays.state m) r.0 r.1) ∙ e)
      sometimes m (inr e) =
          let r = related (λ n. followed_by again first n) x.stays.state x.stays.endless m in
          inr (any_alike R (λ (m : Moment S). wa m.state q ≡ true) (λ (m : Moment T). wb m.state q ≡ true) (moments a steps (x.stays.state m) (followed_by again first m)) (moments b steps r.0 (followed_by again first m))
          (λ m n same r e. sym (waits m.state n.state r) ∙ e) (h.happens (x.stays.state m) r.0 (followed_by again first m) r.1 (x.stays.endless.may_be m)) e)
