-- In two systems whose choices lead to states that are related the same processes wait for ever.
use Rattle.std.proofs.Common.{◌≡◌, ◌⊎◌, inl, inr, ⊎_elim, ◌∙◌, ℕ, zero, suc, ◌<◌, Bool, true, false, List, None, Some, sym, ap, subst, Option, arith, ◌+◌}
use Rattle.cp_endless_laws.proofs.Words.{Each, System, Choosing, may, chosen, opened, Moment, moments, node_after, SetsOut, chosen_spot, opening_spot, spot_after, some_same}
use Rattle.cp_endless_laws.proofs.Words.{NodesAlike, IsEndless, IsFair, IsServed}
use Rattle.cp_endless_laws.specs.Meaning.{LingersTheSame, WaitsTheSame}
use Rattle.cp_endless_laws.specs.Standstill.{GoesOn, IsFairStretch, MayStandStill}
use Rattle.cp_endless_laws.specs.Traps.{IsStuckAfter}
use Rattle.cp_endless_laws.specs.WaitsForEver.{MayLinger, MayWaitForEver, NeverWaitsForEver, WaitsFrom, WaitsSometime}
use Rattle.cp_endless_laws.proofs.steps.Rounds.{from_there}
use Rattle.cp_endless_laws.proofs.names.Together.{SpotsAlike, ChoicesAlike, turned, choosing_alike, each_alike, any_alike, after_there}

module _ {S T : Type 0} (a : System S) (b : System T) (steps : ℕ) (R : S → T → Type 0) (V : S → T → ℕ → Type 0) (h : ChoicesAlike a b steps R V) where
  module _ (wa : S → ℕ → Bool) (wb : T → ℕ → Bool) (q : ℕ) (waits : (s : S) (t : T) → R s t → wa s q ≡ wb t q) where
    waits_then : (s : S) (t : T) → R s t → wa s q ≡ true → wb t q ≡ true
    waits_then s t r e = sym (waits s t r) ∙ e

    between : (s : S) (t : T) (p : ℕ) → R s t → may a s p ≡ true → Each (λ (m : Moment S). wa m.state q ≡ true) (moments a steps s p) → Each (λ (m : Moment T). wb m.state q ≡ true) (moments b steps t p)
    between s t p r m e = each_alike R (λ (m : Moment S). wa m.state q ≡ true) (λ (m : Moment T). wb m.state q ≡ true) (moments a steps s p) (moments b steps t p) (λ m n same r w. waits_then m.state n.state r w) (h.happens s t p r m) e

    -- ---- a schedule without end

    module _ (w : ℕ → ℕ) (state : ℕ → S) (endless : IsEndless a steps w state) where
      abbrev related : (n : ℕ) → (t : T) × R (state n) t
      related zero = let c = choosing_alike R (state zero) (opened b steps) (subst (λ x. NodesAlike R x (opened b steps)) endless.first h.begins) in (c.0, c.2)
      related (suc n) =
          let r = related n in
          let c = choosing_alike R (state (suc n)) (chosen b steps r.0 (w n)) (subst (λ x. NodesAlike R x (chosen b steps r.0 (w n))) (endless.goes n) (h.goes (state n) r.0 (w n) r.1 (endless.may_be n))) in
          (c.0, c.2)

      abbrev state_there : ℕ → T
      state_there n = (related n).0

      begins_there : opened b steps ≡ Choosing (state_there zero)
      begins_there = (choosing_alike R (state zero) (opened b steps) (subst (λ x. NodesAlike R x (opened b steps)) endless.first h.begins)).1

      goes_there : (n : ℕ) → chosen b steps (state_there n) (w n) ≡ Choosing (state_there (suc n))
      goes_there n = (choosing_alike R (state (suc n)) (chosen b steps (related n).0 (w n)) (subst (λ x. NodesAlike R x (chosen b steps (related n).0 (w n))) (endless.goes n) (h.goes (state n) (related n).0 (w n) (related n).1 (endless.may_be n)))).1

      endless_there : IsEndless b steps w state_there
      endless_there = record { first = begins_there; may_be = λ n. sym (h.same (state n) (related n).0 (w n) (related n).1) ∙ endless.may_be n; goes = goes_there }

      served_there : (p n : ℕ) → p < b.processes → IsServed a p (moments a steps (state n) (w n)) → IsServed b p (moments b steps (state_there n) (w n))
      served_there p n less s =
          any_alike R (λ (m : Moment S). (m.mover ≡ p) ⊎ (a.is_ready m.state p ≡ false)) (λ (m : Moment T). (m.mover ≡ p) ⊎ (b.is_ready m.state p ≡ false)) (moments a steps (state n) (w n)) (moments b steps (state_there n) (w n))
          (λ m n same r o. ⊎_elim (λ (e : m.mover ≡ p). inl (sym same ∙ e)) (λ (e : a.is_ready m.state p ≡ false). inr (sym (h.ready m.state n.state p r (subst (λ (k : ℕ). p < k) (sym h.processes) less)) ∙ e)) o)
          (h.happens (state n) (related n).0 (w n) (related n).1 (endless.may_be n)) s

      fair_there : IsFair a steps w state → IsFair b steps w state_there
      fair_there fair p n less = let f = fair p n (subst (λ (k : ℕ). p < k) (sym h.processes) less) in (f.0, f.1, served_there p f.0 less f.2)

      waits_there : (since : ℕ) → WaitsFrom a wa q steps w state since → WaitsFrom b wb q steps w state_there since
      waits_there since f m le = let x = f m le in (waits_then (state m) (related m).0 (related m).1 x.0, between (state m) (related m).0 (w m) (related m).1 (endless.may_be m) x.1)

    abbrev for_ever_there : MayWaitForEver a wa q steps → MayWaitForEver b wb q steps
    for_ever_there x =
        record {
          word = x.word;
          state = state_there x.word x.state x.endless;
          endless = endless_there x.word x.state x.endless;
          fair = fair_there x.word x.state x.endless x.fair;
          since = x.since;
          waits = waits_there x.word x.state x.endless x.since x.waits;
        }

never_from : {S T : Type 0} (a : System S) (b : System T) (wa : S → ℕ → Bool) (wb : T → ℕ → Bool) (q steps : ℕ) → (MayWaitForEver b wb q steps → MayWaitForEver a wa q steps) → NeverWaitsForEver a wa q steps → NeverWaitsForEver b wb q steps
never_from a b wa wb q steps back never w state endless fair n waits =
    let x = back (record { word = w; state = state; endless = endless; fair = fair; since = n; waits = waits }) in
    never x.word x.state x.endless x.fair x.since x.waits

-- who is stuck in the one is stuck in the other
stuck_from : {S T : Type 0} (a : System S) (b : System T) (steps : ℕ) (R : S → T → Type 0) (V : S → T → ℕ → Type 0) → ChoicesAlike a b steps R V → (wa : S → ℕ → Bool) (wb : T → ℕ → Bool) (q : ℕ) → ((s : S) (t : T) → R s t → wa s q ≡ wb t q) → (word : List ℕ) → IsStuckAfter a wa q steps word → IsStuckAfter b wb q steps word
stuck_from {S} {T} a b steps R V h wa wb q waits word x =
    let l = after_there a b steps R V h word (opened a steps) (Choosing x.0) (opened b steps) h.begins x.1 in
    let c = choosing_alike R x.0 l.0 l.2 in
    (c.0, l.1 ∙ ap Some c.1, λ more t e. go c.0 c.2 more t e)
  where
    back : ChoicesAlike b a steps (λ t s. R s t) (λ t s p. V s t p)
    back = turned a b steps R V h

    go : (first : T) → R x.0 first → (more : List ℕ) (t : T) → node_after b steps (Choosing first) more ≡ Some (Choosing t) → (wb t q ≡ true) × ((p : ℕ) → may b t p ≡ true → Each (λ (m : Moment T). wb m.state q ≡ true) (moments b steps t p))
    go first r more t e =
        let l = after_there b a steps (λ t s. R s t) (λ t s p. V s t p) back more (Choosing first) (Choosing t) (Choosing x.0) r e in
        let c = choosing_alike (λ t s. R s t) t l.0 l.2 in
        let w = x.2 more c.0 (l.1 ∙ ap Some c.1) in
        (waits_then a b steps R V h wa wb q waits c.0 t c.2 w.0, λ p m. between a b steps R V h wa wb q waits c.0 t p c.2 (h.same c.0 t p c.2 ∙ m) (w.1 p (h.same c.0 t p c.2 ∙ m)))

-- who waits again and again and never comes out of its call
module _ {S T : Type 0} (a : System S) (b : System T) (steps : ℕ) (R : S → T → Type 0) (V : S → T → ℕ → Type 0) (h : ChoicesAlike a b steps R V) where
  lingers_there : (ia wa : S → ℕ → Bool) (ib wb : T → ℕ → Bool) (q : ℕ) → ((s : S) (t : T) → R s t → ia s q ≡ ib t q) → ((s : S) (t : T) → R s t → wa s q ≡ wb t q) → MayLinger a ia wa q steps → MayLinger b ib wb q steps
  lingers_there ia wa ib wb q inside waits x =
      record {
        stays = for_ever_there a b steps R V h ia ib q inside x.stays;
        waits = λ n. (let y = x.waits n in (y.0, y.1, sometimes y.0 y.2));
      }
    where
      sometimes : (m : ℕ) → WaitsSometime a wa q steps (x.stays.state m) (x.stays.word m) → WaitsSometime b wb q steps ((related a b steps R V h ia ib q inside x.stays.word x.stays.state x.stays.endless m).0) (x.stays.word m)
      sometimes m (inl e) =
          let r = related a b steps R V h ia ib q inside x.stays.word x.stays.state x.stays.endless m in
          inl (sym (waits (x.stays.state m) r.0 r.1) ∙ e)
      sometimes m (inr e) =
          let r = related a b steps R V h ia ib q inside x.stays.word x.stays.state x.stays.endless m in
          inr (any_alike R (λ (m : Moment S). wa m.state q ≡ true) (λ (m : Moment T). wb m.state q ≡ true) (moments a steps (x.stays.state m) (x.stays.word m)) (moments b steps r.0 (x.stays.word m)) (λ m n same r w. sym (waits m.state n.state r) ∙ w) (h.happens (x.stays.state m) r.0 (x.stays.word m) r.1 (x.stays.endless.may_be m)) e)

pub lingers_the_same : {S T : Type 0} (a : System S) (b : System T) (steps : ℕ) (R : S → T → Type 0) (V : S → T → ℕ → Type 0) → ChoicesAlike a b steps R V → (ia wa : S → ℕ → Bool) (ib wb : T → ℕ → Bool) → ((s : S) (t : T) (q : ℕ) → R s t → ia s q ≡ ib t q) → ((s : S) (t : T) (q : ℕ) → R s t → wa s q ≡ wb t q) → LingersTheSame a b ia ib wa wb steps
lingers_the_same a b steps R V h ia wa ib wb inside waits =
    record {
      there = λ q. lingers_there a b steps R V h ia wa ib wb q (λ s t r. inside s t q r) (λ s t r. waits s t q r);
      back = λ q. lingers_there b a steps (λ t s. R s t) (λ t s p. V s t p) (turned a b steps R V h) ib wb ia wa q (λ t s r. sym (inside s t q r)) (λ t s r. sym (waits s t q r));
    }

-- ---- a stretch that goes on for ever

pub plus : (n : ℕ) → n + 1 ≡ suc n
plus n = omega arith

pub spot_there : {S T : Type 0} (V : S → T → ℕ → Type 0) (s : S) (p : ℕ) (x : Option (S × ℕ)) (y : Option (T × ℕ)) → x ≡ Some (s, p) → SpotsAlike V x y → (t : T) × (y ≡ Some (t, p)) × V s t p
spot_there V s p None y e h = absurd (cc)
spot_there V s p (Some x) None e h = absurd h
spot_there {S} {T} V s p (Some x) (Some y) e h =
    let same = some_same x (s, p) e in
    (y.0, ap (λ (n : ℕ). Some (y.0, n)) (sym h.0 ∙ ap (λ (z : S × ℕ). z.1) same), subst (λ (z : S × ℕ). V z.0 y.0 z.1) same h.1)

module _ {S T : Type 0} (a : System S) (b : System T) (steps : ℕ) (R : S → T → Type 0) (V : S → T → ℕ → Type 0) (h : ChoicesAlike a b steps R V) where
  pub sets_out_there : (word : List ℕ) (s : S) (p : ℕ) → SetsOut a steps word s p → (t : T) × SetsOut b steps word t p × V s t p
  sets_out_there word s p (inl x) = let y = spot_there V s p (opening_spot a) (opening_spot b) x.1 h.spots_first in (y.0, inl (x.0, y.1), y.2)
  sets_out_there word s p (inr x) =
      let l = after_there a b steps R V h x.0 (opened a steps) (Choosing x.2) (opened b steps) h.begins x.4 in
      let c = choosing_alike R x.2 l.0 l.2 in
      let y = spot_there V s p (chosen_spot a x.2 x.1) (chosen_spot b c.0 x.1) x.6 (h.spots_then x.2 c.0 x.1 c.2 x.5) in
      (y.0, inr (x.0, x.1, c.0, x.3, l.1 ∙ ap Some c.1, sym (h.same x.2 c.0 x.1 c.2) ∙ x.5, y.1), y.2)

  module _ (s : S) (p : ℕ) (t : T) (v : V s t p) (state : ℕ → S) (mover : ℕ → ℕ) (goes : GoesOn a s p state mover) where
    pub one_more : (n : ℕ) → spot_after a 1 (state n) (mover n) ≡ Some (state (suc n), mover (suc n))
    one_more n = sym (from_there a n 1 s p (state n) (mover n) (goes n)) ∙ ap (λ i. spot_after a i s p) (plus n) ∙ goes (suc n)

    abbrev pub stands : (n : ℕ) → (u : T) × V (state n) u (mover n) × (spot_after b n t p ≡ Some (u, mover n))
    stands zero = let e = some_same (s, p) (state 0, mover 0) (goes 0) in (t, subst (λ (z : S × ℕ). V z.0 t z.1) e v, ap (λ (z : S × ℕ). Some (t, z.1)) e)
    stands (suc n) =
        let r = stands n in
        let y = spot_there V (state (suc n)) (mover (suc n)) (spot_after a 1 (state n) (mover n)) (spot_after b 1 r.0 (mover n)) (one_more n) (h.spots_on (state n) r.0 (mover n) r.1) in
        (y.0, y.2, ap (λ i. spot_after b i t p) (sym (plus n)) ∙ from_there b n 1 t p r.0 (mover n) r.2 ∙ y.1)

    fair_stretch : IsFairStretch a state mover → IsFairStretch b (λ n. (stands n).0) mover
    fair_stretch fair q n less =
        let below = subst (λ (k : ℕ). q < k) (sym h.processes) less in
        let f = fair q n below in
        (f.0, f.1, ⊎_elim (λ (e : mover f.0 ≡ q). inl e) (λ (e : a.is_ready (state f.0) q ≡ false). inr (sym (h.ready (state f.0) (stands f.0).0 q (h.spots_are (state f.0) (stands f.0).0 (mover f.0) (stands f.0).1) below) ∙ e)) f.2)

  still_there : (wa : S → ℕ → Bool) (wb : T → ℕ → Bool) (q : ℕ) → ((s : S) (t : T) → R s t → wa s q ≡ wb t q) → (word : List ℕ) → MayStandStill a wa q steps word → MayStandStill b wb q steps word
  still_there wa wb q waits word x =
      let y = sets_out_there word x.begin x.first x.sets_out in
      let z = x.stands in
      record {
        begin = y.0;
        first = x.first;
        sets_out = y.1;
        stands = record {
          state = λ n. (stands x.begin x.first y.0 y.2 z.state z.mover z.goes n).0;
          mover = z.mover;
          goes = λ n. (stands x.begin x.first y.0 y.2 z.state z.mover z.goes n).2;
          fair = fair_stretch x.begin x.first y.0 y.2 z.state z.mover z.goes z.fair;
          since = z.since;
          waits = λ m le. (let u = stands x.begin x.first y.0 y.2 z.state z.mover z.goes m in sym (waits (z.state m) u.0 (h.spots_are (z.state m) u.0 (z.mover m) u.1)) ∙ z.waits m le);
        };
      }

pub waits_the_same : {S T : Type 0} (a : System S) (b : System T) (steps : ℕ) (R : S → T → Type 0) (V : S → T → ℕ → Type 0) → ChoicesAlike a b steps R V → (wa : S → ℕ → Bool) (wb : T → ℕ → Bool) → ((s : S) (t : T) (q : ℕ) → R s t → wa s q ≡ wb t q) → WaitsTheSame a b wa wb steps
waits_the_same a b steps R V h wa wb waits =
    let back = turned a b steps R V h in
    record {
      there = λ q. for_ever_there a b steps R V h wa wb q (λ s t r. waits s t q r);
      back = λ q. for_ever_there b a steps (λ t s. R s t) (λ t s p. V s t p) back wb wa q (λ t s r. sym (waits s t q r));
      never_there = λ q. never_from a b wa wb q steps (for_ever_there b a steps (λ t s. R s t) (λ t s p. V s t p) back wb wa q (λ t s r. sym (waits s t q r)));
      never_back = λ q. never_from b a wb wa q steps (for_ever_there a b steps R V h wa wb q (λ s t r. waits s t q r));
      still_there = λ word q. still_there a b steps R V h wa wb q (λ s t r. waits s t q r) word;
      still_back = λ word q. still_there b a steps (λ t s. R s t) (λ t s p. V s t p) back wb wa q (λ t s r. sym (waits s t q r)) word;
      stuck_there = λ word q. stuck_from a b steps R V h wa wb q (λ s t r. waits s t q r) word;
      stuck_back = λ word q. stuck_from b a steps (λ t s. R s t) (λ t s p. V s t p) back wb wa q (λ t s r. sym (waits s t q r)) word;
    }
