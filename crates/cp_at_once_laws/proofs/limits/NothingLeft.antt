-- No end is left out of either of two systems that go in step, where the search at once goes through one of them.
use Rattle.cp_at_once_laws.proofs.Words.{◌≡◌, ◌∙◌, ◌+◌, ◌≤◌, ℕ, true, false, List, Some, ap, sym, subst, arith, Local, OutcomeKind, System, CanGo, GoInStep}
use Rattle.cp_at_once_laws.proofs.Words.{IsKernelCall, SetsOut, spot_after, after_steps, Commutes, SearchesAtOnce, HasQuietLeg, IsPlain, some_same}
use Rattle.cp_at_once_laws.specs.Whole.{GoesOnBy, LeavesNoEndOut}
use Rattle.cp_at_once_laws.proofs.limits.Lonely.{EachStep, goes_alone, each_step}
use Rattle.cp_at_once_laws.proofs.limits.Whole.{ends_told, loops_told, lonely_told}
use Rattle.cp_at_once_laws.proofs.limits.Words.{Arrived, begins, walks}

module _ {S : Type 0} (sys : System S) (Met : S → Type 0) (Quiet : S → ℕ → Type 0) (law : Commutes sys Met Quiet) (plain : IsPlain sys Met) where
  -- ---- where it goes on, the state is met

  abbrev never : S → ℕ → Type 0
  never s q = ⊥

  abbrev nowhere : S → Type 0
  nowhere s = ⊥

  back : (s : S) (q : ℕ) → Met s → sys.is_ready s q ≡ true → sys.event s q ≡ Local → never (sys.step s q) q → never s q
  back s q met ready local g = g

  -- where the stretch stands to which a word leads, the state is met
  pub met_there : (limit : ℕ) (word : List ℕ) (b : S) (f n : ℕ) (s : S) (q : ℕ) → SetsOut sys limit word b f → spot_after sys n b f ≡ Some (s, q) → Met s × (sys.is_ready s q ≡ true)
  met_there limit word b f n s q out at = (a.met, a.ready)
    where
      a : Arrived sys Met Quiet law plain nowhere never back s q
      a =
          walks sys Met Quiet law plain nowhere never back n b f s q
          (begins sys Met Quiet law plain nowhere never back (λ kind. ⊥) (λ k. k) (λ t met none k. absurd k) (λ s q kind met ready stop k. absurd k) limit word b f out) at

  module _ (limit : ℕ) (word : List ℕ) (q : ℕ) (g : GoesOnBy sys limit word q) where
    abbrev Here : S → ℕ → Type 0
    Here = Arrived sys Met Quiet law plain nowhere never back

    abbrev first_state : S
    first_state = (g.moves 0).0

    first_at : spot_after sys g.since g.begin g.first ≡ Some (first_state, q)
    first_at = ap (λ i. spot_after sys i g.begin g.first) none ∙ (g.moves 0).1
      where
        none : g.since ≡ g.since + 0
        none = omega arith

    arrived : Here first_state q
    arrived =
        walks sys Met Quiet law plain nowhere never back g.since g.begin g.first first_state q
        (begins sys Met Quiet law plain nowhere never back (λ kind. ⊥) (λ k. k) (λ t met none k. absurd k) (λ s q kind met ready stop k. absurd k) limit word g.begin g.first g.sets_out) first_at

    stands : (n : ℕ) → (spot_after sys (g.since + n) g.begin g.first ≡ Some (after_steps sys n first_state q, q))
    stands n = (each_step sys Met Quiet law plain q g.begin g.first g.since first_state arrived.met arrived.ready first_at g.moves n).0

    same : (n : ℕ) → (g.moves n).0 ≡ after_steps sys n first_state q
    same n = ap (λ (x : S × ℕ). x.0) (some_same ((g.moves n).0, q) (after_steps sys n first_state q, q) (sym (g.moves n).1 ∙ stands n))

    each : ((n : ℕ) → (m : ℕ) × (n ≤ m) × IsKernelCall (sys.event (g.moves m).0 q)) → EachStep sys Met Quiet law plain q first_state
    each calls =
        record {
          met = arrived.met;
          ready = arrived.ready;
          next = λ n. (each_step sys Met Quiet law plain q g.begin g.first g.since first_state arrived.met arrived.ready first_at g.moves n).1;
          calls = λ n. (let c = calls n in (c.0, c.1, subst (λ t. IsKernelCall (sys.event t q)) (same c.0) c.2));
        }

module _ {S T : Type 0} (a : System S) (b : System T) (R : S → T → Type 0) (go : GoInStep a b R) (free : (s : S) (t : T) → R s t → a.is_pending s ≡ false)
    (Qa : S → ℕ → Type 0) (AtOnce : T → ℕ → Type 0) (quick : (s : S) (t : T) (p : ℕ) → R s t → CanGo a s p → AtOnce t p → HasQuietLeg a Qa s p) (Met : S → Type 0) (law : Commutes a Met Qa) (plain : IsPlain a Met)
    (steps most : ℕ) (kept : T → Type 0) (known : OutcomeKind → Type 0) (alone spins : ℕ → Type 0) (shown : T → ℕ → Type 0) (search : SearchesAtOnce b steps most AtOnce kept known alone spins shown) where
  pub no_end_left : LeavesNoEndOut a known alone spins
  no_end_left =
      record {
        ends = ends_told a b R go free Qa AtOnce quick Met law plain steps most kept known alone spins shown search;
        alone_for_ever = λ limit word q x.
            (let g = x.goes_on in
            lonely_told a b R go free Qa AtOnce quick Met law plain steps most kept known alone spins shown search limit word g.begin g.first g.since (g.moves 0).0 q g.sets_out (first_at a Met Qa law plain limit word q g)
            (goes_alone a Met Qa law plain q (g.moves 0).0 (each a Met Qa law plain limit word q g x.calls)));
        spins_for_ever = λ limit word q x.
            (let g = x.goes_on in
            loops_told a b R go free Qa AtOnce quick Met law plain steps most kept known alone spins shown search limit word g.begin g.first g.since (g.moves 0).0 q g.sets_out (first_at a Met Qa law plain limit word q g)
            (λ n. subst (λ t. a.event t q ≡ Local) (same a Met Qa law plain limit word q g n) (x.local n)));
      }
