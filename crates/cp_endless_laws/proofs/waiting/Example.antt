-- Small systems, to see that the definitions speak of something, and of what they should.
use Rattle.std.proofs.Common.{◌≡◌, inl, inr, ◌<◌, ◌++◌, ℕ, zero, suc, Bool, true, false, if◌then◌else◌, List, [], ◌∷◌, None, refl, subst, arith}
use Rattle.cp_endless_laws.proofs.Words.{Contains, pos, Event, Shown, System, Choosing, stretch, opened, chosen, may, IsServed, forgetting_system, moments, moments_along}
use Rattle.cp_endless_laws.proofs.Words.{stretch_moments, MayWaitForEver, Local, Kernel, IsReachable, IsSettled}
use Rattle.cp_machine.specs.declared.event.Kernel.TheVariants as call
use Rattle.cp_machine.specs.declared.shown.Shown.TheVariants as shown
use Rattle.cp_endless_laws.specs.Lasso.{IsLasso, IsWaitingLoop}
use Rattle.cp_endless_laws.specs.Repeats.{IsAloneAfter, SpinsAfter}
use Rattle.cp_endless_laws.specs.Shown.{ShowsAfter}
use Rattle.cp_endless_laws.proofs.waiting.Lassos.{lassos}

-- ---- two processes display for ever, and a third waits

abbrev goes : ℕ → Bool
goes (suc (suc p)) = false
goes _ = true

-- its states are what was displayed; the processes 0 and 1 are ready in each, and each step displays a seven
abbrev talkers : System (List Shown)
talkers =
    record {
      processes = 3;
      monitors = 0;
      start = [];
      step = λ s p. s ++ shown.Integer (pos 7) ∷ [];
      event = λ s p. Kernel call.Display;
      admit = λ s p. s;
      is_ready = λ s p. goes p;
      is_pending = λ s. false;
      in_line = λ s p. false;
      waits = λ s. true;
      holder = λ s m. None;
      output = λ s. s;
    }

abbrev silent_talkers : System (List Shown)
silent_talkers = forgetting_system talkers (λ s. [])

only_first : {A : Type 0} (x y : A) → Contains (x ∷ []) y → x ≡ y
only_first x y (zero, less, e) = e
only_first x y (suc k, less, e) = absurd (omega (arith, less))

pub none_in : {A : Type 0} (x : A) → Contains [] x → ⊥
none_in x h = let less = h.1 in omega (arith, less)

-- where nothing is shown there is one state, and no end is possible
pub talkers_settled : IsSettled silent_talkers 5 ([] ∷ []) []
unfolding stretch opened chosen may
talkers_settled =
    record {
      closed = record { start = (0, omega arith, refl); on = λ s p i m. (0, omega arith, refl) };
      reached = λ s i. subst (IsReachable silent_talkers 5) (only_first [] s i) (record { word = []; leads = refl });
      possible = λ kind i. absurd (none_in kind i);
    }

-- and a seven can be displayed
pub talkers_show : ShowsAfter talkers (λ s. []) 5 [] (shown.Integer (pos 7))
unfolding stretch_moments
talkers_show = inl (refl, (0, omega arith, refl))

talkers_lasso : IsLasso silent_talkers 5 [] [] 0 (1 ∷ [])
unfolding stretch opened chosen may
talkers_lasso = record { reached = refl; back = refl }

abbrev waits_third : List Shown → ℕ → Bool
waits_third s (suc (suc p)) = true
waits_third s _ = false

talkers_fair : (p : ℕ) → p < 3 → IsServed silent_talkers p (moments_along silent_talkers 5 (Choosing []) (0 ∷ 1 ∷ []))
unfolding stretch opened chosen may moments stretch_moments
talkers_fair zero less = inl (inl refl)
talkers_fair (suc zero) less = inr (inl (inl refl))
talkers_fair (suc (suc p)) less = inl (inr refl)

talkers_loop : IsWaitingLoop silent_talkers waits_third 2 5 [] (0 ∷ 1 ∷ [])
unfolding stretch opened chosen may moments stretch_moments
talkers_loop = record { fair = talkers_fair; waits = (refl, (refl, tt)); waits_between = (refl, (refl, tt)) }

-- the third may wait for ever
pub third_waits : MayWaitForEver silent_talkers waits_third 2 5
third_waits = lassos silent_talkers waits_third 2 5 (record { stem = []; state = []; first = 0; more = 1 ∷ []; lasso = talkers_lasso; waits = talkers_loop })

-- a loop in which process 0 alone goes is not fair to process 1
pub one_passed_over : IsServed silent_talkers 1 (moments_along silent_talkers 5 (Choosing []) (0 ∷ [])) → ⊥
unfolding stretch opened chosen may moments stretch_moments
one_passed_over (inl (inl e)) = absurd (omega (arith, e))
one_passed_over (inl (inr e)) = absurd (cc)
one_passed_over (inr a) = absurd a

-- ---- one process goes on for ever without a choice

-- its state changes to and fro, and each step tells the same event
abbrev swinging : Event → System Bool
swinging e =
    record {
      processes = 1;
      monitors = 0;
      start = true;
      step = λ s p. if s then false else true;
      event = λ s p. e;
      admit = λ s p. s;
      is_ready = λ s p. true;
      is_pending = λ s. false;
      in_line = λ s p. false;
      waits = λ s. false;
      holder = λ s m. None;
      output = λ s. [];
    }

pub spins : SpinsAfter (swinging Local) 5 [] 0
unfolding stretch_moments
spins =
    record {
      begin = true;
      first = 0;
      sets_out = inl (refl, refl);
      repeats = record { state = false; process = 0; comes = refl; after = 1; soon = omega arith; returns = refl };
      is = refl;
      calls_none = ((λ c. c), ((λ c. c), tt));
    }

pub is_alone : IsAloneAfter (swinging (Kernel call.Display)) 5 [] 0
unfolding stretch_moments
is_alone =
    record {
      begin = true;
      first = 0;
      sets_out = inl (refl, refl);
      repeats = record { state = false; process = 0; comes = refl; after = 1; soon = omega arith; returns = refl };
      is = refl;
      calls = inl tt;
    }
