-- The law of layouts is not empty: a program with a function, a procedure with a `var` parameter, a permanent variable and a call has what it asks.
use Rattle.cp_tree.specs.Syntax.{Routine, nameless, invariants}
use Rattle.cp_meaning.specs.Scopes.{routine_meaning}
use Rattle.cp_resolved.proofs.Words.{none-some, ◌≡◌, ◌≤◌, ℕ, zero, suc, Bool, true, false, if◌then◌else◌, [], ◌∷◌, Some, refl, arith, most, same_name, Scope, find, system_of}
use Rattle.cp_resolved.proofs.Words.{all_calls_laid, AreApart, IsPlaced, IsPlain, AreOthers, IsSizedMeaning, AreSized, AreWords, meaning_at, Each}
use Rattle.cp_resolved.proofs.worked.CallingProgram.{calling}

plain : IsPlain calling.program
plain = record { small = (((tt, tt), tt), (tt, (tt, tt))); fit = (tt, tt); numbered = tt }

others : (k : ℕ) → AreOthers (system_of calling.program k).parameters (system_of calling.program k).variables
others zero = (refl, tt)
others (suc k) = (refl, tt)

one_cell : 1 ≤ most
one_cell = omega arith

found_sized : (s : Scope) → Each (λ d. IsSizedMeaning (Some d.1)) s → AreSized s
found_sized [] h x = tt
found_sized (d ∷ ds) h x = go (same_name x d.0) (found_sized ds h.1 x)
  where
    go : (b : Bool) → IsSizedMeaning (find x ds) → IsSizedMeaning (if b then Some d.1 else find x ds)
    go true rest = h.0
    go false rest = rest

all_sized : (n : ℕ) → Each (λ d. IsSizedMeaning (Some d.1)) (meaning_at calling.program n).scope
all_sized zero = ((one_cell, tt), (tt, ((one_cell, tt), (tt, (tt, (tt, (tt, (tt, (tt, (tt, (tt, (tt, (tt, (tt, (tt, (tt, (tt, (tt, tt))))))))))))))))))
all_sized (suc zero) = ((one_cell, tt), (tt, (tt, ((one_cell, tt), (tt, (tt, (tt, (tt, (tt, (tt, (tt, (tt, (tt, (tt, (tt, (tt, (tt, (tt, (tt, tt)))))))))))))))))))
all_sized (suc (suc zero)) = (tt, (tt, ((one_cell, tt), (tt, (tt, (tt, (tt, (tt, (tt, (tt, (tt, (tt, (tt, (tt, (tt, (tt, (tt, (tt, tt))))))))))))))))))
all_sized (suc (suc (suc n))) = (tt, (tt, ((one_cell, tt), (tt, (tt, (tt, (tt, (tt, (tt, (tt, (tt, (tt, (tt, (tt, (tt, (tt, (tt, (tt, tt))))))))))))))))))

sized : (n : ℕ) → AreSized (meaning_at calling.program n).scope
sized n = found_sized (meaning_at calling.program n).scope (all_sized n)

words : (n : ℕ) → AreWords (meaning_at calling.program n).scope
words (suc zero) = (tt, (tt, (tt, (tt, (tt, (tt, (tt, (tt, (tt, (tt, (tt, (tt, (tt, (tt, (tt, (tt, (tt, (tt, (tt, tt)))))))))))))))))))
words (suc (suc zero)) = (tt, (tt, (tt, (tt, (tt, (tt, (tt, (tt, (tt, (tt, (tt, (tt, (tt, (tt, (tt, (tt, (tt, (tt, tt))))))))))))))))))
words _ = (tt, (tt, (tt, (tt, (tt, (tt, (tt, (tt, (tt, (tt, (tt, (tt, (tt, (tt, (tt, (tt, (tt, (tt, tt))))))))))))))))))

apart : (n : ℕ) → AreApart (all_calls_laid (meaning_at calling.program n).scope (meaning_at calling.program n).body)
apart (suc zero) = ((λ at i. absurd i), tt)
apart (suc (suc zero)) = tt
apart _ = tt

checks : (n : ℕ) (r : Routine) → find nameless (meaning_at calling.program n).scope ≡ Some (routine_meaning r) → r.kind ≡ invariants
checks zero r e = absurd (none-some (routine_meaning r) e)
checks (suc zero) r e = absurd (none-some (routine_meaning r) e)
checks (suc (suc zero)) r e = absurd (none-some (routine_meaning r) e)
checks (suc (suc (suc n))) r e = absurd (none-some (routine_meaning r) e)

pub calling_placed : IsPlaced calling
calling_placed = record { plain = plain; once = record { routines = (tt, tt); variables = others }; sized = sized; words = words; checks = checks; apart = apart }
