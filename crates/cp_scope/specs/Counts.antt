-- Counts, as far as just past the greatest limit.
use Rattle.std.specs.Prelude.{ℕ, ◌+◌, ◌*◌, min, max, Bool, false, ◌||◌}
use Rattle.cp_scope.specs.declared.count.Use.{Use}

abbrev pub plus : ℕ → ℕ → ℕ
plus m n = min (m + n) 8193

abbrev pub times : ℕ → ℕ → ℕ
times m n = min (m * n) 8193

abbrev pub no_use : Use
no_use = record { calls = 0; need = 0; delays = false }

-- of two parts
abbrev pub both_uses : Use → Use → Use
both_uses a b = record { calls = plus a.calls b.calls; need = max a.need b.need; delays = a.delays || b.delays }
