-- The monitors of a program by their numbers: the number of a monitor is its place among the components that are monitors.
use Rattle.cp_machine_laws.proofs.Words.{◌≡◌, ◌∙◌, ℕ, zero, suc, ◌+◌, ◌<◌, List, [], ◌∷◌, ap, refl, arith, length, slice_index_or, SystemKind}
use Rattle.cp_tree.specs.declared.declaration.SystemKind.TheVariants as system_kind
use Rattle.cp_meaning.specs.Readings.{monitor_first, monitors_from}
use Rattle.cp_meaning.specs.State.{Component, component_at}

-- the monitor of a number is one of the components
pub record IsAMonitor (cs : List Component) (n k d : ℕ) : Type 0 where
  pub place : ℕ
  pub there : place < length cs
  pub is : slice_index_or (monitors_from n cs) k d ≡ n + place
  pub kind : (component_at cs place).kind ≡ system_kind.Monitor

pub is_a_monitor : (cs : List Component) (n k d : ℕ) → k < length (monitors_from n cs) → IsAMonitor cs n k d
is_a_monitor [] n k d h = absurd (omega (arith, h))
is_a_monitor (c ∷ cs) n k d h = go c.kind refl k h (λ j less. is_a_monitor cs (suc n) j d less)
  where
    further : (ms : List ℕ) → monitors_from n (c ∷ cs) ≡ ms → (k j : ℕ) → slice_index_or ms k d ≡ slice_index_or (monitors_from (suc n) cs) j d → IsAMonitor cs (suc n) j d → IsAMonitor (c ∷ cs) n k d
    further ms e k j same w =
        record {
          place = suc w.place;
          there = (let a = w.there in omega (arith, a));
          is = ap (λ us. slice_index_or us k d) e ∙ (same ∙ (w.is ∙ (let b : suc n + w.place ≡ n + suc w.place = omega arith in b)));
          kind = w.kind;
        }

    go : (a : SystemKind) → c.kind ≡ a → (k : ℕ) → k < length (monitor_first a n (monitors_from (suc n) cs)) → ((j : ℕ) → j < length (monitors_from (suc n) cs) → IsAMonitor cs (suc n) j d) → IsAMonitor (c ∷ cs) n k d
    go system_kind.Monitor e zero h each = record { place = 0; there = omega arith; is = ap (λ b. slice_index_or (monitor_first b n (monitors_from (suc n) cs)) 0 d) e ∙ (let b : n ≡ n + 0 = omega arith in b); kind = e }
    go system_kind.Monitor e (suc k) h each = further (n ∷ monitors_from (suc n) cs) (ap (λ b. monitor_first b n (monitors_from (suc n) cs)) e) (suc k) k refl (each k (omega (arith, h)))
    go _ e k h each = further (monitors_from (suc n) cs) (ap (λ b. monitor_first b n (monitors_from (suc n) cs)) e) k k refl (each k h)

-- different numbers are of different monitors
pub one_number : (cs : List Component) (n j k d : ℕ) → j < length (monitors_from n cs) → k < length (monitors_from n cs) → slice_index_or (monitors_from n cs) j d ≡ slice_index_or (monitors_from n cs) k d → j ≡ k
one_number [] n j k d a b e = absurd (omega (arith, a))
one_number (c ∷ cs) n j k d a b e = go c.kind j k a b e (λ i o f g h. one_number cs (suc n) i o d f g h)
  where
    go : (x : SystemKind) (j k : ℕ) → j < length (monitor_first x n (monitors_from (suc n) cs)) → k < length (monitor_first x n (monitors_from (suc n) cs)) → slice_index_or (monitor_first x n (monitors_from (suc n) cs)) j d ≡ slice_index_or (monitor_first x n (monitors_from (suc n) cs)) k d →
        ((i o : ℕ) → i < length (monitors_from (suc n) cs) → o < length (monitors_from (suc n) cs) → slice_index_or (monitors_from (suc n) cs) i d ≡ slice_index_or (monitors_from (suc n) cs) o d → i ≡ o) → j ≡ k
    go system_kind.Class j k a b e each = each j k a b e
    go system_kind.Process j k a b e each = each j k a b e
    go system_kind.Monitor zero zero a b e each = refl
    go system_kind.Monitor zero (suc k) a b e each = (let w = is_a_monitor cs (suc n) k d (omega (arith, b)) in let f = w.is in absurd (omega (arith, e, f)))
    go system_kind.Monitor (suc j) zero a b e each = (let w = is_a_monitor cs (suc n) j d (omega (arith, a)) in let f = w.is in absurd (omega (arith, e, f)))
    go system_kind.Monitor (suc j) (suc k) a b e each = ap suc (each j k (omega (arith, a)) (omega (arith, b)) e)
