-- How many places a set has.
use Rattle.std.proofs.Common.{◌≡◌, ℕ, zero, suc, ◌/◌, ◌%◌, ◌<◌, ◌≤◌, refl, ap, inl, inr, arith}
use native.Mathlib.Decide.{ℕ_discrete}
use lib.Arith.{bin_ind}
use lib.Count.{ones, ones_step}
use Rattle.base.specs.Bits.{Has, AtMostOne}
use Rattle.base.specs.Words.{Iff}
use Rattle.base.proofs.Sets.{has_zero, has_first, has_next, some_place}

no_ones : (s : ℕ) → ones s ≡ 0 → (i : ℕ) → Has s i → ⊥
no_ones = bin_ind (λ s. ones s ≡ 0 → (i : ℕ) → Has s i → ⊥) (λ e i. has_zero i) step
  where
    step : (s : ℕ) → (ones (s / 2) ≡ 0 → (i : ℕ) → Has (s / 2) i → ⊥) → ones s ≡ 0 → (i : ℕ) → Has s i → ⊥
    step s rest e zero h = omega (arith, ones_step s, (has_first s).0 h)
    step s rest e (suc i) h = rest (omega (arith, ones_step s)) i (rw has_next at h)

some_ones : (s : ℕ) → 0 < ones s → (i : ℕ) × Has s i
unfolding ones
some_ones s h = elim (some_place s) [ inl e ↦ absurd (omega (arith, ap ones e)) | inr p ↦ p ]

one_place : (s : ℕ) → ones s ≤ 1 → AtMostOne s
one_place = bin_ind (λ s. ones s ≤ 1 → AtMostOne s) (λ h i j p q. absurd (has_zero i p)) step
  where
    step : (s : ℕ) → (ones (s / 2) ≤ 1 → AtMostOne (s / 2)) → ones s ≤ 1 → AtMostOne s
    step s rest h zero zero p q = refl
    step s rest h zero (suc j) p q =
        absurd (no_ones (s / 2) (omega (arith, ones_step s, (has_first s).0 p)) j (rw has_next at q))
    step s rest h (suc i) zero p q =
        absurd (no_ones (s / 2) (omega (arith, ones_step s, (has_first s).0 q)) i (rw has_next at p))
    step s rest h (suc i) (suc j) p q = ap suc (rest (omega (arith, ones_step s)) i j (rw has_next at p) (rw has_next at q))

one_count : (s : ℕ) → AtMostOne s → ones s ≤ 1
unfolding ones
one_count = bin_ind (λ s. AtMostOne s → ones s ≤ 1) (λ h. omega arith) step
  where
    step : (s : ℕ) → (AtMostOne (s / 2) → ones (s / 2) ≤ 1) → AtMostOne s → ones s ≤ 1
    step s rest one =
        let half = rest (λ i j p q. omega (arith, one (suc i) (suc j) (rw has_next p) (rw has_next q))) in
        elim (ℕ_discrete (s % 2) 1) [
          | yes odd ↦
              elim (ℕ_discrete (ones (s / 2)) 0) [
                | yes none ↦ omega (arith, ones_step s)
                | no some ↦
                    let (i, h) = some_ones (s / 2) (omega arith) in
                    absurd (omega (arith, one 0 (suc i) ((has_first s).1 odd) (rw has_next h)))
              ]
          | no even ↦ omega (arith, ones_step s)
        ]

-- a set has at most one place exactly when its bits say so
pub ones_iff : (s : ℕ) → Iff (ones s ≤ 1) (AtMostOne s)
ones_iff s = (one_place s, one_count s)
