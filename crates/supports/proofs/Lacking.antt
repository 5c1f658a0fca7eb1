-- A set lies within another, or has a place that the other lacks.
use Rattle.std.proofs.Common.{ℕ, ◌-◌, ◌^◌, ◌<◌, ◌⊎◌, subst, inl, inr}
use lib.Bits.{bit_and}
use Rattle.base.specs.Bits.{Has, Subset}
use Rattle.base.proofs.Sets.{has_or_not, has_zero, has_minus, some_place}

pub within_or_not : (s t : ℕ) → s < 2 ^ 64 → t < 2 ^ 64 → Subset s t ⊎ ((i : ℕ) × Has s i × (Has t i → ⊥))
within_or_not s t small_s small_t =
    let minus = λ (i : ℕ). has_minus 64 s t i small_s small_t in
    elim (some_place (bit_and s (2 ^ 64 - 1 - t))) [
      | inl none ↦ inl (λ i in_s. elim (has_or_not t i) [ inl in_t ↦ in_t | inr not_t ↦ absurd (has_zero i (subst (λ (x : ℕ). Has x i) none ((minus i).1 (in_s, not_t)))) ])
      | inr p ↦ let lacking = (minus p.0).0 p.1 in inr (p.0, lacking.0, lacking.1)
    ]
