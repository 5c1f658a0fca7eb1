-- The labels that split every join, gathered as a set of bits.
use Rattle.std.proofs.Common.{ℕ, ◌+◌, ◌-◌, ◌^◌, ◌<◌, inl, inr, ⊎_elim, arith, below_more}
use lib.Bits.{bit_and, bit_or}
use Rattle.base.specs.Bits.{Has}
use Rattle.base.specs.Words.{Iff}
use Rattle.base.proofs.Sets.{has_or_not, has_and, has_or, has_or_left, has_or_right, has_not}

-- the labels that are not below j, or are below a or b
pub split_mask : (j a b u : ℕ) → j < 2 ^ 32 → u < 32
    → Iff (Has (bit_or (bit_or (4294967295 - j) a) b) u) (Has j u → (Has a u → ⊥) → Has b u)
split_mask j a b u small within = (to, from)
  where
    to : Has (bit_or (bit_or (4294967295 - j) a) b) u → Has j u → (Has a u → ⊥) → Has b u
    to h in_j not_a =
        ⊎_elim (λ g. ⊎_elim (λ k. absurd ((has_not 32 j u small within).0 k in_j)) (λ k. absurd (not_a k)) (has_or (4294967295 - j) a u g)) (λ g. g)
        (has_or (bit_or (4294967295 - j) a) b u h)

    first : Has (bit_or (4294967295 - j) a) u → Has (bit_or (bit_or (4294967295 - j) a) b) u
    first = has_or_left (bit_or (4294967295 - j) a) b u

    from : (Has j u → (Has a u → ⊥) → Has b u) → Has (bit_or (bit_or (4294967295 - j) a) b) u
    from splits =
        elim (has_or_not j u) [
          | inr out ↦ first (has_or_left (4294967295 - j) a u ((has_not 32 j u small within).1 out))
          | inl in_j ↦
              elim (has_or_not a u) [
                | inl in_a ↦ first (has_or_right (4294967295 - j) a u in_a)
                | inr not_a ↦ has_or_right (bit_or (4294967295 - j) a) b u (splits in_j not_a)
              ]
        ]

-- a set of what has the property Q of each number below i, cut down to what has it of i too
pub all_more : (L : Type 0) (Q : ℕ → Type 0) (s v u i : ℕ) → Iff (Has s u) (L × ((k : ℕ) → k < i → Q k)) → (L → Iff (Has v u) (Q i))
    → Iff (Has (bit_and s v) u) (L × ((k : ℕ) → k < i + 1 → Q k))
all_more L Q s v u i below at_i = (
  λ h. let both = (has_and s v u).0 h in let (l, q) = below.0 both.0 in (l, below_more Q i q ((at_i l).0 both.1)),
  λ p. (has_and s v u).1 (below.1 (p.0, λ k l. p.1 k (omega arith)), (at_i p.0).1 (p.1 i (omega arith))),
)
