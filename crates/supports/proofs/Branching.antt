-- The branches at a support, one after the other.
use Rattle.std.proofs.Common.{◌≡◌, ℕ, ◌+◌, ◌-◌, ◌^◌, ◌<◌, ◌⊎◌, List, sym, subst, inl, inr, ⊎_elim, arith}
use native.Mathlib.Decide.{ℕ_discrete}
use lib.Bits.{bit_and, bit_or}
use Rattle.base.specs.Bits.{Has}
use Rattle.base.specs.Words.{Iff}
use Rattle.base.proofs.Sets.{has_minus, has_with, subset_lt}
use Rattle.supports.specs.Asked.{Asked}
use Rattle.supports.specs.Search.{Branch, Done, Branches, Grown}
use Rattle.supports.proofs.Hitting.{Allowed, branches_grow, branch_done}

module _ (may s : ℕ) where
  pub allowed_none : may < 2 ^ 64 → s < 2 ^ 64 → Allowed may s (bit_and may (18446744073709551615 - s)) 0
  allowed_none small small' k =
      let minus = has_minus 64 may s k small small' in (
        λ h. ((minus.0 h).0, λ p. absurd ((minus.0 h).1 p)),
        λ p. minus.1 (p.0, λ q. omega (arith, p.1 q)),
      )

  pub allowed_more : (allowed x : ℕ) → Has may x → Has s x → Allowed may s allowed x → Allowed may s (bit_or allowed (2 ^ x)) (x + 1)
  allowed_more allowed x in_may in_s is k = (
    λ h.
        ⊎_elim (λ p. let (m, below) = (is k).0 p in (m, λ q. omega (arith, below q)))
        (λ e. (subst (λ (j : ℕ). Has may j) (sym e) in_may, λ _. omega arith)) ((has_with allowed x k).0 h),
    λ p.
        (has_with allowed x k).1
        (elim (ℕ_discrete k x) [ yes e ↦ inr e | no ne ↦ inl ((is k).1 (p.0, λ q. let lt = p.1 q in omega arith)) ]),
  )

  pub allowed_same : (allowed x : ℕ) → (Has may x × Has s x → ⊥) → Allowed may s allowed x → Allowed may s allowed (x + 1)
  allowed_same allowed x none is k = (
    λ h. let (m, below) = (is k).0 h in (m, λ q. omega (arith, below q)),
    λ p.
        (is k).1 (
          p.0,
          λ q.
              let ne : k ≡ x → ⊥ = λ e. none (subst (λ (j : ℕ). Has may j) e p.0, subst (λ (j : ℕ). Has s j) e q) in
              let lt = p.1 q in
              omega arith,
        ),
  )

  -- fewer than `may`: x is not among them
  pub allowed_less : (allowed x : ℕ) → Has may x → Has s x → Allowed may s allowed x → allowed < may
  allowed_less allowed x in_may in_s is = subset_lt allowed may x (λ k h. ((is k).0 h).0) in_may (λ h. omega (arith, ((is x).0 h).1 in_s))

module _ (q : Asked) where
  pub branches_none : (known : List ℕ) (out may s : ℕ) → Branches q known out may s 0
  branches_none known out may s x h lt = absurd (omega arith)

  pub branches_more : (known more : List ℕ) (out may s x next allowed : ℕ) → Grown q known more
      → ((k : ℕ) → Iff (Has next k) (Has out k ⊎ (k ≡ x))) → Allowed may s allowed x → Done q more next allowed
      → Branches q known out may s x → Branches q more out may s (x + 1)
  branches_more known more out may s x next allowed grown is_next is_allowed done branches y h lt in_may in_s branch hits =
      elim (ℕ_discrete y x) [
        | yes e ↦
            branch_done q more out may s x next allowed is_next is_allowed done h (subst (λ (j : ℕ). Branch out may s j h) e branch) hits
        | no ne ↦ branches_grow q known more grown.keeps out may s x branches y h (omega arith) in_may in_s branch hits
      ]

  pub branches_skip : (known : List ℕ) (out may s x : ℕ) → (Has may x × Has s x → ⊥) → Branches q known out may s x
      → Branches q known out may s (x + 1)
  branches_skip known out may s x none branches y h lt in_may in_s =
      elim (ℕ_discrete y x) [
        | yes e ↦ absurd (none (subst (λ (j : ℕ). Has may j) e in_may, subst (λ (j : ℕ). Has s j) e in_s))
        | no ne ↦ branches y h (omega arith) in_may in_s
      ]
