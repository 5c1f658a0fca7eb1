-- A set that yields the goal, made smaller axiom by axiom.
use Rattle.std.proofs.Common.{ℕ, ◌+◌, ◌-◌, ◌^◌, ◌<◌, sym, subst, inl, inr, arith}
use native.Mathlib.Decide.{ℕ_discrete}
use Rattle.base.specs.Bits.{Has, Subset}
use Rattle.base.proofs.Sets.{has_or_not, has_without, has_below}
use Rattle.logics.specs.Entailment.{Monotone}
use Rattle.supports.specs.Asked.{Asked, Yields, Support}
use Rattle.supports.specs.Search.{Shrunk, DroppedOne}
use Rattle.supports.proofs.Yielding.{yields_more}

module _ (q : Asked) (monotone : Monotone q.logic) where
  without_within : (s t j : ℕ) → Has t j → Subset s t → (Has s j → ⊥) → Subset s (t - 2 ^ j)
  without_within s t j in_t sub not_s i h = (has_without j t i in_t).1 (sub i h, λ e. not_s (subst (λ (x : ℕ). Has s x) e h))

  module _ (set now i : ℕ) (done : Shrunk q set now i) where
    -- axiom i is not needed, and is dropped
    shrink_drop : Has now i → Yields q (now - 2 ^ i) → Shrunk q set (now - 2 ^ i) (i + 1)
    shrink_drop here yields = record {
      inside = λ k h. done.inside k ((has_without i now k here).0 h).0;
      yields = yields;
      needed = λ j lt h y.
          elim (ℕ_discrete j i) [
            | yes e ↦ ((has_without i now j here).0 h).1 e
            | no ne ↦
                let in_now = ((has_without i now j here).0 h).0 in
                done.needed j (omega arith) in_now
                (yields_more q monotone (now - 2 ^ i - 2 ^ j) (now - 2 ^ j)
                (λ k p.
                let (q, k_j) = (has_without j (now - 2 ^ i) k h).0 p in
                (has_without j now k in_now).1 (((has_without i now k here).0 q).0, k_j))
                y)
          ];
    }

    -- axiom i is needed
    shrink_keep : (Yields q (now - 2 ^ i) → ⊥) → Shrunk q set now (i + 1)
    shrink_keep need = record {
      inside = done.inside;
      yields = done.yields;
      needed = λ j lt h.
          elim (ℕ_discrete j i) [
            | yes e ↦ subst (λ (x : ℕ). Yields q (now - 2 ^ x) → ⊥) (sym e) need
            | no ne ↦ done.needed j (omega arith) h
          ];
    }

    -- axiom i is not there
    shrink_skip : (Has now i → ⊥) → Shrunk q set now (i + 1)
    shrink_skip none = record {
      inside = done.inside;
      yields = done.yields;
      needed = λ j lt h. elim (ℕ_discrete j i) [ yes e ↦ absurd (none (subst (λ (x : ℕ). Has now x) e h)) | no ne ↦ done.needed j (omega arith) h ];
    }

    -- one axiom more
    pub shrink_one : (r : ℕ) → DroppedOne q now i r → Shrunk q set r (i + 1)
    shrink_one r (inl (here, e, y)) = rw e (shrink_drop here (rw e at y))
    shrink_one r (inr (e, need)) = rw e (elim (has_or_not now i) [ inl here ↦ shrink_keep (need here) | inr none ↦ shrink_skip none ])

  -- what is left is a support
  pub shrunk_support : (set now : ℕ) → now < 2 ^ 64 → Subset set q.all → Shrunk q set now 64 → Support q now
  shrunk_support set now small inside done = record {
    in_force = λ i h. inside i (done.inside i h);
    yields = done.yields;
    minimal = λ t sub y j h.
        elim (has_or_not t j) [
          | inl in_t ↦ in_t
          | inr not_t ↦
              absurd (done.needed j (has_below 64 now j small h) h (yields_more q monotone t (now - 2 ^ j) (without_within t now j h sub not_t) y))
        ];
  }
