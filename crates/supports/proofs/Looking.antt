-- One look over the known supports, one after the other.
use Rattle.std.proofs.Common.{◌≡◌, ℕ, ◌-◌, ◌^◌, ◌<◌, ◌≤◌, ◌⊎◌, List, [], ◌∷◌, ◌++◌, Some, None, Option, sym, refl, ◌∙◌, subst, inl, inr, ⊎_elim, arith, MatchOption}
use native.Mathlib.Decide.{ℕ_discrete}
use lib.Bits.{bit_and, bit_or}
use lib.Count.{ones}
use Rattle.base.specs.Bits.{Has, Subset}
use Rattle.base.specs.Words.{Iff, In}
use Rattle.base.proofs.Sets.{has_and, has_or, has_or_left, has_or_right, has_zero, some_place, has_without, same_set, subset_le}
use Rattle.base.proofs.Ones.{ones_iff}
use Rattle.ordered.proofs.Lists.{in_append}
use Rattle.supports.proofs.Lacking.{within_or_not}
use Rattle.supports.specs.Search.{Apart, Hits, HitsAll, Spare, Looked, Glanced}

-- a set of more than one place has another beside each of its places
another : (y e : ℕ) → (ones y ≤ 1 → ⊥) → Has y e → (i : ℕ) × Has y i × (i ≡ e → ⊥)
another y e many here =
    elim (some_place (y - 2 ^ e)) [
      | inl none ↦ absurd (many ((ones_iff y).1 (λ i j p q. only none i p ∙ sym (only none j q))))
      | inr p ↦ let (in_y, ne) = (has_without e y p.0 here).0 p.1 in (p.0, in_y, ne)
    ]
  where
    only : y - 2 ^ e ≡ 0 → (i : ℕ) → Has y i → i ≡ e
    only none i p =
        elim (ℕ_discrete i e)
        [ yes same ↦ same | no ne ↦ absurd (has_zero i (subst (λ (x : ℕ). Has x i) none ((has_without e y i here).1 (p, ne)))) ]

-- the three ways of a glance: s is not hit, hit by one axiom of `out`, hit by several
module _ (out s : ℕ) (unhit : Option ℕ) (sole : ℕ) where
  pub glance_apart : bit_and s out ≡ 0 → Glanced out s unhit sole (Some s) sole
  glance_apart none =
      let apart : Apart s out = λ i p q. has_zero i (subst (λ (x : ℕ). Has x i) none ((has_and s out i).1 (p, q))) in
      record { missed = inl (apart, refl); keeps = λ i p. p; inside = λ sub. sub; spare = λ e p q _. absurd (apart e p q) }

  hit : (bit_and s out ≡ 0 → ⊥) → Hits out s
  hit some = elim (some_place (bit_and s out)) [ inl e ↦ absurd (some e) | inr p ↦ let q = (has_and s out p.0).0 p.1 in (p.0, q.1, q.0) ]

  pub glance_one : (bit_and s out ≡ 0 → ⊥) → Glanced out s unhit sole unhit (bit_or sole (bit_and s out))
  glance_one some = record {
    missed = inr (hit some, refl);
    keeps = has_or_left sole (bit_and s out);
    inside = λ sub i p. ⊎_elim (sub i) (λ q. ((has_and s out i).0 q).1) (has_or sole (bit_and s out) i p);
    spare = λ e p q not_sole. absurd (not_sole (has_or_right sole (bit_and s out) e ((has_and s out e).1 (p, q))));
  }

  pub glance_many : (ones (bit_and s out) ≤ 1 → ⊥) → (bit_and s out ≡ 0 → ⊥) → Glanced out s unhit sole unhit sole
  glance_many many some = record {
    missed = inr (hit some, refl);
    keeps = λ i p. p;
    inside = λ sub. sub;
    spare = λ e p q _.
        let (i, both, ne) = another (bit_and s out) e many ((has_and s out e).1 (p, q)) in
        let r = (has_and s out i).0 both in
        (i, r.0, r.1, ne);
  }

-- before the first
pub looked_none : (out : ℕ) → Looked [] out None 0
looked_none out = record { missed = λ s i. absurd i; inside = λ i p. absurd (has_zero i p); spare = λ s i. absurd i }

-- one known support more
module _ (known : List ℕ) (s out : ℕ) (unhit unhit' : Option ℕ) (sole sole' : ℕ) (glance : Glanced out s unhit sole unhit' sole')
    (done : Looked known out unhit sole) where
  one_more : (t : ℕ) → Iff (In t (known ++ (s ∷ []))) (In t known ⊎ ((t ≡ s) ⊎ ⊥))
  one_more t = in_append t known (s ∷ [])

  now_missed : MatchOption unhit' (HitsAll out (known ++ (s ∷ []))) (λ t. In t (known ++ (s ∷ [])) × Apart t out)
  now_missed =
      let Goal : Option ℕ → Type 0 = λ u. MatchOption u (HitsAll out (known ++ (s ∷ []))) (λ t. In t (known ++ (s ∷ [])) × Apart t out) in
      elim glance.missed [
        | inl p ↦ subst Goal (sym p.1) ((one_more s).1 (inr (inl refl)), p.0)
        | inr p ↦ subst Goal (sym p.1) (still unhit done.missed p.0)
      ]
    where
      still : (u : Option ℕ) → MatchOption u (HitsAll out known) (λ t. In t known × Apart t out) → Hits out s
          → MatchOption u (HitsAll out (known ++ (s ∷ []))) (λ t. In t (known ++ (s ∷ [])) × Apart t out)
      still None all here = λ t h. ⊎_elim (all t) (⊎_elim (λ e. subst (Hits out) (sym e) here) absurd) ((one_more t).0 h)
      still (Some t) (j, apart) here = ((one_more t).1 (inl j), apart)

  pub looked_more : Looked (known ++ (s ∷ [])) out unhit' sole'
  looked_more = record {
    missed = now_missed;
    inside = glance.inside done.inside;
    spare = λ t h e in_t in_out not_sole.
        ⊎_elim (λ j. done.spare t j e in_t in_out (λ p. not_sole (glance.keeps e p)))
        (⊎_elim (λ same. subst (Spare out sole') (sym same) glance.spare e in_t in_out not_sole) absurd)
        ((one_more t).0 h);
  }

-- an axiom that is not among the sole ones
pub not_sole : (sole out : ℕ) → out < 2 ^ 64 → Subset sole out → (sole ≡ out → ⊥) → (e : ℕ) × Has out e × (Has sole e → ⊥)
not_sole sole out small inside differ =
    elim (within_or_not out sole small (omega (arith, subset_le sole out inside)))
    [ inl within ↦ absurd (differ (same_set sole out (λ i. (inside i, within i)))) | inr lacking ↦ lacking ]
