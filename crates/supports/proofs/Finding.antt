-- Once the whole region is done, every support is known.
use Rattle.std.proofs.Common.{◌≡◌, ℕ, ◌-◌, ◌^◌, ◌<◌, ◌⊎◌, List, [], ◌∷◌, sym, subst, inl, inr, ⊎_elim, arith}
use native.Mathlib.Decide.{ℕ_discrete}
use lib.Bits.{bit_and}
use Rattle.base.specs.Bits.{Has, Subset}
use Rattle.base.specs.Words.{Iff, In}
use Rattle.base.proofs.Sets.{has_zero, has_minus, same_set, subset_le}
use Rattle.logics.specs.Entailment.{Monotone}
use Rattle.supports.specs.Asked.{Asked, Yields, Support, SomeSupports, AllSupports}
use Rattle.supports.specs.Search.{HitsAll, Earlier, Done}
use Rattle.supports.proofs.Lacking.{within_or_not}
use Rattle.supports.proofs.Yielding.{yields_more}

in_or_not : (s : ℕ) (known : List ℕ) → In s known ⊎ (In s known → ⊥)
in_or_not s [] = inr (λ i. i)
in_or_not s (k ∷ ks) =
    elim (ℕ_discrete s k) [
      | yes e ↦ inl (inl e)
      | no ne ↦ elim (in_or_not s ks) [ inl i ↦ inl (inr i) | inr none ↦ inr (λ j. ⊎_elim ne none j) ]
    ]

module _ (q : Asked) (small : q.all < 2 ^ 64) where
  -- two supports of which one lies within the other are one
  support_within : (s t : ℕ) → Support q s → Support q t → Subset t s → s ≡ t
  support_within s t is is' sub = same_set s t (λ i. (is.minimal t sub is'.yields i, sub i))

  pub support_small : (s : ℕ) → Support q s → s < 2 ^ 64
  support_small s is = omega (arith, subset_le s q.all is.in_force)

  -- a different support has an axiom that s lacks
  differs : (s t : ℕ) → Support q s → Support q t → (s ≡ t → ⊥) → (i : ℕ) × Has t i × (Has s i → ⊥)
  differs s t is is' ne =
      elim (within_or_not t s (support_small t is') (support_small s is))
      [ inl within ↦ absurd (ne (support_within s t is is' within)) | inr lacking ↦ lacking ]

  -- the axioms outside an unknown support hit every known one, so they cannot all be left out
  missed : (known : List ℕ) → SomeSupports q known → Done q known 0 q.all
      → (s : ℕ) → Support q s → (In s known → ⊥) → ⊥
  missed known some done s is unknown =
      done (bit_and q.all (2 ^ 64 - 1 - s)) (record { holds = λ i p. absurd (has_zero i p); only = λ i p. inr ((outside i).0 p).0 }) hits
      s is.in_force (λ i p q. ((outside i).0 q).1 p) is.yields
    where
      outside : (i : ℕ) → Iff (Has (bit_and q.all (2 ^ 64 - 1 - s)) i) (Has q.all i × (Has s i → ⊥))
      outside i = has_minus 64 q.all s i small (support_small s is)

      hits : HitsAll (bit_and q.all (2 ^ 64 - 1 - s)) known
      hits t k =
          let is' = some.sound t k in
          let (i, in_t, not_s) = differs s t is is' (λ e. unknown (subst (λ (x : ℕ). In x known) (sym e) k)) in
          (i, (outside i).1 (is'.in_force i in_t, not_s), in_t)

  pub all_found : (known : List ℕ) → SomeSupports q known → Done q known 0 q.all → AllSupports q known
  all_found known some done = record {
    sound = some.sound;
    complete = λ s is. elim (in_or_not s known) [ inl i ↦ i | inr unknown ↦ absurd (missed known some done s is unknown) ];
    ascending = some.ascending;
  }

-- before anything is known
module _ (q : Asked) where
  pub none_yet : SomeSupports q []
  none_yet = record { sound = λ s i. absurd i; ascending = tt }

  pub nothing_out : (known : List ℕ) (may : ℕ) → Earlier q known 0 may
  nothing_out known may e h in_out = absurd (has_zero e in_out)

  -- what does not follow from all axioms has no support
  pub none_found : Monotone q.logic → (Yields q q.all → ⊥) → AllSupports q []
  none_found monotone never = record {
    sound = λ s i. absurd i;
    complete = λ s is. absurd (never (yields_more q monotone s q.all is.in_force is.yields));
    ascending = tt;
  }
