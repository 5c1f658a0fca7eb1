-- Sets of regions keep the laws of a label kind, and those of at most one region are join prime.
use Rattle.std.specs.Prelude.{ℕ, ◌-◌, ◌^◌, ◌<◌, ◌⊎◌, bit_and, bit_or, refl}
use Rattle.std.proofs.Common.{sym, subst, inl, inr, ⊎_elim, arith, pow_pos, pow_mono}
use Rattle.std.proofs.Math.Decide.{ℕ_discrete}
use Rattle.std.proofs.Math.Pow.{pow-lt, ones_lt}
use Rattle.std.specs.Int.Bits.{and_lt}
use Rattle.std.proofs.lemmas.Nat.{or_lt}
use Rattle.base.specs.Bits.{Has, Subset, AtMostOne}
use Rattle.base.proofs.Sets.{has_and, has_or, has_or_left, has_or_right, has_below, has_ones, has_single, has_without, same_set, some_place, has_zero}
use Rattle.labels.specs.Order.{Lawful, JoinPrime, Greatest, Least, Under, Top}
use Rattle.labels.specs.Sets.{sets, SetsSize}

module _ (r : ℕ) where
  under : (a b : ℕ) → a < 2 ^ r → b < 2 ^ r → Subset a b → Under (sets r) a b
  under a b la lb sub = record { low = la; high = lb; order = sub }

  pub and_greatest : (a b : ℕ) → a < 2 ^ r → b < 2 ^ r → Greatest (sets r) a b (bit_and a b)
  and_greatest a b la lb = record {
    left = under (bit_and a b) a small la (λ i h. ((has_and a b i).0 h).0);
    right = under (bit_and a b) b small lb (λ i h. ((has_and a b i).0 h).1);
    greatest = λ c p q. under c (bit_and a b) p.low small (λ i h. (has_and a b i).1 (p.order i h, q.order i h));
  }
    where
      small : bit_and a b < 2 ^ r
      small = and_lt r a b la lb

  pub or_least : (a b : ℕ) → a < 2 ^ r → b < 2 ^ r → Least (sets r) a b (bit_or a b)
  or_least a b la lb = record {
    left = under a (bit_or a b) la small (has_or_left a b);
    right = under b (bit_or a b) lb small (has_or_right a b);
    least = λ c p q. under (bit_or a b) c small p.high (λ i h. ⊎_elim (p.order i) (q.order i) (has_or a b i h));
  }
    where
      small : bit_or a b < 2 ^ r
      small = or_lt r a b la lb

  pub all_top : Top (sets r) (2 ^ r - 1)
  all_top a la = under a (2 ^ r - 1) la (ones_lt r) (λ i h. (has_ones r i).1 (has_below r a i la h))

  pub sets_lawful : SetsSize r → Lawful (sets r)
  sets_lawful ok = record {
    some = pow_pos r;
    small = pow_mono ok;
    reflexive = λ a l. under a a l l (λ i h. h);
    antisymmetric = λ a b p q. same_set a b (λ i. (p.order i, q.order i));
    transitive = λ a b c p q. under a c p.low q.high (λ i h. q.order i (p.order i h));
    meets = λ a b p q. (bit_and a b, and_greatest a b p q);
    joins = λ a b p q. (bit_or a b, or_least a b p q);
    top = (2 ^ r - 1, all_top);
  }

  -- a set of at most one region lies within one of two sets whenever it lies within their union
  pub single_prime : (u : ℕ) → u < 2 ^ r → AtMostOne u → JoinPrime (sets r) u
  single_prime u l one = record { known = l; splits = splits }
    where
      within : (a i : ℕ) → a < 2 ^ r → Has u i → Has a i → Under (sets r) u a
      within a i la h g = under u a l la (λ k p. subst (λ (x : ℕ). Has a x) (one i k h p) g)

      splits : (a b j : ℕ) → Least (sets r) a b j → Under (sets r) u j → Under (sets r) u a ⊎ Under (sets r) u b
      splits a b j least below =
          let la = least.left.low in
          let lb = least.right.low in
          let union = or_least a b la lb in
          let inside = least.least (bit_or a b) union.left union.right in
          elim (some_place u) [
            | inl e ↦ inl (under u a l la (λ i h. absurd (has_zero i (subst (λ (x : ℕ). Has x i) e h))))
            | inr p ↦
                let i = p.0 in
                ⊎_elim (λ g. inl (within a i la p.1 g)) (λ g. inr (within b i lb p.1 g))
                (has_or a b i (inside.order i (below.order i p.1)))
          ]

  -- a join prime set has at most one region: it lies within the union of one of its regions and all the others
  pub prime_single : (u : ℕ) → JoinPrime (sets r) u → AtMostOne u
  prime_single u prime i k h g =
      let top = 2 ^ r - 1 in
      let i_in : i < r = has_below r u i prime.known h in
      let here : Has top i = (has_ones r i).1 i_in in
      let one = 2 ^ i in
      let others = top - 2 ^ i in
      let l_one : one < 2 ^ r = pow-lt i_in in
      let l_others : others < 2 ^ r = omega (arith, ones_lt r) in
      let union = or_least one others l_one l_others in
      let covers : Under (sets r) u (bit_or one others) = under u (bit_or one others) prime.known union.left.high (λ x p. cover x p) in
      ⊎_elim (λ in_one. sym ((has_single i k).0 (in_one.order k g))) (λ in_others. absurd (((has_without i top i here).0 (in_others.order i h)).1 refl))
      (prime.splits one others (bit_or one others) union covers)
    where
      cover : (x : ℕ) → Has u x → Has (bit_or (2 ^ i) (2 ^ r - 1 - 2 ^ i)) x
      cover x p =
          elim (ℕ_discrete x i) [
            | yes e ↦ has_or_left (2 ^ i) (2 ^ r - 1 - 2 ^ i) x ((has_single i x).1 e)
            | no other ↦
                has_or_right (2 ^ i) (2 ^ r - 1 - 2 ^ i) x
                ((has_without i (2 ^ r - 1) x ((has_ones r i).1 (has_below r u i prime.known h))).1 ((has_ones r x).1 (has_below r u x prime.known p), other))
          ]
