-- The order of sets by the smallest place in which they differ.
use Rattle.std.specs.Prelude.{◌≡◌, ℕ, zero, suc, ◌+◌, ◌/◌, ◌%◌, ◌^◌, ◌<◌, ◌⊎◌, bit_xor, refl}
use Rattle.std.proofs.Common.{ap, ◌∙◌, inl, inr, ⊎_elim, arith}
use Rattle.std.proofs.Math.Decide.{dec_lt, ℕ_discrete}
use Rattle.std.proofs.lemmas.Nat.{xor_shr}
use Rattle.std.specs.Int.Bits.{xor_add_and}
use Rattle.std.specs.Int.Count.{count_trailing_zeros, under}
use Rattle.base.specs.Bits.{Has}
use Rattle.base.specs.Words.{Iff}
use Rattle.base.proofs.Sets.{has_or_not, has_zero, has_first, has_next, has_below, same_set, some_place}
use Rattle.ordered.specs.Lists.{Ranking}
use Rattle.ordered.specs.Rankings.{AnyRank, total_ranking, total_ranks}
use Rattle.ordered.specs.Sets.{Before}

under_lack : (d t n : ℕ) → n % 2 ≡ d → ((i : ℕ) → i < t → Has (n / 2) i → ⊥) → (i : ℕ) → i < under d t → Has n i → ⊥
under_lack zero t n e rest zero h g = omega (arith, (has_first n).0 g)
under_lack zero t n e rest (suc i) h g = rest i (omega arith) (rw has_next at g)
under_lack (suc d) t n e rest i h g = omega arith

-- none of the zeros at the low end of a number is a place of the set
pub zeros_lack : (k n i : ℕ) → i < count_trailing_zeros k n → Has n i → ⊥
unfolding count_trailing_zeros
zeros_lack zero n i h g = omega arith
zeros_lack (suc k) n i h g = under_lack (n % 2) (count_trailing_zeros k (n / 2)) n refl (zeros_lack k (n / 2)) i h g

under_end : (d t k n : ℕ) → n % 2 ≡ d → (t < k → Has (n / 2) t) → under d t < suc k → Has n (under d t)
under_end zero t k n e rest h = rw has_next (rest (omega arith))
under_end (suc d) t k n e rest h = (has_first n).1 (omega arith)

-- the place above them is one, unless they are all of the k places
pub zeros_end : (k n : ℕ) → count_trailing_zeros k n < k → Has n (count_trailing_zeros k n)
unfolding count_trailing_zeros
zeros_end zero n h = absurd (omega arith)
zeros_end (suc k) n h = under_end (n % 2) (count_trailing_zeros k (n / 2)) k n refl (zeros_end k (n / 2)) h

-- a set that is not empty has a smallest place
pub smallest_place : (n i : ℕ) → Has n i → (p : ℕ) × Has n p × ((j : ℕ) → j < p → Has n j → ⊥)
smallest_place n i h =
    let p = count_trailing_zeros (suc i) n in
    let within : p < suc i = elim (dec_lt i p) [ yes lt ↦ absurd (zeros_lack (suc i) n i lt h) | no ge ↦ omega arith ] in
    (p, zeros_end (suc i) n within, zeros_lack (suc i) n)

module _ (s t i : ℕ) where
  xor_digit : bit_xor s t / 2 ^ i % 2 ≡ (s / 2 ^ i + t / 2 ^ i) % 2
  xor_digit = ap (λ (x : ℕ). x % 2) (xor_shr s t i) ∙ omega (arith, xor_add_and (s / 2 ^ i) (t / 2 ^ i))

  -- a place of s ^ t is a place of one of the two alone
  xor_not_both : Has (bit_xor s t) i → Has s i → Has t i → ⊥
  xor_not_both x h g = omega (arith, xor_digit)

  xor_other : Has (bit_xor s t) i → (Has s i → ⊥) → Has t i
  xor_other x h = omega (arith, xor_digit)

  xor_holds : Has s i → (Has t i → ⊥) → Has (bit_xor s t) i
  xor_holds h g = omega (arith, xor_digit)

  xor_alike : (Has (bit_xor s t) i → ⊥) → Iff (Has s i) (Has t i)
  xor_alike none = (λ h. omega (arith, xor_digit), λ h. omega (arith, xor_digit))

-- of two sets that are not one, one comes first
pub before_total : (s t : ℕ) → (s ≡ t) ⊎ (Before s t ⊎ Before t s)
before_total s t = ⊎_elim same apart (some_place (bit_xor s t))
  where
    same : bit_xor s t ≡ 0 → (s ≡ t) ⊎ (Before s t ⊎ Before t s)
    same e = inl (same_set s t (λ i. xor_alike s t i (λ h. has_zero i (rw e at h))))

    apart : (i : ℕ) × Has (bit_xor s t) i → (s ≡ t) ⊎ (Before s t ⊎ Before t s)
    apart (i, h) =
        let (p, here, low) = smallest_place (bit_xor s t) i h in
        let alike = λ (j : ℕ) (lt : j < p). xor_alike s t j (low j lt) in
        let first = λ (g : Has s p). inl (record { place = p; holds = g; lacks = xor_not_both s t p here g; alike = alike }) in
        let second = λ (g : Has s p → ⊥). inr (record { place = p; holds = xor_other s t p here g; lacks = g; alike = λ j lt. ((alike j lt).1, (alike j lt).0) }) in
        inr (⊎_elim first second (has_or_not s p))

before_irreflexive : (s : ℕ) → Before s s → ⊥
before_irreflexive s b = b.lacks b.holds

before_transitive : (s t u : ℕ) → Before s t → Before t u → Before s u
before_transitive s t u b c =
    elim (dec_lt c.place b.place) [
      | yes lt ↦ record {
        place = c.place;
        holds = (b.alike c.place lt).1 c.holds;
        lacks = c.lacks;
        alike = λ i h. both i (omega arith) h;
      }
      | no ge ↦ record {
        place = b.place;
        holds = b.holds;
        lacks = λ h. elim (ℕ_discrete b.place c.place) [ yes e ↦ b.lacks (rw e c.holds) | no ne ↦ b.lacks ((c.alike b.place (omega arith)).1 h) ];
        alike = λ i h. both i h (omega arith);
      }
    ]
  where
    both : (i : ℕ) → i < b.place → i < c.place → Iff (Has s i) (Has u i)
    both i h g = (λ x. (c.alike i g).0 ((b.alike i h).0 x), λ x. (b.alike i h).1 ((c.alike i g).1 x))

-- the laws of the order
pub before_ranking : Ranking Before
before_ranking = total_ranking before_total before_irreflexive before_transitive

-- any two sets rank in some way
pub before_ranks : AnyRank Before
before_ranks = total_ranks before_total before_irreflexive

-- s comes before t when it holds the smallest place of s ^ t
pub first_differs : (w s t : ℕ) → s < 2 ^ w → Iff (Has s (count_trailing_zeros w (bit_xor s t))) (Before s t)
first_differs w s t small = (into, back)
  where
    into : Has s (count_trailing_zeros w (bit_xor s t)) → Before s t
    into h =
        let p = count_trailing_zeros w (bit_xor s t) in
        let here = zeros_end w (bit_xor s t) (has_below w s p small h) in
        record { place = p; holds = h; lacks = xor_not_both s t p here h; alike = λ i lt. xor_alike s t i (zeros_lack w (bit_xor s t) i lt) }

    no_sooner : (b : Before s t) → count_trailing_zeros w (bit_xor s t) < b.place → ⊥
    no_sooner b lt =
        let p = count_trailing_zeros w (bit_xor s t) in
        let same = b.alike p lt in
        let here = zeros_end w (bit_xor s t) (omega (arith, has_below w s b.place small b.holds)) in
        ⊎_elim (λ h. xor_not_both s t p here h (same.0 h)) (λ h. h (same.1 (xor_other s t p here h))) (has_or_not s p)

    back : Before s t → Has s (count_trailing_zeros w (bit_xor s t))
    back b =
        let p = count_trailing_zeros w (bit_xor s t) in
        let no_later : b.place < p → ⊥ = λ lt. zeros_lack w (bit_xor s t) b.place lt (xor_holds s t b.place b.holds b.lacks) in
        let there : p ≡ b.place = omega (arith, no_sooner b) in
        rw there b.holds

pub before_splits : (s t u : ℕ) → Before s t → Before s u ⊎ Before u t
before_splits = before_ranking.splits
