-- What is in a set that is made of others by `&`, `|` and a shift, and when two sets are one.
use Rattle.std.proofs.Common.{◌≡◌, ℕ, zero, suc, ◌+◌, ◌-◌, ◌*◌, ◌/◌, ◌%◌, ◌^◌, ◌<◌, ◌≤◌, min, max, ◌⊎◌, sym, refl, ap, ◌∙◌, subst, inl, inr, ⊎_elim, mod-lt, mul_comm, pow-suc, le-div_iff_mul-le, div-one, mul-div_cancel, arith, pow_pos, pow_mono, pow-add}
use native.Mathlib.Nat.{div-eq_of_lt, div_self, div-div-eq-div-mul, zero-div}
use native.Mathlib.Decide.{dec_lt, ℕ_discrete}
use lib.Arith.{bin_ind}
use lib.Pow.{ones_split, ones_lt, high}
use lib.Bits.{bit_and, bit_or, and_shr, or_shr, and_step, or_step, and_le_r}
use Rattle.base.specs.Bits.{Has, Subset}
use Rattle.base.specs.Words.{Iff}

-- a bit is 0 or 1
pub has_or_not : (s i : ℕ) → Has s i ⊎ (Has s i → ⊥)
has_or_not s i =
    let small : (s / 2 ^ i) % 2 < 2 = mod-lt (s / 2 ^ i) (omega arith) in
    elim (ℕ_discrete ((s / 2 ^ i) % 2) 1) [ yes e ↦ inl e | no n ↦ inr n ]

pub has_zero : (i : ℕ) → Has 0 i → ⊥
has_zero i h = omega (arith, h, zero-div (2 ^ i))

-- the first place, and the places after it
pub has_first : (s : ℕ) → Iff (Has s 0) (s % 2 ≡ 1)
has_first s = (λ h. rw div-one at h, λ h. rw div-one h)

pub has_next : (s i : ℕ) → s / 2 ^ suc i ≡ s / 2 / 2 ^ i
has_next s i = ap (λ (x : ℕ). s / x) (pow-suc 2 i ∙ mul_comm (2 ^ i) 2) ∙ sym (div-div-eq-div-mul s 2 (2 ^ i))

and_digit : (a b : ℕ) → bit_and a b % 2 ≡ min (a % 2) (b % 2)
and_digit a b = omega (arith, and_step a b)

or_digit : (a b : ℕ) → bit_or a b % 2 ≡ max (a % 2) (b % 2)
or_digit a b = omega (arith, or_step a b)

digits_both : (x y : ℕ) → Iff (min (x % 2) (y % 2) ≡ 1) ((x % 2 ≡ 1) × (y % 2 ≡ 1))
digits_both x y = omega arith

digits_one : (x y : ℕ) → max (x % 2) (y % 2) ≡ 1 → (x % 2 ≡ 1) ⊎ (y % 2 ≡ 1)
digits_one x y h =
    elim (ℕ_discrete (x % 2) 1) [ yes e ↦ inl e | no n ↦ inr (omega arith) ]

-- an intersection
pub has_and : (a b i : ℕ) → Iff (Has (bit_and a b) i) (Has a i × Has b i)
has_and a b i = simp (and_shr, and_digit) (digits_both (a / 2 ^ i) (b / 2 ^ i))

-- a union
pub has_or : (a b i : ℕ) → Has (bit_or a b) i → Has a i ⊎ Has b i
has_or a b i h = digits_one (a / 2 ^ i) (b / 2 ^ i) (simp (or_shr, or_digit) at h)

pub has_or_left : (a b i : ℕ) → Has a i → Has (bit_or a b) i
has_or_left a b i h = simp (or_shr, or_digit) (omega arith)

pub has_or_right : (a b i : ℕ) → Has b i → Has (bit_or a b) i
has_or_right a b i h = simp (or_shr, or_digit) (omega arith)

-- a set below 2 ^ n holds places below n, and only those
pub has_below : (n s i : ℕ) → s < 2 ^ n → Has s i → i < n
has_below n s i small h =
    elim (dec_lt i n) [
      | yes lt ↦ lt
      | no ge ↦
          let p : 2 ^ n ≤ 2 ^ i = pow_mono (omega arith) in
          let none : s / 2 ^ i ≡ 0 = div-eq_of_lt (omega arith) in
          absurd (omega (arith, none))
    ]

-- sets with the same places are one
pub same_set : (a b : ℕ) → ((i : ℕ) → Iff (Has a i) (Has b i)) → a ≡ b
same_set = bin_ind (λ a. (b : ℕ) → ((i : ℕ) → Iff (Has a i) (Has b i)) → a ≡ b) empty step
  where
    tail : (a b : ℕ) → ((i : ℕ) → Iff (Has a i) (Has b i)) → (i : ℕ) → Iff (Has (a / 2) i) (Has (b / 2) i)
    tail a b same i = simp has_next at (same (suc i))

    first : (a b : ℕ) → ((i : ℕ) → Iff (Has a i) (Has b i)) → a % 2 ≡ b % 2
    first a b same = let both : Iff (a % 2 ≡ 1) (b % 2 ≡ 1) = simp div-one at (same 0) in elim (ℕ_discrete (a % 2) 1) [ yes e ↦ omega (arith, both.0 e) | no n ↦ elim (ℕ_discrete (b % 2) 1) [ yes e ↦ omega (arith, both.1 e) | no m ↦ omega arith ] ]

    empty : (b : ℕ) → ((i : ℕ) → Iff (Has 0 i) (Has b i)) → 0 ≡ b
    empty = bin_ind (λ b. ((i : ℕ) → Iff (Has 0 i) (Has b i)) → 0 ≡ b) (λ same. refl) (λ b rest same. omega (arith, rest (tail 0 b same), first 0 b same))

    step : (n : ℕ) → ((b : ℕ) → ((i : ℕ) → Iff (Has (n / 2) i) (Has b i)) → n / 2 ≡ b) → (b : ℕ) → ((i : ℕ) → Iff (Has n i) (Has b i)) → n ≡ b
    step a rest b same = omega (arith, rest (b / 2) (tail a b same), first a b same)

-- the set of one place
pub has_single : (k i : ℕ) → Iff (Has (2 ^ k) i) (i ≡ k)
has_single k i = (only, λ e. rw e (omega (arith, div_self (pow_pos k))))
  where
    only : Has (2 ^ k) i → i ≡ k
    only h =
        elim (dec_lt i k) [
          | yes lt ↦
              let halves : 2 ^ k ≡ 2 ^ (k - i) * 2 ^ i = ap (λ (x : ℕ). 2 ^ x) (omega arith) ∙ pow-add 2 (k - i) i in
              let rest : 2 ^ (k - i) ≡ 2 * 2 ^ (k - i - 1) = ap (λ (x : ℕ). 2 ^ x) (omega arith) ∙ pow-suc 2 (k - i - 1) ∙ mul_comm (2 ^ (k - i - 1)) 2 in
              let shifted : 2 ^ k / 2 ^ i ≡ 2 ^ (k - i) = ap (λ (x : ℕ). x / 2 ^ i) halves ∙ mul-div_cancel (2 ^ (k - i)) (pow_pos i) in
              absurd (omega (arith, shifted, rest))
          | no ge ↦
              let below : i < suc k = has_below (suc k) (2 ^ k) i (omega (arith, pow-suc 2 k, pow_pos k)) h in
              omega arith
        ]

-- the set of the places below n
pub has_ones : (n i : ℕ) → Iff (Has (2 ^ n - 1) i) (i < n)
has_ones n i = (has_below n (2 ^ n - 1) i (omega (arith, pow_pos n)), all)
  where
    all : i < n → Has (2 ^ n - 1) i
    all lt =
        let split : 2 ^ n - 1 ≡ (2 ^ (n - i) - 1) * 2 ^ i + (2 ^ i - 1) = ap (λ (x : ℕ). 2 ^ x - 1) (omega arith) ∙ ones_split (n - i) i in
        let shifted : (2 ^ n - 1) / 2 ^ i ≡ 2 ^ (n - i) - 1 = ap (λ (x : ℕ). x / 2 ^ i) split ∙ high (2 ^ (n - i) - 1) i (ones_lt i) in
        let even : 2 ^ (n - i) ≡ 2 * 2 ^ (n - i - 1) = ap (λ (x : ℕ). 2 ^ x) (omega arith) ∙ pow-suc 2 (n - i - 1) ∙ mul_comm (2 ^ (n - i - 1)) 2 in
        omega (arith, shifted, even, pow_pos (n - i - 1))

-- a set without one of its places
pub has_without : (i s k : ℕ) → Has s i → Iff (Has (s - 2 ^ i) k) (Has s k × (k ≡ i → ⊥))
has_without zero s zero h =
    let odd : s % 2 ≡ 1 = (has_first s).0 h in
    (λ g. absurd (omega (arith, (has_first (s - 1)).0 g)), λ p. absurd (p.1 refl))
has_without zero s (suc k) h =
    let odd : s % 2 ≡ 1 = (has_first s).0 h in
    let rest : (s - 1) / 2 ≡ s / 2 = omega arith in
    simp (has_next, rest) (λ g. (g, λ e. omega arith), λ p. p.0)
has_without (suc i) s k h =
    let g : Has (s / 2) i = rw has_next at h in
    let some : 1 ≤ s / 2 / 2 ^ i = omega arith in
    let enough : 1 * 2 ^ i ≤ s / 2 = (le-div_iff_mul-le (pow_pos i)).0 some in
    let twice = pow-suc 2 i in
    let rest : (s - 2 ^ suc i) / 2 ≡ s / 2 - 2 ^ i = omega arith in
    let low : (s - 2 ^ suc i) % 2 ≡ s % 2 = omega arith in
    shifted k rest low (has_without i (s / 2))
  where
    shifted : (k : ℕ) → (s - 2 ^ suc i) / 2 ≡ s / 2 - 2 ^ i → (s - 2 ^ suc i) % 2 ≡ s % 2
        → ((k : ℕ) → Has (s / 2) i → Iff (Has (s / 2 - 2 ^ i) k) (Has (s / 2) k × (k ≡ i → ⊥)))
        → Iff (Has (s - 2 ^ suc i) k) (Has s k × (k ≡ suc i → ⊥))
    shifted zero rest low ih = simp (div-one, low) (λ e. (e, λ z. omega arith), λ p. p.0)
    shifted (suc k) rest low ih =
        let both = ih k (rw has_next at h) in
        simp (has_next, rest) (λ a. ((both.0 a).0, λ e. (both.0 a).1 (omega arith)), λ p. both.1 (p.0, λ e. p.1 (ap suc e)))

-- a set that is not empty has a place
pub some_place : (s : ℕ) → (s ≡ 0) ⊎ ((i : ℕ) × Has s i)
some_place = bin_ind (λ s. (s ≡ 0) ⊎ ((i : ℕ) × Has s i)) (inl refl) step
  where
    step : (s : ℕ) → (s / 2 ≡ 0) ⊎ ((i : ℕ) × Has (s / 2) i) → (s ≡ 0) ⊎ ((i : ℕ) × Has s i)
    step s (inr (i, h)) = inr (suc i, rw has_next h)
    step s (inl e) = elim (ℕ_discrete (s % 2) 1) [ yes odd ↦ inr (0, (has_first s).1 odd) | no even ↦ inl (omega arith) ]

-- a set with one more place
pub has_with : (s i k : ℕ) → Iff (Has (bit_or s (2 ^ i)) k) (Has s k ⊎ (k ≡ i))
has_with s i k = (
  λ h. ⊎_elim inl (λ g. inr ((has_single i k).0 g)) (has_or s (2 ^ i) k h),
  ⊎_elim (has_or_left s (2 ^ i) k) (λ e. has_or_right s (2 ^ i) k ((has_single i k).1 e)),
)

-- the places below i that have the property P, gathered one after the other
abbrev pub Gathered : (ℕ → Type 0) → ℕ → ℕ → Type 0
Gathered P s i = (k : ℕ) → Iff (Has s k) ((k < i) × P k)

module _ (P : ℕ → Type 0) (s i : ℕ) (done : Gathered P s i) where
  pub gather_more : (v : ℕ) → v ≡ 2 ^ i → P i → Gathered P (bit_or s v) (i + 1)
  gather_more v is here k =
      rw is (
        λ h. ⊎_elim (λ g. (omega (arith, ((done k).0 g).0), ((done k).0 g).1)) (λ e. (omega arith, subst P (sym e) here)) ((has_with s i k).0 h),
        λ p. elim (ℕ_discrete k i) [ yes e ↦ (has_with s i k).1 (inr e) | no ne ↦ (has_with s i k).1 (inl ((done k).1 (omega arith, p.1))) ],
      )

  pub gather_skip : (P i → ⊥) → Gathered P s (i + 1)
  gather_skip none k = (
    λ h. (omega (arith, ((done k).0 h).0), ((done k).0 h).1),
    λ p. elim (ℕ_discrete k i) [ yes e ↦ absurd (none (subst P e p.1)) | no ne ↦ (done k).1 (omega arith, p.1) ],
  )

-- the places below n that are not in the set
pub has_not : (n s i : ℕ) → s < 2 ^ n → i < n → Iff (Has (2 ^ n - 1 - s) i) (Has s i → ⊥)
has_not zero s i small within = absurd (omega arith)
has_not (suc n) s zero small within =
    let twice : 2 ^ suc n ≡ 2 * 2 ^ n = pow-suc 2 n ∙ mul_comm (2 ^ n) 2 in
    let digit : (2 ^ suc n - 1 - s) % 2 ≡ 1 - s % 2 = omega (arith, twice) in
    simp div-one (λ h k. omega (arith, digit), λ h. elim (ℕ_discrete (s % 2) 1) [ yes odd ↦ absurd (h odd) | no even ↦ omega (arith, digit) ])
has_not (suc n) s (suc i) small within =
    let twice : 2 ^ suc n ≡ 2 * 2 ^ n = pow-suc 2 n ∙ mul_comm (2 ^ n) 2 in
    let half : (2 ^ suc n - 1 - s) / 2 ≡ 2 ^ n - 1 - s / 2 = omega (arith, twice) in
    simp (has_next, half) (has_not n (s / 2) i (omega (arith, twice)) (omega arith))

-- what is in a set and not in another
pub has_minus : (n s t i : ℕ) → s < 2 ^ n → t < 2 ^ n → Iff (Has (bit_and s (2 ^ n - 1 - t)) i) (Has s i × (Has t i → ⊥))
has_minus n s t i small_s small_t = (
  λ h. let (in_s, in_rest) = (has_and s (2 ^ n - 1 - t) i).0 h in (in_s, (has_not n t i small_t (has_below n s i small_s in_s)).0 in_rest),
  λ p. (has_and s (2 ^ n - 1 - t) i).1 (p.0, (has_not n t i small_t (has_below n s i small_s p.0)).1 p.1),
)

-- inclusion, as the code tests it
pub and_subset : (a b : ℕ) → Iff (bit_and a b ≡ a) (Subset a b)
and_subset a b = (
  λ e i h. ((has_and a b i).0 (rw e h)).1,
  λ sub. same_set (bit_and a b) a (λ i. (λ h. ((has_and a b i).0 h).0, λ h. (has_and a b i).1 (h, sub i h))),
)

-- a part of a set is no larger as a number, and smaller where it lacks a place
pub subset_le : (a b : ℕ) → Subset a b → a ≤ b
subset_le a b sub = omega (arith, and_le_r a b, (and_subset a b).1 sub)

pub subset_lt : (a b i : ℕ) → Subset a b → Has b i → (Has a i → ⊥) → a < b
subset_lt a b i sub in_b not_a =
    let ne : a ≡ b → ⊥ = λ e. not_a (subst (λ (x : ℕ). Has x i) (sym e) in_b) in
    omega (arith, subset_le a b sub)

-- a place of a set, as a part of its number
pub has_le : (s i : ℕ) → Has s i → 2 ^ i ≤ s
has_le s i h = subset_le (2 ^ i) s (λ k p. subst (λ (x : ℕ). Has s x) (sym ((has_single i k).0 p)) h)
