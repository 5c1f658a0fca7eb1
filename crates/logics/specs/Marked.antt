-- The marked records of a list: the first of them, and the others.
use Rattle.std.specs.Prelude.{◌≡◌, ℕ, zero, suc, ◌-◌, ◌/◌, ◌%◌, ◌^◌, ◌<◌, ◌≤◌, ◌⊎◌, List, [], ◌∷◌, ◌++◌, length, slice_index_or, refl}
use Rattle.std.proofs.Common.{sym, ap, ◌∙◌, inl, inr, pow-suc, arith}
use Rattle.std.proofs.Math.Decide.{ℕ_discrete}
use Rattle.std.specs.Int.Count.{count_trailing_zeros}
use Rattle.std.proofs.lemmas.Bool.{eq-eqb, ne_eqb}
use Rattle.base.specs.Words.{Iff, In}
use Rattle.logics.specs.Entailment.{Each, marked}
use Rattle.logics.specs.declared.Record.{Record}

pub odd_marked : (m : ℕ) (x : Record) (xs : List Record) → m % 2 ≡ 1 → marked (x ∷ xs) m ≡ x ∷ marked xs (m / 2)
odd_marked m x xs odd = rw (eq-eqb (m % 2) 1 odd) refl

pub even_marked : (m : ℕ) (x : Record) (xs : List Record) → m % 2 ≡ 0 → marked (x ∷ xs) m ≡ marked xs (m / 2)
even_marked m x xs even = rw (ne_eqb (m % 2) 1 (λ odd. omega arith)) refl

pub none_marked : (rs : List Record) → marked rs 0 ≡ []
none_marked [] = refl
none_marked (x ∷ xs) = none_marked xs

-- the record at place i is the first that is marked
pub record First (rs : List Record) (m : ℕ) (d : Record) (i : ℕ) : Type 0 where
  pub within : i < length rs
  pub low : 2 ^ i ≤ m
  pub split : marked rs m ≡ slice_index_or rs i d ∷ marked rs (m - 2 ^ i)

first_here : (m : ℕ) (d x : Record) (xs : List Record) → m % 2 ≡ 1 → First (x ∷ xs) m d 0
first_here m d x xs odd =
    let half : m / 2 ≡ (m - 1) / 2 = omega arith in
    record {
      within = omega arith;
      low = omega arith;
      split = odd_marked m x xs odd ∙ ap (λ q. x ∷ marked xs q) half ∙ ap (λ ys. x ∷ ys) (sym (even_marked (m - 1) x xs (omega arith)));
    }

first_later : (m i : ℕ) (d x : Record) (xs : List Record) → m % 2 ≡ 0 → First xs (m / 2) d i → First (x ∷ xs) m d (suc i)
first_later m i d x xs even f =
    let twice = pow-suc 2 i in
    let low : 2 ^ suc i ≤ m = omega (arith, f.low) in
    let half : m / 2 - 2 ^ i ≡ (m - 2 ^ suc i) / 2 = omega arith in
    record {
      within = omega (arith, f.within);
      low = low;
      split = even_marked m x xs even ∙ f.split ∙ ap (λ q. slice_index_or xs i d ∷ marked xs q) half ∙ ap (λ ys. slice_index_or xs i d ∷ ys) (sym (even_marked (m - 2 ^ suc i) x xs (omega arith)));
    }

pub first_marked : (rs : List Record) (m k : ℕ) (d : Record) → 0 < m → m < 2 ^ length rs → length rs ≤ k → First rs m d (count_trailing_zeros k m)
unfolding count_trailing_zeros
first_marked [] m k d some small long = absurd (omega arith)
first_marked (x ∷ xs) m zero d some small long = absurd (omega arith)
first_marked (x ∷ xs) m (suc k) d some small long =
    let twice = pow-suc 2 (length xs) in
    elim (ℕ_discrete (m % 2) 1) [
      | yes odd ↦ rw odd (first_here m d x xs odd)
      | no ne ↦
          let even : m % 2 ≡ 0 = omega arith in
          rw even (first_later m (count_trailing_zeros k (m / 2)) d x xs even (first_marked xs (m / 2) k d (omega arith) (omega arith) (omega arith)))
    ]

-- what holds of some records holds with one more
pub each_more : {P : Record → Type 0} (xs : List Record) (y : Record) → Each P xs → P y → Each P (xs ++ y ∷ [])
each_more [] y old new x (inl e) = rw e new
each_more [] y old new x (inr i) = absurd i
each_more (z ∷ zs) y old new x (inl e) = old x (inl e)
each_more (z ∷ zs) y old new x (inr i) = each_more zs y (λ w j. old w (inr j)) new x i

-- a record between two others
pub in_between : (xs : List Record) (y : Record) (ys : List Record) → In y (xs ++ y ∷ ys)
in_between [] y ys = inl refl
in_between (x ∷ xs) y ys = inr (in_between xs y ys)

-- what is marked of a list that is not empty
pub in_cons : (m : ℕ) (x y : Record) (ys : List Record) → Iff (In x (marked (y ∷ ys) m)) (((m % 2 ≡ 1) × (x ≡ y)) ⊎ In x (marked ys (m / 2)))
in_cons m x y ys =
    elim (ℕ_discrete (m % 2) 1) [
      | yes odd ↦ rw (odd_marked m y ys odd) (λ i. elim i [ inl e ↦ inl (odd, e) | inr j ↦ inr j ], λ i. elim i [ inl p ↦ inl p.1 | inr j ↦ inr j ])
      | no ne ↦ rw (even_marked m y ys (omega arith)) (λ i. inr i, λ i. elim i [ inl p ↦ absurd (ne p.0) | inr j ↦ j ])
    ]
