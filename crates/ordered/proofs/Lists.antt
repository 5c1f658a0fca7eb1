-- What stands in a list, and lists in which each comes before the next.
use Rattle.std.proofs.Common.{◌≡◌, ℕ, zero, suc, ◌<◌, ◌≤◌, ◌⊎◌, List, [], ◌∷◌, ◌++◌, length, get_or, take, drop, sym, refl, subst, ap₂, inl, inr, ⊎_elim, arith, take-append-drop}
use native.Mathlib.Decide.{dec_lt}
use Rattle.base.specs.Words.{Iff, In}
use Rattle.ordered.specs.Lists.{Ascending, Ranking}

module _ {A : Type 0} where
  pub in_append : (y : A) (xs ys : List A) → Iff (In y (xs ++ ys)) (In y xs ⊎ In y ys)
  in_append y [] ys = (inr, ⊎_elim absurd (λ h. h))
  in_append y (x ∷ xs) ys =
      let rest = in_append y xs ys in (
        ⊎_elim (λ e. inl (inl e)) (λ h. ⊎_elim (λ g. inl (inr g)) inr (rest.0 h)),
        ⊎_elim (⊎_elim inl (λ h. inr (rest.1 (inl h)))) (λ h. inr (rest.1 (inr h))),
      )

  pub in_insert : (y v : A) (xs ys : List A) → Iff (In y (xs ++ (v ∷ ys))) ((y ≡ v) ⊎ In y (xs ++ ys))
  in_insert y v [] ys = (λ h. h, λ h. h)
  in_insert y v (x ∷ xs) ys =
      let rest = in_insert y v xs ys in (
        ⊎_elim (λ e. inr (inl e)) (λ h. ⊎_elim inl (λ g. inr (inr g)) (rest.0 h)),
        ⊎_elim (λ e. inr (rest.1 (inl e))) (⊎_elim inl (λ h. inr (rest.1 (inr h)))),
      )

  -- what is in a list stands at a place of it
  pub in_get_or : (y : A) (xs : List A) → In y xs → (k : ℕ) × (k < length xs) × (get_or xs k y ≡ y)
  in_get_or y [] h = absurd h
  in_get_or y (x ∷ xs) (inl e) = (0, omega arith, sym e)
  in_get_or y (x ∷ xs) (inr h) = let (k, within, is) = in_get_or y xs h in (suc k, omega arith, is)

  -- and what stands at a place of it is in the list
  pub get_or_in : (xs : List A) (k : ℕ) (d : A) → k < length xs → In (get_or xs k d) xs
  get_or_in [] k d h = absurd (omega arith)
  get_or_in (x ∷ xs) zero d h = inl refl
  get_or_in (x ∷ xs) (suc k) d h = inr (get_or_in xs k d (omega arith))

module _ {A : Type 0} (R : A → A → Type 0) where
  pub ascending_tail : (x : A) (xs : List A) → Ascending R (x ∷ xs) → Ascending R xs
  ascending_tail x [] up = tt
  ascending_tail x (y ∷ ys) up = up.1

  pub ascending_cons : (x : A) (xs : List A) → ((y : A) → In y xs → R x y) → Ascending R xs → Ascending R (x ∷ xs)
  ascending_cons x [] first up = tt
  ascending_cons x (y ∷ ys) first up = (first y (inl refl), up)

  front : (x : A) (xs ys : List A) → Ascending R (x ∷ (xs ++ ys)) → Ascending R (x ∷ xs)
  front x [] ys up = tt
  front x (y ∷ xs) ys up = (up.0, front y xs ys up.1)

  -- a part at either end of an ascending list ascends
  pub ascending_front : (xs ys : List A) → Ascending R (xs ++ ys) → Ascending R xs
  ascending_front [] ys up = tt
  ascending_front (x ∷ xs) ys up = front x xs ys up

  pub ascending_back : (xs ys : List A) → Ascending R (xs ++ ys) → Ascending R ys
  ascending_back [] ys up = up
  ascending_back (x ∷ xs) ys up = ascending_back xs ys (ascending_tail x (xs ++ ys) up)

  pub ascending_take : (n : ℕ) (xs : List A) → Ascending R xs → Ascending R (take n xs)
  ascending_take n xs up = ascending_front (take n xs) (drop n xs) (rw take-append-drop up)

  pub ascending_drop : (n : ℕ) (xs : List A) → Ascending R xs → Ascending R (drop n xs)
  ascending_drop n xs up = ascending_back (take n xs) (drop n xs) (rw take-append-drop up)

module _ {A : Type 0} {R : A → A → Type 0} (order : Ranking R) where
  -- the first comes before every other, so it comes once
  pub ascending_all : (x : A) (xs : List A) → Ascending R (x ∷ xs) → (y : A) → In y xs → R x y
  ascending_all x [] up y h = absurd h
  ascending_all x (z ∷ zs) up y (inl e) = subst (R x) (sym e) up.0
  ascending_all x (z ∷ zs) up y (inr h) = order.transitive x z y up.0 (ascending_all z zs up.1 y h)

  -- an earlier entry comes before a later one
  pub ascending_places : (xs : List A) → Ascending R xs → (i j : ℕ) (d : A) → i < j → j < length xs → R (get_or xs i d) (get_or xs j d)
  ascending_places [] up i j d lt within = absurd (omega arith)
  ascending_places (x ∷ xs) up i zero d lt within = absurd (omega arith)
  ascending_places (x ∷ xs) up zero (suc j) d lt within = ascending_all x xs up (get_or xs j d) (get_or_in xs j d (omega arith))
  ascending_places (x ∷ xs) up (suc i) (suc j) d lt within = ascending_places xs (ascending_tail R x xs up) i j d (omega arith) (omega arith)

  -- v goes between what comes before it and what comes after it
  pub ascending_insert : (v : A) (xs ys : List A) → Ascending R (xs ++ ys) → ((x : A) → In x xs → R x v)
      → ((y : A) → In y ys → R v y) → Ascending R (xs ++ (v ∷ ys))
  ascending_insert v [] ys up below above = ascending_cons R v ys above up
  ascending_insert v (x ∷ xs) ys up below above =
      ascending_cons R x (xs ++ (v ∷ ys))
      (λ y h. ⊎_elim (λ e. subst (R x) (sym e) (below x (inl refl))) (ascending_all x (xs ++ ys) up y) ((in_insert y v xs ys).0 h))
      (ascending_insert v xs ys (ascending_tail R x (xs ++ ys) up) (λ y h. below y (inr h)) above)

  -- of two lists with the same members, the members of one tail are in the other
  same_tail : (x : A) (xs ys : List A) → Ascending R (x ∷ xs) → ((z : A) → In z (x ∷ xs) → In z (x ∷ ys)) → (z : A) → In z xs → In z ys
  same_tail x xs ys up same z h =
      ⊎_elim (λ e. absurd (order.irreflexive x (subst (R x) e (ascending_all x xs up z h)))) (λ g. g) (same z (inr h))

  same_head : (x y : A) (xs ys : List A) → Ascending R (x ∷ xs) → Ascending R (y ∷ ys) → In x (y ∷ ys) → In y (x ∷ xs) → x ≡ y
  same_head x y xs ys up up' (inl e) h = e
  same_head x y xs ys up up' (inr g) (inl e) = sym e
  same_head x y xs ys up up' (inr g) (inr h) =
      absurd (order.irreflexive x (order.transitive x y x (ascending_all x xs up y h) (ascending_all y ys up' x g)))

  -- ascending lists with the same members are one
  pub ascending_unique : (xs ys : List A) → Ascending R xs → Ascending R ys → ((z : A) → Iff (In z xs) (In z ys)) → xs ≡ ys
  ascending_unique [] [] up up' same = refl
  ascending_unique [] (y ∷ ys) up up' same = absurd ((same y).1 (inl refl))
  ascending_unique (x ∷ xs) [] up up' same = absurd ((same x).0 (inl refl))
  ascending_unique (x ∷ xs) (y ∷ ys) up up' same =
      let first : x ≡ y = same_head x y xs ys up up' ((same x).0 (inl refl)) ((same y).1 (inl refl)) in
      let P : A → Type 0 = λ a. (z : A) → In z (x ∷ xs) → In z (a ∷ ys) in
      let Q : A → Type 0 = λ a. (z : A) → In z (y ∷ ys) → In z (a ∷ xs) in
      let into = same_tail x xs ys up (subst P (sym first) (λ z. (same z).0)) in
      let back = same_tail y ys xs up' (subst Q first (λ z. (same z).1)) in
      ap₂ ◌∷◌ first (ascending_unique xs ys (ascending_tail R x xs up) (ascending_tail R y ys up') (λ z. (into z, back z)))

  -- an ascending list of members of another is no longer than that
  pub ascending_fewer : (xs ys : List A) → Ascending R xs → Ascending R ys → ((z : A) → In z xs → In z ys) → length xs ≤ length ys
  ascending_fewer [] ys up up' within = omega arith
  ascending_fewer (x ∷ xs) [] up up' within = absurd (within x (inl refl))
  ascending_fewer (x ∷ xs) (y ∷ ys) up up' within =
      let rest = ascending_fewer xs ys (ascending_tail R x xs up) (ascending_tail R y ys up') in
      let whole = ascending_fewer (x ∷ xs) ys up (ascending_tail R y ys up') in
      ⊎_elim
      (λ same. omega (arith, rest (λ z h. ⊎_elim (λ e. absurd (order.irreflexive y (subst (λ a. R a y) same (subst (R x) e (ascending_all x xs up z h))))) (λ j. j) (within z (inr h)))))
      (λ later.
      let first : R y x = ascending_all y ys up' x later in
      omega (
        arith,
        whole
            (λ z h.
            ⊎_elim (λ e. subst (λ a. In a ys) (sym e) later)
            (λ j. ⊎_elim (λ e. absurd (order.irreflexive y (order.transitive y x y first (subst (R x) e (ascending_all x xs up z j))))) (λ q. q) (within z (inr j)))
            h),
      ))
      (within x (inl refl))

-- numbers are ranked by their size
pub ranking_numbers : Ranking ◌<◌
ranking_numbers = record {
  irreflexive = λ a h. omega arith;
  transitive = λ a b c h g. omega arith;
  splits = λ a b c h. elim (dec_lt a c) [ yes lt ↦ inl lt | no ge ↦ inr (omega arith) ];
}
