-- The place of a thing in an ascending list, and the list with the thing put in there.
use Rattle.std.proofs.Common.{◌≡◌, ℕ, ◌+◌, ◌-◌, ◌<◌, ◌≤◌, ◌⊎◌, List, ◌∷◌, ◌++◌, length, get_or, take, drop, set, sym, ap, ◌∙◌, subst, inl, inr, ⊎_elim, arith}
use Rattle.std.specs.List.{insert}
use native.Mathlib.Decide.{ℕ_discrete}
use lib.Seq.{paste}
use Rattle.std.proofs.lemmas.List.{get_or_read, get_or-take, get_or-drop, length-append, length-take, length-take-le, length-drop, append_assoc, take-append-drop, take_more, take_at, take-take, drop_at, drop-take, set_at}
use Rattle.base.specs.Words.{Iff, In}
use Rattle.ordered.specs.Lists.{Ascending, Ranking, Level, FirstOnes, LaterOnes, Gap, opened}
use Rattle.ordered.proofs.Lists.{in_append, in_get_or, in_insert, ascending_places, ascending_insert}

module _ {A : Type 0} {R : A → A → Type 0} (order : Ranking R) (xs : List A) (up : Ascending R xs) (x : A) where
  -- where the entry y at place i comes before x, so do those below it
  pub all_first : (i : ℕ) (y : A) → i < length xs → y ≡ get_or xs i y → R y x → FirstOnes R xs x (i + 1)
  all_first i y within read here k d h =
      let there : R (get_or xs i d) x = subst (λ (a : A). R a x) (get_or_read xs i y within read d) here in
      elim (ℕ_discrete k i) [
        | yes e ↦ subst (λ (n : ℕ). R (get_or xs n d) x) (sym e) there
        | no ne ↦ order.transitive _ _ _ (ascending_places order xs up k i d (omega arith) within) there
      ]

  -- where x comes before the entry y at place i, it comes before those above it
  pub all_later : (i : ℕ) (y : A) → i < length xs → y ≡ get_or xs i y → R x y → LaterOnes R xs x i
  all_later i y room read here k d h within =
      let there : R x (get_or xs i d) = subst (R x) (get_or_read xs i y room read d) here in
      elim (ℕ_discrete k i) [
        | yes e ↦ subst (λ (n : ℕ). R x (get_or xs n d)) (sym e) there
        | no ne ↦ order.transitive _ _ _ there (ascending_places order xs up i k d (omega arith) within)
      ]

  -- no other entry is level with x: those below one that is come before x, and x before those above it
  pub level_first : (i : ℕ) → i < length xs → ((d : A) → Level R (get_or xs i d) x) → FirstOnes R xs x i
  level_first i within level k d h =
      ⊎_elim (λ g. g) (λ g. absurd ((level d).1 g)) (order.splits _ _ x (ascending_places order xs up k i d h within))

  pub level_later : (i : ℕ) → ((d : A) → Level R (get_or xs i d) x) → LaterOnes R xs x (i + 1)
  level_later i level k d h within =
      ⊎_elim (λ g. absurd ((level d).0 g)) (λ g. g) (order.splits _ _ x (ascending_places order xs up i k d (omega arith) within))

module _ {A : Type 0} (R : A → A → Type 0) (xs : List A) (x : A) (p : ℕ) (within : p ≤ length xs) (gap : Gap R xs x p) where
  -- the entries below a gap, and those from it on
  pub gap_below : (y : A) → In y (take p xs) → R y x
  gap_below y h =
      let (k, lt, is) = in_get_or y (take p xs) h in
      let small : k < p = omega (arith, length-take p xs) in
      subst (λ (a : A). R a x) (sym (get_or-take p xs k y small) ∙ is) (gap.0 k y small)

  pub gap_above : (y : A) → In y (drop p xs) → R x y
  gap_above y h =
      let (k, lt, is) = in_get_or y (drop p xs) h in
      subst (R x) (sym (get_or-drop p xs k y) ∙ is) (gap.1 (p + k) y (omega arith) (omega (arith, length-drop p xs)))

  -- no entry is level with x
  pub gap_apart : (y : A) → In y xs → R y x ⊎ R x y
  gap_apart y h =
      let split : In y (take p xs ++ drop p xs) = rw take-append-drop h in
      ⊎_elim (λ g. inl (gap_below y g)) (λ g. inr (gap_above y g)) ((in_append y (take p xs) (drop p xs)).0 split)

-- so x itself is no entry
pub gap_fresh : {A : Type 0} {R : A → A → Type 0} → Ranking R → (xs : List A) (x : A) (p : ℕ) → p ≤ length xs → Gap R xs x p → In x xs → ⊥
gap_fresh {A} {R} order xs x p within gap h = ⊎_elim (order.irreflexive x) (order.irreflexive x) (gap_apart R xs x p within gap x h)

-- the members of a list with x put in are those that were, and x
pub in_inserted : {A : Type 0} (xs : List A) (p : ℕ) (x y : A) → Iff (In y (insert xs p x)) ((y ≡ x) ⊎ In y xs)
in_inserted xs p x y = rw take-append-drop at (in_insert y x (take p xs) (drop p xs))

-- a list with x put into its gap ascends
pub ascending_gap : {A : Type 0} {R : A → A → Type 0} → Ranking R → (xs : List A) (x : A) (p : ℕ) → p ≤ length xs → Gap R xs x p
    → Ascending R xs → Ascending R (insert xs p x)
ascending_gap {A} {R} order xs x p within gap up =
    ascending_insert order x (take p xs) (drop p xs) (rw take-append-drop up) (gap_below R xs x p within gap) (gap_above R xs x p within gap)

module _ {A : Type 0} (xs : List A) (count place : ℕ) (x : A) (room : count < length xs) (used : place ≤ count) where
  -- the entries from `place` on copied up by one, and x written there
  pub opened_is : set (paste xs (place + 1) (drop place xs) (count - place)) place x ≡ opened xs count place x
  opened_is =
      let later = drop place (take count xs) in
      let rest = drop (count + 1) xs in
      let end : place + 1 + (count - place) ≡ count + 1 = omega arith in
      let whole : place + (count - place) ≡ count = omega arith in
      let middle : take (count - place) (drop place xs) ≡ later = sym (drop-take place (count - place) xs) ∙ ap (λ (n : ℕ). drop place (take n xs)) whole in
      let more = take_more xs place x (omega arith) in
      let pasted : paste xs (place + 1) (drop place xs) (count - place) ≡ take place xs ++ (get_or xs place x ∷ (later ++ rest)) = rw (middle, end, more) (simp append_assoc) in
      rw (pasted, take-take place count xs used, append_assoc) (set_at (take place xs) _ (later ++ rest) x place (length-take-le place xs (omega arith)))

  long : length (insert (take count xs) place x) ≡ count + 1
  long = simp (length-append, length-drop, length-take) (omega arith)

  -- in use are then the entries that were, and x in its place
  pub take_opened : take (count + 1) (opened xs count place x) ≡ insert (take count xs) place x
  take_opened = take_at (insert (take count xs) place x) (drop (count + 1) xs) (count + 1) long

  -- what stands behind them is as it was
  pub drop_opened : drop (count + 1) (opened xs count place x) ≡ drop (count + 1) xs
  drop_opened = drop_at (insert (take count xs) place x) (drop (count + 1) xs) (count + 1) long

  pub length_opened : length (opened xs count place x) ≡ length xs
  length_opened = simp (length-append, length-drop, length-take) (omega arith)

  -- the members are those that were, and x
  pub in_opened : (y : A) → Iff (In y (take (count + 1) (opened xs count place x))) ((y ≡ x) ⊎ In y (take count xs))
  in_opened y = rw take_opened (in_inserted (take count xs) place x y)

  pub ascending_opened : {R : A → A → Type 0} → Ranking R → Ascending R (take count xs) → Gap R (take count xs) x place
      → Ascending R (take (count + 1) (opened xs count place x))
  ascending_opened order up gap =
      rw take_opened (ascending_gap order (take count xs) x place (simp length-take (omega arith)) gap up)
