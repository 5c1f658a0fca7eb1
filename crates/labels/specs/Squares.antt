-- The rule of a table, shown at all of its entries by one test that the checker computes.
use Rattle.std.specs.Prelude.{◌≡◌, ℕ, ◌+◌, Bool, true, false, ◌&&◌, T, List, [], ◌∷◌, length, map, nat_eq, refl}
use Rattle.std.specs.List.{range_with_len}
use Rattle.std.proofs.Common.{zero, suc, ◌<◌, length, get_or, subst, add-zero, zero-add, arith, ap₂, eqb→eq}

-- a test of two parts passes where both pass
both : (a b : Bool) → T (a && b) → T a × T b
both true b t = (tt, t)
both false b t = absurd t

module _ {A : Type 0} where
  -- the test passes at each entry of the list and its place, counted from i
  abbrev pub every : (ℕ → A → Bool) → ℕ → List A → Bool
  every f i [] = true
  every f i (x ∷ xs) = f i x && every f (i + 1) xs

  from : (f : ℕ → A → Bool) (xs : List A) (i : ℕ) → T (every f i xs) → (d : A) (k : ℕ) → k < length xs → T (f (i + k) (get_or xs k d))
  from f [] i t d k h = absurd (omega arith)
  from f (x ∷ xs) i t d zero h = rw add-zero ((both (f i x) (every f (i + 1) xs) t).0)
  from f (x ∷ xs) i t d (suc k) h =
      let next : i + 1 + k ≡ i + suc k = omega arith in
      subst (λ (n : ℕ). T (f n (get_or xs k d))) next (from f xs (i + 1) ((both (f i x) (every f (i + 1) xs) t).1) d k (omega arith))

  -- where every entry passes the test, each does
  pub at : (f : ℕ → A → Bool) (xs : List A) → T (every f 0 xs) → (d : A) (k : ℕ) → k < length xs → T (f k (get_or xs k d))
  at f xs t d k h = rw zero-add at (from f xs 0 t d k h)

  -- the list is that of the rule that the test decides
  every_is : (test : ℕ → A → Bool) (rule : ℕ → A) → ((k : ℕ) (x : A) → T (test k x) → x ≡ rule k) → (i : ℕ) (xs : List A)
      → T (every test i xs) → xs ≡ map rule (range_with_len i (length xs))
  every_is test rule decides i [] t = refl
  every_is test rule decides i (x ∷ xs) t =
      let (here, rest) = both (test i x) (every test (i + 1) xs) t in
      ap₂ (λ y ys. y ∷ ys) (decides i x here) (every_is test rule decides (i + 1) xs rest)

-- n rows of n numbers, where the test passes at each number, its row and its place
abbrev pub square : ℕ → (ℕ → ℕ → ℕ → Bool) → List (List ℕ) → Bool
square n f rows = nat_eq (length rows) n && every (λ a row. nat_eq (length row) n && every (f a) 0 row) 0 rows

pub at_entry : (n : ℕ) (f : ℕ → ℕ → ℕ → Bool) (rows : List (List ℕ)) → T (square n f rows) → (a b : ℕ) → a < n → b < n
    → T (f a b (get_or (get_or rows a []) b 0))
at_entry n f rows t a b la lb =
    let (tall, each) = both (nat_eq (length rows) n) _ t in
    let long = eqb→eq (length rows) n tall in
    let good : T (nat_eq (length (get_or rows a [])) n && every (f a) 0 (get_or rows a [])) =
    at (λ a row. nat_eq (length row) n && every (f a) 0 row) rows each [] a (omega arith) in
    let (wide, fine) = both (nat_eq (length (get_or rows a [])) n) _ good in
    let broad = eqb→eq (length (get_or rows a [])) n wide in
    at (f a) (get_or rows a []) fine 0 b (omega arith)

-- the whole table of a rule: row a, place b
abbrev pub table_by : ℕ → (ℕ → ℕ → ℕ) → List (List ℕ)
table_by n f = map (λ a. map (f a) (range_with_len 0 n)) (range_with_len 0 n)

-- a square that passes the test of a rule is the table of that rule
pub square_is : (n : ℕ) (f : ℕ → ℕ → ℕ) (rows : List (List ℕ)) → T (square n (λ a b x. nat_eq x (f a b)) rows) → rows ≡ table_by n f
square_is n f rows t =
    let (tall, good) = both (nat_eq (length rows) n) _ t in
    let row : (a : ℕ) (row : List ℕ) → T (nat_eq (length row) n && every (λ b x. nat_eq x (f a b)) 0 row) → row ≡ map (f a) (range_with_len 0 n) =
    λ a row t'.
    let (wide, each) = both (nat_eq (length row) n) _ t' in
    rw (eqb→eq _ _ wide) at (every_is (λ b x. nat_eq x (f a b)) (f a) (λ b x e. eqb→eq _ _ e) 0 row each) in
    rw (eqb→eq _ _ tall) at (every_is (λ a row. nat_eq (length row) n && every (λ b x. nat_eq x (f a b)) 0 row) (λ a. map (f a) (range_with_len 0 n)) row 0 rows good)
