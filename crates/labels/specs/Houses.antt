-- The house's labels keep the laws of a label kind: the two tables, entry by entry, and which labels are join prime.
use Rattle.std.specs.Prelude.{◌≡◌, ℕ, ◌+◌, ◌*◌, ◌%◌, ◌<◌, ◌≤◌, min, max, map, Bool, T, ◌⊎◌, List, [], ◌∷◌, nat_eq, slice_index, slice_index_or, refl}
use Rattle.std.specs.List.{range_with_len}
use Rattle.std.proofs.Common.{inl, inr, arith, zero-add}
use Rattle.std.proofs.Math.Decide.{dec_le, dec_lt, ℕ_discrete}
use Rattle.std.proofs.lemmas.List.{get_or_past}
use Rattle.std.proofs.lemmas.List.FromFn.{get_or-map-range_with_len}
use Rattle.base.specs.Words.{In}
use Rattle.labels.specs.Order.{Lawful, JoinPrime, Greatest, Least, Under, Meets, Joins}
use Rattle.labels.specs.Squares.{square, table_by, square_is}
use Rattle.labels.specs.House.{house, sales, service, export}

-- the label whose parts are found from those of a and b, one by one
abbrev by_parts : (ℕ → ℕ → ℕ) → ℕ → ℕ → ℕ
by_parts f a b = 4 * f (sales a) (sales b) + 2 * f (service a) (service b) + f (export a) (export b)

min_greatest : (a b m : ℕ) → a < 12 → b < 12 → m ≡ by_parts min a b → Greatest house a b m
min_greatest a b m la lb e = omega arith

max_least : (a b m : ℕ) → a < 12 → b < 12 → m ≡ by_parts max a b → Least house a b m
max_least a b m la lb e = omega arith

-- the whole table of a rule
abbrev pub table_of : (ℕ → ℕ → ℕ) → List (List ℕ)
table_of f = table_by 12 (by_parts f)

module _ (f : ℕ → ℕ → ℕ) (a b : ℕ) where
  row_of : a < 12 → slice_index_or (table_of f) a [] ≡ map (by_parts f a) (range_with_len 0 12)
  row_of la = get_or-map-range_with_len (λ a. map (by_parts f a) (range_with_len 0 12)) 0 12 a a [] la (zero-add a)

  entry_of : a < 12 → b < 12 → slice_index (slice_index_or (table_of f) a []) b ≡ by_parts f a b
  entry_of la lb = rw (row_of la) (get_or-map-range_with_len (by_parts f a) 0 12 b b 0 lb (zero-add b))

  beyond_table : ((a < 12) × (b < 12) → ⊥) → ◌≡◌ {A = ℕ} (slice_index (slice_index_or (table_of f) a []) b) 0
  beyond_table out =
      elim (dec_lt a 12) [
        | yes la ↦ rw (row_of la) (get_or_past (map (by_parts f a) (range_with_len 0 12)) b 0 (elim (dec_lt b 12) [ yes lb ↦ absurd (out (la, lb)) | no ge ↦ omega arith ]))
        | no ge ↦ rw (get_or_past (table_of f) a [] (omega arith)) refl
      ]

-- a table that is computed to be that of its rule answers for each two numbers
pub meet_answer : (rows : List (List ℕ)) → rows ≡ table_of min → (a b : ℕ) → Meets house a b (slice_index (slice_index_or rows a []) b)
meet_answer rows e a b = rw e (λ la lb. min_greatest a b _ la lb (entry_of min a b la lb), beyond_table min a b)

pub join_answer : (rows : List (List ℕ)) → rows ≡ table_of max → (a b : ℕ) → Joins house a b (slice_index (slice_index_or rows a []) b)
join_answer rows e a b = rw e (λ la lb. max_least a b _ la lb (entry_of max a b la lb), beyond_table max a b)

-- the test of a whole table
abbrev pub is_table : (ℕ → ℕ → ℕ) → List (List ℕ) → Bool
is_table f = square 12 (λ a b x. nat_eq x (by_parts f a b))

-- a table that passes it answers for each two numbers
pub meet_tested : (rows : List (List ℕ)) → T (is_table min rows) → (a b : ℕ) → Meets house a b (slice_index (slice_index_or rows a []) b)
meet_tested rows t = meet_answer rows (square_is 12 (by_parts min) rows t)

pub join_tested : (rows : List (List ℕ)) → T (is_table max rows) → (a b : ℕ) → Joins house a b (slice_index (slice_index_or rows a []) b)
join_tested rows t = join_answer rows (square_is 12 (by_parts max) rows t)

-- and so for each two labels
pub meet_entry : (rows : List (List ℕ)) → T (is_table min rows) → (a b : ℕ) → a < 12 → b < 12 → Greatest house a b (slice_index (slice_index_or rows a []) b)
meet_entry rows t a b = (meet_tested rows t a b).0

pub join_entry : (rows : List (List ℕ)) → T (is_table max rows) → (a b : ℕ) → a < 12 → b < 12 → Least house a b (slice_index (slice_index_or rows a []) b)
join_entry rows t a b = (join_tested rows t a b).0

pub house_lawful : Lawful house
house_lawful = record {
  some = omega arith;
  small = omega arith;
  reflexive = λ a l. omega arith;
  antisymmetric = λ a b p q. omega arith;
  transitive = λ a b c p q. omega arith;
  meets = λ a b p q. (by_parts min a b, min_greatest a b (by_parts min a b) p q (omega arith));
  joins = λ a b p q. (by_parts max a b, max_least a b (by_parts max a b) p q (omega arith));
  top = (11, omega arith);
}

-- each part of a label under the join is under the larger of the two
max_parts : (u a b : ℕ) → Under house u (by_parts max a b)
    → (sales u ≤ max (sales a) (sales b)) × (service u ≤ max (service a) (service b)) × (export u ≤ max (export a) (export b))
max_parts u a b up = omega arith

under : (u a : ℕ) → u < 12 → a < 12 → sales u ≤ sales a → service u ≤ service a → export u ≤ export a → Under house u a
under u a lu la s v e = omega arith

-- a label of one part is under the one of two labels whose part is larger
pub part_prime : (u : ℕ) → u < 12 → (u % 4 ≡ 0) ⊎ (u ≤ 2) → JoinPrime house u
part_prime u l one = record { known = l; splits = splits }
  where
    splits : (a b j : ℕ) → Least house a b j → Under house u j → Under house u a ⊎ Under house u b
    splits a b j least below =
        let la : a < 12 = least.left.low in
        let lb : b < 12 = least.right.low in
        let both = max_least a b (by_parts max a b) la lb refl in
        let (s, v, e) =
        max_parts u a b (house_lawful.transitive u j (by_parts max a b) below (least.least (by_parts max a b) both.left both.right)) in
        let pick : (f : ℕ → ℕ) → (f u ≤ max (f a) (f b)) → (f u ≤ f a → Under house u a) → (f u ≤ f b → Under house u b) → Under house u a ⊎ Under house u b =
        λ f h left right. elim (dec_le (f u) (f a)) [ yes k ↦ inl (left k) | no k ↦ inr (right (omega arith)) ] in
        elim one [
          | inl four ↦ pick sales s (λ k. under u a l la k (omega arith) (omega arith)) (λ k. under u b l lb k (omega arith) (omega arith))
          | inr few ↦
              elim (dec_le u 1) [
                | yes tiny ↦ pick export e (λ k. under u a l la (omega arith) (omega arith) k) (λ k. under u b l lb (omega arith) (omega arith) k)
                | no two ↦ pick service v (λ k. under u a l la (omega arith) k (omega arith)) (λ k. under u b l lb (omega arith) k (omega arith))
              ]
        ]

-- a label is the join of its sales and its other parts
from_sales : (u : ℕ) → u ≡ by_parts max (4 * sales u) (u % 4)
from_sales u =
    let s : max (sales (4 * sales u)) (sales (u % 4)) ≡ sales u = omega arith in
    let v : max (service (4 * sales u)) (service (u % 4)) ≡ service u = omega arith in
    let e : max (export (4 * sales u)) (export (u % 4)) ≡ export u = omega arith in
    rw (s, v, e) (omega arith)

-- and where it has no sales, of its service and its export
from_service : (u : ℕ) → u < 4 → u ≡ by_parts max (2 * service u) (export u)
from_service u l =
    let s : max (sales (2 * service u)) (sales (export u)) ≡ 0 = omega arith in
    let v : max (service (2 * service u)) (service (export u)) ≡ service u = omega arith in
    let e : max (export (2 * service u)) (export (export u)) ≡ export u = omega arith in
    rw (s, v, e) (omega arith)

no_sales : (u : ℕ) → Under house u (u % 4) → u < 4
no_sales u under = omega arith

-- a join prime label is under its sales or under its other parts, and under its export or under its other parts
pub prime_part : (u : ℕ) → JoinPrime house u → (u % 4 ≡ 0) ⊎ (u ≤ 2)
prime_part u prime =
    let l : u < 12 = prime.known in
    let split : (a b : ℕ) → a < 12 → b < 12 → u ≡ by_parts max a b → Under house u a ⊎ Under house u b =
    λ a b la lb e. prime.splits a b u (max_least a b u la lb e) (house_lawful.reflexive u l) in
    elim (split (4 * sales u) (u % 4) (omega arith) (omega arith) (from_sales u)) [
      | inl s ↦ inl (omega arith)
      | inr s ↦
          elim (split (2 * service u) (export u) (omega arith) (omega arith) (from_service u (no_sales u s))) [
            | inl v ↦ inr (omega arith)
            | inr v ↦ inr (omega arith)
          ]
    ]

-- the labels of one part, or none
pub one_part : (u : ℕ) → (u < 12) × ((u % 4 ≡ 0) ⊎ (u ≤ 2)) → In u (0 ∷ 1 ∷ 2 ∷ 4 ∷ 8 ∷ [])
one_part u (l, one) =
    elim (ℕ_discrete u 0) [
      | yes e ↦ inl e
      | no n0 ↦ inr (elim (ℕ_discrete u 1) [
        | yes e ↦ inl e
        | no n1 ↦ inr (elim (ℕ_discrete u 2) [
          | yes e ↦ inl e
          | no n2 ↦ inr (elim (ℕ_discrete u 4)
              [ yes e ↦ inl e | no n4 ↦ inr (inl (elim one [ inl four ↦ omega arith | inr few ↦ absurd (omega arith) ])) ])
        ])
      ])
    ]

pub part_one : (u : ℕ) → In u (0 ∷ 1 ∷ 2 ∷ 4 ∷ 8 ∷ []) → (u < 12) × ((u % 4 ≡ 0) ⊎ (u ≤ 2))
part_one u (inl e) = (omega arith, inr (omega arith))
part_one u (inr (inl e)) = (omega arith, inr (omega arith))
part_one u (inr (inr (inl e))) = (omega arith, inr (omega arith))
part_one u (inr (inr (inr (inl e)))) = (omega arith, inl (omega arith))
part_one u (inr (inr (inr (inr (inl e))))) = (omega arith, inl (omega arith))
part_one u (inr (inr (inr (inr (inr i))))) = absurd i
