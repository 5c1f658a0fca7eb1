-- What a table in the making gives when it is finished.
use Rattle.std.proofs.Common.{◌≡◌, ℕ, zero, suc, ◌-◌, ◌^◌, ◌<◌, ◌≤◌, List, Option, None, Some, refl, inl, inr, arith}
use Rattle.std.specs.Prelude.{slice_index}
use Rattle.std.specs.Option.{IsSome}
use Rattle.std.proofs.lemmas.Option.{MatchOption-at_some}
use Rattle.std.proofs.Math.Decide.{ℕ_discrete}
use Rattle.base.specs.Bits.{Has}
use Rattle.base.specs.Words.{Iff}
use Rattle.labels.specs.Order.{LabelOrder, Label, Under, Least, Greatest, Same, Means}
use Rattle.labels.proofs.Orders.{same_sym, same_least, same_greatest, same_lawful}
use Rattle.tables.specs.Table.{TableSize, table, Lacking}
use Rattle.tables.specs.Rows.{matrix, Inside, PartialOrder, Flipped, Keeps, LabelOf, NoJoin, JoinTable, MeetTable, PrimeSet, SplitBits, SplitSet, Finished, Within, entry, under}
use Rattle.tables.specs.Laws.{table_lawful}
use Rattle.tables.proofs.Flips.{least_greatest, greatest_least, row_top, top_row}

-- the order that rows hold is that of the pairs that they keep
pub keeps_same : (n : ℕ) (rows : List ℕ) (pairs : List (ℕ × ℕ)) → Inside n rows → Keeps n rows pairs → Same (matrix n rows) (table n pairs)
keeps_same n rows pairs inside keeps = record {
  sizes = refl;
  orders = λ a b. (λ u. (keeps a b).0 u.order, λ u. under n rows inside a b ((keeps a b).1 u));
}

-- labels that have joins have a label above any number of them
above_all : (k : LabelOrder) (joins : List (List ℕ)) → PartialOrder k → JoinTable k joins → 0 < k.size
    → (i : ℕ) → i ≤ k.size → (t : ℕ) × Label k t × ((a : ℕ) → a < i → Under k a t)
above_all k joins ordered join some zero l = (0, some, λ a h. absurd (omega arith))
above_all k joins ordered join some (suc i) l =
    let (t, in_t, above) = above_all k joins ordered join some i (omega arith) in
    let x = join t i in_t (omega arith) in (
      entry joins t i,
      x.left.high,
      λ a h.
          elim (ℕ_discrete a i)
          [ yes e ↦ rw e x.right | no ne ↦ ordered.transitive a t (entry joins t i) (above a (omega arith)) x.left ],
    )

-- the joins of labels are labels
pub joins_within : (k : LabelOrder) (joins : List (List ℕ)) → JoinTable k joins → Within k.size joins
joins_within k joins join a b la lb = (join a b la lb).left.high

-- some two labels without a join, in the order or seen from above
module _ (n : ℕ) (rows : List ℕ) (pairs : List (ℕ × ℕ)) (same : Same (matrix n rows) (table n pairs)) where
  pub lacks_join : (a : ℕ) × (b : ℕ) × (a < n) × (b < n) × ((j : ℕ) → Least (matrix n rows) a b j → ⊥) → Lacking (table n pairs)
  lacks_join (a, b, la, lb, none) =
      (a, b, la, lb, inr (λ j x. none j (same_least (table n pairs) (matrix n rows) (same_sym (matrix n rows) (table n pairs) same) a b j x)))

  pub lacks_meet : (a : ℕ) × (b : ℕ) × (a < n) × (b < n) × ((m : ℕ) → Greatest (matrix n rows) a b m → ⊥) → Lacking (table n pairs)
  lacks_meet (a, b, la, lb, none) =
      (a, b, la, lb, inl (λ m x. none m (same_greatest (table n pairs) (matrix n rows) (same_sym (matrix n rows) (table n pairs) same) a b m x)))

module _ (n : ℕ) (rows : List ℕ) (meets joins : List (List ℕ)) (top primes : ℕ) (done : Finished (matrix n rows) meets joins top primes) where
  -- the table of the pairs that the rows keep lacks no meet and no join
  lacks_none : (pairs : List (ℕ × ℕ)) → Same (matrix n rows) (table n pairs) → Lacking (table n pairs) → ⊥
  lacks_none pairs same (a, b, la, lb, inl none) = none (entry meets a b) (same_greatest (matrix n rows) (table n pairs) same a b (entry meets a b) (done.meet a b la lb))
  lacks_none pairs same (a, b, la, lb, inr none) = none (entry joins a b) (same_least (matrix n rows) (table n pairs) same a b (entry joins a b) (done.join a b la lb))

  -- and means the order that the rows hold
  pub made : (pairs : List (ℕ × ℕ)) → TableSize n → Inside n rows → Keeps n rows pairs → (Lacking (table n pairs) → ⊥) × Means (matrix n rows) (table n pairs)
  made pairs size inside keeps =
      let same = keeps_same n rows pairs inside keeps in
      (lacks_none pairs same, record { same = same; lawful = same_lawful (matrix n rows) (table n pairs) same (table_lawful n rows meets joins top primes done size) })

-- with the joins of the order and those of the order seen from above
module _ (n : ℕ) (rows down : List ℕ) (inside : Inside n rows) (ordered : PartialOrder (matrix n rows)) (flip : Flipped rows down)
    (meets joins : List (List ℕ)) (meet : JoinTable (matrix n down) meets) (join : JoinTable (matrix n rows) joins) where
  -- those of the order seen from above are the meets
  pub flipped_meets : MeetTable (matrix n rows) meets
  flipped_meets a b la lb = least_greatest n rows down inside ordered flip a b _ (meet a b la lb)

  -- the bits of the order seen from above say which labels split every join
  pub split_primes : (primes : ℕ)
      → ((u : ℕ) → Iff (Has primes u) ((u < n) × ((a b : ℕ) → a < n → b < n → SplitBits down u a b (entry joins a b))))
      → PrimeSet (matrix n rows) joins primes
  split_primes primes bits u = (
    λ h. let (l, split) = (bits u).0 h in (
      l,
      λ a b la lb below apart.
          under n rows inside u b ((flip u b).0 (split a b la lb ((flip u (entry joins a b)).1 below.order) (λ g. apart (under n rows inside u a ((flip u a).0 g))))),
    ),
    λ p. (bits u).1 (
      p.0,
      λ a b la lb h apart.
          (flip u b).1 (p.1 a b la lb (under n rows inside u (entry joins a b) ((flip u (entry joins a b)).0 h)) (λ x. apart ((flip u a).1 x.order))).order,
    ),
  )

  -- all that a table has at hand, where a label whose row is full is found if there is one
  pub finished : (top primes : ℕ) → 0 < n
      → ((t : ℕ) → t < n → slice_index down t ≡ 2 ^ n - 1 → (top < n) × (slice_index down top ≡ 2 ^ n - 1))
      → ((u : ℕ) → Iff (Has primes u) ((u < n) × ((a b : ℕ) → a < n → b < n → SplitBits down u a b (entry joins a b))))
      → Finished (matrix n rows) meets joins top primes
  finished top primes some highest bits =
      let (t, in_t, above) = above_all (matrix n rows) joins ordered join some n (omega arith) in
      let (in_top, row) = highest t in_t (top_row n rows down inside ordered flip t above) in
      record {
        ordered = ordered;
        meet = flipped_meets;
        join = join;
        highest = (in_top, row_top n rows down inside ordered flip top row);
        prime = split_primes primes bits;
      }

-- the order seen from above, with its own number of labels
module _ (n : ℕ) (rows : List ℕ) (inside : Inside n rows) (ordered : PartialOrder (matrix n rows)) (m : ℕ) (down : List ℕ) (size : m ≡ n) (flip : Flipped rows down) where
  -- two labels without a join in it are without a meet
  pub no_meet : NoJoin (matrix m down) → (a : ℕ) × (b : ℕ) × (a < n) × (b < n) × ((g : ℕ) → Greatest (matrix n rows) a b g → ⊥)
  no_meet lacks =
      let (a, b, la, lb, none) = rw size at lacks in
      (a, b, la, lb, λ g x. none g (greatest_least n rows down inside ordered flip a b g x))

  -- where labels have joins, a label is at or below every label in it
  pub some_top : (joins : List (List ℕ)) → JoinTable (matrix n rows) joins → 0 < n → (o : Option ℕ) → LabelOf m down (2 ^ m - 1) o → IsSome o
  some_top joins join some None none =
      let (t, in_t, above) = above_all (matrix n rows) joins ordered join some n (omega arith) in
      absurd ((rw size at none) t in_t (top_row n rows down inside ordered flip t above))
  some_top joins join some (Some t) is = refl

  -- the joins of both orders, that label and the labels that split every join make a table
  pub finished_above : (meets joins : List (List ℕ)) → JoinTable (matrix m down) meets → JoinTable (matrix n rows) joins → 0 < n
      → (o : Option ℕ) → LabelOf m down (2 ^ m - 1) o → (top : ℕ) → o ≡ Some top
      → (primes : ℕ) → SplitSet m down joins primes
      → Finished (matrix n rows) meets joins top primes
  finished_above meets joins meet join some o lowest top is primes bits =
      finished n rows down inside ordered flip meets joins (rw size at meet) join top primes some
      (λ t in_t full. rw size at (MatchOption-at_some _ _ top is lowest)) (rw size at bits)
