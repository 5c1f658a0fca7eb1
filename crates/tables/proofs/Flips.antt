-- An order seen from above: its joins are the meets of the order.
use Rattle.std.specs.Prelude.{◌≡◌, ℕ, ◌-◌, ◌^◌, List, slice_index}
use Rattle.base.proofs.Sets.{same_set, has_ones}
use Rattle.labels.specs.Order.{Under, Least, Greatest, Top}
use Rattle.tables.specs.Rows.{matrix, Inside, PartialOrder, Flipped, under}

module _ (n : ℕ) (rows down : List ℕ) (inside : Inside n rows) (ordered : PartialOrder (matrix n rows)) (flip : Flipped rows down) where
  pub down_inside : Inside n down
  down_inside b a h = let i = inside a b ((flip a b).0 h) in (i.1, i.0)

  up : (a b : ℕ) → Under (matrix n down) b a → Under (matrix n rows) a b
  up a b u = under n rows inside a b ((flip a b).0 u.order)

  back : (a b : ℕ) → Under (matrix n rows) a b → Under (matrix n down) b a
  back a b u = under n down down_inside b a ((flip a b).1 u.order)

  pub down_ordered : PartialOrder (matrix n down)
  down_ordered = record {
    reflexive = λ a l. back a a (ordered.reflexive a l);
    antisymmetric = λ a b p q. ordered.antisymmetric a b (up a b q) (up b a p);
    transitive = λ a b c p q. back c a (ordered.transitive c b a (up c b q) (up b a p));
  }

  pub least_greatest : (a b m : ℕ) → Least (matrix n down) a b m → Greatest (matrix n rows) a b m
  least_greatest a b m x = record {
    left = up m a x.left;
    right = up m b x.right;
    greatest = λ c p q. up c m (x.least c (back c a p) (back c b q));
  }

  pub greatest_least : (a b m : ℕ) → Greatest (matrix n rows) a b m → Least (matrix n down) a b m
  greatest_least a b m x = record {
    left = back m a x.left;
    right = back m b x.right;
    least = λ c p q. back c m (x.greatest c (up c a p) (up c b q));
  }

  -- the row of the top holds every label
  pub row_top : (t : ℕ) → slice_index down t ≡ 2 ^ n - 1 → Top (matrix n rows) t
  row_top t e a l = under n rows inside a t ((flip a t).0 (rw e ((has_ones n a).1 l)))

  pub top_row : (t : ℕ) → Top (matrix n rows) t → slice_index down t ≡ 2 ^ n - 1
  top_row t top =
      same_set (slice_index down t) (2 ^ n - 1)
      (λ a. (λ h. (has_ones n a).1 (down_inside t a h).1, λ h. (flip a t).1 (top a ((has_ones n a).0 h)).order))
