-- Orders that are the same have the same meets and joins.
use Rattle.std.proofs.Common.{ℕ, ◌<◌, sym, refl, subst}
use Rattle.labels.specs.Order.{LabelOrder, Label, Same, Lawful, Means, Least, Greatest}

module _ (k l : LabelOrder) (same : Same k l) where
  pub same_sym : Same l k
  same_sym = record { sizes = sym same.sizes; orders = λ a b. ((same.orders a b).1, (same.orders a b).0) }

  pub same_least : (a b j : ℕ) → Least k a b j → Least l a b j
  same_least a b j x = record {
    left = (same.orders a j).0 x.left;
    right = (same.orders b j).0 x.right;
    least = λ c p q. (same.orders j c).0 (x.least c ((same.orders a c).1 p) ((same.orders b c).1 q));
  }

  pub same_greatest : (a b m : ℕ) → Greatest k a b m → Greatest l a b m
  same_greatest a b m x = record {
    left = (same.orders m a).0 x.left;
    right = (same.orders m b).0 x.right;
    greatest = λ c p q. (same.orders c m).0 (x.greatest c ((same.orders c a).1 p) ((same.orders c b).1 q));
  }

  label : (a : ℕ) → Label l a → Label k a
  label a h = subst (λ (n : ℕ). a < n) (sym same.sizes) h

  pub same_lawful : Lawful k → Lawful l
  same_lawful laws = record {
    some = rw same.sizes at laws.some;
    small = rw same.sizes at laws.small;
    reflexive = λ a h. (same.orders a a).0 (laws.reflexive a (label a h));
    antisymmetric = λ a b p q. laws.antisymmetric a b ((same.orders a b).1 p) ((same.orders b a).1 q);
    transitive = λ a b c p q. (same.orders a c).0 (laws.transitive a b c ((same.orders a b).1 p) ((same.orders b c).1 q));
    meets = λ a b p q. let (m, x) = laws.meets a b (label a p) (label b q) in (m, same_greatest a b m x);
    joins = λ a b p q. let (j, x) = laws.joins a b (label a p) (label b q) in (j, same_least a b j x);
    top = let (t, x) = laws.top in (t, λ a h. (same.orders a t).0 (x a (label a h)));
  }

pub same_refl : (k : LabelOrder) → Same k k
same_refl k = record { sizes = refl; orders = λ a b. (λ x. x, λ x. x) }

pub means_itself : (k : LabelOrder) → Lawful k → Means k k
means_itself k laws = record { same = same_refl k; lawful = laws }
