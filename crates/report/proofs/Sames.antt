-- What is said of an order holds of another with the same labels, each at or below the same others.
use Rattle.std.proofs.Common.{ℕ, ◌<◌, Some, None, Option, sym, subst, inl, inr}
use Rattle.labels.specs.Order.{LabelOrder, Label, Under, JoinPrime, Same}
use Rattle.labels.proofs.Orders.{same_sym, same_least}
use Rattle.logics.specs.Entailment.{Entailment, Goal}
use Rattle.engine.specs.Book.{Book}
use Rattle.engine.specs.Sight.{MeetOf, IsBoundary, Visible, Sees}

module _ (k l : LabelOrder) (s : Same k l) where
  pub label_same : (a : ℕ) → Label k a → Label l a
  label_same a h = subst (λ (n : ℕ). a < n) s.sizes h

  to : (a b : ℕ) → Under k a b → Under l a b
  to a b = (s.orders a b).0

  from : (a b : ℕ) → Under l a b → Under k a b
  from a b = (s.orders a b).1

  meet_same : (b : Book) (x m : ℕ) → MeetOf k b x m → MeetOf l b x m
  meet_same b x m h =
      record {
        label = label_same m h.label;
        under = λ i p has page. to m p.label (h.under i p has page);
        greatest = λ c label below. to c m (h.greatest c (subst (λ (n : ℕ). c < n) (sym s.sizes) label) (λ i p has page. from c p.label (below i p has page)));
      }

  visible_same : (b : Book) (u x : ℕ) → Visible k b u x → Visible l b u x
  visible_same b u x h i =
      let (out, back) = h i in
      (λ has. let (p, page, stands, under) = out has in (p, page, stands, to u p.label under), λ (p, page, stands, under). back (p, page, stands, from u p.label under))

  pub sees_same : (r : Entailment) (b : Book) (u : ℕ) (g : Goal) → Sees k r b u g → Sees l r b u g
  sees_same r b u g (x, visible, yields) = (x, visible_same b u x visible, yields)

pub prime_same : (k l : LabelOrder) → Same k l → (u : ℕ) → JoinPrime k u → JoinPrime l u
prime_same k l s u h =
    record {
      known = label_same k l s u h.known;
      splits = λ a b j least under.
          elim (h.splits a b j (same_least l k (same_sym k l s) a b j least) (from k l s u j under)) [ inl v ↦ inl (to k l s u a v) | inr v ↦ inr (to k l s u b v) ];
    }

pub boundary_same : (k l : LabelOrder) → Same k l → (r : Entailment) (b : Book) (g : Goal) (v : Option ℕ) → IsBoundary k r b g v → IsBoundary l r b g v
boundary_same k l s r b g None h = h
boundary_same k l s r b g (Some v) h =
    record {
      supported = h.supported;
      label = label_same k l s v h.label;
      above = λ x m support meet. to k l s m v (h.above x m support (meet_same l k (same_sym k l s) b x m meet));
      least = λ w label all. to k l s v w (h.least w (label_same l k (same_sym k l s) w label) (λ x m support meet. from k l s m w (all x m support (meet_same k l s b x m meet))));
    }
