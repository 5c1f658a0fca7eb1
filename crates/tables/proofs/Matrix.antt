-- Rows of bits: what a write to a row changes, and the orders that rows hold.
use Rattle.std.specs.Prelude.{replicate, slice_index, slice_set}
use Rattle.std.proofs.Common.{◌≡◌, ◌≢◌, ℕ, zero, suc, ◌<◌, List, [], length, refl, sym, ap, subst, ◌∙◌, inl, inr, arith, get_or-set_same, get_or-set_other}
use Rattle.std.proofs.Math.Decide.{ℕ_discrete}
use Rattle.base.specs.Bits.{Has}
use Rattle.base.specs.Words.{Iff}
use Rattle.base.proofs.Sets.{has_zero}
use Rattle.labels.specs.Order.{Under}
use Rattle.tables.specs.Rows.{Marked, matrix, Inside, PartialOrder, Keeps, Linked, under}
use Rattle.tables.specs.Table.{Reach, here, step, table, more, Looped}
use Rattle.tables.proofs.Chains.{reach_none, reach_more, by_last, last_by, in_last}

-- rows of zeros
pub zeros_at : (n i : ℕ) → ◌≡◌ {A = ℕ} (slice_index (replicate n 0) i) 0
zeros_at zero i = refl
zeros_at (suc n) zero = refl
zeros_at (suc n) (suc i) = zeros_at n i

pub zeros_unmarked : (n a b : ℕ) → Marked (replicate n 0) a b → ⊥
zeros_unmarked n a b h = has_zero b (rw (zeros_at n a) at h)

-- a row that is written, and the others
pub marked_here : (rows : List ℕ) (i v b : ℕ) → i < length rows → Marked (slice_set rows i v) i b ≡ Has v b
marked_here rows i v b h = ap (λ s. Has s b) (get_or-set_same rows i v 0 h)

pub marked_other : (rows : List ℕ) (i v a b : ℕ) → (a ≢ i) → Marked (slice_set rows i v) a b ≡ Marked rows a b
marked_other rows i v a b h = ap (λ s. Has s b) (get_or-set_other rows i a v 0 h)

-- a rule of all rows, once row i has been written by it
pub row_more : (P : ℕ → ℕ → Type 0) (rows : List ℕ) (i v : ℕ) → i < length rows
    → ((a b : ℕ) → (a ≢ i) → Iff (Marked rows a b) (P a b)) → ((b : ℕ) → Iff (Has v b) (P i b))
    → (a b : ℕ) → Iff (Marked (slice_set rows i v) a b) (P a b)
row_more P rows i v h others written a b =
    elim (ℕ_discrete a i) [
      | yes e ↦ subst (λ (x : ℕ). Iff (Marked (slice_set rows i v) x b) (P x b)) (sym e) (rw (marked_here rows i v b h) (written b))
      | no ne ↦ rw (marked_other rows i v a b ne) (others a b ne)
    ]

-- each label at or below itself alone
module _ (n : ℕ) (rows : List ℕ) (apart : (a b : ℕ) → Iff (Marked rows a b) ((a < n) × (b ≡ a))) where
  pub apart_inside : Inside n rows
  apart_inside a b h = let p = (apart a b).0 h in omega arith

  pub apart_ordered : PartialOrder (matrix n rows)
  apart_ordered = record {
    reflexive = λ a l. under n rows apart_inside a a ((apart a a).1 (l, refl));
    antisymmetric = λ a b p q. sym ((apart a b).0 p.order).1;
    transitive = λ a b c p q. under n rows apart_inside a c ((apart a c).1 (p.low, ((apart b c).0 q.order).1 ∙ ((apart a b).0 p.order).1));
  }

  pub apart_keeps : Keeps n rows []
  apart_keeps a b = (
    λ h. let p = (apart a b).0 h in record { low = p.0; high = omega arith; order = subst (λ (x : ℕ). Reach [] a x) (sym p.1) here },
    λ u. (apart a b).1 (u.low, sym (reach_none u.order)),
  )

-- rows in which low has been put below high
module _ (n : ℕ) (old new : List ℕ) (low high : ℕ) (inside : Inside n old) (ordered : PartialOrder (matrix n old)) (linked : Linked old new low high) where
  pub linked_inside : Inside n new
  linked_inside a b h =
      elim ((linked a b).0 h) [ inl o ↦ inside a b o | inr (p, q) ↦ ((inside a low p).0, (inside high b q).1) ]

  keep : (a b : ℕ) → Marked old a b → Under (matrix n new) a b
  keep a b h = under n new linked_inside a b ((linked a b).1 (inl h))

  along : (a b : ℕ) → Marked old a low → Marked old high b → Under (matrix n new) a b
  along a b p q = under n new linked_inside a b ((linked a b).1 (inr (p, q)))

  join : (a b c : ℕ) → Marked old a b → Marked old b c → Marked old a c
  join a b c p q = (ordered.transitive a b c (under n old inside a b p) (under n old inside b c q)).order

  pub linked_transitive : (a b c : ℕ) → Under (matrix n new) a b → Under (matrix n new) b c → Under (matrix n new) a c
  linked_transitive a b c p q =
      elim ((linked a b).0 p.order) [
        | inl o ↦ elim ((linked b c).0 q.order) [ inl o' ↦ keep a c (join a b c o o') | inr (s, t) ↦ along a c (join a b low o s) t ]
        | inr (s, t) ↦ elim ((linked b c).0 q.order) [ inl o' ↦ along a c s (join high b c t o') | inr (s', t') ↦ along a c s t' ]
      ]

  -- no two different labels are below each other, unless high was below low before
  module _ (apart : (low ≢ high) × Marked old high low → ⊥) where
    -- a pair of one label twice adds nothing
    nothing_new : low ≡ high → (a b : ℕ) → Under (matrix n new) a b → Under (matrix n old) a b
    nothing_new e a b p =
        under n old inside a b
        (elim ((linked a b).0 p.order)
        [ inl o ↦ o | inr (s, t) ↦ join a low b s (subst (λ (x : ℕ). Marked old x b) (sym e) t) ])

    no_return : (low ≢ high) → (x : ℕ) → Marked old high x → Marked old x low → ⊥
    no_return ne x p q = apart (ne, join high x low p q)

    linked_antisymmetric : (a b : ℕ) → Under (matrix n new) a b → Under (matrix n new) b a → a ≡ b
    linked_antisymmetric a b p q =
        elim (ℕ_discrete low high) [
          | yes e ↦ ordered.antisymmetric a b (nothing_new e a b p) (nothing_new e b a q)
          | no ne ↦
              elim ((linked a b).0 p.order) [
                | inl o ↦
                    elim ((linked b a).0 q.order) [
                      | inl o' ↦ ordered.antisymmetric a b (under n old inside a b o) (under n old inside b a o')
                      | inr (s, t) ↦ absurd (no_return ne b (join high a b t o) s)
                    ]
                | inr (s, t) ↦
                    elim ((linked b a).0 q.order)
                    [ inl o' ↦ absurd (no_return ne a (join high b a t o') s) | inr (s', t') ↦ absurd (no_return ne b t s') ]
              ]
        ]

    pub linked_ordered : PartialOrder (matrix n new)
    linked_ordered = record {
      reflexive = λ a l. keep a a (ordered.reflexive a l).order;
      antisymmetric = linked_antisymmetric;
      transitive = linked_transitive;
    }

-- the pairs that the rows keep, with one more
module _ (n : ℕ) (old new : List ℕ) (pairs : List (ℕ × ℕ)) (low high : ℕ) (in_low : low < n) (in_high : high < n) (keeps : Keeps n old pairs) where
  pub linked_keeps : Linked old new low high → Keeps n new (more pairs (low, high))
  linked_keeps linked a b = (to, from)
    where
      to : Marked new a b → Under (table n (more pairs (low, high))) a b
      to h =
          elim ((linked a b).0 h) [
            | inl o ↦ let u = (keeps a b).0 o in record { low = u.low; high = u.high; order = reach_more pairs (low, high) u.order }
            | inr (s, t) ↦
                let u = (keeps a low).0 s in
                let v = (keeps high b).0 t in
                record { low = u.low; high = v.high; order = last_by pairs (low, high) (u.order, v.order) }
          ]

      from : Under (table n (more pairs (low, high))) a b → Marked new a b
      from u =
          elim (by_last pairs (low, high) u.order) [
            | inl r ↦ (linked a b).1 (inl ((keeps a b).1 (record { low = u.low; high = u.high; order = r })))
            | inr (r, s) ↦
                (linked a b).1
                (inr
                ((keeps a low).1 (record { low = u.low; high = in_low; order = r }), (keeps high b).1 (record { low = in_high; high = u.high; order = s })))
          ]

  -- high is below low already, so that the pair would close a loop
  pub looped : (low ≢ high) → Marked old high low → Looped (table n (more pairs (low, high)))
  looped ne h =
      let up : Reach (more pairs (low, high)) low high = step (in_last pairs (low, high)) here in
      let down = reach_more pairs (low, high) ((keeps high low).0 h).order in
      (low, high, record { low = in_low; high = in_high; order = up }, record { low = in_high; high = in_low; order = down }, ne)

pub not_looped : (n : ℕ) (rows : List ℕ) (pairs : List (ℕ × ℕ)) → Inside n rows → PartialOrder (matrix n rows) → Keeps n rows pairs → Looped (table n pairs) → ⊥
not_looped n rows pairs inside ordered keeps (a, b, p, q, ne) =
    ne (ordered.antisymmetric a b (under n rows inside a b ((keeps a b).1 p)) (under n rows inside b a ((keeps b a).1 q)))
