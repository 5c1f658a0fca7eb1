-- A larger set of axioms yields no less.
use Rattle.std.proofs.Common.{ℕ, suc, ◌/◌, List, [], ◌∷◌, inl, inr, ⊎_elim, arith}
use Rattle.base.specs.Bits.{Has, Subset}
use Rattle.base.specs.Words.{Iff, In}
use Rattle.base.proofs.Sets.{has_first, has_next, subset_le}
use Rattle.logics.specs.Entailment.{Monotone, Askable, marked}
use Rattle.logics.specs.declared.Record.{Record}
use Rattle.logics.specs.Marked.{in_cons}
use Rattle.supports.specs.Asked.{Asked, Yields}
use Rattle.supports.specs.Search.{Blocks}

half_subset : (s t : ℕ) → Subset s t → Subset (s / 2) (t / 2)
half_subset s t sub i h = rw has_next at (sub (suc i) (rw has_next h))

-- the records of a smaller set are among those of a larger one
pub marked_among : (rs : List Record) (s t : ℕ) → Subset s t → (x : Record) → In x (marked rs s) → In x (marked rs t)
marked_among [] s t sub x i = i
marked_among (y ∷ ys) s t sub x i =
    (in_cons t x y ys).1
    (⊎_elim (λ p. inl ((has_first t).0 (sub 0 ((has_first s).1 p.0)), p.1)) (λ j. inr (marked_among ys (s / 2) (t / 2) (half_subset s t sub) x j))
    ((in_cons s x y ys).0 i))

module _ (q : Asked) (monotone : Monotone q.logic) where
  pub yields_more : (s t : ℕ) → Subset s t → Yields q s → Yields q t
  yields_more s t sub y = monotone (marked q.records s) (marked q.records t) (marked_among q.records s t sub) q.goal y

  -- what all axioms outside `out` do not yield, no set outside `out` yields
  pub no_blocks : (out rest : ℕ) → ((i : ℕ) → Iff (Has rest i) (Has q.all i × (Has out i → ⊥)))
      → (Yields q rest → ⊥) → Blocks q out
  no_blocks out rest is none t inside apart y = none (yields_more t rest (λ i h. (is i).1 (inside i h, apart i h)) y)

-- a question about a part of the axioms can be asked where one about all of them can
pub askable_part : (q : Asked) (set room : ℕ) → Subset set q.all → Askable q.logic q.records q.all q.goal room → Askable q.logic q.records set q.goal room
askable_part q set room sub ask = record {
  few = ask.few;
  within = omega (arith, subset_le set q.all sub, ask.within);
  taken = λ x i. ask.taken x (marked_among q.records set q.all sub x i);
  posed = ask.posed;
  wide = ask.wide;
}
