-- Marked records, gone through by the numbers of their marks.
use Rattle.std.proofs.Common.{◌≡◌, ℕ, ◌^◌, ◌<◌, ◌⊎◌, List, ◌∷◌, length, refl, inl, inr, arith}
use Rattle.base.specs.Words.{In}
use Rattle.logics.specs.declared.Record.{Record}
use Rattle.logics.specs.Entailment.{Each, marked}
use Rattle.logics.specs.Marked.{none_marked}

-- what holds of each but those that are left
abbrev pub But : (Record → Type 0) → List Record → List Record → Type 0
But P all rest = (x : Record) → In x all → P x ⊎ In x rest

pub but_more : {P : Record → Type 0} (all rest others : List Record) (y : Record) → rest ≡ y ∷ others → But P all rest → P y → But P all others
but_more {P} all rest others y e old new x i =
    elim (old x i) [ inl p ↦ inl p | inr j ↦ next (rw e at j) ]
  where
    next : In x (y ∷ others) → P x ⊎ In x others
    next (inl same) = inl (rw same new)
    next (inr j) = inr j

pub but_none : {P : Record → Type 0} (all rs : List Record) {rest : ℕ} → rest ≡ 0 → But P all (marked rs rest) → Each P all
but_none {P} all rs e old x i = elim (old x i) [ inl p ↦ p | inr j ↦ absurd (rw (e, none_marked) at j) ]

-- on the way through the marked records: those that are left are among them
pub record Walk (rs : List Record) (marks rest : ℕ) : Type 0 where
  pub within : rest < 2 ^ length rs
  pub among : (x : Record) → In x (marked rs rest) → In x (marked rs marks)

pub walk_start : (rs : List Record) (marks : ℕ) → marks < 2 ^ length rs → Walk rs marks marks
walk_start rs marks lt = record { within = lt; among = λ x i. i }

module _ (rs : List Record) (marks rest others : ℕ) (y : Record) (first : marked rs rest ≡ y ∷ marked rs others) (walk : Walk rs marks rest) where
  pub walk_first : In y (marked rs marks)
  walk_first = walk.among y (rw first (inl refl))

  pub walk_more : others < rest → Walk rs marks others
  walk_more lt = record { within = omega (arith, walk.within); among = λ x i. walk.among x (rw first (inr i)) }
