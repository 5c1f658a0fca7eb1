-- The kind `table n pairs`: n labels, and the least reflexive and transitive order that holds the pairs (low, high).
use Rattle.std.specs.Prelude.{◌≡◌, ℕ, ◌<◌, ◌≤◌, ◌⊎◌, List, [], ◌∷◌, ◌++◌, length, take, ◌≢◌, slice_index_or}
use Rattle.base.specs.Words.{In}
use Rattle.labels.specs.Order.{LabelOrder, Label, Under, Greatest, Least}
use Rattle.labels.specs.declared.fault.KindFault.{KindFault}
use Rattle.labels.specs.declared.fault.KindFault.TheVariants.{SizeOutOfLimits, Loop, NoMeetOrJoin, NotALabel}

-- a chain of pairs, perhaps of none, leads from a up to b
pub data Reach (pairs : List (ℕ × ℕ)) : ℕ → ℕ → Type 0 where
  here : {a : ℕ} → Reach pairs a a
  step : {a b c : ℕ} → In (a, b) pairs → Reach pairs b c → Reach pairs a c

abbrev pub table : ℕ → List (ℕ × ℕ) → LabelOrder
table n pairs = record { size = n; Below = Reach pairs }

-- how many labels a table may have
abbrev pub TableSize : ℕ → Type 0
TableSize n = (1 ≤ n) × (n ≤ 32)

-- two different labels, each at or below the other
abbrev pub Looped : LabelOrder → Type 0
Looped k = (a : ℕ) × (b : ℕ) × Under k a b × Under k b a × (a ≢ b)

-- two labels without a meet or a join
abbrev pub Lacking : LabelOrder → Type 0
Lacking k = (a : ℕ) × (b : ℕ) × Label k a × Label k b × (((m : ℕ) → Greatest k a b m → ⊥) ⊎ ((j : ℕ) → Least k a b j → ⊥))

-- the pairs with one more behind them
abbrev pub more : List (ℕ × ℕ) → ℕ × ℕ → List (ℕ × ℕ)
more pairs p = pairs ++ (p ∷ [])

-- both numbers of a pair are labels
abbrev pub OfLabels : ℕ → ℕ × ℕ → Type 0
OfLabels n p = (p.0 < n) × (p.1 < n)

-- a pair that is taken after the others
abbrev pub PairTaken : ℕ → List (ℕ × ℕ) → ℕ × ℕ → Type 0
PairTaken n pairs p = OfLabels n p × (Looped (table n (more pairs p)) → ⊥)

-- a pair that is refused after the others, and its fault
abbrev pub PairRefused : ℕ → List (ℕ × ℕ) → ℕ × ℕ → KindFault → Type 0
PairRefused n pairs p f =
    ((OfLabels n p → ⊥) × (f ≡ NotALabel)) ⊎ (OfLabels n p × Looped (table n (more pairs p)) × (f ≡ Loop))

-- the first i pairs of a list are taken, one after the other
abbrev pub TakenUpTo : ℕ → List (ℕ × ℕ) → ℕ → Type 0
TakenUpTo n pairs i = (k : ℕ) → k < i → PairTaken n (take k pairs) (slice_index_or pairs k (0, 0))

-- why a table of these pairs is refused: its size, then the first pair that is refused, then a meet or a join that it lacks
abbrev pub TableRefused : ℕ → List (ℕ × ℕ) → KindFault → Type 0
TableRefused n pairs f =
    ((TableSize n → ⊥) × (f ≡ SizeOutOfLimits)) ⊎ (TableSize n × (((i : ℕ) × (i < length pairs) × TakenUpTo n pairs i × PairRefused n (take i pairs) (slice_index_or pairs i (0, 0)) f) ⊎ (TakenUpTo n pairs (length pairs) × Lacking (table n pairs) × (f ≡ NoMeetOrJoin))))

-- a table of these pairs is made
pub record TableTaken (n : ℕ) (pairs : List (ℕ × ℕ)) : Type 0 where
  pub sized : TableSize n
  pub taken : TakenUpTo n pairs (length pairs)
  pub whole : Lacking (table n pairs) → ⊥
