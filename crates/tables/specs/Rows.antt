-- An order held as rows of bits: bit b of row a says that a is at or below b.
use Rattle.std.specs.Prelude.{◌≡◌, ℕ, ◌<◌, ◌⊎◌, List, [], Option, MatchOption, Result, MatchResult, slice_index, slice_index_or}
use Rattle.base.specs.Bits.{Has}
use Rattle.base.specs.Words.{Iff}
use Rattle.labels.specs.Order.{LabelOrder, Label, Under, Greatest, Least, Top, Joins}
use Rattle.labels.specs.declared.fault.KindFault.{KindFault}
use Rattle.labels.specs.declared.fault.KindFault.TheVariants.{NoMeetOrJoin}
use Rattle.tables.specs.Table.{table, more, PairTaken, PairRefused}

-- bit b of row a is set
abbrev pub Marked : List ℕ → ℕ → ℕ → Type 0
Marked rows a b = Has (slice_index rows a) b

-- the order that the rows hold
abbrev pub matrix : ℕ → List ℕ → LabelOrder
matrix n rows = record { size = n; Below = Marked rows }

-- no bit is set beyond the labels
abbrev pub Inside : ℕ → List ℕ → Type 0
Inside n rows = (a b : ℕ) → Marked rows a b → (a < n) × (b < n)

-- the bits alone say that a label is under another
pub under : (n : ℕ) (rows : List ℕ) → Inside n rows → (a b : ℕ) → Marked rows a b → Under (matrix n rows) a b
under n rows inside a b h = record { low = (inside a b h).0; high = (inside a b h).1; order = h }

pub record PartialOrder (k : LabelOrder) : Type 0 where
  pub reflexive : (a : ℕ) → Label k a → Under k a a
  pub antisymmetric : (a b : ℕ) → Under k a b → Under k b a → a ≡ b
  pub transitive : (a b c : ℕ) → Under k a b → Under k b c → Under k a c

-- the rows hold reachability by exactly these pairs
abbrev pub Keeps : ℕ → List ℕ → List (ℕ × ℕ) → Type 0
Keeps n rows pairs = (a b : ℕ) → Iff (Marked rows a b) (Under (table n pairs) a b)

-- the new rows are the old ones, with low put below high: whatever is at or below low is at or below what high is below
abbrev pub Linked : List ℕ → List ℕ → ℕ → ℕ → Type 0
Linked old new low high = (a b : ℕ) → Iff (Marked new a b) (Marked old a b ⊎ (Marked old a low × Marked old high b))

-- the set holds the labels at or below b
pub record IsColumn (rows : List ℕ) (b column : ℕ) : Type 0 where
  pub marks : (a : ℕ) → Iff (Has column a) (Marked rows a b)

-- the same order, seen from above
abbrev pub Flipped : List ℕ → List ℕ → Type 0
Flipped rows down = (a b : ℕ) → Iff (Marked down b a) (Marked rows a b)

-- the label whose row is r, where there is one
abbrev pub LabelOf : ℕ → List ℕ → ℕ → Option ℕ → Type 0
LabelOf n rows r o = MatchOption o ((j : ℕ) → j < n → slice_index rows j ≡ r → ⊥) (λ j. (j < n) × (slice_index rows j ≡ r))

-- a pair is added to whatever pairs the rows keep, or it is refused and the rows keep what they kept
abbrev pub Added : ℕ → List ℕ → ℕ × ℕ → Result (Unit {0}) KindFault → List ℕ → Type 0
Added n rows p r after =
    (pairs : List (ℕ × ℕ)) → Keeps n rows pairs
    → MatchResult r (λ _. PairTaken n pairs p × Keeps n after (more pairs p)) (λ f. PairRefused n pairs p f × Keeps n after pairs)

-- what stands in row a, at place b
abbrev pub entry : List (List ℕ) → ℕ → ℕ → ℕ
entry t a b = slice_index (slice_index_or t a []) b

-- the same of u, a and b by the rows of the order seen from above
abbrev pub SplitBits : List ℕ → ℕ → ℕ → ℕ → ℕ → Type 0
SplitBits down u a b j = Marked down j u → (Marked down a u → ⊥) → Marked down b u

-- the set holds the labels that are at or below one of two labels wherever they are at or below the join of the two
abbrev pub SplitSet : ℕ → List ℕ → List (List ℕ) → ℕ → Type 0
SplitSet n down joins primes = (u : ℕ) → Iff (Has primes u) ((u < n) × ((a b : ℕ) → a < n → b < n → SplitBits down u a b (entry joins a b)))

-- each entry is one of n numbers
abbrev pub Within : ℕ → List (List ℕ) → Type 0
Within n t = (a b : ℕ) → a < n → b < n → entry t a b < n

-- each entry is 0 but those in the first n places of the first n rows
abbrev pub ZerosBeyond : ℕ → List (List ℕ) → Type 0
ZerosBeyond n t = (a b : ℕ) → ((a < n) × (b < n) → ⊥) → entry t a b ≡ 0

module _ (k : LabelOrder) where
  -- the numbers of a row are the joins of a with each label, and 0 for numbers that are no labels
  pub record JoinRow (a : ℕ) (row : List ℕ) : Type 0 where
    pub at : (b : ℕ) → Joins k a b (slice_index row b)

  -- the entries are the joins, or the meets, of the labels
  abbrev pub JoinTable : List (List ℕ) → Type 0
  JoinTable t = (a b : ℕ) → Label k a → Label k b → Least k a b (entry t a b)

  abbrev pub MeetTable : List (List ℕ) → Type 0
  MeetTable t = (a b : ℕ) → Label k a → Label k b → Greatest k a b (entry t a b)

  -- the entries are the joins of the labels, and 0 for numbers that are no labels
  abbrev pub JoinsAll : List (List ℕ) → Type 0
  JoinsAll t = JoinTable t × ZerosBeyond k.size t

  -- some two labels have no join
  abbrev pub NoJoin : Type 0
  NoJoin = (a : ℕ) × (b : ℕ) × Label k a × Label k b × ((j : ℕ) → Least k a b j → ⊥)

  -- joins of the labels that have the property P, or the refusal where some join is missing
  abbrev pub Joined : {A : Type 0} → (A → Type 0) → Result A KindFault → Type 0
  Joined P r = MatchResult r P (λ f. (f ≡ NoMeetOrJoin) × NoJoin)

  -- u is at or below the second of two labels where it is at or below their join and not the first
  abbrev pub Splits : ℕ → ℕ → ℕ → ℕ → Type 0
  Splits u a b j = Under k u j → (Under k u a → ⊥) → Under k u b

  -- the set holds the labels that split every join
  abbrev pub PrimeSet : List (List ℕ) → ℕ → Type 0
  PrimeSet joins primes =
      (u : ℕ) → Iff (Has primes u) (Label k u × ((a b : ℕ) → Label k a → Label k b → Splits u a b (entry joins a b)))

  -- what a finished table has at hand
  pub record Finished (meets joins : List (List ℕ)) (top primes : ℕ) : Type 0 where
    pub ordered : PartialOrder k
    pub meet : MeetTable meets
    pub join : JoinTable joins
    pub highest : Label k top × Top k top
    pub prime : PrimeSet joins primes
