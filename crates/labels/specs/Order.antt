-- What a label kind means: how many labels it has, and which of two labels is at or below the other.
use Rattle.std.specs.Prelude.{◌≡◌, ℕ, ◌<◌, ◌≤◌, ◌⊎◌}
use Rattle.base.specs.Words.{Iff}

pub record LabelOrder : Type 1 where
  pub size : ℕ
  pub Below : ℕ → ℕ → Type 0

module _ (k : LabelOrder) where
  -- a is one of the labels
  abbrev pub Label : ℕ → Type 0
  Label a = a < k.size

  -- a and b are labels, and a is at or below b
  pub record Under (a b : ℕ) : Type 0 where
    pub low : Label a
    pub high : Label b
    pub order : k.Below a b

  -- m is the greatest label at or below both a and b
  pub record Greatest (a b m : ℕ) : Type 0 where
    pub left : Under m a
    pub right : Under m b
    pub greatest : (c : ℕ) → Under c a → Under c b → Under c m

  -- j is the least label at or above both a and b
  pub record Least (a b j : ℕ) : Type 0 where
    pub left : Under a j
    pub right : Under b j
    pub least : (c : ℕ) → Under a c → Under b c → Under j c

  -- t is at or above every label
  abbrev pub Top : ℕ → Type 0
  Top t = (a : ℕ) → Label a → Under a t

  -- what the questions for a meet and a join answer: for a number that is no label, 0
  abbrev pub Meets : ℕ → ℕ → ℕ → Type 0
  Meets a b r = (Label a → Label b → Greatest a b r) × ((Label a × Label b → ⊥) → r ≡ 0)

  abbrev pub Joins : ℕ → ℕ → ℕ → Type 0
  Joins a b r = (Label a → Label b → Least a b r) × ((Label a × Label b → ⊥) → r ≡ 0)

  -- u is at or below one of two labels whenever it is at or below their join
  pub record JoinPrime (u : ℕ) : Type 0 where
    pub known : Label u
    pub splits : (a b j : ℕ) → Least a b j → Under u j → Under u a ⊎ Under u b

  -- the laws that every kind shows
  pub record Lawful : Type 0 where
    pub some : 0 < k.size
    pub small : k.size ≤ 4294967296
    pub reflexive : (a : ℕ) → Label a → Under a a
    pub antisymmetric : (a b : ℕ) → Under a b → Under b a → a ≡ b
    pub transitive : (a b c : ℕ) → Under a b → Under b c → Under a c
    pub meets : (a b : ℕ) → Label a → Label b → (m : ℕ) × Greatest a b m
    pub joins : (a b : ℕ) → Label a → Label b → (j : ℕ) × Least a b j
    pub top : (t : ℕ) × Top t

-- two orders that have the same labels, each at or below the same others
pub record Same (k l : LabelOrder) : Type 0 where
  pub sizes : k.size ≡ l.size
  pub orders : (a b : ℕ) → Iff (Under k a b) (Under l a b)

-- k is the named order, and that order keeps the laws
pub record Means (k named : LabelOrder) : Type 0 where
  pub same : Same k named
  pub lawful : Lawful named
