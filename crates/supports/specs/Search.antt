-- The words by which the search for supports is explained. It walks over sets H that hit every support known so far, and asks what the axioms
-- outside H yield.
use Rattle.std.specs.Prelude.{◌≡◌, ℕ, ◌-◌, ◌^◌, ◌<◌, ◌⊎◌, List, Some, Option, MatchOption, ◌≢◌}
use Rattle.base.specs.Bits.{Has, Subset}
use Rattle.base.specs.Words.{Iff, In}
use Rattle.ordered.specs.Lists.{Ascending}
use Rattle.ordered.specs.Sets.{Before}
use Rattle.supports.specs.Asked.{Asked, Yields, SomeSupports}

-- no axiom is in both sets
abbrev pub Apart : ℕ → ℕ → Type 0
Apart s t = (i : ℕ) → Has s i → Has t i → ⊥

-- some axiom is in both sets
abbrev pub Hits : ℕ → ℕ → Type 0
Hits s t = (i : ℕ) × Has s i × Has t i

abbrev pub HitsAll : ℕ → List ℕ → Type 0
HitsAll h known = (s : ℕ) → In s known → Hits h s

-- the sets that hold `out`, and otherwise only axioms of `may`
pub record Region (out may h : ℕ) : Type 0 where
  pub holds : Subset out h
  pub only : (i : ℕ) → Has h i → Has out i ⊎ Has may i

-- such a set without e, an axiom of `out`
pub record Without (out may e h : ℕ) : Type 0 where
  pub lacks : Has h e → ⊥
  pub holds : (i : ℕ) → Has out i → (i ≡ e) ⊎ Has h i
  pub only : (i : ℕ) → Has h i → Has out i ⊎ Has may i

-- such a set that holds x, and of the axioms of s after x none but those of `out`
pub record Branch (out may s x h : ℕ) : Type 0 where
  pub holds : Subset out h
  pub at : Has h x
  pub only : (i : ℕ) → Has h i → Has out i ⊎ ((i ≡ x) ⊎ (Has may i × (Has s i → i < x)))

-- s among the known, each once, ascending
pub record Joined (known : List ℕ) (s : ℕ) (more : List ℕ) : Type 0 where
  pub members : (t : ℕ) → Iff (In t more) ((t ≡ s) ⊎ In t known)
  pub ascending : Ascending Before more

-- each axiom of `out` that hits s, and is not among the sole ones, is not the only one
abbrev pub Spare : ℕ → ℕ → ℕ → Type 0
Spare out sole s = (e : ℕ) → Has s e → Has out e → (Has sole e → ⊥) → (i : ℕ) × Has s i × Has out i × (i ≢ e)

-- what a glance at one more support s adds to what was seen before
pub record Glanced (out s : ℕ) (unhit : Option ℕ) (sole : ℕ) (unhit' : Option ℕ) (sole' : ℕ) : Type 0 where
  pub missed : (Apart s out × (unhit' ≡ Some s)) ⊎ (Hits out s × (unhit' ≡ unhit))
  pub keeps : Subset sole sole'
  pub inside : Subset sole out → Subset sole' out
  pub spare : Spare out sole' s

-- what one look over the known supports says: one that `out` does not hit, if any, and axioms of `out` that are the only one to hit some support
pub record Looked (known : List ℕ) (out : ℕ) (unhit : Option ℕ) (sole : ℕ) : Type 0 where
  pub missed : MatchOption unhit (HitsAll out known) (λ s. In s known × Apart s out)
  pub inside : Subset sole out
  pub spare : (s : ℕ) → In s known → Spare out sole s

module _ (q : Asked) where
  -- no set outside h yields the goal
  abbrev pub Blocks : ℕ → Type 0
  Blocks h = (t : ℕ) → Subset t q.all → Apart t h → Yields q t → ⊥

  -- each set of the region that hits every known support blocks the goal
  abbrev pub Done : List ℕ → ℕ → ℕ → Type 0
  Done known out may = (h : ℕ) → Region out may h → HitsAll h known → Blocks h

  -- so does each such set without some axiom of `out`, if it still hits every known support
  abbrev pub Earlier : List ℕ → ℕ → ℕ → Type 0
  Earlier known out may = (e h : ℕ) → Has out e → Without out may e h → HitsAll h known → Blocks h

  -- the branches at a known support s that `out` does not hit: by each of its axioms x in `may`, below i, with the axioms of s that come before x
  abbrev pub Branches : List ℕ → ℕ → ℕ → ℕ → ℕ → Type 0
  Branches known out may s i = (x h : ℕ) → x < i → Has may x → Has s x → Branch out may s x h → HitsAll h known → Blocks h

  -- what is left of a set that yields the goal, once each axiom below i that is not needed has been dropped
  pub record Shrunk (set now i : ℕ) : Type 0 where
    pub inside : Subset now set
    pub yields : Yields q now
    pub needed : (j : ℕ) → j < i → Has now j → Yields q (now - 2 ^ j) → ⊥

  -- axiom i is dropped from a set where the goal still follows, and kept or not there otherwise
  abbrev pub DroppedOne : ℕ → ℕ → ℕ → Type 0
  DroppedOne now i r =
      (Has now i × (r ≡ now - 2 ^ i) × Yields q r) ⊎ ((r ≡ now) × (Has now i → Yields q (now - 2 ^ i) → ⊥))

  -- more supports than before, each once, ascending
  pub record Grown (known more : List ℕ) : Type 0 where
    pub supports : SomeSupports q more
    pub keeps : (s : ℕ) → In s known → In s more
