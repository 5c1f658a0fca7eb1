-- What the search answers on its way.
use Rattle.std.specs.Prelude.{◌≡◌, ℕ, ◌≤◌, List, length, take, Option, MatchOption, Result, MatchResult}
use Rattle.base.specs.Words.{In}
use Rattle.ordered.specs.declared.NoRoom.{NoRoom}
use Rattle.supports.specs.Asked.{Asked, MoreThan}
use Rattle.supports.specs.Search.{Apart, Done, Grown}

-- s is a known support that `out` does not hit, among the n that are known then
pub record Splits (q : Asked) (places : List ℕ) (count out : ℕ) (after : List ℕ) (s n : ℕ) : Type 0 where
  pub few : n ≤ length places
  pub grown : Grown q (take count places) (take n after)
  pub known : In s (take n after)
  pub apart : Apart s out

module _ (q : Asked) (places : List ℕ) (count out may : ℕ) where
  -- the region of `out` and `may` is done; or a support is to be branched on; or there are too many supports
  abbrev pub Foreseen : Result (Option (ℕ × ℕ)) NoRoom → List ℕ → Type 0
  Foreseen r after =
      MatchResult r (λ next. MatchOption next ((after ≡ places) × Done q (take count places) out may) (λ b. Splits q places count out after b.0 b.1))
      (λ _. MoreThan q (length places))

  -- the region is done, with the supports that were found on the way; or there are too many
  abbrev pub Visited : Result ℕ NoRoom → List ℕ → Type 0
  Visited r after =
      MatchResult r (λ n. (n ≤ length places) × Grown q (take count places) (take n after) × Done q (take n after) out may)
      (λ _. MoreThan q (length places))
