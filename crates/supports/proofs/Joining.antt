-- A set among the known ones: it is there, or it goes into its gap.
use Rattle.std.proofs.Common.{◌≡◌, ℕ, ◌+◌, ◌<◌, ◌≤◌, List, length, get_or, take, sym, subst, inr, ⊎_elim}
use Rattle.std.specs.List.{insert}
use Rattle.std.proofs.lemmas.List.Edits.{length-insert}
use Rattle.base.specs.Words.{In}
use Rattle.ordered.specs.Lists.{Ascending, Level, Gap, opened}
use Rattle.ordered.specs.Sets.{Before}
use Rattle.ordered.proofs.Lists.{get_or_in}
use Rattle.ordered.proofs.Places.{in_inserted, ascending_gap, in_opened, ascending_opened}
use Rattle.ordered.specs.Rankings.{level_same}
use Rattle.ordered.specs.SetsLemmas.{before_total, before_ranking}
use Rattle.supports.specs.Search.{Joined}

-- a set that is level with a known one is that one
pub joined_there : (known : List ℕ) (s i : ℕ) → Ascending Before known → i < length known → ((d : ℕ) → Level Before (get_or known i d) s) → Joined known s known
joined_there known s i up within level =
    let there : In s known = subst (λ (t : ℕ). In t known) (level_same before_total (get_or known i 0) s (level 0)) (get_or_in known i 0 within) in
    record { members = λ t. (inr, ⊎_elim (λ e. subst (λ (x : ℕ). In x known) (sym e) there) (λ h. h)); ascending = up }

-- a set that has a gap among the known ones goes in there
pub joined_gap : (known : List ℕ) (s p : ℕ) → p ≤ length known → Ascending Before known → Gap Before known s p
    → (more : List ℕ) × Joined known s more × (length more ≡ length known + 1)
joined_gap known s p within up gap = (
  insert known p s,
  record { members = in_inserted known p s; ascending = ascending_gap before_ranking known s p within gap up },
  length-insert known p s within,
)

pub joined_opened : (places : List ℕ) (count place s : ℕ) → count < length places → place ≤ count → Ascending Before (take count places)
    → Gap Before (take count places) s place → Joined (take count places) s (take (count + 1) (opened places count place s))
joined_opened places count place s room used up gap = record {
  members = in_opened places count place s room used;
  ascending = ascending_opened places count place s room used before_ranking up gap;
}
