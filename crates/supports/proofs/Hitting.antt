-- Why one walk over the hitting sets finds every support.
use Rattle.std.proofs.Common.{◌≡◌, ℕ, zero, suc, ◌-◌, ◌^◌, ◌<◌, ◌≤◌, ◌⊎◌, List, sym, refl, ◌∙◌, subst, inl, inr, ⊎_elim, arith}
use native.Mathlib.Decide.{ℕ_discrete}
use lib.Bits.{bit_and}
use Rattle.base.specs.Bits.{Has, Subset}
use Rattle.base.specs.Words.{Iff, In}
use Rattle.base.proofs.Sets.{has_or_not, has_and, has_without, has_below}
use Rattle.supports.specs.Asked.{Asked}
use Rattle.supports.specs.Search.{Apart, HitsAll, Without, Branch, Blocks, Done, Earlier, Branches}

-- the last place of a set below n
last_place : (s n : ℕ) → (k : ℕ) × Has s k × (k < n) → (x : ℕ) × Has s x × (x < n) × ((i : ℕ) → Has s i → i < n → i ≤ x)
last_place s zero (k, h, l) = absurd (omega arith)
last_place s (suc n) (k, h, l) =
    elim (has_or_not s n) [
      | inl here ↦ (n, here, omega arith, λ i p q. omega arith)
      | inr none ↦
          let ne : k ≡ n → ⊥ = λ e. none (subst (λ (i : ℕ). Has s i) e h) in
          let (x, p, q, top) = last_place s n (k, h, omega arith) in
          (x, p, omega arith, λ i a b. let ni : i ≡ n → ⊥ = λ e. none (subst (λ (j : ℕ). Has s j) e a) in top i a (omega arith))
    ]

-- the axioms of `may` that a branch by x may take
abbrev pub Allowed : ℕ → ℕ → ℕ → ℕ → Type 0
Allowed may s allowed x = (k : ℕ) → Iff (Has allowed k) (Has may k × (Has s k → k < x))

module _ (q : Asked) where
  pub blocks_more : (h k : ℕ) → Subset h k → Blocks q h → Blocks q k
  blocks_more h k sub blocks t inside apart = blocks t inside (λ i p q. apart i p (sub i q))

  -- where all outside `out` yields nothing, the region is done
  pub done_blocked : (known : List ℕ) (out may : ℕ) → Blocks q out → Done q known out may
  done_blocked known out may blocks h region hits = blocks_more out h region.holds blocks

  -- a region is done where some axiom of `out` is never the only one that hits a known support
  pub done_cut : (known : List ℕ) (out may e : ℕ) → Has out e
      → ((s : ℕ) → In s known → Has s e → (i : ℕ) × Has s i × Has out i × (i ≡ e → ⊥))
      → Earlier q known out may → Done q known out may
  done_cut known out may e in_out spare pre h region hits =
      blocks_more (h - 2 ^ e) h (λ i p. ((has_without e h i in_h).0 p).0) (pre e (h - 2 ^ e) in_out without still)
    where
      in_h : Has h e
      in_h = region.holds e in_out

      keep : (i : ℕ) → Has h i → (i ≡ e → ⊥) → Has (h - 2 ^ e) i
      keep i p ne = (has_without e h i in_h).1 (p, ne)

      without : Without out may e (h - 2 ^ e)
      without = record {
        lacks = λ p. ((has_without e h e in_h).0 p).1 refl;
        holds = λ i p. elim (ℕ_discrete i e) [ yes same ↦ inl same | no ne ↦ inr (keep i (region.holds i p) ne) ];
        only = λ i p. region.only i ((has_without e h i in_h).0 p).0;
      }

      still : HitsAll (h - 2 ^ e) known
      still s k =
          elim (has_or_not s e) [
            | inl p ↦ let (i, in_s, in_o, ne) = spare s k p in (i, keep i (region.holds i in_o) ne, in_s)
            | inr no_e ↦ let (i, p, q) = hits s k in (i, keep i p (λ same. no_e (subst (λ (x : ℕ). Has s x) same q)), q)
          ]

  -- a set that hits s below i, and of the axioms of s from i on has none but those of `out`, lies in one of the branches
  pub by_branch : (known : List ℕ) (out may s i : ℕ) → In s known → Apart s out → Branches q known out may s i
      → (h : ℕ) → Subset out h → ((k : ℕ) → Has h k → Has out k ⊎ (Has may k × (Has s k → k < i))) → HitsAll h known → Blocks q h
  by_branch known out may s i is_Known apart branches h holds only hits =
      let (k, in_h, in_s) = hits s is_Known in
      let (x, both, l_x, top) = last_place (bit_and h s) i (k, (has_and h s k).1 (in_h, in_s), (below k in_h in_s).1) in
      let (x_h, x_s) = (has_and h s x).0 both in
      branches x h l_x (below x x_h x_s).0 x_s (record { holds = holds; at = x_h; only = λ j p. place x top j p }) hits
    where
      below : (k : ℕ) → Has h k → Has s k → Has may k × (k < i)
      below k p q = ⊎_elim (λ o. absurd (apart k q o)) (λ m. (m.0, m.1 q)) (only k p)

      place : (x : ℕ) → ((j : ℕ) → Has (bit_and h s) j → j < i → j ≤ x) → (j : ℕ) → Has h j → Has out j ⊎ ((j ≡ x) ⊎ (Has may j × (Has s j → j < x)))
      place x top j p =
          elim (only j p) [
            | inl o ↦ inl o
            | inr m ↦
                elim (has_or_not s j) [
                  | inl in_s ↦
                      let le : j ≤ x = top j ((has_and h s j).1 (p, in_s)) (m.1 in_s) in
                      elim (ℕ_discrete j x) [ yes e ↦ inr (inl e) | no ne ↦ inr (inr (m.0, λ _. omega arith)) ]
                  | inr not_s ↦ inr (inr (m.0, λ q. absurd (not_s q)))
                ]
          ]

  -- once all branches are done, so is the region
  pub done_branches : (known : List ℕ) (out may s : ℕ) → s < 2 ^ 64 → In s known → Apart s out → Branches q known out may s 64
      → Done q known out may
  done_branches known out may s small is_Known apart branches h region =
      by_branch known out may s 64 is_Known apart branches h region.holds
      (λ k p. ⊎_elim inl (λ m. inr (m, has_below 64 s k small)) (region.only k p))

  -- what a branch may take for done: the region's own, and the branches before it
  pub branch_earlier : (known : List ℕ) (out may s x next allowed : ℕ) → In s known → Apart s out → Has may x → Has s x
      → ((k : ℕ) → Iff (Has next k) (Has out k ⊎ (k ≡ x))) → Allowed may s allowed x
      → Earlier q known out may → Branches q known out may s x → Earlier q known next allowed
  branch_earlier known out may s x next allowed is_Known apart in_may in_s is_next is_allowed earlier branches e h in_next without hits =
      ⊎_elim from_out from_x ((is_next e).0 in_next)
    where
      from_out : Has out e → Blocks q h
      from_out in_out =
          earlier e h in_out
          (record {
            lacks = without.lacks;
            holds = λ i p. without.holds i ((is_next i).1 (inl p));
            only = λ i p.
                ⊎_elim (λ q. ⊎_elim inl (λ same. inr (subst (λ (j : ℕ). Has may j) (sym same) in_may)) ((is_next i).0 q)) (λ q. inr ((is_allowed i).0 q).0) (without.only i p);
          })
          hits

      from_x : e ≡ x → Blocks q h
      from_x same =
          by_branch known out may s x is_Known apart branches h
          (λ i p. ⊎_elim (λ i_e. absurd (apart x in_s (subst (λ (j : ℕ). Has out j) (i_e ∙ same) p))) (λ q. q) (without.holds i ((is_next i).1 (inl p))))
          (λ k p.
          ⊎_elim (λ q. ⊎_elim inl (λ k_x. absurd (without.lacks (subst (λ (j : ℕ). Has h j) (k_x ∙ sym same) p))) ((is_next k).0 q)) (λ q. inr ((is_allowed k).0 q)) (without.only k p))
          hits

  -- a branch that is done, as one of the branches
  pub branch_done : (known : List ℕ) (out may s x next allowed : ℕ) → ((k : ℕ) → Iff (Has next k) (Has out k ⊎ (k ≡ x)))
      → Allowed may s allowed x → Done q known next allowed
      → (h : ℕ) → Branch out may s x h → HitsAll h known → Blocks q h
  branch_done known out may s x next allowed is_next is_allowed done h branch =
      done h
      (record {
        holds = λ i p. ⊎_elim (branch.holds i) (λ e. subst (λ (j : ℕ). Has h j) (sym e) branch.at) ((is_next i).0 p);
        only = λ i p. ⊎_elim (λ o. inl ((is_next i).1 (inl o))) (⊎_elim (λ e. inl ((is_next i).1 (inr e))) (λ m. inr ((is_allowed i).1 m))) (branch.only i p);
      })

  -- supports that are found later only make fewer hitting sets
  module _ (known more : List ℕ) (grows : (s : ℕ) → In s known → In s more) where
    fewer : (h : ℕ) → HitsAll h more → HitsAll h known
    fewer h hits s k = hits s (grows s k)

    pub done_grows : (out may : ℕ) → Done q known out may → Done q more out may
    done_grows out may done h region hits = done h region (fewer h hits)

    pub earlier_grows : (out may : ℕ) → Earlier q known out may → Earlier q more out may
    earlier_grows out may earlier e h in_out without hits = earlier e h in_out without (fewer h hits)

    pub branches_grow : (out may s i : ℕ) → Branches q known out may s i → Branches q more out may s i
    branches_grow out may s i branches x h lt in_may in_s branch hits = branches x h lt in_may in_s branch (fewer h hits)
