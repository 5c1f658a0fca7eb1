-- The laws of the order of goals, and of rows by their goals.
use Rattle.std.proofs.Common.{◌≡◌, ℕ, ◌⊎◌, ap₂, inl, inr, arith}
use native.Mathlib.Decide.{dec_lt}
use Rattle.logics.specs.Entailment.{Goal}
use Rattle.ordered.specs.Lists.{Ranking}
use Rattle.ordered.specs.Rankings.{AnyRank, total_ranking, total_ranks, ranking_by, ranks_by}
use Rattle.engine.specs.declared.page.Row.{Row}
use Rattle.engine.specs.Law.{Smaller}
use Rattle.engine.specs.Rows.{ByGoal}

pub smaller_irreflexive : (g : Goal) → Smaller g g → ⊥
smaller_irreflexive g (inl h) = omega arith
smaller_irreflexive g (inr (e, h)) = omega arith

smaller_transitive : (g h k : Goal) → Smaller g h → Smaller h k → Smaller g k
smaller_transitive g h k (inl a) (inl b) = inl (omega arith)
smaller_transitive g h k (inl a) (inr (f, b)) = inl (omega arith)
smaller_transitive g h k (inr (e, a)) (inl b) = inl (omega arith)
smaller_transitive g h k (inr (e, a)) (inr (f, b)) = inr (omega arith, omega arith)

-- of two goals that are not one, one is smaller
pub smaller_total : (g h : Goal) → (g ≡ h) ⊎ (Smaller g h ⊎ Smaller h g)
smaller_total g h =
    elim (dec_lt g.0 h.0) [
      | yes lt ↦ inr (inl (inl lt))
      | no ge ↦ elim (dec_lt h.0 g.0) [
        | yes gt ↦ inr (inr (inl gt))
        | no le ↦ elim (dec_lt g.1 h.1) [
          | yes lt ↦ inr (inl (inr (omega arith, lt)))
          | no ge' ↦ elim (dec_lt h.1 g.1) [
            | yes gt ↦ inr (inr (inr (omega arith, gt)))
            | no le' ↦
                let first : g.0 ≡ h.0 = omega arith in
                let second : g.1 ≡ h.1 = omega arith in
                inl (ap₂ (λ (a b : ℕ). (a, b)) first second)
          ]
        ]
      ]
    ]

pub smaller_ranking : Ranking Smaller
smaller_ranking = total_ranking smaller_total smaller_irreflexive smaller_transitive

pub row_ranking : Ranking ByGoal
row_ranking = ranking_by (λ (r : Row). r.goal) smaller_ranking

-- any two goals rank in some way, and so any two rows
pub smaller_ranks : AnyRank Smaller
smaller_ranks = total_ranks smaller_total smaller_irreflexive

pub row_ranks : AnyRank ByGoal
row_ranks = ranks_by (λ (r : Row). r.goal) smaller_ranks
