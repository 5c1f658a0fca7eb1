-- Chains of pairs: reachability, and what one more pair adds to it.
use Rattle.std.proofs.Common.{◌≡◌, ℕ, ◌⊎◌, List, [], ◌∷◌, refl, ap, subst, inl, inr, ⊎_elim}
use Rattle.base.specs.Words.{In}
use Rattle.tables.specs.Table.{Reach, here, step, more}

in_more : (ps : List (ℕ × ℕ)) (p q : ℕ × ℕ) → In q ps → In q (more ps p)
in_more [] p q i = absurd i
in_more (x ∷ ps) p q (inl e) = inl e
in_more (x ∷ ps) p q (inr i) = inr (in_more ps p q i)

pub in_last : (ps : List (ℕ × ℕ)) (p : ℕ × ℕ) → In p (more ps p)
in_last [] p = inl refl
in_last (x ∷ ps) p = inr (in_last ps p)

in_split : (ps : List (ℕ × ℕ)) (p q : ℕ × ℕ) → In q (more ps p) → In q ps ⊎ (q ≡ p)
in_split [] p q (inl e) = inr e
in_split [] p q (inr i) = absurd i
in_split (x ∷ ps) p q (inl e) = inl (inl e)
in_split (x ∷ ps) p q (inr i) = ⊎_elim (λ j. inl (inr j)) inr (in_split ps p q i)

pub reach_none : {a b : ℕ} → Reach [] a b → a ≡ b
reach_none here = refl
reach_none (step i r) = absurd i

pub reach_trans : {ps : List (ℕ × ℕ)} {a b c : ℕ} → Reach ps a b → Reach ps b c → Reach ps a c
reach_trans here s = s
reach_trans (step i r) s = step i (reach_trans r s)

pub reach_more : (ps : List (ℕ × ℕ)) (p : ℕ × ℕ) {a b : ℕ} → Reach ps a b → Reach (more ps p) a b
reach_more ps p here = here
reach_more ps p (step {a = x} {b = y} i r) = step (in_more ps p (x, y) i) (reach_more ps p r)

-- a chain that goes by the pair p
abbrev By : List (ℕ × ℕ) → ℕ × ℕ → ℕ → ℕ → Type 0
By ps p a b = Reach ps a p.0 × Reach ps p.1 b

-- one more pair adds the chains that go by it
one_step : (ps : List (ℕ × ℕ)) (p : ℕ × ℕ) {x y z : ℕ} → In (x, y) (more ps p) → Reach ps y z ⊎ By ps p y z → Reach ps x z ⊎ By ps p x z
one_step ps p {x} {y} {z} i rest = ⊎_elim old new (in_split ps p (x, y) i)
  where
    old : In (x, y) ps → Reach ps x z ⊎ By ps p x z
    old j = ⊎_elim (λ s. inl (step j s)) (λ s. inr (step j s.0, s.1)) rest

    new : (x, y) ≡ p → Reach ps x z ⊎ By ps p x z
    new e =
        let start : Reach ps x p.0 = subst (λ u. Reach ps x u) (ap (λ (t : ℕ × ℕ). t.0) e) here in
        let end : Reach ps y z → Reach ps p.1 z = subst (λ u. Reach ps u z) (ap (λ (t : ℕ × ℕ). t.1) e) in
        inr (start, ⊎_elim end (λ s. s.1) rest)

pub by_last : (ps : List (ℕ × ℕ)) (p : ℕ × ℕ) {a b : ℕ} → Reach (more ps p) a b → Reach ps a b ⊎ By ps p a b
by_last ps p here = inl here
by_last ps p (step i r) = one_step ps p i (by_last ps p r)

pub last_by : (ps : List (ℕ × ℕ)) (p : ℕ × ℕ) {a b : ℕ} → By ps p a b → Reach (more ps p) a b
last_by ps p (r, s) = reach_trans (reach_more ps p r) (step (in_last ps p) (reach_more ps p s))
