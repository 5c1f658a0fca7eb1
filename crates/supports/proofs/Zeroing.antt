-- Places that are made zero from a count on.
use Rattle.std.proofs.Common.{◌≡◌, ℕ, zero, suc, ◌-◌, ◌<◌, ◌≤◌, List, [], ◌∷◌, ◌++◌, length, get_or, take, drop, replicate, sym, refl, ap, ◌∙◌, ap₂, arith, drop_at}
use native.Mathlib.Nat.{sub-zero}
use lib.ListN.{length-replicate}
use Rattle.logics.specs.Entailment.{Scrubbed}
use Rattle.supports.specs.Asked.{Clean}

-- a list that is as another below a count, and zero from there on
pub zeroed : (n : ℕ) (xs ys : List ℕ) → n ≤ length xs → length ys ≡ length xs → ((k : ℕ) → k < n → get_or ys k 0 ≡ get_or xs k 0)
    → ((k : ℕ) → n ≤ k → k < length xs → get_or ys k 0 ≡ 0) → ys ≡ take n xs ++ replicate (length xs - n) 0
zeroed zero [] [] le long same none = refl
zeroed zero [] (y ∷ ys) le long same none = absurd (omega arith)
zeroed zero (x ∷ xs) [] le long same none = absurd (omega arith)
zeroed zero (x ∷ xs) (y ∷ ys) le long same none =
    let rest = zeroed zero xs ys (omega arith) (omega arith) (λ k h. absurd (omega arith)) (λ k _ h. none (suc k) (omega arith) (omega arith)) in
    let first : y ≡ 0 = none 0 (omega arith) (omega arith) in
    rw sub-zero (ap₂ ◌∷◌ first (rw sub-zero at rest))
zeroed (suc n) [] ys le long same none = absurd (omega arith)
zeroed (suc n) (x ∷ xs) [] le long same none = absurd (omega arith)
zeroed (suc n) (x ∷ xs) (y ∷ ys) le long same none =
    let rest = zeroed n xs ys (omega arith) (omega arith) (λ k h. same (suc k) (omega arith)) (λ k h h'. none (suc k) (omega arith) (omega arith)) in
    let size : length xs - n ≡ suc (length xs) - suc n = omega arith in
    ap₂ ◌∷◌ (same 0 (omega arith)) (rest ∙ ap (λ (m : ℕ). take n xs ++ replicate m 0) size)

-- a work area that has been scrubbed is clean, and stays as it is when it is scrubbed again
pub scrubbed_clean : (n : ℕ) (before after : List ℕ) → Scrubbed n before after → Clean n after
scrubbed_clean n before after e =
    let rest : drop n after ≡ drop n before = ap (drop n) e ∙ drop_at (replicate n 0) (drop n before) n (length-replicate n 0) in
    e ∙ ap (λ xs. replicate n 0 ++ xs) (sym rest)
