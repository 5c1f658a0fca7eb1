-- The marked records of one form, by the places where they stand.
use Rattle.std.proofs.Common.{◌≡◌, ℕ, suc, ◌*◌, ◌/◌, ◌%◌, ◌^◌, ◌<◌, List, [], ◌∷◌, filter, eqb, length, get_or, Bool, true, false, cond, refl, sym, ap, ◌∙◌, inl, inr, mod-eq_of_lt, one-mul, arith}
use native.Mathlib.Decide.{ℕ_discrete}
use lib.Bits.{bit_and, and_step}
use lib.Pow.{pow-lt}
use Rattle.std.proofs.lemmas.Bool.{eq-eqb, ne_eqb, false≢true}
use Rattle.base.specs.Bits.{Has}
use Rattle.base.specs.Words.{Iff, In}
use Rattle.base.proofs.Sets.{has_first, has_next}
use Rattle.logics.specs.Entailment.{marked}
use Rattle.logics.specs.Marked.{odd_marked, even_marked}
use Rattle.logics.specs.declared.Record.{Record}

-- a bit of a number of 64 bits
pub bit : (i : ℕ) → i < 64 → (1 * 2 ^ i) % 18446744073709551616 ≡ 2 ^ i
bit i lt = rw one-mul (mod-eq_of_lt (omega (arith, pow-lt lt)))

-- what a test keeps of some records
pub in_filter : (test : Record → Bool) (x : Record) (xs : List Record) → Iff (In x (filter test xs)) (In x xs × (test x ≡ true))
in_filter test x [] = (λ i. absurd i, λ p. absurd p.0)
in_filter test x (y ∷ ys) = by_test (test y) refl (in_filter test x ys)
  where
    by_test : (b : Bool) → test y ≡ b → Iff (In x (filter test ys)) (In x ys × (test x ≡ true)) → Iff (In x (cond b (y ∷ filter test ys) (filter test ys))) (In x (y ∷ ys) × (test x ≡ true))
    by_test true passes rest = (λ i. elim i [ inl e ↦ (inl e, ap test e ∙ passes) | inr j ↦ (inr (rest.0 j).0, (rest.0 j).1) ], λ p. elim p.0 [ inl e ↦ inl e | inr j ↦ inr (rest.1 (j, p.1)) ])
    by_test false fails rest = (λ i. (inr (rest.0 i).0, (rest.0 i).1), λ p. elim p.0 [ inl e ↦ absurd (false≢true (sym fails ∙ ap test (sym e) ∙ p.1)) | inr j ↦ rest.1 (j, p.1) ])

-- the marked records of the form are the marked ones at its places
pub selects : (form : ℕ) (rs : List Record) (d : Record) (places m : ℕ) → ((k : ℕ) → k < length rs → Iff (Has places k) ((get_or rs k d).form ≡ form))
    → marked rs (bit_and m places) ≡ filter (λ r. eqb r.form form) (marked rs m)
selects form [] d places m at = refl
selects form (y ∷ ys) d places m at =
    let half : bit_and m places / 2 ≡ bit_and (m / 2) (places / 2) = omega (arith, and_step m places) in
    let rest : marked ys (bit_and m places / 2) ≡ filter (λ r. eqb r.form form) (marked ys (m / 2)) = rw half (selects form ys d (places / 2) (m / 2) (λ k lt. simp has_next at (at (suc k) (omega arith)))) in
    let digits = and_step m places in
    elim (ℕ_discrete (m % 2) 1) [
      | yes odd ↦
          elim (ℕ_discrete y.form form) [
            | yes is ↦
                let place = (has_first places).0 ((at 0 (omega arith)).1 is) in
                rw (odd_marked (bit_and m places) y ys (omega (arith, digits)), odd_marked m y ys odd, eq-eqb y.form form is) (ap (λ l. y ∷ l) rest)
            | no other ↦
                let place : places % 2 ≡ 1 → ⊥ = λ e. other ((at 0 (omega arith)).0 ((has_first places).1 e)) in
                rw (even_marked (bit_and m places) y ys (omega (arith, digits)), odd_marked m y ys odd, ne_eqb y.form form other) rest
          ]
      | no even ↦ rw (even_marked (bit_and m places) y ys (omega (arith, digits)), even_marked m y ys (omega arith)) rest
    ]
