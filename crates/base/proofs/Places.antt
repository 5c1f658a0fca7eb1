-- The set of the places at which a test holds, as the code gathers it.
use Rattle.std.proofs.Common.{◌≡◌, ℕ, ◌+◌, ◌*◌, ◌^◌, ◌<◌, ◌⊎◌, Bool, true, false, T, Bor, List, length, get_or, sym, ap, ◌∙◌, subst, inl, inr, ⊎_elim, pow-suc, pow_pos, arith}
use native.Mathlib.Decide.{ℕ_discrete}
use lib.Bits.{bit_or}
use Rattle.std.specs.Fn.{Shared, FnReturnsAt}
use Rattle.std.specs.List.{HoldsAt}
use Rattle.std.proofs.lemmas.List.{get_or_default}
use Rattle.std.proofs.lemmas.Nat.{or_lt}
use Rattle.base.specs.Bits.{Has, Answered}
use Rattle.base.specs.Words.{Iff}
use Rattle.base.proofs.Sets.{Gathered, has_below, has_with}

-- what a call answered for the thing at place i
pub answered_at : {F A : Type 0} (g : Shared F (Bor A × Unit {0}) Bool) (f : F) (things : List A) (i : ℕ) (p : Bor A) (r b : Bool)
    → p.now ≡ get_or things i p.now → i < length things → g.post f (p, tt) r → r ≡ b → HoldsAt (λ x. FnReturnsAt g f x b) things i
answered_at g f things i p r b is lt met e d = record {
  shown = p;
  shows = is ∙ get_or_default things i p.now d lt;
  says = record { met = subst (λ q. g.post f (p, tt) q) e met };
}

-- s has places below n only, and a test answers for the things before place n by the places in s
abbrev pub AnsweredBelow : {A : Type 0} → (A → Bool → Type 0) → List A → ℕ → ℕ → Type 0
AnsweredBelow R things n s =
    (s < 2 ^ n) × ((i : ℕ) → i < n → (Has s i × HoldsAt (λ x. R x true) things i) ⊎ ((Has s i → ⊥) × HoldsAt (λ x. R x false) things i))

module _ {A : Type 0} (R : A → Bool → Type 0) (things : List A) (n s : ℕ) (done : AnsweredBelow R things n s) where
  twice : 2 ^ (n + 1) ≡ 2 ^ n * 2
  twice = ap (λ (x : ℕ). 2 ^ x) (omega arith) ∙ pow-suc 2 n

  pub answered_yes : (v : ℕ) → v ≡ 2 ^ n → HoldsAt (λ x. R x true) things n → AnsweredBelow R things (n + 1) (bit_or s v)
  answered_yes v is passes = (
    or_lt (n + 1) s v (omega (arith, twice, done.0)) (omega (arith, is, twice, pow_pos n)),
    λ i lt. rw is (elim (ℕ_discrete i n) [
      | yes e ↦ inl ((has_with s n i).1 (inr e), subst (HoldsAt (λ x. R x true) things) (sym e) passes)
      | no ne ↦ elim (done.1 i (omega arith)) [
        | inl p ↦ inl ((has_with s n i).1 (inl p.0), p.1)
        | inr p ↦ inr (λ h. ⊎_elim p.0 ne ((has_with s n i).0 h), p.1)
      ]
    ]),
  )

  pub answered_no : HoldsAt (λ x. R x false) things n → AnsweredBelow R things (n + 1) s
  answered_no fails = (
    omega (arith, twice, done.0),
    λ i lt. elim (ℕ_discrete i n) [
      | yes e ↦ inr (λ h. omega (arith, has_below n s i done.0 h), subst (HoldsAt (λ x. R x false) things) (sym e) fails)
      | no ne ↦ done.1 i (omega arith)
    ],
  )

-- the set has the places of the things with the property that the test decides
pub places_Gathered : {F A : Type 0} {g : Shared F (Bor A × Unit {0}) Bool} {f : F} (P : A → Type 0) (things : List A) (d : A) (s : ℕ)
    → s < 2 ^ length things → Answered (FnReturnsAt g f) things s
    → ((p : Bor A) (r : Bool) → g.post f (p, tt) r → Iff (T r) (P p.now))
    → Gathered (λ k. P (get_or things k d)) s (length things)
places_Gathered {g = g} {f = f} P things d s small answered decides i = (
  λ h. let lt = has_below (length things) s i small h in (lt, elim (answered i lt) [ inl a ↦ (at_thing true (a.1 d)).0 tt | inr a ↦ absurd (a.0 h) ]),
  λ p. elim (answered i p.0) [ inl a ↦ a.0 | inr a ↦ absurd ((at_thing false (a.1 d)).1 p.1) ],
)
  where
    at_thing : (r : Bool) → FnReturnsAt g f (get_or things i d) r → Iff (T r) (P (get_or things i d))
    at_thing r a = subst (λ x. Iff (T r) (P x)) a.shows (decides a.shown r a.says.met)
