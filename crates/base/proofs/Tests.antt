-- Tests of the code, as the statements that they decide.
use Rattle.std.proofs.Common.{◌≡◌, ℕ, ◌<◌, ◌≤◌, Bool, true, false, ◌&&◌, T, eqb, ltb, leb, Some, None, Option, refl, le→leb, eqb→eq, ltb→lt, lt→ltb, leb→le, MatchOption}
use lib.Dec.{eqb_refl}
use Rattle.base.specs.Words.{Iff}

pub eqb_iff : (m n : ℕ) → Iff (T (eqb m n)) (m ≡ n)
eqb_iff m n = (eqb→eq m n, λ e. rw e (eqb_refl n))

pub ltb_iff : (m n : ℕ) → Iff (T (ltb m n)) (m < n)
ltb_iff m n = (ltb→lt m n, lt→ltb m n)

pub leb_iff : (m n : ℕ) → Iff (T (leb m n)) (m ≤ n)
leb_iff m n = (leb→le m n, le→leb m n)

-- a test that is said to be true passes, and one that passes is true
pub passed : {b : Bool} → b ≡ true → T b
passed e = rw e tt

pub is_true : (b : Bool) → T b → b ≡ true
is_true true t = refl
is_true false t = absurd t

-- one that fails does not pass
pub failed : {b : Bool} → b ≡ false → T b → ⊥
failed e t = rw e at t

-- a test of two parts passes where each of them does
pub and_left : (a b : Bool) → T (a && b) → T a
and_left true b t = tt
and_left false b t = t

pub and_right : (a b : Bool) → T (a && b) → T b
and_right true b t = t
and_right false b t = absurd t

pub both_fail : {P Q : Type 0} → (P → ⊥) → (Q → ⊥) → Iff P Q
both_fail f g = (λ p. absurd (f p), λ q. absurd (g q))

pub both_hold : {P Q : Type 0} → P → Q → Iff P Q
both_hold p q = (λ _. q, λ _. p)

pub iff_trans : {P Q R : Type 0} → Iff P Q → Iff Q R → Iff P R
iff_trans f g = (λ p. g.0 (f.0 p), λ r. f.1 (g.1 r))

-- what is said of an optional value, said weaker
pub option_weaker : {A : Type 0} (o : Option A) {P P' : Type 0} {Q Q' : A → Type 0} → MatchOption o P Q → (P → P') → ((x : A) → Q x → Q' x) → MatchOption o P' Q'
option_weaker None c p q = p c
option_weaker (Some x) c p q = q x c
