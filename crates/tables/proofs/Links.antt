-- Rows that a closure makes of labels or of other rows, and rows that are linked one after the other, as orders.
use Rattle.std.proofs.Common.{◌≡◌, ℕ, ◌+◌, ◌<◌, ◌≤◌, ◌⊎◌, ◌^◌, List, length, get_or, set, sym, ap, ◌∙◌, subst, inl, inr, ⊎_elim, arith, length-set, get_or-set_other}
use Rattle.std.proofs.Math.Decide.{ℕ_discrete, dec_lt}
use Rattle.std.proofs.lemmas.List.{get_or_past}
use Rattle.std.specs.Array.{IsFromFnResult}
use Rattle.std.specs.Fn.{Called}
use denote.Param.Members.{Mut}
use lib.Bits.{bit_or}
use Rattle.base.specs.Bits.{Has}
use Rattle.base.specs.Words.{Iff}
use Rattle.base.proofs.Sets.{has_zero, has_single, has_or_not, has_or, has_or_left, has_or_right}
use Rattle.base.proofs.Arrays.{from_fn_same}
use Rattle.tables.proofs.Matrix.{marked_here, marked_other}
use Rattle.tables.specs.Rows.{Marked, Inside, Linked, IsColumn, Flipped}

-- beyond the 32 rows nothing is marked
past : (rows : List ℕ) → length rows ≡ 32 → (a b : ℕ) → 32 ≤ a → Marked rows a b → ⊥
past rows long a b ge h = has_zero b (rw (get_or_past rows a 0 (omega arith)) at h)

-- row a where each of the labels below n is at or below itself alone
pub record AloneRow (n a row : ℕ) : Type 0 where
  pub label : a < n → row ≡ 2 ^ a
  pub other : n ≤ a → row ≡ 0

-- the labels at or below b, where b is one of the labels below n
pub record ColumnRow (n : ℕ) (rows : List ℕ) (b row : ℕ) : Type 0 where
  pub label : b < n → IsColumn rows b row
  pub other : n ≤ b → row ≡ 0

module _ {F : Type 0} (g : Mut F (ℕ × Unit {0}) ℕ) (f : F) where
  pub alone_rows : (n : ℕ) (rows : List ℕ) → n ≤ 32 → ((a row : ℕ) (f' : F) → Called g f (a, tt) row f' → AloneRow n a row × (f' ≡ f)) → IsFromFnResult g f rows 32
      → (a b : ℕ) → Iff (Marked rows a b) ((a < n) × (b ≡ a))
  alone_rows n rows small step made a b =
      let alone = from_fn_same g (AloneRow n) f step rows 32 made a 0 in
      elim (dec_lt a n) [
        | yes l ↦ let one = has_single a b in rw ((alone (omega arith)).label l) (λ h. (l, one.0 h), λ p. one.1 p.1)
        | no ge ↦ (
          λ h. elim (dec_lt a 32) [ yes l ↦ absurd (has_zero b (rw ((alone l).other (omega arith)) at h)) | no far ↦ absurd (past rows made.long a b (omega arith) h) ],
          λ p. absurd (omega arith),
        )
      ]

  module _ (n : ℕ) (old new : List ℕ) (small : n ≤ 32) (inside : Inside n old) where
    pub flipped_rows : ((b row : ℕ) (f' : F) → Called g f (b, tt) row f' → ColumnRow n old b row × (f' ≡ f)) → IsFromFnResult g f new 32 → Flipped old new
    flipped_rows step made a b =
        elim (dec_lt b n) [
          | yes l ↦ ((from_fn_same g (ColumnRow n old) f step new 32 made b 0 (omega arith)).label l).marks a
          | no ge ↦ (λ h. absurd (outside b ge a h), λ h. absurd (omega (arith, inside a b h)))
        ]
      where
        outside : (b : ℕ) → (b < n → ⊥) → (a : ℕ) → Marked new b a → ⊥
        outside b ge a h = elim (dec_lt b 32) [
          | yes l ↦ has_zero a (rw ((from_fn_same g (ColumnRow n old) f step new 32 made b 0 l).other (omega arith)) at h)
          | no far ↦ past new made.long b a (omega arith) h
        ]

-- a is at or below b once low is below high
abbrev pub Either : List ℕ → ℕ → ℕ → ℕ → ℕ → Type 0
Either old low high a b = Marked old a b ⊎ (Marked old a low × Marked old high b)

-- the rows below i are linked, and the others are as they were
abbrev pub LinkedTo : List ℕ → ℕ → ℕ → List ℕ → ℕ → Type 0
LinkedTo old low high rows i =
    (length rows ≡ 32)
    × ((a b : ℕ) → a < i → Iff (Marked rows a b) (Either old low high a b))
    × ((a : ℕ) → i ≤ a → get_or rows a 0 ≡ get_or old a 0)

module _ (old rows : List ℕ) (low high i : ℕ) (within : i < 32) (done : LinkedTo old low high rows i) where
  -- row i is at or below low, and is written
  pub link_row : (v : ℕ) → v ≡ bit_or (get_or old i 0) (get_or old high 0) → Marked old i low → LinkedTo old low high (set rows i v) (i + 1)
  link_row v is under = (length-set rows i v ∙ done.0, below, λ a h. get_or-set_other rows i a v 0 (omega arith) ∙ done.2 a (omega arith))
    where
      row : (b : ℕ) → Iff (Has v b) (Either old low high i b)
      row b =
          rw is (
            λ h. ⊎_elim inl (λ q. inr (under, q)) (has_or (get_or old i 0) (get_or old high 0) b h),
            ⊎_elim (has_or_left (get_or old i 0) (get_or old high 0) b) (λ p. has_or_right (get_or old i 0) (get_or old high 0) b p.1),
          )

      below : (a b : ℕ) → a < i + 1 → Iff (Marked (set rows i v) a b) (Either old low high a b)
      below a b h =
          elim (ℕ_discrete a i) [
            | yes e ↦
                subst (λ (x : ℕ). Iff (Marked (set rows i v) x b) (Either old low high x b)) (sym e)
                (rw (marked_here rows i v b (omega arith)) (row b))
            | no ne ↦ rw (marked_other rows i v a b ne) (done.1 a b (omega arith))
          ]

  -- row i is not at or below low, and stays
  pub skip_row : (Marked old i low → ⊥) → LinkedTo old low high rows (i + 1)
  skip_row apart = (done.0, below, λ a h. done.2 a (omega arith))
    where
      row : (b : ℕ) → Iff (Marked rows i b) (Either old low high i b)
      row b =
          let same : Marked rows i b ≡ Marked old i b = ap (λ s. Has s b) (done.2 i (omega arith)) in
          rw same (inl, ⊎_elim (λ h. h) (λ p. absurd (apart p.0)))

      below : (a b : ℕ) → a < i + 1 → Iff (Marked rows a b) (Either old low high a b)
      below a b h =
          elim (ℕ_discrete a i) [
            | yes e ↦ subst (λ (x : ℕ). Iff (Marked rows x b) (Either old low high x b)) (sym e) (row b)
            | no ne ↦ done.1 a b (omega arith)
          ]

-- when all rows of labels are linked, the whole order is
pub linked_all : (n : ℕ) (old rows : List ℕ) (low high : ℕ) → Inside n old → (i : ℕ) → n ≤ i → LinkedTo old low high rows i → Linked old rows low high
linked_all n old rows low high inside i whole done a b =
    elim (dec_lt a i) [
      | yes l ↦ done.1 a b l
      | no ge ↦
          let same : Marked rows a b ≡ Marked old a b = ap (λ s. Has s b) (done.2 a (omega arith)) in
          rw same (inl, ⊎_elim (λ h. h) (λ p. absurd (omega (arith, inside a low p.0))))
    ]
