-- What a field that writes a number looks like.
use Rattle.std.proofs.Common.{◌≡◌, ℕ, ◌^◌, ◌<◌, List, length, get_or, decimal, MatchOption, MatchResult, Option, Result, Ok, Err, sym, ap, ◌∙◌, subst, inl, inr, arith}
use native.Mathlib.Decide.{dec_lt}
use Rattle.std.specs.Borrow.{Bor}
use Rattle.std.specs.Result.{result_ok}
use Rattle.std.specs.Str.{IsUtf8}
use Rattle.std.specs.Str.Parse.{AllDigits, digits_value, ParsesUnsigned}
use Rattle.std.proofs.lemmas.Str.{IsUtf8-from_ascii}
use Rattle.std.proofs.lemmas.Str.Parse.{IsNumeralModel, numerals_by_value, tells_digits, parse_plain}
use Rattle.std.proofs.lemmas.Fmt.{IsAscii-decimal, decimal_nonempty, decimal_digit, first_decimal, digits_decimal, digits_value-decimal, decimal-digits_value}
use Rattle.lines.specs.Reading.{Padded, NoNumber}

pub plain : IsNumeralModel (AllDigits 10) (digits_value 10)
plain = numerals_by_value (AllDigits 10) tells_digits

-- no number is padded
none_padded : (n : ℕ) → n < 2 ^ 32 → Padded (decimal n) → ⊥
none_padded n small padded = elim (dec_lt 0 n) [
  | yes more ↦
      let first = first_decimal n more (omega arith) in elim padded [ inl plus ↦ omega arith | inr zero ↦ omega arith ]
  | no none ↦ let one = decimal_digit n (omega arith) in
      elim padded [ inl plus ↦ omega (arith, ap (λ (f : List ℕ). get_or f 0 0) one) | inr zero ↦ omega (arith, ap length one) ]
]

pub padded_number : (field : List ℕ) → Padded field → NoNumber field
padded_number field padded n small e = none_padded n small (subst Padded e padded)

-- a number is text
pub text_of : {E : Type 0} (V : E → Type 0) (field : List ℕ) (r : Result (Bor (List ℕ)) E) (o : Option (Bor (List ℕ))) → o ≡ result_ok r
    → MatchResult r (λ s. (s.now ≡ field) × IsUtf8 field) (λ e. (IsUtf8 field → ⊥) × V e) → MatchOption o (NoNumber field) (λ s. s.now ≡ field)
text_of V field (Ok s) o is h = rw is h.0
text_of V field (Err e) o is h = rw is (λ n small same. h.0 (subst IsUtf8 (sym same) (IsUtf8-from_ascii (decimal n) (IsAscii-decimal n (omega arith)))))

-- what `parse` makes of a field that is not padded
pub parsed_number : {E : Type 0} (field : List ℕ) (r : Result ℕ E) → ParsesUnsigned 32 10 field r → (Padded field → ⊥) → MatchOption (result_ok r) (NoNumber field) (λ n. (field ≡ decimal n) × (n < 2 ^ 32))
parsed_number {E} field (Ok n) h bare =
    let ((digits, some, small), is) = parse_plain plain {E = E} 32 field (Ok n) h (λ plus. bare (inl plus)) in
    let one : get_or field 0 0 ≡ 48 → length field ≡ 1 = λ zero. elim (dec_lt 1 (length field)) [ yes more ↦ absurd (bare (inr (zero, more))) | no none ↦ omega arith ] in
    (sym (decimal-digits_value plain field digits some one (omega arith)) ∙ ap decimal (sym is), omega arith)
parsed_number {E} field (Err e) h bare = λ n small same.
    parse_plain plain {E = E} 32 field (Err e) h (λ plus. bare (inl plus))
    (subst (λ (f : List ℕ). AllDigits 10 f × (0 < length f) × (digits_value 10 f < 2 ^ 32)) (sym same) (digits_decimal plain n (omega arith), decimal_nonempty n (omega arith), omega (arith, digits_value-decimal plain n (omega arith))))
