-- What is left when all but the print is cleared.
use Rattle.std.proofs.Common.{◌≡◌, ℕ, ◌-◌, List, [], ◌++◌, length, take, drop, replicate, Ok, Err, Result, sym, refl, ap, ◌∙◌, ap₂, append-nil, arith, length-drop}
use borrow.Rule.Slice.PartMut.{put_mid}
use Rattle.std.proofs.lemmas.List.{drop_all, take_at, take_rest, length-replicate}
use Rattle.std.specs.Result.{result_unwrap_or}
use Rattle.report.specs.declared.fault.ReportFault.{ReportFault}
use Rattle.report.specs.Report.{Zero, Reported}
use Rattle.report.specs.Stands.{Outcome}

-- zeros are zeros, however they are counted
pub zero_filled : (xs : List ℕ) (n : ℕ) → xs ≡ replicate n 0 → Zero xs
zero_filled xs n e = e ∙ ap (λ (m : ℕ). replicate m 0) (sym (ap length e ∙ length-replicate n 0))

-- the bytes from a on are zero, and those before are the print
cleared_from : (t xs out ys : List ℕ) (a : ℕ) → a ≡ length t → xs ≡ t ++ drop a out → length xs ≡ length out → ys ≡ replicate (length (take (length xs - a) (drop a xs))) 0
    → put_mid a (length xs - a) xs ys ≡ t ++ replicate (length out - a) 0
cleared_from t xs out ys a many print long zeros =
    let none : drop (length xs - a) (drop a xs) ≡ [] = drop_all (length xs - a) (drop a xs) (omega (arith, length-drop a xs)) in
    let count : length (take (length xs - a) (drop a xs)) ≡ length out - a = ap length (take_rest xs a) ∙ length-drop a xs ∙ ap (λ (n : ℕ). n - a) long in
    ap₂ (λ (us vs : List ℕ). us ++ vs) (ap (take a) print ∙ take_at t (drop a out) a (sym many))
    (ap (λ (vs : List ℕ). ys ++ vs) none ∙ append-nil ys ∙ zeros ∙ ap (λ (n : ℕ). replicate n 0) count)

-- behind a print, and everywhere after a refusal
pub report_left : (file : List ℕ) (p w : ℕ) (out : List ℕ) (r : Result ℕ ReportFault) (n : ℕ) → n ≡ result_unwrap_or r 0 → (xs : List ℕ) → Outcome p w file out r xs → length xs ≡ length out
    → (ys : List ℕ) → ys ≡ replicate (length (take (length xs - n) (drop n xs))) 0 → (places area : List ℕ) → Zero places → Zero area → Reported file p w (length out) r places area (put_mid n (length xs - n) xs ys)
report_left file p w out (Ok m) n e xs (short, (t, print, (count, room, left))) long ys zeros places area places_zero area_zero =
    let cleared = cleared_from t xs out ys n (e ∙ count) (left ∙ ap (λ (k : ℕ). t ++ drop k out) (sym e)) long zeros in
    (places_zero, area_zero, short, (t, print, count, room, cleared ∙ ap (λ (k : ℕ). t ++ replicate (length out - k) 0) e))
report_left file p w out (Err f) n e xs refused long ys zeros places area places_zero area_zero =
    (places_zero, area_zero, zero_filled _ _ (cleared_from [] xs xs ys n e (ap (λ (k : ℕ). drop k xs) (sym e)) refl zeros), refused)
