-- What is written is read back as the same.
use Rattle.std.proofs.Common.{◌≡◌, ℕ, zero, suc, ◌-◌, ◌^◌, ◌<◌, ◌≤◌, List, [], ◌∷◌, ◌++◌, map, length, get_or, take, drop, replicate, decimal, Option, Result, Ok, Err, MatchResult, sym, refl, ap, ◌∙◌, subst, ap₂, inl, inr, append_assoc, arith, rules, take-append-drop, length-append, length-drop, length-take-le}
use Rattle.std.specs.Int.{IsInRange as Between}
use Rattle.std.proofs.lemmas.Fmt.{digits_decimal, decimal_injective}
use Rattle.std.proofs.lemmas.List.{append_cancel_left, length-map}
use Rattle.std.proofs.lemmas.Str.Parse.{not_in_digits}
use Rattle.base.specs.Words.{In}
use Rattle.base.specs.Commas.{tails}
use Rattle.lines.specs.declared.form.Form.{Form}
use Rattle.lines.specs.declared.form.Line.{Line}
use Rattle.lines.specs.declared.fault.TextFault.{TextFault}
use Rattle.lines.specs.declared.fault.TextFault.TheVariants.{Malformed, Misplaced, NotANumber, PrintTooLong, FileTooLong}
use Rattle.lines.specs.declared.read.Found.{Found}
use Rattle.lines.specs.Forms.{opening, arity, May}
use Rattle.lines.specs.Lines.{numbers_of, body, text, Whole}
use Rattle.lines.specs.Reading.{Shaped, Ended, Next, TextFails, endless, shapeless, misplaced, unreadable}
use Rattle.lines.proofs.Numbers.{plain}
use Rattle.lines.proofs.Fields.{Bare, AllBare, in_middle, bare_append, first_part, fields_unique}
use Rattle.lines.proofs.Openings.{same_opening, few_numbers}

-- each byte lies above the line feed
abbrev above : List ℕ → Type 0
above [] = Unit {0}
above (b ∷ bs) = (10 < b) × above bs

bare_above : (bs : List ℕ) → above bs → Bare 10 bs
bare_above (b ∷ bs) (lt, more) (inl e) = omega (arith, e)
bare_above (b ∷ bs) (lt, more) (inr i) = bare_above bs more i
bare_above [] more i = i

above_opening : (f : Form) → above (opening f)
above_opening f = search arith

place_in : (c : ℕ) (bs : List ℕ) → In c bs → (k : ℕ) × (k < length bs) × (get_or bs k 0 ≡ c)
place_in c [] i = absurd i
place_in c (b ∷ bs) (inl e) = (0, omega arith, sym e)
place_in c (b ∷ bs) (inr i) = let (k, lt, e) = place_in c bs i in (suc k, omega arith, e)

-- a number's digits have no other byte among them
bare_decimal : (c n : ℕ) → (Between 48 57 c → ⊥) → n < 2 ^ 32 → Bare c (decimal n)
bare_decimal c n other small i =
    let (k, lt, e) = place_in c (decimal n) i in
    not_in_digits plain (decimal n) c (digits_decimal plain n (omega arith)) other k lt e

-- numbers that are all small
abbrev Small : List ℕ → Type 0
Small ns = (n : ℕ) → In n ns → n < 2 ^ 32

in_take : (k : ℕ) (ns : List ℕ) (n : ℕ) → In n (take k ns) → In n ns
in_take zero [] n i = i
in_take (suc k) [] n i = i
in_take zero (m ∷ ns) n i = absurd i
in_take (suc k) (m ∷ ns) n i = search (rules, in_take k ns n)

bare_tails : (ns : List ℕ) → Small ns → Bare 10 (tails (map decimal ns))
bare_tails [] small i = i
bare_tails (n ∷ ns) small (inl e) = omega (arith, e)
bare_tails (n ∷ ns) small (inr i) =
    bare_append 10 (decimal n) (tails (map decimal ns)) (bare_decimal 10 n (λ h. omega arith) (small n (inl refl))) (bare_tails ns (λ m h. small m (inr h))) i

all_bare_decimals : (ns : List ℕ) → Small ns → AllBare (map decimal ns)
all_bare_decimals [] small f i = absurd i
all_bare_decimals (n ∷ ns) small f (inl e) = subst (Bare 44) (sym e) (bare_decimal 44 n (λ h. omega arith) (small n (inl refl)))
all_bare_decimals (n ∷ ns) small f (inr i) = all_bare_decimals ns (λ m h. small m (inr h)) f i

decimals_unique : (ms ns : List ℕ) → Small ms → Small ns → map decimal ms ≡ map decimal ns → ms ≡ ns
decimals_unique [] [] sm sn e = refl
decimals_unique [] (n ∷ ns) sm sn e = absurd (omega (arith, ap length e))
decimals_unique (m ∷ ms) [] sm sn e = absurd (omega (arith, ap length e))
decimals_unique (m ∷ ms) (n ∷ ns) sm sn e =
    let first : decimal m ≡ decimal n = cc in
    let rest : map decimal ms ≡ map decimal ns = cc in
    let small : m < 2 ^ 32 = sm m (inl refl) in
    let other : n < 2 ^ 32 = sn n (inl refl) in
    ap₂ ◌∷◌ (decimal_injective m n (omega arith) (omega arith) first) (decimals_unique ms ns (λ k i. sm k (inr i)) (λ k i. sn k (inr i)) rest)

small_numbers : (x : Line) → Whole x → Small (numbers_of x)
small_numbers x w n i = w.small n (in_take (arity x.form) x.numbers n i)

bare_body : (x : Line) → Whole x → Bare 10 (body x)
bare_body x w = bare_append 10 (opening x.form) (tails (map decimal (numbers_of x))) (bare_above (opening x.form) (above_opening x.form)) (bare_tails (numbers_of x) (small_numbers x w))

numbers_unique : (x y : Line) → Whole x → Whole y → x.form ≡ y.form → body x ≡ body y → x.numbers ≡ y.numbers
numbers_unique x y v w form same =
    let ms : List ℕ = numbers_of x in
    let ns : List ℕ = numbers_of y in
    let behind : tails (map decimal ms) ≡ tails (map decimal ns) = append_cancel_left (opening x.form) _ _ (same ∙ ap (λ (f : Form). opening f ++ tails (map decimal ns)) (sym form)) in
    let fields : map decimal ms ≡ map decimal ns = fields_unique (map decimal ms) (map decimal ns) (all_bare_decimals ms (small_numbers x v)) (all_bare_decimals ns (small_numbers y w)) behind in
    let front : ms ≡ ns = decimals_unique ms ns (small_numbers x v) (small_numbers y w) fields in
    let back : drop (arity x.form) x.numbers ≡ drop (arity y.form) y.numbers = v.rest ∙ ap (λ (f : Form). replicate (4 - arity f) 0) form ∙ sym w.rest in
    sym (take-append-drop (arity x.form) x.numbers) ∙ ap₂ (λ (a b : List ℕ). a ++ b) front back ∙ take-append-drop (arity y.form) y.numbers

-- a line that was written is the only one that the bytes go on with
pub text_unique : (x y : Line) → Whole x → Whole y → (r s : List ℕ) → text x ++ r ≡ text y ++ s → (x ≡ y) × (r ≡ s)
text_unique x y v w r s e =
    let (same, rest) = first_part 10 (body x) (body y) r s (bare_body x v) (bare_body y w) (sym (append_assoc (body x) (10 ∷ []) r) ∙ e ∙ append_assoc (body y) (10 ∷ []) s) in
    let form : x.form ≡ y.form = same_opening x.form y.form (tails (map decimal (numbers_of x))) (tails (map decimal (numbers_of y))) same in
    (ap₂ (λ (f : Form) (ns : List ℕ). record { form = f; numbers = ns }) form (numbers_unique x y v w form same), rest)

-- a line has the shape of its form
own_shape : (x : Line) → Whole x → Shaped (body x) x.form (map decimal (numbers_of x))
own_shape x w =
    record {
      rest = tails (map decimal (numbers_of x));
      opened = refl;
      parted = record { bytes = refl; bare = all_bare_decimals (numbers_of x) (small_numbers x w) };
      count = length-map (numbers_of x) decimal ∙ length-take-le (arity x.form) x.numbers (omega (arith, few_numbers x.form, w.four));
    }

in_decimals : (field : List ℕ) (ns : List ℕ) → In field (map decimal ns) → (n : ℕ) × In n ns × (field ≡ decimal n)
in_decimals field [] i = absurd i
in_decimals field (n ∷ ns) (inl e) = (n, inl refl, e)
in_decimals field (n ∷ ns) (inr i) = let (m, at, e) = in_decimals field ns i in (m, inr at, e)

-- a line that was written, and may stand there, is never refused for its text
module _ (last : Option Form) (users : ℕ) (bs : List ℕ) (x : Line) (after : List ℕ) (w : Whole x) (may : May last users x.form) (e : bs ≡ text x ++ after) where
  same_line : (line rest : List ℕ) → Ended bs line rest → line ≡ body x
  same_line line rest ended = (first_part 10 line (body x) rest after ended.first (bare_body x w) (sym ended.split ∙ e ∙ append_assoc (body x) (10 ∷ []) after)).0

  same_shape : (line rest : List ℕ) → Ended bs line rest → (f : Form) (fields : List (List ℕ)) → Shaped line f fields → (f ≡ x.form) × (fields ≡ map decimal (numbers_of x))
  same_shape line rest ended f fields s =
      let is : opening f ++ s.rest ≡ body x = sym s.opened ∙ same_line line rest ended in
      let form : f ≡ x.form = same_opening f x.form s.rest (tails (map decimal (numbers_of x))) is in
      let behind : s.rest ≡ tails (map decimal (numbers_of x)) = append_cancel_left (opening x.form) s.rest (tails (map decimal (numbers_of x))) (ap (λ (g : Form). opening g ++ s.rest) (sym form) ∙ is) in
      (form, fields_unique fields (map decimal (numbers_of x)) s.parted.bare (all_bare_decimals (numbers_of x) (small_numbers x w)) (sym s.parted.bytes ∙ behind))

  pub no_text_fault : (f : TextFault) → TextFails last users bs f → ⊥
  no_text_fault Malformed (endless none) = none (subst (In 10) (sym (e ∙ append_assoc (body x) (10 ∷ []) after)) (in_middle 10 (body x) after))
  no_text_fault Malformed (shapeless line rest ended none) = none x.form (map decimal (numbers_of x)) (subst (λ (l : List ℕ). Shaped l x.form (map decimal (numbers_of x))) (sym (same_line line rest ended)) (own_shape x w))
  no_text_fault Misplaced (misplaced line rest ended f fields s never) = never (subst (May last users) (sym (same_shape line rest ended f fields s).0) may)
  no_text_fault NotANumber (unreadable line rest ended f fields s _ field i none) =
      let (n, at, is) = in_decimals field (numbers_of x) (subst (In field) (same_shape line rest ended f fields s).1 i) in
      none n (small_numbers x w n at) is
  no_text_fault PrintTooLong never = elim never [ ]
  no_text_fault FileTooLong never = elim never [ ]

-- bytes that go on with a line that may stand there are read as that line
pub read_as : (last : Option Form) (users : ℕ) (bs : List ℕ) (r : Result Found TextFault)
    → MatchResult r (λ y. (0 < y.length) × (y.length ≤ length bs) × Next last users bs y.line (drop y.length bs)) (TextFails last users bs)
    → (x : Line) (after : List ℕ) → Next last users bs x after → r ≡ Ok (record { line = x; length = length (text x) })
read_as last users bs (Ok y) (some, within, n) x after m =
    let (same, behind) = text_unique y.line x n.whole m.whole (drop y.length bs) after (sym n.split ∙ m.split) in
    let long : y.length ≡ length (text y.line) = omega (arith, within, ap length n.split ∙ length-append (text y.line) (drop y.length bs), length-drop y.length bs) in
    ap₂ (λ (l : Line) (k : ℕ). Ok (record { line = l; length = k })) same (long ∙ ap (λ (l : Line). length (text l)) same)
read_as last users bs (Err f) fails x after m = absurd (no_text_fault last users bs x after m.whole m.may m.split f fails)
