-- When the bytes of a file go on with a line, and why they do not.
use Rattle.std.specs.Prelude.{◌≡◌, ℕ, ◌-◌, ◌^◌, ◌<◌, ◌⊎◌, List, ◌∷◌, ◌++◌, map, length, take, drop, replicate, decimal, Option, Some, None, ◌≢◌, slice_index}
use Rattle.base.specs.Words.{In}
use Rattle.base.specs.Commas.{tails}
use Rattle.lines.specs.declared.form.Form.{Form}
use Rattle.lines.specs.declared.form.Line.{Line}
use Rattle.lines.specs.declared.fault.TextFault.{TextFault}
use Rattle.lines.specs.declared.fault.TextFault.TheVariants.{Malformed, Misplaced, NotANumber}
use Rattle.lines.specs.Forms.{opening, arity, May}
use Rattle.lines.specs.Lines.{text, Whole}

-- the first place where the byte stands in the bytes, or none where it does not
abbrev pub FirstPlace : ℕ → List ℕ → Option ℕ → Type 0
FirstPlace b bs None = (k : ℕ) → k < length bs → slice_index bs k ≢ b
FirstPlace b bs (Some i) = (i < length bs) × (slice_index bs i ≡ b) × ((k : ℕ) → k < i → slice_index bs k ≢ b)

-- these fields, each behind a comma and none with a comma in it
pub record Parted (bs : List ℕ) (fields : List (List ℕ)) : Type 0 where
  pub bytes : bs ≡ tails fields
  pub bare : (f : List ℕ) → In f fields → In 44 f → ⊥

-- a line without its end has this form, with as many fields behind its opening as the form has numbers
pub record Shaped (line : List ℕ) (f : Form) (fields : List (List ℕ)) : Type 0 where
  pub rest : List ℕ
  pub opened : line ≡ opening f ++ rest
  pub parted : Parted rest fields
  pub count : length fields ≡ arity f

-- a field that begins with a plus sign, or with a zero before another byte
abbrev pub Padded : List ℕ → Type 0
Padded field = (slice_index field 0 ≡ 43) ⊎ ((slice_index field 0 ≡ 48) × (1 < length field))

-- a field that is no decimal number to 4,294,967,295 without leading zeros
abbrev pub NoNumber : List ℕ → Type 0
NoNumber field = (n : ℕ) → n < 2 ^ 32 → field ≢ decimal n

-- the first line of the bytes, and what stands behind its end
pub record Ended (bytes line after : List ℕ) : Type 0 where
  pub split : bytes ≡ line ++ (10 ∷ after)
  pub first : In 10 line → ⊥

-- the bytes go on with a line that may stand there
pub record Next (last : Option Form) (users : ℕ) (bytes : List ℕ) (x : Line) (after : List ℕ) : Type 0 where
  pub split : bytes ≡ text x ++ after
  pub whole : Whole x
  pub may : May last users x.form

-- why the bytes do not go on with a line that may stand there: the first of three checks that fails
pub data TextFails (last : Option Form) (users : ℕ) (bytes : List ℕ) : TextFault → Type 0 where
  endless : (In 10 bytes → ⊥) → TextFails last users bytes Malformed
  shapeless : (line after : List ℕ) → Ended bytes line after → ((f : Form) (fields : List (List ℕ)) → Shaped line f fields → ⊥) → TextFails last users bytes Malformed
  misplaced : (line after : List ℕ) → Ended bytes line after → (f : Form) (fields : List (List ℕ)) → Shaped line f fields → (May last users f → ⊥) → TextFails last users bytes Misplaced
  unreadable : (line after : List ℕ) → Ended bytes line after → (f : Form) (fields : List (List ℕ)) → Shaped line f fields → May last users f
      → (field : List ℕ) → In field fields → NoNumber field → TextFails last users bytes NotANumber

-- these numbers, and zeros behind them, are what the fields write
pub record Numbered (fields : List (List ℕ)) (numbers : List ℕ) : Type 0 where
  pub four : length numbers ≡ 4
  pub small : (n : ℕ) → In n numbers → n < 2 ^ 32
  pub read : fields ≡ map decimal (take (length fields) numbers)
  pub rest : drop (length fields) numbers ≡ replicate (4 - length fields) 0
