-- The refusals of the label kinds, by number.
use Rattle.std.specs.Prelude.{◌≡◌, ℕ, ◌⊎◌, Result, MatchResult}
use Rattle.labels.specs.Order.{LabelOrder, Label, JoinPrime}
use Rattle.labels.specs.declared.fault.KindFault.{KindFault}
use Rattle.labels.specs.declared.fault.KindFault.TheVariants.{SizeOutOfLimits, Loop, NoMeetOrJoin, NotALabel, NotAdmitted}

abbrev pub number : KindFault → ℕ
number SizeOutOfLimits = 4
number Loop = 5
number NoMeetOrJoin = 6
number NotALabel = 8
number NotAdmitted = 17

-- a size is refused exactly outside the limits; within them the value that is made has property P
abbrev pub Sized : {A : Type 0} → Type 0 → (A → Type 0) → Result A KindFault → Type 0
Sized Limits P r = MatchResult r (λ k. Limits × P k) (λ f. (f ≡ SizeOutOfLimits) × (Limits → ⊥))

-- why a number is refused as a user: it is no label, or one that is not admitted
abbrev pub UserRefused : LabelOrder → ℕ → KindFault → Type 0
UserRefused k u f = ((Label k u → ⊥) × (f ≡ NotALabel)) ⊎ (Label k u × (JoinPrime k u → ⊥) × (f ≡ NotAdmitted))
