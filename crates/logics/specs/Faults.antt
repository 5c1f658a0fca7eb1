-- The refusals of this layer.
use Rattle.std.specs.Prelude.{ℕ}
use Rattle.logics.specs.declared.LogicFault.{LogicFault}
use Rattle.logics.specs.declared.LogicFault.TheVariants.{SizeOutOfLimits, RecordNotTaken, GoalNotTaken}

-- the number of each refusal
abbrev pub numbered : LogicFault → ℕ
numbered SizeOutOfLimits = 7
numbered RecordNotTaken = 9
numbered GoalNotTaken = 13
