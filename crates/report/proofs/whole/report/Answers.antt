use Rattle.report.proofs.Inverse.{read_back}
use Rattle.report.proofs.OneOutcome.{one_outcome}
use Rattle.report.proofs.Clearing.{zero_filled, report_left}
use Rattle.report.proofs.whole.report.Goals as goal

pub returns : goal.returns
returns c =
    record {
      told = report_left _ _ _ _ c.outcome_of-outcome.result c.unwrap_or.result c.unwrap_or.ensures _ c.outcome_of-outcome.ensures c.outcome_of-outcome.auto.output _ (c.fill-3.ensures.after (λ y h. h)) _ _
          (zero_filled _ _ (c.fill.ensures.after (λ y h. h))) (zero_filled _ _ (c.fill-2.ensures.after (λ y h. h)));
      unique = one_outcome _ _ _ _;
      inverse = read_back _ _;
    }
