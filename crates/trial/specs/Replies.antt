-- What a line is answered, as it is printed.
--
--   reply_of r      the reply for the answer r
--   reply_text p    `yes`, `no`, or the refusal
--
-- Assumes nothing.
use Rattle.std.specs.Prelude.{ℕ, List, Ok, Err, Result}
use Rattle.refusal.specs.declared.refusal.Refusal.{Refusal}
use Rattle.refusal.specs.Lines.{refusal_text}
use Rattle.fitting.specs.declared.fit.Fit.{Fit}
use Rattle.fitting.specs.Fitting.{fit_text}
use Rattle.trial.specs.declared.fault.LineFault.{LineFault}
use Rattle.trial.specs.Refusals.{line_refusal}

abbrev pub reply_of : Result Fit LineFault → Result Fit Refusal
reply_of (Ok fit) = Ok fit
reply_of (Err fault) = Err (line_refusal fault)

abbrev pub reply_text : Result Fit Refusal → List ℕ
reply_text (Ok fit) = fit_text fit
reply_text (Err r) = refusal_text r
