use Rattle.std.proofs.Common.{eqb}
use Rattle.std.proofs.lemmas.Bool.Decides.{Decides-eqb}
use Rattle.path.specs.CodedPaths.{code_steps}
use Rattle.fitting.proofs.Exact.{fits_by_equation}
use Rattle.fitting.proofs.codes.fits_codes.Goals as goal

pub returns : goal.returns
returns c =
    record { answer = c.fits.ensures.answer; means = fits_by_equation eqb Decides-eqb 0 c.args.ending (code_steps c.args.path.now) c.args.labels.now c.fits.result c.fits.ensures.answer }
