use Rattle.iscsi_report.proofs.AnswerDigits.{halves_of_four}
use Rattle.iscsi_report.proofs.vector.digits_of_four.Goals as goal

pub returns-clause-first : goal.returns-clause-first
returns-clause-first c =
    (halves_of_four _ _ _ _ _ _ c.digits_of.ensures.len c.ranges.first.fits c.ranges.second.fits c.ranges.third.fits c.ranges.fourth.fits
    c.digits_of.ensures.digits).0

pub returns-clause-second : goal.returns-clause-second
returns-clause-second c =
    (halves_of_four _ _ _ _ _ _ c.digits_of.ensures.len c.ranges.first.fits c.ranges.second.fits c.ranges.third.fits c.ranges.fourth.fits
    c.digits_of.ensures.digits).1

pub returns-clause-others : goal.returns-clause-others
returns-clause-others c =
    (halves_of_four _ _ _ _ _ _ c.digits_of.ensures.len c.ranges.first.fits c.ranges.second.fits c.ranges.third.fits c.ranges.fourth.fits
    c.digits_of.ensures.digits).2
