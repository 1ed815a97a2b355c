-- A row fits another where its label and its marks do.
use Rattle.onto.specs.Onto.{not_so}
use Rattle.onto.proofs.Onto.{yes_told, no_told, same_tells}
use Rattle.onto.proofs.fits.Goals as goal

pub returns-then-label_fits : goal.returns-then-label_fits
returns-then-label_fits c =
    let l = yes_told c.label_fits.ensures c.if-label_fits.true in same_tells (λ m. (l, m.0, m.1)) (λ t. (t.1, t.2)) c.marks_fit.ensures

pub returns-else-label_fits : goal.returns-else-label_fits
returns-else-label_fits c = rw c.if-label_fits.false (not_so (λ t. no_told c.label_fits.ensures c.if-label_fits.false t.0))
