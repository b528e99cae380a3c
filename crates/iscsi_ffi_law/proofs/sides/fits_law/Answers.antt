use Rattle.iscsi_ffi_law.proofs.premises.FitAll.{all_fit}
use Rattle.iscsi_ffi_law.proofs.sides.fits_law.Goals as goal

pub returns : goal.returns
returns c = record { fits = all_fit }
