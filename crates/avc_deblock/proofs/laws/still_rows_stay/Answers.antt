use Rattle.avc_deblock.proofs.FilteredPictures.{length, subst}
use Rattle.avc_deblock.specs.FilterInfo.{FirstStandStill}
use Rattle.avc_deblock.proofs.StillRows.{still_row}
use Rattle.avc_deblock.proofs.laws.still_rows_stay.Goals as goal

pub returns : goal.returns
returns call offset row above info frame s same ha hi =
    still_row offset row above info frame s (length info) (subst (λ n. FirstStandStill frame n above) same ha) hi
