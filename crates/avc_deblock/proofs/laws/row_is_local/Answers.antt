use Rattle.avc_deblock.proofs.FilteredPictures.{row_changes, row_reads, row_commutes}
use Rattle.avc_deblock.proofs.laws.row_is_local.Goals as goal

pub returns-clause-changes : goal.returns-clause-changes
returns-clause-changes call offset row above info s has = row_changes offset row above info s has

pub returns-clause-reads : goal.returns-clause-reads
returns-clause-reads call offset row above info s t has agrees = row_reads offset row above info s t has agrees

pub returns-clause-commutes : goal.returns-clause-commutes
returns-clause-commutes call offset row above info s has k left top width height f below = row_commutes offset row above info s has k left top width height f below
