use Rattle.avc_deblock.proofs.FilteredPictures.{row_lines_filtered}
use Rattle.avc_deblock.proofs.laws.row_by_info_is_the_pictures.Goals as goal

pub returns : goal.returns
returns call c motion names row offset above info s are = row_lines_filtered c motion names row offset above info s are
