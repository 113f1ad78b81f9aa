use Rattle.avc_deblock.proofs.FilteredPictures.{edge_is}
use Rattle.avc_deblock.proofs.laws.edge_by_info_is_the_pictures.Goals as goal

pub returns : goal.returns
returns call c motion names column row a offset v n p q s at same low across down hp hq =
    edge_is c motion names column row a at offset same v n low p q across down hp hq s
