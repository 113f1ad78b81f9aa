use Rattle.avc_neigh.proofs.Found.{total_coeffs_found}
use Rattle.avc_neigh.proofs.laws.total_coeffs_are_found.Goals as goal

pub returns : goal.returns
returns c = total_coeffs_found
