use Rattle.avc_picture.proofs.Slices.{◌∙◌, sym, ap, not, ◌==◌, [], slice_index, slice_index_or, total_coeff, has_coefficients, syntax_of, counted_or_not}
use Rattle.std.proofs.Math.ListN.{get_or-map}
use Rattle.avc_neigh.specs.TotalCoeffs.{total_coeffs_of}
use Rattle.avc_picture.proofs.filter_info.coefficients.Goals as goal

pub returns-in-PInter : goal.returns-in-PInter
returns-in-PInter c k h =
    let inter = ap (λ m. m.syntax) (sym c.mb.view_is) ∙ ap syntax_of c.in-PInter.is in
    c.coded_blocks.ensures k h
    ∙ ap (λ counts. not (slice_index counts k == 0)) (c.requires ∙ ap (λ s. (total_coeffs_of s).luma) inter)
    ∙ ap (λ n. not (n == 0)) (get_or-map total_coeff _ k [])
    ∙ counted_or_not (slice_index_or _ k [])
    ∙ ap (λ s. has_coefficients s k) (sym inter)
