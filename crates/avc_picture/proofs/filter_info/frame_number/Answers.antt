use Rattle.avc_picture.proofs.Slices.{◌∙◌, ap, sym, slice_index_or, number_of}
use Rattle.avc_picture.proofs.filter_info.frame_number.Goals as goal

pub returns-then-index-lt16 : goal.returns-then-index-lt16
returns-then-index-lt16 c =
    let numbers = c.args.frame_numbers.now in
    ap (λ index. slice_index_or numbers index 0) c.from-index.ensures ∙ sym (ap (number_of numbers) c.in-Inter.is)
