use Rattle.avc_make.proofs.Slices.{◌-◌, ◌%◌, ◌≡◌, ap, ◌∙◌, length, with_bits, zeros_put}
use Rattle.avc_make.proofs.pcm_writing.put_alignment.Goals as goal

pub returns : goal.returns
returns c =
    let maker = c.args.maker.now in
    let count : (8 - c.len.result % 8) % 8 ≡ (8 - length maker.bits % 8) % 8 = ap (λ k. (8 - k % 8) % 8) c.len.ensures in
    (c.in_ok-put.ensures.0, c.in_ok-put.ensures.1 ∙ ap (λ t. with_bits maker t) (zeros_put (length maker.bits) ((8 - c.len.result % 8) % 8) count))
