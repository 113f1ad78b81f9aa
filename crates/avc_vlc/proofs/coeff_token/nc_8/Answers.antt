use Rattle.avc_vlc.proofs.Entries.{ap, sym, ◌∙◌, Some, bits_of, six_bits_decide}
use Rattle.avc_vlc.proofs.coeff_token.nc_8.Goals as goal

pub returns-clause-decides : goal.returns-clause-decides
returns-clause-decides c = λ ahead is. record {
  bits = bits_of 6 c.front.result;
  is_entry = six_bits_decide c.front.result c.front.ensures.below ∙ ap (λ e. Some e) (sym c.six_bits.ensures);
  agrees = (c.front.ensures.agrees ahead is).agrees;
}
