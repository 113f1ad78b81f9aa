use Rattle.avc_mbsyntax.proofs.SliceDataReading.{◌≡◌, length, rules, Sub8x8, four_quarters}
use Rattle.avc_mbsyntax.proofs.inter.parts_of_quarters.Goals as goal

pub returns-clause-value : goal.returns-clause-value
returns-clause-value c =
    let long : length c.args.subs.now ≡ 4 = search rules in
    rw (c.parts_of_quarter.ensures.value, c.parts_of_quarter-2.ensures.value, c.parts_of_quarter-3.ensures.value, c.parts_of_quarter-4.ensures.value) (four_quarters c.args.subs.now Sub8x8 long)
