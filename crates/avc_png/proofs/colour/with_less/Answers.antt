use Rattle.std.proofs.Common.{◌≡◌, ◌-ℤ◌, ap, ◌∙◌, arith, w64, to_z, of_z}
use Rattle.std.proofs.lemmas.Int.{ints}
use Rattle.avc_png.specs.Colour.{rounded}
use Rattle.avc_png.proofs.colour.with_less.Goals as goal

pub returns : goal.returns
returns c =
    let grey = to_z w64 (of_z w64 c.args.grey) in
    let by_cb = to_z w64 (of_z w64 c.args.by_cb) in
    let by_cr = to_z w64 (of_z w64 c.args.by_cr) in
    let first : to_z w64 (of_z w64 (grey -ℤ by_cb)) ≡ c.args.grey -ℤ c.args.by_cb = omega (arith, ints) in
    let both : to_z w64 (of_z w64 (to_z w64 (of_z w64 (grey -ℤ by_cb)) -ℤ by_cr)) ≡ c.args.grey -ℤ c.args.by_cb -ℤ c.args.by_cr = omega (arith, ints, first) in
    c.rounded.ensures ∙ ap rounded both
