use Rattle.avc_make.proofs.Slices.{◌≡◌, to_z, of_z, w16, ap, arith, append_assoc, ints, length-map, values_of}
use Rattle.avc_make.proofs.Slices.{sign_at, ◌≤◌, length}
use Rattle.avc_make.proofs.block_writing.put_signs.Goals as goal

pub ones-preserved : goal.ones-preserved
ones-preserved c =
    let same : to_z w16 (of_z w16 c.level.result) ≡ c.level.result = omega (arith, ints, c.level.type_inv) in
    let within : c.args.ones ≤ length (values_of c.args.found.now) = omega (arith, c.requires.ones, length-map c.args.found.now (λ p. p.0)) in
    let here = sign_at c.args.ones c.ones.k (values_of c.args.found.now) c.level.result (omega arith) within c.level.ensures in
    record {
      going = ap (λ m. m.failed) c.in_ok-flag.ensures.1;
      put = rw (c.in_ok-flag.ensures.1, append_assoc, same, ← here) c.ones.invariant.put;
    }
