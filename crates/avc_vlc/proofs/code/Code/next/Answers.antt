use Rattle.avc_vlc.proofs.Entries.{◌≡◌, ◌≤◌, rules, length, min, arith, reader_bits, code_is}
use Rattle.avc_vlc.proofs.code.Code.next.Goals.{then-count-test+else-not-has, else-count-test}
use Rattle.avc_vlc.proofs.code.Code.next.Goals as goal

pub returns-clause-bits : goal.returns-clause-bits
returns-clause-bits g c =
    let all : c.count.count ≡ min g.row.N (length (reader_bits c.args.reader.now).ahead) = elim c.count-test.branch [ then-count-test+else-not-has w ↦ let there : c.count.count ≤ length (reader_bits c.args.reader.now).ahead = w.if-not-has.ensures.0 (search rules) in omega (arith, c.count.invariant.all) | else-count-test w ↦ omega (arith, c.count.invariant.all) ] in
    code_is c.peek.result c.count.count g.row.N (reader_bits c.args.reader.now).ahead c.requires all (record { bits = c.peek.ensures.bits; below = c.peek.ensures.below })
