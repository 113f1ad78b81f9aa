use Rattle.std.proofs.Common.{◌≡◌, ℤ, w32, to_z, of_z, arith, ap, ◌∙◌, append_assoc, codes, ◌++◌, string_bytes}
use Rattle.std.proofs.lemmas.Int.{ints}
use Rattle.std.specs.Fmt.{decimal, signed_decimal}
use Rattle.avc_stages.proofs.Joining.{words_joined}
use Rattle.avc_stages.proofs.text.add_order_count.Goals as goal

pub returns : goal.returns
returns c =
    let same : to_z w32 (of_z w32 c.args.order_count) ≡ c.args.order_count = omega (arith, ints, c.ranges.order_count.sfits) in
    words_joined _ _ _ _ (codes "quarter ") (decimal c.args.quarter) (codes ": PicOrderCnt ") (signed_decimal c.args.order_count) (codes ", vectors")
    (c.in_ok-write.ensures.bytes ∙ simp append_assoc) (c.in_ok-add_signed.ensures ∙ ap (λ (n : ℤ). string_bytes c.write.new.self ++ signed_decimal n) same) c.in_ok-push_str.ensures.bytes
