use Rattle.std.proofs.Common.{◌≡◌, ℤ, w32, to_z, of_z, arith, ◌+◌, ◌*◌, ◌++◌, ◌∙◌, ap, pos, string_bytes}
use Rattle.std.proofs.lemmas.Int.{ints}
use Rattle.std.specs.Prelude.{slice_index_or}
use Rattle.avc_report.specs.Text.{newline}
use Rattle.avc_stages.specs.Text.{block_vector, quarter_words}
use Rattle.avc_stages.proofs.Joining.{quarter_joined}
use Rattle.avc_stages.proofs.text.add_quarter.Goals as goal

pub returns : goal.returns
returns c =
    let m = c.args.motion.now in
    let q = c.args.quarter in
    let same : to_z w32 (of_z w32 c.order_count_of.result) ≡ c.order_count_of.result = omega (arith, ints, c.order_count_of.type_inv) in
    quarter_joined _ _ _ _ _ _ _ (quarter_words q (slice_index_or m.order_counts q (pos 0))) (block_vector m (4 * q)) (block_vector m (4 * q + 1)) (block_vector m (4 * q + 2)) (block_vector m (4 * q + 3)) newline
    (c.in_ok-add_order_count.ensures ∙ ap (λ (n : ℤ). string_bytes c.args.text.now ++ quarter_words q n) same ∙ ap (λ (n : ℤ). string_bytes c.args.text.now ++ quarter_words q n) c.order_count_of.ensures) c.in_ok-add_vector.ensures c.in_ok-add_vector-2.ensures c.in_ok-add_vector-3.ensures c.in_ok-add_vector-4.ensures c.in_ok-push_str.ensures.bytes
