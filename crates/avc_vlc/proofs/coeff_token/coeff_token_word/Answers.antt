use Rattle.avc_vlc.proofs.Entries.{◌≡◌, refl, subst, ◌∙◌, ap, arith, ints, is_token_same, is_written, option_map, token_table, word_of}
use Rattle.std.proofs.Common.{to_z, of_z, w8}
use Rattle.avc_vlc.specs.Indexing.{class_table}
use Rattle.avc_vlc.specs.Writing.{word_bits}
use Rattle.avc_vlc.proofs.coeff_token.coeff_token_word.Goals as goal

pub returns-then-nc-lt8 : goal.returns-then-nc-lt8
returns-then-nc-lt8 c =
    let nc : to_z w8 (of_z w8 c.args.nc) ≡ c.args.nc = omega (arith, ints) in
    subst (λ t. option_map word_bits c.in_table.result ≡ word_of (is_token_same c.args.token) t) (c.class_of.ensures.table ∙ ap token_table nc)
    (c.in_table.ensures class_table (is_written refl refl, (is_written refl refl, (is_written refl refl, (is_written refl refl, tt)))))
