use Rattle.avc_vlc.proofs.Entries.{◌≡◌, refl, arith, ints, ap, subst, ◌∙◌, Decides, token_table}
use Rattle.std.proofs.Common.{to_z, of_z, w8}
use Rattle.avc_vlc.specs.Indexing.{class_table}
use Rattle.avc_vlc.proofs.coeff_token.token_entry.Goals as goal

pub returns-then-nc-lt8-clause-decides : goal.returns-then-nc-lt8-clause-decides
returns-then-nc-lt8-clause-decides c = λ ahead is.
    let nc : to_z w8 (of_z w8 c.args.nc) ≡ c.args.nc = omega (arith, ints) in
    subst (λ t. Decides t ahead c.token_in.result) (c.class_of.ensures.table ∙ ap token_table nc) (c.token_in.ensures.decides class_table ahead (record { long = refl; same = refl }) is)

pub returns-then-nc-lt8-clause-short : goal.returns-then-nc-lt8-clause-short
returns-then-nc-lt8-clause-short c = c.token_in.ensures.short 16 refl
