use Rattle.avc_inter.proofs.SixRows.{set_in_rest}
use Rattle.avc_inter.proofs.lines.copy_near.Goals as goal

pub returns : goal.returns
returns g c =
    set_in_rest _ _ _ _ _ _ c.args.lines.samples.now c.args.out.now c.copy_each.new.out c.requires.some c.args.lines.there c.requires.room.room c.copy_each.ensures
