use Rattle.avc_types.proofs.Frames.{◌-◌, refl, arith, w64, has_pic_num, to_z-of_z, last-found, filter-none}
use Rattle.avc_types.proofs.marked_frame.short_term_place.Goals as goal

pub returns-then-has_pic_num-clause-named : goal.returns-then-has_pic_num-clause-named
returns-then-has_pic_num-clause-named c = λ indices stand.
    grind (arith, to_z-of_z w64 c.args.number c.ranges.number, last-found (has_pic_num c.args.current c.args.number) (λ e f. refl) indices c.args.frames.now (c.loop-place.place - 1))

pub returns-clause-named : goal.returns-clause-named
returns-clause-named c = λ indices stand. grind (arith, to_z-of_z w64 c.args.number c.ranges.number, filter-none (has_pic_num c.args.current c.args.number) (λ e f. refl))
