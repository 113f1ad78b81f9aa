use Rattle.avc_picture.proofs.Slices.{◌∙◌, arith, sym, subst, planes_of, Around, HasModes, modes_above, modes_left, in_range_of}
use Rattle.avc_picture_core.specs.Canvas.{address_of}
use Rattle.avc_picture.proofs.StillRuns.{built_as_told, held_motion, held_told, keeps_all, none_asked}
use Rattle.avc_picture.proofs.next_place.NextPlace.build.Goals as goal

pub returns-then-is_skipped-clause-built : goal.returns-then-is_skipped-clause-built
returns-then-is_skipped-clause-built g c =
    let a = c.args in
    let next = a.self.now in
    let w = next.canvas.now.width in
    let left = c.requires.still c.if-run-gt0.true in
    let skipped = c.is_skipped.ensures c.if-is_skipped.true in
    let references_are = c.sources-sources.ensures.references in
    record {
      motion = rw (skipped, left.told) (held_motion _ left.held);
      told = rw left.told (held_told _ _ _ _ skipped);
      ahead = record {
        between = planes_of a.planes.now;
        earlier = keeps_all w next.canvas.now.height (address_of w next.place) (planes_of a.planes.now);
        built = λ p on. c.build_copied.ensures.built p (rw references_are (none_asked _ skipped on));
      };
    }

pub build-requires : goal.build-requires
build-requires g c =
    let a = c.args in
    let r = c.requires in
    let row = a.self.now.row.now in
    let n_is = sym (c.sources-sources-2.ensures.neighbours ∙ c.around.ensures) in
    let told = c.in_ok-set.ensures in
    let modes = told.told.in_range
    (subst (λ (n : Around). HasModes n.a) n_is (modes_left row a.slice.now.number r.modes))
    (subst (λ (n : Around). HasModes n.b) n_is (modes_above row a.slice.now.number r.modes)) in
    let syntax = in_range_of r.mb.num_ref_idx_active a.mb.now.syntax r.mb.syntax in
    rw (c.sources-sources-2.ensures.references) (omega arith, (omega arith, (r.column, (r.row, (r.sized, (syntax, (r.mb.quantiser, (modes, (told.one, (r.references, r.copied))))))))))

pub returns-clause-built : goal.returns-clause-built
returns-clause-built g c =
    let told = c.in_ok-set.ensures in
    let n_is = c.sources-sources-2.ensures.neighbours ∙ c.around.ensures in
    built_as_told c.build.result (record {
      motion = rw n_is at told.motion;
      told = rw n_is at told.told;
      ahead = rw (n_is, c.sources-sources-2.ensures.references) at c.build.ensures.built;
    })
