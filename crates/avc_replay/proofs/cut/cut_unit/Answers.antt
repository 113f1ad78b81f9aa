use Rattle.std.proofs.Common.{◌≡◌, List, [], ◌∷◌, ◌++◌, ℕ, ap, ◌∙◌}
use Rattle.avc_rbsp.specs.Escaping.{escaped}
use Rattle.avc_replay.specs.Cutting.{first_bits}
use Rattle.avc_replay.proofs.CutUnits.{unit_cut, unit_read}
use Rattle.avc_replay.proofs.cut.cut_unit.Goals as goal

pub returns-clause-read : goal.returns-clause-read
returns-clause-read c =
    let header = c.args.header in
    let whole : c.extend_from_slice.new.self.items ≡ header ∷ escaped c.bytes.result.now =
    c.in_ok-extend_from_slice.ensures.items
    ∙ ap (λ (l : List ℕ). l ++ c.deref-2.result.now) (c.in_ok-push.ensures.items ∙ ap (λ (l : List ℕ). l ++ header ∷ []) c.new-unit.ensures.items)
    ∙ ap (λ (l : List ℕ). header ∷ l) (c.deref-2.ensures.value ∙ c.in_ok-body.ensures) in
    unit_read c.escapes_are_removed.ensures.rbsp c.rbsps_are_read.ensures header (first_bits c.args.body.now c.args.kept_bits c.args.run) c.extend_from_slice.new.self.items
    (unit_cut header c.args.body.now c.deref.result.now c.args.kept_bits c.args.run c.new-maker.result c.put_first.new.maker c.put_run.new.maker c.flag.new.self c.bytes.result.now c.bytes.ensures.0
    c.extend_from_slice.new.self.items (c.deref.ensures.value ∙ c.in_ok-rbsp.ensures) c.new-maker.ensures c.in_ok-put_first.ensures.1 c.in_ok-put_run.ensures.1 c.in_ok-flag.ensures.1 c.bytes.ensures.1 whole)
