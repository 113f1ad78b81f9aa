use Rattle.std.proofs.Common.{◌≡◌, rules, subst, ap, ◌∙◌, length}
use Rattle.avc_replay.specs.Replaying.{IsReplaying, Meets}
use Rattle.avc_replay.proofs.Replayed.{begins, cut_from, fed_all, is_none, read_more, room_kept}
use Rattle.avc_replay.proofs.replay.decode_up_to.Goals as goal

pub reads-init : goal.reads-init
reads-init g c = record { replaying = begins _ c.new-splitter.result c.sharing-decoder.result c.new-splitter.ensures c.sharing-decoder.ensures; room = search rules }

pub returns-then-branch : goal.returns-then-branch
returns-then-branch g c =
    cut_from _ _ c.reads.has_ended c.args.at c.reads.splitter c.feed_before.new.splitter c.reads.decoder c.feed_before.new.decoder c.feed_cut.new.decoder c.in-Some.unit c.reads.invariant.replaying
    (subst (λ o. Meets c.args.at.unit c.feed_before.new.splitter o c.feed_before.new.decoder) c.in-Some.is c.in_ok-unit.ensures.meets) c.in_ok-unit.ensures.bytes c.in_ok-unit.ensures.ended (c.in_ok-feed_cut.ensures c.if-branch.true)

pub reads-preserved : goal.reads-preserved
reads-preserved g c =
    let none = is_none c.in_ok-unit.field-0 c.in_default.not-Some in
    let fed = fed_all (g.R.Read.remaining c.args.reader.now) (g.R.Read.remaining c.reads.reader) c.reads.has_ended c.args.at.unit c.reads.splitter c.feed_before.new.splitter c.reads.decoder c.feed_before.new.decoder c.reads.invariant.replaying
    (subst (λ o. Meets c.args.at.unit c.feed_before.new.splitter o c.feed_before.new.decoder) none c.in_ok-unit.ensures.meets) c.in_ok-unit.ensures.bytes c.in_ok-unit.ensures.ended in
    let full : length c.read_on.new.piece ≡ c.reads.piece.len = search rules in
    let kept : length c.read_on.new.piece ≡ 65536 = c.in_ok-has_ended.ensures.length ∙ ap length c.deref_mut.ensures.value ∙ c.reads.invariant.room in
    record {
      replaying = read_more c.units_stay.ensures _ _ _ c.feed_before.new.splitter c.read_on.new.splitter c.feed_before.new.decoder c.in_ok-has_ended.has_ended
          (subst (λ e. IsReplaying (g.R.Read.remaining c.args.reader.now) (g.R.Read.remaining c.reads.reader) e c.feed_before.new.splitter c.feed_before.new.decoder) c.if-has_ended.false fed) c.in_ok-has_ended.ensures.read;
      room = room_kept c.reads.piece.len c.read_on.new.piece c.reads.piece.items 65536 full kept;
    }
