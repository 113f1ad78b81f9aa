use Rattle.std.proofs.Common.{◌<◌, ◌∙◌, ap, refl, subst}
use Rattle.std.specs.Prelude.{count_by}
use Rattle.avc_difference.specs.Differences.{is_marked}
use Rattle.avc_difference.proofs.difference.find_difference.Goals as goal

pub marks_of-requires-clause-same : goal.marks_of-requires-clause-same
marks_of-requires-clause-same c = c.requires.same

pub marks_of-requires-clause-whole : goal.marks_of-requires-clause-whole
marks_of-requires-clause-whole c = c.requires.whole

pub origin_pairs-requires-clause-same : goal.origin_pairs-requires-clause-same
origin_pairs-requires-clause-same c = c.requires.same

pub origin_pairs-requires-clause-whole : goal.origin_pairs-requires-clause-whole
origin_pairs-requires-clause-whole c = c.requires.whole

pub count_differences-requires : goal.count_differences-requires
count_differences-requires c = c.requires.same

pub place_of-requires : goal.place_of-requires
place_of-requires c = subst (λ n. c.in-Some.place < n) c.requires.whole c.in-Some.ensures.inside

pub returns-in_ok-origin-in-Some : goal.returns-in_ok-origin-in-Some
returns-in_ok-origin-in-Some c = record {
  at = c.in-Some.place;
  first = c.in-Some.ensures;
  place = c.place_of.ensures;
  ours_is = refl;
  theirs_is = refl;
  samples = c.count_differences.ensures;
  all_samples = refl;
  marked = c.in_ok-marks-in-Some.ensures.all;
  marks = c.in_ok-marks-in-Some.ensures.marks;
  macroblocks_are = c.marked.ensures ∙ ap (count_by is_marked) c.deref.ensures.value;
  origin_is = c.in_ok-origin-in-Some.ensures;
}
