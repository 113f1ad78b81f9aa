use Rattle.avc_formats.proofs.Fronts.{◌-◌, length, front_length, IsLooking}
use Rattle.avc_formats.proofs.front.read_to_set.Given as goal

abbrev pub invariant-reads : goal.invariant-reads
invariant-reads g l = IsLooking (g.R.Read.remaining l.initial.reader) (g.R.Read.remaining l.reader) l.bytes.items l.splitter l.headers

abbrev pub decreases-reads : goal.decreases-reads
decreases-reads g l = front_length - length l.bytes.items
