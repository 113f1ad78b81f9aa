use Rattle.avc_vlc.proofs.Entries.{◌≤◌, length, min, reader_bits}
use Rattle.avc_vlc.proofs.code.Code.next.Given as goal

abbrev pub invariant-count : goal.invariant-count
invariant-count g l = record { few : l.count ≤ g.row.N; all : min g.row.N (length (reader_bits l.reader).ahead) ≤ l.count }

abbrev pub decreases-count : goal.decreases-count
decreases-count g l = l.count
