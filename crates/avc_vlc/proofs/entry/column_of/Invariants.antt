use Rattle.avc_vlc.proofs.Entries.{◌≡◌, false, take, list_any, holds}
use Rattle.avc_vlc.proofs.entry.column_of.Given as goal

-- none of the entries so far
abbrev pub invariant-columns : goal.invariant-columns
invariant-columns g l = list_any (holds g.V.Coded.same l.value) (take l.column l.row) ≡ false
