use Rattle.avc_vlc.proofs.Entries.{◌≡◌, false, take, list_any, holds}
use Rattle.avc_vlc.proofs.codeword.Codeword.of.Given as goal

-- none of the rows so far has the value
abbrev pub invariant-rows : goal.invariant-rows
invariant-rows g l = list_any (λ places. list_any (holds g.V.Coded.same l.value) places) (take l.row l.rows) ≡ false
