use Rattle.std.proofs.Common.{◌≡◌}
use Rattle.avc_shell.proofs.other_pictures.OtherPictures.read_line.Given as goal

abbrev pub invariant-bytes : goal.invariant-bytes
invariant-bytes g l = record { kept : (l.self).picture_len ≡ (l.initial).self.picture_len }
