-- The numbers of the statuses.
use Rattle.std.specs.Prelude.{ℕ}
use Rattle.avc_c_picture.specs.declared.status.Status.{Status}
use Rattle.avc_c_picture.specs.declared.status.Status.TheVariants.{Ok, OutOfMemory, Ended, Closed}
use Rattle.avc_c_picture.specs.declared.status.Status.TheVariants.{IsOpen, NoPicture, NoRoom}
use Rattle.avc_c_picture.specs.declared.status.Status.TheVariants.{NoPlane, NoFault, NoValue}

-- the number by which C tells them apart
abbrev pub number_of : Status → ℕ
number_of Ok = 0
number_of OutOfMemory = 1
number_of Ended = 2
number_of Closed = 3
number_of IsOpen = 4
number_of NoPicture = 5
number_of NoRoom = 6
number_of NoPlane = 7
number_of NoFault = 8
number_of NoValue = 9
