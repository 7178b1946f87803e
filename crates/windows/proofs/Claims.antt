-- Each claim, proved by the laws.
use Rattle.windows.specs.Claims.{HandsOver, RefusedAsWhole, LargeExactly, WholeBytes, WindowsJoin, WindowsPass}
use Rattle.windows.specs.Worked.{Worked}
use Rattle.windows.proofs.Windows as laws
use Rattle.windows.proofs.Lengths as lengths
use Rattle.windows.proofs.Worked.{worked}

pub hands_over : HandsOver
hands_over = laws.hands_over

pub refused_as_whole : RefusedAsWhole
refused_as_whole = laws.refused_as_whole

pub large-exactly : LargeExactly
large-exactly = record { only = laws.large-only; always = laws.large-always; longer = laws.large-longer }

pub whole-bytes : WholeBytes
whole-bytes = lengths.whole-bytes

pub windows_join : WindowsJoin
windows_join whole parts w = laws.windows_join w

pub windows_pass : WindowsPass
windows_pass whole parts w = laws.windows_pass w

pub worked_holds : Worked
worked_holds = worked
