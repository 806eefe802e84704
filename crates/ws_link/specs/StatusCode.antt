-- The number of each status (own).
use Rattle.std.specs.Prelude.{ℕ}
use Rattle.ws_link.specs.declared.status.Status.{Status}
use Rattle.ws_link.specs.declared.status.Status.TheVariants.{Ok, Words, Script, ReadFailed, WriteFailed, DiskFailed, Damaged, Foreign, Exchange, NoMemory, Refused, ListenFailed, Full, Altered, Gap, Illegal, CoinsFailed}

abbrev pub status_code : Status → ℕ
status_code Ok = 0
status_code (Words place) = 1
status_code (Script line) = 2
status_code ReadFailed = 3
status_code WriteFailed = 4
status_code DiskFailed = 5
status_code (Damaged at) = 6
status_code (Foreign at) = 6
status_code (Exchange which) = 7
status_code NoMemory = 8
status_code (Refused code) = 9
status_code ListenFailed = 10
status_code (Full tail asked) = 11
status_code (Altered at) = 12
status_code (Gap have from) = 13
status_code (Illegal batch) = 14
status_code CoinsFailed = 15
