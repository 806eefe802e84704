-- What the disks tell (own).
use Rattle.std.specs.Prelude.{◌≡◌, ℕ, ◌+◌, min, Bool, ◌||◌, ◌==◌, nat_le, nat_lt, List, length}
use Rattle.std.specs.List.{list_any}
use Rattle.ws_disk.specs.declared.log.CallLog.{CallLog}
use Rattle.ws_disk.specs.declared.memory.MemDisk.{MemDisk}
use Rattle.ws_disk.specs.declared.file.FileDisk.{FileDisk}
use Rattle.ws_disk.specs.Record.{Step, steps_of, LeavesSince, Calm}

-- the calls of a record, the newest first
abbrev pub log_steps : CallLog → List Step
log_steps log = steps_of log.calls.items log.written.items

-- what a read gives
abbrev pub disk_content : MemDisk → List ℕ
disk_content disk = disk.content.items

-- the calls that were made since the disk was made, the newest first
abbrev pub disk_steps : MemDisk → List Step
disk_steps disk = log_steps disk.log

-- the moment is the number of calls
abbrev pub disk_moment : MemDisk → ℕ
disk_moment disk = length (disk_steps disk)

-- what a crash at some moment from that one on might have left
abbrev pub disk_images : MemDisk → ℕ → List ℕ → Type 0
disk_images disk = LeavesSince disk.first.items (disk_steps disk)

-- a crash leaves nothing that it wouldn't have left before the call
abbrev pub IsCalm : MemDisk → MemDisk → Type 0
IsCalm old new = Calm old.first.items new.first.items (disk_steps old) (disk_steps new)

-- the next call is one of those that are made to fail, or it is past the record
abbrev pub is_refused : MemDisk → Bool
is_refused disk = nat_le disk.log.most (length disk.log.calls.items) || list_any (λ n. n == length disk.log.calls.items) disk.failing.items

-- a write there of so many bytes passes the room, or the bytes don't fit the record
abbrev pub is_too_long : MemDisk → ℕ → ℕ → Bool
is_too_long disk at count = nat_lt disk.log.room (at + count) || nat_lt disk.log.room (length disk.log.written.items + count)

-- how often it failed
abbrev pub disk_faults : MemDisk → ℕ
disk_faults disk = disk.faults

-- the numbers of the calls that are made to fail, how many calls the record holds, and the room
pub record IsPlanned (room calls : ℕ) (failing : List ℕ) (disk : MemDisk) : Type 0 where
  pub failing_are : disk.failing.items ≡ failing
  pub calls_are : disk.log.most ≡ calls
  pub room_is : disk.log.room ≡ room

-- a call was numbered, as far as the record goes, and the plan is as before
pub record IsNumbered (old new : MemDisk) : Type 0 where
  pub plan : IsPlanned old.log.room old.log.most old.failing.items new
  pub number : length new.log.calls.items ≡ min (length old.log.calls.items + 1) old.log.most

-- how often it failed, which is all that it tells
abbrev pub file_faults : FileDisk → ℕ
file_faults disk = disk.faults
