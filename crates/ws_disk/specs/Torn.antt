-- What a disk for torn images holds, and what a crash of it may leave (own).
use Rattle.std.specs.Prelude.{◌≡◌, ℕ, ◌+◌, ◌^◌, ◌-◌, min, Bool, true, false, if◌then◌else◌, ◌||◌, ◌==◌, nat_le, nat_lt, List, ◌++◌, length, take, drop, map, replicate}
use Rattle.std.specs.List.{list_any, zip}
use Rattle.ws_disk.specs.declared.torn.Pick.{Pick}
use Rattle.ws_disk.specs.declared.torn.Pick.TheVariants.{Old, New, Fill}
use Rattle.ws_disk.specs.declared.torn.Plan.{Plan}
use Rattle.ws_disk.specs.declared.torn.TornDisk.{TornDisk}

-- how often it failed, which is all that it tells by the trait
abbrev pub torn_faults : TornDisk → ℕ
torn_faults disk = disk.faults

-- the next call is one of those that are made to fail, or it is past their number
abbrev pub plan_refuses : Plan → Bool
plan_refuses plan = nat_le plan.calls plan.made || list_any (λ n. n == plan.made) plan.failing.items

abbrev pub torn_refuses : TornDisk → Bool
torn_refuses disk = plan_refuses disk.plan

-- a write there of so many bytes begins past the end, or passes the room
abbrev pub torn_too_far : TornDisk → ℕ → ℕ → Bool
torn_too_far disk at count = nat_lt (length disk.content.items) at || nat_lt disk.room (at + count)

-- a call was numbered, as far as numbers go, and the plan is as before
pub record GoesOn (old new : Plan) : Type 0 where
  pub calls : new.calls ≡ old.calls
  pub failing : new.failing.items ≡ old.failing.items
  pub number : new.made ≡ min (old.made + 1) (2 ^ 64 - 1)

-- what it holds, what the last sync confirmed, and which places were written since
pub record Holds (content confirmed : List ℕ) (written : List Bool) (disk : TornDisk) : Type 0 where
  pub content_is : disk.content.items ≡ content
  pub confirmed_is : disk.confirmed.items ≡ confirmed
  pub written_is : disk.written.items ≡ written

-- one call more of the same plan, over the same room
pub record IsNextCall (old new : TornDisk) : Type 0 where
  pub plan : GoesOn old.plan new.plan
  pub room : new.room ≡ old.room

-- nothing that it holds changed
abbrev pub IsSame : TornDisk → TornDisk → Type 0
IsSame old = Holds old.content.items old.confirmed.items old.written.items

-- with so many places from that one on written
abbrev pub marked : ℕ → ℕ → List Bool → List Bool
marked at count written = take at written ++ replicate count true ++ drop (at + count) written

-- no place of so many is written
abbrev pub unmarked : ℕ → List Bool
unmarked room = replicate room false

-- the bytes with this one in each place that was written
abbrev pub filled : ℕ → List ℕ → List Bool → List ℕ
filled byte content written = map (λ (p : ℕ × Bool). if p.1 then byte else p.0) (zip content written)

-- the image that is asked for
abbrev pub torn_image : Pick → TornDisk → List ℕ
torn_image Old disk = disk.confirmed.items
torn_image New disk = disk.content.items
torn_image (Fill byte) disk = filled byte disk.content.items disk.written.items

-- an empty disk of this room, with so many calls of which these fail, and none of them made
pub record IsNew (room calls : ℕ) (failing : List ℕ) (disk : TornDisk) : Type 0 where
  pub room_is : disk.room ≡ room
  pub calls_are : disk.plan.calls ≡ calls
  pub failing_are : disk.plan.failing.items ≡ failing
  pub none_made : disk.plan.made ≡ 0
