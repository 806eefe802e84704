-- Which versions are owed to some lease (WebSub section 7).
use Rattle.std.specs.Prelude.{ℕ, Bool, ◌&&◌, nat_lt, ◌==◌}
use Rattle.std.specs.List.{list_any}
use Rattle.ws_delivery.specs.declared.open_pair.OpenPair.{OpenPair}
use Rattle.ws_delivery.specs.Table.{Rows}

-- it is of this version, and owed at t
abbrev pub is_owed_of : ℕ → ℕ → (ℕ × ℕ) × OpenPair → Bool
is_owed_of t v e = (e.0.1 == v) && nat_lt t e.1.exp

-- the version is owed at t to some lease
abbrev pub is_owed_version : ℕ → ℕ → Rows → Bool
is_owed_version t v rows = list_any (is_owed_of t v) rows
