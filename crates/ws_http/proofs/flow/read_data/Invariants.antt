use Rattle.std.proofs.Common.{◌≡◌, ◌≤◌, ◌+◌, ◌-◌, List, ℕ, ◌++◌, length, take, drop}
use Rattle.std.specs.Vec.{vec_capacity}
use Rattle.ws_http.specs.Flow.{Flows}
use Rattle.ws_http.proofs.flow.read_data.Given as goal

-- the bytes of the piece up to the place were read
abbrev pub invariant-pieces : goal.invariant-pieces
invariant-pieces l = record {
  read : (came : List ℕ) → Flows l.quota came (drop l.start l.fn.raw.items) l.fn.body.items l.fn.from
      → Flows l.quota (came ++ take l.at l.piece) (drop l.start l.raw.items) l.body.items l.point;
  place : l.at ≤ length l.piece;
  counted : l.point.count ≡ l.fn.from.count + l.at;
  heads : take l.start l.raw.items ≡ take l.start l.fn.raw.items;
  inside : l.start ≤ length l.raw.items;
  short : length l.raw.items ≤ length l.fn.raw.items + l.at;
  raw_grows : vec_capacity l.fn.raw ≤ vec_capacity l.raw;
  body_grows : vec_capacity l.fn.body ≤ vec_capacity l.body;
}

abbrev pub decreases-pieces : goal.decreases-pieces
decreases-pieces l = length l.piece - l.at
