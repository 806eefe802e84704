use Rattle.std.proofs.Common.{◌≡◌, ◌-◌, length}
use Rattle.std.specs.Prelude.{◌⊎◌}
use Rattle.ws_http.specs.ResponseStages.{HasInterims, HeadWithin}
use Rattle.ws_http.proofs.reply_head.read_heads.Given as goal

-- interim heads stand before the place, one of them where the reading began
abbrev pub invariant-heads : goal.invariant-heads
invariant-heads l = record {
  read : HasInterims l.front l.at;
  reach : (l.at ≡ l.from) ⊎ HeadWithin l.front l.from l.at;
}

abbrev pub decreases-heads : goal.decreases-heads
decreases-heads l = length l.front - l.at
