use Rattle.std.proofs.Common.{◌≡◌, length, ap, ◌∙◌, arith}
use Rattle.ws_disk.specs.Torn.{filled}
use Rattle.ws_disk.proofs.Filled.{length-filled}
use Rattle.ws_disk.proofs.torn.TornDisk.crashed.Goals as goal

pub holding-requires-in-Fill : goal.holding-requires-in-Fill
holding-requires-in-Fill c =
    let content = c.deref-in-Fill.result.now in
    let written = c.deref-in-Fill-2.result.now in
    let is : c.deref-in-Fill-3.result.now ≡ filled c.in-Fill.byte content written = c.deref-in-Fill-3.ensures.value ∙ c.in_ok-image-in-Fill.ensures in
    omega (arith, ap length is, length-filled c.in-Fill.byte content written, ap length c.deref-in-Fill.ensures.value, c.args.self.now.content_within)
