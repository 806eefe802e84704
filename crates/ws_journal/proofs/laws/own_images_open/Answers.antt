use Rattle.ws_journal.proofs.Opened.{own_images}
use Rattle.ws_journal.proofs.laws.own_images_open.Goals as goal

pub returns : goal.returns
returns g c = own_images g.D.Disk.moment g.D.Disk.images
