use Rattle.ws_ownlink.proofs.Fitting.{own_link_fits}
use Rattle.ws_ownlink.proofs.laws.own_links_fit.Goals as goal

pub returns : goal.returns
returns c = own_link_fits
