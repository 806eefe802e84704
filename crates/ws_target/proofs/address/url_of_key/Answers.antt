use Rattle.std.proofs.Common.{sym, ap, ◌∙◌}
use Rattle.ws_target.specs.Address.{url_of}
use Rattle.ws_target.proofs.KeyLemmas.{is_url_of_key, key_has_url}
use Rattle.ws_target.proofs.address.url_of_key.Goals as goal

pub unreachable-requires : goal.unreachable-requires
unreachable-requires c =
    let missing = ap url_of (sym c.as_slice.ensures) ∙ sym c.in_ok-url.ensures ∙ c.in-None.is in
    key_has_url c.args.key.now c.requires missing

pub returns : goal.returns
returns c =
    let found = ap url_of (sym c.as_slice.ensures) ∙ sym c.in_ok-url.ensures ∙ c.in-Some.is in
    is_url_of_key c.args.key.now c.in-Some.url c.requires found
