use Rattle.std.proofs.Common.{◌≡◌, sym, subst, List, ℕ, map}
use Rattle.std.proofs.lemmas.Result.{IfOk-weaker}
use Rattle.ws_linkhdr.specs.Grammar.{LinkField}
use Rattle.ws_linkhdr.specs.Text.{item_of_pair, links_text}
use Rattle.ws_linkhdr.proofs.Written.{reads_back}
use Rattle.ws_linkhdr.proofs.write.write_links.Goals as goal

pub returns-clause-reads_back : goal.returns-clause-reads_back
returns-clause-reads_back c = λ writable.
    let links = c.args.items.now in
    let P : List ℕ → Type 0 = λ t. LinkField t (map item_of_pair links) in
    IfOk-weaker c.text_of.result (λ b. b ≡ links_text links) P (λ b e. subst P (sym e) (reads_back links writable)) c.text_of.ensures
