use Rattle.std.proofs.Common.{ℕ, List, ◌++◌, subst}
use Rattle.ws_http.specs.declared.stage.Stage.{Stage}
use Rattle.ws_http.specs.RequestStages.{Keeps, Stands}
use Rattle.ws_http.proofs.ReaderLemmas.{keeps_all, unchunked}
use Rattle.ws_http.proofs.request_next.take_part.Goals as goal

pub returns-in-Chunked-clause-stands : goal.returns-in-Chunked-clause-stands
returns-in-Chunked-clause-stands c came st = c.take_chunks.ensures.stands came (subst (λ (s : Stage). Keeps c.args.room c.args.raw.now.items c.args.body.now.items s came) c.in-Chunked.is st.kept)

pub returns-clause-stands : goal.returns-clause-stands
returns-clause-stands c came st =
    let s = c.args.from in
    let plain = unchunked s c.in_default.not-Chunked in
    let all = keeps_all c.args.room c.args.raw.now.items c.args.body.now.items came s plain c.requires.open st.kept in
    subst (λ (t : List ℕ). Stands (record { room = c.args.room; bytes = c.take_piece.new.raw.items; content = c.take_piece.new.body.items; stage = c.take_piece.result })
    (t ++ c.args.piece.now)) all c.take_piece.ensures.stands
