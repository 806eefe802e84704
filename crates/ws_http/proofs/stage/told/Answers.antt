use Rattle.ws_http.proofs.stage.told.Goals as goal

pub returns-in-Fixed-clause-value : goal.returns-in-Fixed-clause-value
returns-in-Fixed-clause-value c raw body now content = rw c.in-Fixed.is (c.told_headed.ensures.value raw body c.args.before)

pub returns-in-Chunked-clause-value : goal.returns-in-Chunked-clause-value
returns-in-Chunked-clause-value c raw body now content = rw c.in-Chunked.is (c.told_headed-in-Chunked.ensures.value raw body c.args.before)

pub returns-in-Fixed-clause-tells : goal.returns-in-Fixed-clause-tells
returns-in-Fixed-clause-tells c now content = rw c.in-Fixed.is c.told_headed.ensures.tells

pub returns-in-Chunked-clause-tells : goal.returns-in-Chunked-clause-tells
returns-in-Chunked-clause-tells c now content = rw c.in-Chunked.is c.told_headed-in-Chunked.ensures.tells
