use Rattle.ws_journal.proofs.recover.read_heads.Goals as goal

pub returns-clause-chooses : goal.returns-clause-chooses
returns-clause-chooses g c = λ honest_a honest_b.
    let D = g.D.Disk in
    c.choose.ensures.chooses (D.seen c.args.store.now.a) (D.seen c.args.store.now.b) (c.in_ok-a.ensures.head honest_a) (c.in_ok-b.ensures.head honest_b)

pub returns-clause-cause : goal.returns-clause-cause
returns-clause-cause g c = λ is. absurd (c.choose.ensures.no_disk is)
