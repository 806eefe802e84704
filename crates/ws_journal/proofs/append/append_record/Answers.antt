use Rattle.std.proofs.Common.{◌≡◌, ◌-◌, ◌∷◌, [], ◌++◌, ℕ, List, length, inl, sym, ◌∙◌, ap, subst, arith, length-append}
use Rattle.ws_disk.specs.Crash.{overwritten}
use Rattle.ws_journal.specs.declared.store.Edition.TheVariants.{Second}
use Rattle.ws_journal.specs.Text.{record_text}
use Rattle.ws_journal.specs.Kept.{IsShut, IsInDoubt, IsWithOrWithout}
use Rattle.ws_journal.proofs.Files.{doubt_either}
use Rattle.ws_journal.proofs.Records.{length-record, reaches, opened}
use Rattle.ws_journal.proofs.Moments.{weaker, then_run, at_end}
use Rattle.ws_journal.proofs.Gates.{until_gate, stands_staged, while_gate}
use Rattle.ws_journal.proofs.Reaching.{written_longer, keeps_reach, torn_reach}
use Rattle.ws_journal.proofs.append.append_record.Goals as goal

pub set_gate-requires : goal.set_gate-requires
set_gate-requires g c = λ honest1.
    let D = g.D.Disk in
    let honest = c.put_record.ensures.honesty.0 honest1 in
    let bytes = record_text Second c.args.payload.now ++ 0 ∷ [] in
    omega (arith, reaches c.args.tail bytes (D.seen c.args.disk.now) (c.requires.place honest), ap length (c.in_ok-put_record.ensures.written honest))

pub returns-in_err-put_record-clause-any_moment : goal.returns-in_err-put_record-clause-any_moment
returns-in_err-put_record-clause-any_moment g c = λ front honest is each.
    let D = g.D.Disk in
    let text = record_text Second c.args.payload.now in
    let old = c.args.disk.now in
    let new = c.put_record.new.disk in
    weaker D.moment D.images old new (IsShut front) (IsWithOrWithout front text) (λ image shut. inl shut)
    (until_gate D.seen D.moment D.images front text c.args.tail is old new each (c.put_record.ensures.any_moment honest))

pub returns-in_err-put_record-clause-before : goal.returns-in_err-put_record-clause-before
returns-in_err-put_record-clause-before g c = λ front honest is each stop.
    let D = g.D.Disk in
    let text = record_text Second c.args.payload.now in
    let old = c.args.disk.now in
    let new = c.put_record.new.disk in
    let honest1 = c.put_record.ensures.honesty.1 honest in
    at_end D.moment D.images old new (IsShut front) (λ t later image le left. g.met.D.Disk.images_grow new t later image honest1 le left)
    (until_gate D.seen D.moment D.images front text c.args.tail is old new each (c.put_record.ensures.any_moment honest))

pub returns-in-Err-clause-any_moment : goal.returns-in-Err-clause-any_moment
returns-in-Err-clause-any_moment g c = λ front honest is each.
    let D = g.D.Disk in
    let text = record_text Second c.args.payload.now in
    let old = c.args.disk.now in
    let mid = c.put_record.new.disk in
    let new = c.set_gate.new.disk in
    let honest1 = c.put_record.ensures.honesty.1 honest in
    let staged = stands_staged D.seen D.moment D.images front text c.args.tail is old mid (each (D.seen old) (g.met.D.Disk.seen_is_image old honest)) (c.in_ok-put_record.ensures.written honest) in
    let doubt = λ (image : List ℕ) (now : D.images mid (D.moment mid) image). subst (IsInDoubt front text) (sym (c.in_ok-put_record.ensures.confirmed honest image now)) staged in
    let first = weaker D.moment D.images old mid (IsShut front) (IsWithOrWithout front text) (λ image shut. inl shut)
    (until_gate D.seen D.moment D.images front text c.args.tail is old mid each (c.put_record.ensures.any_moment honest)) in
    let second = weaker D.moment D.images mid new (IsInDoubt front text) (IsWithOrWithout front text) (doubt_either front text)
    (while_gate D.moment D.images front text (c.args.tail - 1) (omega arith) mid new doubt (c.set_gate.ensures.any_moment honest1)) in
    then_run D.moment D.images old mid new (IsWithOrWithout front text) first second

pub returns-in-Err-clause-in_doubt : goal.returns-in-Err-clause-in_doubt
returns-in-Err-clause-in_doubt g c = λ front honest is each stop.
    let D = g.D.Disk in
    let text = record_text Second c.args.payload.now in
    let old = c.args.disk.now in
    let mid = c.put_record.new.disk in
    let new = c.set_gate.new.disk in
    let honest1 = c.put_record.ensures.honesty.1 honest in
    let honest2 = c.set_gate.ensures.honesty.1 honest1 in
    let staged = stands_staged D.seen D.moment D.images front text c.args.tail is old mid (each (D.seen old) (g.met.D.Disk.seen_is_image old honest)) (c.in_ok-put_record.ensures.written honest) in
    let doubt = λ (image : List ℕ) (now : D.images mid (D.moment mid) image). subst (IsInDoubt front text) (sym (c.in_ok-put_record.ensures.confirmed honest image now)) staged in
    at_end D.moment D.images mid new (IsInDoubt front text) (λ t later image le left. g.met.D.Disk.images_grow new t later image honest2 le left)
    (while_gate D.moment D.images front text (c.args.tail - 1) (omega arith) mid new doubt (c.set_gate.ensures.any_moment honest1))

pub returns-in-Ok-clause-any_moment : goal.returns-in-Ok-clause-any_moment
returns-in-Ok-clause-any_moment g c = λ front honest is each.
    let D = g.D.Disk in
    let text = record_text Second c.args.payload.now in
    let old = c.args.disk.now in
    let mid = c.put_record.new.disk in
    let new = c.set_gate.new.disk in
    let honest1 = c.put_record.ensures.honesty.1 honest in
    let staged = stands_staged D.seen D.moment D.images front text c.args.tail is old mid (each (D.seen old) (g.met.D.Disk.seen_is_image old honest)) (c.in_ok-put_record.ensures.written honest) in
    let doubt = λ (image : List ℕ) (now : D.images mid (D.moment mid) image). subst (IsInDoubt front text) (sym (c.in_ok-put_record.ensures.confirmed honest image now)) staged in
    let first = weaker D.moment D.images old mid (IsShut front) (IsWithOrWithout front text) (λ image shut. inl shut)
    (until_gate D.seen D.moment D.images front text c.args.tail is old mid each (c.put_record.ensures.any_moment honest)) in
    let second = weaker D.moment D.images mid new (IsInDoubt front text) (IsWithOrWithout front text) (doubt_either front text)
    (while_gate D.moment D.images front text (c.args.tail - 1) (omega arith) mid new doubt (c.set_gate.ensures.any_moment honest1)) in
    then_run D.moment D.images old mid new (IsWithOrWithout front text) first second

pub returns-in-Ok-clause-acknowledged : goal.returns-in-Ok-clause-acknowledged
returns-in-Ok-clause-acknowledged g c = λ front honest is each image now.
    let D = g.D.Disk in
    let text = record_text Second c.args.payload.now in
    let old = c.args.disk.now in
    let mid = c.put_record.new.disk in
    let new = c.set_gate.new.disk in
    let honest1 = c.put_record.ensures.honesty.1 honest in
    let staged = stands_staged D.seen D.moment D.images front text c.args.tail is old mid (each (D.seen old) (g.met.D.Disk.seen_is_image old honest)) (c.in_ok-put_record.ensures.written honest) in
    let place : c.args.tail - 1 ≡ length front = omega arith in
    let file : image ≡ overwritten (length front) (1 ∷ []) (D.seen mid) =
    c.in-Ok.ensures.confirmed honest1 image now ∙ c.in-Ok.ensures.written honest1 ∙ ap (λ (n : ℕ). overwritten n (1 ∷ []) (D.seen mid)) place in
    subst (IsShut (front ++ 1 ∷ text)) (sym file) (opened front text (D.seen mid) staged)

pub returns-in_err-put_record-clause-keeps : goal.returns-in_err-put_record-clause-keeps
returns-in_err-put_record-clause-keeps g c = λ honest each.
    let D = g.D.Disk in
    let new = c.put_record.new.disk in
    let honest1 = c.put_record.ensures.honesty.1 honest in
    keeps_reach D.moment D.images c.args.tail c.args.disk.now new (λ t later image le left. g.met.D.Disk.images_grow new t later image honest1 le left) each c.args.tail (c.put_record.ensures.any_moment honest)

pub returns-in-Err-clause-keeps : goal.returns-in-Err-clause-keeps
returns-in-Err-clause-keeps g c = λ honest each.
    let D = g.D.Disk in
    let mid = c.put_record.new.disk in
    let new = c.set_gate.new.disk in
    let honest1 = c.put_record.ensures.honesty.1 honest in
    let honest2 = c.set_gate.ensures.honesty.1 honest1 in
    let there = keeps_reach D.moment D.images c.args.tail c.args.disk.now mid (λ t later image le left. g.met.D.Disk.images_grow mid t later image honest1 le left) each c.args.tail (c.put_record.ensures.any_moment honest) in
    torn_reach D.moment D.images c.args.tail mid new (λ t later image le left. g.met.D.Disk.images_grow new t later image honest2 le left) there (c.args.tail - 1) 1 (c.set_gate.ensures.any_moment honest1)

pub returns-in-Ok-clause-keeps : goal.returns-in-Ok-clause-keeps
returns-in-Ok-clause-keeps g c = λ honest each.
    let D = g.D.Disk in
    let mid = c.put_record.new.disk in
    let new = c.set_gate.new.disk in
    let honest1 = c.put_record.ensures.honesty.1 honest in
    let honest2 = c.set_gate.ensures.honesty.1 honest1 in
    let there = keeps_reach D.moment D.images c.args.tail c.args.disk.now mid (λ t later image le left. g.met.D.Disk.images_grow mid t later image honest1 le left) each c.args.tail (c.put_record.ensures.any_moment honest) in
    torn_reach D.moment D.images c.args.tail mid new (λ t later image le left. g.met.D.Disk.images_grow new t later image honest2 le left) there (c.args.tail - 1) 1 (c.set_gate.ensures.any_moment honest1)

pub returns-in-Ok-clause-reaches : goal.returns-in-Ok-clause-reaches
returns-in-Ok-clause-reaches g c = λ honest image now.
    let D = g.D.Disk in
    let payload = c.args.payload.now in
    let bytes = record_text Second payload ++ 0 ∷ [] in
    let file = D.seen c.args.disk.now in
    let mid = D.seen c.put_record.new.disk in
    let honest1 = c.put_record.ensures.honesty.1 honest in
    let last : image ≡ overwritten (c.args.tail - 1) (1 ∷ []) mid = c.in-Ok.ensures.confirmed honest1 image now ∙ c.in-Ok.ensures.written honest1 in
    omega (
      arith,
      ap length last,
      written_longer (c.args.tail - 1) (1 ∷ []) mid,
      ap length (c.in_ok-put_record.ensures.written honest),
      reaches c.args.tail bytes file (c.requires.place honest),
      length-append (record_text Second payload) (0 ∷ []),
      length-record payload,
    )
