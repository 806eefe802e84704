use Rattle.std.proofs.Common.{◌≡◌, ◌∷◌, [], ◌++◌, ℕ, List, take, inl, refl, sym, ◌∙◌, ap, subst}
use Rattle.ws_disk.specs.Crash.{overwritten}
use Rattle.ws_journal.specs.Image.{IsBelow}
use Rattle.ws_journal.specs.Kept.{Each, Keeps}
use Rattle.ws_journal.specs.Made.{IsZeroed, body_text, IsHalfMade, IsMade, IsBelowOrMade}
use Rattle.ws_journal.proofs.Moments.{weaker, then_run, at_end}
use Rattle.ws_journal.proofs.Gates.{while_gate}
use Rattle.ws_journal.proofs.Spare.{stays_on, stays_behind}
use Rattle.ws_journal.proofs.Making.{half_made, half_either, gate_opened, zeroed-keeps}
use Rattle.ws_journal.proofs.make.make_device.Goals as goal

pub returns-in_err-clear_device-clause-any_moment : goal.returns-in_err-clear_device-clause-any_moment
returns-in_err-clear_device-clause-any_moment g c = λ older honest spare.
    let D = g.D.Disk in
    weaker D.moment D.images c.args.disk.now c.clear_device.new.disk (IsBelow older) (IsBelowOrMade older c.args.generation c.args.batches.now) (λ image below. inl below)
    (c.clear_device.ensures.any_moment older honest spare).run

pub returns-in_err-clear_device-clause-before : goal.returns-in_err-clear_device-clause-before
returns-in_err-clear_device-clause-before g c = λ older honest spare stop. c.clear_device.ensures.any_moment older honest spare

pub returns-in_err-put_device-clause-any_moment : goal.returns-in_err-put_device-clause-any_moment
returns-in_err-put_device-clause-any_moment g c = λ older honest spare.
    let D = g.D.Disk in
    let old = c.args.disk.now in
    let mid = c.clear_device.new.disk in
    let new = c.put_device.new.disk in
    let honest1 = c.clear_device.ensures.honesty.1 honest in
    let honest2 = c.put_device.ensures.honesty.1 honest1 in
    let zero : Each (D.images mid (D.moment mid)) IsZeroed = λ image now. ap (λ (l : List ℕ). take 1 l) (c.in_ok-clear_device.ensures.confirmed honest image now ∙ c.in_ok-clear_device.ensures.cleared honest) in
    let stays = stays_on D.moment D.images older old mid new (c.clear_device.ensures.any_moment older honest spare)
    (stays_behind D.moment D.images older (Keeps 1) zeroed-keeps mid new (λ t later image le left. g.met.D.Disk.images_grow new t later image honest2 le left) zero (c.put_device.ensures.any_moment honest1)) in
    weaker D.moment D.images old new (IsBelow older) (IsBelowOrMade older c.args.generation c.args.batches.now) (λ image below. inl below) stays.run

pub returns-in_err-put_device-clause-before : goal.returns-in_err-put_device-clause-before
returns-in_err-put_device-clause-before g c = λ older honest spare stop.
    let D = g.D.Disk in
    let old = c.args.disk.now in
    let mid = c.clear_device.new.disk in
    let new = c.put_device.new.disk in
    let honest1 = c.clear_device.ensures.honesty.1 honest in
    let honest2 = c.put_device.ensures.honesty.1 honest1 in
    let zero : Each (D.images mid (D.moment mid)) IsZeroed = λ image now. ap (λ (l : List ℕ). take 1 l) (c.in_ok-clear_device.ensures.confirmed honest image now ∙ c.in_ok-clear_device.ensures.cleared honest) in
    stays_on D.moment D.images older old mid new (c.clear_device.ensures.any_moment older honest spare)
    (stays_behind D.moment D.images older (Keeps 1) zeroed-keeps mid new (λ t later image le left. g.met.D.Disk.images_grow new t later image honest2 le left) zero (c.put_device.ensures.any_moment honest1))

pub returns-in-Err-clause-any_moment : goal.returns-in-Err-clause-any_moment
returns-in-Err-clause-any_moment g c = λ older honest spare.
    let D = g.D.Disk in
    let generation = c.args.generation in
    let batches = c.args.batches.now in
    let P = IsBelowOrMade older generation batches in
    let old = c.args.disk.now in
    let mid = c.clear_device.new.disk in
    let last = c.put_device.new.disk in
    let new = c.set_gate.new.disk in
    let honest1 = c.clear_device.ensures.honesty.1 honest in
    let honest2 = c.put_device.ensures.honesty.1 honest1 in
    let zero : Each (D.images mid (D.moment mid)) IsZeroed = λ image now. ap (λ (l : List ℕ). take 1 l) (c.in_ok-clear_device.ensures.confirmed honest image now ∙ c.in_ok-clear_device.ensures.cleared honest) in
    let stays = stays_on D.moment D.images older old mid last (c.clear_device.ensures.any_moment older honest spare)
    (stays_behind D.moment D.images older (Keeps 1) zeroed-keeps mid last (λ t later image le left. g.met.D.Disk.images_grow last t later image honest2 le left) zero (c.put_device.ensures.any_moment honest1)) in
    let half : Each (D.images last (D.moment last)) (IsHalfMade generation batches) = λ image now. half_made generation batches image
    (c.in_ok-put_device.ensures.confirmed honest1 image now ∙ c.in_ok-put_device.ensures.written honest1 ∙ ap (overwritten 1 (body_text generation batches ++ 0 ∷ [])) (c.in_ok-clear_device.ensures.cleared honest)) in
    then_run D.moment D.images old last new P
    (weaker D.moment D.images old last (IsBelow older) P (λ image below. inl below) stays.run)
    (weaker D.moment D.images last new (IsHalfMade generation batches) P (half_either generation batches older)
    (while_gate D.moment D.images [] (body_text generation batches) 0 refl last new half (c.set_gate.ensures.any_moment honest2)))

pub returns-in-Err-clause-in_doubt : goal.returns-in-Err-clause-in_doubt
returns-in-Err-clause-in_doubt g c = λ older honest spare stop.
    let D = g.D.Disk in
    let generation = c.args.generation in
    let batches = c.args.batches.now in
    let last = c.put_device.new.disk in
    let new = c.set_gate.new.disk in
    let honest1 = c.clear_device.ensures.honesty.1 honest in
    let honest2 = c.put_device.ensures.honesty.1 honest1 in
    let honest3 = c.set_gate.ensures.honesty.1 honest2 in
    let half : Each (D.images last (D.moment last)) (IsHalfMade generation batches) = λ image now. half_made generation batches image
    (c.in_ok-put_device.ensures.confirmed honest1 image now ∙ c.in_ok-put_device.ensures.written honest1 ∙ ap (overwritten 1 (body_text generation batches ++ 0 ∷ [])) (c.in_ok-clear_device.ensures.cleared honest)) in
    at_end D.moment D.images last new (IsHalfMade generation batches) (λ t later image le left. g.met.D.Disk.images_grow new t later image honest3 le left)
    (while_gate D.moment D.images [] (body_text generation batches) 0 refl last new half (c.set_gate.ensures.any_moment honest2))

pub returns-in-Ok-clause-any_moment : goal.returns-in-Ok-clause-any_moment
returns-in-Ok-clause-any_moment g c = λ older honest spare.
    let D = g.D.Disk in
    let generation = c.args.generation in
    let batches = c.args.batches.now in
    let P = IsBelowOrMade older generation batches in
    let old = c.args.disk.now in
    let mid = c.clear_device.new.disk in
    let last = c.put_device.new.disk in
    let new = c.set_gate.new.disk in
    let honest1 = c.clear_device.ensures.honesty.1 honest in
    let honest2 = c.put_device.ensures.honesty.1 honest1 in
    let zero : Each (D.images mid (D.moment mid)) IsZeroed = λ image now. ap (λ (l : List ℕ). take 1 l) (c.in_ok-clear_device.ensures.confirmed honest image now ∙ c.in_ok-clear_device.ensures.cleared honest) in
    let stays = stays_on D.moment D.images older old mid last (c.clear_device.ensures.any_moment older honest spare)
    (stays_behind D.moment D.images older (Keeps 1) zeroed-keeps mid last (λ t later image le left. g.met.D.Disk.images_grow last t later image honest2 le left) zero (c.put_device.ensures.any_moment honest1)) in
    let half : Each (D.images last (D.moment last)) (IsHalfMade generation batches) = λ image now. half_made generation batches image
    (c.in_ok-put_device.ensures.confirmed honest1 image now ∙ c.in_ok-put_device.ensures.written honest1 ∙ ap (overwritten 1 (body_text generation batches ++ 0 ∷ [])) (c.in_ok-clear_device.ensures.cleared honest)) in
    then_run D.moment D.images old last new P
    (weaker D.moment D.images old last (IsBelow older) P (λ image below. inl below) stays.run)
    (weaker D.moment D.images last new (IsHalfMade generation batches) P (half_either generation batches older)
    (while_gate D.moment D.images [] (body_text generation batches) 0 refl last new half (c.set_gate.ensures.any_moment honest2)))

pub returns-in-Ok-clause-made : goal.returns-in-Ok-clause-made
returns-in-Ok-clause-made g c = λ honest image now.
    let D = g.D.Disk in
    let generation = c.args.generation in
    let batches = c.args.batches.now in
    let last = c.put_device.new.disk in
    let honest1 = c.clear_device.ensures.honesty.1 honest in
    let honest2 = c.put_device.ensures.honesty.1 honest1 in
    let half = half_made generation batches (D.seen last)
    (c.in_ok-put_device.ensures.written honest1 ∙ ap (overwritten 1 (body_text generation batches ++ 0 ∷ [])) (c.in_ok-clear_device.ensures.cleared honest)) in
    let file : image ≡ overwritten 0 (1 ∷ []) (D.seen last) = c.in-Ok.ensures.confirmed honest2 image now ∙ c.in-Ok.ensures.written honest2 in
    subst (IsMade generation batches) (sym file) (gate_opened generation batches (D.seen last) half)
