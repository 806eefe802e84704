use Rattle.std.proofs.Common.{ap, sym, not, ◌&&◌, ◌∙◌, inl, inr}
use Rattle.ws_model.specs.Keep.{is_kept_miss, is_kept_ping, keeps}
use Rattle.ws_tries.specs.Stands.{is_any_push}
use Rattle.ws_sift.proofs.choosing.is_kept.Goals as goal

pub returns-in-Asked : goal.returns-in-Asked
returns-in-Asked c h since t p = c.is_kept_request.ensures h since t p ∙ sym (ap (λ w. not (is_any_push w) && keeps h t c.args.event.now w) c.in-Asked.is)

pub returns-in-Unheard : goal.returns-in-Unheard
returns-in-Unheard c h since t p = c.is_pending.ensures h since p.stands ∙ sym (ap (λ w. not (is_any_push w) && keeps h t c.args.event.now w) c.in-Unheard.is)

pub returns-in-Pinged : goal.returns-in-Pinged
returns-in-Pinged c h since t p =
    c.is_kept_ping.ensures h since p.stands
    ∙ ap (is_kept_ping h c.args.event.now) c.as_slice.ensures
    ∙ sym (ap (λ w. not (is_any_push w) && keeps h t c.args.event.now w) c.in-Pinged.is)

pub returns-in-Unfetched : goal.returns-in-Unfetched
returns-in-Unfetched c h since t p =
    c.is_kept_miss.ensures h since p.stands
    ∙ ap (is_kept_miss h c.args.event.now) c.as_slice-in-Unfetched.ensures
    ∙ sym (ap (λ w. not (is_any_push w) && keeps h t c.args.event.now w) c.in-Unfetched.is)

pub returns-in-Barred : goal.returns-in-Barred
returns-in-Barred c h since t p =
    elim c.in-Barred.is [
      | inl k ↦ c.is_denied.ensures h since p.stands ∙ sym (ap (λ w. not (is_any_push w) && keeps h t c.args.event.now w) k.1)
      | inr k ↦ c.is_denied.ensures h since p.stands ∙ sym (ap (λ w. not (is_any_push w) && keeps h t c.args.event.now w) k.1)
    ]
