-- Accounts put together, and counts with those of a Tally.
use Rattle.std.proofs.Common.{◌≡◌, ℕ, ◌+◌, List, [], ◌∷◌, length, refl, ap, ◌∙◌}
use Rattle.std.specs.Prelude.{filter, map, min, Option, Some, None}
use Rattle.std.specs.Option.{option_map}
use Rattle.ws_model.specs.declared.account.Account.{Account}
use Rattle.ws_model.specs.declared.event.Event.{Event}
use Rattle.ws_model.specs.declared.event.Tally.{Tally}
use Rattle.ws_model.specs.declared.fate.Fate.{Fate}
use Rattle.ws_model.specs.Account.{first_or_zero, most, tallies, total}
use Rattle.ws_model.specs.Fate.{Pair, fate}
use Rattle.ws_model.specs.Pairs.{pairs}
use Rattle.ws_plain.specs.Alike.{alike}
use Rattle.ws_plain.specs.Tallies.{no_tally, tally_in}

pub option_map_twice : {X Y Z : Type 0} (f : X → Y) (g : Y → Z) (o : Option X) → option_map (λ x. g (f x)) o ≡ option_map g (option_map f o)
option_map_twice f g None = refl
option_map_twice f g (Some x) = refl

pub tallied_is : (f : Tally → ℕ) → f no_tally ≡ 0 → (cs : List Tally) → f (tally_in cs) ≡ first_or_zero (map f cs)
tallied_is f z [] = z
tallied_is f z (c ∷ cs) = refl

pub total_is : (wanted : Fate) (f : Tally → ℕ) (h : List Event) (t : ℕ) (ps : List Pair) (c : Tally) (r : ℕ) → f no_tally ≡ 0 → ps ≡ pairs h → c ≡ tally_in (tallies h) → r ≡ min (length (filter (λ p. alike wanted (fate h p t)) ps) + f c) most → r ≡ total (alike wanted) f h t
total_is wanted f h t ps c r z p q e =
    e ∙ ap (λ xs. min (length (filter (λ p. alike wanted (fate h p t)) xs) + f c) most) p
    ∙ ap (λ n. min (length (filter (λ p. alike wanted (fate h p t)) (pairs h)) + n) most) (ap f q ∙ tallied_is f z (tallies h))

pub account_is : (a : Account) (pe nt le to fe ow an ex un re go sp rv : ℕ) → pe ≡ a.pending → nt ≡ a.notices → le ≡ a.leases → to ≡ a.topics → fe ≡ a.fetches → ow ≡ a.owed → an ≡ a.answered → ex ≡ a.expired → un ≡ a.unsubscribed → re ≡ a.replaced → go ≡ a.gone → sp ≡ a.spent → rv ≡ a.revoked
    → ◌≡◌ {A = Account} (record { pending = pe; notices = nt; leases = le; topics = to; fetches = fe; owed = ow; answered = an; expired = ex; unsubscribed = un; replaced = re; gone = go; spent = sp; revoked = rv }) a
account_is a pe nt le to fe ow an ex un re go sp rv p1 p2 p3 p4 p5 p6 p7 p8 p9 p10 p11 p12 p13 =
    λ i. record {
      pending = p1 i;
      notices = p2 i;
      leases = p3 i;
      topics = p4 i;
      fetches = p5 i;
      owed = p6 i;
      answered = p7 i;
      expired = p8 i;
      unsubscribed = p9 i;
      replaced = p10 i;
      gone = p11 i;
      spent = p12 i;
      revoked = p13 i;
    }
