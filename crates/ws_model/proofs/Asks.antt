-- The account of a history in which nothing has happened yet but requests.
use Rattle.std.proofs.Common.{◌≡◌, ℕ, suc, Bool, true, false, List, [], ◌∷◌, ◌++◌, refl, ap, ◌∙◌, length}
use Rattle.std.specs.Prelude.{filter, Option}
use Rattle.std.proofs.lemmas.Bool.{or_from}
use Rattle.ws_model.specs.declared.event.Event.{Event}
use Rattle.ws_model.specs.declared.event.What.{What}
use Rattle.ws_model.specs.declared.event.What.TheVariants.{Asked}
use Rattle.ws_model.specs.declared.event.Intent.{Intent}
use Rattle.ws_model.specs.History.{has, times}
use Rattle.ws_model.specs.Intents.{intents_of, asked, is_settled, is_unheard, is_pending, pending, is_denied, is_owed_notice, notices}
use Rattle.ws_model.specs.Leases.{lease_of, confirmed_intent, leases, live}
use Rattle.ws_model.specs.Versions.{versions_of, versions, pings_of, pings}
use Rattle.ws_model.specs.Fate.{Pair}
use Rattle.ws_model.specs.Pairs.{births, pairs, owed}
use Rattle.ws_model.specs.Account.{tallies_of, tallies, account}
use Rattle.ws_model.specs.Asks.{IsAsk, AreAsks, only_pending}

tested : (test : What → Bool) → ((i : Intent) → test (Asked i) ≡ false) → (w : What) → IsAsk w → test w ≡ false
tested test f (Asked i) a = f i
tested test f _ a = absurd a

never : (test : What → Bool) → ((i : Intent) → test (Asked i) ≡ false) → (h : List Event) → AreAsks h → has test h ≡ false
never test f [] a = refl
never test f (e ∷ h) a = or_from _ _ (tested test f e.what a.0) (never test f h a.1)

never_times : (test : What → Bool) → ((i : Intent) → test (Asked i) ≡ false) → (h : List Event) → AreAsks h → times test h ≡ 0
never_times test f [] a = refl
never_times test f (e ∷ h) a = rw (tested test f e.what a.0, never_times test f h a.1)

all_pending : (h : List Event) → AreAsks h → (i : Intent) → is_pending h i ≡ true
all_pending h a i = rw (never (is_settled i.n) (λ j. refl) h a, never_times (is_unheard i.n) (λ j. refl) h a)

none_noticed : (h : List Event) → AreAsks h → (i : Intent) → is_owed_notice h i ≡ false
none_noticed h a i = rw (never (is_denied i.n) (λ j. refl) h a)

filter_every : {X : Type 0} (test : X → Bool) → ((x : X) → test x ≡ true) → (xs : List X) → filter test xs ≡ xs
filter_every test f [] = refl
filter_every test f (x ∷ xs) = rw (f x) (ap (λ ys. x ∷ ys) (filter_every test f xs))

filter_none : {X : Type 0} (test : X → Bool) → ((x : X) → test x ≡ false) → (xs : List X) → filter test xs ≡ []
filter_none test f [] = refl
filter_none test f (x ∷ xs) = rw (f x) (filter_none test f xs)

one_asked : (w : What) (is : List Intent) → IsAsk w → length (intents_of w ++ is) ≡ suc (length is)
one_asked (Asked i) is a = refl
one_asked _ is a = absurd a

length_asked : (h : List Event) → AreAsks h → length (asked h) ≡ length h
length_asked [] a = refl
length_asked (e ∷ h) a = one_asked e.what (asked h) a.0 ∙ ap suc (length_asked h a.1)

no_lease : (w : What) (o : Option Intent) → IsAsk w → lease_of w o ≡ []
no_lease (Asked i) o a = refl
no_lease _ o a = absurd a

no_leases : (h : List Event) → AreAsks h → leases h ≡ []
no_leases [] a = refl
no_leases (e ∷ h) a = rw (no_lease e.what (confirmed_intent e.what h) a.0) (no_leases h a.1)

no_version : (w : What) → IsAsk w → versions_of w ≡ []
no_version (Asked i) a = refl
no_version _ a = absurd a

no_versions : (h : List Event) → AreAsks h → versions h ≡ []
no_versions [] a = refl
no_versions (e ∷ h) a = rw (no_version e.what a.0) (no_versions h a.1)

no_ping : (e : Event) (w : What) → IsAsk w → pings_of e w ≡ []
no_ping e (Asked i) a = refl
no_ping e _ a = absurd a

no_pings : (h : List Event) → AreAsks h → pings h ≡ []
no_pings [] a = refl
no_pings (e ∷ h) a = rw (no_ping e e.what a.0) (no_pings h a.1)

no_births : (t : ℕ) (w : What) (o : Option Intent) (ls : List _) (ps : List Pair) → IsAsk w → births t w o ls ps ≡ []
no_births t (Asked i) o ls ps a = refl
no_births t _ o ls ps a = absurd a

no_pairs : (h : List Event) → AreAsks h → pairs h ≡ []
no_pairs [] a = refl
no_pairs (e ∷ h) a = rw (no_births e.t e.what (confirmed_intent e.what h) (live h e.t) (owed h e.t) a.0) (no_pairs h a.1)

no_tally : (w : What) → IsAsk w → tallies_of w ≡ []
no_tally (Asked i) a = refl
no_tally _ a = absurd a

no_tallies : (h : List Event) → AreAsks h → tallies h ≡ []
no_tallies [] a = refl
no_tallies (e ∷ h) a = rw (no_tally e.what a.0) (no_tallies h a.1)

-- each request is pending, and there is nothing else
pub account_of_asks : (h : List Event) (t : ℕ) → AreAsks h → account h t ≡ only_pending (length h)
account_of_asks h t a =
    let waiting : length (pending h) ≡ length h = ap length (filter_every (is_pending h) (all_pending h a) (asked h)) ∙ length_asked h a in
    let told : notices h ≡ [] = filter_none (is_owed_notice h) (none_noticed h a) (asked h) in
    rw (waiting, told, no_leases h a, no_versions h a, no_pings h a, no_pairs h a, no_tallies h a)
