-- What a compaction keeps, by what it has found out.
use Rattle.std.proofs.Common.{◌≡◌, ℕ, ◌+◌, Bool, true, false, cond, List, [], ◌∷◌, ◌++◌, length, refl, sym, ap, ◌∙◌}
use Rattle.std.specs.Prelude.{◌&&◌, filter, min, not, reverse}
use Rattle.std.proofs.lemmas.List.{append-nil, reverse-append}
use Rattle.std.proofs.lemmas.List.Elements.{filter-append}
use Rattle.ws_model.specs.declared.event.Event.{Event}
use Rattle.ws_model.specs.declared.event.Intent.{Intent}
use Rattle.ws_model.specs.declared.event.Tally.{Tally as TallyFields}
use Rattle.ws_model.specs.declared.event.Version.{Version}
use Rattle.ws_model.specs.declared.event.What.{What}
use Rattle.ws_model.specs.declared.event.What.TheVariants.{Asked, Confirmed, Declined, Unheard, Barred, Noticed, Pinged, Fetched, Same, Unfetched, Pushed, Tally, Revoked}
use Rattle.ws_model.specs.declared.fate.Fate.{Fate}
use Rattle.ws_model.specs.Account.{most, tallies}
use Rattle.ws_model.specs.Fate.{Pair, fate}
use Rattle.ws_model.specs.Intents.{pending, notices}
use Rattle.ws_model.specs.Keep.{first_kept, forgotten, keep, keeps, kept_leases, tally, with_replaced}
use Rattle.ws_model.specs.Pairs.{owed, pairs}
use Rattle.ws_model.specs.Versions.{Ping, fetches, latest}
use Rattle.ws_plain.specs.Alike.{alike}
use Rattle.ws_plain.specs.Kept.{Found, found, is_version_in, keeps_by, keeps_pair}
use Rattle.ws_plain.specs.Past.{past}
use Rattle.ws_plain.specs.Tallies.{no_tally, tally_in}
use Rattle.ws_plain.proofs.Totals.{tallied_is}

pub leases_are : (h : List Event) (t : ℕ) (vs : List Version) (ps : List Pair) (ns r : List ℕ) → vs ≡ latest h → ps ≡ owed h t → ns ≡ first_kept h t → r ≡ with_replaced (is_version_in vs ps) ns h → r ≡ kept_leases h t
leases_are h t vs ps ns r p q s e =
    e ∙ ap (λ xs. with_replaced (is_version_in xs ps) ns h) p ∙ ap (λ xs. with_replaced (is_version_in (latest h) xs) ns h) q
    ∙ ap (λ xs. with_replaced (is_version_in (latest h) (owed h t)) xs h) s

pub found_is : (h : List Event) (t : ℕ) (is ns : List Intent) (fs : List Ping) (vs : List Version) (ps : List Pair) (ls : List ℕ) → is ≡ pending h → ns ≡ notices h → fs ≡ fetches h → vs ≡ latest h → ps ≡ owed h t → ls ≡ kept_leases h t
    → ◌≡◌ {A = Found} (record { pending = is; notices = ns; fetches = fs; latest = vs; owed = ps; leases = ls }) (found h t)
found_is h t is ns fs vs ps ls a b c d e f =
    λ i. record { pending = a i; notices = b i; fetches = c i; latest = d i; owed = e i; leases = f i }

pub keeps_is : (h : List Event) (t : ℕ) (e : Event) (w : What) → keeps_by (found h t) e w ≡ keeps h t e w
keeps_is h t e (Asked i) = refl
keeps_is h t e (Confirmed n sent) = refl
keeps_is h t e (Declined n code) = refl
keeps_is h t e (Unheard n) = refl
keeps_is h t e (Barred n reason) = refl
keeps_is h t e (Noticed n heard) = refl
keeps_is h t e (Pinged topic) = refl
keeps_is h t e (Fetched v) = refl
keeps_is h t e (Same topic upto) = refl
keeps_is h t e (Unfetched topic upto why) = refl
keeps_is h t e (Pushed v n how) = refl
keeps_is h t e (Tally c) = refl
keeps_is h t e (Revoked n reason) = refl

filter_ext : {X : Type 0} (p q : X → Bool) → ((x : X) → p x ≡ q x) → (xs : List X) → filter p xs ≡ filter q xs
filter_ext p q f [] = refl
filter_ext p q f (x ∷ xs) = rw (f x, filter_ext p q f xs)

module _ {X : Type 0} where
  reverse_cons : (x : X) (xs : List X) → reverse (x ∷ xs) ≡ reverse xs ++ x ∷ []
  reverse_cons x xs = reverse-append (x ∷ []) xs

  one_more : (x : X) (ys zs : List X) (b : Bool) → ys ≡ reverse zs → ys ++ cond b (x ∷ []) [] ≡ reverse (cond b (x ∷ zs) zs)
  one_more x ys zs true e = ap (λ l. l ++ x ∷ []) e ∙ sym (reverse_cons x zs)
  one_more x ys zs false e = append-nil ys ∙ e

  filter-reverse : (p : X → Bool) (xs : List X) → filter p (reverse xs) ≡ reverse (filter p xs)
  filter-reverse p [] = refl
  filter-reverse p (x ∷ xs) =
      ap (filter p) (reverse_cons x xs) ∙ filter-append p (reverse xs) (x ∷ []) ∙ one_more x _ (filter p xs) (p x) (filter-reverse p xs)

pub keep_is : (events kept : List Event) (t : ℕ) (e : Event) (f : Found) → f ≡ found (past events) t → e ≡ tally (past events) t → kept ≡ filter (λ (x : Event). keeps_by f x x.what) events → past (e ∷ kept) ≡ keep (past events) t
unfolding past
keep_is events kept t e f p q k =
    let h = reverse events in
    reverse_cons e kept ∙ ap (λ (x : Event). reverse kept ++ x ∷ []) q
    ∙ ap (λ (l : List Event). l ++ tally h t ∷ [])
    (ap reverse (k ∙ ap (λ (g : Found). filter (λ (x : Event). keeps_by g x x.what) events) p) ∙ sym (filter-reverse (λ (x : Event). keeps_by (found h t) x x.what) events)
    ∙ filter_ext (λ (x : Event). keeps_by (found h t) x x.what) (λ (x : Event). keeps h t x x.what) (λ (x : Event). keeps_is h t x x.what) h)

pub forgotten_is : (wanted : Fate) (field : TallyFields → ℕ) (h : List Event) (t : ℕ) (ps : List Pair) (c : TallyFields) (f : Found) (r : ℕ) → field no_tally ≡ 0 → ps ≡ pairs h → c ≡ tally_in (tallies h) → f ≡ found h t
    → r ≡ min (field c + length (filter (λ p. alike wanted (fate h p t) && not (keeps_pair f p)) ps)) most → r ≡ forgotten (alike wanted) field h t
forgotten_is wanted field h t ps c f r z p q k e =
    e ∙ ap (λ xs. min (field c + length (filter (λ x. alike wanted (fate h x t) && not (keeps_pair f x)) xs)) most) p
    ∙ ap (λ (g : Found). min (field c + length (filter (λ x. alike wanted (fate h x t) && not (keeps_pair g x)) (pairs h))) most) k
    ∙ ap (λ n. min (n + length (filter (λ x. alike wanted (fate h x t) && not (keeps_pair (found h t) x)) (pairs h))) most) (ap field q ∙ tallied_is field z (tallies h))

-- the fields of a Tally
abbrev pub fields_of : What → TallyFields
fields_of (Tally c) = c
fields_of _ = no_tally

pub tally_is : (c : TallyFields) (nw se it vr an ex un re go sp rv : ℕ) → nw ≡ c.now → se ≡ c.serial → it ≡ c.intent → vr ≡ c.version → an ≡ c.answered → ex ≡ c.expired → un ≡ c.unsubscribed → re ≡ c.replaced → go ≡ c.gone → sp ≡ c.spent → rv ≡ c.revoked
    → ◌≡◌ {A = Event} (record { serial = 0; t = 0; what = Tally (record { now = nw; serial = se; intent = it; version = vr; answered = an; expired = ex; unsubscribed = un; replaced = re; gone = go; spent = sp; revoked = rv }) }) (record { serial = 0; t = 0; what = Tally c })
tally_is c nw se it vr an ex un re go sp rv p1 p2 p3 p4 p5 p6 p7 p8 p9 p10 p11 =
    λ i. record {
      serial = 0;
      t = 0;
      what = Tally (record {
        now = p1 i;
        serial = p2 i;
        intent = p3 i;
        version = p4 i;
        answered = p5 i;
        expired = p6 i;
        unsubscribed = p7 i;
        replaced = p8 i;
        gone = p9 i;
        spent = p10 i;
        revoked = p11 i;
      });
    }
