-- Events made whole again: kept versions are held, and each number is of one version.
use Rattle.std.proofs.Common.{◌≡◌, ℕ, ◌≤◌, ◌<◌, true, false, cond, not, ◌&&◌, List, [], ◌∷◌, ◌++◌, refl, ap, sym, ◌∙◌, arith, inl, inr}
use Rattle.std.specs.Prelude.{Option, Some, None, IsSome, IfSome, find, ◌==◌}
use Rattle.std.specs.List.{AllByRecursion, list_any}
use Rattle.std.proofs.lemmas.Bool.{false≢true, ltb-true, or_cases}
use Rattle.std.proofs.lemmas.Bool.Decides.{nat_tests}
use Rattle.ws_model.specs.declared.event.Event.{Event}
use Rattle.ws_model.specs.declared.event.Intent.{Intent}
use Rattle.ws_model.specs.declared.event.Version.{Version}
use Rattle.ws_model.specs.declared.event.What.{What}
use Rattle.ws_model.specs.declared.event.What.TheVariants.{Asked, Fetched}
use Rattle.ws_model.specs.Keep.{keeps}
use Rattle.ws_model.specs.Legal.{Legal, is_allowed}
use Rattle.ws_model.specs.Moment.{fetched_number, last_version}
use Rattle.ws_model.specs.Pairs.{owed}
use Rattle.ws_model.specs.Verdict.{is_kept_version}
use Rattle.ws_model.specs.Versions.{latest, versions, versions_of}
use Rattle.ws_laws.proofs.Known.{allowed, itself}
use Rattle.ws_laws.proofs.ListLaws.{all_weaker}
use Rattle.ws_tries.specs.Stands.{is_any_push}
use Rattle.ws_kept.specs.Stands.{light, light_event}
use Rattle.ws_sift.specs.Sifted.{IsFoundIn, intent_in, is_kept_other, version_in}
use Rattle.ws_sift.proofs.Asking.{HasIntent, have_intents}

-- ---- each number is of one version

-- its number isn't above those of the history
abbrev IsWithin : ℕ → Event → Type 0
IsWithin most e = (v : Version) → e.what ≡ Fetched v → v.ver ≤ most

within : (h : List Event) → AllByRecursion (IsWithin (last_version h)) h
within [] = tt
within (e ∷ h) = (
  (λ v k. let m : fetched_number e.what ≡ v.ver = ap fetched_number k in omega arith),
  all_weaker (IsWithin (last_version h)) (IsWithin (last_version (e ∷ h))) (λ d f v k. let m : v.ver ≤ last_version h = f v k in omega arith) h (within h),
)

-- where a version was fetched, it is the one that the history has by its number
abbrev pub HasVersion : List Event → Event → Type 0
HasVersion h e = (v : Version) → e.what ≡ Fetched v → find (λ w. w.ver == v.ver) (versions h) ≡ Some v

-- the newest is found by its number
new_found : (e : Event) (h : List Event) → HasVersion (e ∷ h) e
new_found e h v k =
    ap (λ w. find (λ w. w.ver == v.ver) (versions_of w ++ versions h)) k
    ∙ ap (λ b. cond b (Some v) (find (λ w. w.ver == v.ver) (versions h))) (itself v.ver)

-- and the others still are
still_found : (e : Event) (h : List Event) (w : What) → is_allowed w e.t h ≡ true → (v : Version) → v.ver ≤ last_version h → find (λ w. w.ver == v.ver) (versions_of w ++ versions h) ≡ find (λ w. w.ver == v.ver) (versions h)
still_found e h (Fetched x) k v m =
    let n : last_version h < x.ver = ltb-true _ _ k in
    let o : (x.ver == v.ver) ≡ false = grind (arith, nat_tests) in
    ap (λ b. cond b (Some x) (find (λ w. w.ver == v.ver) (versions h))) o
still_found e h _ k v m = refl

both : (h : List Event) (es : List Event) (P Q R : Event → Type 0) → ((e : Event) → P e → Q e → R e) → AllByRecursion P es → AllByRecursion Q es → AllByRecursion R es
both h [] P Q R f a b = tt
both h (e ∷ es) P Q R f a b = (f e a.0 b.0, both h es P Q R f a.1 b.1)

-- each version is the one that the history has by its number
have_versions : (h : List Event) → Legal h → AllByRecursion (HasVersion h) h
have_versions [] l = tt
have_versions (e ∷ h) l = (
  new_found e h,
  both h h (IsWithin (last_version h)) (HasVersion h) (HasVersion (e ∷ h)) (λ d w f v k. still_found e h e.what (allowed h e l.1) v (w v k) ∙ f v k) (within h) (have_versions h l.0),
)

-- and so is what was asked for
pub all_found : (h : List Event) → Legal h → AllByRecursion (IsFoundIn h) h
all_found h l = both h h (HasVersion h) (HasIntent h) (IsFoundIn h) (λ e v i. record { version = v; intent = i }) (have_versions h l) (have_intents h l)

-- ---- events made whole again

not_light : (w : What) → None ≡ version_in w → None ≡ intent_in w → light w ≡ w
not_light (Fetched v) k m = absurd (cc)
not_light (Asked i) k m = absurd (cc)
not_light _ k m = refl

-- what is no version and no request is as it was
pub as_it_was : (event e : Event) → event ≡ light_event e → None ≡ version_in e.what → None ≡ intent_in e.what → event ≡ e
as_it_was event e k n m = k ∙ ap (λ w. record { serial = e.serial; t = e.t; what = w }) (not_light e.what n m)

fetched_so : (w : What) (v : Version) → Some v ≡ version_in w → Fetched v ≡ w
fetched_so (Fetched x) v k = let same : v ≡ x = cc in ap Fetched same
fetched_so _ v k = absurd (cc)

-- and what is one has it again
pub whole_again : (event e : Event) (v : Version) → event ≡ light_event e → Some v ≡ version_in e.what → ◌≡◌ {A = Event} (record { serial = event.serial; t = event.t; what = Fetched v }) e
whole_again event e v k f = ap (λ (d : Event). record { serial = d.serial; t = d.t; what = Fetched v }) k ∙ ap (λ w. record { serial = e.serial; t = e.t; what = w }) (fetched_so e.what v f)

asked_so : (w : What) (i : Intent) → Some i ≡ intent_in w → Asked i ≡ w
asked_so (Asked j) i k = let same : i ≡ j = cc in ap Asked same
asked_so _ i k = absurd (cc)

-- and so has what is one
pub asked_again : (event e : Event) (i : Intent) → event ≡ light_event e → Some i ≡ intent_in e.what → ◌≡◌ {A = Event} (record { serial = event.serial; t = event.t; what = Asked i }) e
asked_again event e i k f = ap (λ (d : Event). record { serial = d.serial; t = d.t; what = Asked i }) k ∙ ap (λ w. record { serial = e.serial; t = e.t; what = w }) (asked_so e.what i f)

pub light_other : (w : What) → version_in (light w) ≡ None → None ≡ version_in w
light_other (Fetched v) k = absurd (cc)
light_other _ k = refl

one_found : (o : Option Version) (n : ℕ) (h : List Event) (v : Version) → IfSome o (λ x. find (λ w. w.ver == n) (versions h) ≡ Some x) → find (λ w. w.ver == n) (versions h) ≡ Some v → IsSome o → o ≡ Some v
one_found None n h v f g s = absurd (false≢true s)
one_found (Some x) n h v f g s = sym f ∙ g

-- the held version of the number is the one that was fetched
pub held_is :
    (h : List Event) (t : ℕ) (e : Event) (v : Version) (o : Option Version) → IsFoundIn h e → Fetched v ≡ light e.what → is_kept_other h t e ≡ true
    → IfSome o (λ x. find (λ w. w.ver == v.ver) (versions h) ≡ Some x)
    → (list_any (λ w. w.ver == v.ver) (latest h) ≡ true → IsSome o) → (list_any (λ p. p.version.ver == v.ver) (owed h t) ≡ true → IsSome o)
    → o ≡ version_in e.what
held_is h t e v o found like kept known newest owing = by e.what refl like
  where
    by : (w : What) → e.what ≡ w → Fetched v ≡ light w → o ≡ version_in w
    by (Fetched x) k l =
        let n : v.ver ≡ x.ver = ap fetched_number l in
        let one : is_kept_version h t v.ver ≡ true = ap (is_kept_version h t) n ∙ sym (ap (λ w. not (is_any_push w) && keeps h t e w) k) ∙ kept in
        one_found o v.ver h x known (ap (λ m. find (λ w. w.ver == m) (versions h)) n ∙ found.version x k)
        (elim (or_cases (list_any (λ w. w.ver == v.ver) (latest h)) (list_any (λ p. p.version.ver == v.ver) (owed h t)) one) [ inl a ↦ newest a | inr a ↦ owing a ])
    by _ k l = absurd (cc)
