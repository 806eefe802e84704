-- What a compaction keeps of a legal history is a legal history.
use Rattle.std.proofs.Common.{◌≡◌, ℕ, ◌≤◌, ◌<◌, Bool, true, false, cond, not, ◌&&◌, List, [], ◌∷◌, refl, ap, sym, ◌∙◌, subst, arith, inl, inr}
use Rattle.std.specs.Prelude.{Option, Some, None, filter, find, max, nat_lt, nat_le, is_some, ◌==◌}
use Rattle.std.specs.List.{list_any}
use Rattle.std.proofs.lemmas.Bool.Decides.{nat_tests}
use Rattle.std.proofs.lemmas.Bool.{and_from, and_parts, eqb-true, false_from_ne_true, false≢true, ltb-true, not-true, or_cases, or_left, or_right}
use Rattle.ws_model.specs.declared.event.Event.{Event}
use Rattle.ws_model.specs.declared.event.Intent.{Intent}
use Rattle.ws_model.specs.declared.event.Tally.{Tally as TallyFields}
use Rattle.ws_model.specs.declared.event.What.{What}
use Rattle.ws_model.specs.declared.event.What.TheVariants.{Asked, Confirmed, Declined, Unheard, Barred, Noticed, Pinged, Fetched, Same, Unfetched, Pushed, Tally, Revoked}
use Rattle.ws_model.specs.declared.lease.Lease.{Lease}
use Rattle.ws_compaction.proofs.Choice.{choice, find_asked, kept_of, lease_in, request_in, requested}
use Rattle.ws_compaction.proofs.Looks.{last_intent_kept, last_serial_kept, last_time_kept, last_version_kept}
use Rattle.ws_compaction.proofs.Requests.{AreNoticed, AreStanding, notice_number_kept, noticed_before, pending_kept, standing_before}
use Rattle.ws_compaction.proofs.Shrunk.{AreRight, live_kept, owed_of, pairs_kept}
use Rattle.ws_compaction.proofs.Unrevoked.{any_filter}
use Rattle.ws_compaction.proofs.Whole.{head, keep_is, noticed, noticed_in, pending_in, right, standing, version_in}
use Rattle.ws_compaction.specs.Compaction.{KeepIsLegal}
use Rattle.ws_laws.proofs.Known.{sound}
use Rattle.ws_laws.proofs.ListLaws.{find-filter}
use Rattle.ws_laws.proofs.Moments.{last_time_le}
use Rattle.ws_model.specs.Fate.{Pair}
use Rattle.ws_model.specs.Intents.{asked, is_first, is_owed_notice, is_owed_notice_number, notices, pending, same_pair}
use Rattle.ws_model.specs.Keep.{is_kept_miss, is_kept_ping, kept_leases}
use Rattle.ws_model.specs.Leases.{live}
use Rattle.ws_model.specs.Legal.{Legal, accepts_what, is_confirmable, is_confirmed_in_time, is_first_one, is_first_tally, is_in_order, is_on_one, is_sound, is_sound_intent, is_sound_tally, is_sound_version, number_limit, pending_of, time_limit}
use Rattle.ws_model.specs.Moment.{intent_number, intent_number_in, last_intent, last_serial, last_time, last_version, serial, serial_in, time, version_number, version_number_in}
use Rattle.ws_model.specs.Pairs.{owed}

pub any_kept : {X : Type 0} (p q : X → Bool) → ((x : X) → q x ≡ true → p x ≡ true) → (xs : List X) → list_any q xs ≡ true → list_any q (filter p xs) ≡ true
any_kept p q f [] k = k
any_kept p q f (x ∷ xs) k = one (p x) refl (any_kept p q f xs)
  where
    one : (b : Bool) → p x ≡ b → (list_any q xs ≡ true → list_any q (filter p xs) ≡ true) → list_any q (cond b (x ∷ filter p xs) (filter p xs)) ≡ true
    one true e r = elim (or_cases (q x) (list_any q xs) k) [ inl a ↦ or_left _ _ a | inr a ↦ or_right (q x) _ (r a) ]
    one false e r = elim (or_cases (q x) (list_any q xs) k) [ inl a ↦ absurd (false≢true (sym e ∙ f x a)) | inr a ↦ r a ]

lower : (m n k : ℕ) → m ≤ n → nat_lt n k ≡ true → nat_lt m k ≡ true
lower m n k a b = grind (arith, nat_tests)

no_later : (m n k : ℕ) → m ≤ n → nat_le n k ≡ true → nat_le m k ≡ true
no_later m n k a b = grind (arith, nat_tests)

rebuilt : (a b x c y : Bool) → (a ≡ true → c ≡ true) → (x ≡ true → y ≡ true) → (a && b && x) ≡ true → (c && b && y) ≡ true
rebuilt a b x c y f g k =
    let p = and_parts (a && b) x k in
    let q = and_parts a b p.0 in
    and_from _ _ (and_from _ _ (f q.0) q.1) (g p.1)

module _ (tallied : TallyFields) (pends notices_in shows : ℕ → Bool) (kept_numbers : List ℕ) (ping_in miss_in : Event → List ℕ → Bool) where
  abbrev holds : ℕ → Bool
  holds n = lease_in tallied pends notices_in shows kept_numbers ping_in miss_in n

  abbrev requests : ℕ → Bool
  requests n = request_in tallied pends notices_in shows kept_numbers ping_in miss_in n

  abbrev choose : Event → What → Bool
  choose e w = choice tallied pends notices_in shows kept_numbers ping_in miss_in e w

  abbrev stay : Event → Bool
  stay e = choose e e.what

  abbrev left : List Event → List Event
  left g = kept_of tallied pends notices_in shows kept_numbers ping_in miss_in g

  -- what is known of a part of the history
  pub record IsSuited (g : List Event) : Type 0 where
    pub legal : Legal g
    pub rights : AreRight tallied stay holds shows g
    pub stands : AreStanding tallied pends notices_in shows kept_numbers ping_in miss_in g
    pub notes : AreNoticed tallied pends notices_in shows kept_numbers ping_in miss_in g

  suited_before : (e : Event) (g : List Event) → IsSuited (e ∷ g) → IsSuited g
  suited_before e g s =
      record {
        legal = s.legal.0;
        rights = s.rights.0;
        stands = standing_before tallied pends notices_in shows kept_numbers ping_in miss_in e g s.legal.1 s.stands;
        notes = noticed_before tallied pends notices_in shows kept_numbers ping_in miss_in e g s.notes;
      }

  module _ (g : List Event) (s : IsSuited g) where
    order_kept : (e : Event) → is_in_order e g ≡ true → is_in_order e (left g) ≡ true
    order_kept e k =
        let a = and_parts (nat_lt (last_serial g) e.serial && nat_lt e.serial number_limit && nat_le (last_time g) e.t) (nat_lt e.t time_limit) k in
        let b = and_parts (nat_lt (last_serial g) e.serial && nat_lt e.serial number_limit) (nat_le (last_time g) e.t) a.0 in
        let c = and_parts (nat_lt (last_serial g) e.serial) (nat_lt e.serial number_limit) b.0 in
        and_from _ _ (and_from _ _ (and_from _ _ (lower _ (last_serial g) e.serial (last_serial_kept tallied stay holds shows g) c.0) c.1) (no_later _ (last_time g) e.t (last_time_kept tallied stay holds shows g) b.1)) a.1

    pending_of_kept : (n : ℕ) → requests n ≡ true → pending_of (left g) n ≡ pending_of g n
    pending_of_kept n k =
        ap (find (λ i. i.n == n)) (pending_kept tallied pends notices_in shows kept_numbers ping_in miss_in g s.stands)
        ∙ find-filter (λ i. i.n == n) (λ i. requests i.n) true (λ i e. ap requests (eqb-true i.n n e) ∙ k) (pending g)

    first_still : (i : Intent) → is_first g i ≡ true → is_first (left g) i ≡ true
    first_still i k =
        let q : Intent → Bool = λ j. nat_lt j.n i.n && same_pair i j in
        let none : list_any q (pending g) ≡ false = not-true _ k in
        let less : list_any q (filter (λ j. requests j.n) (pending g)) ≡ false = false_from_ne_true _ (λ y. false≢true (sym none ∙ any_filter (λ j. requests j.n) q (pending g) y)) in
        ap (λ is. not (list_any q is)) (pending_kept tallied pends notices_in shows kept_numbers ping_in miss_in g s.stands) ∙ ap not less

    first_one_still : (o : Option Intent) → is_first_one g o ≡ true → is_first_one (left g) o ≡ true
    first_one_still None k = absurd (false≢true k)
    first_one_still (Some i) k = first_still i k

    confirmable_still : (sent t : ℕ) (o : Option Intent) → is_confirmable g sent t o ≡ true → is_confirmable (left g) sent t o ≡ true
    confirmable_still sent t None k = absurd (false≢true k)
    confirmable_still sent t (Some i) k =
        let a = and_parts (is_first g i && nat_le sent t) (is_confirmed_in_time sent t i) k in
        let b = and_parts (is_first g i) (nat_le sent t) a.0 in
        and_from _ _ (and_from _ _ (first_still i b.0) b.1) a.1

    notice_still : (n : ℕ) → notices_in n ≡ true → find (λ i. i.n == n) (notices (left g)) ≡ find (λ i. i.n == n) (notices g)
    notice_still n k =
        let told : requests n ≡ true = or_left _ (holds n) (or_right (pends n) _ k) in
        find-filter (λ i. i.n == n) (is_owed_notice (left g)) (is_owed_notice_number (left g) n) (λ i e. ap (is_owed_notice_number (left g)) (eqb-true i.n n e)) (asked (left g))
        ∙ ap (λ b. cond b (find (λ i. i.n == n) (asked (left g))) None) (notice_number_kept tallied pends notices_in shows kept_numbers ping_in miss_in g s.notes n k)
        ∙ ap (λ o. cond (is_owed_notice_number g n) o None) (find_asked tallied pends notices_in shows kept_numbers ping_in miss_in g n told)
        ∙ sym (find-filter (λ i. i.n == n) (is_owed_notice g) (is_owed_notice_number g n) (λ i e. ap (is_owed_notice_number g) (eqb-true i.n n e)) (asked g))

    pushed_still : (v n t : ℕ) → shows v ≡ true → holds n ≡ true → list_any (λ (p : Pair). (p.version.ver == v) && (p.lease.intent.n == n)) (owed g t) ≡ true → list_any (λ (p : Pair). (p.version.ver == v) && (p.lease.intent.n == n)) (owed (left g) t) ≡ true
    pushed_still v n t a b k =
        let q : Pair → Bool = λ p. (p.version.ver == v) && (p.lease.intent.n == n) in
        ap (list_any q) (owed_of tallied stay holds shows g s.legal s.rights (pairs_kept tallied stay holds shows g s.legal s.rights) t)
        ∙ any_kept (λ p. shows p.version.ver && holds p.lease.intent.n) q
        (λ p e. let r = and_parts (p.version.ver == v) (p.lease.intent.n == n) e in and_from _ _ (ap shows (eqb-true p.version.ver v r.0) ∙ a) (ap holds (eqb-true p.lease.intent.n n r.1) ∙ b)) (owed g t) k

    revoked_still : (n t : ℕ) → holds n ≡ true → list_any (λ (x : Lease). x.intent.n == n) (live g t) ≡ true → list_any (λ (x : Lease). x.intent.n == n) (live (left g) t) ≡ true
    revoked_still n t a k =
        ap (list_any (λ (x : Lease). x.intent.n == n)) (live_kept tallied stay holds shows g s.legal s.rights t)
        ∙ any_kept (λ (x : Lease). holds x.intent.n) (λ x. x.intent.n == n) (λ x e. ap holds (eqb-true x.intent.n n e) ∙ a) (live g t) k

    -- a kept event may come after what is kept before it
    accepts_still : (e : Event) (w : What) → choose e w ≡ true → accepts_what e g w ≡ true → accepts_what e (left g) w ≡ true
    accepts_still e (Asked i) k a = rebuilt _ _ _ _ _ (order_kept e) (lower _ (last_intent g) i.n (last_intent_kept tallied stay holds shows g)) a
    accepts_still e (Confirmed n sent) k a = rebuilt _ _ _ _ _ (order_kept e) (λ x. ap (is_confirmable (left g) sent e.t) (pending_of_kept n (requested tallied pends notices_in shows kept_numbers ping_in miss_in n k)) ∙ confirmable_still sent e.t (pending_of g n) x) a
    accepts_still e (Declined n code) k a = absurd (false≢true k)
    accepts_still e (Unheard n) k a = rebuilt _ _ _ _ _ (order_kept e) (λ x. ap (is_first_one (left g)) (pending_of_kept n (or_left _ (holds n) (or_left _ (notices_in n) k))) ∙ first_one_still (pending_of g n) x) a
    accepts_still e (Barred n reason) k a = rebuilt _ _ _ _ _ (order_kept e) (λ x. ap is_on_one (pending_of_kept n (or_left _ (holds n) (or_right (pends n) _ k))) ∙ x) a
    accepts_still e (Noticed n heard) k a = rebuilt _ _ _ _ _ (order_kept e) (λ x. ap is_some (notice_still n k) ∙ x) a
    accepts_still e (Pinged topic) k a = rebuilt _ _ _ _ _ (order_kept e) (λ x. x) a
    accepts_still e (Fetched v) k a = rebuilt _ _ _ _ _ (order_kept e) (lower _ (last_version g) v.ver (last_version_kept tallied stay holds shows g)) a
    accepts_still e (Same topic upto) k a = absurd (false≢true k)
    accepts_still e (Unfetched topic upto why) k a = rebuilt _ _ _ _ _ (order_kept e) (λ x. x) a
    accepts_still e (Pushed v n how) k a = let b = and_parts (shows v) (holds n) k in rebuilt _ _ _ _ _ (order_kept e) (pushed_still v n e.t b.0 b.1) a
    accepts_still e (Tally c) k a = absurd (false≢true k)
    accepts_still e (Revoked n reason) k a = rebuilt _ _ _ _ _ (order_kept e) (revoked_still n e.t k) a

  legal_kept : is_sound_tally tallied ≡ true → (g : List Event) → IsSuited g → Legal (left g)
  legal_kept sound [] s = (tt, sound)
  legal_kept sound (e ∷ g) s = one (stay e) refl (suited_before e g s) (legal_kept sound g (suited_before e g s))
    where
      one : (b : Bool) → stay e ≡ b → IsSuited g → Legal (left g) → Legal (cond b (e ∷ left g) (left g))
      one true k before r = (r, accepts_still g before e e.what k s.legal.1)
      one false k before r = r

-- ---- the numbers of a legal history have their limits

both_below : (a b m : ℕ) → a < m → b < m → max a b < m
both_below a b m x y = omega arith

below : (a m : ℕ) → nat_lt a m ≡ true → a < m
below a m k = ltb-true a m k

in_order : (e : Event) (g : List Event) (b : Bool) (c : Bool) → (is_in_order e g && b && c) ≡ true → e.serial < number_limit
in_order e g b c k =
    let a = and_parts (is_in_order e g) b (and_parts (is_in_order e g && b) c k).0 in
    let d = and_parts (nat_lt (last_serial g) e.serial && nat_lt e.serial number_limit && nat_le (last_time g) e.t) (nat_lt e.t time_limit) a.0 in
    let f = and_parts (nat_lt (last_serial g) e.serial && nat_lt e.serial number_limit) (nat_le (last_time g) e.t) d.0 in
    below _ _ (and_parts (nat_lt (last_serial g) e.serial) (nat_lt e.serial number_limit) f.0).1

positive : 0 < number_limit
positive = omega arith

first_serial : (e : Event) (g : List Event) → is_first_tally e g ≡ true → e.serial < number_limit
first_serial e [] k = subst (λ s. s < number_limit) (sym (eqb-true e.serial 0 (and_parts (e.serial == 0) (e.t == 0) k).0)) positive
first_serial e (f ∷ g) k = absurd (false≢true k)

record AreBelow (c : TallyFields) : Type 0 where
  serial : c.serial < number_limit
  intent : c.intent < number_limit
  version : c.version < number_limit

tally_below : (c : TallyFields) → is_sound_tally c ≡ true → AreBelow c
tally_below c k =
    let a = and_parts (nat_lt c.now time_limit && nat_lt c.serial number_limit && nat_lt c.intent number_limit) (nat_lt c.version number_limit) k in
    let b = and_parts (nat_lt c.now time_limit && nat_lt c.serial number_limit) (nat_lt c.intent number_limit) a.0 in
    let d = and_parts (nat_lt c.now time_limit) (nat_lt c.serial number_limit) b.0 in
    record { serial = below _ _ d.1; intent = below _ _ b.1; version = below _ _ a.1 }

serial_one : (w : What) (e : Event) (g : List Event) → accepts_what e g w ≡ true → serial_in e w < number_limit
serial_one (Tally c) e g k =
    let a = and_parts (is_first_tally e g) (is_sound_tally c) k in
    both_below e.serial c.serial number_limit (first_serial e g a.0) (tally_below c a.1).serial
serial_one w e g k = in_order e g _ _ k

serial_below : (h : List Event) → Legal h → serial h < number_limit
serial_below [] l = positive
serial_below (e ∷ h) l = both_below (serial_in e e.what) (serial h) number_limit (serial_one e.what e h l.1) (serial_below h l.0)

intent_one : (w : What) (s : ℕ) → is_sound s w ≡ true → intent_number_in w < number_limit
intent_one (Asked i) s k = below _ _ (intent_first i k)
  where
    intent_first : (i : Intent) → is_sound_intent i ≡ true → nat_lt i.n number_limit ≡ true
    intent_first i k = (and_parts (nat_lt i.n number_limit) _ (and_parts _ _ (and_parts _ _ (and_parts _ _ (and_parts _ _ k).0).0).0).0).0
intent_one (Tally c) s k = (tally_below c k).intent
intent_one _ s k = positive

intent_below : (h : List Event) → Legal h → intent_number h < number_limit
intent_below [] l = positive
intent_below (e ∷ h) l = both_below (intent_number_in e.what) (intent_number h) number_limit (intent_one e.what e.serial (sound h e l.1)) (intent_below h l.0)

version_one : (w : What) (s : ℕ) → is_sound s w ≡ true → version_number_in w < number_limit
version_one (Fetched v) s k = below _ _ (and_parts (nat_lt v.ver number_limit) _ (and_parts _ _ (and_parts _ _ (and_parts _ _ (and_parts _ _ (and_parts _ _ (and_parts (is_sound_version v) (nat_lt v.upto s) k).0).0).0).0).0).0).0
version_one (Tally c) s k = (tally_below c k).version
version_one _ s k = positive

version_below : (h : List Event) → Legal h → version_number h < number_limit
version_below [] l = positive
version_below (e ∷ h) l = both_below (version_number_in e.what) (version_number h) number_limit (version_one e.what e.serial (sound h e l.1)) (version_below h l.0)

tested : (a m : ℕ) → a < m → nat_lt a m ≡ true
tested a m k = grind (arith, nat_tests)

pub keep_is_legal : KeepIsLegal
keep_is_legal h t l le small =
    let before : last_time h ≤ time h = last_time_le h in
    let late : last_time h ≤ t = omega arith in
    let sound_head : is_sound_tally (head h t) ≡ true =
    and_from _ _ (and_from _ _ (and_from _ _ (tested t time_limit small) (tested (serial h) number_limit (serial_below h l))) (tested (intent_number h) number_limit (intent_below h l))) (tested (version_number h) number_limit (version_below h l)) in
    subst Legal (sym (keep_is h t))
    (legal_kept (head h t) (pending_in h t) (noticed_in h t) (version_in h t) (kept_leases h t) (is_kept_ping h) (is_kept_miss h) sound_head h
    (record { legal = l; rights = right h t l late; stands = standing h t l late; notes = noticed h t l late }))
