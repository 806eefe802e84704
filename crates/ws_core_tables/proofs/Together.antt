-- Events that are applied together.
use Rattle.std.proofs.Common.{◌≡◌, ℕ, suc, ◌≤◌, ◌<◌, ◌+◌, true, List, [], ◌∷◌, ◌++◌, length, max, refl, ap, sym, ◌∙◌, subst, arith, rules, drop-cons, Option, Some, None}
use Rattle.std.specs.Ordering.{nat_cmp, is_eq}
use Rattle.std.specs.Prelude.{IsSome, get_or, take, drop, map, nat_lt, nat_le, ◌&&◌, ◌||◌, ◌==◌}
use Rattle.std.proofs.lemmas.List.{take-append-drop}
use Rattle.std.proofs.lemmas.Bool.{and_parts, eqb-true, false≢true, ltb-true}
use Rattle.ws_model.specs.declared.event.Event.{Event}
use Rattle.ws_model.specs.declared.event.Intent.{Intent}
use Rattle.ws_model.specs.declared.event.What.{What}
use Rattle.ws_model.specs.declared.event.What.TheVariants.{Asked, Pinged, Tally}
use Rattle.ws_model.specs.Legal.{Legal, accepts, is_first_tally, is_in_order, is_sound, number_limit}
use Rattle.ws_model.specs.Moment.{last_intent, last_serial, last_time, serial}
use Rattle.ws_laws.proofs.Known.{in_time}
use Rattle.ws_intent.specs.Rows.{number_at}
use Rattle.ws_topic.specs.declared.rows.LastPing.{LastPing}
use Rattle.ws_topic.specs.Restored.{last_ping, pinged_rows}
use Rattle.ws_topic.specs.Stored.{IsListed}
use Rattle.ws_topic.proofs.Restoring.{ping_undone, without_new}
use Rattle.ws_delivery.proofs.Standing.{stands_later as deliveries_later}
use Rattle.ws_core_tables.specs.declared.numbers.Numbers.{Numbers}
use Rattle.ws_core_tables.specs.Committing.{AllGoOn, Begins, CanAllFollow, CanHappen, GoTogether, all_but_last, can_be_undone, committed, followed, is_none_left, moment, numbered, taken_back, with_asked, with_pinged}
use Rattle.ws_core_tables.specs.Numbers.{numbers_of, with_event}
use Rattle.ws_core_tables.specs.Rows.{Rows}
use Rattle.ws_core_tables.specs.Stands.{CanFollow, GoesOn, StandsFor}
use Rattle.ws_core_tables.proofs.Lookups.{asked_above, pending_below}

-- ---- the first, and the rest

pub legal_before : (es h : List Event) → Legal (followed es h) → Legal h
legal_before [] h l = l
legal_before (e ∷ es) h l = (legal_before es (e ∷ h) l).0

no_earlier : (a b t : ℕ) → max a b ≤ t → a ≤ t
no_earlier a b t k = omega arith

-- times never fall
pub begins_later : (e : Event) (es h : List Event) → Legal (followed es (e ∷ h)) → Begins e.t es
begins_later e [] h l = tt
begins_later e (f ∷ es) h l = no_earlier e.t (last_time h) f.t (in_time (e ∷ h) f (legal_before es (f ∷ e ∷ h) l).1)

pub first_follows : (rows : Rows) (e : Event) (es : List Event) → CanAllFollow rows (e ∷ es) → CanFollow rows e
first_follows rows e es f = record { past = f.past; since = f.since; stands = f.stands; legal = legal_before es (e ∷ f.past) f.legal; in_time = f.in_time }

pub rest_follows : (old new : Rows) (e : Event) (es : List Event) → CanAllFollow old (e ∷ es) → GoesOn e old new → CanAllFollow new es
rest_follows old new e es f g =
    record {
      past = e ∷ f.past;
      since = e.t;
      stands = g f.past f.since f.stands (legal_before es (e ∷ f.past) f.legal) f.in_time;
      legal = f.legal;
      in_time = begins_later e es f.past f.legal;
    }

pub all_go_on : (e : Event) (es : List Event) (old mid new : Rows) → GoesOn e old mid → AllGoOn es mid new → AllGoOn (e ∷ es) old new
all_go_on e es old mid new g r h since s l k = r (e ∷ h) e.t (g h since s (legal_before es (e ∷ h) l) k) l (begins_later e es h l)

pub one_goes_on : (e : Event) (old new : Rows) → GoesOn e old new → AllGoOn (e ∷ []) old new
one_goes_on e old new g h since s l k = g h since s l k

pub none_go_on : (rows : Rows) → AllGoOn [] rows rows
none_go_on rows h since s l k = s

-- ---- what goes together

few_less : (n : ℕ) → suc n ≤ 16 → n ≤ 16
few_less n k = omega arith

pub rest_together : (w : What) (ws : List What) → GoTogether (w ∷ ws) → GoTogether ws
rest_together w ws g = record { undone = (and_parts (is_none_left ws || can_be_undone w) (all_but_last can_be_undone ws) g.undone).1; few = few_less (length ws) g.few }

pub first_undone : (v w : What) (ws : List What) → GoTogether (v ∷ w ∷ ws) → can_be_undone v ≡ true
first_undone v w ws g = (and_parts (can_be_undone v) (all_but_last can_be_undone (w ∷ ws)) g.undone).0

-- ---- what is taken back

not_below_itself : (n : ℕ) → n < n → ⊥
not_below_itself n k = omega arith

no_row : {X : Type 0} (o : Option X) (n m : ℕ) → (IsSome o → n ≤ m) → m < n → o ≡ None
no_row None n m f k = refl
no_row (Some x) n m f k = absurd (not_below_itself n (let a : n ≤ m = f refl in omega arith))

nat_itself : (n : ℕ) → is_eq (nat_cmp n n) ≡ true
nat_itself n = search rules

pub asked_taken_back : (e : Event) (i : Intent) (old new : Rows) (numbers : Numbers) → e.what ≡ Asked i → CanFollow old e → new ≡ with_asked e i old → numbers ≡ old.numbers
    → taken_back (Asked i) (record { numbers = numbers; ping = None }) new ≡ old
asked_taken_back e i old new numbers kind f is same =
    let none : number_at i.n old.intents.pending ≡ None = no_row (number_at i.n old.intents.pending) i.n (last_intent f.past) (pending_below f.past old.intents i.n f.stands.intents) (asked_above e f.past i f.legal kind) in
    ap (taken_back (Asked i) (record { numbers = numbers; ping = None })) is
    ∙ (λ j. record {
      intents = record { pending = without_new nat_cmp i.n (record { intent = i; unheard = 0 }) (nat_itself i.n) old.intents.pending none j; notices = old.intents.notices };
      leases = old.leases;
      topics = old.topics;
      deliveries = old.deliveries;
      numbers = same j;
    })

pub pinged_taken_back : (e : Event) (topic : List ℕ) (old new : Rows) (ping : Option LastPing) (numbers : Numbers) → IsListed old.topics.fetches → ping ≡ last_ping topic old.topics → new ≡ with_pinged e topic old → numbers ≡ old.numbers
    → taken_back (Pinged topic) (record { numbers = numbers; ping = ping }) new ≡ old
pinged_taken_back e topic old new ping numbers listed before is same =
    ap (taken_back (Pinged topic) (record { numbers = numbers; ping = ping })) is
    ∙ (λ j. record {
      intents = old.intents;
      leases = old.leases;
      topics = ping_undone topic e.serial old.topics (pinged_rows topic e.serial old.topics) ping listed before refl j;
      deliveries = old.deliveries;
      numbers = same j;
    })

-- ---- what is numbered

pub followed_numbered : (t : ℕ) (ws : List What) (h : List Event) → followed (numbered t ws h) h ≡ committed t ws h
followed_numbered t [] h = refl
followed_numbered t (w ∷ ws) h = followed_numbered t ws (record { serial = suc (serial h); t = t; what = w } ∷ h)

pub whats_numbered : (t : ℕ) (ws : List What) (h : List Event) → map (λ e. e.what) (numbered t ws h) ≡ ws
whats_numbered t [] h = refl
whats_numbered t (w ∷ ws) h = ap (λ vs. w ∷ vs) (whats_numbered t ws (record { serial = suc (serial h); t = t; what = w } ∷ h))

pub begins_numbered : (t since : ℕ) (ws : List What) (h : List Event) → since ≤ t → Begins since (numbered t ws h)
begins_numbered t since [] h k = tt
begins_numbered t since (w ∷ ws) h k = k

same_moment : (t : ℕ) (ws : List What) (h : List Event) → moment t (numbered t ws h) ≡ t
same_moment t [] h = refl
same_moment t (w ∷ ws) h = same_moment t ws (record { serial = suc (serial h); t = t; what = w } ∷ h)

pub moment_numbered : (t since : ℕ) (ws : List What) (h : List Event) → since ≤ t → moment since (numbered t ws h) ≤ t
moment_numbered t since [] h k = k
moment_numbered t since (w ∷ ws) h k = let e = same_moment t ws (record { serial = suc (serial h); t = t; what = w } ∷ h) in omega (arith, e)

-- what stands from a moment on stands from a later one on
pub stands_later : (h : List Event) (since t : ℕ) (rows : Rows) → StandsFor h since rows → since ≤ t → StandsFor h t rows
stands_later h since t rows s k =
    record {
      intents = s.intents;
      leases = record { begun = later (last_time h) since t s.leases.begun k; shows = λ u n m. s.leases.shows u n (later since t u k m); confirmed = s.leases.confirmed };
      topics = s.topics;
      deliveries = deliveries_later h since t rows.deliveries s.deliveries k;
      pairs = s.pairs;
      kept = s.kept;
      numbers = s.numbers;
    }
  where
    later : (a b c : ℕ) → a ≤ b → b ≤ c → a ≤ c
    later a b c p q = omega arith

-- the tables after what was committed
pub all_committed : (t : ℕ) (ws : List What) (old new : Rows) (h : List Event) (since : ℕ) (es : List Event) → es ≡ numbered t ws h → AllGoOn es old new → StandsFor h since old → Legal (committed t ws h) → since ≤ t → StandsFor (committed t ws h) t new
all_committed t ws old new h since es e g s l k =
    let made = subst (λ es. AllGoOn es old new) e g h since s (subst Legal (sym (followed_numbered t ws h)) l) (begins_numbered t since ws h k) in
    subst (λ g. StandsFor g t new) (followed_numbered t ws h) (stands_later (followed (numbered t ws h) h) (moment since (numbered t ws h)) t new made (moment_numbered t since ws h k))

-- they may follow
pub can_follow : (rows : Rows) (t : ℕ) (ws : List What) (f : CanHappen rows t ws) (es : List Event) → es ≡ numbered t ws f.past → CanAllFollow rows es
can_follow rows t ws f es e =
    subst (CanAllFollow rows) (sym e)
    (record { past = f.past; since = f.since; stands = f.stands; legal = subst Legal (sym (followed_numbered t ws f.past)) f.legal; in_time = begins_numbered t f.since ws f.past f.in_time })

-- one more
pub committed_more : (t : ℕ) (ws : List What) (w : What) (h : List Event) → committed t (ws ++ w ∷ []) h ≡ record { serial = suc (serial (committed t ws h)); t = t; what = w } ∷ committed t ws h
committed_more t [] w h = refl
committed_more t (v ∷ ws) w h = committed_more t ws w (record { serial = suc (serial h); t = t; what = v } ∷ h)

pub numbered_more : (t : ℕ) (ws : List What) (w : What) (h : List Event) → numbered t (ws ++ w ∷ []) h ≡ numbered t ws h ++ record { serial = suc (serial (committed t ws h)); t = t; what = w } ∷ []
numbered_more t [] w h = refl
numbered_more t (v ∷ ws) w h = ap (λ es. record { serial = suc (serial h); t = t; what = v } ∷ es) (numbered_more t ws w (record { serial = suc (serial h); t = t; what = v } ∷ h))

-- ---- the next serial

serial_above : (s : ℕ) → suc s ≡ 0 → ⊥
serial_above s e = cc

pub serial_fits : (s t : ℕ) (w : What) (h : List Event) → accepts h (record { serial = suc s; t = t; what = w }) ≡ true → suc s < number_limit
serial_fits s t (Tally c) [] k = absurd (serial_above s (eqb-true _ _ (and_parts (suc s == 0) (t == 0) (and_parts (is_first_tally (record { serial = suc s; t = t; what = Tally c }) []) _ k).0).0))
serial_fits s t (Tally c) (f ∷ h) k = absurd (false≢true k)
serial_fits s t w h k =
    let e : Event = record { serial = suc s; t = t; what = w } in
    let a = and_parts (is_in_order e h) _ (and_parts (is_in_order e h && is_sound (suc s) w) _ k).0 in
    let b = and_parts (nat_lt (last_serial h) (suc s) && nat_lt (suc s) number_limit && nat_le (last_time h) t) _ a.0 in
    ltb-true _ _ (and_parts (nat_lt (last_serial h) (suc s)) (nat_lt (suc s) number_limit) (and_parts (nat_lt (last_serial h) (suc s) && nat_lt (suc s) number_limit) _ b.0).0).1

-- ---- as far as the numbering has come

committed_append : (t : ℕ) (vs ws : List What) (h : List Event) → committed t (vs ++ ws) h ≡ committed t ws (committed t vs h)
committed_append t [] ws h = refl
committed_append t (v ∷ vs) ws h = committed_append t vs ws (record { serial = suc (serial h); t = t; what = v } ∷ h)

legal_so_far : (t : ℕ) (ws : List What) (h : List Event) → Legal (committed t ws h) → Legal h
legal_so_far t ws h l = legal_before (numbered t ws h) h (subst Legal (sym (followed_numbered t ws h)) l)

pushed_before : (vs : List What) (w : What) (ws : List What) → vs ++ w ∷ ws ≡ (vs ++ w ∷ []) ++ ws
pushed_before [] w ws = refl
pushed_before (v ∷ vs) w ws = ap (λ us. v ∷ us) (pushed_before vs w ws)

-- the front with one more
front_more : (all vs : List What) (w : What) → vs ≡ take (length vs) all → length vs < length all → w ≡ get_or all (length vs) w → all ≡ (vs ++ w ∷ []) ++ drop (suc (length vs)) all
front_more all vs w front more at =
    sym (take-append-drop (length vs) all)
    ∙ ap (λ us. us ++ drop (length vs) all) (sym front)
    ∙ ap (λ us. vs ++ us) (drop-cons all (length vs) w more)
    ∙ ap (λ x. vs ++ x ∷ drop (suc (length vs)) all) (sym at)
    ∙ pushed_before vs w (drop (suc (length vs)) all)

-- the next serial is within its limit
pub next_fits : (t : ℕ) (all vs : List What) (w : What) (h : List Event) → vs ≡ take (length vs) all → length vs < length all → w ≡ get_or all (length vs) w → Legal (committed t all h) → suc (serial (committed t vs h)) < number_limit
next_fits t all vs w h front more at l =
    let whole = subst Legal (ap (λ ws. committed t ws h) (front_more all vs w front more at) ∙ committed_append t (vs ++ w ∷ []) (drop (suc (length vs)) all) h) l in
    let now = subst Legal (committed_more t vs w h) (legal_so_far t (drop (suc (length vs)) all) (committed t (vs ++ w ∷ []) h) whole) in
    serial_fits (serial (committed t vs h)) t w (committed t vs h) now.1

plus_one : (n : ℕ) → n + 1 ≡ suc n
plus_one n = omega arith

abbrev pub at_serial : ℕ → ℕ → What → Event
at_serial s t w = record { serial = s; t = t; what = w }

next_is : (t : ℕ) (w : What) (n : Numbers) (g : List Event) → n ≡ numbers_of g → at_serial (n.all.serial + 1) t w ≡ at_serial (suc (serial g)) t w
next_is t w n g e = ap (λ s. at_serial s t w) (ap (λ (m : Numbers). m.all.serial + 1) e ∙ plus_one (serial g))

pub numbers_more : (t : ℕ) (ws : List What) (w : What) (h : List Event) (n m : Numbers) → n ≡ numbers_of (committed t ws h) → m ≡ with_event (at_serial (n.all.serial + 1) t w) n → m ≡ numbers_of (committed t (ws ++ w ∷ []) h)
numbers_more t ws w h n m e k =
    k
    ∙ ap (λ f. with_event f n) (next_is t w n (committed t ws h) e)
    ∙ ap (with_event (at_serial (suc (serial (committed t ws h))) t w)) e
    ∙ ap numbers_of (sym (committed_more t ws w h))

pub events_more : (t : ℕ) (ws : List What) (w : What) (h : List Event) (n : Numbers) (es : List Event) → n ≡ numbers_of (committed t ws h) → es ≡ numbered t ws h → es ++ at_serial (n.all.serial + 1) t w ∷ [] ≡ numbered t (ws ++ w ∷ []) h
events_more t ws w h n es e k =
    ap (λ fs. fs ++ at_serial (n.all.serial + 1) t w ∷ []) k
    ∙ ap (λ f. numbered t ws h ++ f ∷ []) (next_is t w n (committed t ws h) e)
    ∙ sym (numbered_more t ws w h)
