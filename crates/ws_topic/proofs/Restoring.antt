-- A row that is put in and taken back.
use Rattle.std.proofs.Common.{◌≡◌, ℕ, true, cond, List, [], ◌∷◌, refl, ap, sym, ◌∙◌, subst, Option, Some, None}
use Rattle.std.specs.Prelude.{IfSome, option_map}
use Rattle.std.specs.List.{AllByRecursion}
use Rattle.std.specs.declared.cmp.Ordering.{Ordering}
use Rattle.std.specs.declared.cmp.Ordering.TheVariants.{Less, Equal, Greater}
use Rattle.std.specs.Map.{keys_of, lookup, remove_entry, set_value}
use Rattle.std.specs.BTreeMap.{insert_entry, is_at}
use Rattle.std.specs.Ordering.{nat_cmp, is_eq, match_ordering}
use Rattle.std.specs.Cmp.Lexicographic.{nat_list_cmp_total, slice_cmp}
use Rattle.ws_topic.specs.declared.rows.LastPing.{LastPing}
use Rattle.ws_topic.specs.declared.rows.OwedFetch.{OwedFetch}
use Rattle.ws_topic.specs.ByTopic.{IsAscending, at_topic, with_topic}
use Rattle.ws_topic.specs.Restored.{last_ping, ping_of, pinged_rows, restored, restored_row, with_fetches, with_ping}
use Rattle.ws_topic.specs.Rows.{Rows}
use Rattle.ws_topic.specs.Stored.{IsListed}
use Rattle.ws_topic.proofs.Keyed.{at_itself}

not_there : {X : Type 0} (x : X) → Some x ≡ None → ⊥
not_there x e = cc

-- a key that wasn't there is put in and taken out
pub without_new : {K X : Type 0} (cmp : K → K → Ordering) (k : K) (x : X) → is_eq (cmp k k) ≡ true → (es : List (K × X)) → lookup (is_at (cmp k)) es ≡ None → remove_entry (is_at (cmp k)) (insert_entry cmp es k x) ≡ es
without_new cmp k x itself [] e = ap (λ b. cond b [] ((k, x) ∷ [])) itself
without_new {K = K} {X = X} cmp k x itself (f ∷ es) e = by (cmp k f.0) refl (without_new cmp k x itself es)
  where
    by : (o : Ordering) → cmp k f.0 ≡ o → (lookup (is_at (cmp k)) es ≡ None → remove_entry (is_at (cmp k)) (insert_entry cmp es k x) ≡ es)
        → remove_entry (is_at (cmp k)) (match_ordering o ((k, x) ∷ f ∷ es) ((f.0, x) ∷ es) (f ∷ insert_entry cmp es k x)) ≡ f ∷ es
    by Less q r = ap (λ b. cond b (f ∷ es) ((k, x) ∷ remove_entry (is_at (cmp k)) (f ∷ es))) itself
    by Equal q r = absurd (not_there f.1 (sym (ap (λ o. cond (is_eq o) (Some f.1) (lookup (is_at (cmp k)) es)) q) ∙ e))
    by Greater q r =
        ap (λ o. cond (is_eq o) (insert_entry cmp es k x) (f ∷ remove_entry (is_at (cmp k)) (insert_entry cmp es k x))) q
        ∙ ap (λ zs. f ∷ zs) (r (sym (ap (λ o. cond (is_eq o) (Some f.1) (lookup (is_at (cmp k)) es)) q) ∙ e))

-- ---- topics

pub there : {X : Type 0} (topic : List ℕ) (x : X) (es : List (List ℕ × X)) → at_topic topic (with_topic topic x es) ≡ Some x
there topic x [] = ap (λ b. cond b (Some x) None) (at_itself topic)
there {X = X} topic x (f ∷ es) = by (slice_cmp nat_cmp topic f.0) refl (there topic x es)
  where
    by : (o : Ordering) → slice_cmp nat_cmp topic f.0 ≡ o → at_topic topic (with_topic topic x es) ≡ Some x
        → at_topic topic (match_ordering o ((topic, x) ∷ f ∷ es) ((f.0, x) ∷ es) (f ∷ with_topic topic x es)) ≡ Some x
    by Less q r = ap (λ b. cond b (Some x) (at_topic topic (f ∷ es))) (at_itself topic)
    by Equal q r = ap (λ o. cond (is_eq o) (Some x) (at_topic topic es)) q
    by Greater q r = ap (λ o. cond (is_eq o) (Some f.1) (at_topic topic (with_topic topic x es))) q ∙ r

-- a topic below all of them isn't among them
below_all : {X : Type 0} (topic : List ℕ) (es : List (List ℕ × X)) → AllByRecursion (λ (y : List ℕ). slice_cmp nat_cmp topic y ≡ Less) (keys_of es) → at_topic topic es ≡ None
below_all topic [] a = refl
below_all topic (f ∷ es) a = ap (λ o. cond (is_eq o) (Some f.1) (at_topic topic es)) a.0 ∙ below_all topic es a.1

below_more : {X : Type 0} (topic key : List ℕ) (es : List (List ℕ × X)) → slice_cmp nat_cmp topic key ≡ Less → AllByRecursion (λ (y : List ℕ). slice_cmp nat_cmp key y ≡ Less) (keys_of es) → at_topic topic es ≡ None
below_more topic key es q a = below_all topic es (on (keys_of es) a)
  where
    on : (ks : List (List ℕ)) → AllByRecursion (λ (y : List ℕ). slice_cmp nat_cmp key y ≡ Less) ks → AllByRecursion (λ (y : List ℕ). slice_cmp nat_cmp topic y ≡ Less) ks
    on [] a = tt
    on (k ∷ ks) a = (nat_list_cmp_total.trans topic key k q a.0, on ks a.1)

some_is : {X : Type 0} (a b : X) → Some a ≡ Some b → a ≡ b
some_is a b e = cc

-- a row that stood there is put back in its place
pub put_back : {X : Type 0} (topic : List ℕ) (x y : X) (es : List (List ℕ × X)) → IsAscending (keys_of es) → at_topic topic es ≡ Some y → set_value (is_at (slice_cmp nat_cmp topic)) (with_topic topic x es) y ≡ es
put_back topic x y [] up e = absurd (not_there y (sym e))
put_back {X = X} topic x y (f ∷ es) up e = by (slice_cmp nat_cmp topic f.0) refl (put_back topic x y es up.1)
  where
    by : (o : Ordering) → slice_cmp nat_cmp topic f.0 ≡ o → (at_topic topic es ≡ Some y → set_value (is_at (slice_cmp nat_cmp topic)) (with_topic topic x es) y ≡ es)
        → set_value (is_at (slice_cmp nat_cmp topic)) (match_ordering o ((topic, x) ∷ f ∷ es) ((f.0, x) ∷ es) (f ∷ with_topic topic x es)) y ≡ f ∷ es
    by Less q r = absurd (not_there y (sym e ∙ ap (λ o. cond (is_eq o) (Some f.1) (at_topic topic es)) q ∙ below_more topic f.0 es q up.0))
    by Equal q r =
        ap (λ o. cond (is_eq o) ((f.0, y) ∷ es) ((f.0, x) ∷ set_value (is_at (slice_cmp nat_cmp topic)) es y)) q
        ∙ ap (λ z. (f.0, z) ∷ es) (some_is y f.1 (sym e ∙ ap (λ o. cond (is_eq o) (Some f.1) (at_topic topic es)) q))
    by Greater q r =
        ap (λ o. cond (is_eq o) ((f.0, y) ∷ with_topic topic x es) (f ∷ set_value (is_at (slice_cmp nat_cmp topic)) (with_topic topic x es) y)) q
        ∙ ap (λ zs. f ∷ zs) (r (sym (ap (λ o. cond (is_eq o) (Some f.1) (at_topic topic es)) q) ∙ e))

-- ---- pings

-- the owed fetches as they were before a ping
back : (topic : List ℕ) (x : OwedFetch) (es : List (List ℕ × OwedFetch)) → x.topic ≡ topic → IsListed es → (o : Option OwedFetch) → at_topic topic es ≡ o → restored topic (option_map ping_of o) (with_topic topic x es) ≡ es
back topic x es k l None e = without_new (slice_cmp nat_cmp) topic x (at_itself topic) es e
back topic x es k l (Some f) e =
    let same : with_ping (ping_of f) x ≡ f = ap (λ t. record { topic = t; serial = f.serial; missed = f.missed }) (k ∙ sym (subst (λ o. IfSome o (λ (g : OwedFetch). g.topic ≡ topic)) e (l.keyed topic))) in
    ap (restored_row topic (ping_of f) (with_topic topic x es)) (there topic x es)
    ∙ ap (set_value (is_at (slice_cmp nat_cmp topic)) (with_topic topic x es)) same
    ∙ put_back topic x f es l.ascending e

pub ping_undone : (topic : List ℕ) (serial : ℕ) (rows old : Rows) (before : Option LastPing) → IsListed rows.fetches → before ≡ last_ping topic rows → old ≡ pinged_rows topic serial rows
    → with_fetches (restored topic before old.fetches) old ≡ rows
ping_undone topic serial rows old before l k e =
    ap (λ (r : Rows). with_fetches (restored topic before r.fetches) r) e
    ∙ ap (λ es. with_fetches es rows)
    (ap (λ p. restored topic p (pinged_rows topic serial rows).fetches) k ∙ back topic (record { topic = topic; serial = serial; missed = 0 }) rows.fetches refl l (at_topic topic rows.fetches) refl)
