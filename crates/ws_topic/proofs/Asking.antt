-- What the rows answer is what the definitions say of the history that they stand for.
use Rattle.std.proofs.Common.{◌≡◌, ℕ, Bool, true, false, cond, not, ◌||◌, List, [], ◌∷◌, length, refl, ap, sym, ◌∙◌, subst}
use Rattle.std.specs.Prelude.{Option, Some, None, find, map, option_map, is_some, bytes_eq}
use Rattle.std.specs.List.{AllByRecursion, list_any}
use Rattle.std.specs.Map.{keys_of}
use Rattle.ws_model.specs.declared.event.Event.{Event}
use Rattle.ws_model.specs.declared.event.Version.{Version}
use Rattle.ws_model.specs.declared.work.Work.{Work}
use Rattle.ws_model.specs.declared.work.Work.TheVariants.{Verify, Notice, Fetch, Push}
use Rattle.ws_model.specs.Due.{by_topic, due_fetches, in_order, is_out, same_work}
use Rattle.ws_model.specs.Legal.{Legal}
use Rattle.ws_model.specs.Moment.{serial}
use Rattle.ws_model.specs.Versions.{Ping, fetches, latest, latest_of}
use Rattle.ws_model.specs.View.{OwedFetch as FetchView, owed_fetch}
use Rattle.ws_laws.proofs.ListLaws.{find-map, map-map}
use Rattle.ws_topic.specs.declared.rows.OwedFetch.{OwedFetch}
use Rattle.ws_topic.specs.ByTopic.{IsAscending, at_topic}
use Rattle.ws_topic.specs.Rows.{Rows}
use Rattle.ws_topic.specs.Stored.{IsListed}
use Rattle.ws_topic.specs.Stands.{StandsFor, as_fetch, version_number}
use Rattle.ws_topic.proofs.Fetching.{fetch_topic, fetches_apart, latest_apart, latest_found, version_topic}
use Rattle.ws_topic.proofs.Ordered.{AreApart, same_keys, same_length}

abbrev ping_topic : Ping → List ℕ
ping_topic p = p.topic

some_mapped : {X Y : Type 0} (f : X → Y) (o : Option X) → is_some (option_map f o) ≡ is_some o
some_mapped f None = refl
some_mapped f (Some x) = refl

-- ---- tickets for fetches

same_fetch : (t : List ℕ) (s : ℕ) (w : Work) → same_work (Fetch t s) w ≡ same_work (Fetch t 0) w
same_fetch t s (Verify n) = refl
same_fetch t s (Notice n) = refl
same_fetch t s (Fetch u r) = refl
same_fetch t s (Push v n) = refl

out_same : (out : List Work) (t : List ℕ) (s : ℕ) → is_out out (Fetch t s) ≡ is_out out (Fetch t 0)
out_same [] t s = refl
out_same (w ∷ out) t s = ap (λ b. b || list_any (same_work (Fetch t s)) out) (same_fetch t s w) ∙ ap (λ b. same_work (Fetch t 0) w || b) (out_same out t s)

find_same : (out : List Work) (s : ℕ) (ts : List (List ℕ)) → find (λ t. not (is_out out (Fetch t s))) ts ≡ find (λ t. not (is_out out (Fetch t 0))) ts
find_same out s [] = refl
find_same out s (t ∷ ts) = ap (λ b. cond (not b) (Some t) (find (λ t. not (is_out out (Fetch t s))) ts)) (out_same out t s) ∙ ap (cond (not (is_out out (Fetch t 0))) (Some t)) (find_same out s ts)

module _ (rows : Rows) (h : List Event) (s : StandsFor rows h) (l : Legal h) where
  pings_apart : (ps : List Ping) → AreApart fetch_topic (map (owed_fetch h) ps) → AreApart ping_topic ps
  pings_apart [] a = tt
  pings_apart (p ∷ ps) a = (others p ps a.0, pings_apart ps a.1)
    where
      others : (p : Ping) (qs : List Ping) → AllByRecursion (λ (f : FetchView). bytes_eq f.topic p.topic ≡ false) (map (owed_fetch h) qs) → AllByRecursion (λ (q : Ping). bytes_eq q.topic p.topic ≡ false) qs
      others p [] b = tt
      others p (q ∷ qs) b = (b.0, others p qs b.1)

  fetch_here : (q : List ℕ) → is_some (at_topic q rows.fetches) ≡ is_some (find (λ (p : Ping). bytes_eq p.topic q) (fetches h))
  fetch_here q =
      sym (some_mapped as_fetch (at_topic q rows.fetches)) ∙ ap is_some (s.fetch_at q)
      ∙ ap is_some (find-map (owed_fetch h) (λ f. bytes_eq f.topic q) (fetches h)) ∙ some_mapped (owed_fetch h) (find (λ (p : Ping). bytes_eq p.topic q) (fetches h))

  module _ (listed : IsListed rows.fetches) where
    fetch_topics : keys_of rows.fetches ≡ map ping_topic (in_order by_topic (fetches h))
    fetch_topics = same_keys ping_topic rows.fetches (fetches h) listed.ascending (pings_apart (fetches h) (fetches_apart h l)) fetch_here

    pub fetch_count : length rows.fetches ≡ length (fetches h)
    fetch_count = same_length ping_topic rows.fetches (fetches h) listed.ascending (pings_apart (fetches h) (fetches_apart h l)) fetch_here

    pub next_is_due : (out : List Work) (o : Option (List ℕ)) → o ≡ find (λ t. not (is_out out (Fetch t 0))) (keys_of rows.fetches) → option_map (λ t. Fetch t (serial h)) o ≡ find (λ w. not (is_out out w)) (due_fetches h)
    next_is_due out o e =
        ap (option_map (λ t. Fetch t (serial h))) (e ∙ sym (find_same out (serial h) (keys_of rows.fetches)))
        ∙ sym (find-map (λ t. Fetch t (serial h)) (λ w. not (is_out out w)) (keys_of rows.fetches))
        ∙ ap (find (λ w. not (is_out out w))) (ap (map (λ t. Fetch t (serial h))) fetch_topics ∙ map-map ping_topic (λ t. Fetch t (serial h)) (in_order by_topic (fetches h)))

  latest_here : (q : List ℕ) → is_some (at_topic q rows.latest) ≡ is_some (find (λ (v : Version). bytes_eq v.topic q) (latest h))
  latest_here q = ap is_some (s.latest_at q) ∙ some_mapped (λ v. v.ver) (latest_of q h) ∙ ap is_some (sym (latest_found h l q))

  pub topic_count : IsAscending (keys_of rows.latest) → length rows.latest ≡ length (latest h)
  topic_count up = same_length version_topic rows.latest (latest h) up (latest_apart h l) latest_here
