-- Pairs that went over, by rooms and by what became of all pairs.
use Rattle.std.proofs.Common.{◌≡◌, ℕ, ◌<◌, Bool, true, ◌&&◌, List, [], ◌∷◌, refl, ap, sym, ◌∙◌, subst, inl, inr, arith}
use Rattle.std.specs.Prelude.{Option, None, Some, is_some, nat_lt, ◌==◌}
use Rattle.std.specs.List.Sorted.{IsStrictlySortedBy}
use Rattle.std.specs.Map.{keys_of, lookup}
use Rattle.std.specs.BTreeMap.{is_at}
use Rattle.std.specs.Option.{option_map}
use Rattle.std.proofs.lemmas.Bool.{and_from, and_parts, eqb-true, false≢true, ltb-true, or_cases}
use Rattle.ws_model.specs.declared.event.Event.{Event}
use Rattle.ws_model.specs.declared.event.What.{What}
use Rattle.ws_model.specs.declared.event.What.TheVariants.{Fetched}
use Rattle.ws_model.specs.declared.fate.Cause.TheVariants.{Expired, Unsubscribed, Replaced, Gone, Spent, Revoked}
use Rattle.ws_model.specs.Fate.{Pair, fate}
use Rattle.ws_model.specs.History.{has}
use Rattle.ws_model.specs.Keep.{kept_leases, member}
use Rattle.ws_model.specs.Legal.{Legal, is_sound, is_sound_version, number_limit}
use Rattle.ws_model.specs.Pairs.{pairs}
use Rattle.ws_model.specs.Verdict.{is_kept_version, pair_of}
use Rattle.ws_model.specs.Versions.{is_fetched}
use Rattle.ws_laws.proofs.Known.{IsKnown, pairs_known, sound}
use Rattle.ws_laws.proofs.ListLaws.{all_find, any_then}
use Rattle.ws_compaction.proofs.Fetches.{any_more}
use Rattle.ws_lease.proofs.SortedEntries.{any_filter}
use Rattle.ws_fate.specs.declared.totals.Standing.{Standing}
use Rattle.ws_fate.specs.declared.totals.Standing.TheVariants.{Open, Answered, Ended}
use Rattle.ws_fate.specs.Rows.{Rows as FateRows, pair_order, standing_at}
use Rattle.ws_fate.specs.Stands.{without_expiry}
use Rattle.ws_fate.specs.Totals.{standing}
use Rattle.ws_tries.specs.Rows.{Rows}
use Rattle.ws_tries.specs.Stands.{HaveRooms}
use Rattle.ws_kept.specs.Finding.{goes_on, goes_on_in, hands_on, is_handed_on, is_replaced, went_over}
use Rattle.ws_kept.proofs.Owed.{shown_any}
use Rattle.ws_kept.proofs.Rooms.{HasGoneOver, gone_over_found, gone_over_told}
use Rattle.ws_kept.proofs.WentOver.{entries_shown}

-- ---- what became of a pair

replaced_is : (s : Standing) → is_replaced s ≡ true → s ≡ Ended Replaced
replaced_is Open k = absurd (false≢true k)
replaced_is Answered k = absurd (false≢true k)
replaced_is (Ended Replaced) k = refl
replaced_is (Ended Expired) k = absurd (false≢true k)
replaced_is (Ended Unsubscribed) k = absurd (false≢true k)
replaced_is (Ended Gone) k = absurd (false≢true k)
replaced_is (Ended Spent) k = absurd (false≢true k)
replaced_is (Ended Revoked) k = absurd (false≢true k)

handed_is : (o : Option Standing) → is_handed_on o ≡ true → o ≡ Some (Ended Replaced)
handed_is None k = absurd (false≢true k)
handed_is (Some s) k = ap (λ x. Some x) (replaced_is s k)

-- ---- the numbers of versions

low_one : (v : ℕ) (w : What) (s : ℕ) → is_sound s w ≡ true → is_fetched v w ≡ true → v < number_limit
low_one v (Fetched w) s k is =
    subst (λ n. n < number_limit) (eqb-true w.ver v is)
    (ltb-true _ _ (and_parts (nat_lt w.ver number_limit) _ (and_parts _ _ (and_parts _ _ (and_parts _ _ (and_parts _ _ (and_parts _ _ (and_parts (is_sound_version w) (nat_lt w.upto s) k).0).0).0).0).0).0).0)
low_one v _ s k is = absurd (false≢true is)

pub low_version : (h : List Event) (v : ℕ) → Legal h → has (is_fetched v) h ≡ true → v < number_limit
low_version [] v l k = absurd (false≢true k)
low_version (e ∷ h) v l k =
    elim (or_cases (is_fetched v e.what) (has (is_fetched v) h) k) [
      | inl a ↦ low_one v e.what e.serial (sound h e l.1) a
      | inr a ↦ low_version h v l.0 a
    ]

-- ---- from rooms to pairs

pub found_by_pairs : (versions : ℕ → Bool) (fates : FateRows) (rows : Rows) (n : ℕ) → goes_on_in versions fates rows n ≡ true → goes_on versions fates.pairs n ≡ true
found_by_pairs versions fates rows n k =
    let a = and_parts (nat_lt n number_limit) (hands_on versions fates rows n) k in
    and_from _ _ a.0 (over (gone_over_found versions n fates rows a.1))
  where
    over : HasGoneOver versions n fates rows → went_over versions n fates.pairs ≡ true
    over gone =
        let b = and_parts (versions gone.version) (is_handed_on (standing_at gone.version n fates)) gone.over in
        any_filter (λ e. is_replaced e.1 && versions e.0.1) (λ e. e.0.0 == n) fates.pairs
        ∙ any_more (λ e. ((e.0.0 == n) && (e.0.1 == gone.version)) && is_replaced e.1) (λ e. (e.0.0 == n) && (is_replaced e.1 && versions e.0.1))
        (λ e d.
        let f = and_parts ((e.0.0 == n) && (e.0.1 == gone.version)) (is_replaced e.1) d in
        let g = and_parts (e.0.0 == n) (e.0.1 == gone.version) f.0 in
        and_from _ _ g.0 (and_from _ _ f.1 (ap versions (eqb-true e.0.1 gone.version g.1) ∙ b.0)))
        fates.pairs
        (shown_any n gone.version is_replaced (Ended Replaced) fates.pairs (handed_is (standing_at gone.version n fates) b.1) refl)

-- ---- from pairs of kept leases to rooms

module _ (h : List Event) (t : ℕ) (fates : FateRows) (rows : Rows) (l : Legal h) (sorted : IsStrictlySortedBy pair_order (keys_of fates.pairs))
    (shows : (w m : ℕ) → standing_at w m fates ≡ option_map without_expiry (option_map standing (option_map (λ p. fate h p t) (pair_of h w m)))) (rooms : HaveRooms h t rows) where
  -- a pair that stands in the table is one of the history, and has a low version
  of_history : (v n : ℕ) (s : Standing) → standing_at v n fates ≡ Some s → (is_some (pair_of h v n) ≡ true) × (v < number_limit)
  of_history v n s stands = by (pair_of h v n) refl (sym (shows v n) ∙ stands)
    where
      by : (o : Option Pair) → pair_of h v n ≡ o → option_map without_expiry (option_map standing (option_map (λ p. fate h p t) o)) ≡ Some s → (is_some (pair_of h v n) ≡ true) × (v < number_limit)
      by None f k = absurd (grind arith)
      by (Some p) f k =
          let found = all_find (IsKnown h) (λ x. (x.version.ver == v) && (x.lease.intent.n == n)) p (pairs h) (pairs_known h) f in
          (ap is_some f, subst (λ w. w < number_limit) (eqb-true p.version.ver v (and_parts (p.version.ver == v) (p.lease.intent.n == n) found.1).0) (low_version h p.version.ver l found.0.fetched))

  pub there_by_rooms : (n : ℕ) → member n (kept_leases h t) ≡ true → goes_on (is_kept_version h t) fates.pairs n ≡ true → goes_on_in (is_kept_version h t) fates rows n ≡ true
  there_by_rooms n kept k =
      let a = and_parts (nat_lt n number_limit) (went_over (is_kept_version h t) n fates.pairs) k in
      and_from _ _ a.0
      (any_then (λ e. lookup (is_at (pair_order e.0)) fates.pairs ≡ Some e.1) (λ e. (e.0.0 == n) && (is_replaced e.1 && is_kept_version h t e.0.1)) (hands_on (is_kept_version h t) fates rows n ≡ true)
      (λ e stands b.
      let c = and_parts (e.0.0 == n) (is_replaced e.1 && is_kept_version h t e.0.1) b in
      let d = and_parts (is_replaced e.1) (is_kept_version h t e.0.1) c.1 in
      let here : standing_at e.0.1 n fates ≡ Some e.1 = subst (λ m. standing_at e.0.1 m fates ≡ Some e.1) (eqb-true e.0.0 n c.0) stands in
      let known = of_history e.0.1 n e.1 here in
      gone_over_told (is_kept_version h t) n fates rows
      (record { version = e.0.1; low = known.1; room = rooms e.0.1 n d.1 kept known.0; over = and_from _ _ d.1 (ap is_handed_on here ∙ d.0) }))
      fates.pairs (entries_shown fates.pairs sorted) (sym (any_filter (λ e. is_replaced e.1 && is_kept_version h t e.0.1) (λ e. e.0.0 == n) fates.pairs) ∙ a.1))
