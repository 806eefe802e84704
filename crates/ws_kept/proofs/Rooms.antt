-- The rooms of a table of tries, and the versions whose pairs with a lease have rooms, one after another.
use Rattle.std.proofs.Common.{◌≡◌, ℕ, ◌+◌, ◌≤◌, ◌<◌, Bool, true, false, cond, ◌&&◌, ◌||◌, List, [], ◌∷◌, refl, ap, sym, ◌∙◌, subst, arith}
use Rattle.std.specs.Prelude.{◌==◌, Option, Some, None, IsSome, nat_lt}
use Rattle.std.specs.List.{list_any}
use Rattle.std.specs.BTreeMap.{is_at}
use Rattle.std.proofs.lemmas.Bool.{and_from, and_parts, eqb-true, false≢true, or_left, or_right}
use Rattle.std.proofs.lemmas.Bool.Decides.{nat_tests}
use Rattle.ws_model.specs.Legal.{number_limit}
use Rattle.ws_laws.proofs.ListLaws.{any_then}
use Rattle.ws_compaction.proofs.Fetches.{any_more}
use Rattle.ws_fate.specs.Rows.{Rows as FateRows, standing_at}
use Rattle.ws_tries.specs.declared.room.Try.{Try}
use Rattle.ws_tries.specs.Rows.{Rows, pair_order, tries_at}
use Rattle.ws_kept.specs.Finding.{hands_on, is_handed_on}
use Rattle.ws_kept.proofs.Lists.{each_any}

-- ---- a room by its pair

at_pair : (v n w m : ℕ) → is_at (pair_order (v, n)) (w, m) ≡ ((w == v) && (m == n))
at_pair v n w m = grind (arith, nat_tests)

no_room : {X : Type 0} (o : Option X) → IsSome o → o ≡ None → ⊥
no_room o there none = false≢true (subst IsSome none there)

-- a pair that has a room is among the rooms
pub room_among : (v n : ℕ) (rows : Rows) → IsSome (tries_at v n rows) → list_any (λ e. (e.0.0 == v) && (e.0.1 == n)) rows ≡ true
room_among v n [] k = absurd (false≢true k)
room_among v n (e ∷ rows) k = by (is_at (pair_order (v, n)) e.0) refl k (room_among v n rows)
  where
    by : (b : Bool) → is_at (pair_order (v, n)) e.0 ≡ b → IsSome (cond b (Some e.1) (tries_at v n rows)) → (IsSome (tries_at v n rows) → list_any (λ d. (d.0.0 == v) && (d.0.1 == n)) rows ≡ true)
        → list_any (λ d. (d.0.0 == v) && (d.0.1 == n)) (e ∷ rows) ≡ true
    by true q k f = or_left _ _ (sym (at_pair v n e.0.0 e.0.1) ∙ q)
    by false q k f = or_right ((e.0.0 == v) && (e.0.1 == n)) _ (f k)

-- and the other way round
pub among_room : (v n : ℕ) (rows : Rows) → list_any (λ e. (e.0.0 == v) && (e.0.1 == n)) rows ≡ true → IsSome (tries_at v n rows)
among_room v n [] k = absurd (false≢true k)
among_room v n (e ∷ rows) k = by ((e.0.0 == v) && (e.0.1 == n)) (at_pair v n e.0.0 e.0.1) k (among_room v n rows)
  where
    by : (b : Bool) → is_at (pair_order (v, n)) e.0 ≡ b → (b || list_any (λ d. (d.0.0 == v) && (d.0.1 == n)) rows) ≡ true → (list_any (λ d. (d.0.0 == v) && (d.0.1 == n)) rows ≡ true → IsSome (tries_at v n rows))
        → IsSome (tries_at v n (e ∷ rows))
    by true q k f = subst (λ b. IsSome (cond b (Some e.1) (tries_at v n rows))) (sym q) refl
    by false q k f = subst (λ b. IsSome (cond b (Some e.1) (tries_at v n rows))) (sym q) (f k)

-- ---- a pair that went over

-- the pair of such a version and the lease has a room, and went over
pub record HasGoneOver (versions : ℕ → Bool) (lease : ℕ) (fates : FateRows) (rows : Rows) : Type 0 where
  pub version : ℕ
  pub low : version < number_limit
  pub room : IsSome (tries_at version lease rows)
  pub over : (versions version && is_handed_on (standing_at version lease fates)) ≡ true

low_number : (v : ℕ) → nat_lt v number_limit ≡ true → v < number_limit
low_number v k = grind (arith, nat_tests)

number_low : (v : ℕ) → v < number_limit → nat_lt v number_limit ≡ true
number_low v k = grind (arith, nat_tests)

pub gone_over_told : (versions : ℕ → Bool) (lease : ℕ) (fates : FateRows) (rows : Rows) → HasGoneOver versions lease fates rows → hands_on versions fates rows lease ≡ true
gone_over_told versions lease fates rows gone =
    any_more (λ e. (e.0.0 == gone.version) && (e.0.1 == lease)) (λ e. ((e.0.1 == lease) && nat_lt e.0.0 number_limit) && (versions e.0.0 && is_handed_on (standing_at e.0.0 lease fates)))
    (λ e a.
    let b = and_parts (e.0.0 == gone.version) (e.0.1 == lease) a in
    let same : e.0.0 ≡ gone.version = eqb-true e.0.0 gone.version b.0 in
    and_from _ _ (and_from _ _ b.1 (ap (λ v. nat_lt v number_limit) same ∙ number_low gone.version gone.low)) (ap (λ v. versions v && is_handed_on (standing_at v lease fates)) same ∙ gone.over))
    rows (room_among gone.version lease rows gone.room)

pub gone_over_found : (versions : ℕ → Bool) (lease : ℕ) (fates : FateRows) (rows : Rows) → hands_on versions fates rows lease ≡ true → HasGoneOver versions lease fates rows
gone_over_found versions lease fates rows k =
    any_then (λ e. (q : (ℕ × ℕ) × List Try → Bool) → q e ≡ true → list_any q rows ≡ true) (λ e. ((e.0.1 == lease) && nat_lt e.0.0 number_limit) && (versions e.0.0 && is_handed_on (standing_at e.0.0 lease fates))) (HasGoneOver versions lease fates rows)
    (λ e there a.
    let b = and_parts ((e.0.1 == lease) && nat_lt e.0.0 number_limit) (versions e.0.0 && is_handed_on (standing_at e.0.0 lease fates)) a in
    let c = and_parts (e.0.1 == lease) (nat_lt e.0.0 number_limit) b.0 in
    record {
      version = e.0.0;
      low = low_number e.0.0 c.1;
      room = among_room e.0.0 lease rows (there (λ d. (d.0.0 == e.0.0) && (d.0.1 == lease)) (and_from _ _ (itself e.0.0) c.0));
      over = b.1;
    })
    rows (each_any rows) k
  where
    itself : (v : ℕ) → (v == v) ≡ true
    itself v = grind (arith, nat_tests)

-- ---- a walk over the versions of a lease

-- none of the versions before `from` went over in a pair that has a room
pub record WentOn (versions : ℕ → Bool) (lease from : ℕ) (fates : FateRows) (rows : Rows) : Type 0 where
  pub in_limit : from ≤ number_limit
  pub none : (v : ℕ) → v < from → IsSome (tries_at v lease rows) → (versions v && is_handed_on (standing_at v lease fates)) ≡ true → ⊥

none_before : (v : ℕ) → v < 0 → ⊥
none_before v k = omega arith

pub at_first : (versions : ℕ → Bool) (lease : ℕ) (fates : FateRows) (rows : Rows) → WentOn versions lease 0 fates rows
at_first versions lease fates rows = record { in_limit = omega arith; none = λ v below there over. none_before v below }

less : (a b : ℕ) → nat_lt a b ≡ true → a < b
less a b k = grind (arith, nat_tests)

more : (a b : ℕ) → nat_lt a b ≡ false → b ≤ a
more a b k = grind (arith, nat_tests)

not_same : (a b : ℕ) → (a == b) ≡ false → b < a + 1 → b < a
not_same a b k l = grind (arith, nat_tests)

module _ (versions : ℕ → Bool) (lease from : ℕ) (fates : FateRows) (rows : Rows) (so_far : WentOn versions lease from fates rows) where
  -- a version up to one that is looked at
  up_to : (ver v : ℕ) → ((w : ℕ) → from ≤ w → w < ver → tries_at w lease rows ≡ None) → v < ver → IsSome (tries_at v lease rows) → (versions v && is_handed_on (standing_at v lease fates)) ≡ true → ⊥
  up_to ver v passed below there over = by (nat_lt v from) refl
    where
      by : (b : Bool) → nat_lt v from ≡ b → ⊥
      by true q = so_far.none v (less v from q) there over
      by false q = no_room (tries_at v lease rows) there (passed v (more v from q) below)

  pub one_on : (ver : ℕ) → from ≤ ver → ((w : ℕ) → from ≤ w → w < ver → tries_at w lease rows ≡ None) → ver < number_limit → (versions ver && is_handed_on (standing_at ver lease fates)) ≡ false → WentOn versions lease (ver + 1) fates rows
  one_on ver le passed low other =
      record {
        in_limit = omega arith;
        none = λ v below there over. by v below there over (ver == v) refl;
      }
    where
      by : (v : ℕ) → v < ver + 1 → IsSome (tries_at v lease rows) → (versions v && is_handed_on (standing_at v lease fates)) ≡ true → (b : Bool) → (ver == v) ≡ b → ⊥
      by v below there over true q = false≢true (sym other ∙ ap (λ w. versions w && is_handed_on (standing_at w lease fates)) (eqb-true ver v q) ∙ over)
      by v below there over false q = up_to ver v passed (not_same ver v q below) there over

  never : (HasGoneOver versions lease fates rows → ⊥) → false ≡ hands_on versions fates rows lease
  never f = by (hands_on versions fates rows lease) refl
    where
      by : (b : Bool) → hands_on versions fates rows lease ≡ b → false ≡ b
      by true k = absurd (f (gone_over_found versions lease fates rows k))
      by false k = refl

  pub none_below : (ver : ℕ) → ((w : ℕ) → from ≤ w → w < ver → tries_at w lease rows ≡ None) → number_limit ≤ ver → false ≡ hands_on versions fates rows lease
  none_below ver passed high = never (λ gone. let low = gone.low in up_to ver gone.version passed (omega arith) gone.room gone.over)

  pub none_left : ((w : ℕ) → from ≤ w → tries_at w lease rows ≡ None) → false ≡ hands_on versions fates rows lease
  none_left none = never (λ gone. up_to (gone.version + 1) gone.version (λ w le below. none w le) (omega arith) gone.room gone.over)

pub one_found : (versions : ℕ → Bool) (lease ver : ℕ) (fates : FateRows) (rows : Rows) → ver < number_limit → IsSome (tries_at ver lease rows) → true ≡ versions ver → true ≡ is_handed_on (standing_at ver lease fates) → true ≡ hands_on versions fates rows lease
one_found versions lease ver fates rows low room is over =
    sym (gone_over_told versions lease fates rows (record { version = ver; low = low; room = room; over = and_from _ _ (sym is) (sym over) }))
