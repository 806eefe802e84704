-- What the two writes of a gated record leave of a file.
use Rattle.std.proofs.Common.{◌≡◌, ◌≢◌, ℕ, ◌+◌, Bool, cond, eqb, List, [], ◌∷◌, ◌++◌, length, slice_index, take, drop, inl, inr, sym, ◌∙◌, ap, subst, arith, append_assoc, length-append, length-take}
use Rattle.std.proofs.lemmas.Bool.{eq-eqb, eqb-true, cases_Bool}
use Rattle.std.proofs.lemmas.List.{take_all, drop_all, drop_at, append-nil, get_or_at}
use Rattle.ws_disk.specs.Crash.{overwritten, Torn, Follows, NoMore, Only, Elapses, LeavesOnly}
use Rattle.ws_disk.specs.Record.{Torn-overwritten}
use Rattle.ws_disk.proofs.Parts.{same_place}
use Rattle.ws_disk.proofs.Goes.{started, goes_on}
use Rattle.ws_disk.specs.Gated.{IsClosed, recovered, IsBeforeOrAfter}

shut : (gate : ℕ) (file : List ℕ) → slice_index file gate ≢ 1 → recovered gate file ≡ []
shut gate file is_shut =
    elim (cases_Bool (eqb (slice_index file gate) 1)) [
      | inl is_open ↦ absurd (is_shut (eqb-true _ _ is_open))
      | inr is_not ↦ ap (λ (b : Bool). cond b (drop (gate + 1) file) []) is_not
    ]

either : (gate : ℕ) (file bytes : List ℕ) → drop (gate + 1) file ≡ bytes → IsBeforeOrAfter gate bytes file
either gate file bytes rest =
    elim (cases_Bool (eqb (slice_index file gate) 1)) [
      | inl is_open ↦ inr (ap (λ (b : Bool). cond b (drop (gate + 1) file) []) is_open ∙ rest)
      | inr is_not ↦ inl (ap (λ (b : Bool). cond b (drop (gate + 1) file) []) is_not)
    ]

module _ (gate : ℕ) (bytes file : List ℕ) (closed : IsClosed gate file) where
  pub staged : overwritten (gate + 1) bytes file ≡ file ++ bytes
  staged =
      ap (λ (l : List ℕ). l ++ bytes ++ drop (gate + 1 + length bytes) file) (take_all (gate + 1) file (omega (arith, closed.last)))
      ∙ ap (λ (l : List ℕ). file ++ bytes ++ l) (drop_all (gate + 1 + length bytes) file (omega (arith, closed.last)))
      ∙ append-nil (file ++ bytes)

  pub at_rest : recovered gate file ≡ []
  at_rest = shut gate file closed.shut

  -- the closed gate stands in each outcome of the first write
  pub torn_behind : (n : ℕ) (image : List ℕ) → Torn (gate + 1) n file image → recovered gate image ≡ []
  torn_behind n image torn = shut gate image (λ is. closed.shut (sym (same_place (gate + 1) gate file image (omega arith) (omega (arith, closed.last)) torn.before) ∙ is))

  behind : drop (gate + 1) (file ++ bytes) ≡ bytes
  behind = drop_at file bytes (gate + 1) closed.last

  -- the bytes stand whole in each outcome of the second
  pub torn_gate : (image : List ℕ) → Torn gate 1 (file ++ bytes) image → IsBeforeOrAfter gate bytes image
  torn_gate image torn = either gate image bytes (torn.after ∙ behind)

  pub opened : recovered gate (overwritten gate (1 ∷ []) (file ++ bytes)) ≡ bytes
  opened =
      let whole = file ++ bytes in
      let new = overwritten gate (1 ∷ []) whole in
      let long : length (take gate whole) ≡ gate = omega (arith, closed.last, length-append file bytes, length-take gate whole) in
      let is_open : slice_index new gate ≡ 1 =
      ap (λ (l : List ℕ). slice_index l gate) (append_assoc (take gate whole) (1 ∷ []) (drop (gate + 1) whole)) ∙ get_or_at (take gate whole) 1 (drop (gate + 1) whole) 0 gate long in
      ap (λ (b : Bool). cond b (drop (gate + 1) new) []) (eq-eqb (slice_index new gate) 1 is_open) ∙ (Torn-overwritten gate (1 ∷ []) whole).after ∙ behind

-- the moments of the four calls of a gated write
module _ {D : Type 0} (seen : D → List ℕ) (moment : D → ℕ) (images : D → ℕ → List ℕ → Type 0) (gate : ℕ) (bytes : List ℕ) (old written confirmed : D) where
  abbrev Now : D → List ℕ → Type 0
  Now disk = images disk (moment disk)

  abbrev Goes : D → D → Type 0
  Goes before after = Elapses (moment before) (moment after) (images before) (images after)

  abbrev P : List ℕ → Type 0
  P = IsBeforeOrAfter gate bytes

  module _ (closed : IsClosed gate (seen old)) (only : Only (seen old) (Now old)) (crash : Follows (Torn (gate + 1) (length bytes)) (Now old) (Now written)) where
    first : (image : List ℕ) → Now written image → P image
    first image now =
        let from = crash image now in
        inl (torn_behind gate bytes (seen old) closed (length bytes) image (subst (λ (f : List ℕ). Torn (gate + 1) (length bytes) f image) (only from.0 from.1) from.2))

    pub until_confirmed : Goes old written → NoMore (Now written) (Now confirmed) → Goes written confirmed → LeavesOnly moment images old confirmed P
    until_confirmed time calm later =
        let at_start = started moment images old P (λ image now. inl (ap (recovered gate) (only image now) ∙ at_rest gate bytes (seen old) closed)) in
        goes_on moment images old written confirmed P (goes_on moment images old old written P at_start time first) later (λ image now. first image (calm image now))

    pub opens : (next : D) → seen written ≡ overwritten (gate + 1) bytes (seen old) → Only (seen written) (Now confirmed) → Follows (Torn gate 1) (Now confirmed) (Now next) → (image : List ℕ) → Now next image → P image
    opens next is durable torn image now =
        let from = torn image now in
        torn_gate gate bytes (seen old) closed image (subst (λ (f : List ℕ). Torn gate 1 f image) (durable from.0 from.1 ∙ is ∙ staged gate bytes (seen old) closed) from.2)
