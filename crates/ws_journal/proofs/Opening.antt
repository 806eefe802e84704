-- What the opening of a store gives.
use Rattle.std.proofs.Common.{◌≡◌, inl, inr, ℕ, ◌+◌, ◌<◌, ◌≤◌, ◌^◌, List, [], ◌∷◌, ◌++◌, length, refl, sym, ◌∙◌, ap, subst, arith, append_assoc, length-append, None, Result, Ok, Err, IsErr, lit<}
use Rattle.std.specs.Prelude.{Vec, IfOk}
use Rattle.std.specs.Global.{Global}
use Rattle.std.proofs.lemmas.List.Elements.{All-nil}
use Rattle.ws_disk.specs.Crash.{Only}
use Rattle.ws_journal.specs.declared.store.Edition.{Edition}
use Rattle.ws_journal.specs.declared.store.Edition.TheVariants.{Second}
use Rattle.ws_journal.specs.declared.store.Side.{Side}
use Rattle.ws_journal.specs.declared.store.Side.TheVariants.{A, B}
use Rattle.ws_journal.specs.declared.store.Store.{Store}
use Rattle.ws_journal.specs.declared.store.Batch.{Batch}
use Rattle.ws_journal.specs.declared.store.OpenFault.{OpenFault}
use Rattle.ws_journal.specs.declared.store.OpenFault.TheVariants as Opening
use Rattle.ws_journal.specs.declared.journal.Journal.{Journal}
use Rattle.ws_journal.specs.declared.journal.Doubt.TheVariants.{Nothing}
use Rattle.ws_journal.specs.Text.{head_text, records, front, IsPayload, texts}
use Rattle.ws_journal.specs.Image.{fresh, found, Reads, IsUsed, IsBelow, IsFound, Counts}
use Rattle.ws_journal.specs.Kept.{IsShut, Each, Reaches}
use Rattle.ws_journal.specs.Made.{IsSpare}
use Rattle.ws_journal.specs.Stands.{Stands, counting, other}
use Rattle.ws_journal.specs.Looks.{OnlyReads}
use Rattle.ws_journal.specs.Device.{FindsRecords, AreBatches}
use Rattle.ws_journal.specs.Recovered.{CountsOn, Chooses, opened, IsNew, Recovers, StillReads, StandsGiven, Confirmed, EndsWithin}
use Rattle.ws_journal.proofs.Readings.{reads_found}
use Rattle.ws_journal.proofs.Spare.{length-head_text, spare_only}
use Rattle.ws_journal.specs.Stands as Standing

pub length-front : (edition : Edition) (generation : ℕ) (payloads : List (List ℕ)) → length (front edition generation payloads) ≡ 17 + length (records edition payloads)
unfolding front
length-front edition generation payloads = omega (arith, length-append (head_text edition generation) (records edition payloads), length-head_text edition generation)

-- a used device whose records end at a gate that isn't open
pub shut_of : (edition : Edition) (generation : ℕ) (rest file : List ℕ) (payloads : List (List ℕ)) → IsUsed edition generation rest file → IsFound edition payloads rest → IsShut (front edition generation payloads) file
unfolding front
shut_of edition generation rest file payloads used (gate, after, stand, shut) =
    let head = 1 ∷ head_text edition generation in record {
      gate = gate;
      after = after;
      not_open = shut;
      is = used.is ∙ ap (λ (l : List ℕ). head ++ l) stand.is ∙ sym (append_assoc head (records edition payloads) (gate ∷ after));
    }

pub counts_on : (side : Side) (edition : Edition) (generation : ℕ) (rest a b : List ℕ) → CountsOn side edition generation rest a b → Counts edition generation rest a b
counts_on A edition generation rest a b there = inl there
counts_on B edition generation rest a b there = inr there

-- the fault of the device that counts
pub fault_reads : (side : Side) (edition : Edition) (generation : ℕ) (rest a b : List ℕ) (fault : OpenFault) → CountsOn side edition generation rest a b → FindsRecords edition rest (Err fault) → StillReads a b (Err fault)
fault_reads side edition generation rest a b (Opening.Damaged at) there why = (edition, generation, rest, counts_on side edition generation rest a b there, why)
fault_reads side edition generation rest a b (Opening.Altered at kept digest) there why = (edition, generation, rest, counts_on side edition generation rest a b there, why)
fault_reads side edition generation rest a b (Opening.Foreign at) there why = absurd why
fault_reads side edition generation rest a b Opening.Disk there why = tt
fault_reads side edition generation rest a b Opening.NoMemory there why = tt

-- the fault of the choice
pub chosen_fault : (a b : List ℕ) (fault : OpenFault) → Chooses a b (Err fault) → StillReads a b (Err fault)
chosen_fault a b (Opening.Foreign at) why = why
chosen_fault a b (Opening.Damaged at) why = absurd why
chosen_fault a b (Opening.Altered at kept digest) why = absurd why
chosen_fault a b Opening.Disk why = tt
chosen_fault a b Opening.NoMemory why = tt

pub fault_recovers : (a b : List ℕ) (fault : OpenFault) → StillReads a b (Err fault) → Recovers a b (Err fault)
fault_recovers a b (Opening.Foreign at) why = why
fault_recovers a b (Opening.Damaged at) why = why
fault_recovers a b (Opening.Altered at kept digest) why = why
fault_recovers a b Opening.Disk why = tt
fault_recovers a b Opening.NoMemory why = tt

pub given_recovers : (a b : List ℕ) (r : Result (Journal × List Batch) OpenFault) → StillReads a b r → Recovers a b r
given_recovers a b (Ok (journal, batches)) given = inl given
given_recovers a b (Err fault) given = fault_recovers a b fault given

-- where no device was used
pub new_recovers : (a b : List ℕ) (r : Result (Journal × Vec Batch Global) OpenFault) → Reads a b fresh → IfOk (opened r) (λ one. IsNew one.0 one.1) → (IsErr r → r ≡ Err Opening.Disk) → Recovers a b (opened r)
new_recovers a b (Ok (journal, batches)) none new only = inr (none, new)
new_recovers a b (Err fault) none new only = subst (λ (x : Result (Journal × Vec Batch Global) OpenFault). Recovers a b (opened x)) (sym (only refl)) tt

module _ {D : Type 0} (moment : D → ℕ) (images : D → ℕ → List ℕ → Type 0) where
  -- a new journal
  stands_new : (limit : ℕ) (limited : limit ≤ 2 ^ 30) (begun : 17 < 18) (store : Store D) → Each (images store.a (moment store.a)) (IsShut (front Second 1 [])) → IsSpare 1 (images store.b (moment store.b))
      → Stands moment images (record { side = A; edition = Second; generation = 1; tail = 18; limit = limit; doubt = Nothing; limited = limited; begun = begun }) store [] None
  stands_new limit limited begun store made spare = record {
    generation = (lit< tt, lit< tt);
    batches = All-nil IsPayload;
    doubted = tt;
    device = record { tail = omega (arith, length-front Second 1 []); each = made; known = refl };
    rest = spare;
  }

  pub given_new : (limit : ℕ) (limited : limit ≤ 2 ^ 30) (begun : 17 < 18) (store : Store D) (batches : List Batch) → batches ≡ [] → Each (images store.a (moment store.a)) (IsShut (front Second 1 [])) → IsSpare 1 (images store.b (moment store.b))
      → Stands moment images (record { side = A; edition = Second; generation = 1; tail = 18; limit = limit; doubt = Nothing; limited = limited; begun = begun }) store (texts batches) None × AreBatches Second 17 (texts batches) batches
  given_new limit limited begun store batches none made spare =
      subst (λ (bs : List Batch). Stands moment images (record { side = A; edition = Second; generation = 1; tail = 18; limit = limit; doubt = Nothing; limited = limited; begun = begun }) store (texts bs) None × AreBatches Second 17 (texts bs) bs)
      (sym none) (stands_new limit limited begun store made spare, tt)

  -- a journal that was found
  pub stands_found : (side : Side) (edition : Edition) (generation tail limit : ℕ) (limited : limit ≤ 2 ^ 30) (begun : 17 < tail) (store : Store D) (a b rest : List ℕ) (payloads : List (List ℕ))
      → Only a (images store.a (moment store.a)) → Only b (images store.b (moment store.b)) → CountsOn side edition generation rest a b → IsFound edition payloads rest → tail ≡ 18 + length (records edition payloads)
      → Stands moment images (record { side = side; edition = edition; generation = generation; tail = tail; limit = limit; doubt = Nothing; limited = limited; begun = begun }) store payloads None
  stands_found A edition generation tail limit limited begun store a b rest payloads first second there ends is = record {
    generation = there.0.1;
    batches = ends.2.batches;
    doubted = tt;
    device = record {
      tail = omega (arith, is, length-front edition generation payloads);
      each = λ image now. subst (IsShut (front edition generation payloads)) (sym (first image now)) (shut_of edition generation rest a payloads there.0.0 ends);
      known = refl;
    };
    rest = spare_only generation (images store.b (moment store.b)) b second there.1;
  }
  stands_found B edition generation tail limit limited begun store a b rest payloads first second there ends is = record {
    generation = there.0.1;
    batches = ends.2.batches;
    doubted = tt;
    device = record {
      tail = omega (arith, is, length-front edition generation payloads);
      each = λ image now. subst (IsShut (front edition generation payloads)) (sym (second image now)) (shut_of edition generation rest b payloads there.0.0 ends);
      known = refl;
    };
    rest = spare_only generation (images store.a (moment store.a)) a first there.1;
  }

  -- what a journal stands for is what each image reads as
  module _ (journal : Journal) (store : Store D) (payloads : List (List ℕ)) (stands : Stands moment images journal store payloads None) (a b : List ℕ)
      (here : images store.a (moment store.a) a) (there : images store.b (moment store.b) b) where
    read_at : (side : Side) → journal.side ≡ side → Reads a b (found journal.edition journal.generation payloads)
    read_at A is =
        let device = subst (λ (s : Side). Standing.Counts journal (front journal.edition journal.generation payloads) None (images (counting s store) (moment (counting s store)))) is stands.device in
        let rest = subst (λ (s : Side). Each (images (other s store) (moment (other s store))) (IsBelow journal.generation)) is stands.rest.below in
        (reads_found journal.edition journal.generation payloads a b stands.generation stands.batches (device.each a here) (rest b there)).0
    read_at B is =
        let device = subst (λ (s : Side). Standing.Counts journal (front journal.edition journal.generation payloads) None (images (counting s store) (moment (counting s store)))) is stands.device in
        let rest = subst (λ (s : Side). Each (images (other s store) (moment (other s store))) (IsBelow journal.generation)) is stands.rest.below in
        (reads_found journal.edition journal.generation payloads b a stands.generation stands.batches (device.each b there) (rest a here)).1

    pub stands_read : Reads a b (found journal.edition journal.generation payloads)
    stands_read = read_at journal.side refl

  pub new_reads : (store : Store D) (a b : List ℕ) (r : Result (Journal × Vec Batch Global) OpenFault) → images store.a (moment store.a) a → images store.b (moment store.b) b
      → StandsGiven moment images store (opened r) → (IsErr r → r ≡ Err Opening.Disk) → StillReads a b (opened r)
  new_reads store a b (Ok (journal, batches)) here there given only = (stands_read journal store (texts batches.items) given.0 a b here there, given.1)
  new_reads store a b (Err fault) here there given only = subst (λ (x : Result (Journal × Vec Batch Global) OpenFault). StillReads a b (opened x)) (sym (only refl)) tt

-- what was confirmed stays so while nothing is written
pub confirmed_on : {D : Type 0} (honest : D → Type 0) (seen : D → List ℕ) (moment : D → ℕ) (images : D → ℕ → List ℕ → Type 0) (faults : D → ℕ) (old new : D)
    → honest old → Confirmed seen moment images old → OnlyReads honest seen moment images faults old new → Only (seen old) (images new (moment new))
confirmed_on honest seen moment images faults old new is confirmed reads image now = confirmed image ((reads.unwritten is).calm image now)

module _ {D : Type 0} (honest : D → Type 0) (seen : D → List ℕ) (moment : D → ℕ) (images : D → ℕ → List ℕ → Type 0) (faults : D → ℕ) where
  pub confirmed_still : (old new : D) → honest old → Confirmed seen moment images old → OnlyReads honest seen moment images faults old new → Confirmed seen moment images new
  confirmed_still old new is confirmed reads image now =
      confirmed_on honest seen moment images faults old new is confirmed reads image now ∙ sym (reads.unwritten is).same

  module _ (tail : ℕ) (old new : Store D) (first : honest old.a → Confirmed seen moment images old.a) (second : honest old.b → Confirmed seen moment images old.b)
      (reads_a : OnlyReads honest seen moment images faults old.a new.a) (reads_b : OnlyReads honest seen moment images faults old.b new.b) where
    -- a tail that was read of a confirmed device
    pub tail_on : (side : Side) → EndsWithin honest seen side old tail → honest (counting side new) → Each (images (counting side new) (moment (counting side new))) (Reaches tail)
    tail_on A within now image left =
        let was = reads_a.honesty.0 now in
        omega (arith, within was, ap length (confirmed_on honest seen moment images faults old.a new.a was (first was) reads_a image left))
    tail_on B within now image left =
        let was = reads_b.honesty.0 now in
        omega (arith, within was, ap length (confirmed_on honest seen moment images faults old.b new.b was (second was) reads_b image left))
