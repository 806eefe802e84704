-- What has been played so far, and what a run is at each of its ends.
use Rattle.std.proofs.Common.{◌≡◌, ℕ, ◌+◌, ◌^◌, ◌<◌, ◌≤◌, Bool, false, List, [], ◌∷◌, ◌++◌, length, refl, sym, ap, ◌∙◌, subst, append_assoc, length-append, Option, Some, None, IfSome, inl, inr, arith}
use Rattle.std.specs.List.{AllByRecursion}
use Rattle.std.specs.Io.KnownBytes.{Consumes, Appends}
use Rattle.std.proofs.lemmas.List.{append-nil}
use Rattle.ws_model.specs.declared.settings.Settings.{Settings}
use Rattle.ws_link.specs.declared.status.Status.TheVariants as status
use Rattle.ws_front.specs.Moves.{AppendsSome}
use Rattle.ws_script.specs.declared.script.Happening.{Happening}
use Rattle.ws_script.specs.declared.script.Happening.TheVariants as happens
use Rattle.ws_script.specs.Script.{IsHappening, text, texts, NoneBegins, is_end}
use Rattle.ws_script.specs.Moves.{ConsumesSome}
use Rattle.ws_drive.specs.World.{World, start, Plays, AllPlay}
use Rattle.ws_drive.specs.Steps.{ReadsPlayable}
use Rattle.ws_drive.specs.Runs.{IsPlayed, Runs}
use Rattle.ws_drive.proofs.Known.{Consumes-then, Appends-then, Consumes-none, Appends-none}

IsPlayable : Bool → Happening → Type 0
IsPlayable gateway h = IsHappening gateway h × (is_end h ≡ false)

texts_push : (played : List Happening) (h : Happening) → texts (played ++ h ∷ []) ≡ texts played ++ text h
texts_push [] h = append-nil (text h)
texts_push (k ∷ played) h = ap (λ t. text k ++ t) (texts_push played h) ∙ sym (append_assoc (text k) (texts played) (text h))

all_play_push : (w next w' : World) (played : List Happening) (h : Happening) (out bytes : List ℕ) → AllPlay w played out next → Plays next h bytes w' → AllPlay w (played ++ h ∷ []) (out ++ bytes) w'
all_play_push w next w' [] h out bytes p q =
    (bytes, w', subst (λ v. Plays v h bytes w') p.1 q, [], (refl, refl), ap (λ o. o ++ bytes) p.0 ∙ sym (append-nil bytes))
all_play_push w next w' (k ∷ played) h out bytes p q = (
  p.0,
  p.1,
  p.2,
  p.3 ++ bytes,
  all_play_push p.1 next w' played h p.3 bytes p.4 q,
  ap (λ o. o ++ bytes) p.5 ∙ append_assoc p.0 p.3 bytes,
)

all_push : (P : Happening → Type 0) (played : List Happening) (h : Happening) → AllByRecursion P played → P h → AllByRecursion P (played ++ h ∷ [])
all_push P [] h all here = (here, tt)
all_push P (k ∷ played) h all here = (all.0, all_push P played h all.1 here)

-- i happenings were played: their texts were read and their transcript was written
pub record SoFar (settings : Settings) (left left' written written' : Option (List ℕ)) (i : ℕ) (w : World) : Type 0 where
  pub taken : List ℕ
  pub out : List ℕ
  pub played : List Happening
  pub consumed : Consumes left left' taken
  pub appended : Appends written written' out
  pub count : length played ≡ i
  pub sound : AllByRecursion (λ h. IsHappening settings.policy.gateway h × (is_end h ≡ false)) played
  pub read : taken ≡ texts played
  pub wrote : AllPlay (start settings) played out w

pub started : (settings : Settings) (left left' written written' : Option (List ℕ)) → left' ≡ left → written' ≡ written → SoFar settings left left' written written' 0 (start settings)
started settings left left' written written' p q = record {
  taken = [];
  out = [];
  played = [];
  consumed = Consumes-none left left' p;
  appended = Appends-none written written' q;
  count = refl;
  sound = tt;
  read = refl;
  wrote = (refl, refl);
}

module _ (settings : Settings) (left left' left'' written written' written'' : Option (List ℕ)) (i : ℕ) (w : World) (s : SoFar settings left left' written written' i w) where
  abbrev gateway : Bool
  gateway = settings.policy.gateway

  pub goes_on : (w' : World) (h : Happening) (bytes : List ℕ) → ReadsPlayable gateway left' left'' h → Appends written' written'' bytes → Plays w h bytes w' → SoFar settings left left'' written written'' (i + 1) w'
  goes_on w' h bytes reads writes plays = record {
    taken = s.taken ++ text h;
    out = s.out ++ bytes;
    played = s.played ++ h ∷ [];
    consumed = Consumes-then left left' left'' s.taken (text h) s.consumed reads.0;
    appended = Appends-then written written' written'' s.out bytes s.appended writes;
    count = omega (arith, s.count, length-append s.played (h ∷ []));
    sound = all_push _ s.played h s.sound (reads.1, reads.2);
    read = ap (λ t. t ++ text h) s.read ∙ sym (texts_push s.played h);
    wrote = all_play_push (start settings) w w' s.played h s.out bytes s.wrote plays;
  }

  was_played : i ≤ 2 ^ 40 → IsPlayed gateway s.played
  was_played few = record { sound = s.sound; few = omega (arith, s.count) }

  if_told : {P : List ℕ → Type 0} (o : Option (List ℕ)) → ((xs : List ℕ) → P xs) → IfSome o P
  if_told None f = tt
  if_told (Some xs) f = f xs

  left_at : (a b : Option (List ℕ)) (taken : List ℕ) (P : List ℕ → Type 0) (Q : List ℕ → Type 0) → Consumes a b taken → IfSome b P → ((input rest : List ℕ) → input ≡ taken ++ rest → P rest → Q input) → IfSome a Q
  left_at None b taken P Q c p f = tt
  left_at (Some xs) None taken P Q c p f = absurd c
  left_at (Some xs) (Some ys) taken P Q c p f = f xs ys c p

  same_out : Appends written' written'' [] → Appends written written'' s.out
  same_out wrote = subst (Appends written written'') (append-nil s.out) (Appends-then written written' written'' s.out [] s.appended wrote)

  module _ (few : i < 2 ^ 40) where
    pub ends : Consumes left' left'' (text happens.End) → Appends written' written'' [] → Runs settings left left'' written written'' status.Ok
    ends read wrote = (
      s.taken ++ text happens.End,
      s.out,
      Consumes-then left left' left'' s.taken (text happens.End) s.consumed read,
      same_out wrote,
      if_told left (λ input. (s.played, was_played (omega arith), omega (arith, s.count), ap (λ t. t ++ text happens.End) s.read, (w, s.wrote))),
    )

    pub leaves : (number : ℕ) → number ≡ i + 1 → ConsumesSome left' left'' (λ read. Unit {0}) → IfSome left' (NoneBegins gateway) → Appends written' written'' [] → Runs settings left left'' written written'' (status.Script number)
    leaves number is read none wrote = (
      s.taken ++ read.0,
      s.out,
      Consumes-then left left' left'' s.taken read.0 s.consumed read.1,
      same_out wrote,
      left_at left left' s.taken (NoneBegins gateway) _ s.consumed none
          (λ input rest e n. (s.played, was_played (omega arith), omega (arith, s.count), rest, e ∙ ap (λ t. t ++ rest) s.read, inl n, (w, s.wrote))),
    )

    pub read_fails : ConsumesSome left' left'' (NoneBegins gateway) → Appends written' written'' [] → Runs settings left left'' written written'' status.ReadFailed
    read_fails read wrote = (
      s.taken ++ read.0,
      s.out,
      Consumes-then left left' left'' s.taken read.0 s.consumed read.1,
      same_out wrote,
      if_told left (λ input. (s.played, was_played (omega arith), read.0, ap (λ t. t ++ read.0) s.read, read.2, (w, s.wrote))),
    )

    pub wants : ConsumesSome left' left'' (λ read. Unit {0}) → Appends written' written'' [] → Runs settings left left'' written written'' status.NoMemory
    wants read wrote = (
      s.taken ++ read.0,
      s.out,
      Consumes-then left left' left'' s.taken read.0 s.consumed read.1,
      same_out wrote,
      if_told left (λ input. (s.played, was_played (omega arith), read.0, ap (λ t. t ++ read.0) s.read, (w, s.wrote))),
    )

    pub write_fails : (w' : World) (h : Happening) (bytes : List ℕ) → ReadsPlayable gateway left' left'' h → Plays w h bytes w' → AppendsSome written' written'' bytes → Runs settings left left'' written written'' status.WriteFailed
    write_fails w' h bytes reads plays wrote = (
      s.taken ++ text h,
      s.out ++ wrote.0,
      Consumes-then left left' left'' s.taken (text h) s.consumed reads.0,
      Appends-then written written' written'' s.out wrote.0 s.appended wrote.1,
      if_told left (λ input. (
        s.played,
        h,
        record { sound = all_push _ s.played h s.sound (reads.1, reads.2); few = omega (arith, s.count, length-append s.played (h ∷ [])) },
        ap (λ t. t ++ text h) s.read,
        s.out,
        w,
        s.wrote,
        bytes,
        w',
        plays,
        wrote.0,
        wrote.2,
        refl,
      )),
    )

  pub leaves_long : (number : ℕ) → i ≡ 2 ^ 40 → number ≡ i + 1 → Runs settings left left' written written' (status.Script number)
  leaves_long number all is = (
    s.taken,
    s.out,
    s.consumed,
    s.appended,
    left_at left left' s.taken (λ rest. Unit {0}) _ s.consumed (if_told left' (λ rest. tt))
        (λ input rest e n. (s.played, was_played (omega arith), omega (arith, s.count), rest, e ∙ ap (λ t. t ++ rest) s.read, inr (s.count ∙ all), (w, s.wrote))),
  )

-- before anything was read there was no memory
pub undone : (settings : Settings) (left written : Option (List ℕ)) → Runs settings left left written written status.NoMemory
undone settings left written =
    wants settings left left left written written written 0 (start settings) (started settings left left written written refl refl) (omega arith)
    ([], Consumes-none left left refl, tt) (Appends-none written written refl)
