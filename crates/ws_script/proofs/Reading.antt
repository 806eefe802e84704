-- The exits of a reading.
use Rattle.std.proofs.Common.{◌≡◌, ℕ, ◌≤◌, length, Vec, Global, List, [], ◌++◌, ap, ◌∙◌, subst, Option, Some, None, Result, Ok, Err, IfSome, IsErrAnd}
use Rattle.std.specs.Io.KnownBytes.{Consumes, IsAtEnd}
use Rattle.std.proofs.lemmas.List.{append-nil}
use Rattle.ws_script.specs.declared.take.ReadFault.{ReadFault}
use Rattle.ws_script.specs.declared.take.ReadFault.TheVariants.{Failed, NoMemory as Wanting}
use Rattle.ws_script.specs.Moves.{NoneOf, NoneBehind, Reads, ConsumesSome, TakesBytes}
use Rattle.ws_script.proofs.Known.{Consumes-then}

-- nothing follows, for the source came to its end
pub ended : {X : Type 0} (text_of : X → List ℕ) (IsSound : X → Type 0) (a m b : Option (List ℕ)) (bytes : List ℕ) → Consumes a m bytes → Consumes m b [] → IsAtEnd m → NoneOf text_of IsSound bytes → ConsumesSome a b (λ read. Unit {0}) × IfSome a (NoneOf text_of IsSound)
ended text_of IsSound None m b bytes p q e none = ((bytes, tt, tt), tt)
ended text_of IsSound (Some xs) None b bytes p q e none = absurd p
ended text_of IsSound (Some xs) (Some ys) None bytes p q e none = absurd q
ended text_of IsSound (Some xs) (Some ys) (Some zs) bytes p q e none =
    let whole : xs ≡ bytes = p ∙ ap (λ t. bytes ++ t) e ∙ append-nil bytes in
    ((bytes, p ∙ ap (λ t. bytes ++ t) q, tt), λ x rest sound is. none x rest sound (cc))

-- nothing follows, whatever comes behind what was read
pub whatever_follows : {X : Type 0} (text_of : X → List ℕ) (IsSound : X → Type 0) (a b : Option (List ℕ)) (bytes : List ℕ) → Consumes a b bytes → ((others : List ℕ) → NoneOf text_of IsSound (bytes ++ others)) → ConsumesSome a b (λ read. Unit {0}) × IfSome a (NoneOf text_of IsSound)
whatever_follows text_of IsSound None b bytes p none = ((bytes, tt, tt), tt)
whatever_follows text_of IsSound (Some xs) None bytes p none = absurd p
whatever_follows text_of IsSound (Some xs) (Some ys) bytes p none =
    ((bytes, p, tt), λ x rest sound is. none ys x rest sound (cc))

-- an error came when this much was read
pub stopped : {X Y : Type 0} (Q : ReadFault → Type 0) (text_of : X → List ℕ) (IsSound : X → Type 0) (view : Y → X) (a b : Option (List ℕ)) (bytes : List ℕ) (r : Result (Option Y) ReadFault) → IsErrAnd r Q → Consumes a b bytes → NoneOf text_of IsSound bytes → Reads text_of IsSound view a b r
stopped Q text_of IsSound view a b bytes (Ok x) h p none = absurd h
stopped Q text_of IsSound view a b bytes (Err Failed) h p none = (bytes, p, none)
stopped Q text_of IsSound view a b bytes (Err Wanting) h p none = (bytes, p, λ x rest sound e. absurd (none x rest sound e))

-- and the call that failed read nothing
pub stopped_at : {X Y : Type 0} (Q : ReadFault → Type 0) (text_of : X → List ℕ) (IsSound : X → Type 0) (view : Y → X) (a m b : Option (List ℕ)) (bytes : List ℕ) (r : Result (Option Y) ReadFault) → IsErrAnd r Q → Consumes a m bytes → Consumes m b [] → NoneOf text_of IsSound bytes → Reads text_of IsSound view a b r
stopped_at Q text_of IsSound view a m b bytes r h p q none =
    stopped Q text_of IsSound view a b bytes r h (subst (Consumes a b) (append-nil bytes) (Consumes-then a m b bytes [] p q)) none

-- there was no memory when this much was read
pub wanting : {X Y : Type 0} (text_of : X → List ℕ) (IsSound : X → Type 0) (view : Y → X) (a b : Option (List ℕ)) (bytes : List ℕ) (r : Result (Option Y) ReadFault) → IsErrAnd r (λ e. e ≡ Wanting) → Consumes a b bytes → NoneBehind text_of IsSound bytes → Reads text_of IsSound view a b r
wanting text_of IsSound view a b bytes (Ok x) h p none = absurd h
wanting text_of IsSound view a b bytes (Err Failed) h p none = absurd (cc)
wanting text_of IsSound view a b bytes (Err Wanting) h p none = (bytes, p, none)

-- a part of a thing couldn't be read, and so the thing couldn't
pub part_failed : {X Y X' Y' : Type 0} (text_of : X → List ℕ) (IsSound : X → Type 0) (view : Y → X) (text_of' : X' → List ℕ) (IsSound' : X' → Type 0) (view' : Y' → X') (a b : Option (List ℕ)) (e : ReadFault) (r : Result (Option Y') ReadFault) → IsErrAnd r (λ f. f ≡ e) → ((bytes : List ℕ) → NoneOf text_of IsSound bytes → NoneOf text_of' IsSound' bytes) → ((bytes : List ℕ) → NoneBehind text_of IsSound bytes → NoneBehind text_of' IsSound' bytes) → Reads text_of IsSound view a b (Err e) → Reads text_of' IsSound' view' a b r
part_failed text_of IsSound view text_of' IsSound' view' a b e (Ok y) h none behind read = absurd h
part_failed text_of IsSound view text_of' IsSound' view' a b Failed (Err Failed) h none behind read = (read.0, read.1, none read.0 read.2)
part_failed text_of IsSound view text_of' IsSound' view' a b Failed (Err Wanting) h none behind read = absurd (cc)
part_failed text_of IsSound view text_of' IsSound' view' a b Wanting (Err Failed) h none behind read = absurd (cc)
part_failed text_of IsSound view text_of' IsSound' view' a b Wanting (Err Wanting) h none behind read = (read.0, read.1, behind read.0 read.2)

pub stopped_bytes : {E : Type 0} (Q : E → Type 0) (size : ℕ) (a b : Option (List ℕ)) (bytes : List ℕ) (r : Result (Option (Vec ℕ Global)) E) → IsErrAnd r Q → Consumes a b bytes → length bytes ≤ size → TakesBytes size a b r
stopped_bytes Q size a b bytes (Ok x) h p short = absurd h
stopped_bytes Q size a b bytes (Err e) h p short = (bytes, p, short)
