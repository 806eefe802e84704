-- What happened, by the table of kinds: no text begins another, and what is lacking where the fields
-- of a kind are.
use Rattle.std.proofs.Common.{◌≡◌, ℕ, Bool, List, [], ◌∷◌, ◌++◌, refl, sym, ap, subst, ◌∙◌, arith}
use Rattle.std.specs.Int.{Width, w16, w32, w64}
use Rattle.ws_model.specs.declared.event.Mode.{Mode}
use Rattle.ws_model.specs.declared.event.Alg.{Alg}
use Rattle.ws_model.specs.declared.event.How.{How}
use Rattle.ws_model.specs.declared.event.What.{What}
use Rattle.ws_model.specs.declared.event.What.TheVariants.{Asked, Confirmed, Declined, Unheard, Barred, Noticed, Pinged, Fetched, Same, Unfetched, Pushed, Tally, Revoked}
use Rattle.ws_record.specs.Text.{number_text, bytes_text, mode_text, alg_text, flag_text, how_text, NumberFits, BytesFit, HowFits}
use Rattle.ws_record.specs.Batch.{kind, what_text, WhatFits}
use Rattle.ws_record.specs.Reading.{Begins, Lacks, Apart, both, BothFit}
use Rattle.ws_record.specs.NumberLaws.{IsWide, wide16, wide32, wide64, number-apart}
use Rattle.ws_record.specs.FieldLaws.{heads, tails, nothing-apart, both-apart, bytes-apart, mode-apart, alg-apart, flag-apart, how-apart}

-- a text for each value, by which they are apart
pub record Format (A : Type 0) : Type 1 where
  pub text : A → List ℕ
  pub fits : A → Type 0
  pub apart : Apart text fits

abbrev nothing : Format (Unit {0})
nothing = record { text = λ _. []; fits = λ _. Unit {0}; apart = nothing-apart }

infixr 5 ◌&◌
abbrev ◌&◌ : {A B : Type 0} → Format A → Format B → Format (A × B)
f & g = record { text = both f.text g.text; fits = BothFit f.fits g.fits; apart = both-apart f.text f.fits g.text g.fits f.apart g.apart }

abbrev number_format : (w : Width) → IsWide w → Format ℕ
number_format w wide = record { text = number_text w; fits = NumberFits w; apart = number-apart w wide }

abbrev bytes_format : Format (List ℕ)
bytes_format = record { text = bytes_text; fits = BytesFit; apart = bytes-apart }

abbrev mode_format : Format Mode
mode_format = record { text = mode_text; fits = λ _. Unit {0}; apart = mode-apart }

abbrev alg_format : Format Alg
alg_format = record { text = alg_text; fits = λ _. Unit {0}; apart = alg-apart }

abbrev flag_format : Format Bool
flag_format = record { text = flag_text; fits = λ _. Unit {0}; apart = flag-apart }

abbrev how_format : Format How
how_format = record { text = how_text; fits = HowFits; apart = how-apart }

-- A kind: its number, the format of its fields, and what is made of them. Nothing else has its number.
pub record Kind (A : Type 0) : Type 1 where
  pub number : ℕ
  pub format : Format A
  pub make : A → What
  pub text_is : (a : A) → what_text (make a) ≡ number ∷ format.text a
  pub fits_from : (a : A) → format.fits a → WhatFits (make a)
  pub fits_to : (a : A) → WhatFits (make a) → format.fits a
  pub only : (w : What) → kind w ≡ number → (a : A) × (w ≡ make a)

-- every text begins with its kind
head-is : (w : What) (r : List ℕ) (k : ℕ) (s : List ℕ) → what_text w ++ r ≡ k ∷ s → kind w ≡ k
head-is w r k s e = heads e

pub kind-begins : {A : Type 0} (k : Kind A) (bytes front : List ℕ) (a : A) (rest : List ℕ) → bytes ≡ k.number ∷ front → Begins k.format.text k.format.fits front a rest → Begins what_text WhatFits bytes (k.make a) rest
kind-begins k bytes front a rest e begins = record {
  fit = k.fits_from a begins.fit;
  parts = e ∙ ap (λ (t : List ℕ). k.number ∷ t) begins.parts ∙ ap (λ (t : List ℕ). t ++ rest) (sym (k.text_is a));
}

pub kind-lacks : {A : Type 0} (k : Kind A) (bytes front : List ℕ) → bytes ≡ k.number ∷ front → Lacks k.format.text k.format.fits front → Lacks what_text WhatFits bytes
kind-lacks k bytes front e lacks w rest fits d =
    let found = k.only w (head-is w rest k.number front (sym d ∙ e)) in
    let made : what_text w ≡ k.number ∷ k.format.text found.0 = ap what_text found.1 ∙ k.text_is found.0 in
    lacks found.0 rest (k.fits_to found.0 (subst WhatFits found.1 fits)) (tails (sym e ∙ d ∙ ap (λ (t : List ℕ). t ++ rest) made))

-- no text begins another of its kind, nor of another kind
kind-apart : {A : Type 0} (k : Kind A) (a : A) (y : What) (r s : List ℕ) → WhatFits (k.make a) → WhatFits y → what_text (k.make a) ++ r ≡ what_text y ++ s → (k.make a ≡ y) × (r ≡ s)
kind-apart k a y r s fx fy e =
    let front : what_text (k.make a) ++ r ≡ k.number ∷ (k.format.text a ++ r) = ap (λ (t : List ℕ). t ++ r) (k.text_is a) in
    let found = k.only y (head-is y s k.number (k.format.text a ++ r) (sym e ∙ front)) in
    let made : what_text y ≡ k.number ∷ k.format.text found.0 = ap what_text found.1 ∙ k.text_is found.0 in
    let p = k.format.apart a found.0 r s (k.fits_to a fx) (k.fits_to found.0 (subst WhatFits found.1 fy)) (tails (sym front ∙ e ∙ ap (λ (t : List ℕ). t ++ s) made)) in
    (ap k.make p.0 ∙ sym found.1, p.1)

-- ---- the kinds

pub only-asked : (w : What) → kind w ≡ 1 → (a : ℕ × (Mode × (List ℕ × (List ℕ × (List ℕ × (List ℕ × (ℕ × (Alg × Unit {0})))))))) × (w ≡ Asked (record { n = a.0; mode = a.1.0; topic = a.1.1.0; echo = a.1.1.1.0; callback = a.1.1.1.1.0; secret = a.1.1.1.1.1.0; granted = a.1.1.1.1.1.1.0; alg = a.1.1.1.1.1.1.1.0 }))
only-asked (Asked i) e = ((i.n, (i.mode, (i.topic, (i.echo, (i.callback, (i.secret, (i.granted, (i.alg, tt)))))))), refl)
only-asked _ e = absurd (omega (arith, e))

abbrev pub asked : Kind (ℕ × (Mode × (List ℕ × (List ℕ × (List ℕ × (List ℕ × (ℕ × (Alg × Unit {0}))))))))
asked = record {
  number = 1;
  format = number_format w64 wide64 & mode_format & bytes_format & bytes_format & bytes_format & bytes_format & number_format w32 wide32 & alg_format & nothing;
  make = λ a. Asked (record { n = a.0; mode = a.1.0; topic = a.1.1.0; echo = a.1.1.1.0; callback = a.1.1.1.1.0; secret = a.1.1.1.1.1.0; granted = a.1.1.1.1.1.1.0; alg = a.1.1.1.1.1.1.1.0 });
  text_is = λ a. refl;
  fits_from = λ a f. f;
  fits_to = λ a f. f;
  only = only-asked;
}

pub only-confirmed : (w : What) → kind w ≡ 2 → (a : ℕ × (ℕ × Unit {0})) × (w ≡ Confirmed a.0 a.1.0)
only-confirmed (Confirmed n sent) e = ((n, (sent, tt)), refl)
only-confirmed _ e = absurd (omega (arith, e))

abbrev pub confirmed : Kind (ℕ × (ℕ × Unit {0}))
confirmed = record {
  number = 2;
  format = number_format w64 wide64 & number_format w64 wide64 & nothing;
  make = λ a. Confirmed a.0 a.1.0;
  text_is = λ a. refl;
  fits_from = λ a f. f;
  fits_to = λ a f. f;
  only = only-confirmed;
}

pub only-declined : (w : What) → kind w ≡ 3 → (a : ℕ × (ℕ × Unit {0})) × (w ≡ Declined a.0 a.1.0)
only-declined (Declined n code) e = ((n, (code, tt)), refl)
only-declined _ e = absurd (omega (arith, e))

abbrev pub declined : Kind (ℕ × (ℕ × Unit {0}))
declined = record {
  number = 3;
  format = number_format w64 wide64 & number_format w16 wide16 & nothing;
  make = λ a. Declined a.0 a.1.0;
  text_is = λ a. refl;
  fits_from = λ a f. f;
  fits_to = λ a f. f;
  only = only-declined;
}

pub only-unheard : (w : What) → kind w ≡ 4 → (a : ℕ × Unit {0}) × (w ≡ Unheard a.0)
only-unheard (Unheard n) e = ((n, tt), refl)
only-unheard _ e = absurd (omega (arith, e))

abbrev pub unheard : Kind (ℕ × Unit {0})
unheard = record {
  number = 4;
  format = number_format w64 wide64 & nothing;
  make = λ a. Unheard a.0;
  text_is = λ a. refl;
  fits_from = λ a f. f;
  fits_to = λ a f. f;
  only = only-unheard;
}

pub only-barred : (w : What) → kind w ≡ 5 → (a : ℕ × (List ℕ × Unit {0})) × (w ≡ Barred a.0 a.1.0)
only-barred (Barred n reason) e = ((n, (reason, tt)), refl)
only-barred _ e = absurd (omega (arith, e))

abbrev pub barred : Kind (ℕ × (List ℕ × Unit {0}))
barred = record {
  number = 5;
  format = number_format w64 wide64 & bytes_format & nothing;
  make = λ a. Barred a.0 a.1.0;
  text_is = λ a. refl;
  fits_from = λ a f. f;
  fits_to = λ a f. f;
  only = only-barred;
}

pub only-noticed : (w : What) → kind w ≡ 6 → (a : ℕ × (Bool × Unit {0})) × (w ≡ Noticed a.0 a.1.0)
only-noticed (Noticed n heard) e = ((n, (heard, tt)), refl)
only-noticed _ e = absurd (omega (arith, e))

abbrev pub noticed : Kind (ℕ × (Bool × Unit {0}))
noticed = record {
  number = 6;
  format = number_format w64 wide64 & flag_format & nothing;
  make = λ a. Noticed a.0 a.1.0;
  text_is = λ a. refl;
  fits_from = λ a f. f;
  fits_to = λ a f. f;
  only = only-noticed;
}

pub only-pinged : (w : What) → kind w ≡ 7 → (a : List ℕ × Unit {0}) × (w ≡ Pinged a.0)
only-pinged (Pinged topic) e = ((topic, tt), refl)
only-pinged _ e = absurd (omega (arith, e))

abbrev pub pinged : Kind (List ℕ × Unit {0})
pinged = record {
  number = 7;
  format = bytes_format & nothing;
  make = λ a. Pinged a.0;
  text_is = λ a. refl;
  fits_from = λ a f. f;
  fits_to = λ a f. f;
  only = only-pinged;
}

pub only-fetched : (w : What) → kind w ≡ 8 → (a : ℕ × (List ℕ × (ℕ × (List ℕ × (List ℕ × (List ℕ × Unit {0})))))) × (w ≡ Fetched (record { ver = a.0; topic = a.1.0; upto = a.1.1.0; media = a.1.1.1.0; own_link = a.1.1.1.1.0; body = a.1.1.1.1.1.0 }))
only-fetched (Fetched i) e = ((i.ver, (i.topic, (i.upto, (i.media, (i.own_link, (i.body, tt)))))), refl)
only-fetched _ e = absurd (omega (arith, e))

abbrev pub fetched : Kind (ℕ × (List ℕ × (ℕ × (List ℕ × (List ℕ × (List ℕ × Unit {0}))))))
fetched = record {
  number = 8;
  format = number_format w64 wide64 & bytes_format & number_format w64 wide64 & bytes_format & bytes_format & bytes_format & nothing;
  make = λ a. Fetched (record { ver = a.0; topic = a.1.0; upto = a.1.1.0; media = a.1.1.1.0; own_link = a.1.1.1.1.0; body = a.1.1.1.1.1.0 });
  text_is = λ a. refl;
  fits_from = λ a f. f;
  fits_to = λ a f. f;
  only = only-fetched;
}

pub only-same : (w : What) → kind w ≡ 9 → (a : List ℕ × (ℕ × Unit {0})) × (w ≡ Same a.0 a.1.0)
only-same (Same topic upto) e = ((topic, (upto, tt)), refl)
only-same _ e = absurd (omega (arith, e))

abbrev pub same : Kind (List ℕ × (ℕ × Unit {0}))
same = record {
  number = 9;
  format = bytes_format & number_format w64 wide64 & nothing;
  make = λ a. Same a.0 a.1.0;
  text_is = λ a. refl;
  fits_from = λ a f. f;
  fits_to = λ a f. f;
  only = only-same;
}

pub only-unfetched : (w : What) → kind w ≡ 10 → (a : List ℕ × (ℕ × (ℕ × Unit {0}))) × (w ≡ Unfetched a.0 a.1.0 a.1.1.0)
only-unfetched (Unfetched topic upto why) e = ((topic, (upto, (why, tt))), refl)
only-unfetched _ e = absurd (omega (arith, e))

abbrev pub unfetched : Kind (List ℕ × (ℕ × (ℕ × Unit {0})))
unfetched = record {
  number = 10;
  format = bytes_format & number_format w64 wide64 & number_format w16 wide16 & nothing;
  make = λ a. Unfetched a.0 a.1.0 a.1.1.0;
  text_is = λ a. refl;
  fits_from = λ a f. f;
  fits_to = λ a f. f;
  only = only-unfetched;
}

pub only-pushed : (w : What) → kind w ≡ 11 → (a : ℕ × (ℕ × (How × Unit {0}))) × (w ≡ Pushed a.0 a.1.0 a.1.1.0)
only-pushed (Pushed ver lease h) e = ((ver, (lease, (h, tt))), refl)
only-pushed _ e = absurd (omega (arith, e))

abbrev pub pushed : Kind (ℕ × (ℕ × (How × Unit {0})))
pushed = record {
  number = 11;
  format = number_format w64 wide64 & number_format w64 wide64 & how_format & nothing;
  make = λ a. Pushed a.0 a.1.0 a.1.1.0;
  text_is = λ a. refl;
  fits_from = λ a f. f;
  fits_to = λ a f. f;
  only = only-pushed;
}

pub only-tally : (w : What) → kind w ≡ 12 → (a : ℕ × (ℕ × (ℕ × (ℕ × (ℕ × (ℕ × (ℕ × (ℕ × (ℕ × (ℕ × (ℕ × Unit {0}))))))))))) × (w ≡ Tally (record { now = a.0; serial = a.1.0; intent = a.1.1.0; version = a.1.1.1.0; answered = a.1.1.1.1.0; expired = a.1.1.1.1.1.0; unsubscribed = a.1.1.1.1.1.1.0; replaced = a.1.1.1.1.1.1.1.0; gone = a.1.1.1.1.1.1.1.1.0; spent = a.1.1.1.1.1.1.1.1.1.0; revoked = a.1.1.1.1.1.1.1.1.1.1.0 }))
only-tally (Tally i) e = ((i.now, (i.serial, (i.intent, (i.version, (i.answered, (i.expired, (i.unsubscribed, (i.replaced, (i.gone, (i.spent, (i.revoked, tt))))))))))), refl)
only-tally _ e = absurd (omega (arith, e))

abbrev pub tally : Kind (ℕ × (ℕ × (ℕ × (ℕ × (ℕ × (ℕ × (ℕ × (ℕ × (ℕ × (ℕ × (ℕ × Unit {0})))))))))))
tally = record {
  number = 12;
  format = number_format w64 wide64 & number_format w64 wide64 & number_format w64 wide64 & number_format w64 wide64 & number_format w64 wide64 & number_format w64 wide64 & number_format w64 wide64 & number_format w64 wide64 & number_format w64 wide64 & number_format w64 wide64 & number_format w64 wide64 & nothing;
  make = λ a. Tally (record { now = a.0; serial = a.1.0; intent = a.1.1.0; version = a.1.1.1.0; answered = a.1.1.1.1.0; expired = a.1.1.1.1.1.0; unsubscribed = a.1.1.1.1.1.1.0; replaced = a.1.1.1.1.1.1.1.0; gone = a.1.1.1.1.1.1.1.1.0; spent = a.1.1.1.1.1.1.1.1.1.0; revoked = a.1.1.1.1.1.1.1.1.1.1.0 });
  text_is = λ a. refl;
  fits_from = λ a f. f;
  fits_to = λ a f. f;
  only = only-tally;
}

pub only-revoked : (w : What) → kind w ≡ 13 → (a : ℕ × (List ℕ × Unit {0})) × (w ≡ Revoked a.0 a.1.0)
only-revoked (Revoked n reason) e = ((n, (reason, tt)), refl)
only-revoked _ e = absurd (omega (arith, e))

abbrev pub revoked : Kind (ℕ × (List ℕ × Unit {0}))
revoked = record {
  number = 13;
  format = number_format w64 wide64 & bytes_format & nothing;
  make = λ a. Revoked a.0 a.1.0;
  text_is = λ a. refl;
  fits_from = λ a f. f;
  fits_to = λ a f. f;
  only = only-revoked;
}

pub what-apart : Apart what_text WhatFits
what-apart (Asked i) y r s fx fy e = kind-apart asked (i.n, (i.mode, (i.topic, (i.echo, (i.callback, (i.secret, (i.granted, (i.alg, tt)))))))) y r s fx fy e
what-apart (Confirmed n sent) y r s fx fy e = kind-apart confirmed (n, (sent, tt)) y r s fx fy e
what-apart (Declined n code) y r s fx fy e = kind-apart declined (n, (code, tt)) y r s fx fy e
what-apart (Unheard n) y r s fx fy e = kind-apart unheard (n, tt) y r s fx fy e
what-apart (Barred n reason) y r s fx fy e = kind-apart barred (n, (reason, tt)) y r s fx fy e
what-apart (Noticed n heard) y r s fx fy e = kind-apart noticed (n, (heard, tt)) y r s fx fy e
what-apart (Pinged topic) y r s fx fy e = kind-apart pinged (topic, tt) y r s fx fy e
what-apart (Fetched i) y r s fx fy e = kind-apart fetched (i.ver, (i.topic, (i.upto, (i.media, (i.own_link, (i.body, tt)))))) y r s fx fy e
what-apart (Same topic upto) y r s fx fy e = kind-apart same (topic, (upto, tt)) y r s fx fy e
what-apart (Unfetched topic upto why) y r s fx fy e = kind-apart unfetched (topic, (upto, (why, tt))) y r s fx fy e
what-apart (Pushed ver lease h) y r s fx fy e = kind-apart pushed (ver, (lease, (h, tt))) y r s fx fy e
what-apart (Tally i) y r s fx fy e = kind-apart tally (i.now, (i.serial, (i.intent, (i.version, (i.answered, (i.expired, (i.unsubscribed, (i.replaced, (i.gone, (i.spent, (i.revoked, tt))))))))))) y r s fx fy e
what-apart (Revoked n reason) y r s fx fy e = kind-apart revoked (n, (reason, tt)) y r s fx fy e
