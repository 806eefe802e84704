-- The grammar of a script (own): the text of each happening, and of a list of them.
use Rattle.std.specs.Prelude.{◌≡◌, ◌≢◌, ℕ, ◌^◌, ◌<◌, ◌≤◌, Bool, true, false, List, [], ◌∷◌, ◌++◌, length, codes, decimal, Ok}
use Rattle.ws_target.specs.Keys.{key_or_fault}
use Rattle.ws_script.specs.declared.script.Line.{Line}
use Rattle.ws_script.specs.declared.script.Line.TheVariants as line
use Rattle.ws_script.specs.declared.script.Happening.{Happening}
use Rattle.ws_script.specs.declared.script.Happening.TheVariants as happens
use Rattle.ws_script.specs.declared.words.Word.{Word}
use Rattle.ws_script.specs.Bytes.{is_word}

-- A line without its line feed: words with one space between them, and decimal numbers with no
-- leading zero.
abbrev pub line_text : Line → List ℕ
line_text (line.At t) = codes "at " ++ decimal t
line_text (line.Form size) = codes "form " ++ decimal size
line_text (line.In size) = codes "in " ++ decimal size
line_text (line.Revoke topic callback) = codes "revoke " ++ topic.text ++ 32 ∷ callback.text
line_text line.Sum = codes "sum"
line_text line.End = codes "end"

-- a word of a script that names a topic or a callback: with that gateway its text has that key
abbrev pub IsWord : Bool → Word → Type 0
IsWord gateway word = (is_word word.text ≡ true) × (key_or_fault gateway word.text ≡ Ok word.key)

-- the bounds of its number, and what its words are
abbrev pub IsLine : Bool → Line → Type 0
IsLine gateway (line.At t) = t < 2 ^ 48
IsLine gateway (line.Form size) = size ≤ 16384
IsLine gateway (line.In size) = size ≤ 16777216
IsLine gateway (line.Revoke topic callback) = IsWord gateway topic × IsWord gateway callback
IsLine gateway line.Sum = Unit {0}
IsLine gateway line.End = Unit {0}

-- the line with which a happening begins
abbrev pub line_of : Happening → Line
line_of (happens.At t) = line.At t
line_of (happens.Form body) = line.Form (length body)
line_of (happens.In bytes) = line.In (length bytes)
line_of (happens.Revoke topic callback) = line.Revoke topic callback
line_of happens.Sum = line.Sum
line_of happens.End = line.End

-- the bytes behind that line's line feed
abbrev pub bytes_behind : Happening → List ℕ
bytes_behind (happens.Form body) = body ++ 10 ∷ []
bytes_behind (happens.In bytes) = bytes ++ 10 ∷ []
bytes_behind _ = []

-- a happening that begins with that line
abbrev pub HasLine : Line → Happening → Type 0
HasLine l h = line_of h ≡ l

-- a happening within its bounds, with a line of at most 4,096 bytes
abbrev pub IsHappening : Bool → Happening → Type 0
IsHappening gateway h = IsLine gateway (line_of h) × (length (line_text (line_of h)) ≤ 4096)

-- the text of a happening
abbrev pub text : Happening → List ℕ
text h = line_text (line_of h) ++ 10 ∷ bytes_behind h

-- the text of some happenings
abbrev pub texts : List Happening → List ℕ
texts [] = []
texts (h ∷ hs) = text h ++ texts hs

-- no happening stands at the front of these bytes: they leave the grammar, or are cut off
abbrev pub NoneBegins : Bool → List ℕ → Type 0
NoneBegins gateway bytes = (h : Happening) (rest : List ℕ) → IsHappening gateway h → bytes ≢ text h ++ rest

abbrev pub is_end : Happening → Bool
is_end happens.End = true
is_end _ = false

-- the most happenings that a script has
abbrev pub most_happenings : ℕ
most_happenings = 2 ^ 40

-- at most one happening stands at the front of bytes, and it leaves one rest
abbrev pub OneReading : Type 0
OneReading =
    (gateway : Bool) (h k : Happening) (rest others : List ℕ) → IsHappening gateway h → IsHappening gateway k
    → text h ++ rest ≡ text k ++ others → (h ≡ k) × (rest ≡ others)
