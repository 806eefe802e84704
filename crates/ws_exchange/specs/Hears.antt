-- What a reader hears in a piece of the reply (own).
use Rattle.std.specs.Prelude.{◌≡◌, ℕ, Bool, false, List, ⊤}
use Rattle.ws_http.specs.declared.fed.Need.{Need}
use Rattle.ws_http.specs.ResponseStages.{ReplyReading, Stands, is_last}
use Rattle.ws_exchange.specs.Ends.{GoesOn, Ends}
use Rattle.ws_exchange.specs.declared.hear.Heard.{Heard}
use Rattle.ws_exchange.specs.declared.hear.Heard.TheVariants as heard

-- the reader stands for what came, and has said nothing final
abbrev pub CanHear : ReplyReading → Type 0
CanHear r = (came : List ℕ) × Stands r came false × (is_last r.stage ≡ false)

-- What is heard where these bytes came in all, with the end behind them or not.
abbrev pub Hears : Need → List ℕ → Bool → Heard → Type 0
Hears need bytes ended (heard.More r) =
    Stands r bytes false × (is_last r.stage ≡ false) × (r.need ≡ need) × (ended ≡ false) × GoesOn need bytes
Hears need bytes ended (heard.Ended o) = Ends need bytes ended o
Hears need bytes ended heard.NoMemory = ⊤
