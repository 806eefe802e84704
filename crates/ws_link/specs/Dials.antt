-- What a dial tells, and what its calls do to it (own).
use Rattle.std.specs.Prelude.{◌≡◌, ℕ, ◌<◌, List, [], ◌∷◌, ◌++◌, length, Option, Some, None, IfSome}
use Rattle.std.specs.Option.{option_map}
use Rattle.std.specs.Int.{w16, to_be_bytes}
use Rattle.ws_link.specs.Links.{LinkContent}

-- For each link given, the host and then the port in 2 bytes; and for each link given back, what it
-- gave, what it was sent, and whether it had answered End.
pub record DialContent : Type 0 where
  pub dialed : List (List ℕ)
  pub back : List LinkContent

-- a host, and its port in 2 bytes, the greater one first
abbrev pub address : List ℕ → ℕ → List ℕ
address host port = host ++ to_be_bytes w16 port

-- a link was given to this host and port
abbrev pub after_dial : List ℕ → ℕ → Option DialContent → Option DialContent
after_dial host port = option_map (λ (c : DialContent). record c { dialed = c.dialed ++ address host port ∷ [] })

-- fewer links were given back than dialled
abbrev pub CanHangUp : Option DialContent → Type 0
CanHangUp told = IfSome told (λ (c : DialContent). length c.back < length c.dialed)

-- A link was given back; a dial that tells what it takes back has links that tell.
abbrev pub HangsUp : Option DialContent → Option DialContent → Option LinkContent → Type 0
HangsUp None new link = new ≡ None
HangsUp (Some c) new (Some link) = new ≡ Some (record c { back = c.back ++ link ∷ [] })
HangsUp (Some c) new None = ⊥
