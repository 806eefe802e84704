-- The thirteen lines of an account (own).
use Rattle.std.specs.Prelude.{ℕ, List, [], ◌∷◌, ◌++◌, codes, decimal}
use Rattle.ws_model.specs.declared.account.Account.{Account}

-- a line of a name and a number
abbrev pub count_line : List ℕ → ℕ → List ℕ
count_line name n = name ++ 32 ∷ [] ++ decimal n ++ 10 ∷ []

abbrev pub account_text : Account → List ℕ
account_text a =
    count_line (codes "pending") a.pending ++ count_line (codes "notices") a.notices
    ++ count_line (codes "leases") a.leases ++ count_line (codes "topics") a.topics
    ++ count_line (codes "fetches") a.fetches ++ count_line (codes "owed") a.owed
    ++ count_line (codes "answered") a.answered ++ count_line (codes "expired") a.expired
    ++ count_line (codes "unsubscribed") a.unsubscribed ++ count_line (codes "replaced") a.replaced
    ++ count_line (codes "gone") a.gone ++ count_line (codes "spent") a.spent
    ++ count_line (codes "revoked") a.revoked
