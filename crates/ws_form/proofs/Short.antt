-- A text that has a key is short.
use Rattle.std.proofs.Common.{◌≡◌, ℕ, ◌≤◌, Bool, true, false, cond, List, length, Ok, Err, refl, arith}
use Rattle.std.specs.Prelude.{Result, nat_lt}
use Rattle.std.proofs.lemmas.Bool.{ltb-false}
use Rattle.ws_target.specs.declared.fault.TargetFault.{TargetFault}
use Rattle.ws_target.specs.declared.fault.TargetFault.TheVariants.{TooLong}
use Rattle.ws_target.specs.Address.{url_of}
use Rattle.ws_target.specs.Keys.{key_of_url, key_or_fault}

by_length : (n : ℕ) (long : Bool) (found : Result (List ℕ) TargetFault) (key : List ℕ) → nat_lt 2048 n ≡ long → cond long (Err (TooLong n)) found ≡ Ok key → n ≤ 900000
by_length n true found key told keyed = cc
by_length n false found key told keyed = let short : n ≤ 2048 = ltb-false 2048 n told in omega arith

pub short_text : (gateway : Bool) (text : List ℕ) (key : List ℕ) → key_or_fault gateway text ≡ Ok key → length text ≤ 900000
unfolding key_or_fault
short_text gateway text key keyed = by_length (length text) (nat_lt 2048 (length text)) (key_of_url gateway (url_of text)) key refl keyed
