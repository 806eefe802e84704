use Rattle.std.proofs.Common.{arith, ◌≡◌, ◌≤◌, ◌<◌, ◌-◌, ℕ, length, List, ◌++◌, take, drop, replicate, sym, ap, ◌∙◌}
use Rattle.std.proofs.lemmas.Bool.Decides.{nat_tests}
use Rattle.std.proofs.lemmas.List.{append-nil, drop-replicate, length-replicate, length-take-le}
use Rattle.ws_hmac.specs.Hmac.{filled, short_key}
use Rattle.ws_hmac.proofs.keyed.key_block.Goals as goal

-- bytes written over the front of a block of zeros
written : (block n : ℕ) (front bytes : List ℕ) → n ≤ block → length front ≡ length {A = ℕ} (take n (replicate block 0)) → front ≡ bytes
    → front ++ drop n (replicate block 0) ≡ filled block bytes
written block n front bytes fits long same =
    let size : length front ≡ n = long ∙ length-take-le n (replicate block 0) (omega (arith, length-replicate {A = ℕ} block 0)) in
    ap (λ zeros. front ++ zeros) (drop-replicate n block 0)
    ∙ ap (λ k. front ++ replicate (block - k) 0) (sym size)
    ∙ ap (filled block) same

long_key : (hash : List ℕ → List ℕ) (block : ℕ) (key : List ℕ) → block < length key → short_key hash block key ≡ hash key
long_key hash block key long = grind (arith, nat_tests)

kept_key : (hash : List ℕ → List ℕ) (block : ℕ) (key : List ℕ) → length key ≤ block → short_key hash block key ≡ key
kept_key hash block key short = grind (arith, nat_tests)

pub returns-then-key : goal.returns-then-key
returns-then-key g c =
    written g.row.B g.row.N _ _ c.requires c.copy_from_slice.ensures.len
    (c.copy_from_slice.ensures.after ∙ c.digest-digest.ensures ∙ ap g.H.Hash.hash (append-nil c.args.key.now)
    ∙ sym (long_key g.H.Hash.hash g.row.B c.args.key.now c.if-key.true))

pub returns-else-key : goal.returns-else-key
returns-else-key g c =
    written g.row.B (length c.args.key.now) _ _ c.if-key.false c.copy_from_slice-else-key.ensures.len
    (c.copy_from_slice-else-key.ensures.after ∙ sym (kept_key g.H.Hash.hash g.row.B c.args.key.now c.if-key.false))
