-- Waits after misses, and fates as a program can say them.
use Rattle.std.proofs.Common.{◌≡◌, ℕ, zero, suc, ◌+◌, ◌≤◌, refl, arith}
use Rattle.ws_model.specs.declared.fate.Fate.{Fate}
use Rattle.ws_model.specs.declared.fate.Fate.TheVariants.{Answered, Owed, Ended}
use Rattle.ws_model.specs.Fate.{delay, is_owed, next_by}
use Rattle.ws_plain.specs.Alike.{alike}
use Rattle.ws_plain.specs.Capped.{capped}

pub next_after : (k born last : ℕ) → 1 ≤ k → next_by k born last ≡ last + delay k
next_after zero born last h = absurd (omega arith)
next_after (suc k) born last h = refl

pub delay_past : (k : ℕ) → 8 ≤ k → delay k ≡ 0
delay_past zero h = absurd (omega arith)
delay_past (suc zero) h = absurd (omega arith)
delay_past (suc (suc zero)) h = absurd (omega arith)
delay_past (suc (suc (suc zero))) h = absurd (omega arith)
delay_past (suc (suc (suc (suc zero)))) h = absurd (omega arith)
delay_past (suc (suc (suc (suc (suc zero))))) h = absurd (omega arith)
delay_past (suc (suc (suc (suc (suc (suc zero)))))) h = absurd (omega arith)
delay_past (suc (suc (suc (suc (suc (suc (suc zero))))))) h = absurd (omega arith)
delay_past (suc (suc (suc (suc (suc (suc (suc (suc m)))))))) h = refl

pub is_owed_capped : (f : Fate) → is_owed (capped f) ≡ is_owed f
is_owed_capped Answered = refl
is_owed_capped (Owed tries next) = refl
is_owed_capped (Ended c) = refl

pub alike_capped : (w f : Fate) → alike w (capped f) ≡ alike w f
alike_capped w Answered = refl
alike_capped Answered (Owed tries next) = refl
alike_capped (Owed k n) (Owed tries next) = refl
alike_capped (Ended c) (Owed tries next) = refl
alike_capped w (Ended c) = refl
