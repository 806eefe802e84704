-- Where the reading of a response's heads stops.
use Rattle.std.specs.Prelude.{◌≡◌, ◌⊎◌, ℕ, List, drop, ⊤}
use Rattle.httparse.specs.Grammar.{ResponseHead, HasNoResponse, MayBecomeResponse, NeverHasResponse}
use Rattle.ws_http.specs.declared.reply_head.HeadsEnd.{HeadsEnd}
use Rattle.ws_http.specs.declared.reply_head.HeadsEnd.TheVariants as end
use Rattle.ws_http.specs.Responses.{HasLowCode}
use Rattle.ws_http.specs.ResponseStages.{HasInterims, HasFinal, HeadWithin, extent_by}

-- where the reading of a response's heads stops
abbrev pub IsHeadsEnd : List ℕ → HeadsEnd → Type 0
IsHeadsEnd front (end.Open at) = HasInterims front at × HasNoResponse (drop at front) × MayBecomeResponse (drop at front)
IsHeadsEnd front end.Wrong =
    (at : ℕ) × HasInterims front at × (NeverHasResponse (drop at front) ⊎ HasLowCode (drop at front))
IsHeadsEnd front (end.Final f extent) = (h : ResponseHead) × HasFinal front f h × (extent ≡ extent_by h)

-- the final head ends behind a head that stands at a place
abbrev pub ReachesEnd : List ℕ → ℕ → HeadsEnd → Type 0
ReachesEnd front from (end.Open at) = ⊤
ReachesEnd front from end.Wrong = ⊤
ReachesEnd front from (end.Final f extent) = HeadWithin front from f.start
