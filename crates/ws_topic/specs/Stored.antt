-- What holds of the rows and the counts together (own).
use Rattle.std.specs.Prelude.{◌≡◌, ℕ, List, IfSome}
use Rattle.std.specs.List.{sum_by}
use Rattle.std.specs.List.Sorted.{IsStrictlySortedBy}
use Rattle.std.specs.Map.{keys_of, values_of}
use Rattle.std.specs.Ordering.{nat_cmp}
use Rattle.ws_model.specs.declared.event.Version.{Version}
use Rattle.ws_topic.specs.declared.rows.OwedFetch.{OwedFetch}
use Rattle.ws_topic.specs.ByTopic.{IsAscending, at_topic}
use Rattle.ws_topic.specs.Rows.{size}

-- the numbers rise, the topics ascend, and the count is that of the bodies
pub record IsStored (versions : List (ℕ × Version)) (latest : List (List ℕ × ℕ)) (bodies : ℕ) : Type 0 where
  pub ordered : IsStrictlySortedBy nat_cmp (keys_of versions)
  pub ascending : IsAscending (keys_of latest)
  pub counted : bodies ≡ sum_by size (values_of versions)

-- the topics ascend, and each fetch stands at its topic
pub record IsListed (fetches : List (List ℕ × OwedFetch)) : Type 0 where
  pub ascending : IsAscending (keys_of fetches)
  pub keyed : (topic : List ℕ) → IfSome (at_topic topic fetches) (λ f. f.topic ≡ topic)
