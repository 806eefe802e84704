-- The tables as contracts see them: what each of them shows, and the numbers (own).
use Rattle.ws_intent.specs.Rows.{Rows as IntentRows}
use Rattle.ws_lease.specs.Table.{Rows as LeaseRows}
use Rattle.ws_topic.specs.Rows.{Rows as TopicRows}
use Rattle.ws_delivery.specs.Table.{Rows as DeliveryRows}
use Rattle.ws_core_tables.specs.declared.numbers.Numbers.{Numbers}

pub record Rows : Type 0 where
  pub intents : IntentRows
  pub leases : LeaseRows
  pub topics : TopicRows
  pub deliveries : DeliveryRows
  pub numbers : Numbers
