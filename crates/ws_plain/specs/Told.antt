-- What a compaction has found out, as definitions see it (own).
use Rattle.ws_plain.specs.declared.compaction.Findings.{Findings}
use Rattle.ws_plain.specs.Kept.{Found}

-- what the findings of the code tell
abbrev pub told : Findings → Found
told f =
    record {
      pending = f.pending.items;
      notices = f.notices.items;
      fetches = f.fetches.items;
      latest = f.versions.latest.items;
      owed = f.versions.owed.items;
      leases = f.leases.items;
    }
