-- What a snapshot says of a station beside the table of its device, as JSON (RFC 8259).
use Rattle.std.specs.Prelude.{ℕ, List, ◌++◌, codes, decimal}
use Rattle.page_feed.specs.declared.facts.StationFacts.{StationFacts}

-- The number of the last event, and its time. Its page opens the object, with the wall's time.
abbrev pub moment_text : StationFacts → List ℕ
moment_text facts = codes "\"number\":" ++ (decimal facts.number ++ (codes ",\"ms\":" ++ decimal facts.ms))

-- what was counted of the datagrams
abbrev pub counts_text : StationFacts → List ℕ
counts_text facts =
    codes ",\"counts\":{\"received\":" ++ (decimal facts.received
    ++ (codes ",\"sent\":" ++ (decimal facts.sent
    ++ (codes ",\"applied\":" ++ (decimal facts.applied
    ++ (codes ",\"lost\":" ++ (decimal facts.lost ++ codes "}")))))))
