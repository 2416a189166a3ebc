-- Connections that have timed out in place, and those that stay.
use Rattle.std.proofs.Common.{◌≡◌, ℕ, List, ◌++◌, length, map, take, drop, ◌∙◌, ap}
use Rattle.std.proofs.lemmas.List.{length-map}
use Rattle.cip_types.specs.declared.names.Ms.{Ms}
use Rattle.cip_types.specs.declared.names.Triad.{Triad}
use Rattle.cip_types.specs.Indices.{written_back}
use Rattle.adapter_table.specs.Connections.{Row}
use Rattle.adapter_table.specs.Opening.{triad_of}
use Rattle.adapter_table.specs.Closing.{unsupported, staying}
use Rattle.adapter_table.specs.Sound.{TriadsDiffer}
use Rattle.adapter_table.specs.Ticks.{expired_row, expired_rows}
use Rattle.indexed_connections.specs.List.Removals.{without_each, without_unsupported, expired_differ}

pub expired_back : (clock : Ms) (n : ℕ) (rows lent new : List Row) → lent ≡ rows → length lent ≡ n → new ≡ expired_rows clock lent → take n (new ++ drop (length new) rows) ≡ expired_rows clock rows
expired_back clock n rows lent new same long is =
    written_back n rows new (ap (length {A = Row}) is ∙ length-map lent (expired_row clock) ∙ long) ∙ is ∙ ap (expired_rows clock) same

pub left_after : (clock : Ms) (rows timed_out left : List Row) (triads : List Triad) → timed_out ≡ expired_rows clock rows → left ≡ without_each triads timed_out → TriadsDiffer rows → triads ≡ map triad_of (unsupported (expired_rows clock rows)) → left ≡ staying (expired_rows clock rows)
left_after clock rows timed_out left triads after is differ are =
    is ∙ ap (without_each triads) after ∙ without_unsupported (expired_rows clock rows) triads (expired_differ clock rows differ) are
