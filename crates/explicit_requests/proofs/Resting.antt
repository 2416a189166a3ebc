-- Explicit requests of which none ends.
use Rattle.std.proofs.Common.{◌≡◌, ◌<◌, Bool, false, List, [], ◌∷◌, filter, refl, ap, ◌∙◌, arith}
use Rattle.std.specs.Prelude.{nat_le}
use Rattle.std.specs.List.{list_any}
use Rattle.std.proofs.lemmas.Bool.{or_parts}
use Rattle.std.proofs.lemmas.Bool.Decides.{nat_tests}
use Rattle.cip_types.specs.declared.names.Ms.{Ms}
use Rattle.cip_events.specs.declared.event.Unanswered.{Unanswered}
use Rattle.cip_events.specs.declared.event.Unanswered.TheVariants.{TimedOut}
use Rattle.cip_tables.specs.Wakes.{explicit_due}
use Rattle.scanner_table.specs.declared.explicit.PendingExplicit.{PendingExplicit}
use Rattle.scanner_table.specs.declared.table.ScannerTable.{ScannerTable}
use Rattle.scanner_table.specs.Effects.{Effect, nothing, after, and_then}
use Rattle.scanner_table.specs.Explicit.{others, is_late, explicit_ended, explicit_timed_out}
use Rattle.scanner_table.specs.Ticks.{advanced, moved_on}

none_pass : (test : PendingExplicit → Bool) (pending : List PendingExplicit) → list_any test pending ≡ false → filter test pending ≡ []
none_pass test [] none = refl
none_pass test (explicit ∷ rest) none =
    let parts = or_parts (test explicit) (list_any test rest) none in
    rw parts.0 (none_pass test rest parts.1)

all_stay : (test : PendingExplicit → Bool) (pending : List PendingExplicit) → list_any test pending ≡ false → others test pending ≡ pending
all_stay test [] none = refl
all_stay test (explicit ∷ rest) none =
    let parts = or_parts (test explicit) (list_any test rest) none in
    rw parts.0 (ap (λ l. explicit ∷ l) (all_stay test rest parts.1))

pub no_end : (test : PendingExplicit → Bool) (why : Unanswered) (t : ScannerTable) → list_any test t.explicit ≡ false → explicit_ended test why t ≡ nothing t
no_end test why t none = rw (none_pass test t.explicit none, all_stay test t.explicit none) refl

pub requests_rest : (t : ScannerTable) → advanced t ≡ nothing t → list_any (is_late t.clock) t.explicit ≡ false → moved_on t ≡ nothing t
unfolding explicit_timed_out
requests_rest t calm none =
    ap (λ (e : Effect). and_then e explicit_timed_out) calm ∙ ap (λ (e : Effect). after (nothing t) e) (no_end (is_late t.clock) TimedOut t none)

none_late : (clock : Ms) (pending : List PendingExplicit) → clock.0 < explicit_due pending → list_any (is_late clock) pending ≡ false
none_late clock [] early = refl
none_late clock (explicit ∷ rest) early =
    let here : nat_le explicit.deadline.0 clock.0 ≡ false = grind (arith, nat_tests) in
    rw here (none_late clock rest (omega (arith, early)))

pub none_late_yet : (t : ScannerTable) → t.clock.0 < explicit_due t.explicit → list_any (is_late t.clock) t.explicit ≡ false
none_late_yet t early = none_late t.clock t.explicit early
