-- Producers that have produced stay within the limits of their device.
use Rattle.std.proofs.Common.{◌≡◌, ◌≤◌, ℕ, ◌+◌, ◌^◌, ◌==◌, ◌||◌, Bool, true, false, cond, if◌then◌else◌, Option, Some, None, nat_le, nat_lt, refl, arith}
use Rattle.std.proofs.lemmas.Bool.Decides.{nat_tests}
use Rattle.cip_types.specs.declared.names.Ms.{Ms}
use Rattle.cip_netparams.specs.declared.Trigger.{Trigger}
use Rattle.cip_netparams.specs.declared.Trigger.TheVariants.{Cyclic, ChangeOfState}
use Rattle.cip_productions.specs.declared.production.Production.{Production}
use Rattle.cip_productions.specs.Productions.{due_again, produced, deferred, sooner_due, changed_by, changed, is_free, is_on_change}
use Rattle.mcast_pool.specs.declared.group.Group.{Group}
use Rattle.mcast_pool.specs.Groups.{FitsGroup, with_production, written, waits, touched_production, touched, produced_group, produced_if_due, written_and_changed, is_due}

abbrev Soon : ℕ → Type 0
Soon due = due ≤ 2 ^ 48 + 10000

soon : (trigger : Trigger) (clock due api : ℕ) → clock ≤ 2 ^ 48 → api ≤ 10000 → nat_le due clock || is_on_change trigger ≡ true → Soon (due_again trigger clock due api)
soon Cyclic clock due api time short may = split (nat_lt clock (due + api)) (le (nat_le due clock) refl may)
  where
    le : (b : Bool) → nat_le due clock ≡ b → b || false ≡ true → due ≤ clock
    le true is h = grind (arith, nat_tests)
    le false is h = absurd cc

    split : (b : Bool) → due ≤ clock → (if b then due + api else clock + api) ≤ 2 ^ 48 + 10000
    split true le = omega arith
    split false le = omega arith
soon ChangeOfState clock due api time short may = omega arith

deferred_soon : (last : Option Ms) (inhibit : ℕ) (due : Ms) → Soon due.0 → Soon (sooner_due last inhibit due).0
deferred_soon None inhibit due is = is
deferred_soon (Some last) inhibit due is = omega arith

fits_with : (group : Group) (production : Production) → Soon production.due.0 → FitsGroup group → FitsGroup (with_production group production)
fits_with group production due fits = record { api = fits.api; due = due }

fits_if : (b : Bool) (group other : Group) → FitsGroup group → FitsGroup other → FitsGroup (cond b other group)
fits_if true group other fits more = more
fits_if false group other fits more = fits

pub fits_produced : (clock : Ms) (group : Group) → clock.0 ≤ 2 ^ 48 → is_due clock group || is_on_change group.producer.production.trigger ≡ true → FitsGroup group → FitsGroup (produced_group clock group)
fits_produced clock group time may fits =
    fits_with group (produced clock group.api group.producer.production) (soon group.producer.production.trigger clock.0 group.producer.production.due.0 group.api time fits.api may) fits

pub fits_if_due : (clock : Ms) (group : Group) → clock.0 ≤ 2 ^ 48 → FitsGroup group → FitsGroup (produced_if_due clock group)
fits_if_due clock group time fits = split (is_due clock group) refl
  where
    split : (b : Bool) → is_due clock group ≡ b → FitsGroup (cond b (produced_group clock group) group)
    split true is = fits_produced clock group time (rw is refl) fits
    split false is = fits

touched_soon : (clock : Ms) (production : Production) → Soon production.due.0 → Soon (touched_production clock production).due.0
touched_soon clock production is = split (waits clock production)
  where
    split : (b : Bool) → Soon (cond b (deferred (written production)) (written production)).due.0
    split true = deferred_soon production.last production.inhibit production.due is
    split false = is

pub fits_touched : (clock : Ms) (point : ℕ) (group : Group) → FitsGroup group → FitsGroup (touched clock point group)
fits_touched clock point group fits =
    fits_if (group.producer.point == point) group (with_production group (touched_production clock group.producer.production)) fits
    (fits_with group (touched_production clock group.producer.production) (touched_soon clock group.producer.production fits.due) fits)

changed_soon : (trigger : Trigger) (clock : Ms) (api : ℕ) (production : Production) → trigger ≡ production.trigger → clock.0 ≤ 2 ^ 48 → api ≤ 10000 → Soon production.due.0 → Soon (changed_by trigger clock api production).due.0
changed_soon Cyclic clock api production same time short is = is
changed_soon ChangeOfState clock api production same time short is = split (is_free clock production)
  where
    split : (b : Bool) → Soon (cond b (produced clock api production) (deferred production)).due.0
    split true = soon production.trigger clock.0 production.due.0 api time short (rw (← same) (any (nat_le production.due.0 clock.0)))
      where
        any : (b : Bool) → b || true ≡ true
        any true = refl
        any false = refl
    split false = deferred_soon production.last production.inhibit production.due is

pub fits_changed : (clock : Ms) (point : ℕ) (group : Group) → clock.0 ≤ 2 ^ 48 → FitsGroup group → FitsGroup (written_and_changed clock point group)
fits_changed clock point group time fits =
    let new = changed clock group.api (written group.producer.production) in
    fits_if (group.producer.point == point) group (with_production group new) fits
    (fits_with group new (changed_soon group.producer.production.trigger clock group.api (written group.producer.production) refl time fits.api fits.due) fits)
