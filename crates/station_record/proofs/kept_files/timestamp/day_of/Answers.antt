use Rattle.std.proofs.Common.{rules, ◌≡◌, ◌<◌, ◌≤◌, ◌+◌, ◌-◌, suc, true, false, refl, sym, ap, ◌∙◌, arith}
use Rattle.std.specs.Prelude.{nat_lt}
use Rattle.station_record.specs.KeptFiles.Timestamps.{day_of, day_within, year_len}
use Rattle.station_record.proofs.Padding.{behind_year, in_no_year, in_year}
use Rattle.station_record.proofs.kept_files.timestamp.day_of.Goals as goal

pub loop-year-init : goal.loop-year-init
unfolding day_of
loop-year-init c = (refl, omega arith)

pub returns-then-left-len : goal.returns-then-left-len
returns-then-left-len c =
    let below : c.loop-year.year < 10000 = search rules in
    let within : nat_lt c.loop-year.left (year_len c.loop-year.year) ≡ true = search rules in
    let one : 10000 - c.loop-year.year ≡ suc (9999 - c.loop-year.year) = omega (arith, below) in
    c.day_in.ensures ∙ sym (c.loop-year.invariant.0 ∙ in_year _ _ c.loop-year.year c.loop-year.left one within)

pub loop-year-preserved : goal.loop-year-preserved
loop-year-preserved c =
    let below : c.loop-year.year < 10000 = search rules in
    let over : nat_lt c.loop-year.left (year_len c.loop-year.year) ≡ false = search rules in
    let one : 10000 - c.loop-year.year ≡ suc (10000 - (c.loop-year.year + 1)) = omega (arith, below) in
    (c.loop-year.invariant.0 ∙ behind_year _ _ c.loop-year.year c.loop-year.left one over ∙ ap (λ len. day_within (10000 - (c.loop-year.year + 1)) (c.loop-year.year + 1) (c.loop-year.left - len)) (sym c.year_len-len.ensures), omega (arith, below))

pub returns : goal.returns
returns c =
    let past : 10000 ≤ c.loop-year.year = search rules in
    sym (c.loop-year.invariant.0 ∙ in_no_year (10000 - c.loop-year.year) c.loop-year.year c.loop-year.left (omega (arith, past)))
