-- Samples of the wall-clock time of a record's first line. The milliseconds are by another program.
use Rattle.std.proofs.Common.{◌≡◌, Some, None, refl}
use Rattle.std.specs.Prelude.{codes}
use Rattle.trace_files.specs.Pcap.WallClock.{recorded_from}

-- the first moment
begin_of_1970 : recorded_from (codes "# recorded from 1970-01-01T00:00:00.000Z") ≡ Some 0
begin_of_1970 = refl

-- the first day of March of a year without a leap day, and words behind the time
first_of_march : recorded_from (codes "# recorded from 2023-03-01T00:00:00.001Z by eip_station 1.51.0") ≡ Some 1677628800001
first_of_march = refl

-- a leap day
leap_day : recorded_from (codes "# recorded from 2024-02-29T12:34:56.789Z") ≡ Some 1709210096789
leap_day = refl

-- a leap day of the fourth hundredth year
leap_day_of_2000 : recorded_from (codes "# recorded from 2000-02-29T00:00:00.000Z") ≡ Some 951782400000
leap_day_of_2000 = refl

-- the last moment of a year
end_of_a_year : recorded_from (codes "# recorded from 1999-12-31T23:59:59.999Z by") ≡ Some 946684799999
end_of_a_year = refl

-- a hundredth year has no leap day
no_leap_day : recorded_from (codes "# recorded from 2100-02-29T00:00:00.000Z") ≡ None
no_leap_day = refl

-- no thirteenth month
no_month : recorded_from (codes "# recorded from 2026-13-01T00:00:00.000Z") ≡ None
no_month = refl

-- no leap second
no_leap_second : recorded_from (codes "# recorded from 2016-12-31T23:59:60.000Z") ≡ None
no_leap_second = refl

-- a year before 1970
too_early : recorded_from (codes "# recorded from 1969-12-31T23:59:59.999Z") ≡ None
too_early = refl

-- the time of a place
no_zone : recorded_from (codes "# recorded from 2026-11-26T17:36:10.123+01:00") ≡ None
no_zone = refl

-- a word that goes on behind the time
joined : recorded_from (codes "# recorded from 2026-11-26T17:36:10.123Zulu") ≡ None
joined = refl

-- a time that is cut short
cut_short : recorded_from (codes "# recorded from 2026-11-26T17:36:10.12") ≡ None
cut_short = refl

-- another comment
other_comment : recorded_from (codes "# continues island.trace, one file of many") ≡ None
other_comment = refl
