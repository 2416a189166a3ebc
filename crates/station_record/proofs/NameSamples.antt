-- Names of files and times of records, worked by hand.
use Rattle.std.specs.Prelude.{◌≡◌, codes, true, false, refl}
use Rattle.std.specs.Fmt.{digits}
use Rattle.station_record.specs.KeptFiles.Timestamps.{day_text, time_text}
use Rattle.station_record.specs.KeptFiles.Timestamps as times
use Rattle.std.specs.Path.{rsplit_once}
use Rattle.station_record.specs.KeptFiles.FileWords.{name_of, stem_of}
use Rattle.station_record.specs.KeptFiles.Timestamps.{day_of, day_within, is_leap, timestamp_text}

in_a_folder : (name_of (codes "/a/b.c/d.trace") ≡ codes "d.trace") × ((name_of (codes "d") ≡ codes "d") × (name_of (codes "a/") ≡ codes ""))
unfolding rsplit_once
in_a_folder = (refl, (refl, refl))

stems : (stem_of (codes "a.b/c.d.profile") ≡ codes "c.d") × ((stem_of (codes "a.b/c") ≡ codes "c") × ((stem_of (codes "a/.hidden") ≡ codes ".hidden") × (stem_of (codes "a/.b.c") ≡ codes ".b")))
unfolding rsplit_once
stems = (refl, (refl, (refl, refl)))

leap_years : (is_leap 1972 ≡ true) × ((is_leap 1973 ≡ false) × ((is_leap 2000 ≡ true) × (is_leap 2100 ≡ false)))
leap_years = (refl, (refl, (refl, refl)))

-- the first day, the last of a February, and the first of a March
first_days : (day_of 0 ≡ record { year = 1970; month = 1; day = 1 }) × ((day_of 58 ≡ record { year = 1970; month = 2; day = 28 }) × (day_of 59 ≡ record { year = 1970; month = 3; day = 1 }))
unfolding day_of
first_days = (refl, (refl, refl))

-- the last day of a year, and the twenty-ninth of February in a leap year
leap_days : (day_of 10956 ≡ record { year = 1999; month = 12; day = 31 }) × ((day_of 11016 ≡ record { year = 2000; month = 2; day = 29 }) × (day_of 11017 ≡ record { year = 2000; month = 3; day = 1 }))
unfolding day_of
leap_days = (refl, (refl, refl))

-- 2100 is no leap year
no_leap_day : (day_of 47540 ≡ record { year = 2100; month = 2; day = 28 }) × (day_of 47541 ≡ record { year = 2100; month = 3; day = 1 })
unfolding day_of
no_leap_day = (refl, refl)

-- 31 December 9999 is the 365th day of the last year, and what is behind it is that day too
last_days : (day_within 1 9999 363 ≡ record { year = 9999; month = 12; day = 30 }) × ((day_within 1 9999 364 ≡ record { year = 9999; month = 12; day = 31 }) × (day_within 1 9999 365 ≡ record { year = 9999; month = 12; day = 31 }))
last_days = (refl, (refl, refl))

first_time : timestamp_text 0 ≡ codes "1970-01-01T00:00:00.000Z"
unfolding digits times.digits day_of day_text time_text
first_time = refl

later_times : (timestamp_text 951782399999 ≡ codes "2000-02-28T23:59:59.999Z") × (timestamp_text 1700000000123 ≡ codes "2023-11-14T22:13:20.123Z")
unfolding digits times.digits day_of day_text time_text
later_times = (refl, refl)
