-- Numbers in at least so many digits, as they are formatted, and the years of a day.
use Rattle.std.proofs.Common.{◌≡◌, ℕ, suc, ◌+◌, ◌-◌, ◌^◌, ◌/◌, ◌%◌, true, false, ◌++◌, length, append-nil, ap, ◌∙◌, arith}
use Rattle.std.specs.Prelude.{List, codes, decimal, nat_lt, replicate}
use Rattle.std.proofs.lemmas.Bool.{cond-true, cond-false}
use Rattle.std.specs.Fmt.{char_count, format_spec, padded_integral, styled_decimal}
use Rattle.station_record.specs.declared.kept_files.timestamp.Day.{Day}
use Rattle.station_record.specs.KeptFiles.Timestamps.{day_among, day_text, day_within, digits, month_lens, time_text, year_len}

no_less : (a : ℕ) → a - 0 - 0 ≡ a
no_less a = omega arith

-- {:02}, {:03} and {:04} of a number
pub two_padded : (n : ℕ) → styled_decimal (format_spec 32 0 4 2 (2 ^ 64 - 1)) n ≡ digits 2 n
unfolding padded_integral digits char_count
two_padded n = λ t. replicate (no_less (2 - length (decimal n)) t) 48 ++ append-nil (decimal n) t

pub three_padded : (n : ℕ) → styled_decimal (format_spec 32 0 4 3 (2 ^ 64 - 1)) n ≡ digits 3 n
unfolding padded_integral digits char_count
three_padded n = λ t. replicate (no_less (3 - length (decimal n)) t) 48 ++ append-nil (decimal n) t

pub four_padded : (n : ℕ) → styled_decimal (format_spec 32 0 4 4 (2 ^ 64 - 1)) n ≡ digits 4 n
unfolding padded_integral digits char_count
four_padded n = λ t. replicate (no_less (4 - length (decimal n)) t) 48 ++ append-nil (decimal n) t

-- a day, of the texts of its parts
pub day_padded : (year month day : List ℕ) (given : Day)
    → year ≡ digits 4 given.year → month ≡ digits 2 given.month → day ≡ digits 2 given.day
    → year ++ (codes "-" ++ (month ++ (codes "-" ++ day))) ≡ day_text given
unfolding day_text
day_padded year month day given y m d = λ t. y t ++ (codes "-" ++ (m t ++ (codes "-" ++ d t)))

-- a time, of the texts of its parts
pub time_padded : (hour minute second rest : List ℕ) (ms : ℕ)
    → hour ≡ digits 2 (ms / 3600000 % 24) → minute ≡ digits 2 (ms / 60000 % 60) → second ≡ digits 2 (ms / 1000 % 60) → rest ≡ digits 3 (ms % 1000)
    → codes "T" ++ (hour ++ (codes ":" ++ (minute ++ (codes ":" ++ (second ++ (codes "." ++ (rest ++ codes "Z"))))))) ≡ time_text ms
unfolding time_text
time_padded hour minute second rest ms h m s r =
    λ t. codes "T" ++ (h t ++ (codes ":" ++ (m t ++ (codes ":" ++ (s t ++ (codes "." ++ (r t ++ codes "Z")))))))

-- the day is in the first of the years
pub in_year : (more left year days : ℕ) → more ≡ suc left → nat_lt days (year_len year) ≡ true → day_within more year days ≡ day_among year 1 (month_lens year) days
in_year more left year days is within = ap (λ n. day_within n year days) is ∙ cond-true _ _ _ within

-- it is in one behind it
pub behind_year : (more left year days : ℕ) → more ≡ suc left → nat_lt days (year_len year) ≡ false → day_within more year days ≡ day_within left (year + 1) (days - year_len year)
behind_year more left year days is over = ap (λ n. day_within n year days) is ∙ cond-false _ _ _ over

-- there is no year left
pub in_no_year : (more year days : ℕ) → more ≡ 0 → day_within more year days ≡ record { year = 9999; month = 12; day = 31 }
in_no_year more year days is = ap (λ n. day_within n year days) is
