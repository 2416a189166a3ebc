-- The status of the program where no device is found.
use Rattle.std.specs.Prelude.{ℕ}
use Rattle.identity_search.specs.declared.fault.SearchFault.{SearchFault}
use Rattle.identity_search.specs.declared.fault.SearchFault.TheVariants as search

abbrev pub search_status : SearchFault → ℕ
search_status search.NoAnswer = 1
search_status search.Output = 1
search_status search.Socket = 5
search_status search.OutOfMemory = 7
