-- The value of the first of several tests that holds.
use Rattle.std.specs.Prelude.{Bool, if◌then◌else◌, List, [], ◌∷◌, Option, Some, None}

-- a test, and the value where it holds
abbrev pub Case : Type 0 → Type 0
Case A = Bool × A

-- the value of the first test that holds, if one does
abbrev pub first_case : {A : Type 0} → List (Case A) → Option A
first_case [] = None
first_case (case ∷ rest) = if case.0 then Some case.1 else first_case rest

-- the same, or another value where none holds
abbrev pub first_case_or : {A : Type 0} → A → List (Case A) → A
first_case_or otherwise [] = otherwise
first_case_or otherwise (case ∷ rest) = if case.0 then case.1 else first_case_or otherwise rest
