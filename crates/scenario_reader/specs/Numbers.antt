-- Numbers of the form: members that are numbers, and numbers in the texts of the schedule.
use Rattle.std.specs.Prelude.{ℕ, ◌+◌, ◌-◌, ◌*◌, ◌^◌, ◌&&◌, min, nat_le, nat_lt, Bool, false, if◌then◌else◌, ℤ, List, [], ◌∷◌, Option, Some, None, option_and_then, Ok}
use Rattle.std.specs.List.{list_all}
use Rattle.serde_json.specs.Data.{Data}
use Rattle.serde_json.specs.Find.{as_number, as_u64, as_i64}
use Rattle.scenario_reader.specs.Faults.{Outcome, wrong_shape, beyond}

-- a number of a range
abbrev pub in_range : ℕ → ℕ → ℕ → Outcome ℕ
in_range least most n = if nat_lt n least then beyond least else (if nat_lt most n then beyond most else Ok n)

-- by what it is without a sign, and with one
abbrev pub number_by : ℕ → ℕ → Option ℕ → Option ℤ → Outcome ℕ
number_by least most (Some n) signed = in_range least most n
number_by least most None (Some z) = beyond least
number_by least most None None = wrong_shape

-- a whole number of a range
unfoldable pub number_in : ℕ → ℕ → Data → Outcome ℕ
number_in least most d = number_by least most (option_and_then as_u64 (as_number d)) (option_and_then as_i64 (as_number d))

-- the same of a member that may be left out
unfoldable pub number_or : ℕ → ℕ → ℕ → Option Data → Outcome ℕ
number_or default least most None = Ok default
number_or default least most (Some d) = number_in least most d

abbrev pub is_digit : ℕ → Bool
is_digit c = nat_le 48 c && nat_le c 57

-- a plain decimal number: digits, the first not 0 where others follow
abbrev pub is_plain : List ℕ → Bool
is_plain [] = false
is_plain (c ∷ []) = is_digit c
is_plain (c ∷ cs) = nat_le 49 c && nat_le c 57 && list_all is_digit cs

-- the number that digits write behind those of n
abbrev pub number_after : ℕ → List ℕ → ℕ
number_after n [] = n
number_after n (c ∷ cs) = number_after (n * 10 + (c - 48)) cs

-- the number of a text of digits, up to the greatest of 64 bits
abbrev pub number_of_text : List ℕ → ℕ
number_of_text text = min (number_after 0 text) (2 ^ 64 - 1)

-- a plain decimal number of a range
unfoldable pub plain_number : ℕ → ℕ → List ℕ → Outcome ℕ
plain_number least most text = in_range least most (number_of_text text)
