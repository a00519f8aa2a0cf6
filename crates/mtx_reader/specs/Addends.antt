-- What entries add at places of a matrix, and the places where that makes a one.
use Rattle.std.specs.Prelude.{ℕ, ◌%◌, ℤ, pos, ◌+ℤ◌, unsigned_abs, Bool, ◌==◌, if◌then◌else◌, List, [], ◌∷◌, map, filter}
use Rattle.mtx_reader.specs.declared.banner.Field.{Field}
use Rattle.mtx_reader.specs.declared.banner.Field.TheVariants.{Pattern, Integer}
use Rattle.mtx_reader.specs.Places.{Place, is_same, places_from, places_among}

-- a place, and the number that is added there
abbrev pub Addend : Type 0
Addend = Place × ℤ

-- the sum of the numbers that are added at a place
abbrev pub sum_at : List Addend → Place → ℤ
sum_at [] place = pos 0
sum_at (addend ∷ addends) place = if is_same place addend.0 then addend.1 +ℤ sum_at addends place else sum_at addends place

abbrev pub is_odd : ℤ → Bool
is_odd number = unsigned_abs number % 2 == 1

-- the places of a matrix where the sum is odd, row by row
abbrev pub places_of_odd_sum : ℕ → ℕ → List Addend → List Place
places_of_odd_sum rows columns addends = filter (λ place. is_odd (sum_at addends place)) (places_from 1 rows columns)

-- the places of a matrix over the field of two elements that have a one: in a pattern those that are named, of integers those of an odd sum
abbrev pub ones_among : Field → ℕ → ℕ → List Addend → List Place
ones_among Pattern rows columns addends = places_among rows columns (map (λ (addend : Addend). addend.0) addends)
ones_among Integer rows columns addends = places_of_odd_sum rows columns addends
