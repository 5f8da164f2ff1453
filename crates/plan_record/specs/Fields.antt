-- Document 01, "Plan record (Table C.1)": "Always 66 bytes ..: start 4, end 4, steps 1, cycle word 1, first extra field 4, second extra
-- field 4, then six pairs of volume 4 and price 4."
use Rattle.std.specs.Prelude.{Bool, true, cond, not, List, ◌∷◌, ◌++◌, ℕ, ◌+◌, ◌-◌, ◌*◌, ◌/◌, ltb, get_or}
use Rattle.units.specs.declared.Hundredths.{Hundredths}
use Rattle.units.specs.declared.TenThousandths.{TenThousandths}
use Rattle.units.specs.Volume.{volume, price}
use Rattle.plan.specs.declared.Plan.{Plan}
use Rattle.plan.specs.Plan.{six, width_at, price_at, has_extra}
use Rattle.plan_record.specs.Digits.{quad_at, four_bytes}

-- "Always 66 bytes"
abbrev pub record_length : ℕ
record_length = 66

-- the fields of a record as it stands, read or not
abbrev pub widths_of : List ℕ → List Hundredths
widths_of s = six (λ i. volume (quad_at s (18 + 8 * i)))

abbrev pub prices_of : List ℕ → List TenThousandths
prices_of s = six (λ i. price (quad_at s (22 + 8 * i)))

unfoldable pub fields_of : List ℕ → Plan
fields_of s = record {
  start = quad_at s 0;
  end = quad_at s 4;
  steps = get_or s 8 0;
  word = get_or s 9 0;
  extra_1 = quad_at s 10;
  extra_2 = quad_at s 14;
  widths = widths_of s;
  prices = prices_of s;
}

-- two numbers in bytes, one behind the other
unfoldable pub eight_bytes : ℕ → ℕ → List ℕ
eight_bytes x y = four_bytes x ++ four_bytes y

-- pair i in bytes: volume 4, price 4
abbrev pub pair_bytes : Plan → ℕ → List ℕ
pair_bytes p i = eight_bytes (width_at p i) (price_at p i)

-- a plan in bytes, every field of it
unfoldable pub bytes_of : Plan → List ℕ
bytes_of p =
    eight_bytes p.start p.end ++ (p.steps ∷ p.word ∷ (eight_bytes p.extra_1 p.extra_2
    ++ (pair_bytes p 0 ++ (pair_bytes p 1 ++ (pair_bytes p 2 ++ (pair_bytes p 3 ++ (pair_bytes p 4 ++ pair_bytes p 5)))))))

-- whether byte i of a record is read, for a plan with its fields: dates and steps always; the cycle word with two steps or more; the
-- extra fields with words 04 and 05; pair k below n
unfoldable pub byte_read : Plan → ℕ → Bool
byte_read p i =
    cond (ltb i 9) true
    (cond (ltb i 10) (not (ltb p.steps 2))
    (cond (ltb i 18) (has_extra p) (ltb ((i - 18) / 8) p.steps)))
