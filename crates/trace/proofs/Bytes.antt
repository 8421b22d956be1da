-- A map byte tells its fields, and no other byte tells them.
use Rattle.std.proofs.Common.{◌≡◌, ℕ, zero, suc, ◌+◌, ◌-◌, ◌*◌, ◌/◌, ◌%◌, ◌^◌, ◌<◌, ◌≤◌, Bool, if◌then◌else◌, nat_eq, nat_lt, Some, Ok, Err, Option, ◌∙◌, arith}
use Rattle.std.proofs.lemmas.Bool.Decides.{nat_tests}
use Rattle.trace.specs.Layouts.{Fields, bit, byte_of, cells_of}
use Rattle.trace.specs.Reading.{reads_in, without_gap, layout_at}
use Rattle.trace.specs.declared.fault.ReadCause.TheVariants.{HighBit}

abbrev Tells : Fields → Type 0
Tells y = layout_at (byte_of y) ≡ Ok y

byte_told : (o w : Bool) (n : ℕ) → n ≤ 5 → 0 < bit w + n → Tells (record { operator = o; written = w; reads = n })
byte_told o w zero h some = grind arith
byte_told o w (suc zero) h some = grind arith
byte_told o w (suc (suc zero)) h some = grind arith
byte_told o w (suc (suc (suc zero))) h some = grind arith
byte_told o w (suc (suc (suc (suc zero)))) h some = grind arith
byte_told o w (suc (suc (suc (suc (suc zero))))) h some = grind arith
byte_told o w (suc (suc (suc (suc (suc (suc n)))))) h some = absurd (omega arith)

-- the map byte of fields that a record can have tells these fields
pub byte_tells : (y : Fields) → y.reads ≤ 5 → 0 < cells_of y → Tells y
byte_tells y h some = byte_told y.operator y.written y.reads h some

reads_told : (r n : ℕ) → reads_in r ≡ Some n → (r ≡ 2 ^ n - 1) × (n ≤ 5)
reads_told r n e = grind (arith, nat_tests)

bits_are : (b : ℕ) → b ≡ bit (nat_eq (b % 2) 1) + (2 * bit (nat_eq (b / 2 % 2) 1) + 4 * (b / 4))
bits_are b = grind (arith, nat_tests)

-- what a byte tells where its read bits tell o
parts_told : (b : ℕ) (y : Fields) (high : Bool) (o : Option ℕ) → (if high then Err HighBit else without_gap b o) ≡ Ok y → (o ≡ Some y.reads) × (nat_eq (b % 2) 1 ≡ y.operator) × (nat_eq (b / 2 % 2) 1 ≡ y.written) × (0 < cells_of y)
parts_told b y high o e = grind (arith, nat_tests)

-- a byte that tells fields is their map byte
pub record Told (b : ℕ) (y : Fields) : Type 0 where
  pub byte : b ≡ byte_of y
  pub few : y.reads ≤ 5
  pub some : 0 < cells_of y

pub byte_from : (b : ℕ) (y : Fields) → layout_at b ≡ Ok y → Told b y
byte_from b y e =
    let (told, operator, written, some) = parts_told b y (nat_lt 127 b) (reads_in (b / 4)) e in
    let (bits, few) = reads_told (b / 4) y.reads told in
    record { byte = bits_are b ∙ (λ j. bit (operator j) + (2 * bit (written j) + 4 * bits j)); few = few; some = some }
