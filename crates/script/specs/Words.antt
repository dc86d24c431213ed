-- What a number or a family's name is written as has no space in it.
use Rattle.std.specs.Prelude.{◌≡◌, ℕ, ◌<◌, ◌^◌, true, List, [], ◌∷◌, decimal, refl}
use Rattle.std.proofs.Common.{rules, arith}
use Rattle.std.proofs.lemmas.Bool.{and_parts, and_from}
use Rattle.std.proofs.lemmas.Str.Parse.{numerals_by_value}
use Rattle.std.proofs.lemmas.Fmt.{digits_decimal}
use Rattle.std.specs.Char.{is_ascii_digit}
use Rattle.script.specs.declared.command.Kind.{Kind}
use Rattle.script.specs.declared.command.Kind.TheVariants.{Levels, Pins}
use Rattle.script.specs.Fields.{are_digits, IsByte, IsLiteral}
use Rattle.script.specs.Names.{is_word, kind_name}

-- digits have no space among them
digits_word : (ds : List ℕ) → are_digits ds ≡ true → is_word ds ≡ true
digits_word [] h = refl
digits_word (d ∷ ds) h =
    let p = and_parts (is_ascii_digit d) (are_digits ds) h in
    let q : is_ascii_digit d ≡ true = p.0 in
    and_from _ _ (search rules) (digits_word ds p.1)

-- a number is one word
number_word : (n : ℕ) → n < 2 ^ 64 → is_word (decimal n) ≡ true
number_word n small = digits_word (decimal n) (digits_decimal (numerals_by_value (λ ds. are_digits ds ≡ true) (search rules)) n small)

-- a number of 8 bits is one word
pub byte_word : (n : ℕ) → IsByte n → is_word (decimal n) ≡ true
byte_word n small = number_word n (omega arith)

-- a number of 16 bits is one word
pub literal_word : (n : ℕ) → IsLiteral n → is_word (decimal n) ≡ true
literal_word n small = number_word n (omega arith)

-- the name of a family is one word
pub kind_word : (k : Kind) → Unit {0} → is_word (kind_name k) ≡ true
kind_word Levels u = refl
kind_word Pins u = refl
