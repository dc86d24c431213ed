use Rattle.std.proofs.Common.{◌≡◌, ℕ, true, ◌<◌, length, get_or, refl, rules}
use Rattle.std.specs.Char.{is_ascii_digit}
use Rattle.script.proofs.Scans.{every_each}
use Rattle.script.proofs.fields.row.Goals as goal

pub returns : goal.returns
returns c =
    let each : (k : ℕ) → k < length c.args.text.now → is_ascii_digit (get_or c.args.text.now k 0) ≡ true = search rules in
    ((search rules, every_each is_ascii_digit c.args.text.now 0 each), refl)
