use Rattle.std.proofs.Common.{◌≡◌, ℕ, ◌*◌, ◌%◌, ◌^◌, ◌<◌, ◌≤◌, List, get_or, fold, reverse, sym, ◌∙◌, subst, rules}
use lib.Bits.{bit_or}
use Rattle.std.proofs.lemmas.Iterator.Adapters.{YieldsList-from_rev_slice}
use Rattle.std.proofs.lemmas.Iterator.Consumers.{fold_from_yields_List}
use Rattle.cells.specs.Limits.{table_bits}
use Rattle.cells.specs.Netlist.{plain, row_of}
use Rattle.cells.proofs.LeafRows.{row_few, row_folded}
use Rattle.cells.proofs.cover.evaluate.Values.row.Goals as goal

pub returns : goal.returns
returns c =
    let f : ℕ → ℕ = λ l. get_or c.args.self.now.bits l 0 in
    let small : (l : ℕ) → f l ≤ 1 = c.args.self.now.small in
    let ls : List ℕ = c.args.leaves.now in
    let e : c.fold.result ≡ fold (λ m l. bit_or (m * 2 % 2 ^ 32) (f (plain l))) 0 (reverse ls) =
    fold_from_yields_List _ (λ m l. bit_or (m * 2 % 2 ^ 32) (f (plain l))) 0 c.fold.result c.fold.ensures.ran (YieldsList-from_rev_slice ls (cc)) (λ a x b q k. search rules) in
    let r : c.fold.result ≡ row_of f ls = e ∙ row_folded f small ls c.requires in
    record { is = r; there = subst (λ (x : ℕ). x < table_bits) (sym r) (row_few f small ls c.requires) }
