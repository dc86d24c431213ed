use Rattle.std.proofs.Common.{length, ap, arith}
use Rattle.cells.specs.declared.cover.Cover.{Cover}
use Rattle.cells.specs.Netlists.{netlist_of}
use Rattle.blif.proofs.Meanings.{means}
use Rattle.blif.proofs.Modelled.{has_meaning}
use Rattle.blif.proofs.Texts.{section_count_lem}
use Rattle.blif.proofs.section.sections.Goals as goal

pub returns : goal.returns
returns c =
    let s : Cover = c.args.cover.now in
    let h = section_count_lem (netlist_of s) in
    let a = ap length c.cells.ensures.is in
    let b = ap length c.outputs.ensures.is in
    record { count = omega arith; means = means (netlist_of s) s.law; stands = has_meaning (netlist_of s) s.law }
