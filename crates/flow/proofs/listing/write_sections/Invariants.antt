use Rattle.blif.specs.Text.{texts}
use Rattle.cells.specs.Netlists.{netlist_of}
use Rattle.flow.proofs.Joining.{Written}
use Rattle.flow.proofs.listing.write_sections.Given as goal

abbrev pub invariant-loop-section : goal.invariant-loop-section
invariant-loop-section l = Written (texts (netlist_of l.cover)) l.section l.at l.initial.out l.out
