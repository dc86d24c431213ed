-- The definitions compute: a `refl` for each entry.
use mathlib.Core.Path.{refl}
use Rattle.drawing.specs.Reach.{reach}
use Rattle.cuts.specs.Cuts.{closes, closes_fanins, cut, least, least_cuts}
use Rattle.choice.specs.Choice.{best, taken_cut, cells}
use Rattle.cells.specs.Truth.{table_of}
use Rattle.covering.specs.Chosen.{chosen}
use Rattle.covering.specs.Times.{cover_arrival}
use Rattle.aiger.specs.Reads.{scan, read_lines, read_word, read}
use Rattle.figures.specs.Figures.{FiguresHold}

pub figures_hold : FiguresHold
unfolding reach closes closes_fanins cut least least_cuts best taken_cut cells table_of chosen cover_arrival scan read_lines read_word read
figures_hold = (refl, (refl, (refl, (refl, (refl, (refl, (refl, (refl, (refl, (refl, (refl, (refl, (refl, (refl, (refl, tt)))))))))))))))
