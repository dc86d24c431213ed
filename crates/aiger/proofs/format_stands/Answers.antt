use Rattle.aiger.proofs.Accepted.{accepted}
use Rattle.aiger.proofs.Beginnings.{breaks_for_good, ends_early}
use Rattle.aiger.proofs.Examples.{examples}
use Rattle.aiger.proofs.Faults.{faults_placed}
use Rattle.aiger.proofs.Sizes.{short_text}
use Rattle.aiger.proofs.Written.{written}
use Rattle.aiger.proofs.format_stands.Goals as goal

pub returns : goal.returns
returns c =
    record {
      only = λ t d e. let h = accepted t d e in (h.written, h.is_lawful);
      back = written;
      short = short_text;
      places = faults_placed;
      breaks = breaks_for_good;
      early = ends_early;
      examples = examples;
    }
