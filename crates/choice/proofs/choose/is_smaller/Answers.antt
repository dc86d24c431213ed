use Rattle.std.proofs.Common.{◌∙◌, ap₂}
use Rattle.choice.specs.Choice.{smaller}
use Rattle.choice.proofs.Choosing.{smaller_tested}
use Rattle.choice.proofs.choose.is_smaller.Goals as goal

pub returns : goal.returns
returns c = c.lt.ensures ∙ smaller_tested c.leaves-a.result.now c.leaves-b.result.now ∙ ap₂ smaller c.leaves-a.ensures c.leaves-b.ensures
