use Rattle.cuts.proofs.Apart.{lists_apart}
use Rattle.cuts.proofs.Enumerate.{lists_join}
use Rattle.cuts.proofs.Leaves.{leaves_of_lists}
use Rattle.cuts.proofs.Survive.{survivors_are}
use Rattle.cuts.proofs.lists_stand.Goals as goal

pub returns : goal.returns
returns c = record { joined = lists_join; leaves = leaves_of_lists; survivors = survivors_are; apart = lists_apart }
