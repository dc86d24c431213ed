-- Every leaf of a least cut of a gate is a node that the gate depends on.
use Rattle.std.proofs.Common.{◌≡◌, ℕ, ◌<◌, Bool, true, List, length, sym, refl, ◌∙◌}
use Rattle.std.proofs.lemmas.Bool.{and_parts, and_from}
use Rattle.drawing.specs.declared.node.Node.{Node}
use Rattle.drawing.specs.Sets.{mem, keep}
use Rattle.drawing.specs.Drawing.{sound}
use Rattle.drawing.specs.Reach.{depends}
use Rattle.drawing.proofs.Members.{elem_in}
use Rattle.drawing.proofs.SetLaws.{mem_keep, rises_keep}
use Rattle.drawing.proofs.ReachLaws.{depends_direct, depends_down}
use Rattle.cuts.specs.Cuts.{least_cuts}
use Rattle.cuts.specs.Claims.{LeavesDepend}
use Rattle.cuts.proofs.Closing.{closes_carries}
use Rattle.cuts.proofs.LeastCuts.{Cut, Least, list_in}

module _ (nodes : List Node) (d : sound nodes ≡ true) where
  -- every leaf of a least cut of v is a node that v depends on
  pub leaves_depend : (v : ℕ) (s : List ℕ) → v < length nodes → Least nodes v s → (u : ℕ) → mem u s ≡ true → depends nodes u v ≡ true
  leaves_depend v s lv l u m =
      let D : ℕ → Bool = λ n. depends nodes n v in
      let t = keep D s in
      let c = l.is_cut in
      let cut_t : Cut nodes v t = record {
        rising = rises_keep D 0 s c.rising;
        under = λ n i. c.under n (and_parts (mem n s) _ (sym (mem_keep D n s) ∙ i)).0;
        closed = λ f i. closes_carries nodes nodes d d s t D (λ n a b. (b, refl)) (λ n g a b i. depends_down nodes d v n g b a i) (λ n a b. mem_keep D n s ∙ and_from _ _ b a) f (depends_direct nodes d v f lv i) (c.closed f i);
      } in
      let e = l.smallest t cut_t (λ n i. (and_parts (mem n s) _ (sym (mem_keep D n s) ∙ i)).0) in
      (and_parts (mem u s) _ (sym (mem_keep D u s) ∙ (rw e m))).1

pub leaves_of_lists : LeavesDepend
leaves_of_lists nodes k v u s d l h m = leaves_depend nodes d v s l (list_in nodes k v s (elem_in s (least_cuts nodes k v) h)).0 u m
