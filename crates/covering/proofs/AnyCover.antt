-- No lawful cover of the drawing whose cells have at most k leaves is earlier than the best arrivals.
use Rattle.std.proofs.Common.{◌≡◌, ℕ, ◌<◌, ◌≤◌, true, false, eqb, ltb, List, [], ◌∷◌, map, length, get_or, take, sym, refl, ap, ◌∙◌, subst, inl, inr, ⊎_elim, arith}
use Rattle.std.specs.List.{range_with_len}
use Rattle.std.proofs.lemmas.List.FromFn.{get_or-map-range_with_len}
use Rattle.std.proofs.lemmas.List.{get_or-take}
use Rattle.std.proofs.lemmas.Bool.{and_parts, and_from, or_cases, not-true, both_ways, eqb-true, eq-eqb, ltb-true, lt-ltb, cond-true, cond_both, cases_Bool}
use Rattle.drawing.specs.declared.node.Node.{Node}
use Rattle.drawing.specs.Sets.{mem, rises, keep, In}
use Rattle.drawing.specs.Drawing.{drawing, at, node_of, is_gate, sound, most_leaves}
use Rattle.drawing.specs.Values.{inputs_of}
use Rattle.drawing.proofs.Members.{in_mem, mem_in, every_in, map_in, map_same}
use Rattle.drawing.proofs.SetLaws.{Sub, mem_keep, rises_keep, part_length, says_sub, below_says}
use Rattle.drawing.proofs.Sound.{fanins_below_lem, kind_above, sound_some}
use Rattle.drawing.proofs.InputLaws.{input_at, input_listed, inputs_below}
use Rattle.drawing.proofs.ValueLaws.{first_constant}
use Rattle.cuts.specs.Cuts.{closes}
use Rattle.cuts.proofs.Closing.{zeroth, member, through, closes_range, closes_ways, closes_more}
use Rattle.cuts.proofs.LeastCuts.{Cut}
use Rattle.family.specs.Family.{Delay, Laws, latest, cell_arrival}
use Rattle.family.proofs.Latest.{cell_not_later}
use Rattle.choice.specs.Choice.{best}
use Rattle.choice.proofs.Optimal.{best_plain, best_by_cut}
use Rattle.cells.specs.declared.cell.Cell.{Cell}
use Rattle.cells.specs.Netlist.{Netlist, leaves_of, plain, root_name}
use Rattle.cells.specs.Laws.{cells_lawful, cell_lawful, names_after, names_of, output_lawful, lawful_cover}
use Rattle.cells.specs.Covers.{AllSuit, Suits, Covers}
use Rattle.cells.proofs.Laws.{CellLaws, cell_says, cover_says}
use Rattle.covering.specs.Times.{time_at, cell_time, times_after, cover_arrival}

-- the leaves below the root alone are a cut of it, if the root is none of them
part_cut : (nodes : List Node) (v : ℕ) (ls : List ℕ) → sound nodes ≡ true → 0 < v → rises 0 ls ≡ true → closes nodes ls v ≡ true → mem v ls ≡ false → Cut nodes v (keep (λ u. ltb u v) ls)
part_cut nodes v ls d p up h out = record {
  rising = rises_keep (λ u. ltb u v) 0 ls up;
  under = λ u m. ltb-true u v (and_parts (mem u ls) (ltb u v) (sym (mem_keep (λ x. ltb x v) u ls) ∙ m)).1;
  closed = λ f i.
      let b = fanins_below_lem nodes v f d (closes_range nodes ls v h) i in
      closes_more nodes ls (keep (λ u. ltb u v) ls) f d
      (λ u l m. mem_keep (λ x. ltb x v) u ls ∙ and_from _ _ m (lt-ltb u v (omega arith)))
      (elim (closes_ways nodes ls v d h) [
        | zeroth e ↦ absurd (omega arith)
        | member m ↦ absurd (both_ways (mem v ls) out m)
        | through g c ↦ c f i
      ]);
}

module _ {A : Type 0} (F : Delay A) (L : Laws F) (nodes : List Node) (d : sound nodes ≡ true) (k : ℕ) (few : k ≤ most_leaves) where
  abbrev earliest : ℕ → A
  earliest u = get_or (best F nodes k) u F.start

  -- a name's node is in the drawing, stands at most at m if it is a gate, and is not earlier than the best
  pub record Late (m : ℕ) (times : List (ℕ × A)) (u : ℕ) : Type 0 where
    pub range : u < length nodes
    pub past : is_gate (at nodes u) ≡ true → u ≤ m
    pub after : F.not_later (earliest u) (time_at F times u) ≡ true

  abbrev AllLate : ℕ → List (ℕ × A) → List ℕ → Type 0
  AllLate m times names = (u : ℕ) → mem (plain u) names ≡ true → Late m times u

  late_input : (m u : ℕ) (times : List (ℕ × A)) → u < length nodes → is_gate (at nodes u) ≡ false → Late m times u
  late_input m u times l g = record {
    range = l;
    past = λ h. absurd (both_ways _ g h);
    after = subst (λ x. F.not_later x (time_at F times u) ≡ true) (sym (best_plain F L nodes k u l g)) (L.first _);
  }

  module _ (inputs names : List ℕ) (same : inputs ≡ inputs_of nodes) (m : ℕ) (times : List (ℕ × A)) (late : AllLate m times names) (c : Cell) (above : m < c.root) (law : cell_lawful inputs names c ≡ true) (suits : Suits nodes c) (narrow : length (leaves_of c) ≤ k) where
    abbrev root : ℕ
    root = c.root

    abbrev leaves : List ℕ
    leaves = leaves_of c

    laws : CellLaws inputs names c
    laws = cell_says inputs names c law

    leaf_late : (u : ℕ) → mem u leaves ≡ true → Late m times u
    leaf_late u i = late u (every_in (λ x. mem (plain x) names) u leaves laws.leaves_known (mem_in u leaves i))

    root_range : root < length nodes
    root_range = closes_range nodes leaves root suits.closing

    root_gate : is_gate (at nodes root) ≡ true
    root_gate =
        ⊎_elim (λ e. absurd (both_ways _ (not-true _ laws.fresh) (ap (mem root) same ∙ input_listed nodes root e))) (λ g. g) (kind_above nodes root d root_range (omega arith))

    root_out : mem root leaves ≡ false
    root_out = ⊎_elim (λ i. absurd (omega (arith, (leaf_late root i).past root_gate))) (λ i. i) (cases_Bool (mem root leaves))

    -- the arrivals so far, by node
    abbrev table : List A
    table = map (time_at F times) (range_with_len 0 (length nodes))

    table_at : (u : ℕ) → u < length nodes → get_or table u F.start ≡ time_at F times u
    table_at u l = get_or-map-range_with_len (time_at F times) 0 (length nodes) u u F.start l (omega arith)

    root_late : F.not_later (earliest root) (cell_time F times c) ≡ true
    root_late =
        let part = keep (λ u. ltb u root) leaves in
        let lower = take root (best F nodes k) in
        let cut_r = part_cut nodes root leaves d (omega arith) laws.rising suits.closing root_out in
        let inside : Sub part leaves = λ u i. (and_parts (mem u leaves) _ (sym (mem_keep (λ x. ltb x root) u leaves) ∙ i)).0 in
        let shorter = part_length 0 0 part leaves cut_r.rising laws.rising inside in
        let time : cell_arrival F table leaves ≡ cell_time F times c =
        ap (λ ts. F.result (latest F ts) (length leaves)) (map_same (λ u. get_or table u F.start) (time_at F times) leaves (λ u i. table_at u (leaf_late u (in_mem u leaves i)).range)) in
        subst (λ x. F.not_later (earliest root) x ≡ true) time
        (L.trans _ _ _
        (best_by_cut F L nodes k few root part root_range root_gate cut_r (omega arith))
        (cell_not_later F L lower table part leaves shorter (omega arith) (says_sub part leaves inside)
        (λ u i.
        let t = leaf_late u (inside u i) in
        subst (λ x. F.not_later x (get_or table u F.start) ≡ true) (sym (get_or-take root (best F nodes k) u F.start (cut_r.under u i)))
        (subst (λ x. F.not_later (earliest u) x ≡ true) (sym (table_at u t.range)) t.after))))

    late_more : AllLate root ((root, cell_time F times c) ∷ times) (root_name c ∷ names)
    late_more u i =
        ⊎_elim
        (λ e.
        let same' : root ≡ u = omega (arith, eqb-true (plain u) (root_name c) e) in
        subst (Late root ((root, cell_time F times c) ∷ times)) same' record {
          range = root_range;
          past = λ _. omega arith;
          after = subst (λ x. F.not_later (earliest root) x ≡ true) (sym (cond-true (eqb root root) (cell_time F times c) _ (eq-eqb root root refl))) root_late;
        })
        (λ j.
        let t = late u j in
        record {
          range = t.range;
          past = λ g. omega (arith, t.past g);
          after = cond_both (eqb root u) (cell_time F times c) (time_at F times u) (λ x. F.not_later (earliest u) x ≡ true) (λ e. subst (λ w. F.not_later (earliest w) (cell_time F times c) ≡ true) (eqb-true root u e) root_late) (λ _. t.after);
        })
        (or_cases (eqb (plain u) (root_name c)) (mem (plain u) names) i)

  all_late : (inputs names : List ℕ) → inputs ≡ inputs_of nodes → (m : ℕ) (times : List (ℕ × A)) (cs : List Cell) → AllLate m times names → rises m (map (λ c. c.root) cs) ≡ true → cells_lawful inputs names cs ≡ true → AllSuit nodes cs → ((c : Cell) → In c cs → length (leaves_of c) ≤ k) → (u : ℕ) → mem (plain u) (names_after names cs) ≡ true → F.not_later (earliest u) (time_at F (times_after F times cs) u) ≡ true
  all_late inputs names same m times [] late up law suit narrow u i = (late u i).after
  all_late inputs names same m times (c ∷ cs) late up law suit narrow u i =
      let p = and_parts (cell_lawful inputs names c) (cells_lawful inputs (root_name c ∷ names) cs) law in
      let r = and_parts (ltb m c.root) (rises c.root (map (λ x. x.root) cs)) up in
      all_late inputs (root_name c ∷ names) same c.root ((c.root, cell_time F times c) ∷ times) cs
      (late_more inputs names same m times late c (ltb-true m c.root r.0) p.0 (suit c (inl refl)) (narrow c (inl refl)))
      r.1 p.1 (λ x j. suit x (inr j)) (λ x j. narrow x (inr j)) u i

  inputs_late : (inputs : List ℕ) → inputs ≡ inputs_of nodes → AllLate 0 [] (map plain inputs)
  inputs_late inputs same u i =
      let r = map_in plain (plain u) inputs (mem_in (plain u) (map plain inputs) i) in
      let e : r.0 ≡ u = omega (arith, r.2) in
      let m : mem u (inputs_of nodes) ≡ true = sym (ap (mem u) same) ∙ in_mem u inputs (subst (λ x. In x inputs) e r.1) in
      late_input 0 u [] (below_says (length nodes) (inputs_of nodes) u (inputs_below nodes) m) (ap is_gate (input_at nodes u m))

  -- at each output the best is not later than a lawful cover
  pub cover_late : (outs : List ℕ) (n : Netlist) → lawful_cover n ≡ true → Covers (drawing nodes outs) n → ((c : Cell) → In c n.cells → length (leaves_of c) ≤ k) → (o : ℕ) → In o outs → F.not_later (get_or (best F nodes k) (node_of o) F.start) (cover_arrival F n (node_of o)) ≡ true
  unfolding cover_arrival
  cover_late outs n law C narrow o i =
      let l = cover_says n law in
      let named = every_in (output_lawful (names_of n)) o n.outputs l.outputs_lawful (subst (In o) (sym C.same_outputs) i) in
      ⊎_elim
      (λ z.
      let e = eqb-true (node_of o) 0 z in
      (late_input 0 (node_of o) (times_after F [] n.cells) (omega (arith, sound_some nodes d)) (ap (λ v. is_gate (at nodes v)) e ∙ ap is_gate (first_constant nodes d))).after)
      (λ z. all_late n.inputs (map plain n.inputs) C.same_inputs 0 [] n.cells (inputs_late n.inputs C.same_inputs) (and_parts _ _ l.roots_numbered).0 l.cells_lawful_lem C.suit narrow (node_of o) z)
      (or_cases (eqb (node_of o) 0) (mem (plain (node_of o)) (names_of n)) named)
