-- A rival is a lawful cover of the drawing: the pieces that it is made of, one behind the other, keep the laws.
use Rattle.std.proofs.Common.{◌≡◌, ℕ, zero, suc, ◌+◌, ◌<◌, ◌≤◌, Bool, true, false, cond, eqb, List, [], ◌∷◌, ◌++◌, map, length, sym, refl, ap, ◌∙◌, subst, ⊎_elim, add-one, arith}
use Rattle.std.specs.List.{range_with_len}
use Rattle.std.proofs.lemmas.List.FromFn.{map-range_with_len_more}
use Rattle.std.proofs.lemmas.List.Elements.{filter-append}
use Rattle.std.proofs.lemmas.List.{map-id, map_push, append-nil, length-map}
use Rattle.std.proofs.lemmas.Bool.{and_parts, and_from, or_left, or_right, eq-eqb, cases_Bool, cases_eq}
use Rattle.drawing.specs.declared.node.Node.{Node}
use Rattle.drawing.specs.Sets.{mem, rises, below, keep, In}
use Rattle.drawing.specs.Drawing.{drawing, at, node_of, is_gate, sound, lawful, most_nodes, most_leaves}
use Rattle.drawing.specs.Values.{inputs_of}
use Rattle.drawing.proofs.Members.{in_every, in_mem, mem_in, in_keep, keep_in, in_counting, counting_in, map_in}
use Rattle.drawing.proofs.SetLaws.{rises_mem, says_below, below_more}
use Rattle.drawing.proofs.Sound.{gate_positive, kind_above}
use Rattle.drawing.proofs.InputLaws.{input_listed, gate_no_input, inputs_below, inputs_rise}
use Rattle.drawing.proofs.ValueLaws.{first_constant}
use Rattle.drawing.proofs.Lawful.{lawful_says}
use Rattle.drawing.proofs.Lists.{rises_few}
use Rattle.cuts.proofs.LeastCuts.{cut_says}
use Rattle.choice.specs.Rivals.{Rival}
use Rattle.cells.specs.declared.cell.Cell.{Cell}
use Rattle.cells.specs.Netlist.{Netlist, netlist, with_cell, cell_of, leaves_of, plain}
use Rattle.cells.specs.Laws.{known, output_lawful, roots_of, names_of, lawful_cover}
use Rattle.cells.specs.Covers.{AllSuit, Suits, Covers}
use Rattle.cells.proofs.Laws.{cover_says, says_cover, lawful_cell, gate_lawful}
use Rattle.cells.proofs.Names.{input_named, root_named, gate_suits}
use Rattle.cells.proofs.Agree.{cut_closes}
use Rattle.cells.proofs.Tables.{leaves_of_cell}
use Rattle.covering.specs.Chosen.{cells_by, gates_by, cover_up_to, cover_by}

-- the gates picked: one more number, and that they lie below
module _ (picked : ℕ → Bool) where
  gates_next : (v : ℕ) → gates_by picked (v + 1) ≡ gates_by picked v ++ cond (picked v) (v ∷ []) []
  gates_next v =
      ap (keep picked) (sym (map-id (range_with_len 0 (v + 1))) ∙ map-range_with_len_more (λ x. x) 0 v v (omega arith) ∙ ap (λ z. z ++ v ∷ []) (map-id (range_with_len 0 v)))
      ∙ filter-append picked (range_with_len 0 v) (v ∷ [])

  pub gates_more : (v : ℕ) → picked v ≡ true → gates_by picked (v + 1) ≡ gates_by picked v ++ v ∷ []
  gates_more v h = gates_next v ∙ ap (λ b. gates_by picked v ++ cond b (v ∷ []) []) h

  pub gates_skip : (v : ℕ) → picked v ≡ false → gates_by picked (v + 1) ≡ gates_by picked v
  gates_skip v h = gates_next v ∙ ap (λ b. gates_by picked v ++ cond b (v ∷ []) []) h ∙ append-nil (gates_by picked v)

  pub gates_under : (v : ℕ) → below v (gates_by picked v) ≡ true
  gates_under v = says_below v (gates_by picked v) (λ u m. omega (arith, counting_in 0 v u (keep_in picked u (range_with_len 0 v) (mem_in u _ m)).0))

  pub gate_listed : (u v : ℕ) → u < v → picked u ≡ true → mem u (gates_by picked v) ≡ true
  gate_listed u v l h = in_mem u _ (in_keep picked u (range_with_len 0 v) (in_counting 0 v u (omega arith) (omega arith)) h)

-- the roots of the cells are the gates
pub roots_by : (nodes : List Node) (given : ℕ → List ℕ) (us : List ℕ) → map (λ c. c.root) (cells_by nodes given us) ≡ us
roots_by nodes given [] = refl
roots_by nodes given (u ∷ us) = ap (λ xs. u ∷ xs) (roots_by nodes given us)

-- one cell more, or none
module _ (nodes : List Node) (picked : ℕ → Bool) (given : ℕ → List ℕ) (v : ℕ) where
  pub upto_more : picked v ≡ true → cover_up_to nodes picked given (v + 1) ≡ with_cell (cover_up_to nodes picked given v) (cell_of nodes v (given v))
  upto_more h =
      ap (λ cs. netlist (inputs_of nodes) cs [])
      (ap (cells_by nodes given) (gates_more picked v h) ∙ map_push (λ u. cell_of nodes u (given u)) (gates_by picked v) v)

  pub upto_skip : picked v ≡ false → cover_up_to nodes picked given (v + 1) ≡ cover_up_to nodes picked given v
  upto_skip h = ap (λ us. netlist (inputs_of nodes) (cells_by nodes given us) []) (gates_skip picked v h)

module _ (nodes : List Node) (outs : List ℕ) (k : ℕ) (picked : ℕ → Bool) (given : ℕ → List ℕ) (d : sound nodes ≡ true) (few : k ≤ most_leaves) (R : Rival nodes outs k picked given) where
  abbrev up_to : ℕ → Netlist
  up_to v = cover_up_to nodes picked given v

  -- a node above node 0 has a name in the cover, if it is an input or a gate picked before
  named : (u v : ℕ) → 0 < u → u < v → u < length nodes → (is_gate (at nodes u) ≡ true → picked u ≡ true) → mem (plain u) (names_of (up_to v)) ≡ true
  named u v p l r h =
      ⊎_elim
      (λ e. input_named (up_to v) u (input_listed nodes u e))
      (λ g. root_named (up_to v) u (ap (mem u) (roots_by nodes given (gates_by picked v)) ∙ gate_listed picked u v l (h g)))
      (kind_above nodes u d r p)

  -- what the piece at a gate picked needs
  module _ (v : ℕ) (here : picked v ≡ true) where
    pub piece_positive : 0 < v
    piece_positive = gate_positive nodes v d (R.gates v here).1

    pub piece_above : below v (roots_of (up_to v)) ≡ true
    piece_above = ap (below v) (roots_by nodes given (gates_by picked v)) ∙ gates_under picked v

    pub piece_fresh : mem v (inputs_of nodes) ≡ false
    piece_fresh = gate_no_input nodes v (R.gates v here).1

    pub piece_few : length (given v) ≤ most_leaves
    piece_few = omega (arith, (R.cuts v here).1)

    pub piece_rising : rises 0 (given v) ≡ true
    piece_rising = (cut_says nodes v (given v) (R.cuts v here).0).rising

    pub piece_known : known (names_of (up_to v)) (given v) ≡ true
    piece_known =
        in_every (λ u. mem (plain u) (names_of (up_to v))) (given v)
        (λ u i.
        let c = cut_says nodes v (given v) (R.cuts v here).0 in
        let m = in_mem u (given v) i in
        let l = c.under u m in
        named u v (rises_mem 0 (given v) u c.rising m) l (omega (arith, (R.gates v here).0)) (R.leaves v u here m))

    piece_suits : Suits nodes (cell_of nodes v (given v))
    piece_suits = gate_suits nodes v (given v) (cut_closes nodes v (given v) d (R.gates v here).0 (R.gates v here).1 (R.cuts v here).0)

  -- the cover is lawful as far as it goes
  pub lawful_upto : (v : ℕ) → length nodes ≤ most_nodes → lawful_cover (up_to v) ≡ true
  lawful_upto zero most =
      says_cover (up_to 0) record {
        inputs_numbered = and_from _ _ (inputs_rise nodes (first_constant nodes d)) (below_more (length nodes) most_nodes (inputs_of nodes) most (inputs_below nodes));
        roots_numbered = refl;
        cells_lawful_lem = refl;
        outputs_lawful = refl;
      }
  lawful_upto (suc v) most =
      let h = lawful_upto v most in
      subst (λ n. lawful_cover (up_to n) ≡ true) (add-one v)
      (⊎_elim
      (λ (p : picked v ≡ true).
      ap lawful_cover (upto_more nodes picked given v p)
      ∙ lawful_cell (up_to v) (cell_of nodes v (given v)) h (piece_positive v p) (omega (arith, (R.gates v p).0)) (piece_above v p)
      (gate_lawful (inputs_of nodes) (names_of (up_to v)) nodes v (given v) (piece_few v p) (piece_fresh v p) (piece_rising v p) (piece_known v p)))
      (λ (p : picked v ≡ false). ap lawful_cover (upto_skip nodes picked given v p) ∙ h)
      (cases_Bool (picked v)))

  -- there is room for one more
  pub piece_room : (v : ℕ) → picked v ≡ true → length nodes ≤ most_nodes → length (up_to v).cells < v
  piece_room v p most =
      omega (arith, rises_few 0 v (roots_of (up_to v)) (piece_positive v p) (and_parts _ _ (cover_says (up_to v) (lawful_upto v most)).roots_numbered).0 (piece_above v p), length-map (up_to v).cells (λ c. c.root))

  -- an output names node 0, an input or a gate picked
  pub output_named : (o : ℕ) → In o outs → node_of o < length nodes → output_lawful (names_of (up_to (length nodes))) o ≡ true
  output_named o i l =
      let u = node_of o in
      ⊎_elim
      (λ (e : u ≡ 0). or_left _ _ (eq-eqb u 0 e))
      (λ (e : u ≡ 0 → ⊥). or_right (eqb u 0) _ (named u (length nodes) (omega arith) l l (R.outputs o i)))
      (cases_eq u 0)

  -- the cells suit the drawing, and none has more than k leaves
  cell_at : (c : Cell) (us : List ℕ) → In c (cells_by nodes given (keep picked us)) → (v : ℕ) × (picked v ≡ true) × (cell_of nodes v (given v) ≡ c)
  cell_at c us i =
      let r = map_in (λ v. cell_of nodes v (given v)) c (keep picked us) i in
      (r.0, (keep_in picked r.0 us r.1).1, r.2)

  all_suit : AllSuit nodes (cells_by nodes given (gates_by picked (length nodes)))
  all_suit c i = let r = cell_at c (range_with_len 0 (length nodes)) i in subst (Suits nodes) r.2 (piece_suits r.0 r.1)

  pub rival_narrow : (c : Cell) → In c (cover_by (drawing nodes outs) picked given).cells → length (leaves_of c) ≤ k
  unfolding cover_by
  rival_narrow c i =
      let r = cell_at c (range_with_len 0 (length nodes)) i in
      subst (λ (x : Cell). length (leaves_of x) ≤ k) r.2 (rw (leaves_of_cell nodes r.0 (given r.0)) (R.cuts r.0 r.1).1)

  module _ (law : lawful (drawing nodes outs) ≡ true) where
    pub rival_lawful : lawful_cover (cover_by (drawing nodes outs) picked given) ≡ true
    unfolding cover_by
    rival_lawful =
        let w = lawful_says nodes outs law in
        let n = up_to (length nodes) in
        let l = cover_says n (lawful_upto (length nodes) w.nodes_few) in
        says_cover (netlist n.inputs n.cells outs) record {
          inputs_numbered = l.inputs_numbered;
          roots_numbered = l.roots_numbered;
          cells_lawful_lem = l.cells_lawful_lem;
          outputs_lawful = in_every (output_lawful (names_of n)) outs (λ o i. output_named o i (w.outputs_named o i));
        }

    pub rival_covers : Covers (drawing nodes outs) (cover_by (drawing nodes outs) picked given)
    unfolding cover_by
    rival_covers = record { right = d; same_inputs = refl; same_outputs = refl; suit = all_suit }
