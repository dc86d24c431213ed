-- The list of a gate is what is minimal among the unions of one choice for each of its literals' nodes.
use Rattle.std.proofs.Common.{◌≡◌, ℕ, ◌<◌, ◌≤◌, Bool, true, not, ◌&&◌, leb, List, [], ◌∷◌, map, length, sym, refl, ◌∙◌, subst, inl, inr, ⊎_elim, arith}
use Rattle.std.proofs.lemmas.Bool.{and_parts, and_from, or_cases, or_left, or_right, both_ways, cases_Bool, not-true, not_from_false, le-leb, leb-true}
use Rattle.std.proofs.lemmas.Bool.Decides.{same_from_decides}
use Rattle.drawing.specs.declared.node.Node.{Node}
use Rattle.drawing.specs.Sets.{mem, sub, same, union, some, elem, In}
use Rattle.drawing.specs.Drawing.{at, fanins, node_of, sound}
use Rattle.cuts.specs.Cuts.{closes, least_cuts, choices, unions, minimal, joined}
use Rattle.cuts.specs.Claims.{ListsJoin}
use Rattle.drawing.proofs.Members.{some_in, not_some, keep_in, in_keep, same_is, same_refl, elem_in, in_elem, in_append, in_append_left, in_append_right, in_map, map_in}
use Rattle.drawing.proofs.SetLaws.{Sub, part_length, same_members, sub_says, says_sub, mem_union, rises_union}
use Rattle.cuts.proofs.Closing.{closes_more}
use Rattle.drawing.proofs.Sound.{fanins_below_lem}
use Rattle.cuts.proofs.LeastCuts.{Cut, Choice, in_list, list_in, choice_closes, choice_inside}

pub unions_in : (w : List ℕ) (as' bs : List (List ℕ)) → In w (unions as' bs) → (a : List ℕ) × (b : List ℕ) × In a as' × In b bs × (union a b ≡ w)
unions_in w [] bs m = elim m [ ]
unions_in w (a ∷ rest) bs m =
    ⊎_elim
    (λ l. let r = map_in (union a) w bs l in (a, r.0, inl refl, r.1, r.2))
    (λ l. let r = unions_in w rest bs l in (r.0, r.1, inr r.2, r.3, r.4))
    (in_append w _ _ m)

pub in_unions : (a b : List ℕ) (as' bs : List (List ℕ)) → In a as' → In b bs → In (union a b) (unions as' bs)
in_unions a b [] bs i j = elim i [ ]
in_unions a b (x ∷ rest) bs (inl e) j = rw (← e) (in_append_left _ _ _ (in_map (union x) b bs j))
in_unions a b (x ∷ rest) bs (inr i) j = in_append_right _ (map (union x) bs) _ (in_unions a b rest bs i j)

pub sub_union_left : (a b : List ℕ) → Sub a (union a b)
sub_union_left a b u m = mem_union u a b ∙ or_left _ _ m

pub sub_union_right : (a b : List ℕ) → Sub b (union a b)
sub_union_right a b u m = mem_union u a b ∙ or_right _ _ m

pub union_sub : (a b s : List ℕ) → Sub a s → Sub b s → Sub (union a b) s
union_sub a b s h k u m = ⊎_elim (λ e. h u e) (λ e. k u e) (or_cases _ _ (sym (mem_union u a b) ∙ m))

-- what is minimal in a list of sets
abbrev pub Minimal : List (List ℕ) → List ℕ → Type 0
Minimal sets s = In s sets × ((t : List ℕ) → In t sets → Sub t s → t ≡ s)

pub minimal_says : (sets : List (List ℕ)) (s : List ℕ) → In s (minimal sets) → Minimal sets s
minimal_says sets s m =
    let other : List ℕ → List ℕ → Bool = λ x t. sub t x && not (same t x) in
    let r = keep_in (λ x. not (some (other x) sets)) s sets m in
    (r.0, λ t i h. same_is t s (⊎_elim (λ e. e) (λ e. absurd (both_ways _ (not_some (other s) t sets (not-true _ r.1) i) (and_from _ _ (says_sub t s h) (not_from_false _ e)))) (cases_Bool (same t s))))

pub says_minimal : (sets : List (List ℕ)) (s : List ℕ) → Minimal sets s → In s (minimal sets)
says_minimal sets s h =
    let other : List ℕ → List ℕ → Bool = λ x t. sub t x && not (same t x) in
    let bad : some (other s) sets ≡ true → ⊥ = λ b.
    let r = some_in (other s) sets b in
    let q = and_parts (sub r.0 s) _ r.2 in
    let e = h.1 r.0 r.1 (sub_says r.0 s q.0) in
    both_ways _ (not-true _ q.1) (rw e (same_refl s)) in
    in_keep (λ x. not (some (other x) sets)) s sets h.0 (not_from_false _ (⊎_elim (λ e. absurd (bad e)) (λ e. e) (cases_Bool (some (other s) sets))))

module _ (nodes : List Node) (d : sound nodes ≡ true) (k v f g : ℕ) (inside : v < length nodes) (is_fans : fanins (at nodes v) ≡ f ∷ g ∷ []) where
  pub f_below : f < v
  f_below = fanins_below_lem nodes v f d inside (rw is_fans (inl refl))

  pub g_below : g < v
  g_below = fanins_below_lem nodes v g d inside (rw is_fans (inr (inl refl)))

  -- a union is a cut
  pub union_cut : (a b : List ℕ) → Choice nodes f a → Choice nodes g b → Cut nodes v (union a b)
  union_cut a b p q = record {
    rising = rises_union 0 a b p.rising q.rising;
    under = λ u m. ⊎_elim (λ (e : mem u a ≡ true). omega (arith, p.upto u e, f_below)) (λ (e : mem u b ≡ true). omega (arith, q.upto u e, g_below)) (or_cases _ _ (sym (mem_union u a b) ∙ m));
    closed = λ n m. closed_both n (rw is_fans at m);
  }
    where
      closed_both : (n : ℕ) → In n (f ∷ g ∷ []) → closes nodes (union a b) n ≡ true
      closed_both n (inl e) = rw (← e) (closes_more nodes a (union a b) f d (λ u i m. sub_union_left a b u m) p.closed)
      closed_both n (inr (inl e)) = rw (← e) (closes_more nodes b (union a b) g d (λ u i m. sub_union_right a b u m) q.closed)
      closed_both n (inr (inr e)) = elim e [ ]

  pub joined_cut : (w : List ℕ) → In w (joined nodes k f g) → Cut nodes v w × (length w ≤ k)
  unfolding joined
  joined_cut w m =
      let r = keep_in (λ s. leb (length s) k) w (unions (choices nodes k f) (choices nodes k g)) m in
      let q = unions_in w (choices nodes k f) (choices nodes k g) r.0 in
      let c = union_cut q.0 q.1 (choice_closes nodes k f q.0 d (omega (arith, f_below)) q.2) (choice_closes nodes k g q.1 d (omega (arith, g_below)) q.3) in
      (subst (Cut nodes v) q.4 c, leb-true _ _ r.1)

  -- each cut has a union inside
  pub cut_joined : (s : List ℕ) → Cut nodes v s → length s ≤ k → (w : List ℕ) × In w (joined nodes k f g) × Sub w s
  unfolding joined
  cut_joined s c h =
      let a = choice_inside nodes k f s d c.rising h (c.closed f (rw is_fans (inl refl))) in
      let b = choice_inside nodes k g s d c.rising h (c.closed g (rw is_fans (inr (inl refl)))) in
      let w = union a.0 b.0 in
      let p = choice_closes nodes k f a.0 d (omega (arith, f_below)) a.1 in
      let q = choice_closes nodes k g b.0 d (omega (arith, g_below)) b.1 in
      let i : Sub w s = union_sub a.0 b.0 s a.2 b.2 in
      let l = part_length 0 0 w s (rises_union 0 a.0 b.0 p.rising q.rising) c.rising i in
      (w, in_keep (λ s. leb (length s) k) w _ (in_unions a.0 b.0 _ _ a.1 b.1) (le-leb _ _ (omega arith)), i)

  pub list_joined : (s : List ℕ) → In s (least_cuts nodes k v) → In s (minimal (joined nodes k f g))
  list_joined s m =
      let l = list_in nodes k v s m in
      let w = cut_joined s l.0.is_cut l.1 in
      let e = l.0.smallest w.0 (joined_cut w.0 w.1).0 w.2 in
      says_minimal (joined nodes k f g) s (rw e at w.1, λ t i h. l.0.smallest t (joined_cut t i).0 h)

  pub joined_list : (s : List ℕ) → In s (minimal (joined nodes k f g)) → In s (least_cuts nodes k v)
  joined_list s m =
      let q = minimal_says (joined nodes k f g) s m in
      let c = joined_cut s q.0 in
      let small : (t : List ℕ) → Cut nodes v t → Sub t s → t ≡ s = λ t b h.
      let l = part_length 0 0 t s b.rising c.0.rising h in
      let w = cut_joined t b (omega (arith, c.1)) in
      let e = q.1 w.0 w.1 (λ u i. h u (w.2 u i)) in
      same_members 0 0 t s b.rising c.0.rising h (rw e at w.2) in
      in_list nodes k v s (record { is_cut = c.0; smallest = small }) c.1

  -- THE THEOREM
  pub list_is : (s : List ℕ) → elem s (least_cuts nodes k v) ≡ elem s (minimal (joined nodes k f g))
  list_is s =
      same_from_decides {P = In s (least_cuts nodes k v)} _ _ (elem_in s _, in_elem s _) ((λ h. joined_list s (elem_in s _ h)), (λ m. in_elem s _ (list_joined s m)))

pub lists_join : ListsJoin
lists_join nodes k v p d l e s = list_is nodes d k v (node_of p.left) (node_of p.right) l (rw e refl) s
