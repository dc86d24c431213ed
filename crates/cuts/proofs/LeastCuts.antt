-- Least cuts: what `least` says, that each cut has one inside, and how a gate's list is made from its literals' nodes.
use Rattle.std.proofs.Common.{◌≡◌, ℕ, zero, suc, ◌+◌, ◌-◌, ◌<◌, ◌≤◌, Bool, true, false, not, ◌&&◌, ltb, ◌⊎◌, List, [], ◌∷◌, length, sym, refl, ◌∙◌, subst, inl, inr, ⊎_elim, arith}
use mathlib.Core.Bool.{beq}
use Rattle.std.specs.List.{range_with_len}
use Rattle.std.proofs.lemmas.Bool.{and_parts, and_from, or_left, eqb-true, eqb-false, eq-eqb, both_ways, cases_Bool, not-true, not-false, not_from_false, and_cases, ltb-true, lt-ltb, cases_order}
use Rattle.drawing.specs.declared.node.Node.{Node}
use Rattle.drawing.specs.declared.node.Node.TheVariants.{Constant, Input, Gate}
use Rattle.drawing.specs.Sets.{mem, rises, below, same, keep, subsets, some, In}
use Rattle.drawing.specs.Drawing.{at, fanins, is_gate, is_constant, sound}
use Rattle.cuts.specs.Cuts.{closes, closes_fanins, cut, least, least_cuts, ways, choices}
use Rattle.drawing.proofs.Members.{every_in, in_every, some_in, not_some, keep_in, in_keep, in_counting, same_is, same_refl, in_mem}
use Rattle.drawing.proofs.SetLaws.{Sub, part_less, part_length, in_subsets, subsets_in, mem_cases, rises_mem, below_says, says_below, mem_keep, rises_keep}
use Rattle.drawing.proofs.Counts.{Once, once_keep, once_subsets}
use Rattle.cuts.proofs.Closing.{zeroth, member, through, closes_ways, closes_by, closes_range, closes_more}
use Rattle.drawing.proofs.Sound.{fanins_below_lem, sound_at_lem}

pub record Cut (nodes : List Node) (v : ℕ) (s : List ℕ) : Type 0 where
  pub rising : rises 0 s ≡ true
  pub under : (u : ℕ) → mem u s ≡ true → u < v
  pub closed : (f : ℕ) → In f (fanins (at nodes v)) → closes nodes s f ≡ true

pub cut_says : (nodes : List Node) (v : ℕ) (s : List ℕ) → cut nodes v s ≡ true → Cut nodes v s
unfolding cut closes_fanins
cut_says nodes v s h =
    let p = and_parts (rises 0 s && below v s) _ h in
    let q = and_parts (rises 0 s) _ p.0 in
    record { rising = q.0; under = λ u m. below_says v s u q.1 m; closed = λ f m. every_in (closes nodes s) f (fanins (at nodes v)) p.1 m }

pub says_cut : (nodes : List Node) (v : ℕ) (s : List ℕ) → Cut nodes v s → cut nodes v s ≡ true
unfolding cut closes_fanins
says_cut nodes v s c =
    and_from _ _ (and_from _ _ c.rising (says_below v s c.under)) (in_every (closes nodes s) (fanins (at nodes v)) c.closed)

-- no other cut lies inside
pub record Least (nodes : List Node) (v : ℕ) (s : List ℕ) : Type 0 where
  pub is_cut : Cut nodes v s
  pub smallest : (t : List ℕ) → Cut nodes v t → Sub t s → t ≡ s

pub least_says : (nodes : List Node) (v : ℕ) (s : List ℕ) → least nodes v s ≡ true → Least nodes v s
unfolding least
least_says nodes v s h =
    let p = and_parts (cut nodes v s) _ h in
    let c = cut_says nodes v s p.0 in
    let other : List ℕ → Bool = λ t. cut nodes v t && not (same t s) in
    let none = not-true (some other (subsets (length s) s)) p.1 in
    record {
      is_cut = c;
      smallest = λ t d i.
          let m = in_subsets 0 0 (length s) t s d.rising c.rising i (part_length 0 0 t s d.rising c.rising i) in
          let f = not_some other t (subsets (length s) s) none m in
          same_is t s (⊎_elim (λ e. e) (λ e. absurd (both_ways _ f (and_from _ _ (says_cut nodes v t d) (not_from_false _ e)))) (cases_Bool (same t s)));
    }

pub says_least : (nodes : List Node) (v : ℕ) (s : List ℕ) → Least nodes v s → least nodes v s ≡ true
unfolding least
says_least nodes v s l =
    let other : List ℕ → Bool = λ t. cut nodes v t && not (same t s) in
    let c = l.is_cut in
    let bad : some other (subsets (length s) s) ≡ true → ⊥ = λ h.
    let r = some_in other (subsets (length s) s) h in
    let q = and_parts _ _ r.2 in
    let i = subsets_in 0 (length s) r.0 s c.rising r.1 in
    let e = l.smallest r.0 (cut_says nodes v r.0 q.0) i.inside in
    both_ways _ (not-true _ q.1) (rw e (same_refl s)) in
    and_from _ _ (says_cut nodes v s c) (not_from_false _ (⊎_elim (λ e. absurd (bad e)) (λ e. e) (cases_Bool (some other (subsets (length s) s)))))

-- a cut that is not least has a smaller one inside
smaller : (nodes : List Node) (v : ℕ) (s : List ℕ) → Cut nodes v s → least nodes v s ≡ false → (t : List ℕ) × Cut nodes v t × Sub t s × (length t < length s)
unfolding least
smaller nodes v s c h =
    let other : List ℕ → Bool = λ t. cut nodes v t && not (same t s) in
    let found = ⊎_elim (λ e. absurd (both_ways _ e (says_cut nodes v s c))) (λ e. not-false _ e) (and_cases (cut nodes v s) _ h) in
    let r = some_in other (subsets (length s) s) found in
    let q = and_parts _ _ r.2 in
    let t = r.0 in
    let d = cut_says nodes v t q.0 in
    let i = subsets_in 0 (length s) t s c.rising r.1 in
    let less = ⊎_elim (λ (e : t ≡ s). absurd (both_ways _ (not-true _ q.1) (rw e (same_refl s)))) (λ l. l) (part_less 0 0 t s d.rising c.rising i.inside) in
    (t, d, i.inside, less)

-- each cut has a least one inside
least_inside' : (nodes : List Node) (v bound : ℕ) (s : List ℕ) → length s < bound → Cut nodes v s → (t : List ℕ) × Least nodes v t × Sub t s
least_inside' nodes v zero s l c = absurd (omega arith)
least_inside' nodes v (suc bound) s l c =
    ⊎_elim
    (λ h. (s, least_says nodes v s h, λ u m. m))
    (λ h. let r = smaller nodes v s c h in
    let q = least_inside' nodes v bound r.0 (omega (arith, r.3)) r.1 in
    (q.0, q.1, λ u m. r.2 u (q.2 u m)))
    (cases_Bool (least nodes v s))

pub least_inside : (nodes : List Node) (v : ℕ) (s : List ℕ) → Cut nodes v s → (t : List ℕ) × Least nodes v t × Sub t s
least_inside nodes v s c = least_inside' nodes v (suc (length s)) s (omega arith) c

-- the list of a gate
rises_counting : (n a m : ℕ) → n < a → rises n (range_with_len a m) ≡ true
rises_counting n a zero l = refl
rises_counting n a (suc m) l = and_from _ _ (lt-ltb n a l) (rises_counting a (a + 1) m (omega arith))

pub in_list : (nodes : List Node) (k v : ℕ) (s : List ℕ) → Least nodes v s → length s ≤ k → In s (least_cuts nodes k v)
unfolding least_cuts
in_list nodes k v s l h =
    let c = l.is_cut in
    let all = range_with_len 1 (v - 1) in
    let inside : Sub s all = λ u m. in_mem u all (in_counting 1 (v - 1) u (omega (arith, rises_mem 0 s u c.rising m)) (omega (arith, c.under u m, rises_mem 0 s u c.rising m))) in
    in_keep (least nodes v) s (subsets k all) (in_subsets 0 0 k s all c.rising (rises_counting 0 1 (v - 1) (omega arith)) inside h) (says_least nodes v s l)

pub list_in : (nodes : List Node) (k v : ℕ) (s : List ℕ) → In s (least_cuts nodes k v) → Least nodes v s × (length s ≤ k)
unfolding least_cuts
list_in nodes k v s m =
    let all = range_with_len 1 (v - 1) in
    let r = keep_in (least nodes v) s (subsets k all) m in
    let q = subsets_in 0 k s all (rises_counting 0 1 (v - 1) (omega arith)) r.0 in
    (least_says nodes v s r.1, q.few)

pub once_list : (nodes : List Node) (k v : ℕ) → Once (least_cuts nodes k v)
unfolding least_cuts
once_list nodes k v = once_keep (least nodes v) (subsets k (range_with_len 1 (v - 1))) (once_subsets 0 k (range_with_len 1 (v - 1)) (rises_counting 0 1 (v - 1) (omega arith)))

-- choices
pub record Choice (nodes : List Node) (f : ℕ) (m : List ℕ) : Type 0 where
  pub rising : rises 0 m ≡ true
  pub upto : (u : ℕ) → mem u m ≡ true → u ≤ f
  pub closed : closes nodes m f ≡ true

beq_is : (a b : Bool) → beq a b ≡ true → a ≡ b
beq_is true true h = refl
beq_is true false h = absurd (both_ways false refl h)
beq_is false true h = absurd (both_ways false refl h)
beq_is false false h = refl

pub kind_zero : (nodes : List Node) (f : ℕ) → sound nodes ≡ true → f < length nodes → is_constant (at nodes f) ≡ false → 0 < f
kind_zero nodes f d l h =
    let e = beq_is _ _ (and_parts _ _ (sound_at_lem nodes f d l)).0 in
    let n = eqb-false f 0 (sym e ∙ h) in
    ⊎_elim (λ (x : f ≡ 0). absurd (n x)) (λ c. ⊎_elim (λ (x : f < 0). omega arith) (λ (x : 0 < f). x) c) (cases_order f 0)

constant_zero : (nodes : List Node) (f : ℕ) → sound nodes ≡ true → f < length nodes → is_constant (at nodes f) ≡ true → f ≡ 0
constant_zero nodes f d l h =
    let e = beq_is _ _ (and_parts _ _ (sound_at_lem nodes f d l)).0 in
    eqb-true f 0 (sym e ∙ h)

zero_choice : (nodes : List Node) (f : ℕ) → sound nodes ≡ true → f < length nodes → f ≡ 0 → Choice nodes f []
zero_choice nodes f d l e = record {
  rising = refl;
  upto = λ u m. absurd (both_ways false refl m);
  closed = closes_by nodes [] f d l (zeroth e);
}

one_choice : (nodes : List Node) (f : ℕ) → sound nodes ≡ true → f < length nodes → 0 < f → Choice nodes f (f ∷ [])
one_choice nodes f d l z = record {
  rising = and_from _ _ (lt-ltb 0 f z) refl;
  upto = λ u m. ⊎_elim (λ (e : u ≡ f). omega arith) (λ e. absurd (both_ways false refl e)) (mem_cases u f [] m);
  closed = closes_by nodes (f ∷ []) f d l (member (or_left _ _ (eq-eqb f f refl)));
}

cut_choice : (nodes : List Node) (f : ℕ) (m : List ℕ) → sound nodes ≡ true → f < length nodes → is_gate (at nodes f) ≡ true → Cut nodes f m → Choice nodes f m
cut_choice nodes f m d l g c = record {
  rising = c.rising;
  upto = λ u i. omega (arith, c.under u i);
  closed = closes_by nodes m f d l (through g c.closed);
}

-- the node itself, or nothing for node 0
pub single_choice : (nodes : List Node) (f : ℕ) → sound nodes ≡ true → f < length nodes → (m : List ℕ) × Choice nodes f m × (length m ≤ 1)
single_choice nodes f d l =
    ⊎_elim (λ (e : f ≡ 0). ([], zero_choice nodes f d l e, omega arith))
    (λ c. (f ∷ [], one_choice nodes f d l (⊎_elim (λ (x : f < 0). absurd (omega arith)) (λ (x : 0 < f). x) c), omega arith))
    (cases_order f 0)

pub choice_closes : (nodes : List Node) (k f : ℕ) (m : List ℕ) → sound nodes ≡ true → f < length nodes → In m (choices nodes k f) → Choice nodes f m
unfolding choices
choice_closes nodes k f m d l i = go (at nodes f) refl i
  where
    one : is_constant (at nodes f) ≡ false → (f ∷ []) ≡ m → Choice nodes f m
    one h e = subst (Choice nodes f) e (one_choice nodes f d l (kind_zero nodes f d l h))

    go : (n : Node) → at nodes f ≡ n → In m (ways (least_cuts nodes k f) f n) → Choice nodes f m
    go Constant e (inl h) = subst (Choice nodes f) h (zero_choice nodes f d l (constant_zero nodes f d l (rw e refl)))
    go Constant e (inr h) = elim h [ ]
    go Input e (inl h) = one (rw e refl) h
    go Input e (inr h) = elim h [ ]
    go (Gate p) e (inl h) = one (rw e refl) h
    go (Gate p) e (inr h) = cut_choice nodes f m d l (rw e refl) (list_in nodes k f m h).0.is_cut

-- each set that closes f has a choice of f inside
pub choice_inside : (nodes : List Node) (k f : ℕ) (s : List ℕ) → sound nodes ≡ true → rises 0 s ≡ true → length s ≤ k → closes nodes s f ≡ true → (m : List ℕ) × In m (choices nodes k f) × Sub m s
unfolding choices
choice_inside nodes k f s d r h c = go (at nodes f) refl
  where
    l : f < length nodes
    l = closes_range nodes s f c

    one : mem f s ≡ true → Sub (f ∷ []) s
    one m u i = ⊎_elim (λ (e : u ≡ f). rw e m) (λ e. absurd (both_ways false refl e)) (mem_cases u f [] i)

    found : is_constant (at nodes f) ≡ false → (mem f s ≡ true) ⊎ ((is_gate (at nodes f) ≡ true) × ((g : ℕ) → In g (fanins (at nodes f)) → closes nodes s g ≡ true))
    found n = elim (closes_ways nodes s f d c) [ zeroth e ↦ absurd (omega (arith, kind_zero nodes f d l n)) | member m ↦ inl m | through g q ↦ inr (g, q) ]

    lower : List ℕ
    lower = keep (λ u. ltb u f) s

    lower_cut : ((g : ℕ) → In g (fanins (at nodes f)) → closes nodes s g ≡ true) → Cut nodes f lower
    lower_cut q = record {
      rising = rises_keep (λ u. ltb u f) 0 s r;
      under = λ u m. ltb-true u f (and_parts (mem u s) _ (sym (mem_keep (λ u. ltb u f) u s) ∙ m)).1;
      closed = λ g m. closes_more nodes s lower g d (λ u i j. mem_keep (λ u. ltb u f) u s ∙ and_from _ _ j (lt-ltb u f (omega (arith, fanins_below_lem nodes f g d l m)))) (q g m);
    }

    deep : ((g : ℕ) → In g (fanins (at nodes f)) → closes nodes s g ≡ true) → (m : List ℕ) × In m (least_cuts nodes k f) × Sub m s
    deep q =
        let t = least_inside nodes f lower (lower_cut q) in
        let inside : Sub t.0 s = λ u m. (and_parts (mem u s) _ (sym (mem_keep (λ u. ltb u f) u s) ∙ t.2 u m)).0 in
        (t.0, in_list nodes k f t.0 t.1 (omega (arith, part_length 0 0 t.0 s t.1.is_cut.rising r inside)), inside)

    go : (n : Node) → at nodes f ≡ n → (m : List ℕ) × In m (ways (least_cuts nodes k f) f n) × Sub m s
    go Constant e = ([], inl refl, λ u i. absurd (both_ways false refl i))
    go Input e = ⊎_elim (λ m. (f ∷ [], inl refl, one m)) (λ q. absurd (both_ways false refl (rw e at q.0))) (found (rw e refl))
    go (Gate p) e = ⊎_elim (λ m. (f ∷ [], inl refl, one m)) (λ q. let t = deep q.1 in (t.0, inr t.1, t.2)) (found (rw e refl))
