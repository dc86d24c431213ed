-- What survives of a row of sets is what is minimal in it, each once.
use Rattle.std.proofs.Common.{◌≡◌, ℕ, ◌<◌, Bool, true, false, cond, not, ◌&&◌, leb, List, [], ◌∷◌, ◌++◌, length, sym, refl, ◌∙◌, subst, inl, inr, ⊎_elim}
use Rattle.std.proofs.lemmas.List.{append_assoc, append-nil}
use Rattle.std.proofs.lemmas.Bool.{and_parts, and_from, both_ways, cases_Bool, not-true, not_from_false}
use Rattle.drawing.specs.Sets.{sub, rises, keep, some, In}
use Rattle.cuts.specs.Antichain.{add, survivors, apart}
use Rattle.drawing.proofs.Members.{every_in, in_every, some_in, not_some, keep_in, in_keep, in_append, in_append_left, in_append_right, elem_in, in_elem}
use Rattle.drawing.proofs.SetLaws.{Sub, sub_says, says_sub, same_members}
use Rattle.drawing.specs.declared.node.Node.{Node}
use Rattle.drawing.specs.Drawing.{at, fanins, node_of, sound}
use Rattle.cuts.specs.Cuts.{least_cuts, choices, unions, joins, joined, Alike}
use Rattle.cuts.specs.Claims.{SurvivorsAre}
use Rattle.drawing.proofs.Counts.{Once, same_length}
use Rattle.cuts.proofs.LeastCuts.{once_list}
use Rattle.cuts.proofs.Enumerate.{Minimal, minimal_says, says_minimal, unions_in, in_unions, joined_cut, list_joined, joined_list}
use Rattle.std.proofs.lemmas.Bool.Decides.{same_from_decides}

-- kept has what is minimal among the seen
pub record Front (seen kept : List (List ℕ)) : Type 0 where
  pub from : (m : List ℕ) → In m kept → In m seen
  pub under : (s : List ℕ) → In s seen → (m : List ℕ) × In m kept × Sub m s
  pub alone : apart kept ≡ true

sub_trans : (a b c : List ℕ) → Sub a b → Sub b c → Sub a c
sub_trans a b c h k u m = k u (h u m)

apart_keep : (p : List ℕ → Bool) (xs : List (List ℕ)) → apart xs ≡ true → apart (keep p xs) ≡ true
apart_keep p [] h = refl
apart_keep p (x ∷ xs) h =
    let q = and_parts _ _ h in
    let r = apart_keep p xs q.1 in
    let free : List ℕ → Bool = λ y. not (sub x y) && not (sub y x) in
    elim (p x) as (λ b. apart (cond b (x ∷ keep p xs) (keep p xs)) ≡ true)
    [ true ↦ and_from _ _ (in_every free (keep p xs) (λ a m. every_in free a xs q.0 (keep_in p a xs m).0)) r | false ↦ r ]

apart_push : (xs : List (List ℕ)) (c : List ℕ) → apart xs ≡ true → ((a : List ℕ) → In a xs → (sub a c ≡ false) × (sub c a ≡ false)) → apart (xs ++ c ∷ []) ≡ true
apart_push [] c h k = refl
apart_push (x ∷ xs) c h k =
    let q = and_parts _ _ h in
    let r = apart_push xs c q.1 (λ a m. k a (inr m)) in
    let free : List ℕ → Bool = λ y. not (sub x y) && not (sub y x) in
    let e = k x (inl refl) in
    and_from _ _ (in_every free (xs ++ c ∷ []) (λ a m. ⊎_elim (λ i. every_in free a xs q.0 i) (λ i. ⊎_elim (λ (f : c ≡ a). rw (← f) (and_from _ _ (not_from_false _ e.0) (not_from_false _ e.1))) (λ f. absurd f) i) (in_append a xs (c ∷ []) m))) r

-- one more
pub front_more : (seen kept : List (List ℕ)) (c : List ℕ) → Front seen kept → Front (seen ++ c ∷ []) (add kept c)
front_more seen kept c f = go (some (λ m. sub m c) kept) refl
  where
    stays : List ℕ → Bool
    stays m = not (sub c m)

    go : (b : Bool) → some (λ m. sub m c) kept ≡ b → Front (seen ++ c ∷ []) (cond b kept (keep (λ m. not (sub c m)) kept ++ c ∷ []))
    go true e = record {
      from = λ m i. in_append_left m seen _ (f.from m i);
      under = λ s i. ⊎_elim (λ j. f.under s j) (λ j. ⊎_elim (λ (g : c ≡ s). let r = some_in (λ m. sub m c) kept e in (r.0, r.1, rw (← g) (sub_says r.0 c r.2))) (λ g. absurd g) j) (in_append s seen (c ∷ []) i);
      alone = f.alone;
    }
    go false e = record {
      from = λ m i. ⊎_elim (λ j. in_append_left m seen _ (f.from m (keep_in stays m kept j).0)) (λ j. in_append_right m seen _ j) (in_append m (keep stays kept) (c ∷ []) i);
      under = λ s i. ⊎_elim
          (λ j. let r = f.under s j in
          ⊎_elim (λ h. (c, in_append_right c (keep stays kept) _ (inl refl), sub_trans c r.0 s (sub_says c r.0 h) r.2))
          (λ h. (r.0, in_append_left r.0 (keep stays kept) _ (in_keep stays r.0 kept r.1 (not_from_false _ h)), r.2))
          (cases_Bool (sub c r.0)))
          (λ j. ⊎_elim (λ (g : c ≡ s). (c, in_append_right c (keep stays kept) _ (inl refl), rw (← g) (λ u m. m))) (λ g. absurd g) j)
          (in_append s seen (c ∷ []) i);
      alone = apart_push (keep stays kept) c (apart_keep stays kept f.alone) (λ a m. let r = keep_in stays a kept m in (not_some (λ m. sub m c) a kept e r.0, not-true _ r.1));
    }

pub front_none : Front [] []
front_none = record { from = λ m i. i; under = λ s i. absurd i; alone = refl }

-- all of a row
front_rest : (seen kept cs : List (List ℕ)) → Front seen kept → Front (seen ++ cs) (survivors kept cs)
front_rest seen kept [] f = rw append-nil f
front_rest seen kept (c ∷ cs) f = rw (append_assoc seen (c ∷ []) cs) at (front_rest (seen ++ c ∷ []) (add kept c) cs (front_more seen kept c f))

pub front_all : (cs : List (List ℕ)) → Front cs (survivors [] cs)
front_all cs = front_rest [] [] cs front_none

sub_refl : (a : List ℕ) → Sub a a
sub_refl a u m = m

pub apart_once : (xs : List (List ℕ)) → apart xs ≡ true → Once xs
apart_once [] h = tt
apart_once (x ∷ xs) h =
    let q = and_parts _ _ h in
    ((λ m. let r = every_in (λ y. not (sub x y) && not (sub y x)) x xs q.0 m in both_ways _ (not-true _ (and_parts _ _ r).0) (says_sub x x (sub_refl x))), apart_once xs q.1)

-- within what is kept, one inside another is that other
apart_same : (xs : List (List ℕ)) (a b : List ℕ) → apart xs ≡ true → In a xs → In b xs → Sub a b → a ≡ b
apart_same [] a b h i j k = elim i [ ]
apart_same (x ∷ xs) a b h (inl e) (inl f) k = sym e ∙ f
apart_same (x ∷ xs) a b h (inl e) (inr j) k =
    let r = every_in (λ y. not (sub x y) && not (sub y x)) b xs (and_parts _ _ h).0 j in
    absurd (both_ways _ (not-true _ (and_parts (not (sub x b)) _ r).0) (says_sub x b (rw e k)))
apart_same (x ∷ xs) a b h (inr i) (inl f) k =
    let r = every_in (λ y. not (sub x y) && not (sub y x)) a xs (and_parts _ _ h).0 i in
    absurd (both_ways _ (not-true _ (and_parts (not (sub x a)) _ r).1) (says_sub a x (rw f k)))
apart_same (x ∷ xs) a b h (inr i) (inr j) k = apart_same xs a b (and_parts _ _ h).1 i j k

-- what is kept is what is minimal
module _ (seen kept : List (List ℕ)) (f : Front seen kept) (rising : (s : List ℕ) → In s seen → rises 0 s ≡ true) where
  pub kept_minimal : (s : List ℕ) → In s kept → Minimal seen s
  kept_minimal s i = (
    f.from s i,
    λ t j h.
        let r = f.under t j in
        let e = apart_same kept r.0 s f.alone r.1 i (sub_trans r.0 t s r.2 h) in
        same_members 0 0 t s (rising t j) (rising s (f.from s i)) h (rw e at r.2),
  )

  pub minimal_kept : (s : List ℕ) → Minimal seen s → In s kept
  minimal_kept s m =
      let r = f.under s m.0 in
      let e = m.1 r.0 (f.from r.0 r.1) r.2 in
      rw e at r.1

-- unions of the same choices, in any order
pub alike_in : (xs ys : List (List ℕ)) → Alike xs ys → (s : List ℕ) → In s xs → In s ys
alike_in xs ys h s m = elem_in s ys (sym (h s) ∙ in_elem s xs m)

pub in_alike : (xs ys : List (List ℕ)) → ((s : List ℕ) → In s xs → In s ys) → ((s : List ℕ) → In s ys → In s xs) → Alike xs ys
in_alike xs ys h k s = same_from_decides {P = In s ys} _ _ ((λ e. h s (elem_in s xs e)), (λ m. in_elem s xs (k s m))) (elem_in s ys, in_elem s ys)

joins_in : (k : ℕ) (lefts rights lefts' rights' : List (List ℕ)) → ((s : List ℕ) → In s lefts → In s lefts') → ((s : List ℕ) → In s rights → In s rights') → (w : List ℕ) → In w (joins k lefts rights) → In w (joins k lefts' rights')
joins_in k lefts rights lefts' rights' f g w m =
    let short : List ℕ → Bool = λ s. leb (length s) k in
    let r = keep_in short w (unions lefts rights) m in
    let q = unions_in w lefts rights r.0 in
    in_keep short w (unions lefts' rights') (subst (λ z. In z (unions lefts' rights')) q.4 (in_unions q.0 q.1 lefts' rights' (f q.0 q.2) (g q.1 q.3))) r.1

-- what survives of the unions, seen in any order
module _ (nodes : List Node) (d : sound nodes ≡ true) (k v f g : ℕ) (inside : v < length nodes) (is_fans : fanins (at nodes v) ≡ f ∷ g ∷ [])
    (seen : List (List ℕ)) (into : (s : List ℕ) → In s seen → In s (joined nodes k f g)) (onto : (s : List ℕ) → In s (joined nodes k f g) → In s seen) where
  rising : (s : List ℕ) → In s seen → rises 0 s ≡ true
  rising s m = (joined_cut nodes d k v f g inside is_fans s (into s m)).0.rising

  survivor_listed : (s : List ℕ) → In s (survivors [] seen) → In s (least_cuts nodes k v)
  survivor_listed s m =
      let q = kept_minimal seen _ (front_all seen) rising s m in
      joined_list nodes d k v f g inside is_fans s (says_minimal _ s (into s q.0, λ t i h. q.1 t (onto t i) h))

  listed_survivor : (s : List ℕ) → In s (least_cuts nodes k v) → In s (survivors [] seen)
  listed_survivor s m =
      let q = minimal_says _ s (list_joined nodes d k v f g inside is_fans s m) in
      minimal_kept seen _ (front_all seen) rising s (onto s q.0, λ t i h. q.1 t (into t i) h)

  survivors_list : Alike (survivors [] seen) (least_cuts nodes k v) × (length (survivors [] seen) ≡ length (least_cuts nodes k v))
  survivors_list = (
    in_alike _ _ survivor_listed listed_survivor,
    same_length _ _ (apart_once _ (front_all seen).alone) (once_list nodes k v) survivor_listed listed_survivor,
  )

pub survivors_are : SurvivorsAre
unfolding joined
survivors_are nodes k v p d l e lefts rights a b =
    let f = node_of p.left in
    let g = node_of p.right in
    let as' = choices nodes k f in
    let bs = choices nodes k g in
    survivors_list nodes d k v f g l (rw e refl) (joins k lefts rights)
    (joins_in k lefts rights as' bs (alike_in lefts as' a) (alike_in rights bs b))
    (joins_in k as' bs lefts rights (alike_in as' lefts (λ s. sym (a s))) (alike_in bs rights (λ s. sym (b s))))

pub add_passed : (kept : List (List ℕ)) (c : List ℕ) → some (λ m. sub m c) kept ≡ true → add kept c ≡ kept
add_passed kept c h = rw h

pub add_new : (kept : List (List ℕ)) (c : List ℕ) → some (λ m. sub m c) kept ≡ false → add kept c ≡ keep (λ m. not (sub c m)) kept ++ c ∷ []
add_new kept c h = rw h
