-- Going through the needed gates by rising number.
use Rattle.std.proofs.Common.{◌≡◌, ℕ, zero, suc, ◌+◌, ◌<◌, ◌≤◌, Bool, true, false, cond, not, ◌&&◌, ◌||◌, eqb, ltb, List, [], ◌∷◌, ◌++◌, length, Ok, Err, Result, sym, refl, ap, ◌∙◌, subst, ⊎_elim, add-zero, zero-add, add-one, arith, length-append}
use Rattle.std.specs.List.{range_with_len}
use Rattle.std.proofs.lemmas.List.Elements.{filter-append}
use Rattle.std.proofs.lemmas.List.{get_or_past}
use Rattle.std.proofs.lemmas.List.Filters.{length-filter_both}
use Rattle.std.proofs.lemmas.List.FromFn.{length-range_with_len}
use Rattle.std.proofs.lemmas.Bool.{and_parts, and_from, and_left, and_right, or_right, both_ways, cases_Bool, cases_lt, lt-ltb, le-ltb, eqb-true}
use Rattle.std.proofs.lemmas.Bool.Decides.{nat_tests}
use Rattle.drawing.specs.declared.node.Node.TheVariants.{Constant}
use Rattle.drawing.specs.declared.refusal.Refusal.{Refusal}
use Rattle.drawing.specs.declared.refusal.Refusal.TheVariants.{Crowded}
use Rattle.drawing.specs.Drawing.{at, is_gate, fanins}
use Rattle.drawing.specs.Sets.{keep, In}
use Rattle.drawing.proofs.Sound.{gate_range, fanins_below_lem}
use Rattle.drawing.proofs.ReachLaws.{out_down}
use Rattle.fitter.specs.declared.job.Job.{Job}
use Rattle.fitter.specs.Book.{Book, needed_in, too_many, crowded_at}
use Rattle.fitter.specs.Jobs.{book_of, is_kept}
use Rattle.fitter.specs.Making.{MarksNeeded, made_below, kept_below, FaninsKept, Making, MakingNeeded, Progress, KeptUpTo, Ready, Stopped}
use Rattle.fitter.specs.Taking.{AllKept}
use Rattle.fitter.proofs.AtHand.{job_sound, row_short}

-- a fanin of a needed gate is needed, if it is a gate
pub needed_fanin : (j : Job) (v f : ℕ) → needed_in (book_of j) v ≡ true → In f (fanins (at (book_of j).drawing.nodes v)) → is_gate (at (book_of j).drawing.nodes f) ≡ true → needed_in (book_of j) f ≡ true
needed_fanin j v f n m g =
    let nodes = (book_of j).drawing.nodes in
    let p = and_parts (is_gate (at nodes v)) _ n in
    let edges = λ (w : ℕ). fanins (at nodes w) in
    and_from _ _ g (out_down edges (length nodes) (λ w h l i. fanins_below_lem nodes w h (job_sound j) l i) (book_of j).drawing.outputs v f (gate_range nodes v p.0) p.1 m)

pub fanins_kept : (j : Job) (v : ℕ) → needed_in (book_of j) v ≡ true → KeptUpTo j v → FaninsKept j v
fanins_kept j v n k f m g =
    let nodes = (book_of j).drawing.nodes in
    k f (fanins_below_lem nodes v f (job_sound j) (gate_range nodes v (and_parts (is_gate (at nodes v)) _ n).0) m) (needed_fanin j v f n m g)

-- a kept list is not too long
pub kept_fits : (j : Job) (v : ℕ) → is_kept j v ≡ true → too_many (book_of j) v ≡ false
kept_fits j v h = le-ltb _ _ (omega (arith, j.counted v h, row_short j.lists v))

-- the steps

pub not_needed : (i : Job) (v : ℕ) → needed_in (book_of i) v ≡ false → MakingNeeded v i (Ok false) i
not_needed i v n = (
  refl,
  (λ u. still (is_kept i u) (eqb u v) (needed_in (book_of i) u) (λ e. subst (λ z. needed_in (book_of i) z ≡ false) (sym (eqb-true u v e)) n)),
  sym (and_left _ _ n),
)
  where
    still : (a b c : Bool) → (b ≡ true → c ≡ false) → a ≡ (a || (b && c))
    still true b c h = refl
    still false true c h = sym (h refl)
    still false false c h = refl

pub made_needed : (i j : Job) (v : ℕ) (r : Result Bool Refusal) → needed_in (book_of i) v ≡ true → Making v i r j → MakingNeeded v i r j
made_needed i j v (Ok new) n (same, held, is) = (
  same,
  (λ u. held u ∙ ap (λ z. is_kept i u || z) (here u)),
  is ∙ sym (ap (λ z. z && not (is_kept i v)) n),
)
  where
    here : (u : ℕ) → eqb u v ≡ (eqb u v && needed_in (book_of i) u)
    here u = ⊎_elim
        (λ e. e ∙ sym (and_from _ _ e (subst (λ z. needed_in (book_of i) z ≡ true) (sym (eqb-true u v e)) n)))
        (λ e. e ∙ sym (and_left _ _ e))
        (cases_Bool (eqb u v))
made_needed i j v (Err e) n (same, is, many) = (same, is, and_from _ _ n many)

-- from the start to the end

pub progress_start : (i : Job) → Progress i 0 0 i
progress_start i = record { same = refl; kept = λ u. sym (none (is_kept i u) (ltb u 0) (needed_in (book_of i) u) (le-ltb u 0 (omega arith))); made = refl }
  where
    none : (a b c : Bool) → b ≡ false → (a || (b && c)) ≡ a
    none a b c h = grind (arith, nat_tests)

counting_push : (a n : ℕ) → range_with_len a (suc n) ≡ range_with_len a n ++ (a + n) ∷ []
counting_push a zero = ap (λ z. z ∷ []) (sym (add-zero a))
counting_push a (suc n) =
    let e : (a + 1) + n ≡ a + suc n = omega arith in
    ap (λ z. a ∷ z) (counting_push (a + 1) n ∙ ap (λ z. range_with_len (a + 1) n ++ z ∷ []) e)

-- one number more passes the test, or does not
keep_count : (p : ℕ → Bool) (v : ℕ) → length (keep p (range_with_len 0 (v + 1))) ≡ length (keep p (range_with_len 0 v)) + cond (p v) 1 0
keep_count p v =
    ap (λ z. length (keep p (range_with_len 0 z))) (add-one v)
    ∙ ap (λ z. length (keep p z)) (counting_push 0 v)
    ∙ ap (λ z. length (keep p (range_with_len 0 v ++ z ∷ []))) (zero-add v)
    ∙ ap length (filter-append p (range_with_len 0 v) (v ∷ []))
    ∙ length-append (keep p (range_with_len 0 v)) (keep p (v ∷ []))
    ∙ ap (λ z. length (keep p (range_with_len 0 v)) + z) (one (p v))
  where
    one : (b : Bool) → length (cond b (v ∷ []) []) ≡ cond b 1 0
    one true = refl
    one false = refl

pub progress_below : (i j : Job) (v n : ℕ) → Progress i v n j → KeptUpTo j v
progress_below i j v n p u l h =
    p.kept u ∙ or_right (is_kept i u) _ (and_from _ _ (lt-ltb u v l) (ap (λ b. needed_in b u) (sym p.same) ∙ h))

below_next : (u v : ℕ) → ltb u (v + 1) ≡ (ltb u v || eqb u v)
below_next u v = grind (arith, nat_tests)

kept_next : (a c x y z : Bool) → z ≡ (x || y) → ((a || (x && c)) || (y && c)) ≡ (a || (z && c))
kept_next a c x y z h = grind (arith, nat_tests)

-- whether the list of v itself is kept does not hang on those below it
kept_here : (b : Book) (held : ℕ → Bool) (v : ℕ) → kept_below b held v v ≡ held v
kept_here b held v = none (held v) (ltb v v) (needed_in b v) (le-ltb v v (omega arith))
  where
    none : (a x c : Bool) → x ≡ false → (a || (x && c)) ≡ a
    none a x c h = grind (arith, nat_tests)

pub progress_step : (i j k : Job) (v n m : ℕ) (new : Bool) → Progress i v n j → MakingNeeded v j (Ok new) k → m ≡ n + cond new 1 0 → Progress i (v + 1) m k
progress_step i j k v n m new p (same, held, is) e = record {
  same = same ∙ p.same;
  kept = λ u.
      held u ∙ ap (λ z. z || (eqb u v && needed_in (book_of j) u)) (p.kept u)
      ∙ ap (λ b. kept_below (book_of i) (is_kept i) v u || (eqb u v && needed_in b u)) p.same
      ∙ kept_next (is_kept i u) (needed_in (book_of i) u) (ltb u v) (eqb u v) (ltb u (v + 1)) (below_next u v);
  made =
      let test : new ≡ (needed_in (book_of i) v && not (is_kept i v)) =
      is ∙ ap (λ b. needed_in b v && not (is_kept j v)) p.same
      ∙ ap (λ z. needed_in (book_of i) v && not z) (p.kept v ∙ kept_here (book_of i) (is_kept i) v) in
      e ∙ ap (λ z. z + cond new 1 0) p.made ∙ ap (λ z. made_below (book_of i) (is_kept i) v + cond z 1 0) test
      ∙ sym (keep_count (λ u. needed_in (book_of i) u && not (is_kept i u)) v);
}

-- what was gone through is not crowded
fits_below : (i j : Job) (v n : ℕ) → Progress i v n j → (u : ℕ) → u < v → crowded_at (book_of i) u ≡ false
fits_below i j v n p u l =
    ⊎_elim
    (λ h. and_right _ _ (ap (λ b. too_many b u) (sym p.same) ∙ kept_fits j u (progress_below i j v n p u l (ap (λ b. needed_in b u) p.same ∙ h))))
    (λ h. and_left _ _ h)
    (cases_Bool (needed_in (book_of i) u))

pub progress_crowded : (i j k : Job) (v n : ℕ) (e : Refusal) → Progress i v n j → MakingNeeded v j (Err e) k → (g : ℕ) × (e ≡ Crowded g) × Stopped i g k
progress_crowded i j k v n e p (is, named, crowd) = (
  v,
  named,
  record {
    same = ap book_of is ∙ p.same;
    kept = λ u. ap (λ z. is_kept z u) is ∙ p.kept u;
    crowd = ap (λ b. crowded_at b v) (sym p.same) ∙ crowd;
    lowest = fits_below i j v n p;
  },
)

pub progress_done : (i j : Job) (n : ℕ) → Progress i (length (book_of i).drawing.nodes) n j → Ready i n j
progress_done i j n p = record {
  same = p.same;
  kept = p.kept;
  made = p.made;
  fits = λ u. ⊎_elim
      (λ (l : u < length (book_of i).drawing.nodes). fits_below i j _ n p u l)
      (λ (l : length (book_of i).drawing.nodes ≤ u). and_left _ _ (and_left _ _ (ap is_gate (get_or_past (book_of i).drawing.nodes u Constant l))))
      (cases_lt u (length (book_of i).drawing.nodes));
}

none_kept : (p : ℕ → Bool) (xs : List ℕ) → ((u : ℕ) → p u ≡ false) → length (keep p xs) ≡ 0
none_kept p [] h = refl
none_kept p (x ∷ xs) h = rw (h x) (none_kept p xs h)

-- where every needed gate has its list kept, none is to be made
pub ready_all : (i : Job) → AllKept i → Ready i 0 i
ready_all i h = record {
  same = refl;
  kept = λ u. nothing_new (is_kept i u) (ltb u (length (book_of i).drawing.nodes)) (needed_in (book_of i) u) (h u);
  made = sym (none_kept (λ u. needed_in (book_of i) u && not (is_kept i u)) (range_with_len 0 (length (book_of i).drawing.nodes)) (λ u. not_both (is_kept i u) (needed_in (book_of i) u) (h u)));
  fits = λ u. ⊎_elim (λ e. and_right _ _ (kept_fits i u (h u e))) (λ e. and_left _ _ e) (cases_Bool (needed_in (book_of i) u));
}
  where
    nothing_new : (a x c : Bool) → (c ≡ true → a ≡ true) → a ≡ (a || (x && c))
    nothing_new true x c h = refl
    nothing_new false x true h = absurd (both_ways false refl (h refl))
    nothing_new false x false h = sym (and_right x false refl)

    not_both : (a c : Bool) → (c ≡ true → a ≡ true) → (c && not a) ≡ false
    not_both a false h = refl
    not_both true true h = refl
    not_both false true h = absurd (both_ways false refl (h refl))

-- no more lists are made than nodes are gone through
pub made_small : (b : Book) (held : ℕ → Bool) (v : ℕ) → made_below b held v ≤ v
made_small b held v =
    let p : ℕ → Bool = λ u. needed_in b u && not (held u) in
    omega (arith, length-filter_both p (λ u. not (p u)) (λ u. refl) (range_with_len 0 v), length-range_with_len 0 v)

-- the facts that the loop has at v
module _ (i j : Job) (v n : ℕ) (p : Progress i v n j) where
  pub inside_same : v < length (book_of i).drawing.nodes → v < length (book_of j).drawing.nodes
  inside_same l = subst (λ b. v < length b.drawing.nodes) (sym p.same) l

-- the marks serve as long as the drawing stays
pub marked_same : (i j : Job) → book_of j ≡ book_of i → (marks : List Bool) → MarksNeeded (book_of i).drawing marks → MarksNeeded (book_of j).drawing marks
marked_same i j e marks m = subst (λ b. MarksNeeded b.drawing marks) (sym e) m
