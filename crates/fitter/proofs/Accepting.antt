-- What the passes of map come to.
use Rattle.std.proofs.Common.{◌≡◌, ℕ, ◌≤◌, true, List, ◌++◌, length, drop, Err, sym, refl, ap, ◌∙◌, subst}
use Rattle.std.proofs.lemmas.List.{length-map}
use Rattle.std.proofs.lemmas.Bool.{and_parts, and_from, or_right, lt-ltb}
use Rattle.drawing.specs.declared.refusal.Refusal.{Refusal}
use Rattle.drawing.specs.declared.refusal.Refusal.TheVariants.{Crowded}
use Rattle.drawing.specs.Drawing.{Drawing, at, is_gate}
use Rattle.drawing.proofs.Sound.{gate_range}
use Rattle.family.specs.Family.{Delay}
use Rattle.choice.specs.Choice.{cells, taken_cut}
use Rattle.cells.specs.declared.cover.Cover.{Cover}
use Rattle.cells.specs.Netlist.{Netlist, cell_of}
use Rattle.covering.specs.Chosen.{chosen}
use Rattle.fitter.specs.declared.job.Job.{Job}
use Rattle.fitter.specs.Book.{size, needed_in}
use Rattle.fitter.specs.Jobs.{book_of, is_kept}
use Rattle.fitter.specs.Making.{Ready, Stopped}
use Rattle.fitter.specs.Taking.{AllKept, arrival_table}
use Rattle.fitter.specs.Mapping.{Accepted, Mapped}

-- once all lists are at hand
module _ (i j : Job) (made : ℕ) (r : Ready i made j) where
  pub ready_kept : AllKept j
  ready_kept u n =
      let n' : needed_in (book_of i) u ≡ true = ap (λ b. needed_in b u) (sym r.same) ∙ n in
      let l = gate_range (book_of i).drawing.nodes u (and_parts (is_gate (at (book_of i).drawing.nodes u)) _ n').0 in
      r.kept u ∙ or_right (is_kept i u) _ (and_from _ _ (lt-ltb u (size (book_of i)) l) n')

  pub ready_room : (n : ℕ) → size (book_of i) ≤ n → size (book_of j) ≤ n
  ready_room n l = subst (λ b. size b ≤ n) (sym r.same) l

module _ {A : Type 0} (F : Delay A) where
  cell_number : (d : Drawing) (k : ℕ) → length (chosen F d k).cells ≡ length (cells F d.nodes k d.outputs)
  unfolding chosen
  cell_number d k = length-map (cells F d.nodes k d.outputs) (λ v. cell_of d.nodes v (taken_cut F d.nodes k v))

  pub map_accepted : (i j : Job) (table after : List A) (count made : ℕ) (cover : Netlist) → F.width ≡ i.width → size (book_of i) ≤ length table → Ready i made j →
      cover ≡ chosen F (book_of j).drawing j.width → count ≡ length (cells F (book_of j).drawing.nodes j.width (book_of j).drawing.outputs) →
      after ≡ arrival_table F (book_of j) ++ drop (size (book_of j)) table → Accepted F i table (count, made) j cover after
  map_accepted i j table after count made cover w l r c n a =
      let e = r.same in
      record {
        fitting = w;
        room = l;
        ready = r;
        cover_chosen = c ∙ ap (λ b. chosen F b.drawing b.width) e;
        cell_count = n ∙ sym (cell_number (book_of j).drawing j.width) ∙ ap (λ z. length z.cells) (sym c);
        arrivals = a ∙ ap (λ b. arrival_table F b ++ drop (size b) table) e;
      }

  pub map_stopped : (i j : Job) (cover : Cover) (table : List A) (e : Refusal) → F.width ≡ i.width → size (book_of i) ≤ length table → (g : ℕ) × (e ≡ Crowded g) × Stopped i g j → Mapped F i cover table (Err e) j cover table
  map_stopped i j cover table e w l (g, is, s) =
      subst (λ z. Mapped F i cover table (Err z) j cover table) (sym is) (w, l, s, record { same_cover = refl; same_table = refl })
