-- Which lines begin with which word.
use Rattle.std.proofs.Common.{◌≡◌, ℕ, true, List, [], ◌∷◌, ◌++◌, get_or, None, codes, Option, sym, refl, ap, subst, Bor, rules}
use Rattle.drawing.specs.declared.node.Pair.{Pair}
use Rattle.script.specs.declared.command.Kind.{Kind}
use Rattle.script.specs.declared.command.Command.{Command}
use Rattle.script.specs.declared.command.Command.TheVariants.{Input, Gate, Output, Retie, Width, Load, Map, Arrivals, Cover, Evaluate, Write, Kept, List as ListOf, Comment}
use Rattle.script.specs.declared.verb.Verb.{Verb}
use Rattle.script.specs.declared.verb.Verb.TheVariants as verb
use Rattle.script.specs.Fields.{then, IsTie, tie_text, IsFamily, family_text, row_text}
use Rattle.script.specs.Lines.{Fits, line_of}
use Rattle.script.specs.Names.{is_word, verb_name}
use Rattle.script.specs.Reads.{Reads}
use Rattle.script.proofs.Splits.{Cut, no_first, no_only}

-- a line `retie ..` is no command where no gate and pair are written behind it
retie_none : (t : List ℕ) → ((x : ℕ × Pair) → IsTie x → tie_text x ≡ t → ⊥) → Reads Fits line_of (then (codes "retie") t) None
retie_none t n Input f e = search rules
retie_none t n (Gate p) f e = search rules
retie_none t n (Output l) f e = search rules
retie_none t n (Retie g p) f e = n (g, p) f (search rules)
retie_none t n (Width k) f e = search rules
retie_none t n (Load m) f e = search rules
retie_none t n (Map k w) f e = search rules
retie_none t n Arrivals f e = search rules
retie_none t n Cover f e = search rules
retie_none t n (Evaluate r) f e = search rules
retie_none t n Write f e = search rules
retie_none t n Kept f e = search rules
retie_none t n (ListOf g) f e = search rules
retie_none t n (Comment text) f e = search rules

pub no_retie : (v : Verb) (t : List ℕ) (r : Option Command) → v ≡ verb.Retie → r ≡ None → ((x : ℕ × Pair) → IsTie x → tie_text x ≡ t → ⊥) → Reads Fits line_of (then (verb_name v) t) r
no_retie v t r is none h =
    subst (λ z. Reads Fits line_of (then (verb_name z) t) r) (sym is)
    (subst (λ o. Reads Fits line_of (then (codes "retie") t) o) (sym none) (retie_none t h))

-- a line `map ..` is no command where no family and width are written behind it
map_none : (t : List ℕ) → ((x : Kind × ℕ) → IsFamily x → family_text x ≡ t → ⊥) → Reads Fits line_of (then (codes "map") t) None
map_none t n Input f e = search rules
map_none t n (Gate p) f e = search rules
map_none t n (Output l) f e = search rules
map_none t n (Retie g p) f e = search rules
map_none t n (Width k) f e = search rules
map_none t n (Load m) f e = search rules
map_none t n (Map k w) f e = n (k, w) f (search rules)
map_none t n Arrivals f e = search rules
map_none t n Cover f e = search rules
map_none t n (Evaluate r) f e = search rules
map_none t n Write f e = search rules
map_none t n Kept f e = search rules
map_none t n (ListOf g) f e = search rules
map_none t n (Comment text) f e = search rules

pub no_map : (v : Verb) (t : List ℕ) (r : Option Command) → v ≡ verb.Map → r ≡ None → ((x : Kind × ℕ) → IsFamily x → family_text x ≡ t → ⊥) → Reads Fits line_of (then (verb_name v) t) r
no_map v t r is none h =
    subst (λ z. Reads Fits line_of (then (verb_name z) t) r) (sym is)
    (subst (λ o. Reads Fits line_of (then (codes "map") t) o) (sym none) (map_none t h))

-- a line whose first word is none of the names, and that is no comment, is no command
module _ (line w : List ℕ) (rest : Option (Bor (List ℕ))) (word : is_word w ≡ true) (cut : Cut line w rest) (none : (v : Verb) → Unit {0} → verb_name v ≡ w → ⊥) (plain : get_or line 0 0 ≡ 35 → ⊥) where
  only : (v : Verb) → is_word (verb_name v) ≡ true → verb_name v ≡ line → ⊥
  only v p e = no_only line w (verb_name v) rest word cut p (none v tt) e

  first : (v : Verb) (t : List ℕ) → is_word (verb_name v) ≡ true → then (verb_name v) t ≡ line → ⊥
  first v t p e = no_first line w (verb_name v) t rest word cut p (none v tt) e

  evaluates : (ds : List ℕ) → codes "evaluate" ++ row_text ds ≡ line → ⊥
  evaluates [] e = only verb.Evaluate refl e
  evaluates (d ∷ ds) e = first verb.Evaluate (d ∷ ds) refl e

  no_command : (c : Command) → Fits c → line_of c ≡ line → ⊥
  no_command Input f e = only verb.Input refl e
  no_command (Gate p) f e = first verb.Gate _ refl e
  no_command (Output l) f e = first verb.Output _ refl e
  no_command (Retie g p) f e = first verb.Retie _ refl e
  no_command (Width k) f e = first verb.Width _ refl e
  no_command (Load m) f e = first verb.Load _ refl e
  no_command (Map k w) f e = first verb.Map _ refl e
  no_command Arrivals f e = only verb.Arrivals refl e
  no_command Cover f e = only verb.Cover refl e
  no_command (Evaluate r) f e = evaluates r.now e
  no_command Write f e = only verb.Write refl e
  no_command Kept f e = only verb.Kept refl e
  no_command (ListOf g) f e = first verb.List _ refl e
  no_command (Comment text) f e = plain (ap (λ t. get_or t 0 0) (sym e))

  pub no_verb : (r : Option Command) → r ≡ None → Reads Fits line_of line r
  no_verb r e = subst (λ o. Reads Fits line_of line o) (sym e) no_command
