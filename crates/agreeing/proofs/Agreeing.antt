-- Comparing a label with what the elements of a left label stand for, an element at a time; the label of the item that is
-- tried; and what the length of a label and its atom say of it. Rests on Values, on parts' Series and on slots' Comparing.
use mathlib.Core.Path.{◌≡◌, refl, sym, ◌∙◌, ap}
use mathlib.Core.Bool.{Bool, true, false}
use mathlib.Core.Option.{some, none}
use mathlib.Core.List.{List, [], ◌∷◌, ◌++◌}
use Prim.Native.Nat.{ℕ, ◌+◌, ◌-◌, ◌<◌, ◌≤◌}
use native.Mathlib.Omega.{arith}
use borrow.Author.Tests.{eqb-true}
use lib.Dec.{eqb}
use lib.ListN.{length, get_or, take, drop}
use Rattle.meaning.specs.Basics.{choose, both, same, concat}
use Rattle.meaning.specs.Layout.{Host}
use Rattle.meaning.specs.Image.{Rule, field, element, label}
use Rattle.meaning.specs.References.{labels, takes_list, lists}
use Rattle.meaning.specs.Matching.{Assignment, left_nodes, total, atoms_of, instance}
use Rattle.meaning.specs.Assigned.{assigned}
use Rattle.meaning.specs.FirstMatch.{length_fits, label_agrees}
use Rattle.meaning.specs.Laws.Tests.{choose_eq, both_yes, both-no}
use Rattle.meaning.specs.Laws.Every.{Every}
use Rattle.meaning.specs.declared.Element.{Element}
use Rattle.meaning.specs.declared.Element.TheVariants.{Constant}
use Rattle.fields.specs.Laws.{Lies}
use Rattle.slots.specs.Comparing.{same_step, same_end}
use Rattle.parts.specs.Series.{Series, Taken, series-none, series-some, series-there}
use Rattle.parts.specs.Elements.{Counted}
use Rattle.parts.specs.Walks.{spells_label}
use Rattle.parts.specs.declared.Counts.{Counts}
use Rattle.plan.specs.Plan.{Planned, label_of, constant_at, elements_at, lists_at, nodes_at, sort_at}
use Rattle.std.specs.Prelude.{Some, None}
use Rattle.agreeing.specs.Placed.{Known, slots, label_at, Tried}
use Rattle.agreeing.specs.Agreeing.{ElementValued, HasElement, HasElements, AgreesFrom}
use Rattle.agreeing.specs.Candidates.{Candidate, Guessed}
use Rattle.agreeing.proofs.Parts.{counted-simple}
use Rattle.agreeing.proofs.Values.{label-valued}
use Rattle.agreeing.specs.Trials.{item-there}

-- An element at a time.

module _ {h : Host} {bs plan at : List ℕ} {i c : ℕ} {p : List ℕ} (w : HasElements h bs plan at i c p) where
  -- the values that the placement gives
  abbrev pub values : Assignment
  values = assigned h w.trial.rule w.trial.placed

  -- what the elements before a place of the bytes stand for is there, up to an atom; those behind have values
  pub record Comparing (m : List ℕ) (place from : ℕ) : Type 0 where
    pub later : List Element
    pub series : Series element later [] (drop place p)
    pub equal : same (drop from m) (instance values later) ≡ same m (instance values w.elements)
    pub valued : Every (ElementValued w.trial.rule w.trial.placed) later

  pub comparing_start : (m : List ℕ) → Comparing m 0 0
  comparing_start m = record { later = w.elements; series = spells_label p w.elements w.spelt; equal = refl; valued = w.valued }

module _ {h : Host} {bs plan at : List ℕ} {i c : ℕ} {p : List ℕ} {w : HasElements h bs plan at i c p} {m : List ℕ} {place from : ℕ} (t : Comparing w m place from) where
  -- a label that has not ended has a field
  pub comparing_there : place < length p → field (drop place p) ≡ none → ⊥
  comparing_there j k = series-there element p place t.later t.series j k

  module _ {tag start end : ℕ} {part : List ℕ} (j : place < length p) (k : Lies p place tag start end) (d : part ≡ take (end - start) (drop start p)) where
    pub step : Taken element t.later p tag start end
    step = series-some element p place t.later t.series j tag start end k

    pub front-valued : Every (ElementValued w.trial.rule w.trial.placed) (step.first ∷ step.others)
    front-valued = rw step.parts at t.valued

    abbrev pub comparing_element : HasElement h bs plan at i c tag part
    comparing_element = record { trial = w.trial; element = step.first; spelt = ap (element tag) d ∙ step.read; valued = front-valued.0 }

    both-parts : both (same (take (length (atoms_of (values w) step.first)) (drop from m)) (atoms_of (values w) step.first))
        (same (drop (from + length (atoms_of (values w) step.first)) m) (instance (values w) step.others))
        ≡ same m (instance (values w) w.elements)
    unfolding concat
    both-parts =
        let f : same (drop from m) (atoms_of (values w) step.first ++ instance (values w) step.others) ≡ same m (instance (values w) w.elements) =
        rw step.parts at t.equal
        in
        sym (same_step m (atoms_of (values w) step.first) (instance (values w) step.others) from) ∙ f

    pub comparing_fails : AgreesFrom m from (atoms_of (values w) step.first) None → false ≡ same m (instance (values w) w.elements)
    comparing_fails a = sym (both-no _ _ a) ∙ both-parts

    pub comparing_next : {o : ℕ} → AgreesFrom m from (atoms_of (values w) step.first) (Some o) → Comparing w m end o
    comparing_next a = record { later = step.others; series = step.series; equal = rw a.0 (sym (both_yes _ _ a.2) ∙ both-parts); valued = front-valued.1 }

  pub comparing_end : length p ≤ place → from ≤ length m → eqb from (length m) ≡ same m (instance (values w) w.elements)
  unfolding concat
  comparing_end j k =
      let e : same (drop from m) [] ≡ same m (instance (values w) w.elements) = rw (series-none element p place t.later t.series j) at t.equal in
      sym (same_end m from k) ∙ e

-- The label of the item that is tried.

-- the plan has as many nodes as the rule has on the left
pub planned-label : {bs : List ℕ} {r : Rule} {plan : List ℕ} → Planned bs r plan → (h : Host) (i c : ℕ)
    → label_at h (get_or plan nodes_at 0) i c ≡ label_at h (left_nodes r) i c
planned-label {r = r} {plan = plan} p h i c = let m : get_or plan nodes_at 0 ≡ left_nodes r = p.laid.items.nodes in rw m

module _ {h : Host} {bs plan at : List ℕ} {i c : ℕ} (w : Tried h bs plan at i c) where
  pub last-there : i < total w.trial.rule
  last-there = omega (arith, w.last, w.trial.few)

  last-slot : c ≡ get_or w.trial.placed i 0
  last-slot = let n = w.last in sym (choose_eq i i c (get_or at i 0) refl) ∙ w.trial.slot i (omega arith)

  pub last-inside : c < slots h (get_or plan nodes_at 0) i
  last-inside =
      let n = w.last in
      let m : get_or plan nodes_at 0 ≡ left_nodes w.trial.rule = w.trial.planned.laid.items.nodes in
      rw (m, last-slot) (w.trial.inside i (omega arith))

  pub last-valued : Every (ElementValued w.trial.rule w.trial.placed) (get_or (labels w.trial.rule.left) i [])
  last-valued = let n = w.last in label-valued w.trial.rule w.trial.placed w.trial.planned.laid.holds i (omega arith)

  abbrev pub spelt-last : (p : List ℕ) → label p ≡ some (get_or (labels w.trial.rule.left) i []) → HasElements h bs plan at i c p
  spelt-last p e =
      record {
        trial = w.trial;
        elements = get_or (labels w.trial.rule.left) i [];
        spelt = e;
        valued = last-valued;
      }

-- What the length of a label says, and its atom where it is to be one constant.

same-one : (m : List ℕ) (x : ℕ) → length m ≡ 1 → same m (x ∷ []) ≡ eqb (get_or m 0 0) x
unfolding same both
same-one [] x e = absurd (omega arith)
same-one (a ∷ []) x e = at (eqb a x)
  where
    at : (b : Bool) → both b true ≡ b
    at true = refl
    at false = refl
same-one (a ∷ b ∷ m) x e = absurd (omega arith)

module _ (r : Rule) (l : List Element) (m : List ℕ) where
  module _ (x : ℕ) (is : l ≡ Constant x ∷ []) (e : true ≡ length_fits r l m) where
    pub constant-one : length m ≡ 1
    unfolding length_fits lists takes_list choose
    constant-one = let f : true ≡ length_fits r (Constant x ∷ []) m = rw is at e in eqb-true (length m) 1 (sym f)

    constant-same : (α : Assignment) → label_agrees r α l m ≡ eqb (get_or m 0 0) x
    unfolding label_agrees concat atoms_of
    constant-same α = both_yes _ _ (sym e) ∙ rw is (same-one m x constant-one)

    pub guessed_constant : (sort : ℕ) (b : Bool) → b ≡ eqb (get_or m 0 0) x → Guessed r sort l m b
    guessed_constant sort b f =
        record {
          no = λ q α. constant-same α ∙ sym f ∙ q;
          length = λ q. sym e;
          constant = λ q z α. constant-same α ∙ sym f ∙ q;
        }

  pub guessed_yes : (sort : ℕ) → true ≡ length_fits r l m → (sort ≡ 2 → ⊥) → Guessed r sort l m true
  guessed_yes sort e d =
      record {
        no = λ q. let z : ◌≡◌ {A = ℕ} 0 1 = cc in absurd (omega arith);
        length = λ q. sym e;
        constant = λ q f. absurd (d f);
      }

  pub guessed_no : (sort : ℕ) → false ≡ length_fits r l m → Guessed r sort l m false
  unfolding label_agrees
  guessed_no sort e =
      record {
        no = λ q α. both-no _ _ (sym e);
        length = λ q. let z : ◌≡◌ {A = ℕ} 0 1 = cc in absurd (omega arith);
        constant = λ q. let z : ◌≡◌ {A = ℕ} 0 1 = cc in absurd (omega arith);
      }

-- A candidate, in a rule that the plan is of.

module _ {h : Host} {bs plan : List ℕ} {i c : ℕ} (k : Candidate h bs plan i c) where
  pub candidate_inside : c < slots h (get_or plan nodes_at 0) i
  candidate_inside = let n : get_or plan nodes_at 0 ≡ left_nodes k.rule = k.planned.laid.items.nodes in rw n k.inside

  module _ (w : Known bs plan) where
    known-counted : (s : Counts) → s.elements ≡ get_or plan (elements_at + i) 0 → s.lists ≡ get_or plan (lists_at + i) 0 → Counted w.rule (label_of w.rule i) s
    known-counted s e f = let t = w.planned.labelled i (item-there w k) in record { long = e ∙ t.elements; listed = f ∙ t.lists }

    pub known_constant : get_or plan (sort_at + i) 0 ≡ 2 → label_of w.rule i ≡ Constant (get_or plan (constant_at + i) 0) ∷ []
    known_constant = (w.planned.labelled i (item-there w k)).constant

    pub known-fits : (s : Counts) (n : ℕ) (g : Bool) → s.elements ≡ get_or plan (elements_at + i) 0 → s.lists ≡ get_or plan (lists_at + i) 0
        → n ≡ length (label_at h (get_or plan nodes_at 0) i c) → ((x : Rule) (l : List Element) (m : List ℕ) → Counted x l s → n ≡ length m → g ≡ length_fits x l m)
        → g ≡ length_fits w.rule (label_of w.rule i) (label_at h (left_nodes w.rule) i c)
    known-fits s n g e f z t = t w.rule _ _ (known-counted s e f) (z ∙ ap length (planned-label w.planned h i c))

  abbrev pub candidate_known : Known bs plan
  candidate_known = record { rule = k.rule; planned = k.planned }

  pub candidate_simple : (s : Counts) → s.elements ≡ get_or plan (elements_at + i) 0 → s.lists ≡ get_or plan (lists_at + i) 0 → s.lists ≤ s.elements
  candidate_simple s e f = counted-simple k.planned.laid.holds i s (known-counted candidate_known s e f)
