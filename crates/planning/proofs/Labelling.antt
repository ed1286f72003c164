-- What a plan says of left labels: their sorts, and the stores that say it. Rests on plan's Plan and on parts' Walks.
use mathlib.Core.Path.{◌≡◌, refl, sym, ◌∙◌, ap}
use mathlib.Core.Logic.{◌⊎◌, inl, inr}
use mathlib.Core.Option.{some}
use mathlib.Core.List.{List, [], ◌∷◌}
use Prim.Native.Nat.{ℕ, ◌+◌, ◌<◌, ◌≤◌}
use native.Mathlib.Omega.{arith}
use native.Mathlib.Decide.{ℕ_discrete}
use lib.ListN.{length, get_or, set, length-set}
use Rattle.meaning.specs.Image.{Rule, element, label, most_items}
use Rattle.meaning.specs.declared.Element.{Element}
use Rattle.meaning.specs.declared.Element.TheVariants.{Constant as constant_element}
use Rattle.parts.specs.Series.{series-none}
use Rattle.parts.specs.Elements.{Begins, behind, Counted}
use Rattle.parts.specs.Walks.{spells_label, shorter}
use Rattle.parts.specs.declared.Counts.{Counts}
use Rattle.planning.specs.Planning.{Named, FreshBy, Sorts, OnlyLabel}
use Rattle.plan.specs.Plan.{label_of, Alone, Labelled, constant_at, edges_at, nodes_at, plan_length, sort_at, elements_at, lists_at, first_at}
use Rattle.planning.specs.declared.Sort.{Sort}
use Rattle.planning.specs.declared.Sort.TheVariants.{Length, Constant}
use Rattle.planning.proofs.Stores.{other, stored, named-same, labelled-same}

-- A label whose first element ends where its bytes end.

pub only_one : {p : List ℕ} {e : Element} {end : ℕ} → Begins p e end → length p ≤ end → (l : List Element) → label p ≡ some l → l ≡ e ∷ []
only_one {p} {e} {end} b h l q =
    let n = b.next l (spells_label p l q) in
    n.whole ∙ ap (λ (m : List Element). e ∷ m) (series-none element (behind p end) 0 n.later n.spelt (omega (arith, shorter b)))

-- The stores of the counts and the sort of the label of item j.

module _ {bs : List ℕ} {r : Rule} {plan : List ℕ} (w : Named bs r plan (length r.variables)) {j : ℕ} (there : j < get_or plan nodes_at 0 + get_or plan edges_at 0) {c : Counts} (is : Counted r (label_of r j) c) where
  abbrev one : List ℕ
  one = set plan (elements_at + j) c.elements

  abbrev two : List ℕ
  two = set one (lists_at + j) c.lists

  low : j < most_items
  low = omega (arith, there, w.laid.items.nodes, w.laid.items.edges, w.laid.items.few_nodes, w.laid.items.few_edges)

  one_size : length one ≡ plan_length
  one_size = length-set plan (elements_at + j) c.elements ∙ w.laid.items.size

  two_size : length two ≡ plan_length
  two_size = length-set one (lists_at + j) c.lists ∙ one_size

  two-other : (x : ℕ) → (x ≡ elements_at + j → ⊥) → (x ≡ lists_at + j → ⊥) → get_or two x 0 ≡ get_or plan x 0
  two-other x a b = other one (lists_at + j) c.lists x b ∙ other plan (elements_at + j) c.elements x a

  -- with the sort z, and possibly a constant
  module _ (z : ℕ) {after : List ℕ} (long : length after ≡ length (set two (sort_at + j) z)) (same : (x : ℕ) → (x ≡ constant_at + j → ⊥) → get_or after x 0 ≡ get_or (set two (sort_at + j) z) x 0) where
    said : (z ≡ 1 → Alone r j (label_of r j)) → (z ≡ 2 → label_of r j ≡ constant_element (get_or after (constant_at + j) 0) ∷ []) → Labelled r after j × OnlyLabel plan after j
    said alone constant =
        let h = low in
        let sort : get_or after (sort_at + j) 0 ≡ z = same (sort_at + j) (λ e. omega arith) ∙ stored two (sort_at + j) z two_size (omega arith) in (
          record {
            elements = same (elements_at + j) (λ e. omega arith) ∙ other two (sort_at + j) z (elements_at + j) (λ e. omega arith) ∙ other one (lists_at + j) c.lists (elements_at + j) (λ e. omega arith) ∙ stored plan (elements_at + j) c.elements w.laid.items.size (omega arith) ∙ is.long;
            lists = same (lists_at + j) (λ e. omega arith) ∙ other two (sort_at + j) z (lists_at + j) (λ e. omega arith) ∙ stored one (lists_at + j) c.lists one_size (omega arith) ∙ is.listed;
            alone = λ e. alone (sym sort ∙ e);
            constant = λ e. constant (sym sort ∙ e);
          },
          record {
            size = long ∙ length-set two (sort_at + j) z ∙ length-set one (lists_at + j) c.lists ∙ length-set plan (elements_at + j) c.elements;
            kept = λ x e f g k. same x k ∙ other two (sort_at + j) z x g ∙ two-other x e f;
          },
        )

  pub said-elements : Labelled r (set two (sort_at + j) 0) j × OnlyLabel plan (set two (sort_at + j) 0) j
  said-elements = said 0 refl (λ x h. refl) (λ q. absurd (omega arith)) (λ q. absurd (omega arith))

  module _ {types : List ℕ} (typed : types ≡ r.variables) where
    alone : (label_of r j ≡ []) ⊎ FreshBy (length types) two j (label_of r j) → Alone r j (label_of r j)
    alone (inl e) = inl e
    alone (inr f) =
        let h : f.variable < length r.variables = rw (← typed) f.there in
        let few = w.laid.few_variables in
        inr (record {
          variable = f.variable;
          is = f.is;
          first = sym (w.first f.variable h).item ∙ sym (two-other (first_at + f.variable) (λ e. omega arith) (λ e. omega arith)) ∙ f.first;
        })

    pub said-length : (s : Sort) → Sorts (length types) two j (label_of r j) s → s ≡ Length → Labelled r (set two (sort_at + j) 1) j × OnlyLabel plan (set two (sort_at + j) 1) j
    said-length s sorted e = said 1 refl (λ x h. refl) (λ q. alone (rw e at sorted)) (λ q. absurd (omega arith))

    pub said-constant : (s : Sort) → Sorts (length types) two j (label_of r j) s → {x : ℕ} → s ≡ Constant x → Labelled r (set (set two (sort_at + j) 2) (constant_at + j) x) j × OnlyLabel plan (set (set two (sort_at + j) 2) (constant_at + j) x) j
    said-constant s sorted {x} e =
        let h = low in
        let size : length (set two (sort_at + j) 2) ≡ plan_length = length-set two (sort_at + j) 2 ∙ two_size in
        let is : label_of r j ≡ constant_element x ∷ [] = rw e at sorted in
        said 2 (length-set (set two (sort_at + j) 2) (constant_at + j) x) (other (set two (sort_at + j) 2) (constant_at + j) x) (λ q. absurd (omega arith)) (λ q. is ∙ ap (λ (y : ℕ). constant_element y ∷ []) (sym (stored (set two (sort_at + j) 2) (constant_at + j) x size (omega arith))))

-- The loop over the labels: those before number j are labelled.

pub record Labelling (bs : List ℕ) (r : Rule) (plan : List ℕ) (j : ℕ) : Type 0 where
  pub named : Named bs r plan (length r.variables)
  pub labelled : (i : ℕ) → i < j → Labelled r plan i

pub labelling-next : {bs : List ℕ} {r : Rule} {plan after : List ℕ} {j : ℕ} → Labelling bs r plan j → j < most_items → Labelled r after j × OnlyLabel plan after j → Labelling bs r after (j + 1)
labelling-next {bs} {r} {plan} {after} {j} w low (said, only) =
    record {
      named = named-same only.size (λ x a b c. only.kept x (λ e. let k = c (omega arith) in omega arith) (λ e. let k = c (omega arith) in omega arith) (λ e. let k = c (omega arith) in omega arith) (λ e. let k = c (omega arith) in omega arith)) w.named;
      labelled = λ i h. at i h (ℕ_discrete i j);
    }
  where
    at : (i : ℕ) → i < j + 1 → Dec (i ≡ j) → Labelled r after i
    at i h (yes e) = rw e said
    at i h (no e) =
        let k : i < j = omega arith in
        labelled-same only.size (only.kept (elements_at + i) (λ q. omega arith) (λ q. omega arith) (λ q. omega arith) (λ q. omega arith)) (only.kept (lists_at + i) (λ q. omega arith) (λ q. omega arith) (λ q. omega arith) (λ q. omega arith)) (only.kept (sort_at + i) (λ q. omega arith) (λ q. omega arith) (λ q. omega arith) (λ q. omega arith)) (only.kept (constant_at + i) (λ q. omega arith) (λ q. omega arith) (λ q. omega arith) (λ q. omega arith))
        (w.labelled i k)
