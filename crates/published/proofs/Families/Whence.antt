-- Where the nodes of a result come from: a node is one that the match leaves alone, with the label that it had, or stands where the
-- right side puts one of its nodes, with that node's root flag and mark, or with the root flag that it had. Rests on
-- RuleApplication and OneResult.
use Rattle.std.specs.Prelude.{◌≡◌, refl, ◌⊎◌, Bool, true, false, ℕ, ◌<◌, ◌≤◌, eqb, length}
use Rattle.std.proofs.Common.{sym, ◌∙◌, ap, subst, inl, inr, arith, eqb-true}
use Rattle.std.proofs.Math.Decide.{dec_lt}
use Rattle.meaning.specs.Basics.{choose, both}
use Rattle.meaning.specs.Image.{Rule}
use Rattle.meaning.specs.Tags.{any_mark}
use Rattle.meaning.specs.References.{rule_holds}
use Rattle.meaning.specs.Laws.Tests.{both_true, choose_lt, choose_le, choose_ne}
use Rattle.meaning.specs.Laws.Every.{Every, Every-in}
use Rattle.meaning.specs.Laws.Interface.{interface-right}
use Rattle.published.specs.Graphs.{Graph, Node}
use Rattle.published.specs.RuleApplication.{node_of, StaysNode, root_from, Applies}
use Rattle.published.proofs.OneResult.{value_of}
use Rattle.published.specs.Families.Whence as Defs

-- the root flag of a node of K is that of R, or it is kept
from_either : (preserving : Bool) (left before right : ℕ)
    → (root_from preserving left before right ≡ right) ⊎ ((left ≡ 0) × (root_from preserving left before right ≡ before))
unfolding choose
from_either false left before right = inl refl
from_either true left before right = at (both (eqb left 0) (eqb right 0)) refl
  where
    at : (b : Bool) → both (eqb left 0) (eqb right 0) ≡ b → (choose b before right ≡ right) ⊎ ((left ≡ 0) × (choose b before right ≡ before))
    at false q = inl refl
    at true q = inr (eqb-true left 0 (both_true _ _ q).0, refl)

module _ (r : Rule) (G H : Graph) (a : Applies r G H) where
  abbrev place : ℕ → ℕ
  place = Defs.place r G H a

  abbrev Untouched : (v z : ℕ) → Type 0
  Untouched = Defs.Untouched r G H a

  abbrev Other : ℕ → Type 0
  Other = Defs.Other r G H a

  abbrev RootKept : (j z : ℕ) → Type 0
  RootKept = Defs.RootKept r G H a

  abbrev Right : (z : ℕ) → Type 0
  Right = Defs.Right r G H a

  module _ (holds : rule_holds r ≡ true) where
    -- a right node is where it is placed
    pub right-placed : (j : ℕ) → j < length r.right.nodes → Right (place j)
    right-placed j l = at (dec_lt j r.interface)
      where
        flag : (j : ℕ) → j < r.interface → {t : ℕ} → (H.node_label (place j)).root ≡ t
            → (t ≡ (node_of r.right j).root) ⊎ (((node_of r.left j).root ≡ 0) × (t ≡ (G.node_label (a.match.g.node j)).root))
            → ((H.node_label (place j)).root ≡ (node_of r.right j).root) ⊎ RootKept j (place j)
        flag j k e (inl q) = inl (e ∙ q)
        flag j k e (inr q) = inr (record { inside = k; left = q.0; root = e ∙ q.1 })

        at : Dec (j < r.interface) → Right (place j)
        at (yes k) =
            let p = choose_lt j r.interface (a.constructed.keep_node (a.match.g.node j)) (a.constructed.new_node j) k in
            let new = a.constructed.interface_labels j k in
            record {
              node = j;
              listed = l;
              here = refl;
              root = flag j k (ap (λ (u : ℕ). (H.node_label u).root) p ∙ new.root) (from_either r.preserving _ _ _);
              mark = λ n. ap (λ (u : ℕ). (H.node_label u).mark) p ∙ new.mark ∙ choose_ne _ _ _ _ n;
            }
        at (no k) =
            let p = choose_le j r.interface (a.constructed.keep_node (a.match.g.node j)) (a.constructed.new_node j) (omega arith) in
            let new = a.constructed.new_labels j (omega arith) l in
            record {
              node = j;
              listed = l;
              here = refl;
              root = inl (ap (λ (u : ℕ). (H.node_label u).root) p ∙ new.root);
              mark = λ n. ap (λ (u : ℕ). (H.node_label u).mark) p ∙ new.mark;
            }

    pub whence-stays : (z v : ℕ) → StaysNode r G a.match.g v → a.constructed.keep_node v ≡ z → Right z ⊎ Untouched v z
    whence-stays z v s q = at (value_of a.match.g.node r.interface v)
      where
        free : ((i : ℕ) → i < r.interface → a.match.g.node i ≡ v → ⊥) → (i : ℕ) → Dec (i < r.interface) → i < length r.left.nodes
            → a.match.g.node i ≡ v → ⊥
        free f i (yes k) l p = f i k p
        free f i (no k) l p = s.kept i (omega arith) l p

        at : ((i : ℕ) × (i < r.interface) × (a.match.g.node i ≡ v)) ⊎ ((i : ℕ) → i < r.interface → a.match.g.node i ≡ v → ⊥)
            → Right z ⊎ Untouched v z
        at (inl t) =
            let few = interface-right r holds in
            let p = choose_lt t.0 r.interface _ _ t.1 ∙ ap a.constructed.keep_node t.2 ∙ q in
            inl (subst Right p (right-placed t.0 (omega (arith, t.1))))
        at (inr f) =
            inr
            (record {
              stays = s;
              free = λ t. free f t.0 (dec_lt t.0 r.interface) t.1 t.2;
              here = q;
              label = ap H.node_label (sym q) ∙ a.constructed.kept_labels v s f;
            })

    pub whence : (z : ℕ) → Node H z → Right z ⊎ Other z
    whence z k = from (a.constructed.nodes.all z k)
      where
        old : (v : ℕ) → Right z ⊎ Untouched v z → Right z ⊎ Other z
        old v (inl t) = inl t
        old v (inr t) = inr (v, t)

        from : ((v : ℕ) × StaysNode r G a.match.g v × (a.constructed.keep_node v ≡ z))
            ⊎ ((j : ℕ) × ((r.interface ≤ j) × (j < length r.right.nodes)) × (a.constructed.new_node j ≡ z)) → Right z ⊎ Other z
        from (inl t) = old t.0 (whence-stays z t.0 t.1 t.2)
        from (inr t) = inl (subst Right (choose_le t.0 r.interface _ _ t.1.0 ∙ t.2) (right-placed t.0 t.1.1))

    -- where no right node has the mark c, nodes of that mark are left alone
    module _ (c : ℕ) (none : Every (λ n. (n.mark ≡ any_mark → ⊥) × (n.mark ≡ c → ⊥)) r.right.nodes) where
      pub not_made : (z : ℕ) → (H.node_label z).mark ≡ c → Right z → ⊥
      not_made z e t =
          let n = Every-in (λ n. (n.mark ≡ any_mark → ⊥) × (n.mark ≡ c → ⊥)) r.right.nodes none t.node t.listed _ in
          n.1 (sym (t.mark n.0) ∙ e)

      pub marked-stays : (v : ℕ) → StaysNode r G a.match.g v → (H.node_label (a.constructed.keep_node v)).mark ≡ c
          → Untouched v (a.constructed.keep_node v)
      marked-stays v s e = at (whence-stays _ v s refl)
        where
          at : Right (a.constructed.keep_node v) ⊎ Untouched v (a.constructed.keep_node v) → Untouched v (a.constructed.keep_node v)
          at (inl t) = absurd (not_made _ e t)
          at (inr t) = t

      pub marked-whence : (z : ℕ) → Node H z → (H.node_label z).mark ≡ c → Other z
      marked-whence z k e = at (whence z k)
        where
          at : Right z ⊎ Other z → Other z
          at (inl t) = absurd (not_made z e t)
          at (inr t) = t
