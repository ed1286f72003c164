-- An item that is read again at its place. Rests on Items and on parsing's Laws.
use Rattle.std.specs.Prelude.{◌≡◌, Ok, Err, List, ℕ}
use Rattle.std.proofs.Common.{sym, ◌∙◌, ap}
use Rattle.meaning.specs.declared.Table.{Table}
use Rattle.meaning.specs.declared.Table.TheVariants.{Nodes, Edges}
use Rattle.text.specs.Grammar.{NodeItem, EdgeItem, Read, got}
use Rattle.parsing.specs.Reading.{Reads, Breaks}
use Rattle.parsing.specs.Laws.{got-broke}
use Rattle.parsing.specs.declared.BrokenAt.{BrokenAt}
use Rattle.items.specs.declared.NodeAt.{NodeAt}
use Rattle.items.specs.declared.EdgeAt.{EdgeAt}
use Rattle.items.specs.Items.{ItemOf, body_of, IsNode, ReadsNode, IsEdge, ReadsEdge, At}

same-value : {A : Type 0} {r s : Read A} → got r ≡ got s → r.value ≡ s.value
same-value {r} {s} e = let h : r ≡ s = cc in ap (λ x. x.value) h

module _ (bs : List ℕ) where
  again : {t : Table} {p q : ℕ} {a b : ItemOf t} → At bs t p a → Reads bs p (body_of t) q b → b ≡ a
  again h x = same-value (sym x.read ∙ h.body)

  -- an item at its place does not break
  unbroken : {t : Table} {p : ℕ} {a : ItemOf t} {b : BrokenAt} → At bs t p a → Breaks bs p (body_of t) b → ⊥
  unbroken h x = got-broke (sym h.body ∙ x.read)

  pub node-again : {p : ℕ} {n : NodeItem} (r : NodeAt) → At bs Nodes p n → ReadsNode bs p (Ok r) → IsNode bs p r n
  node-again r h x = rw (again h x.1) at x.2

  pub node-unbroken : {p : ℕ} {n : NodeItem} {b : BrokenAt} → At bs Nodes p n → ReadsNode bs p (Err b) → ⊥
  node-unbroken h x = unbroken h x

  pub edge-again : {p : ℕ} {e : EdgeItem} (r : EdgeAt) → At bs Edges p e → ReadsEdge bs p (Ok r) → IsEdge bs p r e
  edge-again r h x = rw (again h x.1) at x.2

  pub edge-unbroken : {p : ℕ} {e : EdgeItem} {b : BrokenAt} → At bs Edges p e → ReadsEdge bs p (Err b) → ⊥
  edge-unbroken h x = unbroken h x
