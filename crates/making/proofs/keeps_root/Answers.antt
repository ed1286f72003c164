-- `making::keeps_root` meets its contract.
use Rattle.std.proofs.Common.{sym, ◌∙◌, eqb-true, eq-eqb}
use Rattle.std.proofs.lemmas.Bool.{false≢true}
use Rattle.fields.specs.Parsed.{rule_node-is}
use Rattle.making.proofs.Items.{root_kept, root-made, root_reflected}
use Rattle.making.proofs.keeps_root.Goals as goal
use Rattle.making.proofs.keeps_root.Goals.{then-preserving, else-preserving}

pub returns-then-byte_at-eq0 : goal.returns-then-byte_at-eq0
returns-then-byte_at-eq0 c =
    elim c.if-preserving.branch [
      | then-preserving w ↦ λ g e h d host.
          rw (c.byte_at-then-byte_at-eq0.ensures ∙ sym (rule_node-is _ _ (c.node_part.ensures g e h d)).root)
          (root_kept _ _ _ _ w.if-preserving.true (sym w.byte_at.ensures ∙ eqb-true _ _ (sym w.value-is ∙ c.if-byte_at-eq0.true)))
      | else-preserving w ↦ absurd (false≢true (sym w.if-preserving.false ∙ sym w.value-is ∙ c.if-byte_at-eq0.true))
    ]

pub returns-else-byte_at-eq0 : goal.returns-else-byte_at-eq0
returns-else-byte_at-eq0 c =
    elim c.if-preserving.branch [
      | then-preserving w ↦ λ g e h d host.
          rw c.if-byte_at-eq0.false
          (root-made _ _ _ _ (λ z. false≢true (sym c.if-byte_at-eq0.false ∙ w.value-is ∙ eq-eqb _ _ (w.byte_at.ensures ∙ z))))
      | else-preserving w ↦ λ g e h d host. rw c.if-byte_at-eq0.false (root_reflected _ _ _ _ w.if-preserving.false)
    ]
