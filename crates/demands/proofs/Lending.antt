-- What our run leaves with answer 0 can be lent to undo: bytes, lengths that fit, and a count of 32 bits. It holds over every layout whose
-- labels have a byte for their length. Rests on Started and Laws/Written.
use Rattle.std.specs.Prelude.{ℕ, ◌*◌, ◌/◌, ◌^◌, ◌<◌, ◌≡◌, List, map, reverse, length, get_or, drop}
use Rattle.std.proofs.Common.{sym, ◌∙◌, ap, subst, arith, length-append, length-drop}
use Rattle.meaning.specs.Basics.{concat}
use Rattle.meaning.specs.Numbers.{number, bytes}
use Rattle.meaning.specs.Layout.{Host, Slot, free, Node, Edge, Change, node_length, edge_length, write_node, write_edge, write_record}
use Rattle.meaning.specs.Commands.{Out}
use Rattle.meaning.specs.Calls.{Lent}
use Rattle.demands.specs.Demands.{Buffer, Lendable, LendableUndo, Outcome, outcome_at, reporting, lent_after}
use Rattle.demands.specs.Ours.{ours, end, Good}
use Rattle.demands.proofs.Ours.{ours-outcome, good}
use Rattle.demands.proofs.First.{run_settled, stop-answer}
use Rattle.demands.proofs.Started.{last-legal, written-fits}
use Rattle.laws.specs.Numbers.{length-bytes, Bytes-drop, number_lt}
use Rattle.demands.specs.Laws.Written.{Bytes-bytes, Bytes-append, Bytes-padded, Bytes-write, Bytes-write_node, Bytes-write_edge, Bytes-records}
use Rattle.laws.specs.Layout.{length-padded}
use Rattle.laws.specs.Pieces.{fits_whole}
use Rattle.laws.specs.Hosts.{length-write_nodes, length-write_edges}
use Rattle.laws.specs.Records.{LegalChange, Every-reverse}
use Rattle.laws.specs.Legality.{LegalLedger}
use Rattle.laws.specs.Undoing.{Numbered}
use Rattle.meaning.specs.declared.Layout.{Layout}
use Rattle.meaning.specs.declared.End.{End}
use Rattle.meaning.specs.declared.End.TheVariants.{Done, Failed, Broke, Stopped}

-- the records that a report states
stated-fits : (steps records : ℕ) → number (drop 4 (reporting steps records)) < 2 ^ 32
stated-fits steps records =
    let l : length (drop 4 (reporting steps records)) ≡ 4 = simp (length-drop, length-append, length-bytes) in
    let n = number_lt (drop 4 (reporting steps records)) (Bytes-drop 4 (reporting steps records) (Bytes-append (bytes 4 steps) (bytes 4 records) (Bytes-bytes 4 steps) (Bytes-bytes 4 records))) in
    subst (λ (k : ℕ). number (drop 4 (reporting steps records)) < 256 ^ k) l n

module _ (L : Layout) (numbered : Numbered L) (x : Lent) (k : Lendable x) (a : Good L x) where
  abbrev out : Out
  out = end L x a.tree

  legal : LegalLedger L (length x.nodes / node_length L) (length x.edges / edge_length L) out.state.ledger
  legal = last-legal L numbered x k a

  abbrev left : Outcome
  left = outcome_at L x Done out.state

  nodes-left : Buffer left.nodes
  nodes-left =
      let h : Host = out.state.ledger.host in
      let l : length left.nodes ≡ length x.nodes =
      length-write_nodes L h legal.host ∙ ap (λ (n : ℕ). n * node_length L) legal.nodes ∙ fits_whole _ _ x.nodes a.nodes_fit in
      record {
        bytewise = Bytes-write (write_node L) h.nodes free (λ i. Bytes-write_node L numbered.labels (get_or h.nodes i free) (legal.host.nodes i));
        fits = rw l k.nodes.fits;
      }

  edges-left : Buffer left.edges
  edges-left =
      let h : Host = out.state.ledger.host in
      let l : length left.edges ≡ length x.edges =
      length-write_edges L h legal.host ∙ ap (λ (n : ℕ). n * edge_length L) legal.edges ∙ fits_whole _ _ x.edges a.edges_fit in
      record {
        bytewise = Bytes-write (write_edge L) h.edges free (λ i. Bytes-write_edge L numbered.labels (get_or h.edges i free) (legal.host.edges i));
        fits = rw l k.edges.fits;
      }

  journal-left : Buffer left.journal
  journal-left =
      let js : List (Change (Slot Node) (Slot Edge)) = out.state.ledger.journal in
      record {
        bytewise = Bytes-padded (length x.journal) (concat (map (write_record L) (reverse js))) (Bytes-records L numbered.labels (reverse js) (Every-reverse (LegalChange L) js legal.records));
        fits = rw (length-padded (length x.journal) (concat (map (write_record L) (reverse js))) (written-fits L numbered x k a))
            k.journal.fits;
      }

  done-lendable : (report : List ℕ) → Buffer report → LendableUndo (lent_after left report)
  done-lendable report r =
      record {
        nodes = nodes-left;
        edges = edges-left;
        journal = journal-left;
        count = stated-fits out.state.steps (length out.state.ledger.journal);
        report = r;
      }

  end-lendable : (report : List ℕ) → Buffer report → (e : End) → (outcome_at L x e out.state).answer ≡ 0
      → LendableUndo (lent_after (outcome_at L x e out.state) report)
  end-lendable report r Done z = done-lendable report r
  end-lendable report r Failed z = absurd (omega arith)
  end-lendable report r Broke z = absurd (omega arith)
  end-lendable report r (Stopped w) z = absurd (omega (arith, (stop-answer w).1))

pub left-lendable : (L : Layout) → Numbered L → (x : Lent) → Lendable x → ((ours L).run x).answer ≡ 0
    → (report : List ℕ) → Buffer report → LendableUndo (lent_after ((ours L).run x) report)
left-lendable L numbered x k z report r =
    let e = run_settled L x (omega arith) in
    let a = good L x e in
    let l = ours-outcome L x a.tree e a.form in
    subst (λ (o : Outcome). LendableUndo (lent_after o report)) (sym l) (end-lendable L numbered x k a report r (end L x a.tree).end (ap (λ (o : Outcome). o.answer) (sym l) ∙ z))
