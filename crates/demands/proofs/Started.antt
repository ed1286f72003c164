-- What is known of a run of ours that starts: its rules are legal, what it ends at is legal and its records fit the journal,
-- it ends as the rules of inference say, and leaves what that end says. Rests on Ours and Laws/Inference and on laws' Undoing and Calls.
use Rattle.std.specs.Prelude.{ℕ, ◌/◌, ◌≤◌, ◌≡◌, refl, List, map, reverse, length}
use Rattle.std.proofs.Common.{◌∙◌, ap, arith, div-mul-le_self, mul-le-mul_right}
use Rattle.meaning.specs.Basics.{concat}
use Rattle.meaning.specs.Layout.{node_length, edge_length, record_length, write_record}
use Rattle.meaning.specs.Commands.{State, Out, rule_at}
use Rattle.meaning.specs.Calls.{Lent}
use Rattle.demands.specs.Demands.{Outcome, Lendable, reporting, start, outcome_at, Means, Entered}
use Rattle.demands.specs.Ours.{ours, Good}
use Rattle.demands.proofs.Ours.{ours-outcome, good-starts}
use Rattle.laws.specs.Records.{length-written}
use Rattle.laws.specs.Commands.{exec-room}
use Rattle.laws.specs.Legality.{LegalLedger}
use Rattle.laws.specs.LegalCommands.{LegalRules, legal-sound}
use Rattle.laws.specs.Calls.{accepted-legal, accepted-stays}
use Rattle.laws.specs.Undoing.{Numbered, out-legal}
use Rattle.laws.specs.References.{Sound}
use Rattle.demands.proofs.Laws.Inference.{exec_executes}
use Rattle.meaning.specs.declared.Layout.{Layout}
use Rattle.meaning.specs.declared.End.{End}
use Rattle.meaning.specs.declared.End.TheVariants.{Done, Failed, Broke, Stopped}
use Rattle.demands.specs.Started as Defs

-- a report states steps and records
stated : (L : Layout) (x : Lent) (e : End) (t : State) → (n : ℕ) × ((outcome_at L x e t).report ≡ reporting t.steps n)
stated L x Done t = (length t.ledger.journal, refl)
stated L x Failed t = (0, refl)
stated L x Broke t = (0, refl)
stated L x (Stopped w) t = (0, refl)

module _ (L : Layout) (k : Numbered L) (x : Lent) (b : Lendable x) (a : Good L x) where
  rules-legal : LegalRules a.tree.rules
  rules-legal = accepted-legal L x b.image.bytewise a

  pub rules-sound : (i : ℕ) → Sound (rule_at a.tree.rules i)
  rules-sound = legal-sound a.tree.rules rules-legal

  abbrev last : Out
  last = Defs.last L k x b a

  pub last-legal : LegalLedger L (length x.nodes / node_length L) (length x.edges / edge_length L) last.state.ledger
  last-legal =
      out-legal L k x.nodes x.edges x.journal b.nodes.bytewise b.edges.bytewise a.nodes_fit a.edges_fit a.journal_fits a.layout
      a.tree rules-legal x.fuel

  -- as many records as the journal has room for, and so as many bytes
  last-count : length last.state.ledger.journal ≤ length x.journal / record_length L
  last-count =
      exec-room L.atoms (length x.journal / record_length L) a.tree.rules a.tree.main (start L x) (omega arith)

  abbrev written : List ℕ
  written = concat (map (write_record L) (reverse last.state.ledger.journal))

  pub written-fits : length written ≤ length x.journal
  written-fits =
      let m = mul-le-mul_right (record_length L) last-count in
      let n = length-written L k.narrow last.state.ledger.journal last-legal.records in
      omega (arith, div-mul-le_self (length x.journal) (record_length L))

  -- the program's meaning
  pub last-means : Means L x a.tree last.end last.state
  last-means =
      exec_executes L.atoms (length x.journal / record_length L) a.tree.rules rules-sound a.tree.main (start L x)
      (accepted-stays L x a)

  -- what it leaves, and what its report states
  pub last-left : (ours L).run x ≡ outcome_at L x last.end last.state
  last-left = ours-outcome L x a.tree (good-starts L x a) a.form

  pub last-stated : (n : ℕ) × (((ours L).run x).report ≡ reporting last.state.steps n)
  last-stated = let r = stated L x last.end last.state in (r.0, ap (λ (o : Outcome). o.report) last-left ∙ r.1)

  pub last-entered : Entered L x last.state.steps
  last-entered =
      record { tree = a.tree; image = a.form; end = last.end; state = last.state; means = last-means; steps = refl }
