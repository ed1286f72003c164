-- Every command keeps the host and the journal legal. Rests on Commands and Legality.
use Rattle.std.specs.Prelude.{ℕ, ◌^◌, ◌≤◌, ◌≡◌, refl, List}
use Rattle.std.proofs.Math.Option.{some}
use Rattle.meaning.specs.Basics.{both, all, every, clauses, concat}
use Rattle.meaning.specs.Image.{Rule}
use Rattle.meaning.specs.Procedures.{Command}
use Rattle.meaning.specs.References.{variables_exist, ends_exist, test_nodes_exist, interface_fits, left_plain, left_simple, operands_int, variables_on_left, any_placed, rule_holds}
use Rattle.meaning.specs.Matching.{Match}
use Rattle.meaning.specs.Commands.{State, Chosen, rule_at, first_rule, exec}
use Rattle.meaning.specs.Laws.Every.{Every, Every-at}
use Rattle.laws.specs.FirstMatch.{found-match}
use Rattle.laws.specs.Commands.{first_rule-some, Kept, call-either, exec_kept}
use Rattle.laws.specs.Values.{LegalRule}
use Rattle.laws.specs.Legality.{LegalLedger, apply-legal}
use Rattle.laws.specs.References.{Sound}
use Rattle.meaning.specs.declared.Layout.{Layout}

-- each rule of the list is legal; so is the rule that a number outside the list stands for
abbrev pub LegalRules : List Rule → Type 0
LegalRules rules = Every LegalRule rules

pub legal-rule : (rules : List Rule) → LegalRules rules → (i : ℕ) → LegalRule (rule_at rules i)
unfolding rule_holds clauses variables_exist ends_exist test_nodes_exist interface_fits left_plain left_simple operands_int variables_on_left any_placed every all both concat
legal-rule rules h i = Every-at LegalRule _ (record { left = tt; nodes = tt; edges = tt; tests = tt; types = refl; holds = refl }) rules h i

-- and sound
pub legal-sound : (rules : List Rule) → LegalRules rules → (i : ℕ) → Sound (rule_at rules i)
legal-sound rules h i = let r = legal-rule rules h i in record { holds = r.holds; types = r.types }

module _ (L : Layout) (m n : ℕ) (few_nodes : m ≤ 256 ^ L.width) (few_edges : n ≤ 256 ^ L.width) (room : ℕ) (rules : List Rule)
    (legal : LegalRules rules)
  where
    -- the rule that is chosen is legal, and its slots are a match
    chosen : (s : State) (l : List ℕ) (c : Chosen) → first_rule rules s.ledger.host l ≡ some c
        → LegalRule c.rule × Match s.ledger.host c.rule c.slots
    chosen s l c e =
        let f = first_rule-some rules s.ledger.host l c e in
        let k : LegalRule c.rule = rw f.rule (legal-rule rules legal _) in
        (k, found-match s.ledger.host c.rule k.holds k.types c.slots f.match)

    pub legal-kept : Kept L.atoms room rules (λ s t. LegalLedger L m n s.ledger → LegalLedger L m n t.ledger)
    legal-kept =
        record {
          same = λ s h. h;
          trans = λ s t u f g h. g (f h);
          enters = λ s f e h. h;
          undoes = λ s t f h. h;
          calls = λ l s h. call-either L.atoms room rules _ s (λ t. LegalLedger L m n t.ledger) h (λ c g e a.
              let t = chosen s l c e in
              apply-legal L m n few_nodes few_edges room c.rule t.0 c.slots s.ledger h t.1 g a);
        }

    -- every command keeps the ledger legal
    pub exec-legal : (c : Command) (s : State) → LegalLedger L m n s.ledger
        → LegalLedger L m n (exec L.atoms room rules c s).state.ledger
    exec-legal c s h = exec_kept L.atoms room rules _ legal-kept c s h
