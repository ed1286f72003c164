-- The theorem about applying rules: what the interpreter does to a host is, on the host's graph, the published rule application,
-- and where it finds no match there is no published application. Ours may have a match and no result, where a sum leaves 32 bits
-- or there is no room; the published application has one there. Rests on Application/Construction and OneResult.
pub mod Conditions
pub mod Matching
pub mod Tables
pub mod Values
use Rattle.std.specs.Prelude.{ℕ, List, map}
use Rattle.meaning.specs.Image.{Rule}
use Rattle.meaning.specs.Commands.{rule_at}
use Rattle.laws.specs.LegalCommands.{LegalRules}

-- Rule sets.

module _ (rules : List Rule) (legal_rules : LegalRules rules) where
  -- the rules that the numbers of a rule set name
  abbrev pub called : List ℕ → List Rule
  called l = map (rule_at rules) l
